use Rattle.std.proofs.Common.{◌<◌, ◌+◌, ◌∙◌, length, drop, sym, subst, List, arith}
use Rattle.rdlpp_table.specs.declared.entry.Entry.{Entry}
use Rattle.rdlpp_table.specs.Entries.{moved_down, AreAfter}
use Rattle.rdlpp_table.specs.Store.{macros_in}
use Rattle.rdlpp_table.proofs.Orders.{live_after, live_taken}
use Rattle.rdlpp_define.proofs.Sizes.{count_items}
use Rattle.rdlpp_table.proofs.Sizes.{length_macros_in, live_count}
use Rattle.rdlpp_table.proofs.Taken.{bytes_fit, covered_stored, taken_after, taken_live, taken_low, taken_range, taken_stored}
use Rattle.rdlpp_table.proofs.removal.take_stored.Goals as goal

pub overflow_cast-start : goal.overflow_cast-start
overflow_cast-start c = grind (arith, taken_range, bytes_fit)

pub overflow_sub-before : goal.overflow_sub-before
overflow_sub-before c = grind (arith, taken_range)

pub overflow_add-before : goal.overflow_add-before
overflow_add-before c = grind (arith, taken_range, bytes_fit, count_items)

pub overflow_add-following : goal.overflow_add-following
overflow_add-following c = grind (arith, taken_range, bytes_fit)

pub overflow_sub-following : goal.overflow_sub-following
overflow_sub-following c = grind (arith, taken_range, count_items)

pub cover-requires : goal.cover-requires
cover-requires c = grind (arith, taken_range, count_items)

pub cover_entry-requires-clause-place : goal.cover_entry-requires-clause-place
cover_entry-requires-clause-place c = grind (arith, live_count, count_items)

pub cover_entry-requires-clause-low : goal.cover_entry-requires-clause-low
cover_entry-requires-clause-low c = grind (arith, count_items, taken_low)

pub overflow_add-front : goal.overflow_add-front
overflow_add-front c = grind (arith, taken_range, bytes_fit)

pub overflow_add-front-then-has_room-2 : goal.overflow_add-front-then-has_room-2
overflow_add-front-then-has_room-2 c = grind (arith, taken_range, bytes_fit)

pub overflow_add-start : goal.overflow_add-start
overflow_add-start c = grind (arith, taken_range, bytes_fit)

pub cut-requires : goal.cut-requires
cut-requires c = grind (arith, taken_range, count_items)

pub take_entry-requires-clause-following : goal.take_entry-requires-clause-following
take_entry-requires-clause-following c =
    let h : c.args.front.now.entries + c.args.place < length c.args.entries.now.items = omega (arith, c.requires.place, live_count c.args.front.now.entries c.args.entries.now, count_items c.args.entries.now) in
    let t = taken_live c.args.bytes.now.items c.args.entries.now.items _ _ _ _ _ c.requires.stored c.requires.place c.index.ensures c.size_of_entry-size.ensures c.offsets_len-formal_offsets.ensures in
    let P : List Entry → Type 0 = λ l. AreAfter c.size_of_entry-size.result c.offsets_len-formal_offsets.result l in
    subst P (sym (live_after c.args.entries.now.items c.args.front.now.entries c.args.place h)) (taken_after _ _ _ _ _ _ _ t)

pub returns-then-has_room-clause-stored : goal.returns-then-has_room-clause-stored
returns-then-has_room-clause-stored c =
    let m : c.args.place < length (macros_in c.args.bytes.now.items (drop c.args.front.now.entries c.args.entries.now.items)) = omega (arith, c.requires.place, length_macros_in c.args.bytes.now.items (drop c.args.front.now.entries c.args.entries.now.items)) in
    let t = taken_live c.args.bytes.now.items c.args.entries.now.items _ _ _ _ _ c.requires.stored c.requires.place c.index.ensures c.size_of_entry-size.ensures c.offsets_len-formal_offsets.ensures in
    covered_stored _ _ _ _ _ _ _ _ _ _ c.requires.stored t m c.cover.ensures.items (sym (count_items c.cover.new.list) ∙ (c.cover.ensures.len ∙ count_items c.args.bytes.now)) c.cover_entry.ensures.items

pub returns-else-before-following-clause-stored : goal.returns-else-before-following-clause-stored
returns-else-before-following-clause-stored c =
    let h : c.args.front.now.entries + c.args.place < length c.args.entries.now.items = omega (arith, c.requires.place, live_count c.args.front.now.entries c.args.entries.now, count_items c.args.entries.now) in
    let m : c.args.place < length (macros_in c.args.bytes.now.items (drop c.args.front.now.entries c.args.entries.now.items)) = omega (arith, c.requires.place, length_macros_in c.args.bytes.now.items (drop c.args.front.now.entries c.args.entries.now.items)) in
    let t = taken_live c.args.bytes.now.items c.args.entries.now.items _ _ _ _ _ c.requires.stored c.requires.place c.index.ensures c.size_of_entry-size.ensures c.offsets_len-formal_offsets.ensures in
    taken_stored _ _ _ _ _ _ _ _ _ _ c.requires.stored t m c.cut.ensures.items (live_taken (moved_down c.size_of_entry-size.result c.offsets_len-formal_offsets.result) _ _ _ _ h c.take_entry.ensures.items)
