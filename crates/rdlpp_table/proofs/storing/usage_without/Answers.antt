use Rattle.std.proofs.Common.{◌≡◌, ◌∙◌, ◌+◌, List, Some, ap, arith, drop, get_or, length, sym}
use Rattle.rdlpp_table.specs.declared.entry.Entry.{Entry}
use Rattle.rdlpp_define.specs.Table.{place_named}
use Rattle.rdlpp_table.specs.Store.{macros_in}
use Rattle.rdlpp_table.proofs.Indexed.{place_in_bucket}
use Rattle.rdlpp_table.proofs.Orders.{indexed_gap, indexed_place}
use Rattle.rdlpp_define.proofs.Sizes.{count_items}
use Rattle.rdlpp_table.proofs.Sizes.{inside_by_place, length_macros_in, live_count, no_entry}
use Rattle.rdlpp_table.proofs.RoundTrip.{usage_without_size, usage_without_count, usage_without_none}
use Rattle.rdlpp_table.proofs.storing.usage_without.Goals as goal

pub place-requires-clause-at : goal.place-requires-clause-at
place-requires-clause-at c = place_in_bucket _ _ _ _ _ _ c.requires.indexed.divided c.in-Ok.ensures c.requires.bucket c.requires.small_bucket

pub bounds-live-place : goal.bounds-live-place
bounds-live-place c =
    let at : place_named (macros_in c.args.bytes.now.items (drop c.args.front.now.entries c.args.entries.now.items)) c.args.name.now ≡ Some c.place.result = indexed_place _ _ _ _ c.requires.indexed.index c.in-Ok.ensures ∙ ap Some (sym c.place.ensures) in
    omega (arith, inside_by_place (macros_in c.args.bytes.now.items (drop c.args.front.now.entries c.args.entries.now.items)) _ _ at, length_macros_in c.args.bytes.now.items (drop c.args.front.now.entries c.args.entries.now.items), ap (length {A = Entry}) (c.live.ensures ∙ ap (drop c.args.front.now.entries) c.deref.ensures.value))

pub offset_bounds-live-place : goal.offset_bounds-live-place
offset_bounds-live-place c =
    let at : place_named (macros_in c.args.bytes.now.items (drop c.args.front.now.entries c.args.entries.now.items)) c.args.name.now ≡ Some c.place.result = indexed_place _ _ _ _ c.requires.indexed.index c.in-Ok.ensures ∙ ap Some (sym c.place.ensures) in
    omega (arith, c.requires.few, inside_by_place (macros_in c.args.bytes.now.items (drop c.args.front.now.entries c.args.entries.now.items)) _ _ at, length_macros_in c.args.bytes.now.items (drop c.args.front.now.entries c.args.entries.now.items))

pub overflow_sub-result : goal.overflow_sub-result
overflow_sub-result c =
    let at : place_named (macros_in c.args.bytes.now.items (drop c.args.front.now.entries c.args.entries.now.items)) c.args.name.now ≡ Some c.place.result = indexed_place _ _ _ _ c.requires.indexed.index c.in-Ok.ensures ∙ ap Some (sym c.place.ensures) in
    let read = ap (λ (l : List Entry). (get_or l c.place.result no_entry).name_len + (get_or l c.place.result no_entry).list_len + (get_or l c.place.result no_entry).body_len) (c.live.ensures ∙ ap (drop c.args.front.now.entries) c.deref.ensures.value) in
    omega (arith, usage_without_size _ _ _ _ _ no_entry c.requires.stored c.requires.distinct at, read, c.size_of_entry.ensures, c.len.ensures, count_items c.args.bytes.now)

pub overflow_sub-result-in-Ok : goal.overflow_sub-result-in-Ok
overflow_sub-result-in-Ok c =
    let at : place_named (macros_in c.args.bytes.now.items (drop c.args.front.now.entries c.args.entries.now.items)) c.args.name.now ≡ Some c.place.result = indexed_place _ _ _ _ c.requires.indexed.index c.in-Ok.ensures ∙ ap Some (sym c.place.ensures) in
    omega (arith, usage_without_count _ _ _ _ _ c.requires.stored c.requires.distinct at, c.len-2.ensures, live_count c.args.front.now.entries c.args.entries.now)

pub returns-in-Ok-clause-size : goal.returns-in-Ok-clause-size
returns-in-Ok-clause-size c =
    let at : place_named (macros_in c.args.bytes.now.items (drop c.args.front.now.entries c.args.entries.now.items)) c.args.name.now ≡ Some c.place.result = indexed_place _ _ _ _ c.requires.indexed.index c.in-Ok.ensures ∙ ap Some (sym c.place.ensures) in
    let read = ap (λ (l : List Entry). (get_or l c.place.result no_entry).name_len + (get_or l c.place.result no_entry).list_len + (get_or l c.place.result no_entry).body_len) (c.live.ensures ∙ ap (drop c.args.front.now.entries) c.deref.ensures.value) in
    omega (arith, usage_without_size _ _ _ _ _ no_entry c.requires.stored c.requires.distinct at, read, c.size_of_entry.ensures, c.len.ensures, count_items c.args.bytes.now)

pub returns-in-Ok-clause-count : goal.returns-in-Ok-clause-count
returns-in-Ok-clause-count c =
    let at : place_named (macros_in c.args.bytes.now.items (drop c.args.front.now.entries c.args.entries.now.items)) c.args.name.now ≡ Some c.place.result = indexed_place _ _ _ _ c.requires.indexed.index c.in-Ok.ensures ∙ ap Some (sym c.place.ensures) in
    omega (arith, usage_without_count _ _ _ _ _ c.requires.stored c.requires.distinct at, c.len-2.ensures, live_count c.args.front.now.entries c.args.entries.now)

pub returns-in-Err-clause-size : goal.returns-in-Err-clause-size
returns-in-Err-clause-size c =
    let none = usage_without_none _ _ _ _ c.requires.stored (indexed_gap _ _ _ _ c.requires.indexed.index c.in-Err.ensures) in
    omega (arith, none.0, c.len.ensures, count_items c.args.bytes.now)

pub returns-in-Err-clause-count : goal.returns-in-Err-clause-count
returns-in-Err-clause-count c =
    let none = usage_without_none _ _ _ _ c.requires.stored (indexed_gap _ _ _ _ c.requires.indexed.index c.in-Err.ensures) in
    omega (arith, none.1, c.len-2.ensures, live_count c.args.front.now.entries c.args.entries.now)
