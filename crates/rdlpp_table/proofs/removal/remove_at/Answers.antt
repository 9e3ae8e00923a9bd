use Rattle.std.proofs.Common.{◌<◌, ◌∙◌, refl, ℕ, List, ap, drop, length, arith}
use Rattle.rdlpp_table.specs.IndexView.{IndexView}
use Rattle.rdlpp_table.specs.Store.{macros_in}
use Rattle.rdlpp_define.proofs.Sizes.{count_items}
use Rattle.rdlpp_table.proofs.Sizes.{few_offsets, length_macros_in, live_read}
use Rattle.rdlpp_table.proofs.RoundTrip.{stored_length}
use Rattle.rdlpp_table.proofs.Taken.{taken, taken_offsets, offsets_within}
use Rattle.rdlpp_table.proofs.removal.remove_at.Goals as goal

pub overflow_sub-first : goal.overflow_sub-first
overflow_sub-first c =
    let h : c.args.place < length (macros_in c.args.bytes.now.items (drop c.args.front.now.entries c.args.entries.now.items)) = omega (arith, c.requires.place, length_macros_in c.args.bytes.now.items (drop c.args.front.now.entries c.args.entries.now.items)) in
    let q = live_read c.live.result.now (drop c.args.front.now.entries c.args.entries.now.items) c.args.place (c.live.ensures ∙ ap (drop c.args.front.now.entries) c.deref.ensures.value) c.requires.place in
    let t = taken _ _ _ _ _ (macros_in c.args.bytes.now.items (drop c.args.front.now.entries c.args.entries.now.items)) _ _ _ c.requires.stored.entries_are h q refl refl refl in
    omega (arith, t.offsets_from)

pub cut_offsets-requires : goal.cut_offsets-requires
cut_offsets-requires c =
    let h : c.args.place < length (macros_in c.args.bytes.now.items (drop c.args.front.now.entries c.args.entries.now.items)) = omega (arith, c.requires.place, length_macros_in c.args.bytes.now.items (drop c.args.front.now.entries c.args.entries.now.items)) in
    let q = live_read c.live.result.now (drop c.args.front.now.entries c.args.entries.now.items) c.args.place (c.live.ensures ∙ ap (drop c.args.front.now.entries) c.deref.ensures.value) c.requires.place in
    let t = taken _ _ _ _ _ (macros_in c.args.bytes.now.items (drop c.args.front.now.entries c.args.entries.now.items)) _ _ _ c.requires.stored.entries_are h q refl refl c.offsets_len.ensures in
    (omega arith, omega (arith, offsets_within _ _ _ _ _ _ _ t h, ap (length {A = ℕ}) c.requires.marked))

pub returns-clause-index : goal.returns-clause-index
returns-clause-index c =
    let h : c.args.place < length (macros_in c.args.bytes.now.items (drop c.args.front.now.entries c.args.entries.now.items)) = omega (arith, c.requires.place, length_macros_in c.args.bytes.now.items (drop c.args.front.now.entries c.args.entries.now.items)) in
    let q = live_read c.live.result.now (drop c.args.front.now.entries c.args.entries.now.items) c.args.place (c.live.ensures ∙ ap (drop c.args.front.now.entries) c.deref.ensures.value) c.requires.place in
    let t = taken _ _ _ _ _ (macros_in c.args.bytes.now.items (drop c.args.front.now.entries c.args.entries.now.items)) _ _ _ c.requires.stored.entries_are h q refl refl c.offsets_len.ensures in
    c.cut_offsets.ensures ∙ ap (λ (l : List ℕ). let v : IndexView = record c.args.index.now { formal_offsets = l } in v) (taken_offsets _ _ _ _ _ _ _ _ c.requires.marked t h)

pub overflow_cast-first : goal.overflow_cast-first
overflow_cast-first c =
    let h : c.args.place < length (macros_in c.args.bytes.now.items (drop c.args.front.now.entries c.args.entries.now.items)) = omega (arith, c.requires.place, length_macros_in c.args.bytes.now.items (drop c.args.front.now.entries c.args.entries.now.items)) in
    let q = live_read c.live.result.now (drop c.args.front.now.entries c.args.entries.now.items) c.args.place (c.live.ensures ∙ ap (drop c.args.front.now.entries) c.deref.ensures.value) c.requires.place in
    let t = taken _ _ _ _ _ (macros_in c.args.bytes.now.items (drop c.args.front.now.entries c.args.entries.now.items)) _ _ _ c.requires.stored.entries_are h q refl refl refl in
    omega (arith, offsets_within _ _ _ _ _ _ _ t h, few_offsets (macros_in c.args.bytes.now.items (drop c.args.front.now.entries c.args.entries.now.items)), stored_length _ _ _ c.requires.stored, c.requires.stored.few, count_items c.args.bytes.now, c.args.bytes.now.ok.0, c.requires.narrow)

pub overflow_add-first : goal.overflow_add-first
overflow_add-first c =
    let h : c.args.place < length (macros_in c.args.bytes.now.items (drop c.args.front.now.entries c.args.entries.now.items)) = omega (arith, c.requires.place, length_macros_in c.args.bytes.now.items (drop c.args.front.now.entries c.args.entries.now.items)) in
    let q = live_read c.live.result.now (drop c.args.front.now.entries c.args.entries.now.items) c.args.place (c.live.ensures ∙ ap (drop c.args.front.now.entries) c.deref.ensures.value) c.requires.place in
    let t = taken _ _ _ _ _ (macros_in c.args.bytes.now.items (drop c.args.front.now.entries c.args.entries.now.items)) _ _ _ c.requires.stored.entries_are h q refl refl c.offsets_len.ensures in
    omega (arith, offsets_within _ _ _ _ _ _ _ t h, few_offsets (macros_in c.args.bytes.now.items (drop c.args.front.now.entries c.args.entries.now.items)), stored_length _ _ _ c.requires.stored, c.requires.stored.few, count_items c.args.bytes.now, c.args.bytes.now.ok.0, c.requires.narrow)
