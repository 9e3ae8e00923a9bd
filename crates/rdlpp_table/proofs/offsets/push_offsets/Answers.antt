use Rattle.std.proofs.Common.{◌≡◌, ◌∙◌, ◌++◌, List, ℕ, length, ap, sym, refl, arith, append-nil}
use Rattle.rdlpp_table.specs.Store.{formals_read}
use Rattle.rdlpp_define.specs.Macros.{Formal}
use Rattle.rdlpp_table.proofs.FormalOffsets.{marking_at, marking_count, marking_end, marking_more, marking_start, offsets_by, two_halves}
use Rattle.rdlpp_table.proofs.RoundTrip.{count_read}
use Rattle.rdlpp_define.proofs.Sizes.{count_items}
use Rattle.rdlpp_table.proofs.Sizes.{length_start_halves}
use Rattle.rdlpp_table.proofs.offsets.push_offsets.Goals as goal

pub returns-then-not-has_offsets-clause-items : goal.returns-then-not-has_offsets-clause-items
returns-then-not-has_offsets-clause-items c =
    sym (ap (λ (l : List ℕ). c.args.formal_offsets.now.items ++ l) (offsets_by _ c.args.count c.args.list.now c.requires.whole (sym c.if-not-has_offsets.true ∙ c.has_offsets.ensures)) ∙ append-nil c.args.formal_offsets.now.items)

pub loop-init : goal.loop-init
loop-init c = record { marking = marking_start _ _ _ c.requires.whole; capacity = refl }

pub overflow_sub-start : goal.overflow_sub-start
overflow_sub-start c = omega (arith, marking_at _ _ _ _ _ c.loop.counter c.requires.whole c.loop.invariant.marking)

pub push_reserved-requires : goal.push_reserved-requires
push_reserved-requires c =
    let fs : List Formal = formals_read c.args.count c.args.list.now in
    let n : length fs ≡ c.args.count = count_read c.args.count c.args.list.now in
    let formal_offsets = offsets_by _ c.args.count c.args.list.now c.requires.whole (sym c.if-not-has_offsets.false ∙ c.has_offsets.ensures) in
    let pushed = marking_count fs _ _ _ c.loop.counter (omega (arith, n)) c.loop.invariant.marking in
    omega (arith, n, ap length formal_offsets, length_start_halves fs, pushed, count_items c.loop.formal_offsets, count_items c.args.formal_offsets.now, c.loop.invariant.capacity, c.requires.room)

pub push_reserved-requires-in-loop : goal.push_reserved-requires-in-loop
push_reserved-requires-in-loop c =
    let fs : List Formal = formals_read c.args.count c.args.list.now in
    let n : length fs ≡ c.args.count = count_read c.args.count c.args.list.now in
    let formal_offsets = offsets_by _ c.args.count c.args.list.now c.requires.whole (sym c.if-not-has_offsets.false ∙ c.has_offsets.ensures) in
    let pushed = marking_count fs _ _ _ c.loop.counter (omega (arith, n)) c.loop.invariant.marking in
    omega (arith, n, ap length formal_offsets, length_start_halves fs, pushed, count_items c.loop.formal_offsets, count_items c.args.formal_offsets.now, c.loop.invariant.capacity, c.requires.room, ap (length {A = ℕ}) c.push_reserved.ensures.items, c.push_reserved.ensures.capacity)

pub loop-preserved : goal.loop-preserved
loop-preserved c = record {
  marking = marking_more _ c.args.list.now c.loop.rest.now _ _ _ _ c.loop.counter _ c.requires.whole c.requires.plain (omega (arith, count_read c.args.count c.args.list.now)) c.loop.invariant.marking refl (two_halves _ _ _ _ c.push_reserved.ensures.items c.push_reserved-in-loop.ensures.items) c.after_formal-rest.ensures;
  capacity = c.push_reserved-in-loop.ensures.capacity ∙ c.push_reserved.ensures.capacity ∙ c.loop.invariant.capacity;
}

pub returns-clause-items : goal.returns-clause-items
returns-clause-items c =
    let fs : List Formal = formals_read c.args.count c.args.list.now in
    let formal_offsets = offsets_by _ c.args.count c.args.list.now c.requires.whole (sym c.if-not-has_offsets.false ∙ c.has_offsets.ensures) in
    marking_end fs _ _ _ c.loop.counter (omega (arith, count_read c.args.count c.args.list.now)) c.loop.invariant.marking ∙ ap (λ (l : List ℕ). c.args.formal_offsets.now.items ++ l) (sym formal_offsets)
