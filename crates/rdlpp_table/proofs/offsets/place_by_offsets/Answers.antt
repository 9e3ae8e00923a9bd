use Rattle.std.proofs.Common.{◌∙◌, List, ℕ, bytes_eq, drop, ap, sym, arith, refl, flat_map}
use Rattle.std.proofs.lemmas.List.{take_rest}
use Rattle.rdlpp_define.specs.Macros.{formal_bytes}
use Rattle.rdlpp_table.specs.Store.{formal_read, formals_read}
use Rattle.rdlpp_table.proofs.FormalOffsets.{bytes_from, count_offsets, offset_inside, passed_at, start_listed, reached_found, reached_none}
use Rattle.rdlpp_table.proofs.offsets.place_by_offsets.Goals as goal

pub loop-place-init : goal.loop-place-init
loop-place-init c = start_listed _ _ _ _ c.requires.listed

pub offset_at-requires : goal.offset_at-requires
offset_at-requires c = omega (arith, count_offsets _ _ _ c.requires.listed c.requires.marked)

pub slice_bounds-is_named-count : goal.slice_bounds-is_named-count
slice_bounds-is_named-count c = omega (arith, c.offset_at.ensures, offset_inside _ _ _ c.loop-place.place c.requires.listed c.requires.marked (omega arith))

pub slice_bounds-is_named-start : goal.slice_bounds-is_named-start
slice_bounds-is_named-start c = grind (arith, offset_inside)

pub returns-then-is_named : goal.returns-then-is_named
returns-then-is_named c =
    let rest : List ℕ = flat_map formal_bytes (drop c.loop-place.place (formals_read c.args.count c.args.list.now)) in
    let here = bytes_from _ _ _ _ c.loop-place.place c.requires.listed c.requires.marked (omega arith) (take_rest c.args.list.now c.offset_at.result ∙ ap (λ (n : ℕ). drop n c.args.list.now) c.offset_at.ensures) in
    reached_found _ _ rest _ c.args.count c.loop-place.place (omega arith) c.loop-place.invariant refl (ap (λ (l : List ℕ). bytes_eq (formal_read l).formal.name c.args.name.now) (sym here) ∙ (sym c.is_named.ensures ∙ c.if-is_named.true))

pub loop-place-preserved : goal.loop-place-preserved
loop-place-preserved c =
    let here = bytes_from _ _ _ _ c.loop-place.place c.requires.listed c.requires.marked (omega arith) (take_rest c.args.list.now c.offset_at.result ∙ ap (λ (n : ℕ). drop n c.args.list.now) c.offset_at.ensures) in
    passed_at _ _ _ _ c.loop-place.place c.requires.listed (omega arith) c.loop-place.invariant (ap (λ (l : List ℕ). bytes_eq (formal_read l).formal.name c.args.name.now) (sym here) ∙ (sym c.is_named.ensures ∙ c.if-is_named.false))

pub returns : goal.returns
returns c = reached_none _ _ _ c.args.count c.loop-place.place (omega arith) c.loop-place.invariant
