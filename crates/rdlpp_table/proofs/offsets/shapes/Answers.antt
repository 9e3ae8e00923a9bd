use Rattle.std.proofs.Common.{◌-◌, ◌+◌, ◌∙◌, List, ℕ, false, drop, replicate, set, true, ap, sym, arith, refl, flat_map, length-set}
use Rattle.std.proofs.lemmas.List.{take_rest}
use Rattle.rdlpp_table.specs.Shapes.{shapes_of}
use Rattle.rdlpp_define.specs.Macros.{formal_bytes}
use Rattle.rdlpp_table.specs.Store.{formal_read, formals_read}
use Rattle.rdlpp_table.proofs.FormalOffsets.{bytes_from, count_offsets, offset_inside, told_at, told_more, told_none, told_start}
use Rattle.rdlpp_table.proofs.offsets.shapes.Goals as goal

pub loop-place-init : goal.loop-place-init
loop-place-init c = (refl, told_start _ _ _ (replicate 256 false) c.requires)

pub offset_at-requires : goal.offset_at-requires
offset_at-requires c = omega (arith, count_offsets _ _ _ c.requires (sym c.has_offsets.ensures ∙ c.if-has_offsets.true))

pub slice_bounds-formal_name-count : goal.slice_bounds-formal_name-count
slice_bounds-formal_name-count c = omega (arith, c.offset_at.ensures, offset_inside _ _ _ c.loop-place.place c.requires (sym c.has_offsets.ensures ∙ c.if-has_offsets.true) (omega arith))

pub slice_bounds-formal_name-start : goal.slice_bounds-formal_name-start
slice_bounds-formal_name-start c = grind (arith, offset_inside)

pub loop-place-preserved : goal.loop-place-preserved
loop-place-preserved c =
    let count = c.args.formals.now.count in
    let i = c.loop-place.place in
    let list = c.args.formals.now.list.now in
    let told = c.loop-place.told in
    let following = flat_map formal_bytes (drop (i + 1) (formals_read count list)) in
    let here = bytes_from _ _ _ _ i c.requires (sym c.has_offsets.ensures ∙ c.if-has_offsets.true) (omega arith) (take_rest list c.offset_at.result ∙ ap (λ (n : ℕ). drop n list) c.offset_at.ensures) in (
      length-set told c.shape.result true ∙ c.loop-place.invariant.0,
      c.loop-place.invariant.1
          ∙ told_at count i list c.args.formals.now.formal_offsets.now _ told c.requires (omega arith) (c.formal_name-name.ensures.name ∙ ap (λ (l : List ℕ). (formal_read l).formal.name) here)
          ∙ ap (λ (k : ℕ). shapes_of (formals_read (count - (i + 1)) following) (set told k true)) (sym c.shape.ensures.value),
    )

pub loop-preserved : goal.loop-preserved
loop-preserved c = grind (arith, length-set, told_more)

pub returns-after-loop-place : goal.returns-after-loop-place
returns-after-loop-place c = sym (c.loop-place.invariant.1 ∙ told_none _ c.args.formals.now.count c.loop-place.place c.loop-place.told (omega arith))

pub returns-after-loop : goal.returns-after-loop
returns-after-loop c = sym (c.loop.invariant.1 ∙ told_none c.loop.rest.now c.args.formals.now.count c.loop.counter c.loop.told (omega arith))
