use Rattle.std.proofs.Common.{◌<◌, ℕ, length, ap, ◌∙◌, arith, set}
use Rattle.std.proofs.lemmas.List.{get_or_default}
use Rattle.std.proofs.lemmas.List.Edits.{map_over_more}
use Rattle.rdlpp_table.specs.Index.{closed}
use Rattle.rdlpp_table.proofs.index.close_up.Goals as goal

pub loop-place-preserved : goal.loop-place-preserved
loop-place-preserved c =
    let h : c.loop-place.place-index < length c.loop-place.places = omega arith in
    let g : c.loop-place.place-index < length c.args.places.now = omega arith in
    ap (λ (n : ℕ). set c.loop-place.places c.loop-place.place-index n) c.closed.ensures
    ∙ map_over_more (closed c.args.taken) c.args.places.now c.loop-place.places c.loop-place.place-index _ g c.loop-place.invariant (get_or_default c.loop-place.places c.loop-place.place-index 0 _ h)
