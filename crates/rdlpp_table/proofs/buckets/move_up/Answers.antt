use Rattle.std.proofs.Common.{◌<◌, ◌+◌, length, arith}
use Rattle.std.proofs.lemmas.List.{get_or_default}
use Rattle.std.proofs.lemmas.List.Edits.{map_over_more}
use Rattle.rdlpp_table.proofs.buckets.move_up.Goals as goal

pub loop-start-preserved : goal.loop-start-preserved
loop-start-preserved c =
    let h : c.loop-start.start-index < length c.loop-start.starts = omega arith in
    let g : c.loop-start.start-index < length c.args.starts.now = omega arith in
    map_over_more (λ s. s + 1) c.args.starts.now c.loop-start.starts c.loop-start.start-index _ g c.loop-start.invariant (get_or_default c.loop-start.starts c.loop-start.start-index 0 _ h)
