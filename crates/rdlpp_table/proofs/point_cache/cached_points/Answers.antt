use Rattle.std.proofs.Common.{arith, inl, inr}
use Rattle.std.proofs.lemmas.Grind.{common_steps}
use Rattle.rdlpp_table.proofs.FirstPoints.{rest_unknown, points_more, points_whole}
use Rattle.rdlpp_table.proofs.FormalOffsets.{shapes_told}
use Rattle.rdlpp_table.proofs.point_cache.cached_points.Goals as goal

pub loop-count-preserved : goal.loop-count-preserved
loop-count-preserved c = grind (arith, common_steps, rest_unknown, points_more)

pub returns-else-from-lt65535 : goal.returns-else-from-lt65535
returns-else-from-lt65535 c = points_whole _ _ c.loop-count.all c.loop-count.count _ c.loop-count.invariant.1.0 (inr (omega arith)) c.loop-count.invariant.1.1.1.0 c.loop-count.invariant.1.1.1.1

pub returns-after-loop-count : goal.returns-after-loop-count
returns-after-loop-count c = points_whole _ _ c.loop-count.all c.loop-count.count _ c.loop-count.invariant.1.0 (inl (omega arith)) c.loop-count.invariant.1.1.1.0 c.loop-count.invariant.1.1.1.1

pub kept_from-next-requires-clause-told : goal.kept_from-next-requires-clause-told
kept_from-next-requires-clause-told c = grind (arith, shapes_told)
