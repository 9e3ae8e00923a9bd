use Rattle.std.proofs.Common.{List, ℕ, ◌-◌, ◌≡◌, ◌≤◌, drop}
use Rattle.rdlpp_table.specs.PointCache.{cached_points, points_after}
use Rattle.rdlpp_define.specs.Macros.{Formal}
use Rattle.rdlpp_table.proofs.point_cache.candidate_at.Given as goal

abbrev pub invariant-loop-kept : goal.invariant-loop-kept
invariant-loop-kept l =
    (l.start ≤ l.from)
    × ((formals : List Formal) (text : List ℕ) → l.points ≡ cached_points formals text → drop l.kept-index l.points.all ≡ points_after (10 - l.kept-index) formals text l.start)
