use Rattle.std.proofs.Common.{ℕ, ◌+◌, ◌-◌, ◌++◌, ◌<◌, ◌≡◌, ◌≤◌, drop, length, replicate, take}
use Rattle.rdlpp_table.specs.PointCache.{endless, points_after}
use Rattle.rdlpp_table.specs.Store.{formals_read}
use Rattle.rdlpp_table.proofs.point_cache.cached_points.Given as goal

abbrev pub invariant-loop-count : goal.invariant-loop-count
invariant-loop-count l =
    (length l.all ≡ 10)
    × ((l.count ≤ 10)
    × ((l.from < 65535 → l.from ≤ length l.body)
    × ((drop l.count l.all ≡ replicate (10 - l.count) (endless 1 0))
    × ((n : ℕ) → points_after (l.count + n) (formals_read l.formals.count l.formals.list.now) l.body 0 ≡ take l.count l.all ++ points_after n (formals_read l.formals.count l.formals.list.now) l.body l.from))))

abbrev pub decreases-loop-count : goal.decreases-loop-count
decreases-loop-count l = 10 - l.count
