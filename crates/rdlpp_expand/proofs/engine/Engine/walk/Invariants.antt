use Rattle.std.proofs.Common.{◌≤◌, ◌-◌}
use Rattle.rdlpp_state.proofs.EngineSteps.{Passes}
use Rattle.rdlpp_expand.proofs.engine.Engine.walk.Given as goal

abbrev pub invariant-loop-place : goal.invariant-loop-place
invariant-loop-place g l = (l.left ≤ l.initial.left) × Passes g.S.Sources (l.initial.left - l.left) l.initial.self l.self

abbrev pub decreases-loop-place : goal.decreases-loop-place
decreases-loop-place g l = l.left
