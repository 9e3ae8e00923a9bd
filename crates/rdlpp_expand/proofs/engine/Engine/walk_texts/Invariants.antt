use Rattle.std.proofs.Common.{◌≤◌, ◌-◌}
use Rattle.rdlpp_state.proofs.EngineSteps.{Passes}
use Rattle.rdlpp_expand.specs.Texts.{IsInTexts}
use Rattle.rdlpp_expand.proofs.engine.Engine.walk_texts.Given as goal

abbrev pub invariant-loop-self : goal.invariant-loop-self
invariant-loop-self g l = (l.silent ≤ 255) × Passes g.S.Sources l.silent l.initial.self l.self × IsInTexts l.self

abbrev pub decreases-loop-self : goal.decreases-loop-self
decreases-loop-self g l = 255 - l.silent
