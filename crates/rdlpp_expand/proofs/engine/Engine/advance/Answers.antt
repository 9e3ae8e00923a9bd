use Rattle.std.proofs.Common.{[], refl, arith}
use Rattle.rdlpp_state.proofs.EngineSteps.{follows, wider}
use Rattle.rdlpp_state.proofs.FrontSteps.{opened_phase}
use Rattle.rdlpp_state.specs.Silences.{most_silent}
use Rattle.rdlpp_expand.proofs.TextFacts.{allowed, open-lent, silent-steps}
use Rattle.rdlpp_expand.proofs.engine.Engine.advance.Goals as goal

pub clip_to_quota-requires-clause-open : goal.clip_to_quota-requires-clause-open
clip_to_quota-requires-clause-open g c lent e = open-lent g.S.Sources _ _ _ _ lent c.in-Some.ensures.uncut_step e

pub returns-in-Some-clause-steps : goal.returns-in-Some-clause-steps
returns-in-Some-clause-steps g c = c.clip_to_quota.ensures.steps _ (wider g.S.Sources _ most_silent _ _ _ (allowed _ _ c.requires.left) c.in-Some.ensures.uncut_step)

pub returns-in-None-clause-steps : goal.returns-in-None-clause-steps
returns-in-None-clause-steps g c = silent-steps g.S.Sources _ _ (wider g.S.Sources _ most_silent _ _ _ (allowed _ _ c.requires.left) c.in-None.ensures.uncut_step)

pub returns-in-None-clause-place : goal.returns-in-None-clause-place
returns-in-None-clause-place g c =
    (c.facts.ensures.sound.open_ (opened_phase _ (follows _ (c.in-None.ensures.uncut_step.lends [] refl).1)), omega arith)
