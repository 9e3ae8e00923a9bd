use Rattle.std.proofs.Common.{inl, refl, arith}
use Rattle.rdlpp_state.proofs.EngineSteps.{passes_more, passes_on, passes_started}
use Rattle.rdlpp_expand.proofs.TextFacts.{one_further, one_more, spent_more, still_one_more}
use Rattle.rdlpp_expand.proofs.engine.Engine.walk.Goals as goal

pub loop-place-init : goal.loop-place-init
loop-place-init g c = (omega arith, inl refl)

pub step-requires-clause-started : goal.step-requires-clause-started
step-requires-clause-started g c = passes_started g.S.Sources _ _ _ c.requires c.loop-place.invariant.1

pub returns-in-Some-clause-uncut_step : goal.returns-in-Some-clause-uncut_step
returns-in-Some-clause-uncut_step g c =
    rw c.saturating_sub.ensures (passes_on g.S.Sources _ _ _ _ _ _ _ (still_one_more _ _ _ _ (one_further _)) c.loop-place.invariant.1 c.in-Some.ensures.uncut_step)

pub returns-then-left-cost-clause-uncut_step : goal.returns-then-left-cost-clause-uncut_step
returns-then-left-cost-clause-uncut_step g c =
    rw c.cost-cost.ensures.same (passes_on g.S.Sources _ _ _ _ _ _ _ (one_more _ _ (one_further _)) c.loop-place.invariant.1 c.in_default.ensures.uncut_step)

pub loop-place-preserved : goal.loop-place-preserved
loop-place-preserved g c =
    let more = c.if-left-cost.false in (
      omega (arith, c.loop-place.invariant.0),
      rw c.cost-cost.ensures.same (passes_more g.S.Sources _ _ _ _ _ _ (spent_more _ _ _ _ c.loop-place.invariant.0 c.cost-cost.ensures.parts (omega (arith, more))) c.loop-place.invariant.1 c.in_default.ensures.uncut_step),
    )
