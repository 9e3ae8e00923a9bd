use Rattle.std.proofs.Common.{◌<◌, inl, length, refl, subst, sym, ◌∙◌, arith}
use Rattle.rdlpp_state.proofs.EngineSteps.{passes_more, passes_on}
use Rattle.rdlpp_state.proofs.UsageSteps.{some_open}
use Rattle.rdlpp_expand.proofs.TextFacts.{other-leaves}
use Rattle.rdlpp_expand.proofs.engine.Engine.walk_texts.Goals as goal

pub loop-self-init : goal.loop-self-init
loop-self-init g c = (omega arith, inl refl, c.requires)

pub step_text-requires : goal.step_text-requires
step_text-requires g c = c.loop-self.invariant.2

pub returns-then-silent-eq-FURTHER_STEPS-clause-uncut_step : goal.returns-then-silent-eq-FURTHER_STEPS-clause-uncut_step
returns-then-silent-eq-FURTHER_STEPS-clause-uncut_step g c = λ bounded.
    passes_on g.S.Sources c.loop-self.silent 0 255 _ _ _ _ (omega (arith, c.loop-self.invariant.0)) c.loop-self.invariant.1 (c.in-Silent.ensures.uncut_step bounded)

pub returns-in_default : goal.returns-in_default
returns-in_default g c = record {
  place = c.step_text.ensures.place;
  uncut_step = λ bounded. passes_on g.S.Sources c.loop-self.silent 0 255 _ _ _ _ (omega (arith, c.loop-self.invariant.0)) c.loop-self.invariant.1 (c.step_text.ensures.uncut_step bounded);
  leaves = other-leaves _ _ c.in_default.not-Silent c.step_text.ensures.stays;
}

pub loop-self-preserved : goal.loop-self-preserved
loop-self-preserved g c =
    let some = some_open _ (sym c.is_empty.ensures ∙ c.if-is_empty.false) in (
      omega (arith, c.loop-self.invariant.0),
      passes_more g.S.Sources c.loop-self.silent 0 _ _ _ _ (omega arith) c.loop-self.invariant.1 (c.in-Silent.ensures.uncut_step c.facts.ensures.bounded),
      (c.in-Silent.ensures.stays, subst (λ e. 0 < length e.expansion.opens) c.self.view_is some),
    )
