use Rattle.std.proofs.Common.{sym, subst}
use Rattle.rdlpp_state.specs.Pieces.{step_answer}
use Rattle.rdlpp_state.specs.Steps.{UncutStepWithin}
use Rattle.rdlpp_expand.specs.Texts.{further_parts, place_of}
use Rattle.rdlpp_expand.proofs.engine.Engine.step.Goals as goal

pub returns-then-not-in_texts-clause-uncut_step : goal.returns-then-not-in_texts-clause-uncut_step
returns-then-not-in_texts-clause-uncut_step g c =
    subst (λ b. UncutStepWithin g.S.Sources (further_parts b) c.args.self.now c.step_outside.new.self (step_answer c.step_outside.new.self c.step_outside.result)) (sym c.if-not-in_texts.true) c.step_outside.ensures.uncut_step

pub returns-clause-uncut_step : goal.returns-clause-uncut_step
returns-clause-uncut_step g c =
    let new = c.step_text-step.new.self in
    let at = place_of c.step_text-step.result in
    subst (λ p. UncutStepWithin g.S.Sources (further_parts c.args.in_texts) c.args.self.now new (step_answer new p)) (sym c.place.ensures)
    (subst (λ b. UncutStepWithin g.S.Sources (further_parts b) c.args.self.now new (step_answer new at)) (sym c.if-not-in_texts.false) (c.step_text-step.ensures.uncut_step c.facts.ensures.bounded))
