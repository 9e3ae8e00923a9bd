use Rattle.std.proofs.Common.{refl, arith}
use Rattle.rdlpp_state.specs.Silences.{most_silent}
use Rattle.rdlpp_state.proofs.EngineSteps.{wider}
use Rattle.rdlpp_state.specs.declared.place.PieceLocation.TheVariants.{Text}
use Rattle.rdlpp_state.proofs.LentPieces.{cut_text, text_cut_placed}
use Rattle.rdlpp_expand.proofs.TextFacts.{open-lent, other-steps}
use Rattle.rdlpp_expand.proofs.engine.Engine.advance_text.Goals as goal

pub overflow_sub-place : goal.overflow_sub-place
overflow_sub-place g c = c.in-Lent.ensures.place.order

pub charge_quota-len-requires : goal.charge_quota-len-requires
charge_quota-len-requires g c = open-lent g.S.Sources 255 _ _ (Text c.in-Lent.place) _ (c.in-Lent.ensures.uncut_step c.facts.ensures.bounded) refl

pub returns-in-Lent-clause-place : goal.returns-in-Lent-clause-place
returns-in-Lent-clause-place g c = grind (arith, text_cut_placed)

pub returns-in-Lent-clause-steps : goal.returns-in-Lent-clause-steps
returns-in-Lent-clause-steps g c =
    cut_text g.S.Sources c.args.self.now c.walk_texts-step.new.self c.charge_quota-len.new.self c.in-Lent.place c.charge_quota-len.result
    (wider g.S.Sources 255 most_silent _ _ _ (omega arith) (c.in-Lent.ensures.uncut_step c.facts.ensures.bounded)) c.in-Lent.ensures.place (record { fits = c.charge_quota-len.ensures.fits; passes = c.charge_quota-len.ensures.passes })

pub returns-in_default : goal.returns-in_default
returns-in_default g c = record {
  place = c.walk_texts-step.ensures.place;
  steps = other-steps g.S.Sources _ _ _ c.in_default.not-Lent (wider g.S.Sources 255 most_silent _ _ _ (omega arith) (c.walk_texts-step.ensures.uncut_step c.facts.ensures.bounded));
  leaves = c.walk_texts-step.ensures.leaves;
}
