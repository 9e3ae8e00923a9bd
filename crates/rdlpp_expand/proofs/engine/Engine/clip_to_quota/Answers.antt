use Rattle.std.proofs.Common.{ap, subst}
use Rattle.rdlpp_state.specs.Pieces.{lent_answer, IsPlaced}
use Rattle.rdlpp_state.specs.Steps.{UncutStepWithin}
use Rattle.rdlpp_state.specs.Silences.{most_silent}
use Rattle.rdlpp_state.proofs.LentPieces.{cut_halt, cut_pending, cut_source, cut_text, pending_placed, text_cut_placed}
use Rattle.rdlpp_expand.proofs.engine.Engine.clip_to_quota.Goals as goal

pub returns-in-Source-clause-steps : goal.returns-in-Source-clause-steps
returns-in-Source-clause-steps g c before w =
    cut_source g.S.Sources before c.args.self.now c.charge_quota-len.new.self c.in-Source.start c.in-Source.end c.charge_quota-len.result
    (subst (λ p. UncutStepWithin g.S.Sources most_silent before c.args.self.now (lent_answer c.args.self.now p)) c.in-Source.is w) (subst (λ p. IsPlaced c.args.self.now p) c.in-Source.is c.requires.placed) (record { fits = c.charge_quota-len.ensures.fits; passes = c.charge_quota-len.ensures.passes })

pub returns-in-Text-clause-steps : goal.returns-in-Text-clause-steps
returns-in-Text-clause-steps g c before w =
    cut_text g.S.Sources before c.args.self.now c.charge_quota-len-in-Text.new.self c.in-Text.place c.charge_quota-len-in-Text.result
    (subst (λ p. UncutStepWithin g.S.Sources most_silent before c.args.self.now (lent_answer c.args.self.now p)) c.in-Text.is w) (subst (λ p. IsPlaced c.args.self.now p) c.in-Text.is c.requires.placed) (record { fits = c.charge_quota-len-in-Text.ensures.fits; passes = c.charge_quota-len-in-Text.ensures.passes })

pub returns-in-Text-clause-place : goal.returns-in-Text-clause-place
returns-in-Text-clause-place g c =
    text_cut_placed c.args.self.now c.charge_quota-len-in-Text.new.self c.in-Text.place c.charge_quota-len-in-Text.result (subst (λ p. IsPlaced c.args.self.now p) c.in-Text.is c.requires.placed)
    (record { fits = c.charge_quota-len-in-Text.ensures.fits; passes = c.charge_quota-len-in-Text.ensures.passes })

pub charge_quota-len-requires-in-Text : goal.charge_quota-len-requires-in-Text
charge_quota-len-requires-in-Text g c = c.requires.open _ (ap (lent_answer c.args.self.now) c.in-Text.is)

pub returns-in-Pending-clause-steps : goal.returns-in-Pending-clause-steps
returns-in-Pending-clause-steps g c before w =
    rw c.cut.ensures (cut_pending g.S.Sources before c.args.self.now c.charge_quota-len-in-Pending.new.self c.in-Pending.piece c.charge_quota-len-in-Pending.result
    (subst (λ p. UncutStepWithin g.S.Sources most_silent before c.args.self.now (lent_answer c.args.self.now p)) c.in-Pending.is w) (subst (λ p. IsPlaced c.args.self.now p) c.in-Pending.is c.requires.placed) (record { fits = c.charge_quota-len-in-Pending.ensures.fits; passes = c.charge_quota-len-in-Pending.ensures.passes }))

pub returns-in-Pending-clause-place : goal.returns-in-Pending-clause-place
returns-in-Pending-clause-place g c =
    rw c.cut.ensures (pending_placed c.args.self.now c.charge_quota-len-in-Pending.new.self c.in-Pending.piece c.charge_quota-len-in-Pending.result (subst (λ p. IsPlaced c.args.self.now p) c.in-Pending.is c.requires.placed) (record { fits = c.charge_quota-len-in-Pending.ensures.fits; passes = c.charge_quota-len-in-Pending.ensures.passes }))

pub returns-in-Halt-clause-steps : goal.returns-in-Halt-clause-steps
returns-in-Halt-clause-steps g c before w = cut_halt g.S.Sources before c.args.self.now c.in-Halt.halt (subst (λ p. UncutStepWithin g.S.Sources most_silent before c.args.self.now (lent_answer c.args.self.now p)) c.in-Halt.is w)

pub charge_quota-len-requires : goal.charge_quota-len-requires
charge_quota-len-requires g c = c.requires.open _ (ap (lent_answer c.args.self.now) c.in-Source.is)

pub charge_quota-len-requires-in-Pending : goal.charge_quota-len-requires-in-Pending
charge_quota-len-requires-in-Pending g c = c.requires.open _ (ap (lent_answer c.args.self.now) c.in-Pending.is)
