use Rattle.std.proofs.Common.{ap, refl, subst, ◌∙◌, arith, is_some}
use Rattle.rdlpp_usages.specs.Usages.{StaysLent, StaysOpen, TakesUsageStep}
use Rattle.rdlpp_state.specs.declared.place.Halt.TheVariants as halt
use Rattle.rdlpp_expand.proofs.TextFacts.{lent-texts, drained-texts}
use Rattle.rdlpp_state.proofs.LentPieces.{marked_usage}
use Rattle.rdlpp_state.proofs.UsageSteps.{HoldsTexts, fault_text, lend_step, opening, placed_lent, placed_word, refuse_step, turn_step}
use Rattle.rdlpp_expand.proofs.engine.Engine.step_text.Goals as goal

pub record_text_fault-kept-requires-clause-placed : goal.record_text_fault-kept-requires-clause-placed
record_text_fault-kept-requires-clause-placed g c = (placed_word _ _ c.in-Refused.fault c.in-Refused.is c.step-step.ensures.placed)

pub returns-in-Lends-clause-place : goal.returns-in-Lends-clause-place
returns-in-Lends-clause-place g c = (placed_lent _ _ c.in-Lends.place c.in-Lends.is c.step-step.ensures.placed)

pub returns-in-Lends-clause-uncut_step : goal.returns-in-Lends-clause-uncut_step
returns-in-Lends-clause-uncut_step g c = (λ bounded.
    let x = c.step-step.new.self in
    let takes = subst (λ v. TakesUsageStep v.table.macros v.expansion c.step-step.result x) c.self.view_is c.step-step.ensures in
    let holds : HoldsTexts c.args.self.now x = record { sound = c.facts.ensures.sound; texts = c.facts.ensures.texts; room = c.facts.ensures.room; now_room = c.facts-2.ensures } in
    lend_step g.S.Sources c.args.self.now x c.step-step.result c.requires.0 takes _ c.in-Lends.place holds c.in-Lends.is (marked_usage _ c.args.self.now x c.lend_usage.new.self c.line-line.result c.self.view_is c.lend_usage.ensures (c.line-line.ensures ∙ takes.stays.line)) bounded)

pub returns-in-Silent-clause-uncut_step : goal.returns-in-Silent-clause-uncut_step
returns-in-Silent-clause-uncut_step g c = (λ bounded.
    let x = c.step-step.new.self in
    let takes = subst (λ v. TakesUsageStep v.table.macros v.expansion c.step-step.result x) c.self.view_is c.step-step.ensures in
    let holds : HoldsTexts c.args.self.now x = record { sound = c.facts.ensures.sound; texts = c.facts.ensures.texts; room = c.facts.ensures.room; now_room = c.facts-2.ensures } in
    turn_step g.S.Sources c.args.self.now x c.step-step.result c.requires.0 takes _ holds c.in-Silent.is (opening _ c.args.self.now x c.self.view_is) bounded)

pub returns-in-Refused-clause-uncut_step : goal.returns-in-Refused-clause-uncut_step
returns-in-Refused-clause-uncut_step g c = λ bounded.
    let x = c.step-step.new.self in
    let takes = subst (λ v. TakesUsageStep v.table.macros v.expansion c.step-step.result x) c.self.view_is c.step-step.ensures in
    refuse_step g.S.Sources c.args.self.now x c.step-step.result c.requires.0 takes _ c.record_text_fault-kept.new.self halt.Fault c.in-Refused.fault c.in-Refused.is
    (opening _ c.args.self.now x c.self.view_is) bounded refl c.record_text_fault-kept.ensures.kept (fault_text c.step-step.result c.in-Refused.fault c.in-Refused.is takes.fault)

pub returns-in-Lends-clause-stays : goal.returns-in-Lends-clause-stays
returns-in-Lends-clause-stays g c =
    (lent-texts c.args.self.now _ c.step-step.new.self _ c.step-step.result c.in-Lends.place c.requires.0 c.in-Lends.is
    (subst (λ v. StaysLent v.expansion c.step-step.result c.step-step.new.self) c.self.view_is c.step-step.ensures.lends)
    (marked_usage _ c.args.self.now c.step-step.new.self c.lend_usage.new.self c.line-line.result c.self.view_is c.lend_usage.ensures (c.line-line.ensures ∙ (subst (λ v. StaysOpen v.expansion c.step-step.new.self) c.self.view_is c.step-step.ensures.stays).line)))

pub returns-in-Silent-clause-stays : goal.returns-in-Silent-clause-stays
returns-in-Silent-clause-stays g c =
    (drained-texts c.args.self.now _ c.step-step.new.self c.args.self.now.marks c.requires.0 (opening _ c.args.self.now c.step-step.new.self c.self.view_is))

pub returns-in-Refused-clause-stays : goal.returns-in-Refused-clause-stays
returns-in-Refused-clause-stays g c = ap (λ e. is_some e.kept) c.record_text_fault-kept.ensures.kept

pub lend_usage-requires : goal.lend_usage-requires
lend_usage-requires g c = grind arith
