use Rattle.std.proofs.Common.{ap, length, sym, ◌∙◌, ◌==◌, true≢false}
use Rattle.rdlpp_usages.proofs.UsageOpens.{step_kept, step_last, still_open}
use Rattle.rdlpp_usages.proofs.expansion.Expansion.step.Goals as goal

pub returns-in_default : goal.returns-in_default
returns-in_default c =
    step_kept c.args.table.now.macros c.args.self.now c.self.inside.texts c.step-step.new.self c.self.inside.arguments c.bytes.result.now c.step-step.result c.self.view_is c.bytes.ensures.value c.step-step.ensures
    (still_open c.step-step.result c.args.self.now.opens c.self.inside.texts c.step-step.new.self c.self.inside.arguments.bytes c.in_default.not-Silent c.step-step.ensures.lends c.step-step.ensures.refused
    (ap (λ e. e.opens) c.self.view_is) c.requires.some)

pub returns-then-is_empty : goal.returns-then-is_empty
returns-then-is_empty c =
    step_last c.args.table.now.macros c.args.self.now c.self.inside.texts c.step-step.new.self c.self.inside.arguments c.clear.new.self c.bytes.result.now c.step-step.result c.self.view_is c.bytes.ensures.value c.step-step.ensures
    c.in-Silent.is (sym c.is_empty.ensures ∙ c.if-is_empty.true) c.clear.ensures

pub returns-else-is_empty : goal.returns-else-is_empty
returns-else-is_empty c =
    step_kept c.args.table.now.macros c.args.self.now c.self.inside.texts c.step-step.new.self c.self.inside.arguments c.bytes.result.now c.step-step.result c.self.view_is c.bytes.ensures.value c.step-step.ensures
    (λ e. absurd (true≢false (sym (ap (λ os. length os == 0) e) ∙ sym c.is_empty.ensures ∙ c.if-is_empty.false)))
