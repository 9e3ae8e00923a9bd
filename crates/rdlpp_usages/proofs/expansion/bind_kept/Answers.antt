use Rattle.std.proofs.Common.{ap, refl, ◌∙◌}
use Rattle.rdlpp_usages.specs.declared.expansion.Opening.TheVariants.{Refused}
use Rattle.rdlpp_usages.proofs.UsageOpens.{count_usage, leaves_called, leaves_none}
use Rattle.rdlpp_usages.proofs.expansion.bind_kept.Goals as goal

pub returns-in-Err-clause-opens : goal.returns-in-Err-clause-opens
returns-in-Err-clause-opens c =
    let same = c.in-Err.ensures.refused.same in
    leaves_none c.args.table.now.macros c.args.usage.id c.args.usage.line c.args.texts.now.line (Refused c.in-Err.kind) _ _ refl (ap (λ v. v.line) same) (ap (λ v. v.opens) same ∙ c.requires.closed)
    (count_usage c.in-Err.kind c.in-Err.ensures.refused.kind_is) tt

pub returns-in-Ok-clause-opens : goal.returns-in-Ok-clause-opens
returns-in-Ok-clause-opens c = leaves_called _ _ _ _ _ _ _ c.in-Ok.ensures.opens
