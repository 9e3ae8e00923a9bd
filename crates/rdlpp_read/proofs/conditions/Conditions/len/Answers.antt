use Rattle.std.proofs.Common.{ap, ◌∙◌}
use Rattle.rdlpp_read.specs.Conditions.{ConditionsView}
use Rattle.rdlpp_read.proofs.ConditionStacks.{count_seen}
use Rattle.rdlpp_read.proofs.conditions.Conditions.len.Goals as goal

pub returns-clause-value : goal.returns-clause-value
returns-clause-value c =
    count_seen c.self.inside.open.items c.args.self.now.open_now c.len.result (ap (λ (v : ConditionsView). v.open_now) c.self.view_is) (c.len.ensures ∙ c.self.inside.open.ok.0)
