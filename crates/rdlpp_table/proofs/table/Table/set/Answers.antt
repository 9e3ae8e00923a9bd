use Rattle.std.proofs.Common.{◌∙◌}
use Rattle.rdlpp_table.proofs.RoundTrip.{set_refuses, set_stores}
use Rattle.rdlpp_table.proofs.table.Table.set.Goals as goal

pub returns-in-Ok-clause-outcome : goal.returns-in-Ok-clause-outcome
returns-in-Ok-clause-outcome c = c.store.ensures.outcome ∙ set_stores _ _ _ _ _ _ c.in-Ok.ensures

pub returns-in-Err-clause-outcome : goal.returns-in-Err-clause-outcome
returns-in-Err-clause-outcome c = set_refuses _ _ _ _ _ _ c.in-Err.ensures
