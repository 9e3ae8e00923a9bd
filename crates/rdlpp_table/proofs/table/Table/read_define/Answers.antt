use Rattle.std.proofs.Common.{◌∙◌}
use Rattle.rdlpp_table.proofs.RoundTrip.{define_refuses, define_stores}
use Rattle.rdlpp_table.proofs.table.Table.read_define.Goals as goal

pub returns-in-Ok-clause-outcome : goal.returns-in-Ok-clause-outcome
returns-in-Ok-clause-outcome c = c.store.ensures.outcome ∙ define_stores _ _ _ _ _ c.in-Ok.ensures

pub returns-in-Err-clause-outcome : goal.returns-in-Err-clause-outcome
returns-in-Err-clause-outcome c = define_refuses _ _ _ _ _ c.in-Err.ensures
