use Rattle.std.proofs.Common.{◌∙◌}
use Rattle.rdlpp_table.proofs.table.Table.arity.Goals as goal

pub returns : goal.returns
returns c = c.arity_in.ensures ∙ c.stored.ensures.arity
