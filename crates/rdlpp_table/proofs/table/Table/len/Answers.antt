use Rattle.std.proofs.Common.{arith}
use Rattle.rdlpp_table.proofs.Sizes.{len_of_view, live_count}
use Rattle.rdlpp_table.proofs.table.Table.len.Goals as goal

pub returns-clause-value : goal.returns-clause-value
returns-clause-value c =
    omega (arith, c.len.ensures, live_count c.self.inside.front.entries c.self.inside.entries, len_of_view _ _ _ _ _ c.self.view_is)
