use Rattle.std.proofs.Common.{arith}
use Rattle.rdlpp_table.specs.ExpansionPoints.{point_in}
use Rattle.rdlpp_table.proofs.table.Table.kept_point.Goals as goal

pub cached_point-requires-clause-inside : goal.cached_point-requires-clause-inside
unfolding Rattle.rdlpp_table.specs.Store.macro_in
cached_point-requires-clause-inside c = grind arith

pub returns : goal.returns
unfolding point_in Rattle.rdlpp_table.specs.Store.macro_in
returns c = grind arith
