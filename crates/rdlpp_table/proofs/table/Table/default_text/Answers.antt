use Rattle.std.proofs.Common.{arith}
use Rattle.rdlpp_table.proofs.RoundTrip.{count_read}
use Rattle.rdlpp_table.proofs.table.Table.default_text.Goals as goal

pub default_of-requires-clause-place : goal.default_of-requires-clause-place
default_of-requires-clause-place c = grind (arith, count_read)
