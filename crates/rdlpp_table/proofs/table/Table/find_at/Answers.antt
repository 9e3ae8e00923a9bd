use Rattle.std.proofs.Common.{arith}
use Rattle.std.proofs.lemmas.List.Quantifiers.{position-Some}
use Rattle.rdlpp_table.proofs.Sizes.{named_at}
use Rattle.rdlpp_table.proofs.Orders.{place_compared}
use Rattle.rdlpp_table.proofs.table.Table.find_at.Goals as goal
use Rattle.rdlpp_table.proofs.table.Table.find_at.Goals.{else-place-len-via-then-place-len+else-eq, else-place-len-via-else-place-len}

pub returns-then-eq-clause-value : goal.returns-then-eq-clause-value
returns-then-eq-clause-value c = grind (arith, place_compared)

pub returns-then-eq-clause-named : goal.returns-then-eq-clause-named
returns-then-eq-clause-named c = grind (arith, named_at, place_compared)

pub returns-clause-other : goal.returns-clause-other
returns-clause-other c h = grind (arith, position-Some, else-place-len-via-else-place-len)
