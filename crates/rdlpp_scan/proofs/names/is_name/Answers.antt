use Rattle.std.proofs.Common.{arith}
use Rattle.rdlpp_scan.specs.Names.{is_name}
use Rattle.rdlpp_scan.proofs.TokenLens.{prefix_whole}
use Rattle.rdlpp_scan.proofs.names.is_name.Goals as goal

pub returns-then-is_letter : goal.returns-then-is_letter
unfolding is_name
returns-then-is_letter c = grind (arith, prefix_whole)
