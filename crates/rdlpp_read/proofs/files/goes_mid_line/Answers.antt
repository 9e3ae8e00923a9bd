use Rattle.std.proofs.Common.{arith}
use Rattle.std.proofs.lemmas.Bool.Decides.{nat_tests}
use Rattle.rdlpp_scan.specs.Bytes.{is_line_end}
use Rattle.rdlpp_read.proofs.BufferTokens.{ends_mid_line-last, ends_mid_line-none}
use Rattle.rdlpp_read.proofs.files.goes_mid_line.Goals as goal

pub returns-then-is_empty : goal.returns-then-is_empty
returns-then-is_empty c = grind (arith, nat_tests, ends_mid_line-none)

pub returns-else-is_empty : goal.returns-else-is_empty
unfolding is_line_end
returns-else-is_empty c = grind (arith, nat_tests, ends_mid_line-last)
