-- After its name, and after its default text where it has one.
use Rattle.std.proofs.Common.{arith}
use Rattle.std.proofs.lemmas.Bool.Decides.{nat_tests}
use Rattle.rdlpp_reports.proofs.Written.{after_default, after_plain}
use Rattle.rdlpp_reports.proofs.definitions.after_formal.Goals as goal

pub returns-then-is_empty : goal.returns-then-is_empty
returns-then-is_empty c s after e = grind (arith, after_plain, nat_tests)

pub returns-else-is_empty : goal.returns-else-is_empty
returns-else-is_empty c s after e = grind (arith, after_default, nat_tests)
