use Rattle.std.proofs.Common.{◌≡◌, ◌≤◌, drop, fold}
use Rattle.rdlpp_meaning.specs.Meaning.{digits_value}
use Rattle.rdlpp_front.proofs.LineArguments.{with_digit}
use Rattle.rdlpp_front.proofs.arguments.line.line_number.Given as goal

abbrev pub invariant-loop-digit : goal.invariant-loop-digit
invariant-loop-digit l = (fold with_digit l.number (drop l.digit-index l.digits) ≡ digits_value l.digits) × (l.number ≤ 2147483647)
