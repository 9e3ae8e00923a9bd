use Rattle.std.proofs.Common.{arith}
use Rattle.rdlpp_front.proofs.LineArguments.{digit_next, digits_at, digits_grow, number_past, with_digit}
use Rattle.rdlpp_front.proofs.arguments.line.line_number.Goals as goal

pub loop-digit-init : goal.loop-digit-init
loop-digit-init c = (digits_at c.args.digits.now, omega arith)

pub returns-then-number-gt-MAX_NUMBER : goal.returns-then-number-gt-MAX_NUMBER
returns-then-number-gt-MAX_NUMBER c = grind (arith, with_digit, digit_next, number_past, digits_grow)
