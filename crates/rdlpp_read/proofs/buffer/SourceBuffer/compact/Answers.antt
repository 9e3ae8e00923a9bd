use Rattle.std.proofs.Common.{arith}
use Rattle.rdlpp_read.proofs.Growing.{shifted}
use Rattle.rdlpp_read.proofs.buffer.SourceBuffer.compact.Goals as goal

pub returns-then-at-gt0-clause-becomes : goal.returns-then-at-gt0-clause-becomes
returns-then-at-gt0-clause-becomes g c = grind (arith, shifted)
