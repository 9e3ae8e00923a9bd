use Rattle.std.proofs.Common.{arith, length-drop, length-take}
use Rattle.rdlpp_read.specs.Buffer.{ahead_of}
use Rattle.rdlpp_read.proofs.buffer.SourceBuffer.accept.Goals as goal

pub invariant_of-self : goal.invariant_of-self
unfolding ahead_of
invariant_of-self g c = grind (arith, length-drop, length-take)
