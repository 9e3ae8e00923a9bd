use Rattle.std.proofs.Common.{arith, refl}
use Rattle.rdlpp_read.specs.Buffer.{held_of}
use Rattle.rdlpp_read.proofs.BufferTokens.{consumed_ends}
use Rattle.rdlpp_read.proofs.Growing.{held_le}
use Rattle.rdlpp_read.proofs.buffer.SourceBuffer.consume.Goals as goal

pub overflow_add-self : goal.overflow_add-self
unfolding held_of
overflow_add-self g c = grind (arith, held_le)

pub overflow_add-self-2 : goal.overflow_add-self-2
unfolding held_of
overflow_add-self-2 g c = grind (arith, held_le)

pub invariant_of-self : goal.invariant_of-self
unfolding held_of
invariant_of-self g c = grind (arith, held_le)

pub returns-clause-ends : goal.returns-clause-ends
returns-clause-ends g c = rw (← c.self.view_is) (consumed_ends _ _ c.args.len _ refl)
