use Rattle.rdlpp_read.specs.Buffer.{held_of}
use Rattle.rdlpp_read.proofs.Growing.{held_slice}
use Rattle.rdlpp_read.proofs.buffer.SourceBuffer.held.Goals as goal

pub returns-clause-value : goal.returns-clause-value
unfolding held_of
returns-clause-value g c = rw (← c.self.view_is, c.deref.ensures.value) (held_slice _ _ _ _ c.self.invariant.0 c.self.invariant.1)
