use Rattle.rdlpp_read.specs.Buffer.{ahead_of}
use Rattle.rdlpp_read.proofs.Growing.{ahead_slice}
use Rattle.rdlpp_read.proofs.buffer.SourceBuffer.ahead.Goals as goal

pub returns : goal.returns
unfolding ahead_of
returns g c = rw (← c.self.view_is, c.deref.ensures.value) (ahead_slice c.self.inside.accepted c.self.inside.filled c.self.inside.bytes.items c.self.invariant.1)
