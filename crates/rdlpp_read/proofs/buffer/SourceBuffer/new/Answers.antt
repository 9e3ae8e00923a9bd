use Rattle.std.proofs.Common.{rules}
use Rattle.rdlpp_read.specs.Buffer.{closed_buffer}
use Rattle.rdlpp_read.proofs.buffer.SourceBuffer.new.Goals as goal

pub returns : goal.returns
unfolding closed_buffer
returns g c = search rules
