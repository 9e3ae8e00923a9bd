use Rattle.std.proofs.Common.{refl}
use Rattle.rdlpp_read.proofs.BufferTokens.{none_ends}
use Rattle.rdlpp_read.proofs.buffer.SourceBuffer.open.Goals as goal

pub returns-clause-ends : goal.returns-clause-ends
returns-clause-ends g c = none_ends _ refl
