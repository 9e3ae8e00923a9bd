use Rattle.std.proofs.Common.{false}
use Rattle.rdlpp_read.specs.Buffer.{unused_of}
use Rattle.rdlpp_read.specs.Files.{inner_buffer}
use Rattle.rdlpp_usages.specs.CallActions.{call_state_meant}
use Rattle.rdlpp_usages.proofs.CallLoop.{IsReading}
use Rattle.rdlpp_usages.proofs.reading.read_tokens.Given as goal

abbrev pub invariant-tokens : goal.invariant-tokens
invariant-tokens g l = IsReading g.S.Sources false l.initial.sources l.sources l.initial.files l.files l.fn.store.most l.store (call_state_meant l.call_state)

abbrev pub decreases-tokens : goal.decreases-tokens
decreases-tokens g l = unused_of (inner_buffer l.files.include_stack)
