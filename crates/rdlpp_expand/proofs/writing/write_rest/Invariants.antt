use Rattle.std.proofs.Common.{◌≡◌, ◌≤◌, ◌-◌, length, take}
use Rattle.std.specs.Io.KnownBytes.{Appends}
use Rattle.rdlpp_expand.specs.Run.{Unflushed}
use Rattle.rdlpp_expand.proofs.writing.write_rest.Given as goal

abbrev pub invariant-loop-len : goal.invariant-loop-len
invariant-loop-len g l = record {
  within : l.len ≤ length l.part;
  bytes : Appends (g.W.Sink.taken l.initial.writer) (g.W.Sink.taken l.writer) (take l.len l.part);
  writes : g.W.Sink.failed_writes l.writer ≡ g.W.Sink.failed_writes l.initial.writer;
  quiet : Unflushed g.W.Sink l.initial.writer l.writer;
}

abbrev pub decreases-loop-len : goal.decreases-loop-len
decreases-loop-len g l = length l.part - l.len
