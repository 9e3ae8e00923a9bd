-- What was written is in the writer, and nothing else came to it.
use Rattle.std.proofs.Common.{◌≤◌, length, take}
use Rattle.std.specs.Io.KnownBytes.{Appends}
use Rattle.rdlpp_source.proofs.buffered.write_out.Given as goal

abbrev pub invariant-loop : goal.invariant-loop
invariant-loop g l = record {
  within : l.written ≤ length l.bytes;
  bytes : Appends (g.W.Write.contents l.initial.to) (g.W.Write.contents l.to) (take l.written l.bytes);
}
