-- What is gone of the name was written.
use Rattle.std.proofs.Common.{length}
use Rattle.rdlpp_reports.proofs.Written.{NameWritten}
use Rattle.rdlpp_reports.proofs.dependencies.write_name.Given as goal

abbrev pub invariant-loop-byte : goal.invariant-loop-byte
invariant-loop-byte g l = NameWritten l.name l.rest (g.W.Write.contents l.initial.writer) (g.W.Write.contents l.writer)

abbrev pub decreases-loop-byte : goal.decreases-loop-byte
decreases-loop-byte g l = length l.rest
