-- The bytes so far were written.
use Rattle.std.proofs.Common.{take, flat_map}
use Rattle.std.specs.Io.KnownBytes.{Appends}
use Rattle.rdlpp_reports.specs.Definitions.{continued_byte}
use Rattle.rdlpp_reports.proofs.definitions.write_continued.Given as goal

abbrev pub invariant-loop-byte : goal.invariant-loop-byte
invariant-loop-byte g l =
    Appends (g.W.Write.contents l.initial.writer) (g.W.Write.contents l.writer) (flat_map continued_byte (take l.byte-index l.text))
