-- The parts so far were appended.
use Rattle.std.proofs.Common.{map, take}
use Rattle.std.specs.List.{concat}
use Rattle.std.specs.Io.KnownBytes.{Appends}
use Rattle.rdlpp_reports.proofs.writing.write_parts.Given as goal

abbrev pub invariant-loop-part : goal.invariant-loop-part
invariant-loop-part g l =
    Appends (g.W.Write.contents l.initial.writer) (g.W.Write.contents l.writer)
    (concat (map (λ part. part.now) (take l.part-index l.parts)))
