-- The paths so far were appended.
use Rattle.std.proofs.Common.{take, flat_map, string_bytes}
use Rattle.std.specs.Io.KnownBytes.{Appends}
use Rattle.rdlpp_reports.specs.Dependencies.{prerequisite}
use Rattle.rdlpp_reports.proofs.dependencies.write_prerequisites.Given as goal

abbrev pub invariant-loop-path : goal.invariant-loop-path
invariant-loop-path g l =
    Appends (g.W.Write.contents l.initial.writer) (g.W.Write.contents l.writer) (flat_map (λ path. prerequisite (string_bytes path)) (take l.path-index l.paths))
