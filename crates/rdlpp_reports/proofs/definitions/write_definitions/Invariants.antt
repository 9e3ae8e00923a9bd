-- The lines before a place were written, and the macros from it on are left.
use Rattle.std.proofs.Common.{◌≡◌, drop, take, flat_map}
use Rattle.std.specs.Io.KnownBytes.{Appends}
use Rattle.rdlpp_table.specs.Store.{macro_bytes}
use Rattle.rdlpp_reports.specs.Definitions.{definition_line}
use Rattle.rdlpp_reports.proofs.definitions.write_definitions.Given as goal

abbrev pub invariant-loop-place : goal.invariant-loop-place
invariant-loop-place g l =
    (l.rest ≡ flat_map macro_bytes (drop l.place l.table.macros))
    × Appends (g.W.Write.contents l.initial.writer) (g.W.Write.contents l.writer) (flat_map definition_line (take l.place l.table.macros))
