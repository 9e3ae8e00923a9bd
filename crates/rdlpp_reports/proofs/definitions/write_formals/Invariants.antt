-- The formals before a place were written, and those from it on are left.
use Rattle.std.proofs.Common.{drop, flat_map}
use Rattle.rdlpp_define.specs.Macros.{formal_bytes, AreSoundFormals, formals_of}
use Rattle.rdlpp_define.specs.Table.{macro_at}
use Rattle.rdlpp_reports.specs.Definitions.{BeginsWith}
use Rattle.rdlpp_reports.proofs.Written.{FormalsWritten}
use Rattle.rdlpp_reports.proofs.definitions.write_formals.Given as goal

abbrev pub invariant-loop-place : goal.invariant-loop-place
invariant-loop-place g l =
    let fs = formals_of (macro_at l.table.macros l.id) in
    AreSoundFormals fs → BeginsWith l.bytes (flat_map formal_bytes fs)
    → BeginsWith l.rest (flat_map formal_bytes (drop l.place fs)) × FormalsWritten fs l.place (g.W.Write.contents l.fn.writer) (g.W.Write.contents l.writer)
