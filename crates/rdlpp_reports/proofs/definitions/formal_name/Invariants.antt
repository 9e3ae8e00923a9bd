-- The name isn't shorter than what was tried.
use Rattle.std.proofs.Common.{length, ◌<◌, ◌≤◌}
use Rattle.rdlpp_reports.specs.Definitions.{BeginsWith}
use Rattle.rdlpp_define.specs.Macros.{formal_bytes, AreSoundFormals, formals_of}
use Rattle.rdlpp_define.specs.Table.{formal_at, macro_at}
use Rattle.rdlpp_reports.proofs.definitions.formal_name.Given as goal

abbrev pub invariant-loop-len : goal.invariant-loop-len
invariant-loop-len l =
    let fs = formals_of (macro_at l.table.macros l.id) in
    AreSoundFormals fs → l.place < length fs → BeginsWith l.bytes (formal_bytes (formal_at fs l.place)) → l.len ≤ length (formal_at fs l.place).name
