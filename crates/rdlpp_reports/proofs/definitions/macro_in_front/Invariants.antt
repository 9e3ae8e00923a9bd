-- The name isn't shorter than what was looked up.
use Rattle.std.proofs.Common.{length, ◌<◌, ◌≤◌}
use Rattle.rdlpp_reports.specs.Definitions.{BeginsWith}
use Rattle.rdlpp_define.specs.Table.{IsSound, macro_at}
use Rattle.rdlpp_reports.proofs.definitions.macro_in_front.Given as goal

abbrev pub invariant-loop-len : goal.invariant-loop-len
invariant-loop-len l =
    IsSound l.table → l.place < length l.table.macros → BeginsWith l.bytes (macro_at l.table.macros l.place).name
    → l.len ≤ length (macro_at l.table.macros l.place).name
