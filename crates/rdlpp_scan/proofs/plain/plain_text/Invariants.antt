use Rattle.std.proofs.Common.{◌-◌, length}
use Rattle.rdlpp_scan.specs.PlainTexts.{IsPassed}
use Rattle.rdlpp_scan.proofs.plain.plain_text.Given as goal

abbrev pub invariant-loop-run : goal.invariant-loop-run
invariant-loop-run l = IsPassed l.bytes l.run.len l.run.lines

abbrev pub decreases-loop-run : goal.decreases-loop-run
decreases-loop-run l = length l.bytes - l.run.len
