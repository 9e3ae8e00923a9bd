use Rattle.std.proofs.Common.{◌≡◌, ◌≤◌, ◌-◌, length, take}
use Rattle.rdlpp_scan.specs.SourceTokens.{line_ends}
use Rattle.rdlpp_front.specs.SkippedText.{IsPassed}
use Rattle.rdlpp_front.proofs.skipped_text.skip_text.Given as goal

abbrev pub invariant-loop-stretch : goal.invariant-loop-stretch
invariant-loop-stretch l = IsPassed l.fn.mode l.held l.stretch.len l.stretch.mode × ((l.stretch.len ≤ length l.held) × (l.stretch.line_ends ≡ line_ends (take l.stretch.len l.held)))

abbrev pub decreases-loop-stretch : goal.decreases-loop-stretch
decreases-loop-stretch l = length l.held - l.stretch.len
