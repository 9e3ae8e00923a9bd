use Rattle.std.proofs.Common.{◌≡◌, take}
use Rattle.rdlpp_scan.specs.SourceTokens.{line_ends}
use Rattle.rdlpp_scan.proofs.lines.short_line_ends.Given as goal

abbrev pub invariant-loop-at : goal.invariant-loop-at
invariant-loop-at l = l.count ≡ line_ends (take l.at l.bytes)
