use Rattle.std.proofs.Common.{◌≡◌, ◌+◌, ◌-◌, ◌≤◌, length, drop, option_map}
use Rattle.rdlpp_scan.specs.SourceTokens.{logical_len}
use Rattle.rdlpp_scan.proofs.lines.logical_line.Given as goal

abbrev pub invariant-loop-step : goal.invariant-loop-step
invariant-loop-step l =
    (l.at ≤ length l.bytes) × (logical_len 0 0 l.bytes ≡ option_map (λ n. l.at + n) (logical_len 0 0 (drop l.at l.bytes)))

abbrev pub decreases-loop-step : goal.decreases-loop-step
decreases-loop-step l = length l.bytes - l.at
