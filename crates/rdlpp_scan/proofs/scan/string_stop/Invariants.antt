use Rattle.std.proofs.Common.{◌≡◌, ◌+◌, ◌-◌, ◌≤◌, length, drop, false}
use Rattle.rdlpp_scan.specs.Tokens.{string_stop}
use Rattle.rdlpp_scan.proofs.scan.string_stop.Given as goal

abbrev pub invariant-loop-step : goal.invariant-loop-step
invariant-loop-step l =
    (l.at ≤ length l.bytes) × (string_stop false l.bytes ≡ l.at + string_stop false (drop l.at l.bytes))

abbrev pub decreases-loop-step : goal.decreases-loop-step
decreases-loop-step l = length l.bytes - l.at
