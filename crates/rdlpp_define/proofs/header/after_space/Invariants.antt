use Rattle.std.proofs.Common.{◌≡◌, ◌≤◌, true, length}
use Rattle.rdlpp_scan.specs.Continuations.{as_read}
use Rattle.rdlpp_define.specs.Define.{after_space}
use Rattle.rdlpp_define.proofs.header.after_space.Given as goal

abbrev pub invariant-loop-b : goal.invariant-loop-b
invariant-loop-b l = record { same : after_space (as_read true l.rest) ≡ after_space (as_read true l.fn.text); inside : length l.rest ≤ length l.fn.text }

abbrev pub decreases-loop-b : goal.decreases-loop-b
decreases-loop-b l = length l.rest
