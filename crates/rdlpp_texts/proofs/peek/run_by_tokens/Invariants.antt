use Rattle.std.proofs.Common.{length, ◌-◌}
use Rattle.rdlpp_texts.proofs.Stopping.{IsRunning}
use Rattle.rdlpp_texts.proofs.peek.run_by_tokens.Given as goal

abbrev pub invariant-loop-at : goal.invariant-loop-at
invariant-loop-at l = IsRunning l.text l.mode l.at

abbrev pub decreases-loop-at : goal.decreases-loop-at
decreases-loop-at l = length l.text - l.at
