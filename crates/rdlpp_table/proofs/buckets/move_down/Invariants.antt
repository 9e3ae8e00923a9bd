use Rattle.std.proofs.Common.{◌≡◌, ◌-◌, ◌++◌, map, take, drop}
use Rattle.rdlpp_table.proofs.buckets.move_down.Given as goal

abbrev pub invariant-loop-start : goal.invariant-loop-start
invariant-loop-start l = l.starts ≡ map (λ s. s - 1) (take l.start-index l.initial.starts) ++ drop l.start-index l.initial.starts
