use Rattle.rdlpp_table.proofs.Groups.{AreCleared}
use Rattle.rdlpp_table.proofs.buckets.clear_groups.Given as goal

abbrev pub invariant-loop-group : goal.invariant-loop-group
invariant-loop-group l = AreCleared l.group l.fn.within l.within
