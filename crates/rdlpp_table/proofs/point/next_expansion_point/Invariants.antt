use Rattle.std.proofs.Common.{length}
use Rattle.rdlpp_table.specs.Store.{formals_read}
use Rattle.rdlpp_table.proofs.FirstPoints.{IsStopping}
use Rattle.rdlpp_table.proofs.point.next_expansion_point.Given as goal

abbrev pub invariant-loop-rest : goal.invariant-loop-rest
invariant-loop-rest l = IsStopping (formals_read l.formals.count l.formals.list.now) l.from l.text l.mode l.at l.rest

abbrev pub decreases-loop-rest : goal.decreases-loop-rest
decreases-loop-rest l = length l.rest
