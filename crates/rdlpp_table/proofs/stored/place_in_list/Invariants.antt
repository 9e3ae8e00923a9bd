use Rattle.rdlpp_table.proofs.FormalOffsets.{IsReached}
use Rattle.rdlpp_table.proofs.stored.place_in_list.Given as goal

abbrev pub invariant-loop-place : goal.invariant-loop-place
invariant-loop-place l = IsReached l.fn.bytes l.fn.name l.rest l.fn.count l.place
