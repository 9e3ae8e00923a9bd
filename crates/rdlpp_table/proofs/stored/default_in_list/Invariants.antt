use Rattle.rdlpp_table.proofs.FormalOffsets.{IsPassed}
use Rattle.rdlpp_table.proofs.stored.default_in_list.Given as goal

abbrev pub invariant-loop : goal.invariant-loop
invariant-loop l = IsPassed l.fn.bytes l.rest l.fn.count l.fn.place l.counter
