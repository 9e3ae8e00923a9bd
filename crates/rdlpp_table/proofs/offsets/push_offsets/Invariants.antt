use Rattle.std.proofs.Common.{◌≡◌, vec_capacity}
use Rattle.rdlpp_table.specs.Store.{formals_read}
use Rattle.rdlpp_table.proofs.FormalOffsets.{IsMarking}
use Rattle.rdlpp_table.proofs.offsets.push_offsets.Given as goal

abbrev pub invariant-loop : goal.invariant-loop
invariant-loop l = record {
  marking : IsMarking (formals_read l.fn.count l.fn.list) l.rest l.fn.formal_offsets.items l.formal_offsets.items l.counter;
  capacity : vec_capacity l.formal_offsets ≡ vec_capacity l.fn.formal_offsets;
}
