use Rattle.std.proofs.Common.{drop, flat_map}
use Rattle.rdlpp_table.specs.Store.{formals_read}
use Rattle.rdlpp_define.specs.Macros.{formal_bytes}
use Rattle.rdlpp_table.proofs.FormalOffsets.{IsReached}
use Rattle.rdlpp_table.proofs.offsets.place_by_offsets.Given as goal

abbrev pub invariant-loop-place : goal.invariant-loop-place
invariant-loop-place l = IsReached l.fn.list l.fn.name (flat_map formal_bytes (drop l.place (formals_read l.fn.count l.fn.list))) l.fn.count l.place
