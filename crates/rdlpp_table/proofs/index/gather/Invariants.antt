use Rattle.std.proofs.Common.{◌≡◌, vec_capacity, vec_len}
use Rattle.rdlpp_table.proofs.Arranged.{AreGathered}
use Rattle.rdlpp_table.proofs.index.gather.Given as goal

abbrev pub invariant-loop-group : goal.invariant-loop-group
invariant-loop-group l = record {
  gathered : AreGathered l.fn.order.items l.before l.starts l.group l.order.items;
  len : vec_len l.order ≡ vec_len l.fn.order;
  capacity : vec_capacity l.order ≡ vec_capacity l.fn.order;
}
