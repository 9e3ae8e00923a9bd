use Rattle.std.proofs.Common.{◌≡◌, ◌≤◌, vec_capacity, vec_len}
use Rattle.rdlpp_table.specs.IndexView.{AreMoved}
use Rattle.rdlpp_table.proofs.index.move_groups.Given as goal

abbrev pub invariant-loop-group : goal.invariant-loop-group
invariant-loop-group l = record {
  inside : l.group ≤ 32;
  moved : AreMoved l.to l.starts l.group l.fn.order.items l.order.items;
  len : vec_len l.order ≡ vec_len l.fn.order;
  capacity : vec_capacity l.order ≡ vec_capacity l.fn.order;
}

abbrev pub decreases-loop-group : goal.decreases-loop-group
decreases-loop-group l = l.group
