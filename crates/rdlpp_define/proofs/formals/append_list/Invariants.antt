use Rattle.std.proofs.Common.{◌≡◌, true, vec_capacity, length}
use Rattle.rdlpp_scan.specs.Continuations.{as_read}
use Rattle.rdlpp_define.proofs.FormalLists.{IsAppended}
use Rattle.rdlpp_define.proofs.formals.append_list.Given as goal

abbrev pub invariant-loop-following : goal.invariant-loop-following
invariant-loop-following l = record {
  appended : IsAppended (as_read true l.fn.text) (as_read true l.rest) l.fn.to.items l.to.items;
  room : vec_capacity l.to ≡ vec_capacity l.fn.to;
}

abbrev pub decreases-loop-following : goal.decreases-loop-following
decreases-loop-following l = length l.rest
