use Rattle.std.proofs.Common.{◌≡◌, ◌+◌, ◌++◌, take, vec_capacity, vec_len}
use Rattle.rdlpp_scan.proofs.one_piece.append_part.Given as goal

abbrev pub invariant-loop-b : goal.invariant-loop-b
invariant-loop-b l = record {
  items : l.to.items ≡ l.fn.to.items ++ take l.b-index l.part;
  count : vec_len l.to ≡ vec_len l.fn.to + l.b-index;
  room : vec_capacity l.to ≡ vec_capacity l.fn.to;
}
