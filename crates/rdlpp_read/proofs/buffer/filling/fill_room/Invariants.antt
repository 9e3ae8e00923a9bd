use Rattle.std.proofs.Common.{◌≡◌, ◌≤◌, ◌-◌, ℕ, max, take, vec_capacity, vec_len}
use Rattle.rdlpp_read.proofs.buffer.filling.fill_room.Given as goal

abbrev pub invariant-loop-bytes : goal.invariant-loop-bytes
invariant-loop-bytes l = record {
  above : vec_len l.fn.bytes ≤ vec_len l.bytes;
  below : vec_len l.bytes ≤ max (vec_len l.fn.bytes) l.fn.len;
  kept : (n : ℕ) → n ≤ vec_len l.fn.bytes → take n l.bytes.items ≡ take n l.fn.bytes.items;
  room : vec_capacity l.bytes ≡ vec_capacity l.fn.bytes;
}

abbrev pub decreases-loop-bytes : goal.decreases-loop-bytes
decreases-loop-bytes l = l.fn.len - vec_len l.bytes
