use Rattle.std.proofs.Common.{◌≡◌, ◌≤◌, ◌-◌, ℕ, take, vec_capacity, vec_len}
use Rattle.rdlpp_texts.proofs.frames.push_closed.Given as goal

abbrev pub invariant-loop-frames : goal.invariant-loop-frames
invariant-loop-frames l = record {
  above : vec_len l.fn.frames ≤ vec_len l.frames;
  below : vec_len l.frames ≤ l.fn.count;
  kept : (n : ℕ) → n ≤ vec_len l.fn.frames → take n l.frames.items ≡ take n l.fn.frames.items;
  room : vec_capacity l.frames ≡ vec_capacity l.fn.frames;
}

abbrev pub decreases-loop-frames : goal.decreases-loop-frames
decreases-loop-frames l = l.fn.count - vec_len l.frames
