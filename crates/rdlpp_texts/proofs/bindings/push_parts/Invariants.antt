-- What is bound so far, and where the next part begins.
use Rattle.std.proofs.Common.{◌≡◌, ◌≤◌, ◌+◌, ◌-◌, length, drop, min, vec_len, vec_capacity}
use Rattle.rdlpp_texts.specs.CallParts.{actuals_in, inner_size}
use Rattle.rdlpp_texts.proofs.BoundParts.{HasBound}
use Rattle.rdlpp_texts.proofs.bindings.push_parts.Given as goal

abbrev pub invariant-parts : goal.invariant-parts
invariant-parts l = record {
  low : l.from ≤ l.at;
  inside : l.at ≤ length l.text;
  few : l.further ≤ l.at;
  size : l.from + inner_size l.closes (drop l.from l.text) ≡ l.at + inner_size l.closes (drop l.at l.text);
  bound : HasBound l.closes l.text l.from l.at l.further l.most (actuals_in l.closes (drop l.at l.text)) l.initial.bindings.items l.bindings.items;
  many : vec_len l.bindings ≡ vec_len l.initial.bindings + min l.further l.most;
  capacity : vec_capacity l.bindings ≡ vec_capacity l.initial.bindings;
}

abbrev pub decreases-parts : goal.decreases-parts
decreases-parts l = length l.text - l.at
