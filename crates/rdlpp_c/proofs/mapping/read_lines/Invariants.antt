-- What was given so far is what remained as far as it was read, and what was written of the map is inside its buffer.
use Rattle.std.proofs.Common.{◌≡◌, length, ◌-◌, ◌≤◌}
use Rattle.rdlpp_expand.proofs.Readings.{IsGiven}
use Rattle.rdlpp_c.specs.Streaming.{owned_sources}
use Rattle.rdlpp_c.proofs.mapping.read_lines.Given as goal

abbrev pub invariant-loop-len : goal.invariant-loop-len
invariant-loop-len l = record {
  given : IsGiven owned_sources l.initial.stream.reading l.stream.reading l.initial.out l.out l.len;
  only : l.stream ≡ record l.initial.stream { reading = l.stream.reading; part = l.stream.part; lines = l.stream.lines };
  inside : l.len ≤ length l.out;
  map : l.map_len ≤ length l.map;
  left : l.left ≤ 65535;
}

abbrev pub decreases-loop-len : goal.decreases-loop-len
decreases-loop-len l = length l.initial.out - l.len
