use Rattle.std.proofs.Common.{◌≡◌, ◌≤◌, ◌+◌, true, length, map, take}
use Rattle.rdlpp_scan.specs.Continuations.{as_read}
use Rattle.rdlpp_define.proofs.FormalLists.{IsReading}
use Rattle.rdlpp_define.proofs.formals.read_some.Given as goal

abbrev pub invariant-loop-kind : goal.invariant-loop-kind
invariant-loop-kind l = record {
  reading : IsReading (as_read true l.fn.text) (as_read true l.rest) (map (λ n. n.now) (take l.count l.names)) l.size;
  room : (length l.names ≡ 255) × (l.count ≤ 255);
  shorter : l.size + length l.rest ≤ length l.fn.text;
}

abbrev pub decreases-loop-kind : goal.decreases-loop-kind
decreases-loop-kind l = length l.rest
