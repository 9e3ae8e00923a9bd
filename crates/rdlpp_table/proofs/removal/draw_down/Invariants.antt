use Rattle.std.proofs.Common.{◌≡◌, ◌++◌, map, take, drop}
use Rattle.rdlpp_table.specs.Entries.{moved_down}
use Rattle.rdlpp_table.proofs.removal.draw_down.Given as goal

abbrev pub invariant-loop-at : goal.invariant-loop-at
invariant-loop-at l = l.entries ≡ map (moved_down l.size l.formal_offsets) (take l.at (drop l.by l.initial.entries)) ++ drop l.at l.initial.entries
