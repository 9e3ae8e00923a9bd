use Rattle.std.proofs.Common.{◌≡◌, ◌<◌, ◌+◌, ◌-◌, ◌++◌, length, map, take, drop}
use Rattle.rdlpp_table.specs.Entries.{moved_up}
use Rattle.rdlpp_table.proofs.removal.draw_up.Given as goal

abbrev pub invariant-loop-at : goal.invariant-loop-at
invariant-loop-at l =
    (l.at < length l.initial.entries)
    × (l.entries ≡ take (l.at + 1) l.initial.entries ++ map (moved_up l.size l.formal_offsets) (drop l.at (take (length l.initial.entries - 1) l.initial.entries)))

abbrev pub decreases-loop-at : goal.decreases-loop-at
decreases-loop-at l = l.at
