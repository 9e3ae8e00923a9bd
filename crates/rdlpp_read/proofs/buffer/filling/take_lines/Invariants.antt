use Rattle.rdlpp_read.specs.Filling.{Searches, turns_left}
use Rattle.rdlpp_read.proofs.buffer.filling.take_lines.Given as goal

abbrev pub invariant-reading : goal.invariant-reading
invariant-reading g l = Searches g.S.Sources l.initial.sources l.sources l.initial.buffer l.buffer l.seen

abbrev pub decreases-reading : goal.decreases-reading
decreases-reading g l = turns_left l.buffer
