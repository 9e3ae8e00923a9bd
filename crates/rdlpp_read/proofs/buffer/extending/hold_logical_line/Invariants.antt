use Rattle.std.proofs.Common.{◌-◌, length}
use Rattle.rdlpp_read.specs.Buffer.{held_of}
use Rattle.rdlpp_read.specs.LogicalLines.{Continues}
use Rattle.rdlpp_read.proofs.buffer.extending.hold_logical_line.Given as goal

abbrev pub invariant-lines : goal.invariant-lines
invariant-lines g l = Continues g.S.Sources l.initial.sources l.sources l.initial.buffer l.buffer l.seen

abbrev pub decreases-lines : goal.decreases-lines
decreases-lines g l = l.buffer.line_bytes - length (held_of l.buffer)
