use Rattle.std.proofs.Common.{◌≤◌}
use Rattle.rdlpp_state.specs.Remaining.{work_left}
use Rattle.rdlpp_expand.proofs.Readings.{IsGiven}
use Rattle.rdlpp_expand.proofs.reading.Reading.read.Given as goal

abbrev pub invariant-loop-len : goal.invariant-loop-len
invariant-loop-len g l = IsGiven g.S.Sources l.initial.self l.self l.initial.out l.out l.len × (l.left ≤ 65535)

abbrev pub decreases-loop-len : goal.decreases-loop-len
decreases-loop-len g l = work_left l.self.engine
