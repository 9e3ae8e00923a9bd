use Rattle.rdlpp_state.specs.Remaining.{work_left}
use Rattle.rdlpp_expand.proofs.Readings.{IsGiven}
use Rattle.rdlpp_expand.proofs.reading.Reading.fill.Given as goal

abbrev pub invariant-loop-given : goal.invariant-loop-given
invariant-loop-given g l = IsGiven g.S.Sources l.initial.self l.self l.initial.out l.out l.given

abbrev pub decreases-loop-given : goal.decreases-loop-given
decreases-loop-given g l = work_left l.self.engine
