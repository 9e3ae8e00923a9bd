use Rattle.std.proofs.Common.{None, ◌↔◌, IsTrue}
use Rattle.rdlpp_expand.specs.Run.{Wrote}
use Rattle.rdlpp_expand.specs.Texts.{IsInTexts}
use Rattle.rdlpp_expand.specs.Watching.{Shows}
use Rattle.rdlpp_state.specs.Remaining.{work_left}
use Rattle.rdlpp_expand.proofs.writing.run_watched.Given as goal

abbrev pub invariant-loop-in_texts : goal.invariant-loop-in_texts
invariant-loop-in_texts g l = Wrote g.S.Sources g.W.Sink l.initial.engine l.engine l.initial.writer l.writer l.written None × (IsTrue l.in_texts ↔ IsInTexts l.engine) × Shows g.W.Sink g.V.Watcher l.initial.writer l.writer l.initial.watcher l.watcher

abbrev pub decreases-loop-in_texts : goal.decreases-loop-in_texts
decreases-loop-in_texts g l = work_left l.engine
