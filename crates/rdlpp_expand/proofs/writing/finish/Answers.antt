use Rattle.std.proofs.Common.{Option, Some, ap, false, not, refl, subst, sym, true}
use Rattle.rdlpp_meaning.specs.Outcome.{Report}
use Rattle.rdlpp_expand.specs.Run.{Runs}
use Rattle.rdlpp_expand.proofs.RunFacts.{flushes_as, runs_broken, runs_stopped, runs_unchanged, runs_unflushed, runs_whole, wrote_at}
use Rattle.rdlpp_expand.proofs.writing.finish.Goals as goal

pub returns-then-not-is_flushed-clause-runs : goal.returns-then-not-is_flushed-clause-runs
returns-then-not-is_flushed-clause-runs g c start empty written wrote =
    runs_unflushed g.S.Sources g.W.Sink _ _ _ _ _ _ _ _
    (wrote_at g.S.Sources g.W.Sink _ _ _ _ _ _ _ _ wrote refl (ap Some (sym c.in-Finished.is)))
    (flushes_as g.W.Sink _ true _ _ (ap not c.if-not-is_flushed.true) c.is_flushed.ensures)
    c.record_write_fault.ensures refl

pub returns-else-not-is_flushed-clause-runs : goal.returns-else-not-is_flushed-clause-runs
returns-else-not-is_flushed-clause-runs g c start empty written wrote =
    let w = wrote_at g.S.Sources g.W.Sink start c.args.engine.now empty c.args.writer.now written written _ _ wrote refl (ap Some (sym c.in-Finished.is)) in
    subst (λ (kept : Option Report). Runs g.S.Sources g.W.Sink start c.args.engine.now empty c.is_flushed.new.writer written kept) (sym w.ends.kept)
    (runs_whole g.S.Sources g.W.Sink _ _ _ _ _ _ w (flushes_as g.W.Sink _ false _ _ (ap not c.if-not-is_flushed.false) c.is_flushed.ensures))

pub returns-then-not-keeps_write_failure-clause-runs : goal.returns-then-not-keeps_write_failure-clause-runs
returns-then-not-keeps_write_failure-clause-runs g c start empty written wrote =
    runs_stopped g.S.Sources g.W.Sink _ _ _ _ _ _
    (wrote_at g.S.Sources g.W.Sink _ _ _ _ _ _ _ _ wrote refl (ap Some (sym c.in-Stopped.is)))
    _ _ _ refl c.is_flushed-flushed.ensures c.keeps_write_failure.ensures c.if-not-keeps_write_failure.true

pub returns-else-not-keeps_write_failure-clause-runs : goal.returns-else-not-keeps_write_failure-clause-runs
returns-else-not-keeps_write_failure-clause-runs g c start empty written wrote =
    runs_unchanged g.S.Sources g.W.Sink _ _ _ _ _ _ _
    (wrote_at g.S.Sources g.W.Sink _ _ _ _ _ _ _ _ wrote refl (ap Some (sym c.in-Stopped.is)))
    refl c.keeps_write_failure.ensures c.if-not-keeps_write_failure.false

pub returns-in-Unwritten-clause-runs : goal.returns-in-Unwritten-clause-runs
returns-in-Unwritten-clause-runs g c start empty written wrote =
    runs_broken g.S.Sources g.W.Sink _ _ _ _ _ _ _
    (wrote_at g.S.Sources g.W.Sink _ _ _ _ _ _ _ _ wrote refl (ap Some (sym c.in-Unwritten.is)))
    c.record_write_fault-in-Unwritten.ensures refl
