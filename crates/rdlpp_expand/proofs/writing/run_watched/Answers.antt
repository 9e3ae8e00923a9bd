use Rattle.std.proofs.Common.{sym}
use Rattle.rdlpp_expand.proofs.RunFacts.{shows_kept, shows_more, shows_none, wrote_at, wrote_more, wrote_none}
use Rattle.rdlpp_expand.proofs.writing.run_watched.Goals as goal

pub loop-in_texts-init : goal.loop-in_texts-init
loop-in_texts-init g c = (wrote_none g.S.Sources g.W.Sink _ _ c.requires, c.is_in_texts-in_texts.ensures, shows_none g.W.Sink g.V.Watcher _ _)

pub returns-in-Some-clause-runs : goal.returns-in-Some-clause-runs
returns-in-Some-clause-runs g c =
    c.finish.ensures.runs _ _ _
    (wrote_at g.S.Sources g.W.Sink _ _ _ _ _ _ _ _
    (wrote_more g.S.Sources g.W.Sink _ _ _ _ _ _ _ _ _ c.loop-in_texts.invariant.0 c.pull_text-pulled.ensures.pulls)
    c.saturating_add-written.ensures
    (sym c.in-Some.is))

pub returns-in-Some-clause-shows : goal.returns-in-Some-clause-shows
returns-in-Some-clause-shows g c = shows_kept g.W.Sink g.V.Watcher _ _ _ _ _ (shows_more g.W.Sink g.V.Watcher _ _ _ _ _ _ c.loop-in_texts.invariant.2 c.pull_text-pulled.ensures.shows) c.finish.ensures.keeps

pub loop-in_texts-preserved-then-in_texts : goal.loop-in_texts-preserved-then-in_texts
loop-in_texts-preserved-then-in_texts g c = (
  wrote_at g.S.Sources g.W.Sink _ _ _ _ _ _ _ _
      (wrote_more g.S.Sources g.W.Sink _ _ _ _ _ _ _ _ _ c.loop-in_texts.invariant.0 c.pull_text-pulled.ensures.pulls)
      c.saturating_add-written.ensures
      (sym c.in_default.is),
  c.pull_text-pulled.ensures.next c.in_default.is,
  shows_more g.W.Sink g.V.Watcher _ _ _ _ _ _ c.loop-in_texts.invariant.2 c.pull_text-pulled.ensures.shows,
)

pub returns-in-Some-ending-clause-runs : goal.returns-in-Some-ending-clause-runs
returns-in-Some-ending-clause-runs g c =
    c.finish-in-Some-ending.ensures.runs _ _ _
    (wrote_at g.S.Sources g.W.Sink _ _ _ _ _ _ _ _
    (wrote_more g.S.Sources g.W.Sink _ _ _ _ _ _ _ _ _ c.loop-in_texts.invariant.0 c.pull-pulled.ensures.pulls)
    c.saturating_add-written-else-in_texts.ensures
    (sym c.in-Some-ending.is))

pub returns-in-Some-ending-clause-shows : goal.returns-in-Some-ending-clause-shows
returns-in-Some-ending-clause-shows g c = shows_kept g.W.Sink g.V.Watcher _ _ _ _ _ (shows_more g.W.Sink g.V.Watcher _ _ _ _ _ _ c.loop-in_texts.invariant.2 c.pull-pulled.ensures.shows) c.finish-in-Some-ending.ensures.keeps

pub loop-in_texts-preserved : goal.loop-in_texts-preserved
loop-in_texts-preserved g c = (
  wrote_at g.S.Sources g.W.Sink _ _ _ _ _ _ _ _
      (wrote_more g.S.Sources g.W.Sink _ _ _ _ _ _ _ _ _ c.loop-in_texts.invariant.0 c.pull-pulled.ensures.pulls)
      c.saturating_add-written-else-in_texts.ensures
      (sym c.in_default-ending.is),
  c.is_in_texts-in_texts-else-in_texts.ensures,
  shows_more g.W.Sink g.V.Watcher _ _ _ _ _ _ c.loop-in_texts.invariant.2 c.pull-pulled.ensures.shows,
)
