use Rattle.std.proofs.Common.{subst, sym}
use Rattle.rdlpp.specs.Preprocess.{Tells, output_of}
use Rattle.rdlpp.proofs.Runs.{preprocesses_none, preprocesses_of, tells_none}
use Rattle.rdlpp.proofs.preprocessing.preprocess.Goals as goal

pub returns-in-Ok-clause-outcome : goal.returns-in-Ok-clause-outcome
returns-in-Ok-clause-outcome g c =
    preprocesses_of g.S.Sources g.W.Sink c.args.options.now c.args.sources c.in-Ok.engine _ _ _ _ _ c.in-Ok.ensures c.run_watched_from.ensures.outcome

pub returns-in-Ok-clause-output : goal.returns-in-Ok-clause-output
returns-in-Ok-clause-output g c = λ has_known_texts.
    subst (λ s. Tells (g.W.Sink.taken c.args.writer.now) (g.W.Sink.taken c.run_watched_from.new.writer) (output_of g.S.Sources c.args.options.now s c.args.path.now) c.run_watched_from.result) c.in-Ok.ensures.2
    (c.run_watched_from.ensures.output (subst (λ s. g.S.Sources.has_known_texts s) (sym c.in-Ok.ensures.2) has_known_texts))

pub returns-in-Err-clause-outcome : goal.returns-in-Err-clause-outcome
returns-in-Err-clause-outcome g c = preprocesses_none g.S.Sources g.W.Sink c.args.options.now c.args.sources _ c.args.writer.now c.in-Err.fault c.in-Err.ensures

pub returns-in-Err-clause-output : goal.returns-in-Err-clause-output
returns-in-Err-clause-output g c = λ has_known_texts. tells_none g.S.Sources c.args.options.now c.args.sources _ _ c.in-Err.fault c.in-Err.ensures
