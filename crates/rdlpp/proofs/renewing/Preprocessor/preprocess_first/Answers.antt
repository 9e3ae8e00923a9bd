use Rattle.rdlpp.proofs.Renewals.{made_keeps}
use Rattle.rdlpp.proofs.Runs.{preprocesses_of}
use Rattle.rdlpp.proofs.renewing.Preprocessor.preprocess_first.Goals as goal

pub invariant_of-self : goal.invariant_of-self
invariant_of-self g c = made_keeps c.self.inside.options c.args.sources c.in-Ok.engine c.run_watched_from-outcome.new.engine c.in-Ok.ensures c.run_watched_from-outcome.ensures.limits

pub returns-clause-outcome : goal.returns-clause-outcome
returns-clause-outcome g c =
    rw (← c.self.view_is)
    (preprocesses_of g.S.Sources g.W.Sink c.self.inside.options c.args.sources c.in-Ok.engine _ _ _ _ _ c.in-Ok.ensures c.run_watched_from-outcome.ensures.outcome)
