use Rattle.std.proofs.Common.{subst, sym}
use Rattle.rdlpp.specs.Preprocess.{Tells, output_of}
use Rattle.rdlpp.proofs.Renewals.{made_keeps, renewed_makes}
use Rattle.rdlpp.proofs.Runs.{preprocesses_of}
use Rattle.rdlpp.proofs.renewing.Preprocessor.preprocess.Goals as goal

pub run_watched_from-requires : goal.run_watched_from-requires
run_watched_from-requires g c = (renewed_makes c.self.inside.options c.args.sources _ c.in-Some.engine _ c.self.invariant c.in-Some.is c.renew-before.ensures.fresh).1

pub invariant_of-self : goal.invariant_of-self
invariant_of-self g c =
    made_keeps c.self.inside.options c.args.sources c.renew-before.new.self c.run_watched_from.new.engine
    (renewed_makes c.self.inside.options c.args.sources _ c.in-Some.engine _ c.self.invariant c.in-Some.is c.renew-before.ensures.fresh) c.run_watched_from.ensures.limits

pub returns-in-Some-clause-outcome : goal.returns-in-Some-clause-outcome
returns-in-Some-clause-outcome g c =
    rw (← c.self.view_is)
    (preprocesses_of g.S.Sources g.W.Sink c.self.inside.options c.args.sources c.renew-before.new.self _ _ _ _ _
    (renewed_makes c.self.inside.options c.args.sources _ c.in-Some.engine _ c.self.invariant c.in-Some.is c.renew-before.ensures.fresh) c.run_watched_from.ensures.outcome)

pub returns-in-Some-clause-output : goal.returns-in-Some-clause-output
returns-in-Some-clause-output g c = λ has_known_texts.
    let same = (renewed_makes c.self.inside.options c.args.sources _ c.in-Some.engine _ c.self.invariant c.in-Some.is c.renew-before.ensures.fresh).2 in
    rw (← c.self.view_is)
    (subst (λ s. Tells (g.W.Sink.taken c.args.writer.now) (g.W.Sink.taken c.run_watched_from.new.writer) (output_of g.S.Sources c.self.inside.options s c.args.path.now) c.run_watched_from.result) same
    (c.run_watched_from.ensures.output (subst (λ s. g.S.Sources.has_known_texts s) (sym same) has_known_texts)))
