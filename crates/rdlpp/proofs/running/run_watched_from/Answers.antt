use Rattle.std.proofs.Common.{◌∙◌, ap, option_map, sym}
use Rattle.rdlpp_meaning.specs.Outcome.{report_of}
use Rattle.rdlpp_expand.proofs.RunFacts.{shows_none}
use Rattle.rdlpp.specs.Definitions.{given_in}
use Rattle.rdlpp.specs.Preprocess.{given_by}
use Rattle.rdlpp_state.specs.Opening.{fresh_engine}
use Rattle.rdlpp.proofs.Runs.{follows_from, follows_of, follows_output, refused_from}
use Rattle.rdlpp.proofs.running.run_watched_from.Goals as goal

pub define_all-requires : goal.define_all-requires
unfolding fresh_engine
define_all-requires g c = ap (λ e. e.phase) c.requires

pub open-requires : goal.open-requires
unfolding fresh_engine
open-requires g c = ap (λ e. e.phase) c.in_default.ensures.given.1 ∙ ap (λ e. e.phase) c.requires

pub returns-in-Err-clause-outcome : goal.returns-in-Err-clause-outcome
returns-in-Err-clause-outcome g c =
    refused_from g.S.Sources g.W.Sink c.args.options.now _ c.args.writer.now c.args.engine.now _ _ _ c.requires
    (ap (given_in c.args.engine.now) (sym c.deref.ensures.value) ∙ c.in-Err.ensures.given.0) c.in-Err.ensures.given.1

pub returns-in-Err-clause-output : goal.returns-in-Err-clause-output
returns-in-Err-clause-output g c =
    follows_output g.S.Sources g.W.Sink _ _ _ _ _ _ _ _ _
    (follows_of g.S.Sources g.W.Sink c.args.options.now (given_by c.args.options.now) c.args.engine.now _ _ _ _ _ _ (returns-in-Err-clause-outcome g c))

pub returns-in-Err-clause-shows : goal.returns-in-Err-clause-shows
returns-in-Err-clause-shows g c = shows_none g.W.Sink g.V.Watcher _ _

pub returns-in-Some-clause-outcome : goal.returns-in-Some-clause-outcome
returns-in-Some-clause-outcome g c =
    follows_from g.S.Sources g.W.Sink c.args.options.now _ _ _ c.args.engine.now c.define_all.new.engine c.open.new.self c.run_watched-written.new.engine _ _ _
    c.requires (ap (given_in c.args.engine.now) (sym c.deref.ensures.value) ∙ c.in_default.ensures.given.0) c.in_default.ensures.given.1
    c.open.ensures c.run_watched-written.ensures.runs (sym c.kept_fault.ensures ∙ ap (option_map report_of) c.in-Some.is)

pub returns-in-Some-clause-output : goal.returns-in-Some-clause-output
returns-in-Some-clause-output g c =
    follows_output g.S.Sources g.W.Sink _ _ _ _ _ _ _ _ _
    (follows_of g.S.Sources g.W.Sink c.args.options.now (given_by c.args.options.now) c.args.engine.now c.run_watched-written.new.engine _ _ _ _ _ (returns-in-Some-clause-outcome g c))

pub returns-clause-outcome : goal.returns-clause-outcome
returns-clause-outcome g c =
    follows_from g.S.Sources g.W.Sink c.args.options.now _ _ _ c.args.engine.now c.define_all.new.engine c.open.new.self c.run_watched-written.new.engine _ _ _
    c.requires (ap (given_in c.args.engine.now) (sym c.deref.ensures.value) ∙ c.in_default.ensures.given.0) c.in_default.ensures.given.1
    c.open.ensures c.run_watched-written.ensures.runs (sym c.kept_fault.ensures ∙ ap (option_map report_of) c.in_default-kept_fault.is)

pub returns-clause-output : goal.returns-clause-output
returns-clause-output g c =
    follows_output g.S.Sources g.W.Sink _ _ _ _ _ _ _ _ _
    (follows_of g.S.Sources g.W.Sink c.args.options.now (given_by c.args.options.now) c.args.engine.now c.run_watched-written.new.engine _ _ _ _ _ (returns-clause-outcome g c))
