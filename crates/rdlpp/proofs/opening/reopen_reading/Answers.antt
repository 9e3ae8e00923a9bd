use Rattle.std.proofs.Common.{◌∙◌, ap, sym}
use Rattle.rdlpp.specs.Definitions.{given_in}
use Rattle.rdlpp.proofs.Renewals.{redeclines, renewed_by, renewed_closed, reopens_given, unopened}
use Rattle.rdlpp.proofs.Runs.{opens_output}
use Rattle.rdlpp.proofs.opening.reopen_reading.Goals as goal

pub define_all_again-requires : goal.define_all_again-requires
define_all_again-requires g c = renewed_closed _ _ c.renew-before.ensures.reading

pub start-opened-requires : goal.start-opened-requires
start-opened-requires g c = ap (λ e. e.phase) c.in_default.ensures.given.1 ∙ renewed_closed _ _ c.renew-before.ensures.reading

pub returns-in-Err-clause-opens : goal.returns-in-Err-clause-opens
returns-in-Err-clause-opens g c = (
  redeclines c.args.options.now c.args.sources c.renew-before.new.self _ (renewed_by c.args.options.now c.args.sources c.args.reading.now.engine _ c.requires c.renew-before.ensures.reading)
      (ap (given_in c.renew-before.new.self.engine) (sym c.deref.ensures.value) ∙ c.in-Err.ensures.given.0),
  c.in-Err.ensures.given.1,
  unopened c.args.options.now c.args.sources c.renew-before.new.self c.define_all_again.new.reading
      (renewed_by c.args.options.now c.args.sources c.args.reading.now.engine _ c.requires c.renew-before.ensures.reading) c.in-Err.ensures.refused,
)

pub returns-clause-opens : goal.returns-clause-opens
returns-clause-opens g c =
    reopens_given g.S.Sources c.args.options.now c.args.sources c.args.path.now c.renew-before.new.self c.define_all_again.new.reading c.start-opened.new.self _
    (renewed_by c.args.options.now c.args.sources c.args.reading.now.engine _ c.requires c.renew-before.ensures.reading)
    (ap (given_in c.renew-before.new.self.engine) (sym c.deref.ensures.value) ∙ c.in_default.ensures.given.0) c.in_default.ensures.given.1
    c.start-opened.ensures.engine c.start-opened.ensures.rest

pub returns-clause-output : goal.returns-clause-output
returns-clause-output g c = λ t. opens_output g.S.Sources _ _ _ _ _ _ (returns-clause-opens g c) t
