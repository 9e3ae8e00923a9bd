use Rattle.std.proofs.Common.{◌∙◌, ap, sym}
use Rattle.rdlpp.specs.Definitions.{given_in}
use Rattle.rdlpp_state.specs.Opening.{fresh_engine}
use Rattle.rdlpp.proofs.Runs.{declines, opens_given, opens_output}
use Rattle.rdlpp.proofs.opening.open_reading.Goals as goal

pub define_all-requires : goal.define_all-requires
unfolding fresh_engine
define_all-requires g c = ap (λ e. e.phase) c.in-Ok.ensures.1

pub start-opened-requires : goal.start-opened-requires
unfolding fresh_engine
start-opened-requires g c = ap (λ e. e.phase) c.in_default.ensures.given.1 ∙ ap (λ e. e.phase) c.in-Ok.ensures.1

pub returns-in-Err-clause-opens : goal.returns-in-Err-clause-opens
returns-in-Err-clause-opens g c = (
  c.in-Ok.ensures.0,
  declines _ c.args.options.now.defines.items _ c.args.sources c.in-Ok.engine _ c.in-Ok.ensures.1
      (ap (given_in c.in-Ok.engine) (sym c.deref.ensures.value) ∙ c.in-Err.ensures.given.0),
  c.in-Err.ensures.given.1,
)

pub returns-clause-opens : goal.returns-clause-opens
returns-clause-opens g c = (
  c.in-Ok.ensures.0,
  opens_given g.S.Sources _ c.args.options.now.defines.items _ _ _ c.in-Ok.engine c.define_all.new.engine c.start-opened.new.self _ _
      c.in-Ok.ensures.1 (ap (given_in c.in-Ok.engine) (sym c.deref.ensures.value) ∙ c.in_default.ensures.given.0) c.in_default.ensures.given.1
      c.start-opened.ensures c.of.ensures,
)

pub returns-clause-output : goal.returns-clause-output
returns-clause-output g c = λ t. opens_output g.S.Sources _ _ _ _ _ _ (returns-clause-opens g c).1 t
