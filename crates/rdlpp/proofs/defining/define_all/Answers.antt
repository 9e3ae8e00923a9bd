use Rattle.std.proofs.Common.{◌∙◌, arith, ap, refl, sym}
use Rattle.rdlpp.specs.Definitions.{GivenFault}
use Rattle.rdlpp.proofs.Runs.{declined, taken_all, taken_more}
use Rattle.rdlpp.proofs.defining.define_all.Goals as goal

pub loop-index-init : goal.loop-index-init
loop-index-init g c = (refl, refl)

pub define-requires : goal.define-requires
define-requires g c = ap (λ e. e.phase) c.loop-index.invariant.0 ∙ c.requires

pub returns-in-Err-clause-given : goal.returns-in-Err-clause-given
returns-in-Err-clause-given g c = (
  declined c.args.engine.now c.loop-index.engine c.define.new.self.table.macros c.loop-index.index c.args.defines.now c.index-defines-index.result _ _
      c.define.result c.in-Err.fault c.loop-index.invariant c.loop-index-test.true c.index-defines-index.is
      c.define.ensures.outcome c.as_bytes.ensures.value c.as_bytes-in-loop-index.ensures.value c.in-Err.is
      ∙ ap GivenFault (sym c.refused.ensures.fault),
  c.refused.ensures.written,
)

pub loop-index-preserved : goal.loop-index-preserved
loop-index-preserved g c =
    taken_more c.args.engine.now c.loop-index.engine c.define.new.self c.loop-index.index c.args.defines.now c.index-defines-index.result _ _
    c.define.result c.loop-index.invariant c.loop-index-test.true c.index-defines-index.is
    c.define.ensures.outcome c.as_bytes.ensures.value c.as_bytes-in-loop-index.ensures.value c.define.ensures.only c.in_default.is

pub returns-clause-given : goal.returns-clause-given
returns-clause-given g c = (
  taken_all c.args.engine.now c.loop-index.engine c.loop-index.index c.args.defines.now c.loop-index.invariant (omega arith),
  c.loop-index.invariant.0,
)

pub returns-in-Err-clause-limits : goal.returns-in-Err-clause-limits
returns-in-Err-clause-limits g c = ap (λ e. e.limits) c.define.ensures.only ∙ ap (λ e. e.limits) c.loop-index.invariant.0

pub returns-clause-limits : goal.returns-clause-limits
returns-clause-limits g c = ap (λ e. e.limits) c.loop-index.invariant.0
