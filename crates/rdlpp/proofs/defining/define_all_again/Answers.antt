use Rattle.std.proofs.Common.{[], ◌∙◌, arith, ap, refl, sym}
use Rattle.rdlpp.specs.Definitions.{GivenFault, with_macros}
use Rattle.rdlpp.proofs.Runs.{declined, taken_all, taken_more}
use Rattle.rdlpp.proofs.defining.define_all_again.Goals as goal

pub loop-index-init : goal.loop-index-init
loop-index-init g c = (refl, refl)

pub define-requires : goal.define-requires
define-requires g c = ap (λ e. e.phase) c.loop-index.invariant.0 ∙ c.requires

pub returns-in-Err-clause-given : goal.returns-in-Err-clause-given
returns-in-Err-clause-given g c = (
  declined c.args.reading.now.engine c.loop-index.reading.engine c.define.new.self.engine.table.macros c.loop-index.index c.args.defines.now c.index-defines-index.result _ _
      c.define.result c.in-Err.fault c.loop-index.invariant c.loop-index-test.true c.index-defines-index.is
      c.define.ensures.outcome c.as_bytes.ensures.value c.as_bytes-in-loop-index.ensures.value c.in-Err.is
      ∙ ap GivenFault (sym c.refused.ensures.fault),
  c.refused.ensures.written,
)

pub loop-index-preserved : goal.loop-index-preserved
loop-index-preserved g c =
    taken_more c.args.reading.now.engine c.loop-index.reading.engine c.define.new.self.engine c.loop-index.index c.args.defines.now c.index-defines-index.result _ _
    c.define.result c.loop-index.invariant c.loop-index-test.true c.index-defines-index.is
    c.define.ensures.outcome c.as_bytes.ensures.value c.as_bytes-in-loop-index.ensures.value (ap (λ r. r.engine) c.define.ensures.only) c.in_default.is

pub returns-clause-given : goal.returns-clause-given
returns-clause-given g c = (
  taken_all c.args.reading.now.engine c.loop-index.reading.engine c.loop-index.index c.args.defines.now c.loop-index.invariant (omega arith),
  c.loop-index.invariant.0,
)

pub returns-in-Err-clause-refused : goal.returns-in-Err-clause-refused
returns-in-Err-clause-refused g c =
    c.define.ensures.only ∙ ap (λ e. record { engine = with_macros e c.define.new.self.engine.table.macros; rest = [] }) c.loop-index.invariant.0
