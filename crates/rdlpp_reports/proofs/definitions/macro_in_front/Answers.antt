-- The name is found where it is looked up.
use Rattle.std.proofs.Common.{arith, sym, ◌∙◌, length-append}
use Rattle.rdlpp_define.specs.Table.{no_macro}
use Rattle.rdlpp_reports.proofs.Written.{found_at, is_longer}
use Rattle.rdlpp_reports.proofs.definitions.macro_in_front.Goals as goal

pub loop-len-init : goal.loop-len-init
loop-len-init c s h b = omega arith

pub loop-len-preserved : goal.loop-len-preserved
loop-len-preserved c s h b =
    is_longer (λ m. m.name) c.args.table.now.macros no_macro c.args.place c.loop-len.len c.args.bytes.now b.0 c.find-found.result s.distinct h b.1 c.find-found.ensures.value (sym c.is_at.ensures ∙ c.if-is_at.false) (c.loop-len.invariant s h b)

pub returns-then-is_at-clause-value : goal.returns-then-is_at-clause-value
returns-then-is_at-clause-value c s h b = found_at c.args.place c.find-found.result (sym c.is_at.ensures ∙ c.if-is_at.true)

pub returns-clause-value : goal.returns-clause-value
returns-clause-value c s h b = grind (arith, length-append)
