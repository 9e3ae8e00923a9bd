use Rattle.std.proofs.Common.{◌∙◌, arith, sym, eqb-true}
use Rattle.rdlpp_table.proofs.FirstPoints.{none_end, none_searched, token_end, stopping_ended, stopping_found, stopping_more, stopping_inert, stopping_start}
use Rattle.rdlpp_table.proofs.point.next_expansion_point.Goals as goal

pub loop-rest-init : goal.loop-rest-init
loop-rest-init c = stopping_start _ _ _

pub returns-then-not-is_none-clause-value : goal.returns-then-not-is_none-clause-value
returns-then-not-is_none-clause-value c = grind (arith, stopping_found)

pub returns-then-not-is_none-clause-end : goal.returns-then-not-is_none-clause-end
returns-then-not-is_none-clause-end c = grind (arith, token_end)

pub loop-rest-preserved : goal.loop-rest-preserved
loop-rest-preserved c = grind (arith, stopping_more)

pub returns-clause-value : goal.returns-clause-value
returns-clause-value c = stopping_ended _ _ _ _ _ _ c.loop-rest.invariant (eqb-true _ _ (sym c.is_empty.ensures ∙ c.loop-rest-test.false))

pub returns-clause-end : goal.returns-clause-end
returns-clause-end c = omega (arith, none_end)

pub loop-rest-preserved-then-inert-gt0 : goal.loop-rest-preserved-then-inert-gt0
loop-rest-preserved-then-inert-gt0 c = grind (arith, stopping_inert)

pub returns-then-is_none-clause-value : goal.returns-then-is_none-clause-value
returns-then-is_none-clause-value c = grind (arith, none_searched)

pub returns-then-is_none-clause-end : goal.returns-then-is_none-clause-end
returns-then-is_none-clause-end c = omega (arith, none_end)
