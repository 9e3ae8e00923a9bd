use Rattle.std.proofs.Common.{◌∙◌, sym, arith}
use Rattle.rdlpp_define.proofs.Headers.{none_space, skip_space, point_space}
use Rattle.rdlpp_define.proofs.header.after_space.Goals as goal

pub returns-then-not-is_space-clause-value : goal.returns-then-not-is_space-clause-value
returns-then-not-is_space-clause-value c =
    sym (point_space _ _ _ c.in-Some.ensures.0 (sym c.is_space.ensures ∙ c.if-not-is_space.true)) ∙ c.loop-b.invariant.same

pub loop-b-preserved : goal.loop-b-preserved
loop-b-preserved c = grind (arith, skip_space)

pub returns-clause-value : goal.returns-clause-value
returns-clause-value c = sym (none_space _ c.in_default.ensures) ∙ c.loop-b.invariant.same
