use Rattle.std.proofs.Common.{arith}
use Rattle.rdlpp_state.specs.Conditionals.{goes_past}
use Rattle.rdlpp_state.proofs.DirectiveSteps.{opened_by, unopened_by}
use Rattle.rdlpp_state.proofs.Soundness.{conditions_one, inner_facts, inner_number, one_opens, whole_with}
use Rattle.rdlpp_expand.proofs.engine.Engine.open_tested.Goals as goal

pub shown_line-line-requires : goal.shown_line-line-requires
shown_line-line-requires g c = grind (arith, inner_number, inner_facts)

pub invariant_of-self-in-Ok : goal.invariant_of-self-in-Ok
invariant_of-self-in-Ok g c =
    let opens = c.in-Ok.ensures in
    let room = one_opens c.in-Ok.field-0 c.self.inside.conditions c.args.holds opens.test in
    whole_with _ _ _ _ c.self.inside.conditions _ _ c.self.invariant
    (rw opens.becomes (conditions_one _ c.self.inside.conditions c.self.inside.files.include_stack (rw (← c.self.view_is) at c.requires.ready.include_stack) c.self.invariant.sources.conditions_of c.shown_line-line.result c.args.holds room))

pub returns-in-Err : goal.returns-in-Err
returns-in-Err g c = grind (arith, unopened_by)

pub returns-in-Ok : goal.returns-in-Ok
unfolding goes_past
returns-in-Ok g c = grind (arith, opened_by)
