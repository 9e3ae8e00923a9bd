use Rattle.std.proofs.Common.{◌<◌, length, sym, ◌∙◌, subst, arith}
use Rattle.rdlpp_meaning.specs.declared.fault.FaultKind.{FaultKind}
use Rattle.rdlpp_texts.specs.CallTokens.{role_meant}
use Rattle.rdlpp_scan.specs.declared.token.Mode.TheVariants.{Plain}
use Rattle.rdlpp_usages.specs.CallActions.{IsAction, call_state_meant}
use Rattle.rdlpp_usages.specs.declared.action.CallAction.TheVariants.{Refused}
use Rattle.rdlpp_usages.proofs.Takes.{directive_taken, name_taken}
use Rattle.rdlpp_usages.proofs.action.name_action.Goals as goal

pub returns-then-is_some : goal.returns-then-is_some
returns-then-is_some c =
    let some : 0 < length c.args.held.now = omega arith in
    subst (λ (f : FaultKind). IsAction (call_state_meant c.args.call_state) Plain c.args.room c.args.held.now (Refused f)) (sym c.fault_at_end.ensures)
    (directive_taken (call_state_meant c.args.call_state) c.args.room c.args.held.now c.args.token some c.requires.first c.requires.back
    (sym c.reserved.ensures.reserved ∙ sym c.is_some.ensures ∙ c.if-is_some.true))

pub returns : goal.returns
unfolding role_meant
returns c =
    let some : 0 < length c.args.held.now = omega arith in
    name_taken (call_state_meant c.args.call_state) c.args.room c.args.held.now c.args.token c.role_action.result some c.requires.first c.requires.back
    (sym c.reserved.ensures.reserved ∙ sym c.is_some.ensures ∙ c.if-is_some.false) c.role_action.ensures
