use Rattle.std.proofs.Common.{◌≡◌, sym, ap, ◌∙◌, subst}
use Rattle.rdlpp_scan.specs.declared.token.Kind.TheVariants.{Back}
use Rattle.rdlpp_scan.specs.declared.token.Mode.{Mode}
use Rattle.rdlpp_scan.specs.Tokens.{token_of}
use Rattle.rdlpp_texts.specs.CallTokens.{role_meant}
use Rattle.rdlpp_usages.specs.CallActions.{IsAction, call_state_meant}
use Rattle.rdlpp_usages.proofs.Takes.{back_mode, kept_kind, perl_taken, role_taken}
use Rattle.rdlpp_usages.proofs.action.action_at.Goals as goal

pub name_action-requires-clause-first : goal.name_action-requires-clause-first
name_action-requires-clause-first c =
    let kind : (token_of c.args.mode c.args.held.now).kind ≡ Back = ap (λ t. t.kind) (sym c.first_token-token.ensures.value) ∙ c.in-Back.is in
    c.first_token-token.ensures.value ∙ ap (λ m. token_of m c.args.held.now) (back_mode c.args.mode c.args.held.now kind)

pub returns-in-Perl : goal.returns-in-Perl
returns-in-Perl c =
    perl_taken (call_state_meant c.args.call_state) c.args.mode c.args.room c.args.held.now c.requires.some
    (ap (λ t. t.kind) (sym c.first_token-token.ensures.value) ∙ c.in-Perl.is)

pub returns-in-Back : goal.returns-in-Back
returns-in-Back c =
    let kind : (token_of c.args.mode c.args.held.now).kind ≡ Back = ap (λ t. t.kind) (sym c.first_token-token.ensures.value) ∙ c.in-Back.is in
    subst (λ (m : Mode). IsAction (call_state_meant c.args.call_state) m c.args.room c.args.held.now c.name_action.result) (sym (back_mode c.args.mode c.args.held.now kind)) c.name_action.ensures

pub returns-in_default-kind : goal.returns-in_default-kind
returns-in_default-kind c =
    role_taken (call_state_meant c.args.call_state) c.args.mode c.args.room c.args.held.now c.first_token-token.result (role_meant c.role_of.result) c.role_action.result
    c.requires.some c.first_token-token.ensures.value (kept_kind c.first_token-token.result.kind c.in_default-kind.not-Perl c.in_default-kind.not-Back) c.requires.lead c.role_of.ensures c.role_action.ensures
