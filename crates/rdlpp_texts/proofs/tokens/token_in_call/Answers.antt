use Rattle.std.proofs.Common.{sym, subst, ◌∙◌}
use Rattle.rdlpp_scan.specs.declared.token.Mode.{Mode}
use Rattle.rdlpp_texts.specs.CallTokens.{plain_token, IsFirstToken}
use Rattle.rdlpp_texts.specs.declared.tokens.CallRole.{CallRole}
use Rattle.rdlpp_scan.specs.declared.token.Mode.TheVariants.{Plain}
use Rattle.rdlpp_texts.proofs.QuickTokens.{mark_first}
use Rattle.rdlpp_texts.proofs.tokens.token_in_call.Goals as goal

pub returns-in-Plain : goal.returns-in-Plain
returns-in-Plain c =
    let text = c.args.text.now in
    let found = mark_first text (sym c.is_mark.ensures ∙ c.if-is_mark.true) in
    subst (λ (m : Mode). IsFirstToken m text (plain_token c.quick_role.result 1)) (sym c.in-Plain.is)
    (subst (λ (r : CallRole). IsFirstToken Plain text (plain_token r 1)) (sym c.quick_role.ensures) found)
