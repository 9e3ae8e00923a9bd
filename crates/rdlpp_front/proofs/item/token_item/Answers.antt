use Rattle.std.proofs.Common.{◌∙◌, sym, ap}
use Rattle.rdlpp_scan.specs.declared.token.Token.{Token}
use Rattle.rdlpp_front.specs.SourceItems.{AtPerl, AtToken}
use Rattle.rdlpp_front.proofs.Insides.{text_at_front}
use Rattle.rdlpp_front.proofs.item.token_item.Goals as goal

pub returns-in-Perl : goal.returns-in-Perl
returns-in-Perl c = AtPerl (sym (ap (λ (t : Token). t.kind) c.first_token-token.ensures.value) ∙ c.in-Perl.is)

pub returns-in_default : goal.returns-in_default
returns-in_default c =
    let is = c.first_token-token.ensures.value in
    AtToken (text_at_front c.args.mode c.args.held.now c.requires.stops (λ e. c.in_default.not-Perl (ap (λ (t : Token). t.kind) is ∙ e)))
    (ap (λ (t : Token). t.next_mode) is) (ap (λ (t : Token). t.len) is)
