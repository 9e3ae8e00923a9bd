use Rattle.std.proofs.Common.{◌≡◌, ◌∙◌, take, sym, subst, ap}
use Rattle.rdlpp_scan.specs.declared.token.Token.{Token}
use Rattle.rdlpp_scan.specs.SourceTokens.{line_ends}
use Rattle.rdlpp_front.specs.SourceItems.{AtToken, is_text_kind}
use Rattle.rdlpp_front.proofs.Insides.{comment_without_ends, no_text, perl_kind, text_at_front}
use Rattle.rdlpp_front.proofs.copied.token_copied.Goals as goal

pub returns-in-Perl-clause-none : goal.returns-in-Perl-clause-none
returns-in-Perl-clause-none c =
    no_text c.args.mode c.args.held.now c.requires.some (λ plain. (c.requires.stops plain).0)
    (ap is_text_kind (sym (ap (λ (t : Token). t.kind) c.first_token-token.ensures.value) ∙ c.in-Perl.is) ∙ perl_kind)

pub returns-in_default : goal.returns-in_default
returns-in_default c =
    let is = c.first_token-token.ensures.value in
    record {
      text = AtToken (text_at_front c.args.mode c.args.held.now c.requires.stops (λ e. c.in_default.not-Perl (ap (λ (t : Token). t.kind) is ∙ e)))
          (ap (λ (t : Token). t.next_mode) is) (ap (λ (t : Token). t.len) is);
      lines = c.line_ends_in-lines.ensures;
      none = tt;
    }

pub returns-in-LineComment-clause-text : goal.returns-in-LineComment-clause-text
returns-in-LineComment-clause-text c =
    let is = c.first_token-token.ensures.value in
    AtToken (text_at_front c.args.mode c.args.held.now c.requires.stops (λ e. let bad = sym c.in-LineComment.is ∙ ap (λ (t : Token). t.kind) is ∙ e in cc))
    (ap (λ (t : Token). t.next_mode) is) (ap (λ (t : Token). t.len) is)

pub returns-in-LineComment-clause-lines : goal.returns-in-LineComment-clause-lines
returns-in-LineComment-clause-lines c =
    let is = c.first_token-token.ensures.value in
    sym (subst (λ (t : Token). line_ends (take t.len c.args.held.now) ≡ 0) (sym is)
    (comment_without_ends c.args.mode c.args.held.now (sym (ap (λ (t : Token). t.kind) is) ∙ c.in-LineComment.is)))
