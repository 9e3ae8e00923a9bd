use Rattle.std.proofs.Common.{◌+◌, drop, sym, ap, ◌∙◌, arith}
use Rattle.rdlpp_meaning.specs.TextTokens.{text_tokens}
use Rattle.rdlpp_meaning.proofs.KeptTexts.{body_text}
use Rattle.rdlpp_texts.specs.CallParts.{opener_by, opener_from}
use Rattle.rdlpp_texts.specs.CallTokens.{role_meant}
use Rattle.rdlpp_texts.specs.declared.tokens.CallRole.{CallRole}
use Rattle.rdlpp_texts.proofs.QuickTokens.{token_at, token_inside, opener_turn, opener_passes, opener_lacks, none_left}
use Rattle.rdlpp_texts.proofs.parts.spaced_start.Goals as goal

pub loop-at-init : goal.loop-at-init
loop-at-init c = record { inside = omega arith; found = ap (opener_from 0) (sym (body_text c.args.text.now)) }

pub loop-at-preserved : goal.loop-at-preserved
loop-at-preserved c =
    let text = c.args.text.now in
    let at = c.loop-at.at in
    let token = c.token_in_call-token.result in
    let f = token_at c.loop-at.mode text at token c.loop-at.invariant.inside c.token_in_call-token.ensures in
    let here = at + token.len in
    let rest = opener_from here (text_tokens token.next_mode (drop here text)) in
    record {
      inside = token_inside c.loop-at.mode text at token c.loop-at.invariant.inside f;
      found = sym (opener_turn c.loop-at.mode text at token f ∙ opener_passes token.role here rest c.in-Space.is) ∙ c.loop-at.invariant.found;
    }

pub returns-in-Start : goal.returns-in-Start
unfolding opener_by role_meant
returns-in-Start c =
    let text = c.args.text.now in
    let at = c.loop-at.at in
    let token = c.token_in_call-token.result in
    let f = token_at c.loop-at.mode text at token c.loop-at.invariant.inside c.token_in_call-token.ensures in
    let here = at + token.len in
    let rest = opener_from here (text_tokens token.next_mode (drop here text)) in
    record {
      value = sym (sym c.loop-at.invariant.found ∙ opener_turn c.loop-at.mode text at token f ∙ ap (λ (r : CallRole). opener_by (role_meant r) here rest) c.in-Start.is);
      inside = token_inside c.loop-at.mode text at token c.loop-at.invariant.inside f;
    }

pub returns-in_default : goal.returns-in_default
returns-in_default c =
    let text = c.args.text.now in
    let at = c.loop-at.at in
    let token = c.token_in_call-token.result in
    let f = token_at c.loop-at.mode text at token c.loop-at.invariant.inside c.token_in_call-token.ensures in
    let here = at + token.len in
    let rest = opener_from here (text_tokens token.next_mode (drop here text)) in
    record {
      value = sym (sym c.loop-at.invariant.found ∙ opener_turn c.loop-at.mode text at token f
          ∙ opener_lacks token.role here rest c.in_default.not-Space c.in_default.not-LineComment c.in_default.not-BlockComment c.in_default.not-Start);
      inside = tt;
    }

pub returns : goal.returns
unfolding opener_from
returns c =
    record {
      value = sym (sym c.loop-at.invariant.found ∙ ap (opener_from c.loop-at.at) (none_left c.loop-at.mode c.args.text.now c.loop-at.at (omega arith)));
      inside = tt;
    }
