use Rattle.std.proofs.Common.{◌+◌, cond, drop, sym, ap, ◌∙◌, arith, false}
use Rattle.rdlpp_meaning.specs.TextTokens.{text_tokens}
use Rattle.rdlpp_meaning.proofs.KeptTexts.{body_text}
use Rattle.rdlpp_texts.specs.KeptTexts.{keeps_each}
use Rattle.rdlpp_texts.proofs.Calling.{kept_comment, kept_other, kept_turn}
use Rattle.rdlpp_texts.proofs.QuickTokens.{token_at, token_inside, none_left}
use Rattle.rdlpp_texts.proofs.kept.keeps_each_token.Goals as goal

pub loop-at-init : goal.loop-at-init
loop-at-init c = record { inside = omega arith; found = ap keeps_each (sym (body_text c.args.text.now)) }

pub returns-in-LineComment : goal.returns-in-LineComment
returns-in-LineComment c =
    let text = c.args.text.now in
    let at = c.loop-at.at in
    let token = c.token_in_call-token.result in
    let f = token_at c.loop-at.mode text at token c.loop-at.invariant.inside c.token_in_call-token.ensures in
    let rest = keeps_each (text_tokens token.next_mode (drop (at + token.len) text)) in
    sym (sym c.loop-at.invariant.found ∙ kept_turn c.loop-at.mode text at token f ∙ ap (λ b. cond b rest false) (kept_comment c.token_in_call-token.result.role c.in-LineComment.is))

pub loop-at-preserved : goal.loop-at-preserved
loop-at-preserved c =
    let text = c.args.text.now in
    let at = c.loop-at.at in
    let token = c.token_in_call-token.result in
    let f = token_at c.loop-at.mode text at token c.loop-at.invariant.inside c.token_in_call-token.ensures in
    let rest = keeps_each (text_tokens token.next_mode (drop (at + token.len) text)) in
    record {
      inside = token_inside c.loop-at.mode text at token c.loop-at.invariant.inside f;
      found =
          sym (kept_turn c.loop-at.mode text at token f ∙ ap (λ b. cond b rest false) (kept_other c.token_in_call-token.result.role c.in_default.not-LineComment))
          ∙ c.loop-at.invariant.found;
    }

pub returns : goal.returns
unfolding keeps_each
returns c =
    sym (sym c.loop-at.invariant.found ∙ ap keeps_each (none_left c.loop-at.mode c.args.text.now c.loop-at.at (omega arith)))
