use Rattle.std.proofs.Common.{◌≡◌, ℕ, ◌+◌, false, cond, drop, sym, ap, ◌∙◌, arith, length-drop}
use Rattle.rdlpp_meaning.specs.Actuals.{level_after, is_space}
use Rattle.rdlpp_meaning.specs.TextTokens.{text_tokens}
use Rattle.rdlpp_meaning.proofs.KeptTexts.{body_text}
use Rattle.rdlpp_texts.specs.CallParts.{ends_part, part_from}
use Rattle.rdlpp_texts.specs.CallTokens.{role_meant}
use Rattle.rdlpp_texts.specs.declared.parts.Part.{Part}
use Rattle.rdlpp_texts.specs.declared.parts.PartEnd.TheVariants.{Comma, Last}
use Rattle.rdlpp_texts.proofs.QuickTokens.{dark_token, level_low, none_left, part_turn, token_at, token_inside}
use Rattle.rdlpp_texts.proofs.parts.part_by_tokens.Goals as goal

pub loop-passed-init : goal.loop-passed-init
loop-passed-init c =
    let start = c.args.from in
    record {
      inside = omega arith;
      low = omega arith;
      found = ap (part_from c.args.closes start start 0 start) (sym (body_text (drop start c.args.text.now)));
    }

pub returns-then-passed-text : goal.returns-then-passed-text
unfolding part_from
returns-then-passed-text c =
    let start = c.args.from in
    let text = c.args.text.now in
    let p = c.pass_plain_argument-passed.result in
    let level = c.loop-passed.level in
    let none = none_left c.loop-passed.mode text p.at c.if-passed-text.true in
    sym (ap (part_from c.args.closes start p.at level p.to) none)
    ∙ c.pass_plain_argument-passed.ensures.same c.args.closes start ∙ c.loop-passed.invariant.found

pub returns-then-ends_text : goal.returns-then-ends_text
returns-then-ends_text c =
    let text = c.args.text.now in
    let start = c.args.from in
    let p = c.pass_plain_argument-passed.result in
    let mode = c.loop-passed.mode in
    let level = c.loop-passed.level in
    let token = c.token_in_call-token.result in
    let f = token_at mode text p.at token c.pass_plain_argument-passed.ensures.inside c.token_in_call-token.ensures in
    let here = p.at + token.len in
    let r = role_meant token.role in
    let rest = cond (ends_part r level) (record { from = start; to = p.to; end = Comma here })
    (part_from c.args.closes start here (level_after r level) (cond (is_space r) p.to here) (text_tokens token.next_mode (drop here text))) in
    let last : Part = record { from = start; to = p.to; end = Last p.at } in
    sym (part_turn c.args.closes mode text start p.at level p.to token f
    ∙ ap (λ b. cond b last rest) (sym c.ends_text.ensures ∙ c.if-ends_text.true))
    ∙ c.pass_plain_argument-passed.ensures.same c.args.closes start ∙ c.loop-passed.invariant.found

pub returns-then-ends_part : goal.returns-then-ends_part
returns-then-ends_part c =
    let text = c.args.text.now in
    let start = c.args.from in
    let p = c.pass_plain_argument-passed.result in
    let mode = c.loop-passed.mode in
    let level = c.loop-passed.level in
    let token = c.token_in_call-token.result in
    let f = token_at mode text p.at token c.pass_plain_argument-passed.ensures.inside c.token_in_call-token.ensures in
    let here = p.at + token.len in
    let r = role_meant token.role in
    let rest = part_from c.args.closes start here (level_after r level) (cond (is_space r) p.to here) (text_tokens token.next_mode (drop here text)) in
    let last : Part = record { from = start; to = p.to; end = Last p.at } in
    let cut : Part = record { from = start; to = p.to; end = Comma here } in
    sym (part_turn c.args.closes mode text start p.at level p.to token f
    ∙ ap (λ b. cond b last (cond (ends_part r level) cut rest)) (sym c.ends_text.ensures ∙ c.if-ends_text.false)
    ∙ ap (λ b. cond b cut rest) (sym c.ends_part.ensures ∙ c.if-ends_part.true))
    ∙ c.pass_plain_argument-passed.ensures.same c.args.closes start ∙ c.loop-passed.invariant.found

pub loop-passed-preserved : goal.loop-passed-preserved
loop-passed-preserved c =
    let text = c.args.text.now in
    let start = c.args.from in
    let p = c.pass_plain_argument-passed.result in
    let mode = c.loop-passed.mode in
    let level = c.loop-passed.level in
    let token = c.token_in_call-token.result in
    let f = token_at mode text p.at token c.pass_plain_argument-passed.ensures.inside c.token_in_call-token.ensures in
    let here = p.at + token.len in
    let r = role_meant token.role in
    let dark : is_space r ≡ false = dark_token mode (drop p.at text) token (omega (arith, length-drop p.at text, c.if-passed-text.false)) f c.pass_plain_argument-passed.ensures.dark in
    let rest : ℕ → ℕ → Part = λ k n. part_from c.args.closes start here k n (text_tokens token.next_mode (drop here text)) in
    let last : Part = record { from = start; to = p.to; end = Last p.at } in
    let cut : Part = record { from = start; to = p.to; end = Comma here } in
    record {
      inside = token_inside mode text p.at token c.pass_plain_argument-passed.ensures.inside f;
      low = level_low token.role level p.at token.len c.level_after-level.result f.not_empty
          (omega (arith, c.loop-passed.invariant.low, c.pass_plain_argument-passed.ensures.order)) c.level_after-level.ensures;
      found =
          ap (λ (n : ℕ). rest n here) c.level_after-level.ensures
          ∙ sym (part_turn c.args.closes mode text start p.at level p.to token f
          ∙ ap (λ b. cond b last (cond (ends_part r level) cut (rest (level_after r level) (cond (is_space r) p.to here)))) (sym c.ends_text.ensures ∙ c.if-ends_text.false)
          ∙ ap (λ b. cond b cut (rest (level_after r level) (cond (is_space r) p.to here))) (sym c.ends_part.ensures ∙ c.if-ends_part.false)
          ∙ ap (λ b. rest (level_after r level) (cond b p.to here)) dark)
          ∙ c.pass_plain_argument-passed.ensures.same c.args.closes start ∙ c.loop-passed.invariant.found;
    }
