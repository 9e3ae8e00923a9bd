use Rattle.std.proofs.Common.{◌≡◌, sym, ◌∙◌, arith}
use Rattle.rdlpp_scan.specs.Tokens.{plain_len}
use Rattle.rdlpp_scan.specs.declared.token.Mode.TheVariants.{Plain}
use Rattle.rdlpp_front.proofs.Stretches.{passes_token, stops_by}
use Rattle.rdlpp_front.proofs.skipped_text.pass_once.Goals as goal
use Rattle.rdlpp_front.proofs.skipped_text.pass_once.Goals.{in-Plain+else-text-gt0, in_default}

pub returns-then-stops_skipping-clause-none : goal.returns-then-stops_skipping-clause-none
returns-then-stops_skipping-clause-none c =
    λ _. sym (stops_by c.args.mode c.args.bytes.now c.first_token-token.result c.stops_skipping.result c.first_token-token.ensures.value c.stops_skipping.ensures) ∙ c.if-stops_skipping.true

pub returns-clause-some : goal.returns-clause-some
returns-clause-some c =
    let none : c.args.mode ≡ Plain → plain_len c.args.bytes.now ≡ 0 = λ plain. elim c.match-mode.branch [
      | in-Plain+else-text-gt0 w ↦ omega (arith, w.plain_text-text.ensures.len, w.if-text-gt0.false)
      | in_default w ↦ absurd (w.in_default.not-Plain plain)
    ] in
    passes_token c.args.mode c.args.bytes.now c.first_token-token.result c.stops_skipping.result none c.first_token-token.ensures.value c.stops_skipping.ensures c.if-stops_skipping.false
