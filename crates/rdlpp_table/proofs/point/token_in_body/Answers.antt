use Rattle.std.proofs.Common.{ap, arith, sym, ◌∙◌}
use Rattle.rdlpp_scan.specs.declared.token.Mode.{Mode}
use Rattle.rdlpp_scan.specs.Tokens.{token_of}
use Rattle.rdlpp_table.proofs.FirstPoints.{letter_first, letter_some}
use Rattle.rdlpp_table.proofs.point.token_in_body.Goals as goal

pub returns-in-Plain-clause-value : goal.returns-in-Plain-clause-value
returns-in-Plain-clause-value c =
    letter_first c.args.text.now _ c.requires (sym c.is_letter.ensures ∙ c.if-is_letter.true) c.word_bytes.ensures.value
    ∙ ap (λ (m : Mode). token_of m c.args.text.now) (sym c.in-Plain.is)

pub returns-in-Plain-clause-not_empty : goal.returns-in-Plain-clause-not_empty
returns-in-Plain-clause-not_empty c = omega (arith, c.word_bytes.ensures.value, letter_some c.args.text.now c.requires (sym c.is_letter.ensures ∙ c.if-is_letter.true))
