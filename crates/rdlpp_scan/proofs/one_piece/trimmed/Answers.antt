use Rattle.std.proofs.Common.{◌≡◌, false, ◌∙◌, ◌-◌, ℕ, length, take, drop, sym, ap, arith}
use Rattle.std.proofs.lemmas.Slice.{between_to_end}
use Rattle.rdlpp_scan.specs.KeptText.{trimmed_of, trims, without_end}
use Rattle.rdlpp_scan.proofs.one_piece.trimmed.Goals as goal

pub returns-clause-value : goal.returns-clause-value
unfolding trimmed_of trims
returns-clause-value c =
    let text = c.args.text.now in
    let front : take (length text - c.blanks.result) (drop c.blanks.result text) ≡ drop c.blanks.result text = between_to_end text c.blanks.result (length text) (omega arith) in
    sym c.unblanked_len.ensures.value ∙ (ap (without_end (trims false)) front ∙ ap (λ (n : ℕ). without_end (trims false) (drop n text)) c.blanks.ensures.value)
