use Rattle.std.proofs.Common.{◌≡◌, false, ◌∙◌, ◌+◌, ◌-◌, ◌<◌, ◌≤◌, ℕ, length, take, sym, ap, arith}
use Rattle.rdlpp_scan.specs.KeptText.{trims, without_end}
use Rattle.rdlpp_scan.proofs.Measures.{end_blank, end_kept}
use Rattle.rdlpp_scan.proofs.one_piece.unblanked_len.Goals as goal

pub returns-then-not-trims-clause-value : goal.returns-then-not-trims-clause-value
returns-then-not-trims-clause-value c =
    let at = c.loop-at.at in
    let text = c.args.text.now in
    let some : 0 < at = omega arith in
    let within : at ≤ length text = omega arith in
    let same : at ≡ at - 1 + 1 = omega arith in
    c.loop-at.invariant ∙ (end_kept (trims false) at text some within (sym c.trims.ensures ∙ c.if-not-trims.true) ∙ ap (λ (n : ℕ). take n text) same)

pub loop-at-preserved : goal.loop-at-preserved
loop-at-preserved c =
    let at = c.loop-at.at in
    let text = c.args.text.now in
    let some : 0 < at = omega arith in
    let within : at ≤ length text = omega arith in
    c.loop-at.invariant ∙ end_blank (trims false) at text some within (sym c.trims.ensures ∙ c.if-not-trims.false)

pub returns-clause-value : goal.returns-clause-value
unfolding without_end
returns-clause-value c =
    let none : c.loop-at.at ≡ 0 = omega arith in
    c.loop-at.invariant ∙ ap (λ (n : ℕ). without_end (trims false) (take n c.args.text.now)) none
