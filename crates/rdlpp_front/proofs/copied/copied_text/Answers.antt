use Rattle.std.proofs.Common.{ℕ, sym, refl, subst, ◌∙◌, arith}
use Rattle.rdlpp_scan.specs.declared.token.Mode.{Mode}
use Rattle.rdlpp_front.specs.SourceItems.{AtOrdinary, IsText}
use Rattle.rdlpp_front.proofs.Insides.{no_text_at_backquote, plain_some}
use Rattle.rdlpp_front.proofs.copied.copied_text.Goals as goal

pub returns-then-held-eq96-clause-none : goal.returns-then-held-eq96-clause-none
returns-then-held-eq96-clause-none c =
    subst (λ m. (len : ℕ) → (next : Mode) → IsText m c.args.held.now len next → ⊥) (sym c.in-Plain.is)
    (no_text_at_backquote c.args.held.now c.requires c.if-held-eq96.true)

pub returns-then-not-stops_plain_text-clause-text : goal.returns-then-not-stops_plain_text-clause-text
returns-then-not-stops_plain_text-clause-text c =
    let some = plain_some c.args.held.now c.requires (sym c.stops_plain_text.ensures ∙ c.if-not-stops_plain_text.true) in
    AtOrdinary c.in-Plain.is refl (omega (arith, some, c.plain_text-text.ensures.len)) c.plain_text-text.ensures.len
