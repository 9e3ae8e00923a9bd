use Rattle.std.proofs.Common.{◌≡◌, ap, ◌∙◌, ◌&&◌, not, sym, subst, drop, length, List, ℕ, arith, Bool, false, refl, ◌==◌, nat_lt, ne_eqb}
use Rattle.std.proofs.lemmas.Slice.{between_to_end}
use Rattle.rdlpp_meaning.specs.Actuals.{trimmed, token_role}
use Rattle.rdlpp_texts.specs.CallParts.{parts_in, IsNextPart}
use Rattle.rdlpp_texts.proofs.BoundParts.{count_none, count_some}
use Rattle.rdlpp_texts.proofs.bindings.admits.Goals as goal

pub returns-then-formals-gt0 : goal.returns-then-formals-gt0
returns-then-formals-gt0 c = λ fs is. count_some c.args.closes (drop c.args.from c.args.text.now) c.args.formals c.args.further fs is c.if-formals-gt0.true c.requires.count

pub returns-then-further-eq0 : goal.returns-then-further-eq0
returns-then-further-eq0 c = λ fs is.
    let text = c.args.text.now in
    let from = c.args.from in
    let p = subst (λ (x : List ℕ). IsNextPart c.args.closes x c.next_part.result) (between_to_end text from (length text) (omega arith)) c.next_part.ensures.part in
    ap (λ (n : ℕ). (n == 0) && not c.has_items.result) (sym c.if-further-eq0.true)
    ∙ count_none c.args.closes (drop from text) c.args.formals c.args.further c.has_items.result fs is (omega (arith, c.if-formals-gt0.false)) c.requires.count
    (c.has_items.ensures ∙ p.items)

pub returns-else-further-eq0 : goal.returns-else-further-eq0
returns-else-further-eq0 c = λ fs is.
    let text = drop c.args.from c.args.text.now in
    let items = nat_lt 0 (length (trimmed token_role (parts_in c.args.closes text).first)) in
    let some : (c.args.further == 0) ≡ false = ne_eqb c.args.further 0 c.if-further-eq0.false in
    some
    ∙ sym (ap (λ (b : Bool). b && not items) some)
    ∙ count_none c.args.closes text c.args.formals c.args.further items fs is (omega (arith, c.if-formals-gt0.false)) c.requires.count refl
