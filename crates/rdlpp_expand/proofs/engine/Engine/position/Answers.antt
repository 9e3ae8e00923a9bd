use Rattle.std.proofs.Common.{◌≡◌, false, true, sym, ◌∙◌, subst, is_some}
use Rattle.rdlpp_state.specs.Engine.{is_open}
use Rattle.rdlpp_state.proofs.LentPieces.{nowhere_closed, nowhere_kept}
use Rattle.rdlpp_expand.proofs.TextFacts.{position-by, told-some}
use Rattle.rdlpp_expand.proofs.engine.Engine.position.Goals as goal

pub returns-then-is_some : goal.returns-then-is_some
returns-then-is_some g c =
    let some : is_some c.args.self.now.kept ≡ true = subst (λ e. is_some e.kept ≡ true) c.self.view_is (told-some c.self.inside.kept ∙ (sym c.is_some.ensures ∙ c.if-is_some.true)) in
    sym (nowhere_kept c.args.self.now some)

pub returns-then-not-has_text : goal.returns-then-not-has_text
returns-then-not-has_text g c =
    let closed : is_open c.args.self.now.phase ≡ false = subst (λ e. is_open e.phase ≡ false) c.self.view_is (sym c.has_text.ensures ∙ c.if-not-has_text.true) in
    sym (nowhere_closed c.args.self.now closed)

pub returns : goal.returns
returns g c =
    let none : is_some c.args.self.now.kept ≡ false = subst (λ e. is_some e.kept ≡ false) c.self.view_is (told-some c.self.inside.kept ∙ (sym c.is_some.ensures ∙ c.if-is_some.false)) in
    let opens : is_open c.args.self.now.phase ≡ true = subst (λ e. is_open e.phase ≡ true) c.self.view_is (sym c.has_text.ensures ∙ c.if-not-has_text.false) in
    position-by _ c.args.self.now c.file-file.result.now _ c.as_str.result.now _ c.self.view_is c.file-file.ensures.inner none opens c.position.ensures c.as_str.ensures.value
