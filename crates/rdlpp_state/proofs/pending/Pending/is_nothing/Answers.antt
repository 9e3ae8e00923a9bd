use Rattle.std.proofs.Common.{◌≡◌, Bool, true, false, not, Option, None, Some, refl, sym, ap, ◌∙◌, is_some, nat_eq, eqb-true, true≢false}
use Rattle.rdlpp_state.specs.Pending.{OriginView, nothing_pending}
use Rattle.rdlpp_state.proofs.pending.Pending.is_nothing.Goals as goal

no-origin : (origin : Option OriginView) → is_some origin ≡ false → origin ≡ None
no-origin None e = refl
no-origin (Some x) e = absurd (true≢false e)

is-true : (b : Bool) → not b ≡ false → b ≡ true
is-true true e = refl
is-true false e = absurd (true≢false e)

pub returns-then-self-eq0 : goal.returns-then-self-eq0
unfolding nothing_pending
returns-then-self-eq0 c = (
  λ t. sym c.self.view_is ∙ rw (c.if-self-eq0.true, no-origin _ (c.is_none.ensures ∙ ap not t)) refl,
  λ e. is-true _ (sym c.is_none.ensures ∙ ap (λ o. is_some o.origin) (c.self.view_is ∙ e)),
)

pub returns-else-self-eq0 : goal.returns-else-self-eq0
unfolding nothing_pending
returns-else-self-eq0 c = (
  λ t. absurd (c.if-self-eq0.false (eqb-true _ 0 t)),
  λ e. ap (λ o. nat_eq o.line_ends 0) (c.self.view_is ∙ e),
)
