use Rattle.std.proofs.Common.{◌∙◌, ap, false, refl, subst, sym}
use Rattle.rdlpp_meaning.specs.Expansion.{bound_parts, is_count}
use Rattle.rdlpp_texts.specs.BoundCalls.{IsBound}
use Rattle.rdlpp_texts.specs.declared.bindings.Bound.{Bound}
use Rattle.rdlpp_texts.proofs.BoundParts.{kept_actuals, kept_refused}
use Rattle.rdlpp_texts.proofs.bindings.bind_parts.Goals as goal

pub returns-in-To-clause-actuals : goal.returns-in-To-clause-actuals
unfolding IsBound
returns-in-To-clause-actuals c = λ fs is.
    let text = c.args.text.now in
    let b = subst (λ (x : Bound). IsBound false text 0 c.args.formals c.args.bindings.now.items c.bind.new.bindings.items x) c.in-To.is c.bind.ensures.bound in
    ap (bound_parts fs) (sym (kept_actuals text)) ∙ b.actuals fs is

pub returns-in-To-clause-count : goal.returns-in-To-clause-count
unfolding IsBound
returns-in-To-clause-count c = λ fs is.
    let text = c.args.text.now in
    let b = subst (λ (x : Bound). IsBound false text 0 c.args.formals c.args.bindings.now.items c.bind.new.bindings.items x) c.in-To.is c.bind.ensures.bound in
    b.count fs is ∙ ap (is_count fs) (kept_actuals text)

pub returns-in-Open-clause-count : goal.returns-in-Open-clause-count
returns-in-Open-clause-count c =
    (kept_refused c.args.text.now c.args.formals c.args.bindings.now.items c.bind.new.bindings.items c.bind.result c.in-Open.is c.bind.ensures.bound).1

pub returns-in-Open-clause-refused : goal.returns-in-Open-clause-refused
returns-in-Open-clause-refused c = (
  refl,
  (kept_refused c.args.text.now c.args.formals c.args.bindings.now.items c.bind.new.bindings.items c.bind.result c.in-Open.is c.bind.ensures.bound).0,
)
