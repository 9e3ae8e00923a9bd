use Rattle.std.proofs.Common.{ap, ℕ, Some, ◌∙◌, sym, eqb-true}
use Rattle.rdlpp_texts.proofs.Scoping.{innermost-is, innermost-none}
use Rattle.rdlpp_texts.proofs.scopes.innermost_place.Goals as goal

pub returns-then-is_empty : goal.returns-then-is_empty
returns-then-is_empty c bindings = innermost-none c.args.frames.now bindings (eqb-true _ _ (sym c.is_empty.ensures ∙ c.if-is_empty.true))

pub returns : goal.returns
returns c bindings =
    ap (λ (from : ℕ). Some (record { source = c.front_source.result; from = from; end = c.index-frames-0.result.end })) c.min.ensures
    ∙ innermost-is c.args.frames.now bindings _ _ (sym c.is_empty.ensures ∙ c.if-is_empty.false) c.index-frames-0.is (c.front_source.ensures bindings)
