use Rattle.std.proofs.Common.{◌≡◌, ◌-◌, ℕ, [], ap, arith, get_or, length, sym, ◌∙◌, ◌==◌}
use Rattle.std.specs.List.{list_any}
use Rattle.rdlpp_texts.specs.Opened.{opens_of}
use Rattle.rdlpp_texts.specs.Scopes.{hidden_ids}
use Rattle.rdlpp_texts.proofs.Stacking.{bounded-excluded}
use Rattle.rdlpp_texts.proofs.Scoping.{front-within}
use Rattle.rdlpp_texts.proofs.scopes.is_front_in.Goals as goal

pub returns-then-is_excluded : goal.returns-then-is_excluded
returns-then-is_excluded c bindings =
    let frames = c.args.frames.now in
    let own = c.index-frames-0.result in
    let scope = c.front_scope-scope.result in
    let all : scope ≡ length frames = c.if-scope-frames.true in
    let front : 0 ≡ length frames - scope = omega (arith, all) in
    bounded-excluded frames bindings scope _ c.args.id own c.requires.bounded (omega (arith, all, c.requires.some)) (omega (arith, all))
    (c.index-frames-0.is ∙ ap (λ (n : ℕ). get_or frames n own) front)
    (sym c.is_excluded.ensures ∙ c.if-is_excluded.true)
    (ap (λ (k : ℕ). list_any (λ own. c.args.id == own) (hidden_ids (opens_of frames bindings) k)) (c.front_scope-scope.ensures bindings))

pub is_hidden-requires-clause-inside : goal.is_hidden-requires-clause-inside
is_hidden-requires-clause-inside c = omega (arith, c.front_scope-scope.ensures [], front-within c.args.frames.now [] c.requires.parented)
