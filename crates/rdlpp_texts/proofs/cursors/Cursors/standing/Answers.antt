use Rattle.std.proofs.Common.{◌≡◌, ◌∙◌, ap, ℕ, [], List, ◌-◌, take, drop, length}
use Rattle.rdlpp_meaning.specs.Opens.{Open, found_standing, scope_open}
use Rattle.rdlpp_texts.specs.Opened.{opens_of, CursorsView}
use Rattle.rdlpp_texts.specs.Scopes.{front_scope}
use Rattle.rdlpp_texts.proofs.Stacking.{lent-opens, lent-some}
use Rattle.rdlpp_texts.proofs.cursors.Cursors.standing.Goals as goal

pub front_scope-scope-requires : goal.front_scope-scope-requires
front_scope-scope-requires c =
    lent-some c.self.inside.frames.items c.as_slice.result.now c.self.inside.first c.self.inside.bindings.items c.as_slice.ensures.value (rw (← c.self.view_is) at c.requires.some)

pub returns : goal.returns
returns c =
    let own : List Open = opens_of (take (length c.as_slice.result.now - c.self.inside.first) (drop c.self.inside.first c.as_slice.result.now)) c.as_slice-2.result.now in
    let same : own ≡ c.args.self.now.opens =
    lent-opens c.self.inside.frames.items c.as_slice.result.now c.self.inside.first c.self.inside.bindings.items c.as_slice-2.result.now c.as_slice.ensures.value c.as_slice-2.ensures.value
    ∙ ap (λ (v : CursorsView). v.opens) c.self.view_is in
    c.standing.ensures []
    ∙ ap (λ (k : ℕ). found_standing c.args.table.now.macros (scope_open own k) k c.args.place) (c.front_scope-scope.ensures c.as_slice-2.result.now)
    ∙ ap (λ (o : List Open). found_standing c.args.table.now.macros (scope_open o (front_scope o)) (front_scope o) c.args.place) same
