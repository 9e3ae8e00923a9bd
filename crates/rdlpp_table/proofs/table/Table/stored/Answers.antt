use Rattle.std.proofs.Common.{◌≡◌, ◌<◌, ◌∙◌, drop, get_or, length, sym, arith, get_or-drop}
use Rattle.rdlpp_table.proofs.FirstPoints.{macro_here}
use Rattle.rdlpp_table.proofs.Sizes.{arity_at, entry_within, len_of_view, live_count, points_at}
use Rattle.rdlpp_table.proofs.table.Table.stored.Goals as goal

pub index-requires : goal.index-requires
index-requires c = omega (arith, c.requires, len_of_view _ _ _ _ _ c.self.view_is, live_count c.self.inside.front.entries c.self.inside.entries, c.id.view_is)

pub returns-clause-within : goal.returns-clause-within
returns-clause-within c =
    let entries = drop c.self.inside.front.entries c.self.inside.entries.items in
    let h : c.id.inside.index < length entries = omega (arith, c.requires, len_of_view _ _ _ _ _ c.self.view_is, c.id.view_is) in
    let q : c.index.result.now ≡ get_or entries c.id.inside.index c.index.result.now = c.index.ensures ∙ sym (get_or-drop c.self.inside.front.entries c.self.inside.entries.items c.id.inside.index c.index.result.now) in
    entry_within _ _ _ _ _ _ _ c.as_slice.ensures.value c.self.invariant.held h q

pub returns-clause-value : goal.returns-clause-value
returns-clause-value c =
    let entries = drop c.self.inside.front.entries c.self.inside.entries.items in
    let h : c.id.inside.index < length entries = omega (arith, c.requires, len_of_view _ _ _ _ _ c.self.view_is, c.id.view_is) in
    let q : c.index.result.now ≡ get_or entries c.id.inside.index c.index.result.now = c.index.ensures ∙ sym (get_or-drop c.self.inside.front.entries c.self.inside.entries.items c.id.inside.index c.index.result.now) in
    macro_here _ _ _ _ _ _ _ _ _ c.as_slice.ensures.value c.self.view_is c.id.view_is h q

pub returns-clause-arity : goal.returns-clause-arity
returns-clause-arity c =
    let entries = drop c.self.inside.front.entries c.self.inside.entries.items in
    let h : c.id.inside.index < length entries = omega (arith, c.requires, len_of_view _ _ _ _ _ c.self.view_is, c.id.view_is) in
    let q : c.index.result.now ≡ get_or entries c.id.inside.index c.index.result.now = c.index.ensures ∙ sym (get_or-drop c.self.inside.front.entries c.self.inside.entries.items c.id.inside.index c.index.result.now) in
    arity_at _ _ _ _ _ _ _ _ c.self.view_is c.self.invariant.held c.id.view_is h q

pub returns-clause-points : goal.returns-clause-points
returns-clause-points c =
    let entries = drop c.self.inside.front.entries c.self.inside.entries.items in
    let h : c.id.inside.index < length entries = omega (arith, c.requires, len_of_view _ _ _ _ _ c.self.view_is, c.id.view_is) in
    let q : c.index.result.now ≡ get_or entries c.id.inside.index c.index.result.now = c.index.ensures ∙ sym (get_or-drop c.self.inside.front.entries c.self.inside.entries.items c.id.inside.index c.index.result.now) in
    points_at _ _ _ _ _ _ _ _ c.self.view_is c.self.invariant.held c.id.view_is h q
