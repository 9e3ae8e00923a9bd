use Rattle.std.proofs.Common.{◌≡◌, ◌+◌, ◌*◌, ◌∙◌}
use Rattle.rdlpp_state.specs.Held.{bound_of}
use Rattle.rdlpp_state.proofs.OpeningFacts.{slots_fit}
use Rattle.rdlpp_expand.proofs.engine.Engine.capacity.Goals as goal

pub capacity-requires-3 : goal.capacity-requires-3
capacity-requires-3 g c = rw (c.self.invariant.sources.slots, c.self.invariant.sources.line_bytes) (slots_fit c.self.inside.limits c.self.invariant.sources.in_range)

pub returns : goal.returns
unfolding bound_of
returns g c =
    let s = c.self.invariant.sources in
    let definitions = c.capacity.ensures ∙ s.definition_bytes in
    let arguments = c.capacity-2.ensures ∙ c.self.invariant.texts.most_is in
    let sources : c.capacity-3.result ≡ (c.self.inside.limits.includes + 1) * c.self.inside.limits.line_bytes = rw (← s.slots, ← s.line_bytes) c.capacity-3.ensures in
    rw (← c.self.view_is) (cc)
