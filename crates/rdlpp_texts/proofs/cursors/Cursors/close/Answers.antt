use Rattle.std.proofs.Common.{◌<◌, ◌+◌, List, ℕ, length, drop, ap, refl, ◌∙◌}
use Rattle.rdlpp_texts.specs.declared.bindings.Range.{Range}
use Rattle.rdlpp_define.proofs.Sizes.{count_items}
use Rattle.rdlpp_texts.specs.Opened.{kept_by, opens_of}
use Rattle.rdlpp_texts.proofs.Stacking.{closed-opens, first-inside, some-open, stack-closed, view-is}
use Rattle.rdlpp_texts.proofs.cursors.Cursors.close.Goals as goal

pub index-requires : goal.index-requires
index-requires c = first-inside c.self.inside.frames c.self.inside.first c.self.inside.bindings.items (rw (← c.self.view_is) at c.requires)

pub invariant_of-self : goal.invariant_of-self
invariant_of-self c =
    let some : c.self.inside.first < length c.self.inside.frames.items = some-open c.self.inside.frames.items c.self.inside.first c.self.inside.bindings.items (rw (← c.self.view_is) at c.requires) in
    stack-closed c.self.inside.frames.items _ _ c.self.inside.first c.self.inside.bindings c.truncate.new.self c.index.result.now _ some c.index.ensures
    (c.kept_by-kept.ensures ∙ ap (λ (n : ℕ). kept_by c.index.result.now.kind n) (c.len.ensures ∙ count_items c.self.inside.bindings))
    c.truncate.ensures.items c.truncate.ensures.capacity c.self.invariant

pub returns : goal.returns
returns c =
    let some : c.self.inside.first < length c.self.inside.frames.items = some-open c.self.inside.frames.items c.self.inside.first c.self.inside.bindings.items (rw (← c.self.view_is) at c.requires) in
    rw (← c.self.view_is) (view-is _ _ _ _ _
    (ap (λ (bs : List Range). opens_of (drop (c.self.inside.first + 1) c.self.inside.frames.items) bs) c.truncate.ensures.items
    ∙ closed-opens c.self.inside.frames.items c.self.inside.first c.self.inside.bindings.items c.index.result.now _ some c.index.ensures
    (c.kept_by-kept.ensures ∙ ap (λ (n : ℕ). kept_by c.index.result.now.kind n) (c.len.ensures ∙ count_items c.self.inside.bindings))) refl)
