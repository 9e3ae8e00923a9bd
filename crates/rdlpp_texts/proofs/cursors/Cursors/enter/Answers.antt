use Rattle.std.proofs.Common.{◌∙◌, ◌<◌, [], List, ℕ, ap, length, drop, refl, sym, arith, append-nil}
use Rattle.rdlpp_meaning.specs.Opens.{Open}
use Rattle.rdlpp_define.proofs.Sizes.{count_items}
use Rattle.rdlpp_texts.specs.Opened.{opens_of}
use Rattle.rdlpp_texts.specs.Scopes.{front_scope}
use Rattle.rdlpp_texts.proofs.Stacking.{called-opens, first-inside, lent-body, lent-bounded, lent-opens, lent-some, room-first, some-open, stack-called, view-is}
use Rattle.rdlpp_texts.proofs.Usages.{entered}
use Rattle.rdlpp_texts.proofs.cursors.Cursors.enter.Goals as goal

pub front_scope-parent-requires : goal.front_scope-parent-requires
front_scope-parent-requires c = lent-some _ _ _ c.self.inside.bindings.items c.as_slice.ensures.value (rw (← c.self.view_is) at c.requires.some)

pub body_bounds-bounds-requires : goal.body_bounds-bounds-requires
body_bounds-bounds-requires c = lent-bounded c.self.inside.frames.items _ c.self.inside.first c.as_slice.ensures.value c.self.invariant.bounded

pub index_mut-requires : goal.index_mut-requires
index_mut-requires c = first-inside c.self.inside.frames c.self.inside.first c.self.inside.bindings.items (rw (← c.self.view_is) at c.requires.some)

pub free_frame-place-requires-clause-room : goal.free_frame-place-requires-clause-room
free_frame-place-requires-clause-room c =
    room-first c.self.inside.frames c.self.inside.depth c.self.inside.first c.self.inside.bindings.items (rw (← c.self.view_is) at c.requires.room)

pub invariant_of-self : goal.invariant_of-self
invariant_of-self c =
    let some : c.self.inside.first < length c.self.inside.frames.items = some-open c.self.inside.frames.items c.self.inside.first c.self.inside.bindings.items (rw (← c.self.view_is) at c.requires.some) in
    stack-called c.self.inside.frames.items c.free_frame-place.new.frames.items _ _ c.self.inside.depth c.self.inside.first c.free_frame-place.result c.args.at c.self.inside.bindings c.self.inside.bindings []
    c.index_mut.result.now c.args.id _ c.front_scope-parent.result c.len-bound.result
    0 c.body_bounds-bounds.result c.free_frame-place.ensures.free c.free_frame-place.ensures.capacity some c.index_mut.ensures.value c.len-bound.ensures (omega arith) (omega arith) (sym (append-nil c.self.inside.bindings.items))
    refl
    (lent-body c.self.inside.frames.items _ c.self.inside.first c.args.id c.front_scope-parent.result c.body_bounds-bounds.result c.as_slice.ensures.value c.body_bounds-bounds.ensures) c.self.invariant

pub returns : goal.returns
returns c =
    let frames = c.self.inside.frames.items in
    let first = c.self.inside.first in
    let inside : first < length frames = some-open frames first c.self.inside.bindings.items (rw (← c.self.view_is) at c.requires.some) in
    let own = lent-opens frames _ first c.self.inside.bindings.items c.self.inside.bindings.items c.as_slice.ensures.value refl in
    let parent = c.front_scope-parent.ensures c.self.inside.bindings.items ∙ ap (λ (o : List Open). front_scope o) own in
    rw (← c.self.view_is) (entered _ _ _ _ _ (record { opens = opens_of (drop first frames) c.self.inside.bindings.items; line = c.self.inside.line; depth = c.self.inside.depth }) _ _
    (ap (λ (b : List ℕ). length b) c.body-end.ensures) parent refl
    (view-is _ _ _ _ _
    (called-opens frames c.free_frame-place.new.frames.items c.self.inside.depth first c.free_frame-place.result c.args.at c.self.inside.bindings.items []
    c.self.inside.bindings.items c.index_mut.result.now c.args.id (length c.body-end.result.now)
    c.front_scope-parent.result c.len-bound.result c.body_bounds-bounds.result c.free_frame-place.ensures.free inside c.index_mut.ensures.value (c.len-bound.ensures ∙ count_items c.self.inside.bindings) (sym (append-nil c.self.inside.bindings.items))) refl))
