use Rattle.std.proofs.Common.{refl}
use Rattle.rdlpp_texts.proofs.Stacking.{lent-bounded, lent-text, no-body_below, pushed-opens, room-first, stack-pushed, view-is}
use Rattle.rdlpp_texts.proofs.cursors.Cursors.push_text.Goals as goal

pub free_frame-first-requires-clause-room : goal.free_frame-first-requires-clause-room
free_frame-first-requires-clause-room c = room-first c.self.inside.frames c.self.inside.depth c.self.inside.first c.self.inside.bindings.items (rw (← c.self.view_is) at c.requires.room)

pub invariant_of-self : goal.invariant_of-self
invariant_of-self c =
    stack-pushed c.self.inside.frames.items c.free_frame-first.new.frames.items _ _ c.self.inside.depth c.self.inside.first c.free_frame-first.result c.self.inside.bindings
    (record c.args.new { bounds = c.scope_bounds-new.result }) c.free_frame-first.ensures.free c.free_frame-first.ensures.capacity
    (no-body_below c.args.new.kind c.self.inside.bindings.items c.requires.text)
    (lent-text c.self.inside.frames.items _ c.self.inside.first c.args.new.parent c.args.new.kind c.scope_bounds-new.result c.as_slice.ensures.value c.requires.text c.scope_bounds-new.ensures) c.self.invariant

pub returns : goal.returns
returns c =
    rw (← c.self.view_is) (view-is _ _ _ _ _ (pushed-opens c.self.inside.frames.items c.free_frame-first.new.frames.items c.self.inside.depth c.self.inside.first c.free_frame-first.result c.self.inside.bindings.items
    (record c.args.new { bounds = c.scope_bounds-new.result }) c.free_frame-first.ensures.free c.requires.text) refl)

pub scope_bounds-new-requires : goal.scope_bounds-new-requires
scope_bounds-new-requires c = lent-bounded c.self.inside.frames.items _ c.self.inside.first c.as_slice.ensures.value c.self.invariant.bounded
