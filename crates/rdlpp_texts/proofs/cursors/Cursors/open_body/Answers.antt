use Rattle.std.proofs.Common.{◌≡◌, ap, ◌∙◌, arith, length, List, [], ◌∷◌, ℕ, take_all}
use Rattle.rdlpp_scan.specs.declared.token.Mode.TheVariants.{Plain}
use Rattle.rdlpp_meaning.specs.Opens.{Open, OpenBody, open_body}
use Rattle.rdlpp_define.proofs.Sizes.{count_items}
use Rattle.rdlpp_texts.specs.Opened.{CursorsView}
use Rattle.rdlpp_texts.proofs.Passing.{sound-opened}
use Rattle.rdlpp_texts.proofs.Stacking.{body-opens, lent-body, lent-bounded, stack-pushed, view-is}
use Rattle.rdlpp_texts.proofs.Calling.{room-closed}
use Rattle.rdlpp_texts.proofs.cursors.Cursors.open_body.Goals as goal

pub body_bounds-bounds-requires : goal.body_bounds-bounds-requires
body_bounds-bounds-requires c = lent-bounded c.self.inside.frames.items _ c.self.inside.first c.as_slice.ensures.value c.self.invariant.bounded

pub free_frame-first-requires-clause-room : goal.free_frame-first-requires-clause-room
free_frame-first-requires-clause-room c =
    room-closed c.self.inside.frames c.self.inside.depth c.self.inside.first c.self.inside.bindings.items (rw (← c.self.view_is) at c.requires.closed) (rw (← c.self.view_is) at c.requires.room)

pub invariant_of-self : goal.invariant_of-self
invariant_of-self c =
    let all : c.len-bound.result ≡ length c.self.inside.bindings.items = c.len-bound.ensures ∙ count_items c.self.inside.bindings in
    stack-pushed c.self.inside.frames.items c.free_frame-first.new.frames.items _ _ c.self.inside.depth c.self.inside.first c.free_frame-first.result c.self.inside.bindings _
    c.free_frame-first.ensures.free c.free_frame-first.ensures.capacity (take_all c.len-bound.result c.self.inside.bindings.items (omega (arith, all)))
    (lent-body c.self.inside.frames.items _ c.self.inside.first c.args.id 0 c.body_bounds-bounds.result c.as_slice.ensures.value c.body_bounds-bounds.ensures) c.self.invariant

pub returns-clause-opens : goal.returns-clause-opens
unfolding open_body
returns-clause-opens c =
    view-is _ _ c.args.line _ _
    (body-opens c.self.inside.frames.items c.free_frame-first.new.frames.items c.self.inside.depth c.self.inside.first c.free_frame-first.result c.self.inside.bindings.items
    c.args.id (length c.body-end.result.now) 0 c.len-bound.result _ c.free_frame-first.ensures.free (c.len-bound.ensures ∙ count_items c.self.inside.bindings)
    ∙ ap (λ (o : List Open). record { part = record { from = 0; end = length c.body-end.result.now; mode = Plain }; parent = 0; kind = OpenBody c.args.id [] } ∷ o)
    (ap (λ (v : CursorsView). v.opens) c.self.view_is ∙ c.requires.closed)
    ∙ ap (λ (b : List ℕ). record { part = record { from = 0; end = length b; mode = Plain }; parent = 0; kind = OpenBody c.args.id [] } ∷ []) c.body-end.ensures)
    (ap (λ (v : CursorsView). v.depth) c.self.view_is)

pub returns-clause-sound : goal.returns-clause-sound
returns-clause-sound c arguments = sound-opened _ arguments _ _ _ _ c.len-macros.ensures.sound c.requires.id c.requires.plain (returns-clause-opens c)
