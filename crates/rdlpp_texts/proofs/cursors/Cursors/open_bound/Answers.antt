use Rattle.std.proofs.Common.{◌∙◌, ◌<◌, List, Option, unwrap_or, ℕ, length, drop, ap, refl, sym, arith, leb-false, leb-true}
use Rattle.rdlpp_texts.specs.BoundCalls.{added}
use Rattle.rdlpp_texts.specs.declared.bindings.Range.{Range}
use Rattle.rdlpp_define.specs.Table.{macro_at}
use Rattle.rdlpp_define.proofs.Sizes.{count_items}
use Rattle.rdlpp_texts.specs.Opened.{opens_of}
use Rattle.rdlpp_texts.proofs.Stacking.{arity-count, call-bound, call-room, called-opens, first-inside, formals-few, lent-body, lent-bounded, opening-deep, opening-opened, opening-refused, room-first, some-open, stack-called, taken-back, view-is}
use Rattle.rdlpp_texts.proofs.cursors.Cursors.open_bound.Goals as goal

pub bind_call-requires-clause-room : goal.bind_call-requires-clause-room
bind_call-requires-clause-room c =
    let few = formals-few c.args.table.now c.args.id c.len-macros.ensures.sound c.requires.id in
    let n = c.unwrap_or-formals.ensures ∙ ap (λ (o : Option ℕ). unwrap_or o 0) c.arity.ensures ∙ arity-count (macro_at c.args.table.now.macros c.args.id).formals in
    call-room c.self.inside.frames.items _ _ c.self.inside.first c.unwrap_or-formals.result c.self.inside.bindings c.self.invariant (omega (arith, few, n))

pub returns-in-Err-clause-opening : goal.returns-in-Err-clause-opening
returns-in-Err-clause-opening c =
    let n = c.unwrap_or-formals.ensures ∙ ap (λ (o : Option ℕ). unwrap_or o 0) c.arity.ensures ∙ arity-count (macro_at c.args.table.now.macros c.args.id).formals in
    opening-refused _ _ _ _ _ _ _ _ _ _ _ c.bind_call.result c.in-Err.is n (c.bind_call.ensures.call c.requires.keeps)
    (view-is _ _ _ _ _ (ap (λ (bs : List Range). opens_of (drop c.self.inside.first c.self.inside.frames.items) bs) c.in-Err.ensures.refused) refl ∙ c.self.view_is)

pub returns-then-full-clause-opening : goal.returns-then-full-clause-opening
returns-then-full-clause-opening c =
    let n = c.unwrap_or-formals.ensures ∙ ap (λ (o : Option ℕ). unwrap_or o 0) c.arity.ensures ∙ arity-count (macro_at c.args.table.now.macros c.args.id).formals in
    let bound = call-bound _ _ _ _ _ _ _ _ c.bind_call.result c.in-Ok.is n (c.bind_call.ensures.call c.requires.keeps) c.bind_call.ensures.binds.within c.in-Ok.ensures.place in
    rw (← c.self.view_is) (opening-deep _ _ _ _ _ _ _ _ bound
    (view-is _ _ _ _ _ (ap (λ (bs : List Range). opens_of (drop c.self.inside.first c.self.inside.frames.items) bs)
    (c.truncate.ensures.items ∙ taken-back c.self.inside.bindings.items _ _ _ c.bind_call.ensures.binds.whole (c.len-bound.ensures ∙ count_items c.self.inside.bindings))) refl)
    (leb-true _ _ (rw (← c.self.view_is) at (sym c.is_full-full.ensures ∙ c.if-full.true))))

pub index_mut-requires : goal.index_mut-requires
index_mut-requires c = first-inside c.self.inside.frames c.self.inside.first c.self.inside.bindings.items (rw (← c.self.view_is) at c.requires.some)

pub free_frame-place-requires-clause-room : goal.free_frame-place-requires-clause-room
free_frame-place-requires-clause-room c =
    room-first c.self.inside.frames c.self.inside.depth c.self.inside.first c.self.inside.bindings.items (leb-false _ _ (rw (← c.self.view_is) at (sym c.is_full-full.ensures ∙ c.if-full.false)))

pub invariant_of-self-2 : goal.invariant_of-self-2
invariant_of-self-2 c =
    let few = formals-few c.args.table.now c.args.id c.len-macros.ensures.sound c.requires.id in
    let n = c.unwrap_or-formals.ensures ∙ ap (λ (o : Option ℕ). unwrap_or o 0) c.arity.ensures ∙ arity-count (macro_at c.args.table.now.macros c.args.id).formals in
    let some : c.self.inside.first < length c.self.inside.frames.items = some-open c.self.inside.frames.items c.self.inside.first c.self.inside.bindings.items (rw (← c.self.view_is) at c.requires.some) in
    stack-called c.self.inside.frames.items c.free_frame-place.new.frames.items _ _ c.self.inside.depth c.self.inside.first c.free_frame-place.result c.in-Ok.following c.self.inside.bindings c.bind_call.new.bindings _
    c.index_mut.result.now c.args.id _ c.args.parent c.len-bound.result
    c.unwrap_or-formals.result c.body_bounds-bounds.result c.free_frame-place.ensures.free c.free_frame-place.ensures.capacity some c.index_mut.ensures.value c.len-bound.ensures (omega (arith, few, n)) c.bind_call.ensures.binds.len c.bind_call.ensures.binds.whole
    c.bind_call.ensures.binds.capacity
    (lent-body c.self.inside.frames.items _ c.self.inside.first c.args.id c.args.parent c.body_bounds-bounds.result c.as_slice.ensures.value c.body_bounds-bounds.ensures) c.self.invariant

pub returns-clause-opening : goal.returns-clause-opening
returns-clause-opening c =
    let n = c.unwrap_or-formals.ensures ∙ ap (λ (o : Option ℕ). unwrap_or o 0) c.arity.ensures ∙ arity-count (macro_at c.args.table.now.macros c.args.id).formals in
    let inside : c.self.inside.first < length c.self.inside.frames.items = some-open c.self.inside.frames.items c.self.inside.first c.self.inside.bindings.items (rw (← c.self.view_is) at c.requires.some) in
    rw (← c.self.view_is) (opening-opened _ _ c.body.result.now _ _ _ _ _ _ _ (added c.self.inside.bindings.items c.bind_call.new.bindings.items) c.in-Ok.following c.bind_call.result
    c.in-Ok.is n (c.bind_call.ensures.call c.requires.keeps) c.bind_call.ensures.binds.within c.in-Ok.ensures.place c.body.ensures
    (leb-false _ _ (rw (← c.self.view_is) at (sym c.is_full-full.ensures ∙ c.if-full.false)))
    (view-is _ _ _ _ _
    (called-opens c.self.inside.frames.items c.free_frame-place.new.frames.items c.self.inside.depth c.self.inside.first c.free_frame-place.result c.in-Ok.following c.self.inside.bindings.items _
    c.bind_call.new.bindings.items c.index_mut.result.now c.args.id (length c.body.result.now)
    c.args.parent c.len-bound.result c.body_bounds-bounds.result c.free_frame-place.ensures.free inside c.index_mut.ensures.value (c.len-bound.ensures ∙ count_items c.self.inside.bindings) c.bind_call.ensures.binds.whole) refl))

pub body_bounds-bounds-requires : goal.body_bounds-bounds-requires
body_bounds-bounds-requires c = lent-bounded c.self.inside.frames.items _ c.self.inside.first c.as_slice.ensures.value c.self.invariant.bounded
