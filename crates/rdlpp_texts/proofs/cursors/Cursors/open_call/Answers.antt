use Rattle.std.proofs.Common.{◌∙◌, List, Option, unwrap_or, ℕ, length, drop, ap, refl, sym, arith}
use Rattle.std.proofs.lemmas.Result.{err_from_is_err_and}
use Rattle.rdlpp_texts.specs.BoundCalls.{added}
use Rattle.rdlpp_texts.specs.declared.bindings.Range.{Range}
use Rattle.rdlpp_define.specs.Table.{macro_at}
use Rattle.rdlpp_define.specs.Macros.{formals_of}
use Rattle.rdlpp_define.proofs.Sizes.{count_items}
use Rattle.rdlpp_texts.specs.Opened.{opens_of, CursorsView}
use Rattle.rdlpp_texts.proofs.Stacking.{arity-count, call-room, entered-opens, formals-few, lent-body, lent-bounded, stack-entered, view-is}
use Rattle.rdlpp_texts.proofs.Calling.{call-dropped, call-miscounted, call-started, room-closed, started-opens}
use Rattle.rdlpp_texts.proofs.cursors.Cursors.open_call.Goals as goal

pub bind_parts-requires : goal.bind_parts-requires
bind_parts-requires c =
    let few = formals-few c.args.table.now c.args.id c.len-macros.ensures.sound c.requires.id in
    let n = c.unwrap_or-formals.ensures ∙ ap (λ (o : Option ℕ). unwrap_or o 0) c.arity.ensures ∙ arity-count (macro_at c.args.table.now.macros c.args.id).formals in
    record { room = call-room c.self.inside.frames.items _ _ c.self.inside.first c.unwrap_or-formals.result c.self.inside.bindings c.self.invariant (omega (arith, few, n)) }

pub free_frame-first-requires-clause-room : goal.free_frame-first-requires-clause-room
free_frame-first-requires-clause-room c =
    room-closed c.self.inside.frames c.self.inside.depth c.self.inside.first c.self.inside.bindings.items (rw (← c.self.view_is) at c.requires.closed) (rw (← c.self.view_is) at c.requires.room)

pub invariant_of-self-2 : goal.invariant_of-self-2
invariant_of-self-2 c =
    let few = formals-few c.args.table.now c.args.id c.len-macros.ensures.sound c.requires.id in
    let n = c.unwrap_or-formals.ensures ∙ ap (λ (o : Option ℕ). unwrap_or o 0) c.arity.ensures ∙ arity-count (macro_at c.args.table.now.macros c.args.id).formals in
    stack-entered c.self.inside.frames.items c.free_frame-first.new.frames.items _ _ c.self.inside.depth c.self.inside.first c.free_frame-first.result c.self.inside.bindings c.bind_parts.new.bindings
    (added c.self.inside.bindings.items c.bind_parts.new.bindings.items) c.args.id _ 0 c.len-bound.result
    c.unwrap_or-formals.result c.body_bounds-bounds.result c.free_frame-first.ensures.free c.free_frame-first.ensures.capacity c.len-bound.ensures (omega (arith, few, n)) c.bind_parts.ensures.binds.len c.bind_parts.ensures.binds.whole c.bind_parts.ensures.binds.capacity
    (lent-body c.self.inside.frames.items _ c.self.inside.first c.args.id 0 c.body_bounds-bounds.result c.as_slice.ensures.value c.body_bounds-bounds.ensures) c.self.invariant

pub returns-in_err-bind_parts-clause-refused : goal.returns-in_err-bind_parts-clause-refused
returns-in_err-bind_parts-clause-refused c =
    let p = err_from_is_err_and c.from_residual.result c.from_residual.ensures.1 in
    let n = c.unwrap_or-formals.ensures ∙ ap (λ (o : Option ℕ). unwrap_or o 0) c.arity.ensures ∙ arity-count (macro_at c.args.table.now.macros c.args.id).formals in
    rw (p.1, p.2)
    (call-miscounted c.args.table.now c.args.arguments.now c.args.id _ _ _ c.in_err-bind_parts.ensures.refused.0
    (c.in_err-bind_parts.ensures.count (formals_of (macro_at c.args.table.now.macros c.args.id)) (sym n))
    (view-is _ _ _ _ _ (ap (λ (bs : List Range). opens_of (drop c.self.inside.first c.self.inside.frames.items) bs) c.in_err-bind_parts.ensures.refused.1) refl ∙ c.self.view_is))

pub returns-clause-opens : goal.returns-clause-opens
returns-clause-opens c =
    let n = c.unwrap_or-formals.ensures ∙ ap (λ (o : Option ℕ). unwrap_or o 0) c.arity.ensures ∙ arity-count (macro_at c.args.table.now.macros c.args.id).formals in
    call-started c.args.table.now c.args.arguments.now c.args.id c.args.line (added c.self.inside.bindings.items c.bind_parts.new.bindings.items) _ _ c.len-macros.ensures.sound c.requires.id
    (sym c.keeps_each.ensures ∙ c.if-not-keeps_each.false) (c.in_ok-bind_parts.ensures.actuals (formals_of (macro_at c.args.table.now.macros c.args.id)) (sym n))
    (c.in_ok-bind_parts.ensures.count (formals_of (macro_at c.args.table.now.macros c.args.id)) (sym n))
    c.bind_parts.ensures.binds.within
    (view-is _ _ _ _ _
    (entered-opens c.self.inside.frames.items c.free_frame-first.new.frames.items c.self.inside.depth c.self.inside.first c.free_frame-first.result c.self.inside.bindings.items _ c.bind_parts.new.bindings.items c.args.id
    (length c.body.result.now) 0 c.len-bound.result c.body_bounds-bounds.result c.free_frame-first.ensures.free (c.len-bound.ensures ∙ count_items c.self.inside.bindings) c.bind_parts.ensures.binds.whole
    ∙ started-opens c.args.table.now c.args.arguments.now c.args.id (added c.self.inside.bindings.items c.bind_parts.new.bindings.items) c.body.result.now _ c.body.ensures
    (rw (← c.self.view_is) at c.requires.closed))
    (ap (λ (v : CursorsView). v.depth) c.self.view_is))

pub returns-then-not-keeps_each-clause-refused : goal.returns-then-not-keeps_each-clause-refused
returns-then-not-keeps_each-clause-refused c =
    call-dropped c.args.table.now c.args.arguments.now c.args.id _ _ _ refl (sym c.keeps_each.ensures ∙ c.if-not-keeps_each.true) refl

pub body_bounds-bounds-requires : goal.body_bounds-bounds-requires
body_bounds-bounds-requires c = lent-bounded c.self.inside.frames.items _ c.self.inside.first c.as_slice.ensures.value c.self.invariant.bounded
