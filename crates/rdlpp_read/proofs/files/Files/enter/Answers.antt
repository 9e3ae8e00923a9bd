use Rattle.std.proofs.Common.{◌<◌, ◌-◌, ap, ◌∙◌, ◌∷◌, arith, drop, length-drop}
use Rattle.rdlpp_read.specs.Buffer.{opened_buffer}
use Rattle.rdlpp_read.specs.Files.{IsSlot}
use Rattle.rdlpp_read.proofs.BufferTokens.{entered-file, entered-include_stack, same-files, slot-at, slots-entered}
use Rattle.rdlpp_read.proofs.files.Files.enter.Goals as goal

pub invariant_of-self : goal.invariant_of-self
invariant_of-self g c =
    let room = rw (← c.self.view_is) at c.requires.room in
    let some : 0 < c.self.inside.first = omega (arith, length-drop c.self.inside.first c.self.inside.slots.items) in
    let inside = c.self.invariant.inside in
    let slot : IsSlot c.self.inside.line_bytes c.index_mut-file.result.now =
    slot-at c.self.inside.line_bytes (c.self.inside.first - 1) c.self.inside.slots.items c.index_mut-file.result.now c.self.invariant.each (omega arith) c.index_mut-file.ensures.value in
    slots-entered c.self.inside.line_bytes c.self.inside.first c.self.inside.slots.items _ c.self.invariant
    (record { buffer = c.facts.ensures; size = ap (λ f. f.line_bytes) c.open.ensures.opened ∙ slot.size; ends = c.open.ensures.ends; number = omega arith })

pub returns : goal.returns
unfolding opened_buffer
returns g c =
    let first = c.self.inside.first in
    let slots = c.self.inside.slots.items in
    let room = rw (← c.self.view_is) at c.requires.room in
    let some : 0 < first = omega (arith, length-drop first slots) in
    let inside = c.self.invariant.inside in
    let slot : IsSlot c.self.inside.line_bytes c.index_mut-file.result.now =
    slot-at c.self.inside.line_bytes (first - 1) slots c.index_mut-file.result.now c.self.invariant.each (omega arith) c.index_mut-file.ensures.value in
    let same = entered-file c.args.found c.args.source_bytes _ _ c.args.conditions_below c.args.include_line c.open.new.self c.open.ensures.opened slot.size in
    rw (← c.self.view_is) (same-files _ _ _ _ (entered-include_stack first slots _ some inside ∙ ap (λ f. f ∷ drop first slots) same))

pub overflow_sub-at : goal.overflow_sub-at
overflow_sub-at g c =
    let room = rw (← c.self.view_is) at c.requires.room in omega (arith, length-drop c.self.inside.first c.self.inside.slots.items)

pub index_mut-file-requires : goal.index_mut-file-requires
index_mut-file-requires g c =
    let room = rw (← c.self.view_is) at c.requires.room in
    let inside = c.self.invariant.inside in
    omega (arith, length-drop c.self.inside.first c.self.inside.slots.items, c.self.inside.slots.ok.0)
