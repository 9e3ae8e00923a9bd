use Rattle.std.proofs.Common.{arith, ◌∙◌, sym}
use Rattle.rdlpp_read.specs.Files.{IsSlot}
use Rattle.rdlpp_read.proofs.BufferTokens.{inner-buffered, inner-set, inner-slot, same-files, slot-inner, slots-kept, some-open}
use Rattle.rdlpp_read.proofs.files.Files.hold_line.Goals as goal

pub hold_logical_line-line-requires : goal.hold_logical_line-line-requires
hold_logical_line-line-requires g c =
    (slot-inner c.self.inside.line_bytes c.self.inside.first c.self.inside.slots.items c.index_mut.result.now c.self.invariant (rw (← c.self.view_is) at c.requires) c.index_mut.ensures.value).ends

pub invariant_of-self : goal.invariant_of-self
invariant_of-self g c =
    let slot : IsSlot c.self.inside.line_bytes c.index_mut.result.now =
    slot-inner c.self.inside.line_bytes c.self.inside.first c.self.inside.slots.items c.index_mut.result.now c.self.invariant (rw (← c.self.view_is) at c.requires) c.index_mut.ensures.value in
    slots-kept c.self.inside.line_bytes c.self.inside.first c.self.inside.slots.items _ c.self.invariant
    (record { buffer = c.facts.ensures; size = c.hold_logical_line-line.ensures.holds.extends.line_bytes ∙ slot.size; ends = c.hold_logical_line-line.ensures.ends; number = slot.number })

pub returns-clause-only : goal.returns-clause-only
returns-clause-only g c =
    let first = c.self.inside.first in
    let slots = c.self.inside.slots.items in
    let some = rw (← c.self.view_is) at c.requires in
    rw (← c.self.view_is) (same-files _ _ _ _ (inner-buffered first slots c.index_mut.result.now c.hold_logical_line-line.new.buffer _ some c.index_mut.ensures.value (sym (inner-set first slots _ some))))

pub returns-clause-holds : goal.returns-clause-holds
returns-clause-holds g c =
    let first = c.self.inside.first in
    let slots = c.self.inside.slots.items in
    let some = rw (← c.self.view_is) at c.requires in
    rw (← c.self.view_is, inner-slot first slots c.index_mut.result.now some c.index_mut.ensures.value, inner-set first slots _ some) c.hold_logical_line-line.ensures.holds

pub index_mut-requires : goal.index_mut-requires
index_mut-requires g c =
    omega (arith, some-open c.self.inside.first c.self.inside.slots.items (rw (← c.self.view_is) at c.requires), c.self.inside.slots.ok.0)
