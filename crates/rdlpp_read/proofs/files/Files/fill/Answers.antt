use Rattle.std.proofs.Common.{◌≡◌, ◌<◌, ◌∙◌, [], ap, length, sym, arith}
use Rattle.rdlpp_read.specs.Buffer.{held_of}
use Rattle.rdlpp_read.specs.Files.{IsSlot}
use Rattle.rdlpp_read.proofs.BufferTokens.{grows-fills, held-fills, inner-buffered, inner-set, inner-slot, none-held, same-files, slot-inner, slots-kept, some-open}
use Rattle.rdlpp_read.proofs.files.Files.fill.Goals as goal

pub returns-then-not-is_empty-clause-fills : goal.returns-then-not-is_empty-clause-fills
returns-then-not-is_empty-clause-fills g c =
    let some : 0 < length (held_of c.file.result.now.buffer) = grind arith in
    rw (← c.file.ensures.buffer) (held-fills _ _ _ some)

pub take_lines-fill-requires : goal.take_lines-fill-requires
take_lines-fill-requires g c =
    (slot-inner c.self.inside.line_bytes c.self.inside.first c.self.inside.slots.items c.index_mut.result.now c.self.invariant (rw (← c.self.view_is) at c.requires) c.index_mut.ensures.value).ends

pub invariant_of-self : goal.invariant_of-self
invariant_of-self g c =
    let slot : IsSlot c.self.inside.line_bytes c.index_mut.result.now =
    slot-inner c.self.inside.line_bytes c.self.inside.first c.self.inside.slots.items c.index_mut.result.now c.self.invariant (rw (← c.self.view_is) at c.requires) c.index_mut.ensures.value in
    slots-kept c.self.inside.line_bytes c.self.inside.first c.self.inside.slots.items _ c.self.invariant
    (record { buffer = c.facts.ensures; size = c.take_lines-fill.ensures.grows.line_bytes ∙ slot.size; ends = c.take_lines-fill.ensures.ends; number = slot.number })

pub returns-clause-fills : goal.returns-clause-fills
returns-clause-fills g c =
    let first = c.self.inside.first in
    let slots = c.self.inside.slots.items in
    let old = c.index_mut.result.now in
    let some = rw (← c.self.view_is) at c.requires in
    let inner = inner-slot first slots old some c.index_mut.ensures.value in
    let buffer = rw (← c.self.view_is) at c.file.ensures.buffer in
    let same : c.file.result.now.buffer ≡ old.buffer = buffer ∙ inner in
    let none : held_of old.buffer ≡ [] = ap held_of (sym same) ∙ (sym c.held.ensures.value ∙ none-held _ (sym c.is_empty.ensures ∙ c.if-not-is_empty.false)) in
    rw (← c.self.view_is, inner, inner-set first slots _ some) (grows-fills _ _ c.take_lines-fill.result old.buffer c.take_lines-fill.new.buffer none c.take_lines-fill.ensures.grows)

pub returns-clause-only : goal.returns-clause-only
returns-clause-only g c =
    let first = c.self.inside.first in
    let slots = c.self.inside.slots.items in
    let some = rw (← c.self.view_is) at c.requires in
    rw (← c.self.view_is) (same-files _ _ _ _ (inner-buffered first slots c.index_mut.result.now c.take_lines-fill.new.buffer _ some c.index_mut.ensures.value (sym (inner-set first slots _ some))))

pub index_mut-requires : goal.index_mut-requires
index_mut-requires g c =
    omega (arith, some-open c.self.inside.first c.self.inside.slots.items (rw (← c.self.view_is) at c.requires), c.self.inside.slots.ok.0)
