use Rattle.std.proofs.Common.{arith, ap, sym, ◌∙◌}
use Rattle.rdlpp_read.specs.Files.{IsSlot}
use Rattle.rdlpp_read.proofs.BufferTokens.{inner-buffered, inner-slot, moded-ends, same-files, slot-inner, slots-kept, some-open}
use Rattle.rdlpp_read.specs.Buffer.{entered_mode}
use Rattle.rdlpp_read.proofs.files.Files.enter_mode.Goals as goal

pub invariant_of-self : goal.invariant_of-self
unfolding entered_mode
invariant_of-self g c =
    let slot : IsSlot c.self.inside.line_bytes c.index_mut.result.now =
    slot-inner c.self.inside.line_bytes c.self.inside.first c.self.inside.slots.items c.index_mut.result.now c.self.invariant (rw (← c.self.view_is) at c.requires) c.index_mut.ensures.value in
    slots-kept c.self.inside.line_bytes c.self.inside.first c.self.inside.slots.items _ c.self.invariant
    (record { buffer = c.facts.ensures; size = ap (λ b. b.line_bytes) c.enter_mode.ensures ∙ slot.size; ends = moded-ends _ _ c.args.next c.enter_mode.ensures slot.ends; number = slot.number })

pub returns : goal.returns
returns g c =
    let first = c.self.inside.first in
    let slots = c.self.inside.slots.items in
    let old = c.index_mut.result.now in
    let some = rw (← c.self.view_is) at c.requires in
    let inner = inner-slot first slots old some c.index_mut.ensures.value in
    rw (← c.self.view_is) (same-files _ _ _ _ (inner-buffered first slots old c.enter_mode.new.self _ some c.index_mut.ensures.value (c.enter_mode.ensures ∙ ap (λ b. entered_mode b c.args.next) (sym inner))))

pub index_mut-requires : goal.index_mut-requires
index_mut-requires g c =
    omega (arith, some-open c.self.inside.first c.self.inside.slots.items (rw (← c.self.view_is) at c.requires), c.self.inside.slots.ok.0)
