use Rattle.std.proofs.Common.{arith, refl}
use Rattle.rdlpp_read.specs.Files.{IsSlot}
use Rattle.rdlpp_read.proofs.BufferTokens.{inner-changed, same-files, slot-inner, slots-kept, some-open}
use Rattle.rdlpp_read.proofs.files.Files.renumber.Goals as goal

pub invariant_of-self : goal.invariant_of-self
invariant_of-self g c =
    let slot : IsSlot c.self.inside.line_bytes c.index_mut-file.result.now =
    slot-inner c.self.inside.line_bytes c.self.inside.first c.self.inside.slots.items c.index_mut-file.result.now c.self.invariant (rw (← c.self.view_is) at c.requires.some) c.index_mut-file.ensures.value in
    slots-kept c.self.inside.line_bytes c.self.inside.first c.self.inside.slots.items _ c.self.invariant
    (record { buffer = slot.buffer; size = slot.size; ends = slot.ends; number = c.requires.number })

pub returns : goal.returns
returns g c =
    rw (← c.self.view_is) (same-files _ _ _ _ (inner-changed c.self.inside.first c.self.inside.slots.items _ c.index_mut-file.result.now _ (rw (← c.self.view_is) at c.requires.some) c.index_mut-file.ensures.value refl))

pub index_mut-file-requires : goal.index_mut-file-requires
index_mut-file-requires g c =
    omega (arith, some-open c.self.inside.first c.self.inside.slots.items (rw (← c.self.view_is) at c.requires.some), c.self.inside.slots.ok.0)
