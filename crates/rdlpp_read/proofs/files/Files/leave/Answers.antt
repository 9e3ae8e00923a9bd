use Rattle.std.proofs.Common.{arith, ap, ◌∙◌}
use Rattle.rdlpp_read.specs.Files.{IsSlot}
use Rattle.rdlpp_read.proofs.BufferTokens.{inner-left, same-files, slot-inner, slots-left, some-open}
use Rattle.rdlpp_read.proofs.files.Files.leave.Goals as goal

pub invariant_of-self : goal.invariant_of-self
invariant_of-self g c =
    let some = rw (← c.self.view_is) at c.requires in
    let slot : IsSlot c.self.inside.line_bytes c.index_mut.result.now =
    slot-inner c.self.inside.line_bytes c.self.inside.first c.self.inside.slots.items c.index_mut.result.now c.self.invariant some c.index_mut.ensures.value in
    slots-left c.self.inside.line_bytes c.self.inside.first c.self.inside.slots.items _ (some-open c.self.inside.first c.self.inside.slots.items some) c.self.invariant
    (record { buffer = c.facts.ensures; size = ap (λ f. f.line_bytes) c.close.ensures.closed ∙ slot.size; ends = c.close.ensures.ends; number = slot.number })
    (ap (λ f. f.reader) c.close.ensures.closed)

pub returns : goal.returns
returns g c = rw (← c.self.view_is) (same-files _ _ _ _ (inner-left c.self.inside.first c.self.inside.slots.items _))

pub index_mut-requires : goal.index_mut-requires
index_mut-requires g c =
    omega (arith, some-open c.self.inside.first c.self.inside.slots.items (rw (← c.self.view_is) at c.requires), c.self.inside.slots.ok.0)
