use Rattle.std.proofs.Common.{ap, arith, ◌∙◌}
use Rattle.rdlpp_read.specs.Files.{IsSlot, consumed_file}
use Rattle.rdlpp_read.proofs.BufferTokens.{inner-changed, inner-slot, same-files, slot-inner, slots-kept, some-open}
use Rattle.rdlpp_read.proofs.files.Files.consume.Goals as goal

pub invariant_of-self : goal.invariant_of-self
invariant_of-self g c =
    let slot : IsSlot c.self.inside.line_bytes c.index_mut-file.result.now =
    slot-inner c.self.inside.line_bytes c.self.inside.first c.self.inside.slots.items c.index_mut-file.result.now c.self.invariant (rw (← c.self.view_is) at c.requires.some) c.index_mut-file.ensures.value in
    slots-kept c.self.inside.line_bytes c.self.inside.first c.self.inside.slots.items _ c.self.invariant
    (record { buffer = c.facts.ensures; size = ap (λ f. f.buffer.line_bytes) c.consume-start.ensures.used ∙ slot.size; ends = c.consume-start.ensures.ends slot.ends; number = rw c.consume-start.ensures.used slot.number })

pub returns-clause-start : goal.returns-clause-start
returns-clause-start g c =
    rw (← c.self.view_is, inner-slot c.self.inside.first c.self.inside.slots.items c.index_mut-file.result.now (rw (← c.self.view_is) at c.requires.some) c.index_mut-file.ensures.value) c.consume-start.ensures.start

pub returns-clause-used : goal.returns-clause-used
returns-clause-used g c =
    rw (← c.self.view_is) (same-files _ _ _ _ (inner-changed c.self.inside.first c.self.inside.slots.items (consumed_file c.args.len c.args.lines) c.index_mut-file.result.now _ (rw (← c.self.view_is) at c.requires.some) c.index_mut-file.ensures.value c.consume-start.ensures.used))

pub index_mut-file-requires : goal.index_mut-file-requires
index_mut-file-requires g c =
    omega (arith, some-open c.self.inside.first c.self.inside.slots.items (rw (← c.self.view_is) at c.requires.some), c.self.inside.slots.ok.0)

pub consume-start-requires-clause-inside : goal.consume-start-requires-clause-inside
consume-start-requires-clause-inside g c =
    rw (← c.self.view_is, inner-slot c.self.inside.first c.self.inside.slots.items c.index_mut-file.result.now (rw (← c.self.view_is) at c.requires.some) c.index_mut-file.ensures.value) at c.requires.inside
