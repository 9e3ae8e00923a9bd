use Rattle.std.proofs.Common.{◌+◌, ◌≤◌, length, ap, arith, mul-le-mul_right}
use Rattle.std.proofs.lemmas.List.Elements.{All-same}
use Rattle.rdlpp_read.specs.Files.{IsSlot}
use Rattle.rdlpp_read.proofs.BufferTokens.{slot-at}
use Rattle.rdlpp_read.proofs.files.Files.capacity.Goals as goal

pub loop-file-init : goal.loop-file-init
loop-file-init g c =
    let items = c.deref-file-items.ensures.value in
    rw (← c.self.view_is) (record {
      each = All-same (IsSlot c.self.inside.line_bytes) c.deref-file-items.result.now c.self.inside.slots.items items c.self.invariant.each;
      count = omega (arith, ap length items, c.self.inside.slots.ok.0);
      sum = omega arith;
    })

pub returns : goal.returns
returns g c = grind arith

pub loop-file-preserved : goal.loop-file-preserved
loop-file-preserved g c =
    let v = c.loop-file.invariant in
    let slot = slot-at c.args.self.now.line_bytes c.loop-file.file-index c.deref-file-items.result.now c.file-item.result v.each c.loop-file-test.true c.file-item.is in
    record { each = v.each; count = v.count; sum = omega (arith, v.sum, slot.size, c.capacity-bytes.ensures) }

pub overflow_add-bytes : goal.overflow_add-bytes
overflow_add-bytes g c =
    let v = c.loop-file.invariant in
    let size = c.args.self.now.line_bytes in
    let slot = slot-at size c.loop-file.file-index c.deref-file-items.result.now c.file-item.result v.each c.loop-file-test.true c.file-item.is in
    let below : c.loop-file.file-index + 1 ≤ c.args.self.now.slots = omega (arith, v.count, c.loop-file-test.true) in
    let room = c.requires in
    omega (arith, v.sum, slot.size, c.capacity-bytes.ensures, mul-le-mul_right size below)
