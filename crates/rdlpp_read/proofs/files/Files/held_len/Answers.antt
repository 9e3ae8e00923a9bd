use Rattle.std.proofs.Common.{◌∙◌, ap, arith, drop, length-drop, refl}
use Rattle.std.proofs.lemmas.List.{take_all}
use Rattle.rdlpp_read.specs.Files.{AreOpen, FilesView, held_bytes}
use Rattle.rdlpp_read.proofs.BufferTokens.{held-more, held-part, slots-open}
use Rattle.rdlpp_read.proofs.files.Files.held_len.Goals as goal

pub overflow_add-len : goal.overflow_add-len
overflow_add-len g c =
    let v = c.loop-file.invariant in
    let open_ : AreOpen c.args.self.now =
    rw (← c.self.view_is) (slots-open c.self.inside.line_bytes c.self.inside.first c.self.inside.slots.items _ (omega (arith, c.self.inside.slots.ok.0)) c.self.invariant) in
    let within = held-part c.args.self.now _ c.loop-file.file-index c.file-item.result v.items open_ c.loop-file-test.true c.file-item.is in
    let room = c.requires in
    omega (arith, v.sum, c.len-len.ensures)

pub loop-file-preserved : goal.loop-file-preserved
loop-file-preserved g c =
    let v = c.loop-file.invariant in
    record { items = v.items; sum = omega (arith, v.sum, c.len-len.ensures, held-more _ c.loop-file.file-index c.file-item.result c.loop-file-test.true c.file-item.is) }

pub loop-file-init : goal.loop-file-init
loop-file-init g c =
    let first = c.self.inside.first in
    let whole = take_all _ (drop first c.deref.result.now) (omega (arith, length-drop first c.deref.result.now)) in
    record { items = whole ∙ ap (drop first) c.deref.ensures.value ∙ ap (λ (f : FilesView _). f.include_stack) c.self.view_is; sum = refl }

pub returns : goal.returns
returns g c =
    let v = c.loop-file.invariant in v.sum ∙ ap held_bytes (take_all c.loop-file.file-index _ c.loop-file-test.false ∙ v.items)
