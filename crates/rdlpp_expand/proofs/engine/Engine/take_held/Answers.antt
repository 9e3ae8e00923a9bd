use Rattle.std.proofs.Common.{◌≡◌, ap, ◌∙◌}
use Rattle.rdlpp_read.specs.Buffer.{held_of}
use Rattle.rdlpp_read.specs.Files.{inner_buffer}
use Rattle.rdlpp_expand.proofs.engine.Engine.take_held.Goals as goal

pub take_front-requires-clause-none : goal.take_front-requires-clause-none
take_front-requires-clause-none g c = λ len next text.
    let e = c.args.self.now in
    let same = c.file.ensures.buffer ∙ ap (λ e. inner_buffer e.files.include_stack) c.self.view_is in
    let held : c.held.result.now ≡ held_of (inner_buffer e.files.include_stack) = c.held.ensures.value ∙ ap held_of same in
    let mode : c.mode.result ≡ (inner_buffer e.files.include_stack).mode = c.mode.ensures ∙ ap (λ b. b.mode) same in
    c.in-None.ensures.none len next (rw (mode, held) text)
