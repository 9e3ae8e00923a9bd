use Rattle.std.proofs.Common.{◌≡◌, sym, ap, ◌∙◌}
use Rattle.rdlpp_meaning.specs.State.{shown_line}
use Rattle.rdlpp_read.specs.Files.{inner_buffer, shift_of}
use Rattle.rdlpp_state.proofs.LentPieces.{first_shift}
use Rattle.rdlpp_expand.proofs.engine.Engine.inner_source.Goals as goal

pub returns-clause-line : goal.returns-clause-line
returns-clause-line g c =
    let include_stack = ap (λ e. e.files.include_stack) (sym c.self.view_is) ∙ c.file-file.ensures.inner in
    let here : c.line.result ≡ (inner_buffer c.args.self.now.files.include_stack).line = c.line.ensures ∙ (ap (λ b. b.line) c.file-file.ensures.buffer ∙ ap (λ e. (inner_buffer e.files.include_stack).line) c.self.view_is) in
    c.shown_line.ensures ∙ (ap (shown_line (shift_of c.file-file.result.now.shift)) here
    ∙ sym (ap (λ s. shown_line s (inner_buffer c.args.self.now.files.include_stack).line) (first_shift c.args.self.now c.file-file.result.now _ include_stack)))
