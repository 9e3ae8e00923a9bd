use Rattle.std.proofs.Common.{◌≡◌, take, ap, ◌∙◌, arith, length-take-le}
use Rattle.rdlpp_scan.specs.SourceTokens.{line_ends, line_len}
use Rattle.rdlpp_read.specs.Buffer.{held_of}
use Rattle.rdlpp_read.specs.Files.{inner_buffer}
use Rattle.rdlpp_read.proofs.Growing.{line_ends_le}
use Rattle.rdlpp_state.proofs.DirectiveSteps.{line_steps, skipping}
use Rattle.rdlpp_expand.proofs.engine.Engine.skip_line.Goals as goal

pub pass-requires-clause-inside : goal.pass-requires-clause-inside
pass-requires-clause-inside g c = grind arith

pub pass-requires-clause-lines : goal.pass-requires-clause-lines
pass-requires-clause-lines g c = grind (arith, length-take-le, line_ends_le)

pub returns : goal.returns
returns g c = λ bounded.
    let e = c.args.self.now in
    let held : c.held-held.result.now ≡ held_of (inner_buffer c.args.self.now.files.include_stack) = c.held-held.ensures.value ∙ ap held_of (c.file.ensures.buffer ∙ ap (λ e. inner_buffer e.files.include_stack) c.self.view_is) in
    let whole : c.line_len-len.result ≡ line_len (held_of (inner_buffer e.files.include_stack)) = c.line_len-len.ensures.value ∙ ap line_len held in
    let counted : c.line_ends_in-lines.result ≡ line_ends (take c.line_len-len.result (held_of (inner_buffer e.files.include_stack))) = c.line_ends_in-lines.ensures ∙ ap (λ h. line_ends (take c.line_len-len.result h)) held in
    line_steps g.S.Sources e c.pass.new.self c.requires.ready bounded c.requires.some (skipping e c.requires.ready c.requires.skipped) c.requires.mode c.line_len-len.result c.line_ends_in-lines.result c.requires.line whole counted c.pass.ensures
