use Rattle.std.proofs.Common.{◌≡◌, length, take, sym, ap, ◌∙◌, arith, length-take-le}
use Rattle.rdlpp_scan.specs.SourceTokens.{line_ends}
use Rattle.rdlpp_read.specs.Buffer.{held_of}
use Rattle.rdlpp_read.specs.Files.{inner_buffer}
use Rattle.rdlpp_read.proofs.Growing.{line_ends_le}
use Rattle.rdlpp_front.proofs.Insides.{text_inside}
use Rattle.rdlpp_state.proofs.FrontSteps.{entered_holds}
use Rattle.rdlpp_state.proofs.DirectiveSteps.{part_steps, skipping}
use Rattle.rdlpp_expand.proofs.engine.Engine.skip_part.Goals as goal

pub slice_bounds-line_ends_in-end : goal.slice_bounds-line_ends_in-end
slice_bounds-line_ends_in-end g c =
    let held : c.held.result.now ≡ held_of (inner_buffer c.args.self.now.files.include_stack) = c.held.ensures.value ∙ ap held_of (c.file.ensures.buffer ∙ ap (λ e. inner_buffer e.files.include_stack) c.self.view_is) in
    sym (length-take-le c.args.len c.held.result.now (rw held ((text_inside _ _ _ _ c.requires.some c.requires.text).1)))

pub pass-requires-clause-inside : goal.pass-requires-clause-inside
pass-requires-clause-inside g c =
    let same : held_of (inner_buffer c.enter_mode.new.self.files.include_stack) ≡ held_of (inner_buffer c.args.self.now.files.include_stack) =
    ap (λ e. held_of (inner_buffer e.files.include_stack)) c.enter_mode.ensures ∙ entered_holds _ _ in
    rw same ((text_inside _ _ _ _ c.requires.some c.requires.text).1)

pub pass-requires-clause-lines : goal.pass-requires-clause-lines
pass-requires-clause-lines g c =
    let held : c.held.result.now ≡ held_of (inner_buffer c.args.self.now.files.include_stack) = c.held.ensures.value ∙ ap held_of (c.file.ensures.buffer ∙ ap (λ e. inner_buffer e.files.include_stack) c.self.view_is) in
    let few : length (take c.args.len c.held.result.now) ≡ c.args.len = length-take-le c.args.len c.held.result.now (rw held ((text_inside _ _ _ _ c.requires.some c.requires.text).1)) in
    let most = line_ends_le (take c.args.len c.held.result.now) in
    let count = c.line_ends_in-lines.ensures in
    omega arith

pub returns : goal.returns
returns g c = λ bounded.
    let e = c.args.self.now in
    let held : c.held.result.now ≡ held_of (inner_buffer c.args.self.now.files.include_stack) = c.held.ensures.value ∙ ap held_of (c.file.ensures.buffer ∙ ap (λ e. inner_buffer e.files.include_stack) c.self.view_is) in
    let counted : c.line_ends_in-lines.result ≡ line_ends (take c.args.len (held_of (inner_buffer e.files.include_stack))) = c.line_ends_in-lines.ensures ∙ ap (λ h. line_ends (take c.args.len h)) held in
    part_steps g.S.Sources e c.pass.new.self c.requires.ready bounded c.requires.some (skipping e c.requires.ready c.requires.skipped) c.enter_mode.new.self
    c.args.len c.line_ends_in-lines.result c.args.next c.requires.text counted c.enter_mode.ensures c.pass.ensures
