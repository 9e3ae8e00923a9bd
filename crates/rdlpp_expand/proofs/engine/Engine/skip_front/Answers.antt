use Rattle.std.proofs.Common.{◌≡◌, ◌≤◌, length, take, ap, ◌∙◌, arith, length-take-le}
use Rattle.rdlpp_scan.specs.SourceTokens.{line_ends}
use Rattle.rdlpp_read.specs.Buffer.{held_of}
use Rattle.rdlpp_read.specs.Files.{inner_buffer}
use Rattle.rdlpp_read.proofs.Growing.{line_ends_le}
use Rattle.rdlpp_front.specs.SkippedText.{IsPassed}
use Rattle.rdlpp_state.proofs.FrontSteps.{entered_holds}
use Rattle.rdlpp_state.proofs.DirectiveSteps.{skipping, stretch_steps}
use Rattle.rdlpp_expand.proofs.engine.Engine.skip_front.Goals as goal

pub pass-requires-clause-inside : goal.pass-requires-clause-inside
pass-requires-clause-inside g c = grind (arith, entered_holds)

pub pass-requires-clause-lines : goal.pass-requires-clause-lines
pass-requires-clause-lines g c = grind (arith, length-take-le, line_ends_le)

pub returns : goal.returns
returns g c = λ bounded.
    let e = c.args.self.now in
    let h = held_of (inner_buffer e.files.include_stack) in
    let same = c.file.ensures.buffer ∙ ap (λ e. inner_buffer e.files.include_stack) c.self.view_is in
    let held : c.held.result.now ≡ held_of (inner_buffer c.args.self.now.files.include_stack) = c.held.ensures.value ∙ ap held_of same in
    let mode : c.mode.result ≡ (inner_buffer c.args.self.now.files.include_stack).mode = c.mode.ensures ∙ ap (λ b. b.mode) same in
    let inside : c.skip_text-stretch.result.len ≤ length h = rw (← held) c.skip_text-stretch.ensures.inside in
    let counted : c.skip_text-stretch.result.line_ends ≡ line_ends (take c.skip_text-stretch.result.len h) = c.skip_text-stretch.ensures.line_ends ∙ ap (λ x. line_ends (take c.skip_text-stretch.result.len x)) held in
    let passed : IsPassed (inner_buffer e.files.include_stack).mode h c.skip_text-stretch.result.len c.skip_text-stretch.result.mode = rw (← held, ← mode) c.skip_text-stretch.ensures.passed in
    let other = c.if-stretch-eq0.false in
    stretch_steps g.S.Sources e c.pass.new.self c.requires.ready bounded c.requires.some (skipping e c.requires.ready c.requires.skipped) c.enter_mode.new.self
    c.skip_text-stretch.result.len c.skip_text-stretch.result.line_ends c.skip_text-stretch.result.mode passed (omega arith) inside counted c.enter_mode.ensures c.pass.ensures
