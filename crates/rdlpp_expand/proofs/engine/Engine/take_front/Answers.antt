use Rattle.std.proofs.Common.{◌≡◌, [], ap, ◌∙◌}
use Rattle.rdlpp_read.specs.Buffer.{held_of}
use Rattle.rdlpp_read.specs.Files.{inner_buffer}
use Rattle.rdlpp_front.specs.SourceItems.{IsRefused}
use Rattle.rdlpp_state.proofs.EngineSteps.{not_called}
use Rattle.rdlpp_state.proofs.FrontSteps.{left_refused, read_nothing, refused_kind, refuses}
use Rattle.rdlpp_expand.proofs.engine.Engine.take_front.Goals as goal

pub returns-in-Refused : goal.returns-in-Refused
returns-in-Refused g c = λ bounded.
    let e = c.args.self.now in
    let same = c.file.ensures.buffer ∙ ap (λ e. inner_buffer e.files.include_stack) c.self.view_is in
    let held : c.held.result.now ≡ held_of (inner_buffer e.files.include_stack) = c.held.ensures.value ∙ ap held_of same in
    let mode : c.mode.result ≡ (inner_buffer e.files.include_stack).mode = c.mode.ensures ∙ ap (λ b. b.mode) same in
    let refused : IsRefused (inner_buffer e.files.include_stack).mode (held_of (inner_buffer e.files.include_stack)) c.in-Refused.kind = rw (← mode, ← held) c.in-Refused.ensures in
    refuses g.S.Sources e e c.record_fault.new.self c.record_fault.result c.in-Refused.kind _ [] c.requires.ready (read_nothing e) bounded c.record_fault.ensures.halt c.record_fault.ensures.kept
    (refused_kind _ _ _ refused) (not_called g.S.Sources e.sources)
    (λ t. left_refused g.S.Sources e c.in-Refused.kind c.requires.ready c.requires.live c.requires.some refused)

pub unreachable-requires : goal.unreachable-requires
unreachable-requires g c =
    let e = c.args.self.now in
    let same = c.file.ensures.buffer ∙ ap (λ e. inner_buffer e.files.include_stack) c.self.view_is in
    let held : c.held.result.now ≡ held_of (inner_buffer e.files.include_stack) = c.held.ensures.value ∙ ap held_of same in
    let mode : c.mode.result ≡ (inner_buffer e.files.include_stack).mode = c.mode.ensures ∙ ap (λ b. b.mode) same in
    c.requires.none _ _ (rw (mode, held) at c.in-Text.ensures)
