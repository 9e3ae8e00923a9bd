use Rattle.std.proofs.Common.{◌≡◌, true, false, take, [], ap, ◌∙◌, arith, refl, length-take-le}
use Rattle.rdlpp_scan.specs.SourceTokens.{line_ends}
use Rattle.rdlpp_meaning.specs.declared.fault.FaultKind.TheVariants as fault
use Rattle.rdlpp_read.specs.Buffer.{held_of}
use Rattle.rdlpp_read.specs.Files.{inner_buffer}
use Rattle.rdlpp_read.proofs.Growing.{line_ends_le}
use Rattle.rdlpp_front.proofs.TextLeft.{define_inside}
use Rattle.rdlpp_state.proofs.EngineSteps.{called}
use Rattle.rdlpp_state.proofs.FrontSteps.{IsRead, fails_reading, held_few, left_unheld, opened_phase, refuses, slid, reading_define}
use Rattle.rdlpp_state.proofs.DirectiveSteps.{define_steps, left_cut, left_long, skipping}
use Rattle.rdlpp_expand.proofs.engine.Engine.skip_define.Goals as goal
use Rattle.rdlpp_state.proofs.Stores.{own_kind}

pub slice_bounds-line_ends_in-end : goal.slice_bounds-line_ends_in-end
slice_bounds-line_ends_in-end g c = grind (arith, length-take-le)

pub pass-requires-clause-include_stack : goal.pass-requires-clause-include_stack
pass-requires-clause-include_stack g c = c.facts.ensures.sound.open_ (opened_phase _ (ap (λ e. e.phase) c.in-Whole.ensures.becomes ∙ c.requires.ready.open_))

pub pass-requires-clause-inside : goal.pass-requires-clause-inside
pass-requires-clause-inside g c = c.in-Whole.ensures.holds.has.0

pub pass-requires-clause-lines : goal.pass-requires-clause-lines
pass-requires-clause-lines g c = grind (arith, length-take-le, line_ends_le)

pub pass-requires-clause-nothing : goal.pass-requires-clause-nothing
pass-requires-clause-nothing g c = ap (λ e. e.pending) c.in-Whole.ensures.becomes ∙ c.requires.ready.pending

pub returns-in-Whole : goal.returns-in-Whole
returns-in-Whole g c = λ bounded.
    let o = c.args.self.now in
    let e = c.in-Whole.ensures in
    let r : IsRead g.S.Sources o c.hold_line.new.self = record { becomes = e.becomes; only = e.only; moves = slid _ _ _ _ _ e.holds.slides } in
    let has = e.holds.has in
    let same = c.file.ensures.buffer ∙ ap (λ e. inner_buffer e.files.include_stack) c.self.view_is in
    let held : c.held.result.now ≡ held_of (inner_buffer c.hold_line.new.self.files.include_stack) = c.held.ensures.value ∙ ap held_of same in
    let counted : c.line_ends_in-lines.result ≡ line_ends (take c.in-Whole.len (held_of (inner_buffer c.hold_line.new.self.files.include_stack))) = c.line_ends_in-lines.ensures ∙ ap (λ h. line_ends (take c.in-Whole.len h)) held in
    let wide = define_inside _ _ _ e.holds.extends.more (inner_buffer c.hold_line.new.self.files.include_stack) c.in-Whole.len c.requires.some c.requires.define e.holds.extends.held has.1 in
    let some = c.facts.ensures.sound.open_ (opened_phase _ (ap (λ e. e.phase) e.becomes ∙ c.requires.ready.open_)) in
    define_steps g.S.Sources o c.pass.new.self c.requires.ready bounded c.requires.some (skipping o c.requires.ready c.requires.skipped) c.requires.mode c.requires.define c.hold_line.new.self r
    c.in-Whole.len c.line_ends_in-lines.result e.holds (called g.S.Sources false _ _ e.call) (omega arith) has.0 (held_few c.hold_line.new.self c.facts.ensures.sound c.facts.ensures.files some) counted c.pass.ensures

pub returns-in-TooLong : goal.returns-in-TooLong
returns-in-TooLong g c = λ bounded.
    let o = c.args.self.now in
    let e = c.in-TooLong.ensures in
    let r : IsRead g.S.Sources o c.hold_line.new.self = record { becomes = e.becomes; only = e.only; moves = slid _ _ _ _ _ e.holds.slides } in
    refuses g.S.Sources o c.hold_line.new.self c.record_fault.new.self c.record_fault.result fault.LineTooLong _ [] c.requires.ready r bounded c.record_fault.ensures.halt
    c.record_fault.ensures.kept (own_kind _ refl) (called g.S.Sources false _ _ e.call)
    (λ t. left_long g.S.Sources o c.record_fault.new.self c.requires.ready bounded c.requires.some (skipping o c.requires.ready c.requires.skipped) c.requires.mode c.requires.define c.hold_line.new.self r e.holds t)

pub returns-in-SourceLong : goal.returns-in-SourceLong
returns-in-SourceLong g c = λ bounded.
    let o = c.args.self.now in
    let e = c.in-SourceLong.ensures in
    let r : IsRead g.S.Sources o c.hold_line.new.self = record { becomes = e.becomes; only = e.only; moves = slid _ _ _ _ _ e.holds.slides } in
    refuses g.S.Sources o c.hold_line.new.self c.record_fault-in-SourceLong.new.self c.record_fault-in-SourceLong.result fault.SourceTooLong _ [] c.requires.ready r bounded c.record_fault-in-SourceLong.ensures.halt
    c.record_fault-in-SourceLong.ensures.kept (own_kind _ refl) (called g.S.Sources false _ _ e.call)
    (λ t. left_cut g.S.Sources o c.record_fault-in-SourceLong.new.self c.requires.ready bounded c.requires.some (skipping o c.requires.ready c.requires.skipped) c.requires.mode c.requires.define c.hold_line.new.self r e.holds t)

pub returns-in-Failed : goal.returns-in-Failed
returns-in-Failed g c = λ bounded.
    let o = c.args.self.now in
    let e = c.in-Failed.ensures in
    let r : IsRead g.S.Sources o c.hold_line.new.self = record { becomes = e.becomes; only = e.only; moves = slid _ _ _ _ _ e.holds.slides } in
    fails_reading g.S.Sources o c.hold_line.new.self c.record_read_fault.new.self c.record_read_fault.result c.requires.ready r (reading_define _ _ e.holds.extends.more c.requires.some c.requires.define e.holds.extends.held) bounded
    c.record_read_fault.ensures.halt c.record_read_fault.ensures.kept (called g.S.Sources true _ _ e.call)
    (λ t. left_unheld g.S.Sources o c.hold_line.new.self c.requires.ready t e.holds)
