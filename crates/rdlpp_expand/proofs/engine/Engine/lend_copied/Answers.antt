use Rattle.std.proofs.Common.{◌≡◌, ◌+◌, length, take, ap, ◌∙◌, refl, arith, length-take-le}
use Rattle.rdlpp_read.specs.Buffer.{held_of}
use Rattle.rdlpp_read.specs.Files.{consumed_file, inner_buffer, with_inner}
use Rattle.rdlpp_read.proofs.Growing.{line_ends_le}
use Rattle.rdlpp_front.proofs.Insides.{text_inside}
use Rattle.rdlpp_state.specs.Marks.{lends_line}
use Rattle.rdlpp_state.proofs.LentPieces.{marking}
use Rattle.rdlpp_state.proofs.Soundness.{inner_facts}
use Rattle.rdlpp_state.proofs.FrontSteps.{entered_at, entered_holds, room_of, take_text, text_placed}
use Rattle.rdlpp_expand.proofs.engine.Engine.lend_copied.Goals as goal

pub consume-start-requires-clause-inside : goal.consume-start-requires-clause-inside
consume-start-requires-clause-inside g c =
    let same : held_of (inner_buffer c.enter_mode.new.self.files.include_stack) ≡ held_of (inner_buffer c.args.self.now.files.include_stack) =
    ap (λ e. held_of (inner_buffer e.files.include_stack)) c.enter_mode.ensures ∙ entered_holds _ _ in
    rw same ((text_inside _ _ _ _ c.requires.some c.requires.text).1)

pub consume-start-requires-clause-lines : goal.consume-start-requires-clause-lines
consume-start-requires-clause-lines g c =
    let held = held_of (inner_buffer c.args.self.now.files.include_stack) in
    let few : length (take c.args.copied.len held) ≡ c.args.copied.len = length-take-le c.args.copied.len held (text_inside _ _ _ _ c.requires.some c.requires.text).1 in
    let most = line_ends_le (take c.args.copied.len held) in
    let count = c.requires.lines in
    omega arith

pub overflow_add-result : goal.overflow_add-result
overflow_add-result g c =
    let begins : c.consume-start.result ≡ (inner_buffer c.args.self.now.files.include_stack).at = c.consume-start.ensures.start ∙ (ap (λ e. (inner_buffer e.files.include_stack).at) c.enter_mode.ensures ∙ entered_at _ _) in
    let few = (room_of c.args.self.now c.args.copied.len c.consume-start.result c.requires.ready ((text_inside _ _ _ _ c.requires.some c.requires.text).1) begins).few in
    omega arith

pub returns-clause-place : goal.returns-clause-place
returns-clause-place g c =
    let begins : c.consume-start.result ≡ (inner_buffer c.args.self.now.files.include_stack).at = c.consume-start.ensures.start ∙ (ap (λ e. (inner_buffer e.files.include_stack).at) c.enter_mode.ensures ∙ entered_at _ _) in
    text_placed c.args.self.now c.enter_mode.new.self _ c.args.copied.len c.args.copied.lines c.consume-start.result c.args.copied.next c.requires.ready
    (room_of c.args.self.now c.args.copied.len c.consume-start.result c.requires.ready ((text_inside _ _ _ _ c.requires.some c.requires.text).1) begins) c.enter_mode.ensures (lends_line c.line-line.result c.enter_mode.new.self.marks)
    (marking _ c.consume-start.new.self _ c.lend_line.new.self (lends_line c.line-line.result) c.self-2.view_is c.consume-start.ensures.used c.lend_line.ensures)

pub returns-clause-uncut_step : goal.returns-clause-uncut_step
returns-clause-uncut_step g c = λ bounded.
    let begins : c.consume-start.result ≡ (inner_buffer c.args.self.now.files.include_stack).at = c.consume-start.ensures.start ∙ (ap (λ e. (inner_buffer e.files.include_stack).at) c.enter_mode.ensures ∙ entered_at _ _) in
    let here : c.line-line.result ≡ (inner_buffer c.args.self.now.files.include_stack).line = c.line-line.ensures ∙ (ap (λ b. b.line) c.file.ensures.buffer ∙ ap (λ e. (inner_buffer e.files.include_stack).line) c.self.view_is) in
    let marked = marking _ c.consume-start.new.self _ c.lend_line.new.self (lends_line c.line-line.result) c.self-2.view_is c.consume-start.ensures.used c.lend_line.ensures in
    take_text g.S.Sources c.args.self.now c.enter_mode.new.self _ c.args.copied.len c.args.copied.lines c.consume-start.result (c.consume-start.result + c.args.copied.len) c.args.copied.next
    c.requires.ready c.requires.live bounded c.requires.some c.requires.text c.requires.lines c.enter_mode.ensures
    (marked ∙ ap (λ n. record c.enter_mode.new.self { files = record c.enter_mode.new.self.files { include_stack = with_inner (consumed_file c.args.copied.len c.args.copied.lines) c.enter_mode.new.self.files.include_stack }; marks = lends_line n c.enter_mode.new.self.marks }) here) begins refl

pub lend_line-requires : goal.lend_line-requires
lend_line-requires g c = grind (arith, inner_facts)
