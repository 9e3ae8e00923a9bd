use Rattle.std.proofs.Common.{false, true, [], ap, ◌∙◌, refl}
use Rattle.rdlpp_meaning.specs.declared.fault.FaultKind.TheVariants as fault
use Rattle.rdlpp_read.specs.Files.{inner_buffer}
use Rattle.rdlpp_front.proofs.TextLeft.{define_inside, define_rest_whole}
use Rattle.rdlpp_state.proofs.EngineSteps.{called}
use Rattle.rdlpp_state.proofs.FrontSteps.{IsRead, defined_steps, held_few, fails_reading, left_cut_define, left_long_define, left_unheld, opened_phase, refuses, slid, reading_define}
use Rattle.rdlpp_expand.proofs.engine.Engine.define_line.Goals as goal
use Rattle.rdlpp_state.proofs.Stores.{own_kind}

pub read_define-requires : goal.read_define-requires
read_define-requires g c =
    let e = c.in-Whole.ensures in
    let has = e.holds.has in
    record {
      include_stack = c.facts.ensures.sound.open_ (opened_phase _ (ap (λ e. e.phase) e.becomes ∙ c.requires.ready.open_));
      inside = has.0;
      line = define_rest_whole _ _ _ e.holds.extends.more (inner_buffer c.hold_line.new.self.files.include_stack) c.in-Whole.len c.requires.some c.requires.define e.holds.extends.held has.1;
      nothing = ap (λ e. e.pending) e.becomes ∙ c.requires.ready.pending;
      idle = ap (λ e. e.expansion.opens) e.becomes ∙ c.requires.ready.idle;
      files = c.facts.ensures.files;
    }

pub returns-in-Whole : goal.returns-in-Whole
returns-in-Whole g c = λ bounded.
    let e = c.in-Whole.ensures in
    let r : IsRead g.S.Sources c.args.self.now c.hold_line.new.self = record { becomes = e.becomes; only = e.only; moves = slid _ _ _ _ _ e.holds.slides } in
    let has = e.holds.has in
    let wide = define_inside _ _ _ e.holds.extends.more (inner_buffer c.hold_line.new.self.files.include_stack) c.in-Whole.len c.requires.some c.requires.define e.holds.extends.held has.1 in
    let some = c.facts.ensures.sound.open_ (opened_phase _ (ap (λ e. e.phase) e.becomes ∙ c.requires.ready.open_)) in
    defined_steps g.S.Sources c.args.self.now c.hold_line.new.self c.read_define.new.self c.in-Whole.len c.requires.ready c.requires.live r bounded c.requires.some c.requires.mode c.requires.define
    e.holds (called g.S.Sources false _ _ e.call) c.read_define.result wide has.0 (held_few c.hold_line.new.self c.facts.ensures.sound c.facts.ensures.files some) c.read_define.ensures

pub returns-in-TooLong : goal.returns-in-TooLong
returns-in-TooLong g c = λ bounded.
    let e = c.in-TooLong.ensures in
    let r : IsRead g.S.Sources c.args.self.now c.hold_line.new.self = record { becomes = e.becomes; only = e.only; moves = slid _ _ _ _ _ e.holds.slides } in
    refuses g.S.Sources c.args.self.now c.hold_line.new.self c.record_fault.new.self c.record_fault.result fault.LineTooLong _ [] c.requires.ready r bounded c.record_fault.ensures.halt
    c.record_fault.ensures.kept (own_kind _ refl) (called g.S.Sources false _ _ e.call)
    (λ t. left_long_define g.S.Sources c.args.self.now c.hold_line.new.self c.requires.ready t c.requires.live c.requires.some c.requires.mode c.requires.define e.holds)

pub returns-in-SourceLong : goal.returns-in-SourceLong
returns-in-SourceLong g c = λ bounded.
    let e = c.in-SourceLong.ensures in
    let r : IsRead g.S.Sources c.args.self.now c.hold_line.new.self = record { becomes = e.becomes; only = e.only; moves = slid _ _ _ _ _ e.holds.slides } in
    refuses g.S.Sources c.args.self.now c.hold_line.new.self c.record_fault-in-SourceLong.new.self c.record_fault-in-SourceLong.result fault.SourceTooLong _ [] c.requires.ready r bounded c.record_fault-in-SourceLong.ensures.halt
    c.record_fault-in-SourceLong.ensures.kept (own_kind _ refl) (called g.S.Sources false _ _ e.call)
    (λ t. left_cut_define g.S.Sources c.args.self.now c.hold_line.new.self c.requires.ready t c.requires.live c.requires.some c.requires.mode c.requires.define e.holds)

pub returns-in-Failed : goal.returns-in-Failed
returns-in-Failed g c = λ bounded.
    let e = c.in-Failed.ensures in
    let r : IsRead g.S.Sources c.args.self.now c.hold_line.new.self = record { becomes = e.becomes; only = e.only; moves = slid _ _ _ _ _ e.holds.slides } in
    fails_reading g.S.Sources c.args.self.now c.hold_line.new.self c.record_read_fault.new.self c.record_read_fault.result c.requires.ready r (reading_define _ _ e.holds.extends.more c.requires.some c.requires.define e.holds.extends.held) bounded
    c.record_read_fault.ensures.halt c.record_read_fault.ensures.kept (called g.S.Sources true _ _ e.call)
    (λ t. left_unheld g.S.Sources c.args.self.now c.hold_line.new.self c.requires.ready t e.holds)
