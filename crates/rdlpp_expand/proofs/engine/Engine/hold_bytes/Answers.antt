use Rattle.std.proofs.Common.{false, true, [], inl, arith, refl}
use Rattle.rdlpp_meaning.specs.declared.fault.FaultKind.TheVariants as fault
use Rattle.rdlpp_state.proofs.EngineSteps.{called, silent_then, wider}
use Rattle.rdlpp_state.proofs.IncludeSteps.{ended_steps}
use Rattle.rdlpp_state.proofs.FrontSteps.{fails_reading, left_long_line, left_long_source, left_unfilled, refuses, silent_fill, slid}
use Rattle.rdlpp_expand.proofs.engine.Engine.hold_bytes.Goals as goal
use Rattle.rdlpp_state.proofs.Stores.{own_kind}

pub returns-in-Held-clause-silent : goal.returns-in-Held-clause-silent
returns-in-Held-clause-silent g c = λ new answer step.
    let ready = rw (← c.self.view_is) at c.requires in
    let filled = c.in-Held.ensures.fills in
    rw (← c.self.view_is) (silent_then g.S.Sources 1 0 _ _ new answer
    (silent_fill g.S.Sources _ _ ready (record { becomes = refl; only = c.in-Held.ensures.only; moves = slid _ _ _ _ _ filled.slides }) filled (called g.S.Sources false _ _ c.in-Held.ensures.call)) step)

pub returns-in-End-clause-uncut_step : goal.returns-in-End-clause-uncut_step
returns-in-End-clause-uncut_step g c = λ bounded.
    let ready = rw (← c.self.view_is) at c.requires in
    let filled = c.in-End.ensures.fills in
    rw (← c.self.view_is) (wider g.S.Sources 0 1 _ _ _ (omega arith) (ended_steps g.S.Sources _ _ c.end.new.self ready
    (record { becomes = refl; only = c.in-End.ensures.only; moves = slid _ _ _ _ _ filled.slides }) bounded filled (called g.S.Sources false _ _ c.in-End.ensures.call) c.end.result c.end.ensures))

pub returns-in-SourceLong-clause-uncut_step : goal.returns-in-SourceLong-clause-uncut_step
returns-in-SourceLong-clause-uncut_step g c = λ bounded.
    let ready = rw (← c.self.view_is) at c.requires in
    let filled = c.in-SourceLong.ensures.fills in
    rw (← c.self.view_is) (wider g.S.Sources 0 1 _ _ _ (omega arith) (refuses g.S.Sources _ _ c.record_fault.new.self c.record_fault.result fault.SourceTooLong _ [] ready
    (record { becomes = refl; only = c.in-SourceLong.ensures.only; moves = slid _ _ _ _ _ filled.slides }) bounded c.record_fault.ensures.halt
    c.record_fault.ensures.kept (own_kind _ refl) (called g.S.Sources false _ _ c.in-SourceLong.ensures.call)
    (λ t. left_long_source g.S.Sources _ (record c.args.self.now { files = c.fill.new.self }) ready t filled)))

pub returns-in-LineLong-clause-uncut_step : goal.returns-in-LineLong-clause-uncut_step
returns-in-LineLong-clause-uncut_step g c = λ bounded.
    let ready = rw (← c.self.view_is) at c.requires in
    let filled = c.in-LineLong.ensures.fills in
    rw (← c.self.view_is) (wider g.S.Sources 0 1 _ _ _ (omega arith) (refuses g.S.Sources _ _ c.record_fault-in-LineLong.new.self c.record_fault-in-LineLong.result fault.LineTooLong _ [] ready
    (record { becomes = refl; only = c.in-LineLong.ensures.only; moves = slid _ _ _ _ _ filled.slides }) bounded c.record_fault-in-LineLong.ensures.halt
    c.record_fault-in-LineLong.ensures.kept (own_kind _ refl) (called g.S.Sources false _ _ c.in-LineLong.ensures.call)
    (λ t. left_long_line g.S.Sources _ (record c.args.self.now { files = c.fill.new.self }) ready t filled)))

pub returns-in-Failed-clause-uncut_step : goal.returns-in-Failed-clause-uncut_step
returns-in-Failed-clause-uncut_step g c = λ bounded.
    let ready = rw (← c.self.view_is) at c.requires in
    let filled = c.in-Failed.ensures.fills in
    rw (← c.self.view_is) (wider g.S.Sources 0 1 _ _ _ (omega arith) (fails_reading g.S.Sources _ _ c.record_read_fault.new.self c.record_read_fault.result ready
    (record { becomes = refl; only = c.in-Failed.ensures.only; moves = slid _ _ _ _ _ filled.slides }) (inl filled.bytes) bounded
    c.record_read_fault.ensures.halt c.record_read_fault.ensures.kept (called g.S.Sources true _ _ c.in-Failed.ensures.call)
    (λ t. left_unfilled g.S.Sources _ (record c.args.self.now { files = c.fill.new.self }) ready t filled)))
