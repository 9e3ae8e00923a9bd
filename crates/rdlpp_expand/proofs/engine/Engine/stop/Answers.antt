use Rattle.std.proofs.Common.{ap, refl, sym, ◌∙◌}
use Rattle.rdlpp_state.specs.declared.place.Halt.TheVariants as halt
use Rattle.rdlpp_state.specs.Remaining.{output_fault}
use Rattle.rdlpp_state.proofs.EngineSteps.{is_closed, kept_at, steps_ended, steps_passed}
use Rattle.rdlpp_expand.proofs.engine.Engine.stop.Goals as goal

pub returns-in-OverLimit : goal.returns-in-OverLimit
returns-in-OverLimit g c = λ bounded.
    let e = c.args.self.now in
    kept_at g.S.Sources e c.record_output_fault.new.self halt.Fault (output_fault e.main) refl (ap (λ e. e.kept) c.record_output_fault.ensures)
    (steps_passed g.S.Sources e c.record_output_fault.new.self c.requires.free (sym (ap (λ e. e.phase) c.self.view_is) ∙ c.in-OverLimit.is) bounded c.record_output_fault.ensures)

pub returns-in_default : goal.returns-in_default
returns-in_default g c = λ bounded.
    steps_ended g.S.Sources c.args.self.now c.requires.started bounded c.requires.free
    (is_closed c.args.self.now.phase c.requires.started c.requires.stopped (λ e. c.in_default.not-OverLimit (ap (λ x. x.phase) c.self.view_is ∙ e)))
