use Rattle.std.proofs.Common.{Option, ap, option_map, subst, sym, ◌∙◌}
use Rattle.rdlpp_meaning.specs.Outcome.{Report, report_of}
use Rattle.rdlpp_state.specs.Opening.{Starts, start_fault}
use Rattle.rdlpp_expand.proofs.engine.Engine.start.Goals as goal

pub returns-in-Some : goal.returns-in-Some
unfolding start_fault
returns-in-Some g c =
    subst (λ (answer : Option Report). Starts g.S.Sources c.args.self.now c.open.new.self c.args.path.now answer) (sym c.kept_fault.ensures ∙ ap (option_map report_of) c.in-Some.is) c.open.ensures

pub returns-in-None : goal.returns-in-None
unfolding start_fault
returns-in-None g c =
    subst (λ (answer : Option Report). Starts g.S.Sources c.args.self.now c.open.new.self c.args.path.now answer) (sym c.kept_fault.ensures ∙ ap (option_map report_of) c.in-None.is) c.open.ensures
