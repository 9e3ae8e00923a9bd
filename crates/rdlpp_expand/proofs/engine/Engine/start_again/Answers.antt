use Rattle.std.proofs.Common.{ap, sym, ◌∙◌, option_map}
use Rattle.rdlpp_meaning.specs.Outcome.{report_of}
use Rattle.rdlpp_state.specs.Failures.{is_failed_start, is_over}
use Rattle.rdlpp_state.specs.Opening.{start_fault}
use Rattle.rdlpp_expand.proofs.Readings.{failed_over, fresh_whole, starts_again, starts_never}
use Rattle.rdlpp_expand.proofs.engine.Engine.start_again.Goals as goal

pub invariant_of-self : goal.invariant_of-self
invariant_of-self g c =
    fresh_whole _ c.self.inside.phase _ _ _ _
    (ap (λ e. is_over e.phase) c.self.view_is ∙ failed_over _ (sym c.keeps_failed_start.ensures ∙ c.if-keeps_failed_start.true)) c.self.invariant

pub returns-then-keeps_failed_start : goal.returns-then-keeps_failed_start
returns-then-keeps_failed_start g c =
    rw (← c.self.view_is)
    (starts_again g.S.Sources _ _ _ _ (ap is_failed_start c.self.view_is ∙ (sym c.keeps_failed_start.ensures ∙ c.if-keeps_failed_start.true)) c.self.invariant.texts c.start.ensures)

pub returns-in-Some : goal.returns-in-Some
unfolding start_fault
returns-in-Some g c =
    starts_never g.S.Sources _ _ _ (sym c.keeps_failed_start.ensures ∙ c.if-keeps_failed_start.false) (sym (ap (option_map report_of) c.in-Some.is) ∙ c.kept_fault.ensures)

pub returns-in-None : goal.returns-in-None
unfolding start_fault
returns-in-None g c =
    starts_never g.S.Sources _ _ _ (sym c.keeps_failed_start.ensures ∙ c.if-keeps_failed_start.false) (sym (ap (option_map report_of) c.in-None.is) ∙ c.kept_fault.ensures)
