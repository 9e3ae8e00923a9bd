use Rattle.std.proofs.Common.{ap, sym, ◌∙◌, option_map}
use Rattle.rdlpp_meaning.specs.Outcome.{report_of}
use Rattle.rdlpp_expand.proofs.Readings.{failed_by, failed_none}
use Rattle.rdlpp_expand.proofs.engine.Engine.keeps_failed_call.Goals as goal

pub returns-in-Some : goal.returns-in-Some
returns-in-Some g c = c.is_call_failure.ensures ∙ failed_by _ _ (sym (ap (λ e. e.kept) c.self.view_is) ∙ ap (option_map report_of) c.in-Some.is)

pub returns-in-None : goal.returns-in-None
returns-in-None g c = failed_none _ (sym (ap (λ e. e.kept) c.self.view_is) ∙ ap (option_map report_of) c.in-None.is)
