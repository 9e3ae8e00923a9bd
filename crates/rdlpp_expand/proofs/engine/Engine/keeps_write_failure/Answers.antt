use Rattle.std.proofs.Common.{◌≡◌, Some, ap, ◌∙◌, option_map, arith}
use Rattle.rdlpp_meaning.specs.Outcome.{report_of}
use Rattle.rdlpp_state.specs.Steps.{is_write_failed}
use Rattle.rdlpp_state.proofs.EngineSteps.{write_failed_by}
use Rattle.rdlpp_expand.proofs.engine.Engine.keeps_write_failure.Goals as goal

pub returns-in-Some : goal.returns-in-Some
unfolding is_write_failed
returns-in-Some g c = λ f e.
    let kept : option_map report_of c.self.inside.kept ≡ Some f = ap (λ e. e.kept) c.self.view_is ∙ e in
    let own : c.eq.result ≡ is_write_failed c.in-Some.fault.kind = grind arith in
    own ∙ write_failed_by _ f (rw c.in-Some.is at kept)
