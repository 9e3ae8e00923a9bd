use Rattle.std.proofs.Common.{◌≡◌, ap, ◌∙◌, arith}
use Rattle.rdlpp_state.specs.Searches.{is_failed_start, is_over}
use Rattle.rdlpp_expand.proofs.Readings.{both_tests, first_test}
use Rattle.rdlpp_expand.proofs.engine.Engine.keeps_failed_start.Goals as goal

pub returns-then-keeps_failed_call : goal.returns-then-keeps_failed_call
unfolding is_failed_start is_over
returns-then-keeps_failed_call g c =
    let over : c.eq.result ≡ is_over c.self.inside.phase = grind arith in
    both_tests _ _ _ _ c.keeps_failed_call.ensures c.if-keeps_failed_call.true (over ∙ ap (λ e. is_over e.phase) c.self.view_is)

pub returns-else-keeps_failed_call : goal.returns-else-keeps_failed_call
unfolding is_failed_start
returns-else-keeps_failed_call g c = first_test _ _ _ c.keeps_failed_call.ensures c.if-keeps_failed_call.false
