use Rattle.rdlpp_state.specs.Searches.{is_failed_search}
use Rattle.rdlpp_expand.proofs.Readings.{both_tests, first_test}
use Rattle.rdlpp_expand.proofs.engine.Engine.keeps_failed_search.Goals as goal

pub returns-then-keeps_failed_call : goal.returns-then-keeps_failed_call
unfolding is_failed_search
returns-then-keeps_failed_call g c = both_tests _ _ _ _ c.keeps_failed_call.ensures c.if-keeps_failed_call.true c.is_at_include.ensures

pub returns-else-keeps_failed_call : goal.returns-else-keeps_failed_call
unfolding is_failed_search
returns-else-keeps_failed_call g c = first_test _ _ _ c.keeps_failed_call.ensures c.if-keeps_failed_call.false
