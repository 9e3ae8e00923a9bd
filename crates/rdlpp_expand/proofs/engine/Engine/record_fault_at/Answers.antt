use Rattle.std.proofs.Common.{arith}
use Rattle.rdlpp_meaning.specs.Outcome.{report_of}
use Rattle.rdlpp_state.specs.Remaining.{state_of}
use Rattle.rdlpp_state.proofs.Soundness.{inner_number, told_first}
use Rattle.rdlpp_expand.proofs.engine.Engine.record_fault_at.Goals as goal

pub shown_line-requires : goal.shown_line-requires
shown_line-requires g c = grind (arith, inner_number)

pub returns-clause-kept : goal.returns-clause-kept
unfolding report_of state_of
returns-clause-kept g c = grind (arith, told_first)
