use Rattle.std.proofs.Common.{arith}
use Rattle.rdlpp_state.specs.Pending.{nothing_pending}
use Rattle.rdlpp_state.proofs.FrontSteps.{owing}
use Rattle.rdlpp_state.proofs.DirectiveSteps.{passes_by}
use Rattle.rdlpp_expand.proofs.engine.Engine.pass.Goals as goal

pub queue_line_ends-requires : goal.queue_line_ends-requires
unfolding nothing_pending
queue_line_ends-requires g c = grind arith

pub returns : goal.returns
returns g c = grind (arith, passes_by, owing)
