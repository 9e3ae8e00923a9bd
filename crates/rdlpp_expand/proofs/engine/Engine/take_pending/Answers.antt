use Rattle.std.proofs.Common.{arith}
use Rattle.rdlpp_state.proofs.LentPieces.{takes_marked, untaken}
use Rattle.rdlpp_state.proofs.Soundness.{inner_facts}
use Rattle.rdlpp_expand.proofs.engine.Engine.take_pending.Goals as goal

pub lend_pending-requires : goal.lend_pending-requires
lend_pending-requires g c = grind (arith, inner_facts)

pub returns-clause-nothing : goal.returns-clause-nothing
returns-clause-nothing g c =
    untaken c.take.result _ c.args.self.now c.lend_pending.new.self c.take.new.self c.line.result c.self.view_is c.lend_pending.ensures c.take.ensures.nothing

pub returns-clause-piece : goal.returns-clause-piece
returns-clause-piece g c = grind (arith, takes_marked)
