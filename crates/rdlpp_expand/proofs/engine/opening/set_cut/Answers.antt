use Rattle.std.proofs.Common.{arith}
use Rattle.rdlpp_state.proofs.OpeningFacts.{name_cut_at}
use Rattle.rdlpp_expand.proofs.engine.opening.set_cut.Goals as goal

pub returns : goal.returns
returns c = grind (arith, name_cut_at)
