use Rattle.std.proofs.Common.{arith}
use Rattle.rdlpp_state.proofs.LentPieces.{first_name, first_shift}
use Rattle.rdlpp_state.proofs.Soundness.{inner_facts, inner_number}
use Rattle.rdlpp_expand.proofs.engine.Engine.shown_place.Goals as goal

pub shown_line-requires : goal.shown_line-requires
shown_line-requires g c = grind (arith, inner_number, inner_facts)

pub returns-clause-name : goal.returns-clause-name
returns-clause-name g c = grind (arith, first_name)

pub returns-clause-line : goal.returns-clause-line
returns-clause-line g c = grind (arith, first_shift)
