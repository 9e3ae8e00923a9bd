use Rattle.std.proofs.Common.{arith}
use Rattle.rdlpp_state.proofs.Soundness.{ended_alone, inner_most, leaves_here, stops_unclosed}
use Rattle.rdlpp_expand.proofs.engine.Engine.end_plain.Goals as goal

pub unclosed-requires : goal.unclosed-requires
unclosed-requires g c = grind (arith, inner_most)

pub end_whole-requires-clause-ended : goal.end_whole-requires-clause-ended
end_whole-requires-clause-ended g c = grind (arith, ended_alone, leaves_here, inner_most)

pub returns-in-Some : goal.returns-in-Some
returns-in-Some g c = grind (arith, stops_unclosed, leaves_here, inner_most)
