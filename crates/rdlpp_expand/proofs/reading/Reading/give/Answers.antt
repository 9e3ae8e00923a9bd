use Rattle.std.proofs.Common.{arith}
use Rattle.std.proofs.lemmas.Grind.{common_steps}
use Rattle.rdlpp_expand.proofs.reading.Reading.give.Goals as goal

pub returns-in-Ok-Bytes-clause-engine : goal.returns-in-Ok-Bytes-clause-engine
returns-in-Ok-Bytes-clause-engine g c = grind (arith, common_steps)

pub returns-in-Ok-Bytes-clause-len : goal.returns-in-Ok-Bytes-clause-len
returns-in-Ok-Bytes-clause-len g c = grind (arith, common_steps)

pub returns-in-Ok-Bytes-clause-out : goal.returns-in-Ok-Bytes-clause-out
returns-in-Ok-Bytes-clause-out g c = grind (arith, common_steps)

pub returns-in-Ok-Done-clause-out : goal.returns-in-Ok-Done-clause-out
returns-in-Ok-Done-clause-out g c = grind (arith, common_steps)

pub returns-in-Err-clause-out : goal.returns-in-Err-clause-out
returns-in-Err-clause-out g c = grind (arith, common_steps)
