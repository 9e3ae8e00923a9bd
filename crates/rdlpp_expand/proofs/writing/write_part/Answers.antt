use Rattle.std.proofs.Common.{arith, take-add}
use Rattle.std.proofs.lemmas.Grind.{common_steps}
use Rattle.rdlpp_expand.proofs.RunFacts.{appends_more}
use Rattle.rdlpp_expand.proofs.writing.write_part.Goals as goal

pub returns-clause-taken : goal.returns-clause-taken
returns-clause-taken g c =
    appends_more _ _ _ _ _ _ c.in-Ok.ensures.bytes c.write_rest-rest.ensures.taken (grind (arith, common_steps, take-add))
