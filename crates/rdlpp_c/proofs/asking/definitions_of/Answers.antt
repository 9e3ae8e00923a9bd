use Rattle.std.proofs.lemmas.Result.{err_from_is_err_and}
use Rattle.rdlpp_c.proofs.asking.definitions_of.Goals as goal

pub returns-in_err-pair : goal.returns-in_err-pair
returns-in_err-pair c =
    let p = err_from_is_err_and c.from_residual.result c.from_residual.ensures.1 in
    rw (p.1, p.2) (λ e all. c.in_err-pair.ensures e (all c.loop-definition.definition-index _ c.loop-definition-test.true))
