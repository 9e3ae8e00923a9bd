use Rattle.std.proofs.lemmas.Result.{err_from_is_err_and}
use Rattle.rdlpp_c.proofs.opening.owned_folders.Goals as goal

pub returns-in_err-path : goal.returns-in_err-path
returns-in_err-path c =
    let p = err_from_is_err_and c.from_residual.result c.from_residual.ensures.1 in
    rw (p.1, p.2) (λ e all. c.in_err-path.ensures e (all c.loop-folder.folder-index _ c.loop-folder-test.true))
