-- The name was written, and then the default text.
use Rattle.std.proofs.lemmas.Result.{err_from_is_err_and}
use Rattle.rdlpp_reports.proofs.Written.{writes_part, writes_then, writes_whole}
use Rattle.rdlpp_reports.proofs.definitions.write_formal.Goals as goal

pub returns-in_err-write_whole : goal.returns-in_err-write_whole
returns-in_err-write_whole g c =
    let p = err_from_is_err_and c.from_residual.result c.from_residual.ensures.1 in
    rw p.1 (writes_part _ _ _ _ _ _ c.in_err-write_whole.ensures)

pub returns : goal.returns
returns g c = writes_then _ _ _ _ _ _ (writes_whole _ _ _ _ c.in_ok-write_whole.ensures) c.write_marked.ensures
