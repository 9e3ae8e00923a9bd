-- What was written of a source's name.
use Rattle.std.proofs.Common.{◌∙◌, sym}
use Rattle.std.proofs.lemmas.Result.{err_from_is_err_and}
use Rattle.rdlpp_reports.proofs.Written.{prerequisite-input, prerequisite-named, writes_by, writes_part, writes_then, writes_whole}
use Rattle.rdlpp_reports.proofs.dependencies.write_prerequisite.Goals as goal

pub returns-then-eq : goal.returns-then-eq
returns-then-eq g c = writes_by _ _ _ _ _ (prerequisite-input c.args.path.now (sym c.eq.ensures ∙ c.if-eq.true)) c.write_whole.ensures

pub returns-in_err-write_whole : goal.returns-in_err-write_whole
returns-in_err-write_whole g c =
    let p = err_from_is_err_and c.from_residual.result c.from_residual.ensures.1 in
    rw p.1
    (writes_by _ _ _ _ _ (sym (prerequisite-named c.args.path.now (sym c.eq.ensures ∙ c.if-eq.false)))
    (writes_part _ _ _ _ _ _ c.in_err-write_whole.ensures))

pub returns : goal.returns
returns g c =
    writes_by _ _ _ _ _ (sym (prerequisite-named c.args.path.now (sym c.eq.ensures ∙ c.if-eq.false)))
    (writes_then _ _ _ _ _ _ (writes_whole _ _ _ _ c.in_ok-write_whole.ensures) c.write_name.ensures)
