-- One path more was written.
use Rattle.std.proofs.Common.{ap, ◌∙◌, string_bytes}
use Rattle.std.proofs.lemmas.Result.{err_from_is_err_and}
use Rattle.rdlpp_reports.specs.Dependencies.{prerequisite}
use Rattle.rdlpp_reports.proofs.Written.{flat-fails, flat-grows, writes_by}
use Rattle.rdlpp_reports.proofs.dependencies.write_prerequisites.Goals as goal

pub returns-in_err-write_prerequisite : goal.returns-in_err-write_prerequisite
returns-in_err-write_prerequisite g c =
    let p = err_from_is_err_and c.from_residual.result c.from_residual.ensures.1 in
    rw p.1
    (flat-fails (λ path. prerequisite (string_bytes path)) c.args.paths.now c.loop-path.path-index c.path-item.result _ _ _ _ _ c.loop-path-test.true c.loop-path.invariant
    (writes_by _ _ _ _ _ (ap prerequisite c.as_bytes.ensures.value ∙ ap (λ path. prerequisite (string_bytes path)) c.path-item.is) c.in_err-write_prerequisite.ensures))

pub loop-path-preserved : goal.loop-path-preserved
loop-path-preserved g c =
    flat-grows (λ path. prerequisite (string_bytes path)) c.args.paths.now c.loop-path.path-index c.path-item.result _ _ _ _ c.loop-path-test.true c.loop-path.invariant
    (writes_by _ _ _ _ _ (ap prerequisite c.as_bytes.ensures.value ∙ ap (λ path. prerequisite (string_bytes path)) c.path-item.is) c.in_ok-write_prerequisite.ensures)
