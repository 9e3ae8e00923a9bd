-- One path more was written.
use Rattle.std.proofs.Common.{ap, ◌∙◌, string_bytes}
use Rattle.std.proofs.lemmas.Result.{err_from_is_err_and}
use Rattle.rdlpp_reports.specs.Dependencies.{empty_rule}
use Rattle.rdlpp_reports.proofs.Written.{flat-fails, flat-grows, writes_by}
use Rattle.rdlpp_reports.proofs.dependencies.write_empty_rules.Goals as goal

pub returns-in_err-write_name : goal.returns-in_err-write_name
returns-in_err-write_name g c =
    let p = err_from_is_err_and c.from_residual.result c.from_residual.ensures.1 in
    rw p.1
    (flat-fails (λ path. empty_rule (string_bytes path)) c.args.paths.now c.loop-path.path-index c.path-item.result _ _ _ _ _ c.loop-path-test.true c.loop-path.invariant
    (writes_by _ _ _ _ _ (ap empty_rule c.as_bytes.ensures.value ∙ ap (λ path. empty_rule (string_bytes path)) c.path-item.is) c.in_err-write_name.ensures))

pub loop-path-preserved : goal.loop-path-preserved
loop-path-preserved g c =
    flat-grows (λ path. empty_rule (string_bytes path)) c.args.paths.now c.loop-path.path-index c.path-item.result _ _ _ _ c.loop-path-test.true c.loop-path.invariant
    (writes_by _ _ _ _ _ (ap empty_rule c.as_bytes.ensures.value ∙ ap (λ path. empty_rule (string_bytes path)) c.path-item.is) c.in_ok-write_name.ensures)
