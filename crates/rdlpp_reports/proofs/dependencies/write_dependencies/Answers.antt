-- The parts of the rules were written one after another.
use Rattle.std.proofs.Common.{◌++◌, codes, ap, string_bytes}
use Rattle.std.proofs.lemmas.Result.{err_from_is_err_and}
use Rattle.rdlpp_reports.specs.Dependencies.{rule_name}
use Rattle.rdlpp_reports.proofs.Written.{rules-following, sources-following, writes_by, writes_part, writes_then, writes_whole}
use Rattle.rdlpp_reports.proofs.dependencies.write_dependencies.Goals as goal

pub returns-in_err-write_name : goal.returns-in_err-write_name
returns-in_err-write_name g c =
    let p = err_from_is_err_and c.from_residual.result c.from_residual.ensures.1 in
    rw p.1
    (writes_part _ _ _ _ _ _ (writes_by _ _ _ _ _ (ap (λ t. rule_name t ++ codes ":") c.as_bytes.ensures.value) c.in_err-write_name.ensures))

pub returns-in_err-write_prerequisites : goal.returns-in_err-write_prerequisites
returns-in_err-write_prerequisites g c =
    let p = err_from_is_err_and c.from_residual-in_err-write_prerequisites.result c.from_residual-in_err-write_prerequisites.ensures.1 in
    rw p.1
    (writes_then _ _ _ _ _ _ (writes_whole _ _ _ _ (writes_by _ _ _ _ _ (ap (λ t. rule_name t ++ codes ":") c.as_bytes.ensures.value) c.in_ok-write_name.ensures))
    (writes_part _ _ _ _ _ _ (writes_by _ _ _ _ _ (sources-following string_bytes _ _ c.paths-paths.ensures) c.in_err-write_prerequisites.ensures)))

pub returns-in_err-write_whole : goal.returns-in_err-write_whole
returns-in_err-write_whole g c =
    let p = err_from_is_err_and c.from_residual-in_err-write_whole.result c.from_residual-in_err-write_whole.ensures.1 in
    rw p.1
    (writes_then _ _ _ _ _ _ (writes_whole _ _ _ _ (writes_by _ _ _ _ _ (ap (λ t. rule_name t ++ codes ":") c.as_bytes.ensures.value) c.in_ok-write_name.ensures))
    (writes_then _ _ _ _ _ _ (writes_whole _ _ _ _ (writes_by _ _ _ _ _ (sources-following string_bytes _ _ c.paths-paths.ensures) c.in_ok-write_prerequisites.ensures))
    (writes_part _ _ _ _ _ _ c.in_err-write_whole.ensures)))

pub returns : goal.returns
returns g c =
    writes_then _ _ _ _ _ _ (writes_whole _ _ _ _ (writes_by _ _ _ _ _ (ap (λ t. rule_name t ++ codes ":") c.as_bytes.ensures.value) c.in_ok-write_name.ensures))
    (writes_then _ _ _ _ _ _ (writes_whole _ _ _ _ (writes_by _ _ _ _ _ (sources-following string_bytes _ _ c.paths-paths.ensures) c.in_ok-write_prerequisites.ensures))
    (writes_then _ _ _ _ _ _ (writes_whole _ _ _ _ c.in_ok-write_whole.ensures)
    (writes_by _ _ _ _ _ (rules-following string_bytes _ _ _ c.included.ensures c.paths-paths.ensures) c.write_empty_rules.ensures)))
