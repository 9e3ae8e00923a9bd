use Rattle.std.proofs.Common.{◌∙◌, ap, decimal, refl}
use Rattle.std.proofs.lemmas.Result.{err_from_is_err_and}
use Rattle.rdlpp.specs.Report.{line_end}
use Rattle.rdlpp_reports.proofs.Written.{writes_part, writes_then, writes_whole}
use Rattle.rdlpp.proofs.Runs.{reports_fault}
use Rattle.rdlpp.proofs.reporting.write_fault.Goals as goal

pub returns-in_err-write_parts : goal.returns-in_err-write_parts
returns-in_err-write_parts g c =
    let p = err_from_is_err_and c.from_residual.result c.from_residual.ensures.1 in
    rw p.1
    (reports_fault _ _ c.args.fault.now c.as_bytes.result.now c.as_bytes-2.result.now c.as_bytes-3.result.now c.as_bytes-4.result.now c.args.fault.now.word.bytes _
    (c.as_bytes.ensures.value ∙ c.deref.ensures.0)
    (c.as_bytes-2.ensures.value ∙ c.format.ensures.text)
    (c.as_bytes-3.ensures.value ∙ c.format-2.ensures.text ∙ ap decimal c.number.ensures)
    refl
    (writes_part _ _ _ (line_end c.args.fault.now.word.bytes) _ _ c.in_err-write_parts.ensures))

pub returns : goal.returns
returns g c =
    reports_fault _ _ c.args.fault.now c.as_bytes.result.now c.as_bytes-2.result.now c.as_bytes-3.result.now c.as_bytes-4.result.now c.as_bytes-5.result.now c.write_word.result
    (c.as_bytes.ensures.value ∙ c.deref.ensures.0)
    (c.as_bytes-2.ensures.value ∙ c.format.ensures.text)
    (c.as_bytes-3.ensures.value ∙ c.format-2.ensures.text ∙ ap decimal c.number.ensures)
    (c.as_bytes-5.ensures.value ∙ c.deref-3.ensures.0)
    (writes_then _ _ _ _ _ _ (writes_whole _ _ _ _ c.in_ok-write_parts.ensures) c.write_word.ensures)
