use Rattle.std.proofs.Common.{ap, sym, ◌∙◌}
use Rattle.rdlpp_define.specs.Limits.{limit_fault}
use Rattle.rdlpp_c.proofs.Outputs.{gives_refused, gives_stopped, gives_whole}
use Rattle.rdlpp_c.proofs.asking.answer_of.Goals as goal

pub returns-in-Ok-read_output : goal.returns-in-Ok-read_output
returns-in-Ok-read_output c =
    gives_whole _ c.in-Ok.lists (record { files = c.deref.result; folders = c.deref-2.result }) c.in-Ok-open_reading.reading _ _ _ c.in-Ok.ensures c.deref.ensures.value c.deref-2.ensures.value
    (ap limit_fault (sym c.limits_of.ensures) ∙ c.in_default.ensures.value) c.in-Ok-open_reading.ensures.opens (c.in-Ok-open_reading.ensures.output tt) c.in-Ok-read_output.ensures

pub returns-in-Ok-open_reading : goal.returns-in-Ok-open_reading
returns-in-Ok-open_reading c =
    gives_stopped _ c.in-Ok.lists (record { files = c.deref.result; folders = c.deref-2.result }) c.in-Ok-open_reading.reading _ _ _ c.in-Ok.ensures c.deref.ensures.value c.deref-2.ensures.value
    (ap limit_fault (sym c.limits_of.ensures) ∙ c.in_default.ensures.value) c.in-Ok-open_reading.ensures.opens (c.in-Ok-open_reading.ensures.output tt) c.in-Err-read_output.ensures

pub returns : goal.returns
returns c =
    gives_refused _ c.in-Ok.lists (record { files = c.deref.result; folders = c.deref-2.result }) _ c.in-Err-open_reading.fault _ c.in-Ok.ensures c.deref.ensures.value c.deref-2.ensures.value
    (ap limit_fault (sym c.limits_of.ensures) ∙ c.in_default.ensures.value) c.in-Err-open_reading.ensures.opens c.refused_answer.ensures
