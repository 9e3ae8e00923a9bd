use Rattle.std.proofs.Common.{◌∙◌, length}
use Rattle.std.proofs.lemmas.List.{take_rest}
use Rattle.rdlpp_define.proofs.Headers.{define_reads, define_refuses}
use Rattle.rdlpp_define.proofs.reading.read_define.Goals as goal

pub returns-in-Ok : goal.returns-in-Ok
returns-in-Ok c =
    c.read_after.ensures
    ∙ define_reads _ _ _ _ _ c.unended.ensures c.after_space-text.ensures.value c.leading_name-name.ensures.value (take_rest c.after_space-text.result.now (length c.leading_name-name.result.now)) c.in-Ok.ensures.value

pub returns-in-Err : goal.returns-in-Err
returns-in-Err c =
    define_refuses _ _ _ _ _ c.unended.ensures c.after_space-text.ensures.value c.leading_name-name.ensures.value c.in-Err.ensures.value.0 c.in-Err.ensures.value.1
