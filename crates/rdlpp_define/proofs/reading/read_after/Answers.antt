use Rattle.std.proofs.Common.{◌∙◌}
use Rattle.rdlpp_define.specs.NewMacro.{list_formals}
use Rattle.rdlpp_define.proofs.Drafts.{list_is, no_list_is, listed_sound, no_formals_sound}
use Rattle.rdlpp_define.proofs.Headers.{list_reads, list_refuses}
use Rattle.rdlpp_define.proofs.reading.read_after.Goals as goal

pub with_body-requires-clause-sound : goal.with_body-requires-clause-sound
unfolding list_formals
with_body-requires-clause-sound c = no_formals_sound

pub with_body-requires-in-Ok-clause-sound : goal.with_body-requires-in-Ok-clause-sound
with_body-requires-in-Ok-clause-sound c = listed_sound _ _ _ (list_is _ _ _ _ c.in-Ok.ensures.read).1

pub with_body-requires-clause-listed : goal.with_body-requires-clause-listed
with_body-requires-clause-listed c = no_list_is _

pub returns-in_default : goal.returns-in_default
unfolding list_formals
returns-in_default c = c.with_body.ensures ∙ list_reads _ _ _ _ c.in_default.ensures

pub with_body-requires-in-Ok-clause-listed : goal.with_body-requires-in-Ok-clause-listed
with_body-requires-in-Ok-clause-listed c = (list_is _ _ _ _ c.in-Ok.ensures.read).0

pub returns-in-Ok : goal.returns-in-Ok
returns-in-Ok c =
    c.with_body-in-Ok.ensures
    ∙ list_reads _ _ _ _ (c.in-Some.ensures ∙ (list_is _ _ _ _ c.in-Ok.ensures.read).1)

pub returns-in-Err : goal.returns-in-Err
returns-in-Err c = list_refuses _ _ _ _ (c.in-Some.ensures ∙ c.in-Err.ensures.read) c.without_word.ensures.kind c.without_word.ensures.word
