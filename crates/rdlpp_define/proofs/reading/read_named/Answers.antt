use Rattle.std.proofs.Common.{◌∙◌, sym}
use Rattle.rdlpp_define.specs.NewMacro.{list_formals}
use Rattle.rdlpp_define.proofs.Drafts.{no_list_is, no_name, name_refused, named_reads, no_formals_sound}
use Rattle.rdlpp_define.proofs.reading.read_named.Goals as goal

pub returns-then-not-is_name : goal.returns-then-not-is_name
returns-then-not-is_name c = no_name _ _ _ (sym c.is_name.ensures ∙ c.if-not-is_name.true) c.without_word.ensures.kind c.without_word.ensures.word

pub with_body-requires : goal.with_body-requires
unfolding list_formals
with_body-requires c = record { named = c.in-Ok.ensures.value; listed = no_list_is _; sound = no_formals_sound }

pub returns-in-Ok : goal.returns-in-Ok
unfolding list_formals
returns-in-Ok c = c.with_body.ensures ∙ named_reads _ _ (sym c.is_name.ensures ∙ c.if-not-is_name.false) c.in-Ok.ensures.value

pub returns-in-Err : goal.returns-in-Err
returns-in-Err c = name_refused _ _ _ (sym c.is_name.ensures ∙ c.if-not-is_name.false) c.in-Err.ensures.value.0 c.in-Err.ensures.value.1
