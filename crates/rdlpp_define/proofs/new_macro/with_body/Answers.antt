use Rattle.std.proofs.Common.{◌∙◌, sym}
use Rattle.rdlpp_scan.specs.Continuations.{as_read}
use Rattle.rdlpp_scan.specs.KeptText.{start_level}
use Rattle.rdlpp_define.specs.NewMacro.{list_formals}
use Rattle.rdlpp_define.proofs.Drafts.{body_reads, body_refuses, new_sound}
use Rattle.rdlpp_define.proofs.new_macro.with_body.Goals as goal

pub invariant_of-result : goal.invariant_of-result
unfolding start_level
invariant_of-result c = record {
  listed = c.requires.listed;
  body_is = c.in-Ok.ensures.len;
  sound = new_sound _ _ _ _ _ _ c.requires.named c.requires.sound (sym c.in-Ok.ensures.len);
}

pub returns-in-Ok : goal.returns-in-Ok
unfolding start_level
returns-in-Ok c = body_reads c.args.name.now (list_formals c.args.arity c.args.list.now) (as_read c.args.is_logical c.args.text.now) c.in-Ok.body.len (sym c.in-Ok.ensures.len)

pub returns-in-Err : goal.returns-in-Err
unfolding start_level
returns-in-Err c = body_refuses _ _ _ _ _ (sym c.in-Err.ensures.len) (c.without_word.ensures.kind ∙ c.lexical.ensures) c.without_word.ensures.word
