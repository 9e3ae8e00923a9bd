use Rattle.rdlpp_define.proofs.Drafts.{formals_told}
use Rattle.rdlpp_define.proofs.new_macro.NewMacro.formals_len.Goals as goal

pub returns : goal.returns
returns c = formals_told _ _ _ _ _ _ _ _ c.self.invariant c.self.view_is
