use Rattle.rdlpp_define.proofs.Drafts.{body_told}
use Rattle.rdlpp_define.proofs.new_macro.NewMacro.body_len.Goals as goal

pub returns : goal.returns
returns c = body_told _ _ _ _ _ _ _ _ c.self.invariant c.self.view_is
