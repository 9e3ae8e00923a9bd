use Rattle.std.proofs.Common.{◌++◌, ◌∙◌, ap, arith}
use Rattle.rdlpp_scan.specs.KeptText.{start_level}
use Rattle.rdlpp_define.specs.Macros.{Macro}
use Rattle.rdlpp_define.proofs.Drafts.{body_told}
use Rattle.rdlpp_define.proofs.new_macro.NewMacro.append_body.Goals as goal

pub append_trimmed-requires-clause-len : goal.append_trimmed-requires-clause-len
unfolding start_level
append_trimmed-requires-clause-len c = c.self.invariant.body_is

pub append_trimmed-requires-clause-room : goal.append_trimmed-requires-clause-room
append_trimmed-requires-clause-room c = omega (arith, c.requires.room, body_told _ _ _ _ _ _ _ _ c.self.invariant c.self.view_is)

pub returns-clause-items : goal.returns-clause-items
unfolding start_level
returns-clause-items c = c.append_trimmed.ensures.items ∙ ap (λ (m : Macro). c.args.to.now.items ++ m.body) c.self.view_is
