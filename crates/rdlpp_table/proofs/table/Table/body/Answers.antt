use Rattle.std.proofs.Common.{◌∙◌, ap}
use Rattle.rdlpp_define.specs.Macros.{Macro}
use Rattle.rdlpp_table.proofs.table.Table.body.Goals as goal

pub returns : goal.returns
unfolding Rattle.rdlpp_table.specs.Store.macro_in
returns c = c.body_in.ensures ∙ ap (λ (m : Macro). m.body) c.stored-found.ensures.value
