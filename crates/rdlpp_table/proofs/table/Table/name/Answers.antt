use Rattle.std.proofs.Common.{◌∙◌, ap}
use Rattle.rdlpp_define.specs.Macros.{Macro}
use Rattle.rdlpp_table.proofs.table.Table.name.Goals as goal

pub returns : goal.returns
unfolding Rattle.rdlpp_table.specs.Store.macro_in
returns c = c.name_in.ensures ∙ ap (λ (m : Macro). m.name) c.stored-found.ensures.value
