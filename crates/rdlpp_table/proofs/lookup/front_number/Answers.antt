use Rattle.std.proofs.Common.{◌∙◌}
use Rattle.rdlpp_table.proofs.Orders.{eight_are}
use Rattle.rdlpp_table.proofs.lookup.front_number.Goals as goal

pub returns : goal.returns
returns c = c.from_be_bytes.ensures ∙ eight_are c.args.name.now c.requires
