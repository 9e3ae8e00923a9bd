use Rattle.std.proofs.Common.{arith}
use Rattle.rdlpp_table.proofs.Orders.{raised_low, raised_list}
use Rattle.rdlpp_define.proofs.Sizes.{count_items}
use Rattle.rdlpp_table.proofs.removal.cover_entry.Goals as goal

pub draw_up-requires-clause-low : goal.draw_up-requires-clause-low
draw_up-requires-clause-low c = grind (arith, count_items, raised_low)

pub returns-clause-items : goal.returns-clause-items
returns-clause-items c = grind (arith, count_items, raised_list)
