use Rattle.std.proofs.Common.{arith}
use Rattle.std.proofs.lemmas.Grind.{common_steps}
use Rattle.rdlpp_table.proofs.Orders.{after_removed, tail_of, closed_list}
use Rattle.rdlpp_define.proofs.Sizes.{count_items}
use Rattle.rdlpp_table.proofs.removal.take_entry.Goals as goal

pub draw_down-requires-clause-following : goal.draw_down-requires-clause-following
draw_down-requires-clause-following c = grind (arith, count_items, after_removed, tail_of)

pub returns-clause-items : goal.returns-clause-items
returns-clause-items c = grind (arith, common_steps, count_items, closed_list)
