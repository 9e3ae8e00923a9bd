use Rattle.std.proofs.Common.{arith, length-take-le}
use Rattle.rdlpp_table.proofs.Orders.{raised, raised_more}
use Rattle.rdlpp_table.proofs.Sizes.{no_entry}
use Rattle.rdlpp_table.proofs.removal.draw_up.Goals as goal

pub move_up-requires : goal.move_up-requires
move_up-requires c = grind (arith, length-take-le, raised, no_entry)

pub loop-at-preserved : goal.loop-at-preserved
loop-at-preserved c = grind (arith, raised_more)
