use Rattle.std.proofs.Common.{◌≡◌, length}
use Rattle.rdlpp_table.specs.Index.{name_order}
use Rattle.rdlpp_table.proofs.Orders.{AreBytes}
use Rattle.rdlpp_table.proofs.lookup.order_of.Given as goal

abbrev pub invariant-loop-left : goal.invariant-loop-left
invariant-loop-left l = (name_order l.name l.other ≡ name_order l.left l.right) × AreBytes l.left × AreBytes l.right

abbrev pub decreases-loop-left : goal.decreases-loop-left
decreases-loop-left l = length l.left
