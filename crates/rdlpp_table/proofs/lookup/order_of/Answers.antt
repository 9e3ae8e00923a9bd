use Rattle.std.proofs.Common.{◌∙◌, refl, sym}
use Rattle.rdlpp_table.proofs.Orders.{bytes_after, order_apart, order_after}
use Rattle.rdlpp_table.proofs.lookup.order_of.Goals as goal

pub loop-left-init : goal.loop-left-init
loop-left-init c = (refl, λ k. (c.type_inv.name k).fits, λ k. (c.type_inv.other k).fits)

pub returns-then-is_ne : goal.returns-then-is_ne
returns-then-is_ne c =
    let old = c.loop-left.invariant in
    order_apart c.loop-left.left.now c.loop-left.right.now _ _ _ c.loop-left-test.true c.if-right-ge8.true old.1 old.2
    c.front_number.ensures c.front_number-in-loop-left.ensures c.cmp-order.ensures (sym (c.if-is_ne.ensures))
    ∙ sym old.0

pub loop-left-preserved : goal.loop-left-preserved
loop-left-preserved c =
    let old = c.loop-left.invariant in
    let left = c.loop-left.left.now in
    let right = c.loop-left.right.now in (
      old.0 ∙ order_after left right _ _ _ c.loop-left-test.true c.if-right-ge8.true old.1 old.2
          c.front_number.ensures c.front_number-in-loop-left.ensures c.cmp-order.ensures (sym (c.if-is_ne.ensures)),
      bytes_after left c.loop-left-test.true old.1,
      bytes_after right c.if-right-ge8.true old.2,
    )
