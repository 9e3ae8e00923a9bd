use Rattle.std.proofs.Common.{◌≤◌, length, arith}
use Rattle.rdlpp_table.specs.Entries.{moved_down}
use Rattle.rdlpp_table.proofs.Orders.{settled_list}
use Rattle.rdlpp_define.proofs.Sizes.{count_items}
use Rattle.rdlpp_table.proofs.Taken.{settled_stored, stored_after}
use Rattle.rdlpp_table.proofs.removal.settle.Goals as goal

pub draw_down-requires-clause-following : goal.draw_down-requires-clause-following
draw_down-requires-clause-following c = grind (arith, stored_after)

pub returns-clause-stored : goal.returns-clause-stored
returns-clause-stored c =
    let h : c.args.front.now.entries ≤ length c.args.entries.now.items = omega (arith, c.requires.given_up, count_items c.args.entries.now) in
    settled_stored _ _ _ _ _ c.requires.stored c.cut.ensures.items
    (settled_list (moved_down c.args.front.now.bytes c.args.front.now.formal_offsets) c.args.entries.now.items c.as_mut_slice.result.now _ _ _ c.args.front.now.entries _ _ h (count_items c.args.entries.now) c.len.ensures c.as_mut_slice.ensures.value c.draw_down.ensures c.truncate.ensures.items)
