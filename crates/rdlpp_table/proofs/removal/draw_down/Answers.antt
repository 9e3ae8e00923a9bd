use Rattle.std.proofs.Common.{◌<◌, ◌≤◌, ◌+◌, length, drop, sym, subst, arith, length-drop}
use Rattle.rdlpp_table.specs.declared.entry.Entry.{Entry}
use Rattle.rdlpp_table.specs.Entries.{moved_down}
use Rattle.rdlpp_table.proofs.Orders.{drawn, drawn_more}
use Rattle.rdlpp_table.proofs.Sizes.{no_entry}
use Rattle.rdlpp_table.proofs.removal.draw_down.Goals as goal

pub move_down-requires : goal.move_down-requires
move_down-requires c =
    let h : c.loop-at.at + c.args.by < length c.args.entries.now = omega arith in
    let g : c.loop-at.at < length (drop c.args.by c.args.entries.now) = omega (arith, length-drop c.args.by c.args.entries.now) in
    let P : Entry → Type 0 = λ e. (c.args.size ≤ e.start) × (c.args.formal_offsets ≤ e.formal_offsets) in
    subst P (sym (drawn (moved_down c.args.size c.args.formal_offsets) c.args.entries.now c.loop-at.entries c.args.by c.loop-at.at no_entry no_entry h c.loop-at.invariant)) (c.requires.following c.loop-at.at no_entry g)

pub loop-at-preserved : goal.loop-at-preserved
loop-at-preserved c = grind (arith, drawn_more)
