use Rattle.std.proofs.Common.{arith}
use Rattle.rdlpp_define.proofs.Sizes.{count_items}
use Rattle.rdlpp_define.proofs.FormalLists.{append_starts, append_told, append_room, append_next, append_end}
use Rattle.rdlpp_define.proofs.formals.append_list.Goals as goal

pub loop-following-init : goal.loop-following-init
loop-following-init c = record { appended = append_starts _ _; room = omega arith }

pub append_formal-requires-clause-good : goal.append_formal-requires-clause-good
append_formal-requires-clause-good c = append_told _ _ _ _ c.loop-following.invariant.appended c.requires.listed

pub append_formal-requires-clause-room : goal.append_formal-requires-clause-room
append_formal-requires-clause-room c =
    omega (arith, append_room _ _ _ _ c.loop-following.invariant.appended c.requires.listed, c.requires.room, c.loop-following.invariant.room, count_items c.loop-following.to, count_items c.args.to.now)

pub loop-following-preserved : goal.loop-following-preserved
loop-following-preserved c = grind (arith, append_next)

pub returns-clause-items : goal.returns-clause-items
returns-clause-items c = append_end _ _ _ _ _ c.loop-following.invariant.appended c.requires.listed c.in_default.ensures.items c.in_default.ensures.following
