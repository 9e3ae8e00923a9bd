use Rattle.std.proofs.Common.{◌≡◌, drop, ap, arith}
use Rattle.rdlpp_table.specs.declared.given_up.GivenUp.{GivenUp}
use Rattle.rdlpp_define.proofs.Sizes.{count_items}
use Rattle.rdlpp_table.proofs.Sizes.{length_macros_in, live_count}
use Rattle.rdlpp_table.proofs.RoundTrip.{stored_count, stored_length}
use Rattle.rdlpp_table.proofs.storing.make_room.Goals as goal

pub returns-then-capacity-len-clause-room : goal.returns-then-capacity-len-clause-room
returns-then-capacity-len-clause-room c =
    omega (arith, stored_length _ _ _ c.settle.ensures.stored, c.requires.room, c.settle.ensures.capacity.0, count_items c.settle.new.bytes)

pub returns-then-capacity-len-clause-entry_room : goal.returns-then-capacity-len-clause-entry_room
returns-then-capacity-len-clause-entry_room c =
    let front : c.settle.new.front.entries ≡ 0 = ap (λ (f : GivenUp). f.entries) c.settle.ensures.front in
    omega (arith, front, stored_count _ _ _ c.settle.ensures.stored, length_macros_in c.args.bytes.now.items (drop c.args.front.now.entries c.args.entries.now.items), live_count c.settle.new.front.entries c.settle.new.entries, c.requires.entry_room, c.settle.ensures.capacity.1, count_items c.settle.new.entries)
