use Rattle.std.proofs.Common.{arith}
use Rattle.rdlpp_table.proofs.Arranged.{even_spaced, spread_offsets, spread_places}
use Rattle.rdlpp_define.proofs.Sizes.{count_items}
use Rattle.rdlpp_table.proofs.index.spread.Goals as goal

pub returns-clause-places : goal.returns-clause-places
returns-clause-places c =
    let even = even_spaced _ _ _ _ c.requires.spaced c.even_slack-even.ensures.long c.even_slack-even.ensures.even in
    spread_places _ _ _ _ c.args.before.now _ _ even c.move_groups.ensures.moved c.gather.ensures.places (rw c.group_start.ensures.value at c.move_rest.ensures.front)

pub returns-clause-offsets : goal.returns-clause-offsets
returns-clause-offsets c =
    let even = even_spaced _ _ _ _ c.requires.spaced c.even_slack-even.ensures.long c.even_slack-even.ensures.even in
    spread_offsets _ _ _ _ c.args.before.now _ _ even c.move_groups.ensures.moved
    (omega (arith, count_items c.move_groups.new.order, count_items c.move_rest.new.order, c.move_groups.ensures.len))
    (omega (arith, count_items c.move_groups.new.order, c.move_groups.ensures.len, c.move_rest.ensures.len, c.gather.ensures.len, c.requires.inside))
    c.gather.ensures.following (rw c.group_start.ensures.value at c.move_rest.ensures.rest)
