use Rattle.std.proofs.Common.{◌≡◌, ◌∙◌, ◌+◌, ◌-◌, ap, arith, length, take}
use Rattle.rdlpp_table.proofs.Arranged.{rest_moved}
use Rattle.rdlpp_define.proofs.Sizes.{count_items}
use Rattle.rdlpp_table.proofs.index.move_rest.Goals as goal

pub returns-clause-front : goal.returns-clause-front
returns-clause-front c =
    let longer : length c.loop.order.items ≡ c.len-len.result + (c.args.to - c.args.from) = omega (arith, c.loop.invariant.len, count_items c.loop.order, c.loop.auto.counter-end, c.loop-test.false, c.saturating_sub-more.ensures) in
    (rest_moved c.args.order.now.items c.loop.order.items c.truncate.new.self.items c.len-len.result c.args.at c.args.from c.args.to (omega (arith, c.requires.inside, c.len-len.ensures)) (omega (arith, count_items c.args.order.now, c.len-len.ensures)) c.loop.invariant.kept longer (c.truncate.ensures.items ∙ ap (take (c.len-len.result - c.args.from + c.args.to)) c.copy_within.ensures.items)).0

pub returns-clause-rest : goal.returns-clause-rest
returns-clause-rest c =
    let longer : length c.loop.order.items ≡ c.len-len.result + (c.args.to - c.args.from) = omega (arith, c.loop.invariant.len, count_items c.loop.order, c.loop.auto.counter-end, c.loop-test.false, c.saturating_sub-more.ensures) in
    (rest_moved c.args.order.now.items c.loop.order.items c.truncate.new.self.items c.len-len.result c.args.at c.args.from c.args.to (omega (arith, c.requires.inside, c.len-len.ensures)) (omega (arith, count_items c.args.order.now, c.len-len.ensures)) c.loop.invariant.kept longer (c.truncate.ensures.items ∙ ap (take (c.len-len.result - c.args.from + c.args.to)) c.copy_within.ensures.items)).1
