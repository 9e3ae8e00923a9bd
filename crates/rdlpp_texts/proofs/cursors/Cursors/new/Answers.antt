use Rattle.std.proofs.Common.{arith, refl}
use Rattle.rdlpp_define.proofs.Sizes.{count_items}
use Rattle.rdlpp_texts.proofs.Stacking.{none-open, stack-made, view-is}
use Rattle.rdlpp_texts.proofs.cursors.Cursors.new.Goals as goal

pub invariant_of-result : goal.invariant_of-result
invariant_of-result c =
    stack-made c.push_closed.new.frames c.args.depth c.min-first.result c.in_ok-bindings.bindings c.push_closed.ensures.len (omega (arith, c.min-first.ensures))
    (omega (arith, c.push_closed.ensures.capacity, c.in_ok-frames.ensures.exact)) c.in_ok-bindings.ensures.items c.in_ok-bindings.ensures.exact

pub returns : goal.returns
returns c =
    view-is _ _ _ _ _ (none-open _ c.min-first.result _ (omega (arith, count_items c.push_closed.new.frames, c.push_closed.ensures.len))) refl
