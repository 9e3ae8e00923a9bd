use Rattle.std.proofs.Common.{arith, refl, sym}
use Rattle.rdlpp_define.proofs.Sizes.{count_items}
use Rattle.rdlpp_texts.proofs.Stacking.{none-open, stack-made, view-is}
use Rattle.rdlpp_texts.proofs.cursors.Cursors.clear.Goals as goal

pub invariant_of-self : goal.invariant_of-self
invariant_of-self c =
    let n = count_items c.self.inside.frames in
    let few = c.self.invariant.few in
    stack-made c.self.inside.frames c.self.inside.depth c.len-self-inside.result c.clear.new.self (sym c.len-self-inside.ensures) (omega (arith, n, few, c.len-self-inside.ensures))
    c.self.invariant.reserved c.clear.ensures.items (omega (arith, c.clear.ensures.capacity, c.self.invariant.room))

pub returns : goal.returns
returns c =
    rw (← c.self.view_is) (view-is _ _ _ _ _ (none-open _ c.len-self-inside.result _ (omega (arith, count_items c.self.inside.frames, c.len-self-inside.ensures))) refl)
