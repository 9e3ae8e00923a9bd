use Rattle.rdlpp_texts.proofs.Stacking.{lent-bounded, lent-some}
use Rattle.rdlpp_texts.proofs.Usages.{rest-parented}
use Rattle.rdlpp_texts.proofs.cursors.Cursors.is_inside.Goals as goal

pub is_front_in-requires-clause-parented : goal.is_front_in-requires-clause-parented
is_front_in-requires-clause-parented c = rest-parented _ _ _ c.self.inside.bindings.items c.as_slice-frames.ensures.value (rw (← c.self.view_is) at c.requires.parented)

pub is_front_in-requires-clause-bounded : goal.is_front_in-requires-clause-bounded
is_front_in-requires-clause-bounded c = lent-bounded c.self.inside.frames.items _ c.self.inside.first c.as_slice-frames.ensures.value c.self.invariant.bounded

pub is_front_in-requires-clause-some : goal.is_front_in-requires-clause-some
is_front_in-requires-clause-some c = lent-some _ _ _ c.self.inside.bindings.items c.as_slice-frames.ensures.value (rw (← c.self.view_is) at c.requires.some)
