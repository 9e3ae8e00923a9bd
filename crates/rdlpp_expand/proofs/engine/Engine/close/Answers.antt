use Rattle.std.proofs.Common.{refl}
use Rattle.rdlpp_state.proofs.Soundness.{left_alone, whole_closed}
use Rattle.rdlpp_expand.proofs.engine.Engine.close.Goals as goal

pub invariant_of-self : goal.invariant_of-self
invariant_of-self g c =
    whole_closed _ _ _ c.self.inside.files _ _ c.self.invariant _ (rw (← c.self.view_is) at c.requires.some) (rw (← c.self.view_is) at c.requires.alone) (rw (← c.self.view_is) at c.requires.ended) c.leave.ensures
    (rw (← c.self.view_is) at c.requires.idle)

pub returns : goal.returns
returns g c = let none = left_alone c.self.inside.files.include_stack (rw (← c.self.view_is) at c.requires.alone) in rw (← c.self.view_is, c.leave.ensures, none) refl
