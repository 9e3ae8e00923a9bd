use Rattle.rdlpp_state.proofs.Soundness.{whole_unopened}
use Rattle.rdlpp_expand.proofs.engine.Engine.record_main_fault.Goals as goal

pub invariant_of-self : goal.invariant_of-self
invariant_of-self g c = whole_unopened _ _ _ _ _ _ c.self.invariant (rw (← c.self.view_is) at c.requires)
