use Rattle.rdlpp_state.proofs.Soundness.{whole_passed}
use Rattle.rdlpp_expand.proofs.engine.Engine.charge_quota.Goals as goal

pub invariant_of-self-2 : goal.invariant_of-self-2
invariant_of-self-2 g c = whole_passed _ _ _ _ _ _ c.self.invariant (rw (← c.self.view_is) at c.requires)
