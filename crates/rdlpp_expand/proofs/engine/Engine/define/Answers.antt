use Rattle.rdlpp_state.proofs.Soundness.{fresh_texts, whole_table}
use Rattle.rdlpp_expand.proofs.engine.Engine.define.Goals as goal

pub invariant_of-self : goal.invariant_of-self
invariant_of-self g c =
    whole_table _ _ _ _ _ _ c.self.invariant _ c.set-outcome.ensures.limits.0 c.set-outcome.ensures.limits.1 c.len-len.ensures.sound.bytes_fit
    (fresh_texts _ _ _ _ c.self.invariant.texts (rw (← c.self.view_is) at c.requires))
