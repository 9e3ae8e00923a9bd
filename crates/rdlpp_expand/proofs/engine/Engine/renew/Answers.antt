use Rattle.rdlpp_expand.proofs.Renewals.{renewed_whole}
use Rattle.rdlpp_expand.proofs.engine.Engine.renew.Goals as goal

pub invariant_of-self : goal.invariant_of-self
invariant_of-self g c =
    renewed_whole _ _ _ _ _ _ _ _ _ _ c.clear-3.ensures c.clear-5.ensures c.clear-4.ensures c.clear-6.ensures c.self.invariant
