use Rattle.std.proofs.Common.{◌∙◌, ap, refl}
use Rattle.rdlpp_state.specs.Engine.{is_open}
use Rattle.rdlpp_state.specs.declared.phase.Phase.TheVariants.{Closed}
use Rattle.rdlpp_expand.proofs.Renewals.{unopened_whole}
use Rattle.rdlpp_expand.proofs.engine.Engine.end_unstarted.Goals as goal

pub invariant_of-self : goal.invariant_of-self
unfolding is_open
invariant_of-self g c =
    unopened_whole _ c.self.inside.phase Closed _ _ _ _ (ap (λ e. is_open e.phase) c.self.view_is ∙ ap is_open c.requires) refl c.self.invariant
