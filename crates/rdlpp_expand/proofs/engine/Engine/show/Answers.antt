use Rattle.std.proofs.Common.{refl}
use Rattle.rdlpp_state.specs.Lines.{renumbered_file}
use Rattle.rdlpp_state.proofs.Soundness.{whole_inner, shown_less}
use Rattle.rdlpp_expand.proofs.engine.Engine.show.Goals as goal

pub invariant_of-self : goal.invariant_of-self
invariant_of-self g c = whole_inner _ _ _ c.self.inside.files _ _ c.self.invariant _ _ c.renumber.ensures (λ f. refl) (shown_less (renumbered_file c.args.from c.args.number c.args.name) c.self.inside.files.include_stack (λ f. refl))
