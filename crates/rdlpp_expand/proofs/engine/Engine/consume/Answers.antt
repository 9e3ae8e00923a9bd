use Rattle.std.proofs.Common.{refl}
use Rattle.rdlpp_state.proofs.Soundness.{whole_inner, used_less}
use Rattle.rdlpp_expand.proofs.engine.Engine.consume.Goals as goal

pub invariant_of-self : goal.invariant_of-self
invariant_of-self g c = whole_inner _ _ _ c.self.inside.files _ _ c.self.invariant _ _ c.consume.ensures.used (λ f. refl) (used_less c.args.len c.args.lines c.self.inside.files.include_stack)
