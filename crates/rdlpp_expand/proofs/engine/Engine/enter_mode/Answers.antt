use Rattle.std.proofs.Common.{refl, arith}
use Rattle.rdlpp_read.specs.Buffer.{entered_mode}
use Rattle.rdlpp_read.specs.Files.{inner_buffer}
use Rattle.rdlpp_state.proofs.Soundness.{buffer_less, whole_inner}
use Rattle.rdlpp_state.proofs.WorkFacts.{entered_unused}
use Rattle.rdlpp_expand.proofs.engine.Engine.enter_mode.Goals as goal

pub invariant_of-self : goal.invariant_of-self
invariant_of-self g c = whole_inner _ _ _ c.self.inside.files _ _ c.self.invariant _ _ c.enter_mode.ensures (λ f. refl)
    (buffer_less (entered_mode (inner_buffer c.self.inside.files.include_stack) c.args.next) c.self.inside.files.include_stack (let same = entered_unused (inner_buffer c.self.inside.files.include_stack) c.args.next in omega arith))
