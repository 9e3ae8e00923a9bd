use Rattle.std.proofs.Common.{refl, arith}
use Rattle.rdlpp_read.specs.Buffer.{opened_buffer, unused_of}
use Rattle.rdlpp_state.proofs.Soundness.{fresh_include_stack, whole_opened}
use Rattle.rdlpp_expand.proofs.engine.Engine.open_main.Goals as goal

pub enter-requires : goal.enter-requires
enter-requires g c =
    let none = fresh_include_stack _ _ _ _ _ c.self.invariant.sources (rw (← c.self.view_is) at c.requires) in
    let slots = c.self.invariant.sources.slots in
    let range = c.self.invariant.sources.in_range.source_bytes.1 in
    record { room = rw none (omega arith); bytes = omega arith }

pub invariant_of-self : goal.invariant_of-self
unfolding unused_of opened_buffer
invariant_of-self g c =
    whole_opened _ _ _ c.self.inside.files _ _ c.self.invariant _ _ (fresh_include_stack _ _ _ _ _ c.self.invariant.sources (rw (← c.self.view_is) at c.requires)) c.enter.ensures refl refl
    (let range = c.self.invariant.sources.in_range.source_bytes.1 in omega arith)
