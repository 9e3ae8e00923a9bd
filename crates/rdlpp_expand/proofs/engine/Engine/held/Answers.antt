use Rattle.std.proofs.Common.{◌≡◌, length, sum_by, ◌∙◌, sym}
use Rattle.rdlpp_read.specs.Files.{held_windows}
use Rattle.rdlpp_read.proofs.BufferTokens.{held_windows-len}
use Rattle.rdlpp_state.specs.Held.{held_told, stores_of}
use Rattle.rdlpp_state.proofs.OpeningFacts.{closed_holds, slots_fit}
use Rattle.rdlpp_expand.proofs.engine.Engine.held.Goals as goal

pub held_len-requires : goal.held_len-requires
held_len-requires g c = rw (c.self.invariant.sources.slots, c.self.invariant.sources.line_bytes) (slots_fit c.self.inside.limits c.self.invariant.sources.in_range)

pub returns-clause-value : goal.returns-clause-value
unfolding held_told stores_of
returns-clause-value g c =
    let bytes : c.held_len.result ≡ sum_by length (held_windows c.self.inside.files.include_stack) = c.held_len.ensures ∙ sym (held_windows-len c.self.inside.files.include_stack) in
    let definitions = c.bytes.ensures.value in
    let kept = c.arguments.ensures.value in
    let texts = c.len-2.ensures in
    let bound = c.bound.ensures in
    let open_ = c.len.ensures in
    let conditions = c.len-2.ensures in
    rw (← c.self.view_is) (cc)

pub returns-clause-closed : goal.returns-clause-closed
returns-clause-closed g c = closed_holds c.args.self.now c.facts.ensures.sound c.facts.ensures.texts
