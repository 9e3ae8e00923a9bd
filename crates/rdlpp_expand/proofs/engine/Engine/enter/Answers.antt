use Rattle.std.proofs.Common.{◌≡◌, refl, ap, ◌∙◌, arith}
use Rattle.rdlpp_read.specs.Buffer.{opened_buffer, unused_of}
use Rattle.rdlpp_read.specs.Files.{inner_buffer}
use Rattle.rdlpp_state.proofs.IncludeSteps.{included_by}
use Rattle.rdlpp_state.proofs.Soundness.{inner_facts, whole_entered}
use Rattle.rdlpp_expand.proofs.engine.Engine.enter.Goals as goal

pub invariant_of-self : goal.invariant_of-self
unfolding unused_of opened_buffer
invariant_of-self g c = grind (arith, inner_facts, whole_entered)

pub returns : goal.returns
returns g c =
    let e = c.args.self.now in
    let line : c.line-line.result ≡ (inner_buffer e.files.include_stack).line = c.line-line.ensures ∙ ap (λ b. b.line) (c.file.ensures.buffer ∙ ap (λ e. inner_buffer e.files.include_stack) c.self.view_is) in
    included_by c.args.found c.args.stop e c.consume.new.self _ c.queue_origin.new.self c.enter.new.self c.len-below.result c.line-line.result c.consume.ensures.used
    (rw (← c.self-2.view_is) c.enter.ensures) (rw (← c.self-2.view_is) c.queue_origin.ensures) (rw (← c.self-2.view_is) refl) c.requires.nothing (rw (← c.self-2.view_is) c.len-below.ensures.value) line
