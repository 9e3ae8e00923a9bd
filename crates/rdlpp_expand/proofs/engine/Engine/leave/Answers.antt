use Rattle.std.proofs.Common.{◌≡◌, refl, sym, ap, ◌∙◌, arith, if◌then◌else◌}
use Rattle.rdlpp_state.specs.Includes.{left_engine, marks_after, pending_after}
use Rattle.rdlpp_state.specs.Pending.{nothing_pending}
use Rattle.rdlpp_state.proofs.IncludeSteps.{around_few, ends_few, line_few, marks_two, queues_after}
use Rattle.rdlpp_state.proofs.Soundness.{whole_left}
use Rattle.rdlpp_expand.proofs.engine.Engine.leave.Goals as goal
use Rattle.rdlpp_expand.proofs.engine.Engine.leave.Goals.{then-file, else-file}

pub shown_line-shown-requires : goal.shown_line-shown-requires
shown_line-shown-requires g c =
    let first = c.file-file.ensures.inner in
    let second = sym (ap (λ f. f.include_stack) c.leave.ensures) ∙ c.file-around.ensures.inner in
    let number = around_few c.self.inside.files _ c.file-file.result.now c.file-around.result.now first second c.facts.ensures in
    let line = line_few c.self.inside.files.include_stack c.file-file.result.now first c.self.invariant.sources.lines in
    omega (arith, number, line)

pub queue_line_ends-requires : goal.queue_line_ends-requires
unfolding nothing_pending
queue_line_ends-requires g c = grind (arith, then-file, else-file, ends_few)

pub invariant_of-self : goal.invariant_of-self
invariant_of-self g c =
    whole_left _ _ _ c.self.inside.files _ _ c.self.invariant _ c.facts.ensures (rw (← c.self.view_is) at c.requires.inner) (rw (← c.self.view_is) at c.requires.ended) (ap (λ e. e.phase) c.self.view_is ∙ c.requires.open) c.leave.ensures

pub returns : goal.returns
unfolding left_engine
returns g c =
    let ends : c.if-file.line_ends ≡ (if c.file-file.result.now.ends_mid_line then 1 else 0) = elim c.if-file.branch [
      | then-file w ↦ w.line_ends-is ∙ rw w.if-file.true refl
      | else-file w ↦ w.line_ends-is ∙ rw w.if-file.false refl
    ] in
    let queues : c.queue_origin.new.self ≡ pending_after c.self.inside.origins c.self.inside.files.include_stack =
    queues_after c.self.inside.origins c.self.inside.files.include_stack _ c.file-file.result.now c.file-around.result.now c.self.inside.pending c.queue_line_ends.new.self c.queue_origin.new.self c.if-file.line_ends c.shown_line-shown.result
    c.file-file.ensures.inner (sym (ap (λ f. f.include_stack) c.leave.ensures) ∙ c.file-around.ensures.inner) (ap (λ e. e.pending) c.self.view_is ∙ c.requires.nothing) ends c.shown_line-shown.ensures
    c.queue_line_ends.ensures c.queue_origin.ensures in
    let marks : c.end_line.new.self ≡ marks_after c.self.inside.files.include_stack c.self.inside.marks =
    c.end_line.ensures ∙ marks_two c.self.inside.files.include_stack _ c.file-file.result.now c.file-around.result.now c.self.inside.marks c.if-file.line_ends c.shown_line-shown.result c.file-around.result.now.name.bytes
    c.file-file.ensures.inner (sym (ap (λ f. f.include_stack) c.leave.ensures) ∙ c.file-around.ensures.inner) ends c.shown_line-shown.ensures refl in
    rw (← c.self.view_is, c.leave.ensures, queues, marks) refl
