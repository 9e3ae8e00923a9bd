use Rattle.std.proofs.Common.{◌≡◌, Some, Ok, Err, [], sym, ap, ◌∙◌, arith}
use Rattle.rdlpp_scan.specs.declared.token.Directive.TheVariants.{Endif}
use Rattle.rdlpp_meaning.specs.State.{fault_at}
use Rattle.rdlpp_read.specs.Conditions.{place_of}
use Rattle.rdlpp_read.specs.ConditionMoves.{Closes}
use Rattle.rdlpp_read.specs.Buffer.{held_of}
use Rattle.rdlpp_read.specs.Files.{inner_buffer}
use Rattle.rdlpp_state.specs.Conditionals.{goes_past}
use Rattle.rdlpp_state.specs.OpenConditionals.{inner_below}
use Rattle.rdlpp_state.specs.Remaining.{state_of}
use Rattle.rdlpp_front.proofs.NamedDirectives.{word_within}
use Rattle.rdlpp_state.proofs.DirectiveSteps.{end_closes, end_refused, ends_here}
use Rattle.rdlpp_state.proofs.Soundness.{conditions_end, inner_most, whole_with}
use Rattle.rdlpp_expand.proofs.engine.Engine.take_endif.Goals as goal

pub close-requires : goal.close-requires
close-requires g c = grind (arith, inner_most)

pub returns-in-Err : goal.returns-in-Err
returns-in-Err g c = λ bounded.
    let e = c.args.self.now in
    let below : c.file.result.now.conditions_below ≡ inner_below c.args.self.now.files.include_stack = sym (ap inner_below c.file.ensures.inner) ∙ ap (λ e. inner_below e.files.include_stack) c.self.view_is in
    let kept : c.record_fault.new.self ≡ record (record e { conditions = c.close.new.self }) { kept = Some (fault_at c.in-Err.kind (inner_buffer e.files.include_stack).line [] (state_of (record e { conditions = c.close.new.self }))) } =
    rw (← c.self.view_is) c.record_fault.ensures.kept in
    end_refused g.S.Sources e c.record_fault.new.self c.requires.ready bounded c.requires.some c.requires.mode _ c.record_fault.result c.in-Err.kind c.close.new.self
    (ends_here {A = Unit {0}} (Err c.in-Err.kind) e c.close.new.self c.requires.ready c.file.result.now.conditions_below below
    (let h : Closes {A = Unit {0}} (place_of c.file.result.now.conditions_below e.conditions) (Err c.in-Err.kind) e.conditions c.close.new.self = rw (← c.self.view_is) c.in-Err.ensures in h)) c.requires.closing c.record_fault.ensures.halt kept

pub invariant_of-self : goal.invariant_of-self
invariant_of-self g c =
    let below = sym (ap inner_below c.file.ensures.inner) in
    whole_with _ _ _ _ c.self.inside.conditions _ _ c.self.invariant
    (conditions_end _ c.self.inside.conditions c.self.inside.files.include_stack (rw (← c.self.view_is) at c.requires.ready.include_stack) c.self.invariant.sources.conditions_of (Err c.in-Err.kind) c.close.new.self _ below c.in-Err.ensures)

pub invariant_of-self-in-Ok : goal.invariant_of-self-in-Ok
invariant_of-self-in-Ok g c =
    let below = sym (ap inner_below c.file.ensures.inner) in
    whole_with _ _ _ _ c.self.inside.conditions _ _ c.self.invariant
    (conditions_end _ c.self.inside.conditions c.self.inside.files.include_stack (rw (← c.self.view_is) at c.requires.ready.include_stack) c.self.invariant.sources.conditions_of (Ok c.in-Ok.field-0) c.close.new.self _ below c.in-Ok.ensures)

pub consume-requires-clause-inside : goal.consume-requires-clause-inside
consume-requires-clause-inside g c =
    rw (c.word_len.ensures) (rw (← c.self.view_is) at (word_within Endif (held_of (inner_buffer c.args.self.now.files.include_stack)) c.requires.closing c.requires.some).1)

pub returns-in-Ok : goal.returns-in-Ok
unfolding goes_past
returns-in-Ok g c = λ bounded.
    let e = c.args.self.now in
    let below : c.file.result.now.conditions_below ≡ inner_below c.args.self.now.files.include_stack = sym (ap inner_below c.file.ensures.inner) ∙ ap (λ e. inner_below e.files.include_stack) c.self.view_is in
    end_closes g.S.Sources e c.consume.new.self c.requires.ready bounded c.requires.some c.requires.mode _ c.in-Ok.field-0 c.close.new.self
    (ends_here {A = Unit {0}} (Ok c.in-Ok.field-0) e c.close.new.self c.requires.ready c.file.result.now.conditions_below below
    (let h : Closes {A = Unit {0}} (place_of c.file.result.now.conditions_below e.conditions) (Ok c.in-Ok.field-0) e.conditions c.close.new.self = rw (← c.self.view_is) c.in-Ok.ensures in h)) c.requires.closing (rw (← c.self.view_is) (rw (c.word_len.ensures) at c.consume.ensures.used))
