use Rattle.std.proofs.Common.{◌≡◌, sym, ap, ◌∙◌, arith}
use Rattle.rdlpp_read.specs.Conditions.{place_of}
use Rattle.rdlpp_read.specs.ConditionMoves.{IsBranch}
use Rattle.rdlpp_read.specs.declared.conditions.Branch.TheVariants.{Decided, Inner, Refused}
use Rattle.rdlpp_state.specs.Conditionals.{goes_past}
use Rattle.rdlpp_state.specs.OpenConditionals.{inner_below}
use Rattle.rdlpp_state.proofs.DirectiveSteps.{branch_within, decided_steps, inner_steps, meets_here, own_here, refused_steps}
use Rattle.rdlpp_state.proofs.Soundness.{own_open}
use Rattle.rdlpp_expand.proofs.engine.Engine.take_branch.Goals as goal

pub consume-requires-clause-inside : goal.consume-requires-clause-inside
consume-requires-clause-inside g c = omega (arith, c.branch_len.ensures, (branch_within c.args.word _ c.args.argument c.requires.branch c.requires.some).0)

pub turn-requires-clause-inside : goal.turn-requires-clause-inside
turn-requires-clause-inside g c = omega (arith, c.branch_len-in_Decided-self.ensures, (branch_within c.args.word _ c.args.argument c.requires.branch c.requires.some).1)

pub returns-in_Inner-self : goal.returns-in_Inner-self
unfolding goes_past
returns-in_Inner-self g c = λ bounded.
    let e = c.args.self.now in
    let below : c.file.result.now.conditions_below ≡ inner_below e.files.include_stack = sym (ap inner_below c.file.ensures.inner) ∙ ap (λ e. inner_below e.files.include_stack) c.self.view_is in
    let is : IsBranch (place_of c.file.result.now.conditions_below e.conditions) c.args.word (Inner) = rw (← c.self.view_is) c.in_Inner-self.ensures in
    inner_steps g.S.Sources e c.consume.new.self c.requires.ready bounded c.requires.some c.requires.mode c.args.word c.args.argument c.requires.branch
    (meets_here c.args.word Inner e c.requires.ready c.file.result.now.conditions_below below is) (rw c.branch_len.ensures at c.consume.ensures.used)

pub returns-in_Refused-self : goal.returns-in_Refused-self
returns-in_Refused-self g c = λ bounded.
    let e = c.args.self.now in
    let below : c.file.result.now.conditions_below ≡ inner_below e.files.include_stack = sym (ap inner_below c.file.ensures.inner) ∙ ap (λ e. inner_below e.files.include_stack) c.self.view_is in
    let is : IsBranch (place_of c.file.result.now.conditions_below e.conditions) c.args.word (Refused c.in_Refused-self.kind) = rw (← c.self.view_is) c.in_Refused-self.ensures in
    refused_steps g.S.Sources e c.record_fault.new.self c.requires.ready bounded c.requires.some c.requires.mode c.args.word c.args.argument c.requires.branch c.record_fault.result c.in_Refused-self.kind
    (meets_here c.args.word (Refused c.in_Refused-self.kind) e c.requires.ready c.file.result.now.conditions_below below is) c.record_fault.ensures.halt c.record_fault.ensures.kept

pub turn-requires-clause-own : goal.turn-requires-clause-own
turn-requires-clause-own g c =
    let e = c.args.self.now in
    let below : c.file.result.now.conditions_below ≡ inner_below e.files.include_stack = sym (ap inner_below c.file.ensures.inner) ∙ ap (λ e. inner_below e.files.include_stack) c.self.view_is in
    let is : IsBranch (place_of c.file.result.now.conditions_below e.conditions) c.args.word (Decided c.in_Decided-self.holds) = rw (← c.self.view_is) c.in_Decided-self.ensures in
    own_open c.args.word (Decided c.in_Decided-self.holds) _ _
    (own_here c.args.word (Decided c.in_Decided-self.holds) e c.requires.ready c.file.result.now.conditions_below below is (λ e. cc) (λ e. cc))

pub returns-in_Decided-self : goal.returns-in_Decided-self
returns-in_Decided-self g c = λ bounded.
    let e = c.args.self.now in
    let below : c.file.result.now.conditions_below ≡ inner_below e.files.include_stack = sym (ap inner_below c.file.ensures.inner) ∙ ap (λ e. inner_below e.files.include_stack) c.self.view_is in
    let is : IsBranch (place_of c.file.result.now.conditions_below e.conditions) c.args.word (Decided c.in_Decided-self.holds) = rw (← c.self.view_is) c.in_Decided-self.ensures in
    decided_steps g.S.Sources e c.turn.new.self c.requires.ready bounded c.requires.some c.requires.mode c.args.word c.args.argument c.requires.branch c.in_Decided-self.holds
    (own_here c.args.word (Decided c.in_Decided-self.holds) e c.requires.ready c.file.result.now.conditions_below below is (λ e. cc) (λ e. cc)) (rw c.branch_len-in_Decided-self.ensures at c.turn.ensures)
