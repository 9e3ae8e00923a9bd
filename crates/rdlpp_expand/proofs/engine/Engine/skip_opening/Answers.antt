use Rattle.std.proofs.Common.{◌≡◌, ℕ, ◌+◌, ◌≤◌, Some, length, ap, ◌∙◌, arith}
use Rattle.rdlpp_read.specs.ConditionMoves.{with_count}
use Rattle.rdlpp_read.specs.Buffer.{held_of}
use Rattle.rdlpp_read.specs.Files.{inner_buffer}
use Rattle.rdlpp_state.specs.Conditionals.{goes_past, opening_word}
use Rattle.rdlpp_front.proofs.NamedDirectives.{word_within}
use Rattle.rdlpp_state.proofs.Soundness.{whole_with}
use Rattle.rdlpp_state.proofs.DirectiveSteps.{counts_one, opening_conditions, opening_steps, skipping, with_conditions}
use Rattle.rdlpp_expand.proofs.engine.Engine.skip_opening.Goals as goal

pub consume-requires-clause-inside : goal.consume-requires-clause-inside
consume-requires-clause-inside g c =
    rw c.opening_len.ensures ((word_within (opening_word c.args.defined) (held_of (inner_buffer c.args.self.now.files.include_stack)) c.requires.opening c.requires.some).1)

pub open_skipped-requires : goal.open_skipped-requires
open_skipped-requires g c = let few = c.self.invariant.sources.conditions_of.counted in omega arith

pub invariant_of-self : goal.invariant_of-self
invariant_of-self g c =
    let e = c.args.self.now in
    let s = skipping e c.requires.ready c.requires.skipped in
    let within = word_within (opening_word c.args.defined) (held_of (inner_buffer e.files.include_stack)) c.requires.opening c.requires.some in
    let len = c.opening_len.ensures in
    let inside : c.opening_len.result ≤ length (held_of (inner_buffer e.files.include_stack)) = rw c.opening_len.ensures (within.1) in
    let skips : c.self.inside.conditions.skipped ≡ Some s.count = ap (λ e. e.conditions.skipped) (c.self.view_is ∙ c.consume.ensures.used) ∙ s.skips in
    let counts = counts_one c.self.inside.conditions c.open_skipped.new.self s.count skips c.open_skipped.ensures.skipped in
    whole_with _ _ _ _ c.self.inside.conditions _ _ c.self.invariant
    (rw counts (opening_conditions e _ c.opening_len.result c.requires.ready s (omega (arith, within.0)) inside (c.self.view_is ∙ c.consume.ensures.used) c.self.invariant.sources.conditions_of))

pub returns : goal.returns
unfolding goes_past
returns g c = λ bounded.
    let e = c.args.self.now in
    let s = skipping e c.requires.ready c.requires.skipped in
    let skips : c.self.inside.conditions.skipped ≡ Some s.count = ap (λ e. e.conditions.skipped) (c.self.view_is ∙ c.consume.ensures.used) ∙ s.skips in
    let counts : c.open_skipped.new.self ≡ with_count (s.count + 1) e.conditions =
    counts_one c.self.inside.conditions c.open_skipped.new.self s.count skips c.open_skipped.ensures.skipped
    ∙ ap (λ v. with_count (s.count + 1) v) (ap (λ e. e.conditions) (c.self.view_is ∙ c.consume.ensures.used)) in
    opening_steps g.S.Sources e _ c.requires.ready bounded c.requires.some s c.requires.mode c.args.defined c.open_skipped.new.self c.requires.opening counts
    (with_conditions _ _ c.open_skipped.new.self (c.self.view_is ∙ c.consume.ensures.used)
    ∙ ap (λ (n : ℕ). goes_past c.open_skipped.new.self n e) c.opening_len.ensures)
