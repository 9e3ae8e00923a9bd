use Rattle.std.proofs.Common.{◌≡◌, ℕ, List, [], None, true, false, take, drop, sym, ap, ◌∙◌, subst, arith, refl}
use Rattle.std.proofs.lemmas.List.{take_rest}
use Rattle.rdlpp_scan.specs.SourceTokens.{line_len}
use Rattle.rdlpp_meaning.specs.Meaning.{renumbered}
use Rattle.rdlpp_meaning.specs.declared.fault.FaultKind.TheVariants as fault
use Rattle.rdlpp_read.specs.Buffer.{held_of}
use Rattle.rdlpp_read.specs.Files.{inner_buffer}
use Rattle.rdlpp_front.specs.Arguments.{LineGiven}
use Rattle.rdlpp_front.proofs.TextLeft.{word_held}
use Rattle.rdlpp_state.specs.Lines.{inner_blanks}
use Rattle.rdlpp_state.proofs.EngineSteps.{not_called}
use Rattle.rdlpp_state.proofs.FrontSteps.{read_nothing, refuses}
use Rattle.rdlpp_state.proofs.LineSteps.{held_short, left_bad_line, left_late_line, take_renumbered}
use Rattle.rdlpp_expand.proofs.engine.Engine.take_line.Goals as goal
use Rattle.rdlpp_state.proofs.Stores.{own_kind}

pub returns-then-not-file : goal.returns-then-not-file
returns-then-not-file g c = λ bounded.
    let e = c.args.self.now in
    let late : inner_blanks e.files.include_stack ≡ false = ap inner_blanks (ap (λ e. e.files.include_stack) (sym c.self.view_is) ∙ c.file-file.ensures.inner) ∙ c.if-not-file.true in
    refuses g.S.Sources e e c.record_fault.new.self c.record_fault.result fault.BadLine _ [] c.requires.ready (read_nothing e) bounded c.record_fault.ensures.halt c.record_fault.ensures.kept
    (own_kind _ refl) (not_called g.S.Sources e.sources)
    (λ t. left_late_line g.S.Sources e c.requires.ready c.requires.live c.requires.some c.requires.mode c.requires.line late)

pub returns-in-None : goal.returns-in-None
returns-in-None g c = λ bounded.
    let e = c.args.self.now in
    let held : c.held.result.now ≡ held_of (inner_buffer e.files.include_stack) = c.held.ensures.value ∙ ap held_of (c.file-file.ensures.buffer ∙ ap (λ e. inner_buffer e.files.include_stack) c.self.view_is) in
    let word : c.word_len.result ≡ 5 = c.word_len.ensures in
    let bad = subst (λ (x : List ℕ). renumbered (take (line_len x) x) ≡ None) (take_rest c.held.result.now 5 ∙ ap (λ (x : List ℕ). drop 5 x) held) (rw word at c.in-None.ensures) in
    refuses g.S.Sources e e c.record_fault-in-None.new.self c.record_fault-in-None.result fault.BadLine _ [] c.requires.ready (read_nothing e) bounded c.record_fault-in-None.ensures.halt
    c.record_fault-in-None.ensures.kept (own_kind _ refl) (not_called g.S.Sources e.sources)
    (λ t. left_bad_line g.S.Sources e c.requires.ready c.requires.live c.requires.some c.requires.mode c.requires.line bad)

pub renumber-requires-clause-inside : goal.renumber-requires-clause-inside
renumber-requires-clause-inside g c = grind (arith, word_held)

pub renumber-requires-clause-few : goal.renumber-requires-clause-few
renumber-requires-clause-few g c = grind (arith, word_held, held_short)

pub returns-in-Some : goal.returns-in-Some
returns-in-Some g c = λ bounded.
    let e = c.args.self.now in
    let h = held_of (inner_buffer e.files.include_stack) in
    let held : c.held.result.now ≡ h = c.held.ensures.value ∙ ap held_of (c.file-file.ensures.buffer ∙ ap (λ e. inner_buffer e.files.include_stack) c.self.view_is) in
    let first : inner_blanks e.files.include_stack ≡ true = ap inner_blanks (ap (λ e. e.files.include_stack) (sym c.self.view_is) ∙ c.file-file.ensures.inner) ∙ c.if-not-file.false in
    let word : c.word_len.result ≡ 5 = c.word_len.ensures in
    let has : LineGiven (drop 5 h) c.in-Some.given = subst (λ (x : List ℕ). LineGiven x c.in-Some.given) (take_rest c.held.result.now 5 ∙ ap (λ (x : List ℕ). drop 5 x) held) (rw word at c.in-Some.ensures) in
    let inside = has.inside in
    let whole = word_held h c.requires.some c.requires.line in
    take_renumbered g.S.Sources e c.renumber.new.self c.in-Some.given c.requires.ready c.requires.live bounded c.requires.some c.requires.mode c.requires.line first has (omega arith) c.renumber.ensures
