use Rattle.std.proofs.Common.{◌≡◌, [], Err, Ok, take, List, ℕ, true, false, Option, refl, sym, ap, subst, ◌∙◌}
use Rattle.rdlpp_scan.specs.Reserved.{is_reserved}
use Rattle.rdlpp_meaning.specs.declared.fault.FaultKind.TheVariants.{NameExpected, ReservedName}
use Rattle.rdlpp_read.specs.Buffer.{held_of}
use Rattle.rdlpp_read.specs.Files.{inner_buffer}
use Rattle.rdlpp_front.specs.SourceItems.{IsNamed, argument_name, given_name}
use Rattle.rdlpp_front.specs.declared.arguments.Argument.{Argument}
use Rattle.rdlpp_front.proofs.Insides.{name_inside, name_word}
use Rattle.rdlpp_state.specs.Moves.{LooksAtName}
use Rattle.rdlpp_state.proofs.FrontSteps.{kept_cut}
use Rattle.rdlpp_state.proofs.Stores.{own_kind}
use Rattle.rdlpp_expand.proofs.engine.Engine.named.Goals as goal

pub word_of-word-requires : goal.word_of-word-requires
word_of-word-requires g c =
    let h = held_of (inner_buffer c.args.self.now.files.include_stack) in
    let held : c.held.result.now ≡ h = c.held.ensures.value ∙ ap held_of (c.file.ensures.buffer ∙ ap (λ e. inner_buffer e.files.include_stack) c.self.view_is) in
    rw held (name_word c.requires.given.0 h _ _ (subst (IsNamed c.requires.given.0 h) c.in-Some.is c.requires.given.1))

pub returns-in-None : goal.returns-in-None
unfolding given_name
returns-in-None g c =
    subst (λ (x : Option Argument). LooksAtName x c.args.self.now c.record_fault.new.self (Err c.record_fault.result)) (sym c.in-None.is)
    (c.record_fault.ensures.halt, record { kind = NameExpected; word = []; own = own_kind _ refl; faulty = refl; becomes = c.record_fault.ensures.kept })

pub returns-then-is_some : goal.returns-then-is_some
unfolding given_name
returns-then-is_some g c =
    let e = c.args.self.now in
    let h = held_of (inner_buffer e.files.include_stack) in
    let a = c.in-Some.given in
    let held : c.held.result.now ≡ h = c.held.ensures.value ∙ ap held_of (c.file.ensures.buffer ∙ ap (λ e. inner_buffer e.files.include_stack) c.self.view_is) in
    let name : List ℕ → List ℕ = λ z. argument_name z a.start a.stop in
    let taken : is_reserved (name h) ≡ true = ap (λ z. is_reserved (name z)) (sym held) ∙ (sym c.reserved.ensures.reserved ∙ (sym c.is_some.ensures ∙ c.if-is_some.true)) in
    let word : c.word_of-word.result.bytes ≡ take 128 (name h) = c.word_of-word.ensures ∙ ap (λ z. take 128 (name z)) held in
    subst (λ (x : Option Argument). LooksAtName x e c.record_word_fault.new.self (Err c.record_word_fault.result)) (sym c.in-Some.is) (
      c.record_word_fault.ensures.halt,
      record { kind = ReservedName; word = name h; own = own_kind _ refl; faulty = rw taken refl; becomes = kept_cut e c.record_word_fault.new.self _ _ _ _ _ c.record_word_fault.ensures.kept word },
    )

pub returns-else-is_some : goal.returns-else-is_some
unfolding given_name
returns-else-is_some g c =
    let e = c.args.self.now in
    let h = held_of (inner_buffer e.files.include_stack) in
    let a = c.in-Some.given in
    let held : c.held.result.now ≡ h = c.held.ensures.value ∙ ap held_of (c.file.ensures.buffer ∙ ap (λ e. inner_buffer e.files.include_stack) c.self.view_is) in
    let free : is_reserved (argument_name h a.start a.stop) ≡ false =
    ap (λ z. is_reserved (argument_name z a.start a.stop)) (sym held) ∙ (sym c.reserved.ensures.reserved ∙ (sym c.is_some.ensures ∙ c.if-is_some.false)) in
    subst (λ (x : Option Argument). LooksAtName x e e (Ok a)) (sym c.in-Some.is) (refl, rw free refl, refl)

pub slice_bounds-name-end : goal.slice_bounds-name-end
slice_bounds-name-end g c =
    let h = held_of (inner_buffer c.args.self.now.files.include_stack) in
    let held : c.held.result.now ≡ h = c.held.ensures.value ∙ ap held_of (c.file.ensures.buffer ∙ ap (λ e. inner_buffer e.files.include_stack) c.self.view_is) in
    rw held ((name_inside c.requires.given.0 h _ _ (subst (IsNamed c.requires.given.0 h) c.in-Some.is c.requires.given.1)).2)
