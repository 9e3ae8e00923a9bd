use Rattle.std.proofs.Common.{◌≡◌, Bool, Some, Ok, ap, subst, ◌∙◌, is_some, option_map}
use Rattle.rdlpp_define.specs.Table.{macro_named, macro_at}
use Rattle.rdlpp_read.specs.Buffer.{held_of}
use Rattle.rdlpp_read.specs.Files.{inner_buffer}
use Rattle.rdlpp_front.specs.SourceItems.{IsNamed, argument_name}
use Rattle.rdlpp_state.specs.Conditionals.{OpensOne, opening_word, test_of}
use Rattle.rdlpp_state.specs.Moves.{LooksAtName}
use Rattle.rdlpp_state.proofs.DirectiveSteps.{found_by, opening_named, opening_unnamed}
use Rattle.rdlpp_expand.proofs.engine.Engine.open_conditional.Goals as goal

pub named-requires-clause-given : goal.named-requires-clause-given
named-requires-clause-given g c = (opening_word c.args.defined, c.requires.opening)

pub returns-in-Err : goal.returns-in-Err
returns-in-Err g c = λ bounded.
    opening_unnamed g.S.Sources c.args.self.now c.named.new.self c.requires.ready bounded c.requires.some c.requires.mode c.requires.live c.args.defined c.args.argument c.requires.opening c.in-Err.halt c.in-Err.ensures

pub returns-in-Ok : goal.returns-in-Ok
returns-in-Ok g c = λ bounded.
    let e = c.args.self.now in
    let a = c.in-Ok.given in
    let looks : LooksAtName c.args.argument e c.named.new.self (Ok a) = c.in-Ok.ensures in
    let h = held_of (inner_buffer e.files.include_stack) in
    let name = argument_name h a.start a.stop in
    let same = c.self.view_is ∙ looks.2 in
    let held : c.held.result.now ≡ h = c.held.ensures.value ∙ ap held_of (c.file.ensures.buffer ∙ ap (λ e. inner_buffer e.files.include_stack) same) in
    let macros : macro_named e.table.macros name ≡ option_map (macro_at e.table.macros) c.find.result = rw (← held, ← same) c.find.ensures.named in
    let found : c.is_some-found.result ≡ is_some (macro_named e.table.macros name) = c.is_some-found.ensures ∙ found_by (macro_at e.table.macros) (macro_named e.table.macros name) c.find.result macros in
    opening_named g.S.Sources e c.open_tested.new.self c.requires.ready bounded c.requires.some c.requires.mode c.requires.live c.args.defined (Some a)
    (subst (IsNamed (opening_word c.args.defined) h) looks.0 c.requires.opening) name c.open_tested.result looks.1
    (subst (λ (t : Bool). OpensOne t a.stop e c.open_tested.new.self c.open_tested.result) (c.test_of.ensures ∙ ap (test_of c.args.defined) found) (rw looks.2 at c.open_tested.ensures))
