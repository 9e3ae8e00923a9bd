use Rattle.std.proofs.Common.{◌≡◌, Bool, Some, Ok, refl, ap, subst, ◌∙◌, is_some, option_map}
use Rattle.rdlpp_define.specs.Table.{macro_named, macro_at}
use Rattle.rdlpp_read.specs.Buffer.{held_of}
use Rattle.rdlpp_read.specs.Files.{inner_buffer}
use Rattle.rdlpp_front.specs.SourceItems.{argument_name}
use Rattle.rdlpp_front.proofs.NamedDirectives.{begins_within}
use Rattle.rdlpp_read.specs.ConditionMoves.{turned_with}
use Rattle.rdlpp_read.specs.declared.conditions.Branch.TheVariants.{Named}
use Rattle.rdlpp_state.specs.Conditionals.{IsGivenBranch, goes_past}
use Rattle.rdlpp_state.specs.Moves.{LooksAtName}
use Rattle.rdlpp_state.proofs.DirectiveSteps.{found_by, given_begins, given_named, own_here, turn_named, turn_unnamed}
use Rattle.rdlpp_state.proofs.Soundness.{own_open}
use Rattle.rdlpp_expand.proofs.engine.Engine.turn_named.Goals as goal

pub named-requires-clause-given : goal.named-requires-clause-given
named-requires-clause-given g c =
    let own = own_here c.args.word Named c.args.self.now c.requires.ready _ refl c.requires.decides (λ e. cc) (λ e. cc) in
    (c.args.word, given_named c.args.word _ c.args.argument c.requires.branch own.turns.0)

pub returns-in-Err : goal.returns-in-Err
returns-in-Err g c = λ bounded.
    let e = c.args.self.now in
    turn_unnamed g.S.Sources e c.named.new.self c.requires.ready bounded c.requires.some c.requires.mode c.args.word c.args.argument c.requires.branch
    (own_here c.args.word Named e c.requires.ready _ refl c.requires.decides (λ e. cc) (λ e. cc)) c.in-Err.halt c.in-Err.ensures

pub turn-requires : goal.turn-requires
turn-requires g c =
    let e = c.args.self.now in
    let looks : LooksAtName c.args.argument e c.named.new.self (Ok c.in-Ok.given) = c.in-Ok.ensures in
    let h = held_of (inner_buffer e.files.include_stack) in
    let branch = subst (IsGivenBranch c.args.word h) looks.0 c.requires.branch in
    rw looks.2 (record {
      own = own_open c.args.word Named _ _ (own_here c.args.word Named e c.requires.ready _ refl c.requires.decides (λ e. cc) (λ e. cc));
      include_stack = c.requires.ready.include_stack;
      inside = (begins_within c.args.word h _ _ (given_begins c.args.word h (Some c.in-Ok.given) branch) c.requires.some).1;
    })

pub returns-in-Ok : goal.returns-in-Ok
returns-in-Ok g c = λ bounded.
    let e = c.args.self.now in
    let a = c.in-Ok.given in
    let looks : LooksAtName c.args.argument e c.named.new.self (Ok a) = c.in-Ok.ensures in
    let h = held_of (inner_buffer e.files.include_stack) in
    let name = argument_name h a.start a.stop in
    let same = c.self.view_is ∙ looks.2 in
    let held : c.held.result.now ≡ h = c.held.ensures.value ∙ ap held_of (c.file.ensures.buffer ∙ ap (λ e. inner_buffer e.files.include_stack) same) in
    let macros : macro_named e.table.macros name ≡ option_map (macro_at e.table.macros) c.find.result = rw (← held, ← same) c.find.ensures.named in
    let found : c.is_some-found.result ≡ is_some (macro_named e.table.macros name) = c.is_some-found.ensures ∙ found_by (macro_at e.table.macros) (macro_named e.table.macros name) c.find.result macros in
    turn_named g.S.Sources e c.turn.new.self c.requires.ready bounded c.requires.some c.requires.mode c.args.word (Some a) (subst (IsGivenBranch c.args.word h) looks.0 c.requires.branch)
    (own_here c.args.word Named e c.requires.ready _ refl c.requires.decides (λ e. cc) (λ e. cc)) name looks.1
    ((rw looks.2 at c.turn.ensures) ∙ ap (λ (t : Bool). goes_past (turned_with c.args.word t e.conditions) a.stop e) found)
