use Rattle.std.proofs.Common.{◌≡◌, Ok, ap, subst, ◌∙◌}
use Rattle.rdlpp_scan.specs.declared.token.Directive.TheVariants.{Undef}
use Rattle.rdlpp_define.specs.Table.{without}
use Rattle.rdlpp_read.specs.Buffer.{held_of}
use Rattle.rdlpp_read.specs.Files.{consumed_file, inner_buffer, with_inner}
use Rattle.rdlpp_front.specs.SourceItems.{IsNamed, argument_name}
use Rattle.rdlpp_state.specs.Moves.{LooksAtName}
use Rattle.rdlpp_state.proofs.DirectiveSteps.{undef_named, undef_unnamed}
use Rattle.rdlpp_expand.proofs.engine.Engine.undefine.Goals as goal

pub named-requires-clause-given : goal.named-requires-clause-given
named-requires-clause-given g c = (Undef, c.requires.undef)

pub returns-in-Err : goal.returns-in-Err
returns-in-Err g c = λ bounded.
    undef_unnamed g.S.Sources c.args.self.now c.named.new.self c.requires.ready bounded c.requires.some c.requires.mode c.requires.live c.args.argument c.in-Err.halt c.requires.undef c.in-Err.ensures

pub returns-in-Ok : goal.returns-in-Ok
returns-in-Ok g c = λ bounded.
    let e = c.args.self.now in
    let a = c.in-Ok.given in
    let looks : LooksAtName c.args.argument e c.named.new.self (Ok a) = c.in-Ok.ensures in
    let h = held_of (inner_buffer e.files.include_stack) in
    let name = argument_name h a.start a.stop in
    let same = c.self.view_is ∙ looks.2 in
    let held : c.held.result.now ≡ h = c.held.ensures.value ∙ ap held_of (c.file.ensures.buffer ∙ ap (λ e. inner_buffer e.files.include_stack) same) in
    let table : c.remove-found.new.self ≡ record e.table { macros = without name e.table.macros } = rw (← held, ← same) c.remove-found.ensures.table in
    undef_named g.S.Sources e c.consume.new.self c.requires.ready bounded c.requires.some c.requires.mode c.requires.live a name (subst (IsNamed Undef h) looks.0 c.requires.undef) looks.1
    ((rw (← same) c.consume.ensures.used) ∙ ap (λ t. record e { table = t; files = record e.files { include_stack = with_inner (consumed_file a.stop 0) e.files.include_stack } }) table)
