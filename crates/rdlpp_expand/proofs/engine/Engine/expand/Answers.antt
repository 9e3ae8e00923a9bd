use Rattle.std.proofs.Common.{◌≡◌, None, ap, ◌∙◌, refl}
use Rattle.rdlpp_define.specs.Table.{macro_named}
use Rattle.rdlpp_meaning.specs.declared.fault.FaultKind.TheVariants as fault
use Rattle.rdlpp_read.specs.Buffer.{held_of}
use Rattle.rdlpp_read.specs.Files.{inner_buffer}
use Rattle.rdlpp_front.specs.SourceItems.{usage_name}
use Rattle.rdlpp_front.proofs.Insides.{usage_inside}
use Rattle.rdlpp_state.proofs.EngineSteps.{not_called}
use Rattle.rdlpp_state.specs.declared.place.Halt.TheVariants.{Fault}
use Rattle.rdlpp_state.proofs.FrontSteps.{left_undefined, read_nothing, refuses}
use Rattle.rdlpp_expand.proofs.engine.Engine.expand.Goals as goal
use Rattle.rdlpp_state.proofs.Stores.{own_kind}

pub name_of-name-requires-clause-some : goal.name_of-name-requires-clause-some
name_of-name-requires-clause-some g c = (usage_inside _ _ c.requires.some c.requires.usage).0

pub name_of-name-requires-clause-inside : goal.name_of-name-requires-clause-inside
name_of-name-requires-clause-inside g c =
    let held : c.held.result.now ≡ held_of (inner_buffer c.args.self.now.files.include_stack) = c.held.ensures.value ∙ ap held_of (c.file.ensures.buffer ∙ ap (λ e. inner_buffer e.files.include_stack) c.self.view_is) in
    rw held ((usage_inside _ _ c.requires.some c.requires.usage).1)

pub returns-in-None : goal.returns-in-None
returns-in-None g c = λ bounded.
    let e = c.args.self.now in
    let held : c.held.result.now ≡ held_of (inner_buffer e.files.include_stack) = c.held.ensures.value ∙ ap held_of (c.file.ensures.buffer ∙ ap (λ e. inner_buffer e.files.include_stack) c.self.view_is) in
    let name : c.name_of-name.result.now ≡ usage_name (held_of (inner_buffer e.files.include_stack)) c.args.len = c.name_of-name.ensures ∙ ap (λ h. usage_name h c.args.len) held in
    let none : macro_named e.table.macros (usage_name (held_of (inner_buffer e.files.include_stack)) c.args.len) ≡ None = rw (← name, ← c.self.view_is) c.in-None.ensures.named in
    refuses g.S.Sources e e c.record_undefined.new.self Fault fault.UndefinedMacro _ (usage_name (held_of (inner_buffer e.files.include_stack)) c.args.len) c.requires.ready (read_nothing e) bounded
    refl c.record_undefined.ensures (own_kind _ refl) (not_called g.S.Sources e.sources)
    (λ t. left_undefined g.S.Sources e c.args.len c.requires.ready c.requires.live c.requires.some c.requires.mode c.requires.usage none)
