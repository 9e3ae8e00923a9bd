use Rattle.std.proofs.Common.{◌≡◌, take, ap, ◌∙◌}
use Rattle.rdlpp_read.specs.Buffer.{held_of}
use Rattle.rdlpp_read.specs.Files.{inner_buffer}
use Rattle.rdlpp_front.specs.SourceItems.{usage_name}
use Rattle.rdlpp_front.proofs.Insides.{usage_inside, usage_word}
use Rattle.rdlpp_state.proofs.FrontSteps.{kept_cut}
use Rattle.rdlpp_expand.proofs.engine.Engine.record_undefined.Goals as goal

pub name_of-requires-clause-some : goal.name_of-requires-clause-some
name_of-requires-clause-some g c = (usage_inside _ _ c.requires.some c.requires.usage).0

pub name_of-requires-clause-inside : goal.name_of-requires-clause-inside
name_of-requires-clause-inside g c =
    let held : c.held.result.now ≡ held_of (inner_buffer c.args.self.now.files.include_stack) = c.held.ensures.value ∙ ap held_of (c.file.ensures.buffer ∙ ap (λ e. inner_buffer e.files.include_stack) c.self.view_is) in
    rw held ((usage_inside _ _ c.requires.some c.requires.usage).1)

pub word_of-word-requires : goal.word_of-word-requires
word_of-word-requires g c =
    let held : c.held.result.now ≡ held_of (inner_buffer c.args.self.now.files.include_stack) = c.held.ensures.value ∙ ap held_of (c.file.ensures.buffer ∙ ap (λ e. inner_buffer e.files.include_stack) c.self.view_is) in
    rw (c.name_of.ensures, held) (usage_word _ _ c.requires.usage)

pub returns : goal.returns
returns g c =
    let e = c.args.self.now in
    let held : c.held.result.now ≡ held_of (inner_buffer e.files.include_stack) = c.held.ensures.value ∙ ap held_of (c.file.ensures.buffer ∙ ap (λ e. inner_buffer e.files.include_stack) c.self.view_is) in
    let word : c.word_of-word.result.bytes ≡ take 128 (usage_name (held_of (inner_buffer e.files.include_stack)) c.args.len) = c.word_of-word.ensures ∙ ap (take 128) (c.name_of.ensures ∙ ap (λ h. usage_name h c.args.len) held) in
    kept_cut e c.record_word_fault-fault.new.self _ _ _ _ _ c.record_word_fault-fault.ensures.kept word
