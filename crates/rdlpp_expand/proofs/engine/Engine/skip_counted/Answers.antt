use Rattle.std.proofs.Common.{ap, subst, ◌∙◌}
use Rattle.rdlpp_read.specs.Buffer.{held_of}
use Rattle.rdlpp_read.specs.Files.{inner_buffer}
use Rattle.rdlpp_state.specs.Conditionals.{IsSkippedWord}
use Rattle.rdlpp_state.proofs.DirectiveSteps.{include_passed, undef_passed}
use Rattle.rdlpp_expand.proofs.engine.Engine.skip_counted.Goals as goal

pub skip_word-requires-in-Undef-clause-word : goal.skip_word-requires-in-Undef-clause-word
skip_word-requires-in-Undef-clause-word g c =
    let held = c.held.ensures.value ∙ ap held_of (c.file.ensures.buffer ∙ ap (λ e. inner_buffer e.files.include_stack) c.self.view_is) in
    rw (c.word_len.ensures) (subst (λ h. IsSkippedWord h 6) held (undef_passed c.held.result.now c.in-Undef.field-0 c.in-Undef.ensures.1))

pub skip_word-requires-in-Include-clause-word : goal.skip_word-requires-in-Include-clause-word
skip_word-requires-in-Include-clause-word g c =
    let held = c.held.ensures.value ∙ ap held_of (c.file.ensures.buffer ∙ ap (λ e. inner_buffer e.files.include_stack) c.self.view_is) in
    rw (c.word_len-in-Include.ensures) (subst (λ h. IsSkippedWord h 8) held (include_passed c.held.result.now c.in-Include.field-0 c.in-Include.ensures.1))
