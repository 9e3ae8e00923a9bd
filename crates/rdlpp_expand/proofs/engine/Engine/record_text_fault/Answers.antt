use Rattle.std.proofs.Common.{◌≡◌, take, Some, ap, ◌∙◌}
use Rattle.rdlpp_texts.specs.Places.{place_bytes}
use Rattle.rdlpp_meaning.specs.State.{fault_at}
use Rattle.rdlpp_state.specs.Pieces.{held_texts}
use Rattle.rdlpp_state.specs.Remaining.{state_of}
use Rattle.rdlpp_state.proofs.FrontSteps.{kept_cut}
use Rattle.rdlpp_expand.proofs.engine.Engine.record_text_fault.Goals as goal

pub returns-clause-kept : goal.returns-clause-kept
returns-clause-kept g c =
    let e = c.args.self.now in
    let text : c.text.result.now ≡ place_bytes (held_texts e) c.args.fault.word = c.text.ensures in
    let line : c.line-line.result ≡ e.expansion.line = c.line-line.ensures ∙ ap (λ v. v.expansion.line) c.self.view_is in
    kept_cut e c.record_fault_at.new.self c.args.fault.kind e.expansion.line c.word_of-word.result.bytes (place_bytes (held_texts e) c.args.fault.word) (state_of e)
    (c.record_fault_at.ensures.kept ∙ ap (λ n. record e { kept = Some (fault_at c.args.fault.kind n c.word_of-word.result.bytes (state_of e)) }) line)
    (c.word_of-word.ensures ∙ ap (take 128) text)
