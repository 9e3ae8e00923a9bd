use Rattle.std.proofs.Common.{◌≡◌, sym, ap, ◌∙◌}
use Rattle.rdlpp_scan.specs.declared.token.Mode.TheVariants.{Plain, InStr, InBlock}
use Rattle.rdlpp_meaning.specs.declared.fault.FaultKind.TheVariants.{OpenString, OpenComment}
use Rattle.rdlpp_meaning.specs.CallReading.{ReadRefused, ReadStopped}
use Rattle.rdlpp_meaning.specs.State.{breach_kind}
use Rattle.rdlpp_read.specs.Files.{inner_buffer}
use Rattle.rdlpp_usages.specs.CallReads.{is_read_fault}
use Rattle.rdlpp_usages.specs.CallActions.{call_state_meant}
use Rattle.rdlpp_usages.proofs.CallLoop.{end_comment, end_plain, end_string}
use Rattle.rdlpp_usages.proofs.Takes.{comment_fault, end_fault, string_fault}
use Rattle.rdlpp_usages.proofs.reading.end_of_text.Goals as goal

pub returns-in-Plain-clause-text : goal.returns-in-Plain-clause-text
returns-in-Plain-clause-text g c room =
    let f = inner_buffer c.args.files.now.include_stack in
    let mode : f.mode ≡ Plain = ap (λ b. b.mode) (sym c.file.ensures.buffer) ∙ sym c.mode.ensures ∙ c.in-Plain.is in
    end_plain (call_state_meant c.args.call_state) room f mode ∙ ap ReadRefused (sym c.fault_at_end.ensures)

pub returns-in-InStr-clause-text : goal.returns-in-InStr-clause-text
unfolding breach_kind
returns-in-InStr-clause-text g c room =
    let f = inner_buffer c.args.files.now.include_stack in
    let mode : f.mode ≡ InStr = ap (λ b. b.mode) (sym c.file.ensures.buffer) ∙ sym c.mode.ensures ∙ c.in-InStr.is in
    end_string (call_state_meant c.args.call_state) room f mode
    ∙ ap (ReadStopped OpenString) (sym (c.open_token_line.ensures ∙ ap (λ b. b.open_token_line) c.file.ensures.buffer))

pub returns-in-InBlock-clause-text : goal.returns-in-InBlock-clause-text
unfolding breach_kind
returns-in-InBlock-clause-text g c room =
    let f = inner_buffer c.args.files.now.include_stack in
    let mode : f.mode ≡ InBlock = ap (λ b. b.mode) (sym c.file.ensures.buffer) ∙ sym c.mode.ensures ∙ c.in-InBlock.is in
    end_comment (call_state_meant c.args.call_state) room f mode
    ∙ ap (ReadStopped OpenComment) (sym (c.open_token_line-in-InBlock.ensures ∙ ap (λ b. b.open_token_line) c.file.ensures.buffer))

pub returns-in-Plain-clause-fault : goal.returns-in-Plain-clause-fault
returns-in-Plain-clause-fault g c = ap is_read_fault c.fault_at_end.ensures ∙ end_fault (call_state_meant c.args.call_state)

pub returns-in-InStr-clause-fault : goal.returns-in-InStr-clause-fault
returns-in-InStr-clause-fault g c = string_fault

pub returns-in-InBlock-clause-fault : goal.returns-in-InBlock-clause-fault
returns-in-InBlock-clause-fault g c = comment_fault
