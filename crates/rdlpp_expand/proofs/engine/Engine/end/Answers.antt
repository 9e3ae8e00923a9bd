use Rattle.std.proofs.Common.{refl, sym, ap, ◌∙◌, arith}
use Rattle.rdlpp_scan.specs.Front.{Breach}
use Rattle.rdlpp_scan.specs.declared.token.Mode.TheVariants.{InStr, InBlock}
use Rattle.rdlpp_meaning.specs.State.{breach_kind}
use Rattle.rdlpp_read.specs.Files.{inner_buffer}
use Rattle.rdlpp_state.proofs.Soundness.{inner_facts}
use Rattle.rdlpp_state.proofs.IncludeSteps.{stops_open}
use Rattle.rdlpp_expand.proofs.engine.Engine.end.Goals as goal
use Rattle.rdlpp_state.proofs.Stores.{own_kind}

pub record_fault_at-requires-clause-line : goal.record_fault_at-requires-clause-line
record_fault_at-requires-clause-line g c =
    let buffer = (inner_facts c.self.inside.files (rw (← c.self.view_is) at c.requires.some) c.facts.ensures).buffer in
    let counts = buffer.counts in
    let before = buffer.opened in
    let line = c.open_token_line-opened.ensures ∙ ap (λ b. b.open_token_line) c.file.ensures.buffer in
    omega arith

pub record_fault_at-requires-in-InBlock-clause-line : goal.record_fault_at-requires-in-InBlock-clause-line
record_fault_at-requires-in-InBlock-clause-line g c =
    let buffer = (inner_facts c.self.inside.files (rw (← c.self.view_is) at c.requires.some) c.facts.ensures).buffer in
    let counts = buffer.counts in
    let before = buffer.opened in
    let line = c.open_token_line-opened.ensures ∙ ap (λ b. b.open_token_line) c.file.ensures.buffer in
    omega arith

pub end_plain-requires-clause-mode : goal.end_plain-requires-clause-mode
end_plain-requires-clause-mode g c = grind arith

pub returns-in-InStr : goal.returns-in-InStr
unfolding breach_kind
returns-in-InStr g c =
    let same = c.file.ensures.buffer ∙ ap (λ e. inner_buffer e.files.include_stack) c.self.view_is in
    stops_open c.args.self.now c.record_fault_at.new.self c.record_fault_at.result Breach.StringOpen InStr c.open_token_line-opened.result
    c.record_fault_at.ensures.halt (ap (λ b. b.mode) (sym same) ∙ (sym c.mode.ensures ∙ c.in-InStr.is)) refl (own_kind _ refl) (c.open_token_line-opened.ensures ∙ ap (λ b. b.open_token_line) same) (rw c.new.ensures at c.record_fault_at.ensures.kept)

pub returns-in-InBlock : goal.returns-in-InBlock
unfolding breach_kind
returns-in-InBlock g c =
    let same = c.file.ensures.buffer ∙ ap (λ e. inner_buffer e.files.include_stack) c.self.view_is in
    stops_open c.args.self.now c.record_fault_at-in-InBlock.new.self c.record_fault_at-in-InBlock.result Breach.CommentOpen InBlock c.open_token_line-opened.result
    c.record_fault_at-in-InBlock.ensures.halt (ap (λ b. b.mode) (sym same) ∙ (sym c.mode.ensures ∙ c.in-InBlock.is)) refl (own_kind _ refl) (c.open_token_line-opened.ensures ∙ ap (λ b. b.open_token_line) same) (rw c.new-in-InBlock.ensures at c.record_fault_at-in-InBlock.ensures.kept)
