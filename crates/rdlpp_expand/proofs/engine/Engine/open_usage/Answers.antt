use Rattle.std.proofs.Common.{◌≡◌, ap, ◌∙◌, refl, subst, arith}
use Rattle.rdlpp_define.specs.Table.{macro_at}
use Rattle.rdlpp_read.specs.Buffer.{held_of}
use Rattle.rdlpp_read.specs.Files.{inner_buffer}
use Rattle.rdlpp_front.specs.SourceItems.{usage_name}
use Rattle.rdlpp_front.proofs.Insides.{usage_word}
use Rattle.rdlpp_usages.specs.declared.expansion.Opening.{Opening}
use Rattle.rdlpp_state.specs.Standing.{OpensUsage}
use Rattle.rdlpp_state.specs.declared.place.Halt.TheVariants.{Fault}
use Rattle.rdlpp_state.proofs.UsageSteps.{breaks_step, fails_step, opens_step, refuses_step}
use Rattle.rdlpp_state.proofs.Soundness.{inner_facts}
use Rattle.rdlpp_expand.proofs.TextFacts.{used_name}
use Rattle.rdlpp_expand.proofs.engine.Engine.open_usage.Goals as goal

pub returns-in-Opened : goal.returns-in-Opened
returns-in-Opened g c = λ bounded.
    let e = c.args.self.now in
    opens_step g.S.Sources e c.open_macro.new.self c.args.len c.requires.ready c.requires.live c.requires.mode c.requires.usage c.facts.ensures.texts
    (subst (λ (o : Opening). OpensUsage g.S.Sources c.args.len e c.open_macro.new.self o) c.in-Opened.is c.open_macro.ensures) bounded

pub returns-in-Broken : goal.returns-in-Broken
returns-in-Broken g c = λ bounded.
    let e = c.args.self.now in
    breaks_step g.S.Sources e c.open_macro.new.self c.args.len c.requires.ready c.requires.live c.requires.mode c.requires.usage c.facts.ensures.texts c.record_broken.new.self Fault _ _
    (subst (λ (o : Opening). OpensUsage g.S.Sources c.args.len e c.open_macro.new.self o) c.in-Broken.is c.open_macro.ensures) bounded refl c.record_broken.ensures

pub returns-in-Failed : goal.returns-in-Failed
returns-in-Failed g c = λ bounded.
    let e = c.args.self.now in
    fails_step g.S.Sources e c.open_macro.new.self c.args.len c.requires.ready c.requires.live c.requires.mode c.requires.usage c.facts.ensures.texts c.record_read_fault.new.self c.record_read_fault.result
    (subst (λ (o : Opening). OpensUsage g.S.Sources c.args.len e c.open_macro.new.self o) c.in-Failed.is c.open_macro.ensures) bounded c.record_read_fault.ensures.halt c.record_read_fault.ensures.kept

pub returns-in-Refused : goal.returns-in-Refused
returns-in-Refused g c = λ bounded.
    let e = c.args.self.now in
    let same = c.file.ensures.buffer ∙ ap (λ e. inner_buffer e.files.include_stack) c.self.view_is in
    let line : c.line-line.result ≡ (inner_buffer e.files.include_stack).line = c.line-line.ensures ∙ ap (λ b. b.line) same in
    let name = usage_name (held_of (inner_buffer e.files.include_stack)) c.args.len in
    let named : (macro_at c.open_macro.new.self.table.macros c.args.id).name ≡ name = used_name c.open_macro.new.self.table e.table name _ c.args.id (ap (λ v. v.table) c.open_macro.ensures.becomes) refl c.requires.named in
    refuses_step g.S.Sources e c.open_macro.new.self c.args.len c.requires.ready c.requires.live c.requires.mode c.requires.usage c.facts.ensures.texts c.record_refused.new.self Fault _
    (subst (λ (o : Opening). OpensUsage g.S.Sources c.args.len e c.open_macro.new.self o) c.in-Refused.is c.open_macro.ensures) bounded refl
    (rw (line, named) at c.record_refused.ensures)

pub record_refused-requires-clause-name : goal.record_refused-requires-clause-name
record_refused-requires-clause-name g c =
    let e = c.args.self.now in
    let name = usage_name (held_of (inner_buffer e.files.include_stack)) c.args.len in
    let named : (macro_at c.open_macro.new.self.table.macros c.args.id).name ≡ name = used_name c.open_macro.new.self.table e.table name _ c.args.id (ap (λ v. v.table) c.open_macro.ensures.becomes) refl c.requires.named in
    rw named (usage_word _ _ c.requires.usage)

pub record_refused-requires-clause-line : goal.record_refused-requires-clause-line
record_refused-requires-clause-line g c =
    let same = c.file.ensures.buffer ∙ ap (λ e. inner_buffer e.files.include_stack) c.self.view_is in
    let counts = (inner_facts c.args.self.now.files c.requires.ready.include_stack c.requires.ready.files).buffer.counts in
    let line = c.line-line.ensures ∙ ap (λ b. b.line) same in
    omega arith
