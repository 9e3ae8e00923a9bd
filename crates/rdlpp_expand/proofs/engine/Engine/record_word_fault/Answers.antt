use Rattle.std.proofs.Common.{ap, ◌∙◌, arith}
use Rattle.rdlpp_state.proofs.Soundness.{inner_facts}
use Rattle.rdlpp_expand.proofs.engine.Engine.record_word_fault.Goals as goal

pub record_fault_at-requires-clause-line : goal.record_fault_at-requires-clause-line
record_fault_at-requires-clause-line g c =
    let counts = (inner_facts c.self.inside.files (rw (← c.self.view_is) at c.requires) c.facts.ensures).buffer.counts in
    let line = c.line-line.ensures ∙ ap (λ b. b.line) c.file.ensures.buffer in
    omega arith

pub returns-clause-kept : goal.returns-clause-kept
returns-clause-kept g c = grind arith
