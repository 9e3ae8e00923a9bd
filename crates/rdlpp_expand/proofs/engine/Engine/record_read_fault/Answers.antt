use Rattle.std.proofs.Common.{◌≡◌, ap, ◌∙◌, arith}
use Rattle.rdlpp_read.specs.Buffer.{held_of, reading_line_of}
use Rattle.rdlpp_read.specs.Files.{inner_buffer}
use Rattle.rdlpp_read.proofs.Growing.{line_ends_le}
use Rattle.rdlpp_state.proofs.Soundness.{inner_facts}
use Rattle.rdlpp_state.proofs.WorkFacts.{held_room}
use Rattle.rdlpp_expand.proofs.engine.Engine.record_read_fault.Goals as goal

pub record_fault_at-requires-clause-line : goal.record_fault_at-requires-clause-line
unfolding reading_line_of
record_fault_at-requires-clause-line g c =
    let b = inner_buffer c.self.inside.files.include_stack in
    let counts = (inner_facts c.self.inside.files (rw (← c.self.view_is) at c.requires) c.facts.ensures).buffer.counts in
    let line : c.reading_line-line.result ≡ reading_line_of b = c.reading_line-line.ensures ∙ ap reading_line_of c.file.ensures.buffer in
    let most = line_ends_le (held_of b) in
    let room = held_room b in
    omega arith

pub returns-clause-kept : goal.returns-clause-kept
returns-clause-kept g c = grind arith
