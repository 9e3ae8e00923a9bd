use Rattle.std.proofs.Common.{◌+◌, refl, ap, ◌∙◌, arith}
use Rattle.rdlpp_scan.specs.SourceTokens.{line_ends}
use Rattle.rdlpp_read.specs.Buffer.{held_of, reading_line_of}
use Rattle.rdlpp_read.proofs.Growing.{held_le, line_ends_le}
use Rattle.rdlpp_read.proofs.buffer.SourceBuffer.reading_line.Goals as goal

pub overflow_add-result : goal.overflow_add-result
unfolding held_of
overflow_add-result g c = grind (arith, line_ends_le, held_le)

pub returns : goal.returns
unfolding reading_line_of
returns g c = ap (λ n. c.self.inside.line + n) (c.line_ends_in.ensures ∙ ap line_ends c.held.ensures.value) ∙ rw (← c.self.view_is) refl
