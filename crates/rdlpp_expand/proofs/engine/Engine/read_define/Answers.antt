use Rattle.std.proofs.Common.{◌≡◌, ◌+◌, length, take, drop, ap, ◌∙◌, arith, length-take-le}
use Rattle.rdlpp_scan.specs.SourceTokens.{line_ends}
use Rattle.rdlpp_define.specs.Defined.{Accepted, define_of, observed}
use Rattle.rdlpp_read.specs.Buffer.{held_of}
use Rattle.rdlpp_read.specs.Files.{inner_buffer}
use Rattle.rdlpp_read.proofs.Growing.{line_ends_le}
use Rattle.rdlpp_state.specs.Moves.{define_rest}
use Rattle.rdlpp_state.specs.Pending.{PendingView, nothing_pending}
use Rattle.rdlpp_state.proofs.FrontSteps.{after_word, defined_same, defines_by, owing, reads_refused}
use Rattle.rdlpp_expand.proofs.engine.Engine.read_define.Goals as goal

pub consume-requires-clause-lines : goal.consume-requires-clause-lines
consume-requires-clause-lines g c = grind (arith, length-take-le, line_ends_le)

pub queue_line_ends-requires : goal.queue_line_ends-requires
unfolding nothing_pending
queue_line_ends-requires g c = grind arith

pub returns-in-Err : goal.returns-in-Err
unfolding observed
returns-in-Err g c = grind (arith, length-take-le, after_word, defined_same, reads_refused)

pub returns-in-Ok : goal.returns-in-Ok
unfolding observed
returns-in-Ok g c =
    let e = c.args.self.now in
    let held : c.held.result.now ≡ held_of (inner_buffer e.files.include_stack) = c.held.ensures.value ∙ ap held_of (c.file-file.ensures.buffer ∙ ap (λ e. inner_buffer e.files.include_stack) c.self.view_is) in
    let inside : c.held.result.now ≡ held_of (inner_buffer c.self.inside.files.include_stack) = c.held.ensures.value ∙ ap held_of c.file-file.ensures.buffer in
    let wide : length (take c.args.len c.held.result.now) ≡ c.args.len = length-take-le c.args.len c.held.result.now (rw held c.requires.inside) in
    let rest = after_word (take c.args.len c.held.result.now) c.args.len c.min.result wide (rw (c.word_len.ensures) at c.min.ensures) in
    let accepted : define_of e.table.most_bytes e.table.most_macros e.table.macros (define_rest e c.args.len) ≡ Accepted c.read_define.new.self.macros =
    rw (← c.self.view_is) (defined_same _ _ _ _ _ _ c.in-Ok.ensures.outcome (rest ∙ ap (λ h. drop 7 (take c.args.len h)) inside)) in
    let counted : c.line_ends_in-lines.result ≡ line_ends (take c.args.len (held_of (inner_buffer e.files.include_stack))) = c.line_ends_in-lines.ensures ∙ ap (λ h. line_ends (take c.args.len h)) held in
    let grows : PendingView → PendingView = λ o. record o { line_ends = o.line_ends + c.line_ends_in-lines.result } in
    defines_by c.args.len e c.consume.new.self _ c.read_define.new.self c.queue_line_ends.new.self c.line_ends_in-lines.result
    (rw (← c.self.view_is) c.consume.ensures.used) (owing _ c.consume.new.self c.queue_line_ends.new.self c.self-in-Ok.view_is)
    (c.queue_line_ends.ensures ∙ ap grows (ap (λ e. e.pending) c.self-in-Ok.view_is))
    c.requires.nothing (rw (← c.self.view_is) c.in-Ok.ensures.limits) accepted counted

pub read_define-requires : goal.read_define-requires
read_define-requires g c =
    let h = held_of (inner_buffer c.args.self.now.files.include_stack) in
    let held : c.held.result.now ≡ h = c.held.ensures.value ∙ ap held_of (c.file-file.ensures.buffer ∙ ap (λ e. inner_buffer e.files.include_stack) c.self.view_is) in
    let wide = length-take-le c.args.len c.held.result.now (rw held c.requires.inside) in
    let rest = after_word (take c.args.len c.held.result.now) c.args.len c.min.result wide (rw (c.word_len.ensures) at c.min.ensures) in
    record { line = rw (rest, held) c.requires.line }
