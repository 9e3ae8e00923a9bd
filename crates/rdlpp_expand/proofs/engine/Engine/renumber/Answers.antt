use Rattle.std.proofs.Common.{◌≡◌, ◌+◌, take, ap, ◌∙◌, arith, length-take-le}
use Rattle.rdlpp_scan.specs.SourceTokens.{line_ends}
use Rattle.rdlpp_read.specs.Buffer.{held_of}
use Rattle.rdlpp_read.specs.Files.{inner_buffer}
use Rattle.rdlpp_read.proofs.Growing.{line_ends_le}
use Rattle.rdlpp_state.specs.Pending.{PendingView, nothing_pending, origin_pending}
use Rattle.rdlpp_state.specs.Marks.{ends_line}
use Rattle.rdlpp_state.proofs.LentPieces.{owing_marked}
use Rattle.rdlpp_state.proofs.LineSteps.{renumbers_by}
use Rattle.rdlpp_expand.proofs.engine.Engine.renumber.Goals as goal

pub consume-requires-clause-lines : goal.consume-requires-clause-lines
consume-requires-clause-lines g c = grind (arith, length-take-le, line_ends_le)

pub queue_line_ends-requires : goal.queue_line_ends-requires
unfolding nothing_pending
queue_line_ends-requires g c = grind arith

pub returns : goal.returns
returns g c =
    let e = c.args.self.now in
    let len = 5 + c.args.given.stop in
    let word : c.word_len.result ≡ 5 = c.word_len.ensures in
    let buffer = c.file.ensures.buffer ∙ ap (λ e. inner_buffer e.files.include_stack) c.self.view_is in
    let held : c.held.result.now ≡ held_of (inner_buffer e.files.include_stack) = c.held.ensures.value ∙ ap held_of buffer in
    let counted : c.line_ends_in-lines.result ≡ line_ends (take len (held_of (inner_buffer e.files.include_stack))) = (rw word at c.line_ends_in-lines.ensures) ∙ ap (λ h. line_ends (take len h)) held in
    let here : c.line-from.result + 1 ≡ (inner_buffer e.files.include_stack).line + 1 = ap (λ n. n + 1) (c.line-from.ensures ∙ ap (λ b. b.line) buffer) in
    let grows : PendingView → PendingView = λ o. record o { line_ends = o.line_ends + c.line_ends_in-lines.result } in
    renumbers_by c.args.given e c.consume.new.self c.show.new.self _ (c.line-from.result + 1) c.line_ends_in-lines.result c.queue_line_ends.new.self c.queue_origin.new.self c.shown_place-place.result.name.bytes c.shown_place-place.result.line
    (rw word at c.consume.ensures.used) c.show.ensures
    (owing_marked _ c.show.new.self c.queue_origin.new.self c.end_line.new.self (ends_line c.line_ends_in-lines.result c.shown_place-place.result.name.bytes c.shown_place-place.result.line) c.self-2.view_is c.end_line.ensures)
    (c.queue_line_ends.ensures ∙ ap grows (ap (λ e. e.pending) c.self-2.view_is))
    (c.queue_origin.ensures ∙ ap (λ b. record c.queue_line_ends.new.self { origin = origin_pending b c.args.given.number }) (ap (λ e. e.origins) c.self-2.view_is))
    c.requires.nothing here counted c.shown_place-place.ensures.name c.shown_place-place.ensures.line
