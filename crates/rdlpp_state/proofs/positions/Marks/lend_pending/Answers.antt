use Rattle.std.proofs.Common.{◌-◌, sym, ap, ◌∙◌}
use Rattle.rdlpp_state.specs.Marks.{MarksView, lends_pending}
use Rattle.rdlpp_state.proofs.LentPieces.{marks_ending, marks_line, marks_nothing, marks_origin}
use Rattle.rdlpp_state.proofs.positions.Marks.lend_pending.Goals as goal

pub returns-in-Some : goal.returns-in-Some
returns-in-Some c =
    let m : MarksView = record { lent = c.self.inside.lent; ending = c.self.inside.ending; name = c.self.inside.name.bytes; line = c.self.inside.line } in
    marks_origin c.args.pending.now c.args.line m c.in-Some.number (sym c.line_ends-line_ends.ensures ∙ c.if-line_ends-eq0.true) (sym c.origin_number.ensures ∙ c.in-Some.is)
    ∙ ap (lends_pending c.args.pending.now c.args.line) c.self.view_is

pub returns-in_default : goal.returns-in_default
returns-in_default c =
    marks_nothing c.args.pending.now c.args.line c.args.self.now (sym c.line_ends-line_ends.ensures ∙ c.if-line_ends-eq0.true) (sym c.origin_number.ensures ∙ c.in_default.is)

pub returns-then-self : goal.returns-then-self
returns-then-self c =
    let m : MarksView = record { lent = c.self.inside.lent; ending = c.self.inside.ending; name = c.self.inside.name.bytes; line = c.self.inside.line } in
    marks_ending c.args.pending.now c.args.line m (λ none. c.if-line_ends-eq0.false (c.line_ends-line_ends.ensures ∙ none)) c.if-self.true
    ∙ ap (lends_pending c.args.pending.now c.args.line) c.self.view_is

pub returns : goal.returns
returns c =
    let m : MarksView = record { lent = c.self.inside.lent; ending = c.self.inside.ending; name = c.self.inside.name.bytes; line = c.self.inside.line } in
    marks_line c.args.pending.now c.args.line c.saturating_sub.result m (λ none. c.if-line_ends-eq0.false (c.line_ends-line_ends.ensures ∙ none)) c.if-self.false
    (c.saturating_sub.ensures ∙ ap (λ n. c.args.line - n) c.line_ends-line_ends.ensures)
    ∙ ap (lends_pending c.args.pending.now c.args.line) c.self.view_is
