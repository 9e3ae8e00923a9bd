use Rattle.std.proofs.Common.{◌≡◌, ◌-◌, ℕ, Bool, List, Option, None, Some, refl, sym, ap, ◌∙◌, subst, if◌then◌else◌, arith}
use Rattle.rdlpp_state.specs.Pending.{OriginView, PendingView, TakesPiece, nothing_pending}
use Rattle.rdlpp_state.specs.declared.pending.PendingPart.TheVariants.{LineEnds}
use Rattle.rdlpp_state.specs.declared.pending.PendingPiece.{PendingPiece}
use Rattle.rdlpp_state.proofs.LentPieces.{takes_first, takes_line_ends}
use Rattle.rdlpp_state.proofs.pending.Pending.take.Goals as goal

-- a piece is taken out of what is pending by its other name
taken : {name : List ℕ} {a b : PendingView} {new : PendingView} {piece : PendingPiece} → a ≡ b → TakesPiece name a new piece → TakesPiece name b new piece
taken {name} {a} {b} {new} {piece} same t = subst (λ (o : PendingView). TakesPiece name o new piece) same t

pub returns-then-self-gt0-clause-piece : goal.returns-then-self-gt0-clause-piece
returns-then-self-gt0-clause-piece c = λ name size.
    let least = c.min-len.ensures in
    let some = c.if-self-gt0.true in
    let lines = c.self.inside.line_ends in
    let origin : Option OriginView = c.self.inside.origin in
    let P : PendingView → Type 0 = λ o. TakesPiece name o (record { line_ends = lines - c.min-len.result; origin = origin }) (record { part = LineEnds; len = c.min-len.result }) in
    subst P c.self.view_is (takes_line_ends name (record { line_ends = lines; origin = origin }) c.min-len.result (omega arith) (omega arith) (omega arith))

pub returns-in-None-clause-nothing : goal.returns-in-None-clause-nothing
unfolding nothing_pending
returns-in-None-clause-nothing c =
    let lines : c.self.inside.line_ends ≡ 0 = (let none = c.if-self-gt0.false in omega arith) in
    (sym c.self.view_is ∙ rw (lines, c.in-None.is) refl, c.self.view_is)

pub returns-then-not-pass_piece-clause-piece : goal.returns-then-not-pass_piece-clause-piece
returns-then-not-pass_piece-clause-piece c = λ name size.
    taken c.self.view_is
    (takes_first name c.args.name_len c.self.inside.line_ends c.self.inside.origin _ c.in-Some.line c.first_piece-piece.result size c.if-self-gt0.false c.in-Some.is
    (c.pass_piece.ensures ∙ ap (λ (more : Bool). if more then Some c.pass_piece.new.self else None) c.if-not-pass_piece.true) c.first_piece-piece.ensures)

pub returns-else-not-pass_piece-clause-piece : goal.returns-else-not-pass_piece-clause-piece
returns-else-not-pass_piece-clause-piece c = λ name size.
    taken c.self.view_is
    (takes_first name c.args.name_len c.self.inside.line_ends c.self.inside.origin _ c.in-Some.line c.first_piece-piece.result size c.if-self-gt0.false c.in-Some.is
    (c.pass_piece.ensures ∙ ap (λ (more : Bool). if more then Some c.pass_piece.new.self else None) c.if-not-pass_piece.false) c.first_piece-piece.ensures)
