-- The places of pieces in the sources.
-- A definition that names no source is this project's own.
use Rattle.std.specs.Prelude.{◌≡◌, ℕ, ◌-◌, ◌==◌, List, Option, None, Some, if◌then◌else◌}
use Rattle.rdlpp_meaning.specs.State.{State, shown_line}
use Rattle.rdlpp_read.specs.Files.{inner_buffer}
use Rattle.rdlpp_state.specs.Engine.{EngineView, is_open}
use Rattle.rdlpp_state.specs.Includes.{marks_after}
use Rattle.rdlpp_state.specs.Marks.{PlaceView, ends_line, lends_pending, marked_place}
use Rattle.rdlpp_state.specs.Pending.{OriginView, PendingView, TakesPiece}
use Rattle.rdlpp_state.specs.Remaining.{inner_name, state_of}
use Rattle.rdlpp_state.specs.declared.pending.PendingPiece.{PendingPiece}
use Rattle.rdlpp_state.specs.declared.positions.LineStep.{LineStep}
use Rattle.rdlpp_state.specs.declared.positions.LineStep.TheVariants.{Next, Same}

-- the place that a fault at a physical line would name, and how the lines go on after it
unfoldable pub place_at : LineStep → ℕ → State → PlaceView
place_at step line s = record { name = s.name; line = shown_line s.shift line; step = step }

-- the place of a piece of a text of a usage: that of the backquote of the outermost usage (this project's profile)
abbrev pub usage_place : {S R : Type 0} → EngineView S R → PlaceView
usage_place e = place_at Same e.expansion.line (state_of e)

-- the place of a piece of the innermost source: that of its first byte (this project's profile)
abbrev pub source_place : {S R : Type 0} → EngineView S R → PlaceView
source_place e = place_at Next (inner_buffer e.files.include_stack).line (state_of e)

-- the place of the first of the LF bytes that are pending: that of a `line` or of the `include` of a source that has ended, where it stands after
-- one; or it is one of those that end the lines before the one on which the innermost source stands (this project's profile)
unfoldable pub line_end_place : {S R : Type 0} → EngineView S R → PlaceView
line_end_place e =
    if e.marks.ending then record { name = e.marks.name; line = e.marks.line; step = Next }
    else place_at Next ((inner_buffer e.files.include_stack).line - e.pending.line_ends) (state_of e)

-- the place of a piece of an origin line, if one is pending: the one that it names (this project's profile)
unfoldable pub origin_place : List ℕ → Option OriginView → Option PlaceView
origin_place name None = None
origin_place name (Some origin) = Some (record { name = name; line = origin.number; step = Same })

-- the place of the first piece of what is pending, if anything is
unfoldable pub pending_place : {S R : Type 0} → EngineView S R → Option PlaceView
pending_place e = if e.pending.line_ends == 0 then origin_place (state_of e).name e.pending.origin else Some (line_end_place e)

-- the place of the piece that an engine lent last: none where it keeps a fault, before the first piece, and at the end (this project's profile)
unfoldable pub position_of : {S R : Type 0} → EngineView S R → Option PlaceView
position_of e = elim e.kept [
  | Some f ↦ None
  | None ↦ if is_open e.phase then marked_place e.marks (state_of e).name (state_of e).shift else None
]

-- what a step over the open sources that lends no bytes marks: nothing; the place of a `line`, for the LF that is pending after
-- it; or the place of the `include` of a source that has ended, for the LF that is pending after that (this project's profile)
pub data MarksPlace {S R : Type 0} (at after : EngineView S R) : Type 0 where
  Unmarked : after.marks ≡ at.marks → MarksPlace at after
  AfterLine : (lines : ℕ) → after.marks ≡ ends_line lines (state_of at).name (shown_line (state_of at).shift (inner_buffer at.files.include_stack).line) at.marks → MarksPlace at after
  AfterSource : after.marks ≡ marks_after at.files.include_stack at.marks → MarksPlace at after

-- the first piece of what is pending was taken out, and its place is marked
pub record TakesPending {S R : Type 0} (old new : EngineView S R) (piece : PendingPiece) : Type 0 where
  pub rest : PendingView
  pub takes : TakesPiece (inner_name old.files.include_stack) old.pending rest piece
  pub becomes : new ≡ record old { pending = rest; marks = lends_pending old.pending (inner_buffer old.files.include_stack).line old.marks }
