-- Marks: where the piece stands that was lent last.
-- A definition that names no source is this project's own.
use Rattle.std.specs.Prelude.{ℕ, ◌-◌, ◌^◌, ◌<◌, ◌==◌, Bool, false, not, List, [], Option, None, Some, if◌then◌else◌, ⊤}
use Rattle.rdlpp_meaning.specs.State.{Shift, shown_line}
use Rattle.rdlpp_state.specs.Pending.{OriginView, PendingView}
use Rattle.rdlpp_state.specs.declared.positions.Lent.{Lent}
use Rattle.rdlpp_state.specs.declared.positions.Lent.TheVariants.{Nothing, Line, Usage, Ending, Origin}
use Rattle.rdlpp_state.specs.declared.positions.LineStep.{LineStep}
use Rattle.rdlpp_state.specs.declared.positions.LineStep.TheVariants.{Next, Same}
use Rattle.rdlpp_state.specs.declared.positions.Position.{Position}

-- the place of a piece: a name, the line of its first byte, and how its lines go on
pub record PlaceView : Type 0 where
  pub name : List ℕ
  pub line : ℕ
  pub step : LineStep

-- the place that an answer tells, if it does
abbrev pub told_position : Option Position → Option PlaceView
told_position None = None
told_position (Some p) = Some (record { name = p.name.now; line = p.line; step = p.step })

-- where the piece begins that was lent last; whether the LF that is pending stands after a `line` or after an included source; and the name
-- and the line that such an LF shows
pub record MarksView : Type 0 where
  pub lent : Lent
  pub ending : Bool
  pub name : List ℕ
  pub line : ℕ

-- its line can be counted
abbrev pub IsLineCounted : Lent → Type 0
IsLineCounted Nothing = ⊤
IsLineCounted (Line n) = n < 2 ^ 63
IsLineCounted (Usage n) = n < 2 ^ 63
IsLineCounted Ending = ⊤
IsLineCounted (Origin n) = ⊤

-- the physical line of the innermost source on which a piece begins, where it is text of that source or the LF bytes that end lines of it
abbrev pub lent_line : Lent → Option ℕ
lent_line (Line line) = Some line
lent_line _ = None

-- nothing was lent
unfoldable pub no_marks : MarksView
no_marks = record { lent = Nothing; ending = false; name = []; line = 0 }

-- a piece is lent that begins on a physical line of the innermost source
unfoldable pub lends_line : ℕ → MarksView → MarksView
lends_line line m = record m { lent = Line line }

-- a piece is lent that comes of a usage, by the physical line of its backquote
unfoldable pub lends_usage : ℕ → MarksView → MarksView
lends_usage line m = record m { lent = Usage line }

-- the first of the LF bytes that are pending is lent, where the innermost source stands on a physical line after them
unfoldable pub lends_line_end : ℕ → ℕ → MarksView → MarksView
lends_line_end line_ends line m =
    if m.ending then record m { lent = Ending; ending = false } else record m { lent = Line (line - line_ends) }

-- a piece of an origin line is lent, if one is pending
unfoldable pub lends_origin : Option OriginView → MarksView → MarksView
lends_origin None m = m
lends_origin (Some origin) m = record m { lent = Origin origin.number }

-- the first piece of what is pending is lent
unfoldable pub lends_pending : PendingView → ℕ → MarksView → MarksView
lends_pending pending line m = if pending.line_ends == 0 then lends_origin pending.origin m else lends_line_end pending.line_ends line m

-- so many LF bytes are pending after a `line` or after an included source, which show a name and a line
unfoldable pub ends_line : ℕ → List ℕ → ℕ → MarksView → MarksView
ends_line line_ends name line m = record m { ending = not (line_ends == 0); name = name; line = line }

-- the place of the piece that was lent last, where the innermost source shows a name and numbers its lines (this project's profile)
unfoldable pub marked_place : MarksView → List ℕ → Shift → Option PlaceView
marked_place m name shift = elim m.lent [
  | Nothing ↦ None
  | Line n ↦ Some (record { name = name; line = shown_line shift n; step = Next })
  | Usage n ↦ Some (record { name = name; line = shown_line shift n; step = Same })
  | Ending ↦ Some (record { name = m.name; line = m.line; step = Next })
  | Origin n ↦ Some (record { name = name; line = n; step = Same })
]
