-- The rules of a run, the state that its meaning goes through, and where a fault is told.
-- A definition that names no source is this project's own.
use Rattle.std.specs.Prelude.{ℕ, ◌+◌, ◌-◌, Bool, List, take}
use Rattle.rdlpp_scan.specs.Front.{Breach, PerlFound, StringOpen, CommentOpen, LineLong, SourceLong, DefineLong, DefineCut}
use Rattle.rdlpp_scan.specs.SourceTokens.{SourceToken}
use Rattle.rdlpp_define.specs.Macros.{Macro}
use Rattle.rdlpp_meaning.specs.declared.fault.FaultKind.{FaultKind}
use Rattle.rdlpp_meaning.specs.declared.fault.FaultKind.TheVariants.{EmbeddedPerl, OpenString, OpenComment, LineTooLong, SourceTooLong}
use Rattle.rdlpp_meaning.specs.Outcome.{Report}

-- what a `define` comes to: the macros after it, or a kind of fault and its word (source: IEEE 1364-2001, `define`)
pub data Defined : Type 0 where
  Accepted : List Macro → Defined
  DefinitionFault : FaultKind → List ℕ → Defined

-- what a search for a source comes to: none, a path that is too long, or the path and the text (source: this project's profile)
pub data Lookup : Type 0 where
  NoSource : Lookup
  LongPath : Lookup
  Source : List ℕ → List ℕ → Lookup

-- what stays the same over a run: the limits on open bodies and actuals and on an actual's bytes, what a `define` does to
-- macros by the rest of its logical line, the tokens of a source's text, what an `include` from a path finds by a name, and
-- whether origin lines are written (source: this project's profile)
pub record Rules : Type 0 where
  pub depth : ℕ
  pub argument_bytes : ℕ
  pub define : List Macro → List ℕ → Defined
  pub tokens : List ℕ → List SourceToken
  pub find : List ℕ → List ℕ → Lookup
  pub origins : Bool

-- which number a physical line is shown with: from this line on they count from that number (source: IEEE 1364-2001, `line`)
pub record Shift : Type 0 where
  pub from : ℕ
  pub number : ℕ

-- no shift: each line is shown with its own number
unfoldable pub no_shift : Shift
no_shift = record { from = 0; number = 0 }

-- the shown number of a physical line (source: IEEE 1364-2001, `line`)
unfoldable pub shown_line : Shift → ℕ → ℕ
shown_line shift line = shift.number + (line - shift.from)

-- what meaning goes through: the macros, oldest first, the path of the file, the name and the lines that it shows, and
-- how many more included sources and conditionals may be opened (source: this project's profile)
pub record State : Type 0 where
  pub macros : List Macro
  pub path : List ℕ
  pub name : List ℕ
  pub shift : Shift
  pub sources_left : ℕ
  pub conditions_left : ℕ

-- a fault of a kind at a physical line, about a word of which 128 bytes are told (source: this project's profile)
unfoldable pub fault_at : FaultKind → ℕ → List ℕ → State → Report
fault_at kind line word s =
    record { kind = kind; name = s.name; line = shown_line s.shift line; word = take 128 word }

-- the fault of what ends a source's tokens early (source: this project's profile)
unfoldable pub breach_kind : Breach → FaultKind
breach_kind PerlFound = EmbeddedPerl
breach_kind StringOpen = OpenString
breach_kind CommentOpen = OpenComment
breach_kind LineLong = LineTooLong
breach_kind SourceLong = SourceTooLong
breach_kind DefineLong = LineTooLong
breach_kind DefineCut = SourceTooLong
