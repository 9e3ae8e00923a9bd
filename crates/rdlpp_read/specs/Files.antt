-- The open sources of a run, the innermost first.
-- A definition that names no source is this project's own.
use Rattle.std.specs.Prelude.{◌≡◌, ℕ, ◌+◌, ◌^◌, ◌≤◌, ◌<◌, Bool, true, false, not, List, [], ◌∷◌, All, length, take, map, reverse, sum_by, None}
use Rattle.rdlpp_scan.specs.Bytes.{is_line_end}
use Rattle.rdlpp_meaning.specs.Parts.{only_blanks}
use Rattle.rdlpp_meaning.specs.State.{Shift}
use Rattle.rdlpp_source.specs.declared.sources.Found.{Found}
use Rattle.rdlpp_read.specs.declared.files.File.{File}
use Rattle.rdlpp_read.specs.declared.files.Shift.{Shift as FileShift}
use Rattle.rdlpp_read.specs.Buffer.{BufferView, EndsHeld, IsBuffer, closed_buffer, held_of, opened_buffer, unused_of}

-- the open sources, the innermost first; how many may be open, and the most bytes of a line
pub record FilesView (R : Type 0) : Type 0 where
  pub include_stack : List (File R)
  pub slots : ℕ
  pub line_bytes : ℕ

-- a slot that isn't open has no reader
abbrev pub IsClosed : {R : Type 0} → File R → Type 0
IsClosed f = f.buffer.reader ≡ None

-- what holds of each slot, open or not
pub record IsSlot {R : Type 0} (line_bytes : ℕ) (f : File R) : Type 0 where
  pub size : f.buffer.line_bytes ≡ line_bytes
  pub buffer : IsBuffer f.buffer
  pub ends : EndsHeld f.buffer
  pub number : f.shift.number < 2 ^ 32

-- the slots, of which those from `first` on are open
pub record AreSlots {R : Type 0} (line_bytes first : ℕ) (slots : List (File R)) : Type 0 where
  pub inside : first ≤ length slots
  pub each : All (IsSlot line_bytes) slots
  pub closed : All IsClosed (take first slots)

-- what the open sources may still give, each and one more, the outermost first (this project's profile)
unfoldable pub source_digits : {R : Type 0} → List (File R) → List ℕ
source_digits include_stack = reverse (map (λ f. unused_of f.buffer + 1) include_stack)

-- what holds of the open sources: each of what they may still give, and one more, is a digit in base 2,147,483,648 (this project's
-- profile)
pub record AreOpen {R : Type 0} (files : FilesView R) : Type 0 where
  pub few : length files.include_stack ≤ files.slots
  pub each : All (IsSlot files.line_bytes) files.include_stack
  pub digits : All (λ (d : ℕ). d < 2 ^ 31) (source_digits files.include_stack)

-- a source that was opened: nothing of it is read, and it shows its path and its own lines (this project's profile)
abbrev pub entered_file : {R : Type 0} → Found R → ℕ → ℕ → ℕ → ℕ → File R
entered_file found source_bytes line_bytes conditions_below include_line = record {
  buffer = opened_buffer found.reader source_bytes line_bytes;
  path = found.path;
  name = found.path;
  shift = record { from = 0; number = 0 };
  blanks = true;
  conditions_below = conditions_below;
  include_line = include_line;
  ends_mid_line = false;
}

-- the numbers that lines show, as the meaning has them (IEEE 1364-2001, `line`)
abbrev pub shift_of : FileShift → Shift
shift_of shift = record { from = shift.from; number = shift.number }

-- the buffer of the innermost source; one that isn't open where none is
abbrev pub inner_buffer : {R : Type 0} → List (File R) → BufferView R
inner_buffer [] = closed_buffer 0 0
inner_buffer (f ∷ outer) = f.buffer

-- the sources with a change of the innermost
abbrev pub with_inner : {R : Type 0} → (File R → File R) → List (File R) → List (File R)
with_inner change [] = []
with_inner change (f ∷ outer) = change f ∷ outer

-- the sources with another buffer for the innermost
abbrev pub with_buffer : {R : Type 0} → BufferView R → List (File R) → List (File R)
with_buffer buffer include_stack = with_inner (λ f. record f { buffer = buffer }) include_stack

-- whether the last byte isn't LF, after bytes, where it was or wasn't before them
unfoldable pub ends_mid_line_after : Bool → List ℕ → Bool
ends_mid_line_after ends_mid_line [] = ends_mid_line
ends_mid_line_after ends_mid_line (b ∷ bs) = ends_mid_line_after (not (is_line_end b)) bs

-- a source of which the first held bytes are used, with so many line ends
abbrev pub consumed_file : {R : Type 0} → ℕ → ℕ → File R → File R
consumed_file len lines f = record f {
  buffer = record f.buffer { at = f.buffer.at + len; line = f.buffer.line + lines };
  blanks = only_blanks f.blanks (take len (held_of f.buffer));
  ends_mid_line = ends_mid_line_after f.ends_mid_line (take len (held_of f.buffer));
}

-- what is held of the open sources, the outermost first (this project's profile)
unfoldable pub held_windows : {R : Type 0} → List (File R) → List (List ℕ)
held_windows include_stack = reverse (map (λ f. f.buffer.window) include_stack)

-- how many bytes of the texts of the open sources are held
abbrev pub held_bytes : {R : Type 0} → List (File R) → ℕ
held_bytes include_stack = sum_by (λ f. length f.buffer.window) include_stack
