-- The front of a text: all before the first physical line that breaks it.
-- A definition that names no source is this project's own.
use Rattle.std.specs.Prelude.{ℕ, ◌-◌, ◌==◌, nat_lt, List, [], ◌∷◌, ◌++◌, length, Option, None, Some, if◌then◌else◌}

-- what ends a list of tokens early: embedded Perl, an open string or comment, a line or a source that is too long,
-- or a `define` whose logical line is too long, or is cut by the limit of its source
pub data Breach : Type 0 where
  PerlFound StringOpen CommentOpen LineLong SourceLong DefineLong DefineCut : Breach

-- a breaking line: why, and how many bytes it has
pub record Break : Type 0 where
  pub breach : Breach
  pub len : ℕ

-- a text up to its first breaking line, and that line
pub record Front : Type 0 where
  pub text : List ℕ
  pub break : Option Break

-- a byte in front of the first line
unfoldable pub onto_first : ℕ → List (List ℕ) → List (List ℕ)
onto_first b [] = (b ∷ []) ∷ []
onto_first b (l ∷ ls) = (b ∷ l) ∷ ls

-- the physical lines of a text: its parts up to and with each LF, and a last part without LF (this project's profile)
unfoldable pub lines_of : List ℕ → List (List ℕ)
lines_of [] = []
lines_of (b ∷ bs) = if b == 10 then (b ∷ []) ∷ lines_of bs else onto_first b (lines_of bs)

-- a line in front of a front
unfoldable pub onto_front : List ℕ → Front → Front
onto_front line f = record { text = line ++ f.text; break = f.break }

-- the front of lines, of which each may have `most` bytes, and all together `room` bytes (this project's profile)
unfoldable pub front_of_lines : ℕ → ℕ → List (List ℕ) → Front
front_of_lines most room [] = record { text = []; break = None }
front_of_lines most room (l ∷ ls) =
    if nat_lt most (length l) then record { text = []; break = Some (record { breach = LineLong; len = length l }) }
    else (if nat_lt room (length l) then record { text = []; break = Some (record { breach = SourceLong; len = length l }) }
    else onto_front l (front_of_lines most (room - length l) ls))

-- the front of a text (this project's profile)
unfoldable pub front : ℕ → ℕ → List ℕ → Front
front most room bytes = front_of_lines most room (lines_of bytes)
