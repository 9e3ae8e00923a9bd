-- What the bytes after the accepted lines of a source allow: more whole lines, or none.
-- A definition that names no source is this project's own.
use Rattle.std.specs.Prelude.{◌≡◌, ℕ, ◌≤◌, ◌<◌, Bool, true, false, List, [], ◌++◌, length, take, ◌⊎◌}
use Rattle.rdlpp_scan.specs.SourceTokens.{line_len}
use Rattle.rdlpp_scan.specs.Lines.{IsWholeLines, whole_lines_len}
use Rattle.rdlpp_read.specs.declared.buffer.ahead.Ahead.{Ahead}
use Rattle.rdlpp_read.specs.declared.buffer.ahead.Ahead.TheVariants.{Unended, Lines, Nothing, TooLong}

-- the first n bytes are whole lines that fit, or the last of a text that has ended (this project's profile)
pub record AreLines (n : ℕ) (bytes : List ℕ) (bytes_left : ℕ) (ended : Bool) : Type 0 where
  pub some : 0 < n
  pub inside : n ≤ length bytes
  pub fits : n ≤ bytes_left
  pub ends : IsWholeLines (take n bytes) ⊎ ((ended ≡ true) × (n ≡ length bytes))

-- the first line lies within the bytes and has more than the source may still give, whatever follows (this project's profile)
pub record IsPast (bytes : List ℕ) (bytes_left : ℕ) (ended : Bool) : Type 0 where
  pub within : (more : List ℕ) → (ended ≡ true → more ≡ []) → line_len (bytes ++ more) ≤ length bytes
  pub passes : (more : List ℕ) → (ended ≡ true → more ≡ []) → bytes_left < line_len (bytes ++ more)

-- what the bytes allow, of which more may follow where the text hasn't ended
abbrev pub Allows : Ahead → List ℕ → ℕ → Bool → Type 0
Allows Unended bytes bytes_left ended = (whole_lines_len bytes ≡ 0) × (ended ≡ false)
Allows (Lines n) bytes bytes_left ended = AreLines n bytes bytes_left ended
Allows Nothing bytes bytes_left ended = (bytes ≡ []) × (ended ≡ true)
Allows TooLong bytes bytes_left ended = IsPast bytes bytes_left ended
