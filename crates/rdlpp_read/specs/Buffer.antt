-- What is held of an open source, and what remains of it.
-- A definition that names no source is this project's own.
use Rattle.std.specs.Prelude.{◌≡◌, ℕ, ◌+◌, ◌-◌, ◌^◌, ◌≤◌, ◌<◌, List, [], ◌++◌, length, take, drop, Option, None, Some, ◌⊎◌}
use Rattle.rdlpp_scan.specs.declared.token.Mode.{Mode}
use Rattle.rdlpp_scan.specs.declared.token.Mode.TheVariants.{Plain}
use Rattle.rdlpp_scan.specs.Resumed.{opening}
use Rattle.rdlpp_scan.specs.SourceTokens.{SourceToken, line_ends, remaining_tokens}
use Rattle.rdlpp_scan.specs.Lines.{IsWholeLines}

-- an open source: the part of its text that is held, how much of that is used, where in it the lines end that the limits
-- accept, what reads on where the text hasn't ended, the bytes that may still be accepted, the physical line that comes next,
-- the most bytes of a line, whether the next byte stands in a string or in a block comment, and on which line that opened
pub record BufferView (R : Type 0) : Type 0 where
  pub window : List ℕ
  pub at : ℕ
  pub accepted : ℕ
  pub reader : Option R
  pub bytes_left : ℕ
  pub line : ℕ
  pub line_bytes : ℕ
  pub mode : Mode
  pub open_token_line : ℕ

-- the held bytes that aren't used, of accepted lines
unfoldable pub held_of : {R : Type 0} → BufferView R → List ℕ
held_of f = drop f.at (take f.accepted f.window)

-- what a reader still has; nothing where the text has ended
unfoldable pub unread_of : {R : Type 0} → (R → List ℕ) → Option R → List ℕ
unread_of unread None = []
unread_of unread (Some reader) = unread reader

-- the bytes in the window after the accepted lines
unfoldable pub ahead_of : {R : Type 0} → BufferView R → List ℕ
ahead_of f = drop f.accepted f.window

-- the text after the accepted lines
unfoldable pub rest_of : {R : Type 0} → (R → List ℕ) → BufferView R → List ℕ
rest_of unread f = ahead_of f ++ unread_of unread f.reader

-- the text that isn't used
unfoldable pub text_left : {R : Type 0} → (R → List ℕ) → BufferView R → List ℕ
text_left unread f = held_of f ++ rest_of unread f

-- the tokens that remain of the source
unfoldable pub tokens_left : {R : Type 0} → (R → List ℕ) → BufferView R → List SourceToken
tokens_left unread f =
    remaining_tokens f.line_bytes f.mode f.open_token_line f.line (held_of f) f.bytes_left (rest_of unread f)

-- what was unread begins with bytes that were gained, and goes on with what is unread now, if no byte was lost
pub record Gains (exact : Type 0) (gained old new : List ℕ) : Type 0 where
  pub rest : List ℕ
  pub whole : old ≡ gained ++ rest
  pub same : exact → rest ≡ new

-- the window moved on over its text: bytes that were used went in front, and bytes that were unread came after; none was lost where
-- the move is exact
pub record Slides {R : Type 0} (has_known_texts exact : Type 0) (unread : R → List ℕ) (old new : BufferView R) : Type 0 where
  pub dropped : List ℕ
  pub gained : List ℕ
  pub window : old.window ++ gained ≡ dropped ++ new.window
  pub used : length dropped + new.at ≡ old.at
  pub text : has_known_texts → Gains exact gained (unread_of unread old.reader) (unread_of unread new.reader)

-- the window moved on over its text while these bytes were used: it dropped bytes in front, which were used before or are among
-- these, and gained bytes after; none was lost where the move is exact
pub record MovesOver {R : Type 0} (has_known_texts exact : Type 0) (unread : R → List ℕ) (uses : List ℕ) (old new : BufferView R) : Type 0 where
  pub dropped : List ℕ
  pub gained : List ℕ
  pub window : old.window ++ gained ≡ dropped ++ new.window
  pub used : length dropped + new.at ≡ old.at + length uses
  pub text : has_known_texts → Gains exact gained (unread_of unread old.reader) (unread_of unread new.reader)

-- the bytes that the source may still give and that aren't used
unfoldable pub unused_of : {R : Type 0} → BufferView R → ℕ
unused_of f = f.bytes_left + (f.accepted - f.at)

-- the places in what is held are in order; the line, what isn't used and one more are a digit of the work left together; and what
-- is open didn't open after the line
pub record IsBuffer {R : Type 0} (f : BufferView R) : Type 0 where
  pub used : f.at ≤ f.accepted
  pub lines : f.accepted ≤ length f.window
  pub within : length f.window ≤ f.line_bytes
  pub counts : f.line + (f.bytes_left + (f.accepted - f.at)) + 1 < 2 ^ 31
  pub opened : f.open_token_line ≤ f.line

-- a source that isn't open
unfoldable pub closed_buffer : {R : Type 0} → ℕ → ℕ → BufferView R
closed_buffer line line_bytes =
    record { window = []; at = 0; accepted = 0; reader = None; bytes_left = 0; line = line; line_bytes = line_bytes; mode = Plain; open_token_line = 0 }

-- a source that was opened: nothing of it is read yet
unfoldable pub opened_buffer : {R : Type 0} → R → ℕ → ℕ → BufferView R
opened_buffer reader bytes_left line_bytes =
    record { window = []; at = 0; accepted = 0; reader = Some reader; bytes_left = bytes_left; line = 1; line_bytes = line_bytes; mode = Plain; open_token_line = 1 }

-- an open source whose next byte stands in a mode
unfoldable pub entered_mode : {R : Type 0} → BufferView R → Mode → BufferView R
entered_mode f next = record f { mode = next; open_token_line = opening f.mode f.open_token_line f.line }

-- what is held ends at a line end, or where the text ends
abbrev pub EndsHeld : {R : Type 0} → BufferView R → Type 0
EndsHeld f = IsWholeLines (held_of f) ⊎ ((f.reader ≡ None) × (ahead_of f ≡ []))

-- the physical line of the first byte after the accepted lines, which is the one that is read
unfoldable pub reading_line_of : {R : Type 0} → BufferView R → ℕ
reading_line_of f = f.line + line_ends (held_of f)

-- an open source of which the first `len` held bytes are used
unfoldable pub consumed : {R : Type 0} → BufferView R → ℕ → BufferView R
consumed f len = record f { at = f.at + len; line = f.line + line_ends (take len (held_of f)) }
