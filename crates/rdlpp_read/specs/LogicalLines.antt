-- What is found of the logical line at the front of what is held: all of it, a line of it that breaks it, or a failed read.
-- A definition that names no source is this project's own.
use Rattle.std.specs.Prelude.{◌≡◌, ℕ, ◌≤◌, Bool, true, false, List, [], ◌∷◌, ◌++◌, length, take, None, Some, ⊤, ◌⊎◌}
use Rattle.rdlpp_scan.specs.declared.token.Mode.TheVariants.{Plain}
use Rattle.rdlpp_scan.specs.Defines.{HoldsDefine}
use Rattle.rdlpp_scan.specs.Front.{DefineCut, DefineLong}
use Rattle.rdlpp_scan.specs.Lines.{IsWholeLines}
use Rattle.rdlpp_scan.specs.SourceTokens.{Definition, logical_len}
use Rattle.rdlpp_source.specs.declared.sources.Sources.{Ghosts}
use Rattle.rdlpp_read.specs.Calls.{SourcesRead}
use Rattle.rdlpp_read.specs.Buffer.{BufferView, EndsHeld, Slides, consumed, held_of, rest_of, text_left, tokens_left, unused_of}
use Rattle.rdlpp_read.specs.Filling.{only_broken}
use Rattle.rdlpp_read.specs.declared.buffer.extending.LogicalLine.{LogicalLine}
use Rattle.rdlpp_read.specs.declared.buffer.extending.LogicalLine.TheVariants.{Whole, TooLong, SourceLong, Failed}

-- whether a read failed
abbrev pub is_failed_line : LogicalLine → Bool
is_failed_line (Whole len) = false
is_failed_line TooLong = false
is_failed_line SourceLong = false
is_failed_line Failed = true

-- more lines may have come after what is held, and nothing else changed
pub record Extends {R : Type 0} (old new : BufferView R) : Type 0 where
  pub line : new.line ≡ old.line
  pub line_bytes : new.line_bytes ≡ old.line_bytes
  pub mode : new.mode ≡ old.mode
  pub open_token_line : new.open_token_line ≡ old.open_token_line
  pub unused : unused_of new ≡ unused_of old
  pub more : List ℕ
  pub held : held_of new ≡ held_of old ++ more

-- the tokens that remain are the same
abbrev pub SameTokens : {R : Type 0} → Type 0 → (R → List ℕ) → BufferView R → BufferView R → Type 0
SameTokens has_known_texts unread old new = has_known_texts → tokens_left unread new ≡ tokens_left unread old

-- the first `len` bytes are the logical line: with its LF, or up to the end of the text (IEEE 1364-2001, `define`)
abbrev pub IsLogical : {R : Type 0} → Type 0 → (R → List ℕ) → BufferView R → ℕ → Type 0
IsLogical has_known_texts unread f len =
    (logical_len 0 0 (held_of f) ≡ Some len)
    ⊎ ((logical_len 0 0 (held_of f) ≡ None) × (len ≡ length (held_of f)) × (has_known_texts → rest_of unread f ≡ []))

-- what the answer says of a `define` that stands there: its token and those after its logical line; or it is broken, as too
-- long where it has more bytes than a line may have with its next line, and else as cut by the limit of its source (this project's profile)
abbrev pub TellsDefine : {R : Type 0} → (R → List ℕ) → LogicalLine → BufferView R → BufferView R → Type 0
TellsDefine unread (Whole len) old new =
    tokens_left unread old
    ≡ record { sort = Definition; bytes = take len (held_of new); line = old.line } ∷ tokens_left unread (consumed new len)
TellsDefine unread TooLong old new = tokens_left unread old ≡ only_broken DefineLong old.line
TellsDefine unread SourceLong old new = tokens_left unread old ≡ only_broken DefineCut old.line
TellsDefine unread Failed old new = ⊤

-- what was found of the logical line; where a read failed or the source is too long nothing is lost
abbrev pub HasLine : {R : Type 0} → Type 0 → (R → List ℕ) → LogicalLine → BufferView R → BufferView R → Type 0
HasLine has_known_texts unread (Whole len) old new = (len ≤ length (held_of new)) × IsLogical has_known_texts unread new len × SameTokens has_known_texts unread old new
HasLine has_known_texts unread TooLong old new = ⊤
HasLine has_known_texts unread SourceLong old new = SameTokens has_known_texts unread old new
HasLine has_known_texts unread Failed old new = SameTokens has_known_texts unread old new

-- no byte was read beyond the window, as it is where a line is too long
abbrev pub IsExactLine : LogicalLine → Type 0
IsExactLine answer = answer ≡ TooLong → ⊥

-- the logical line at the front of what is held is held whole, or the answer says why not; the window moved on over its text
pub record HoldsLine {R : Type 0} (has_known_texts : Type 0) (unread : R → List ℕ) (answer : LogicalLine) (old new : BufferView R) : Type 0 where
  pub extends : Extends old new
  pub has : HasLine has_known_texts unread answer old new
  pub slides : Slides has_known_texts (IsExactLine answer) unread old new
  pub text : IsExactLine answer → has_known_texts → text_left unread new ≡ text_left unread old
  pub define : has_known_texts → old.mode ≡ Plain → HoldsDefine (held_of old) (rest_of unread old)
      → TellsDefine unread answer old new

-- what the search for the end of the logical line has done so far: it doesn't end in the first `seen` bytes, which are whole lines
pub record Continues {S R : Type 0} (g : Ghosts S R) (sources new_sources : S) (old new : BufferView R) (seen : ℕ) : Type 0 where
  pub extends : Extends old new
  pub slides : Slides (g.has_known_texts sources) Unit g.unread old new
  pub tokens : SameTokens (g.has_known_texts sources) g.unread old new
  pub text : g.has_known_texts sources → text_left g.unread new ≡ text_left g.unread old
  pub define : g.has_known_texts sources → HoldsDefine (held_of old) (rest_of g.unread old)
      → HoldsDefine (held_of new) (rest_of g.unread new)
  pub place : seen ≤ length (held_of new)
  pub whole : IsWholeLines (take seen (held_of new))
  pub none : logical_len 0 0 (take seen (held_of new)) ≡ None
  pub ends : EndsHeld new
  pub call : SourcesRead g false sources new_sources
