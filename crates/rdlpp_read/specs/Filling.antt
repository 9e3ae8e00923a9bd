-- What is found before the next byte of a source: whole lines that its limits accept, the end, a line that breaks it, or a failed read.
-- A definition that names no source is this project's own.
use Rattle.std.specs.Prelude.{◌≡◌, ℕ, ◌+◌, ◌-◌, ◌≤◌, ◌<◌, Bool, true, false, List, [], ◌∷◌, ◌++◌, length, take, Option, None, Some, ◌⊎◌}
use Rattle.std.specs.Option.{is_none}
use Rattle.rdlpp_scan.specs.declared.token.Mode.{Mode}
use Rattle.rdlpp_scan.specs.declared.token.Mode.TheVariants.{Plain, InStr, InBlock}
use Rattle.rdlpp_scan.specs.Front.{Breach, StringOpen, CommentOpen, SourceLong as SourceBreach, LineLong as LineBreach}
use Rattle.rdlpp_scan.specs.SourceTokens.{SourceToken, Broken, line_len}
use Rattle.rdlpp_scan.specs.Lines.{EndsLine, IsWholeLines, whole_lines_len}
use Rattle.rdlpp_source.specs.declared.sources.Sources.{Ghosts}
use Rattle.rdlpp_read.specs.Ahead.{AreLines, IsPast}
use Rattle.rdlpp_read.specs.Calls.{SourcesRead}
use Rattle.rdlpp_read.specs.Buffer.{BufferView, EndsHeld, Slides, ahead_of, held_of, unread_of, rest_of, text_left, tokens_left, unused_of}
use Rattle.rdlpp_read.specs.declared.buffer.filling.Fill.{Fill}
use Rattle.rdlpp_read.specs.declared.buffer.filling.Fill.TheVariants.{Held, End, SourceLong, LineLong, Failed}

-- lines were accepted after those that are held
pub record Accepts {R : Type 0} (old new : BufferView R) : Type 0 where
  pub len : ℕ
  pub lines : AreLines len (ahead_of old) old.bytes_left (is_none old.reader)
  pub becomes : new ≡ record old { accepted = old.accepted + len; bytes_left = old.bytes_left - len }

-- what was found in the window, where the search came to an end
abbrev pub Finds : {R : Type 0} → Fill → BufferView R → BufferView R → Type 0
Finds Held old new = Accepts old new
Finds End old new = (new ≡ old) × (ahead_of old ≡ []) × (old.reader ≡ None)
Finds SourceLong old new = (new ≡ old) × IsPast (ahead_of old) old.bytes_left (is_none old.reader)
Finds LineLong old new = ⊥
Finds Failed old new = ⊥

-- whether a read failed
abbrev pub is_failed : Fill → Bool
is_failed Held = false
is_failed End = false
is_failed SourceLong = false
is_failed LineLong = false
is_failed Failed = true

-- bytes came into the window, or the end of the text was met
pub record ReadsOn {R : Type 0} (has_known_texts : Type 0) (unread : R → List ℕ) (old new : BufferView R) : Type 0 where
  pub gained : List ℕ
  pub becomes : new ≡ record old { window = old.window ++ gained; reader = new.reader }
  pub text : has_known_texts → unread_of unread old.reader ≡ gained ++ unread_of unread new.reader
  pub moves : (new.reader ≡ None) ⊎ (0 < length gained)
  pub within : length new.window ≤ new.line_bytes

-- a reading that came to an end: what is held stays; a line that is too long goes on after a full window without a line end
pub record Stops {R : Type 0} (has_known_texts : Type 0) (unread : R → List ℕ) (fill : Fill) (old new : BufferView R) : Type 0 where
  pub becomes : new ≡ record old { reader = new.reader }
  pub kind : (fill ≡ Failed) ⊎ (fill ≡ LineLong)
  pub full : fill ≡ LineLong → length old.window ≡ old.line_bytes
  pub goes_on : fill ≡ LineLong → has_known_texts → 0 < length (unread_of unread old.reader)
  pub failed : fill ≡ Failed → has_known_texts → unread_of unread new.reader ≡ unread_of unread old.reader

-- what a turn of reading did
abbrev pub Turns : {R : Type 0} → Type 0 → (R → List ℕ) → Option Fill → BufferView R → BufferView R → Type 0
Turns has_known_texts unread None old new = ReadsOn has_known_texts unread old new
Turns has_known_texts unread (Some fill) old new = Stops has_known_texts unread fill old new

-- whether a turn of reading failed
abbrev pub is_failed_turn : Option Fill → Bool
is_failed_turn None = false
is_failed_turn (Some fill) = is_failed fill

-- bytes were read only where no whole line stood after the accepted ones: else the window has what it had, but for bytes that were used
abbrev pub WaitsForLines : {R : Type 0} → BufferView R → BufferView R → Type 0
WaitsForLines old new = (length new.window + old.at ≡ length old.window + new.at) ⊎ (whole_lines_len (ahead_of old) ≡ 0)

-- nothing but the window and the reader changed, and what is held and the text that remains are the same; bytes were read only where no whole
-- line was ahead
pub record Seeks {R : Type 0} (has_known_texts : Type 0) (unread : R → List ℕ) (old new : BufferView R) : Type 0 where
  pub at : new.at ≡ old.at
  pub accepted : new.accepted ≡ old.accepted
  pub inside : new.accepted ≤ length new.window
  pub bytes_left : new.bytes_left ≡ old.bytes_left
  pub line : new.line ≡ old.line
  pub line_bytes : new.line_bytes ≡ old.line_bytes
  pub mode : new.mode ≡ old.mode
  pub open_token_line : new.open_token_line ≡ old.open_token_line
  pub held : held_of new ≡ held_of old
  pub text : has_known_texts → rest_of unread old ≡ rest_of unread new
  pub slides : Slides has_known_texts Unit unread old new
  pub waits : (new.window ≡ old.window) ⊎ (whole_lines_len (ahead_of old) ≡ 0)

-- how many turns of reading may still come
unfoldable pub turns_left : {R : Type 0} → BufferView R → ℕ
turns_left f = (f.line_bytes - length f.window) + elim f.reader [ None ↦ 0 | Some reader ↦ 1 ]

-- what the turns of reading have done so far: the first `seen` bytes after the accepted lines have no line end
pub record Searches {S R : Type 0} (g : Ghosts S R) (sources new_sources : S) (old new : BufferView R) (seen : ℕ) : Type 0 where
  pub seeks : Seeks (g.has_known_texts sources) g.unread old new
  pub place : seen ≤ length (ahead_of new)
  pub none : whole_lines_len (take seen (ahead_of new)) ≡ 0
  pub ends : EndsHeld new
  pub call : SourcesRead g false sources new_sources

-- whole lines came after those that are held, or the last line of the text
pub record Lengthens {R : Type 0} (has_known_texts : Type 0) (unread : R → List ℕ) (old new : BufferView R) : Type 0 where
  pub lines : List ℕ
  pub some : 0 < length lines
  pub before : IsWholeLines (held_of old)
  pub held : held_of new ≡ held_of old ++ lines
  pub short : length (held_of new) ≤ old.line_bytes
  pub fits : length lines ≤ old.bytes_left
  pub bytes_left : new.bytes_left ≡ old.bytes_left - length lines
  pub ends : EndsLine lines (rest_of unread new)
  pub rest : has_known_texts → rest_of unread old ≡ lines ++ rest_of unread new

-- nothing came after what is held
pub record Stays {R : Type 0} (old new : BufferView R) : Type 0 where
  pub held : held_of new ≡ held_of old
  pub bytes_left : new.bytes_left ≡ old.bytes_left

-- what stood after the lines that are held: more lines; the end of the text; a line with which the source is too long, and
-- which fits after what is held; a line that doesn't fit after it; or it isn't known, since a read failed, and no whole line is ahead
abbrev pub GrowsBy : {R : Type 0} → Type 0 → (R → List ℕ) → Fill → BufferView R → BufferView R → Type 0
GrowsBy has_known_texts unread Held old new = Lengthens has_known_texts unread old new
GrowsBy has_known_texts unread End old new = Stays old new × (has_known_texts → rest_of unread old ≡ []) × (rest_of unread new ≡ [])
GrowsBy has_known_texts unread SourceLong old new =
    Stays old new × (has_known_texts → length (held_of old) + line_len (rest_of unread old) ≤ old.line_bytes)
    × (has_known_texts → old.bytes_left < line_len (rest_of unread old)) × (has_known_texts → rest_of unread new ≡ rest_of unread old)
GrowsBy has_known_texts unread LineLong old new =
    Stays old new × (has_known_texts → old.line_bytes < length (held_of old) + line_len (rest_of unread old)) × (has_known_texts → 0 < length (rest_of unread old))
GrowsBy has_known_texts unread Failed old new = Stays old new × (has_known_texts → rest_of unread new ≡ rest_of unread old) × (whole_lines_len (ahead_of new) ≡ 0)

-- no byte was read beyond the window, as it is where a line is too long
abbrev pub IsExact : Fill → Type 0
IsExact fill = fill ≡ LineLong → ⊥

-- what is held of a source grew, by what stood after it
pub record Grows {R : Type 0} (has_known_texts : Type 0) (unread : R → List ℕ) (fill : Fill) (old new : BufferView R) : Type 0 where
  pub line : new.line ≡ old.line
  pub line_bytes : new.line_bytes ≡ old.line_bytes
  pub mode : new.mode ≡ old.mode
  pub open_token_line : new.open_token_line ≡ old.open_token_line
  pub unused : unused_of new ≡ unused_of old
  pub slides : Slides has_known_texts (IsExact fill) unread old new
  pub waits : WaitsForLines old new
  pub by : GrowsBy has_known_texts unread fill old new

-- a list that is one broken token without bytes
abbrev pub only_broken : Breach → ℕ → List SourceToken
only_broken breach line = record { sort = Broken breach; bytes = []; line = line } ∷ []

-- what remains where a text has ended: nothing, or a string or a block comment that isn't closed (this project's profile)
abbrev pub ended_tokens : Mode → ℕ → List SourceToken
ended_tokens Plain open_token_line = []
ended_tokens InStr open_token_line = only_broken StringOpen open_token_line
ended_tokens InBlock open_token_line = only_broken CommentOpen open_token_line

-- what the answer says of the tokens that remained, and of those that remain now (this project's profile)
abbrev pub TellsTokens : {R : Type 0} → Fill → BufferView R → List SourceToken → List SourceToken → Type 0
TellsTokens Held f old new = new ≡ old
TellsTokens End f old new = old ≡ ended_tokens f.mode f.open_token_line
TellsTokens SourceLong f old new = old ≡ only_broken SourceBreach f.line
TellsTokens LineLong f old new = old ≡ only_broken LineBreach f.line
TellsTokens Failed f old new = new ≡ old

-- bytes are held, or none
abbrev pub HasBytes : {R : Type 0} → Fill → BufferView R → Type 0
HasBytes Held f = 0 < length (held_of f)
HasBytes End f = held_of f ≡ []
HasBytes SourceLong f = held_of f ≡ []
HasBytes LineLong f = held_of f ≡ []
HasBytes Failed f = held_of f ≡ []

-- what a source has before its next byte: its window moved on over its text; its text that isn't used stays the same, but where
-- a byte too many was read, and is empty where its end was met; and its tokens stay the same, or are told. It is read only where no whole line
-- is ahead, and where a read failed none is
pub record Fills {R : Type 0} (has_known_texts : Type 0) (unread : R → List ℕ) (fill : Fill) (old new : BufferView R) : Type 0 where
  pub line : new.line ≡ old.line
  pub line_bytes : new.line_bytes ≡ old.line_bytes
  pub mode : new.mode ≡ old.mode
  pub open_token_line : new.open_token_line ≡ old.open_token_line
  pub bytes : HasBytes fill new
  pub unused : unused_of new ≡ unused_of old
  pub slides : Slides has_known_texts (IsExact fill) unread old new
  pub waits : WaitsForLines old new
  pub short : fill ≡ Failed → whole_lines_len (ahead_of new) ≡ 0
  pub text : IsExact fill → has_known_texts → text_left unread new ≡ text_left unread old
  pub ended : fill ≡ End → text_left unread new ≡ []
  pub tokens : has_known_texts → TellsTokens fill old (tokens_left unread old) (tokens_left unread new)
