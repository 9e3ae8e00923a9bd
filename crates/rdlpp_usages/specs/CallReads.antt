-- What reading a call did: the answer, the kept bytes, and the innermost source after it.
-- A definition that names no source is this project's own.
use Rattle.std.specs.Prelude.{◌≡◌, ◌≢◌, ℕ, ◌+◌, ◌^◌, ◌<◌, ◌≤◌, Bool, true, false, All, List, [], ◌++◌, length, take, drop}
use Rattle.rdlpp_scan.specs.declared.token.Mode.{Mode}
use Rattle.rdlpp_scan.specs.declared.token.Mode.TheVariants.{InStr}
use Rattle.rdlpp_scan.specs.SourceTokens.{SourceToken, line_ends}
use Rattle.rdlpp_scan.specs.Pieces.{is_open}
use Rattle.rdlpp_meaning.specs.declared.fault.FaultKind.{FaultKind}
use Rattle.rdlpp_meaning.specs.declared.fault.FaultKind.TheVariants.{ArgumentsMissing, ArgumentsOpen, ArgumentBytes, EmbeddedPerl, OpenString, OpenComment, LineTooLong, SourceTooLong}
use Rattle.rdlpp_meaning.specs.Actuals.{CallBreakFault, CallFault, map_call, token_role, kept as kept_token}
use Rattle.rdlpp_meaning.specs.CallReading.{ReadRefused, ReadStopped, read}
use Rattle.rdlpp_meaning.specs.CallScan as scan
use Rattle.rdlpp_meaning.specs.CallScan.{Before, CallState, call_of_scan, is_kept, call_of}
use Rattle.rdlpp_meaning.specs.Resumed.{leading}
use Rattle.rdlpp_meaning.specs.Substitution.{body_tokens}
use Rattle.rdlpp_meaning.specs.Items.{unlined}
use Rattle.rdlpp_meaning.specs.Parts.{only_blanks}
use Rattle.rdlpp_read.specs.Buffer.{BufferView, MovesOver, entered_mode, held_of, text_left, tokens_left, unused_of}
use Rattle.rdlpp_read.specs.Files.{inner_buffer, ends_mid_line_after, with_inner}
use Rattle.rdlpp_read.specs.Filling.{ended_tokens}
use Rattle.rdlpp_read.specs.declared.files.File.{File}
use Rattle.rdlpp_usages.specs.Reads.{Closes, GoesOn, reading}
use Rattle.rdlpp_usages.specs.CallActions.{level_in, call_state_meant}
use Rattle.rdlpp_usages.specs.declared.reading.CallRead.{CallRead}
use Rattle.rdlpp_usages.specs.declared.reading.CallRead.TheVariants.{Closed, Refused, Broken, Failed}
use Rattle.rdlpp_usages.specs.declared.reading.Next.{Next}
use Rattle.rdlpp_usages.specs.declared.reading.Next.TheVariants.{Goes, Ends}

-- a source of which the first held bytes are used, and whose text stands in a mode after them
abbrev pub used_buffer : {R : Type 0} → BufferView R → ℕ → Mode → BufferView R
used_buffer f len next = record (entered_mode f next) { at = f.at + len; line = f.line + line_ends (take len (held_of f)) }

-- the sources with another buffer for the innermost, of which bytes were used
abbrev pub with_used : {R : Type 0} → BufferView R → List ℕ → List (File R) → List (File R)
with_used buffer used include_stack =
    with_inner (λ f. record f { buffer = buffer; blanks = only_blanks f.blanks used; ends_mid_line = ends_mid_line_after f.ends_mid_line used }) include_stack

-- a read failed inside a call: from where the reading stands on, what remains comes to what it would have come to, with the kept
-- bytes in front
pub record Pauses {R : Type 0} (has_known_texts : Type 0) (unread : R → List ℕ) (at : CallState) (room : ℕ) (kept used : List ℕ) (old new : BufferView R) : Type 0 where
  pub to : CallState
  pub goes_on : GoesOn has_known_texts unread at to room kept used old new

-- what the answer says of the call, from where its reading stands (source: this project's profile)
abbrev pub TellsCall : {R : Type 0} → Type 0 → (R → List ℕ) → CallState → ℕ → List ℕ → List ℕ → BufferView R → BufferView R → CallRead → Type 0
TellsCall has_known_texts unread at room kept used old new Closed = Closes has_known_texts unread at room kept used old new
TellsCall has_known_texts unread at room kept used old new (Refused f) = has_known_texts → reading unread at room old ≡ ReadRefused f
TellsCall has_known_texts unread at room kept used old new (Broken f line) =
    has_known_texts → reading unread at room old ≡ ReadStopped f line
TellsCall has_known_texts unread at room kept used old new Failed = Pauses has_known_texts unread at room kept used old new

-- whether a read failed
abbrev pub is_failed_call : CallRead → Bool
is_failed_call Closed = false
is_failed_call (Refused f) = false
is_failed_call (Broken f line) = false
is_failed_call Failed = true

-- no byte was read beyond the window, as it is where a line is too long
abbrev pub IsExactCall : CallRead → Type 0
IsExactCall result = (line : ℕ) → result ≡ Broken LineTooLong line → ⊥

-- what was kept of a call so far: that of all its bytes that were used, but for a `)` after them
pub record ReadsUpTo {R : Type 0} (has_known_texts : Type 0) (unread : R → List ℕ) (at : CallState) (room : ℕ) (kept : List ℕ) (old new : BufferView R) : Type 0 where
  pub to : CallState
  pub used : List ℕ
  pub there : BufferView R
  pub goes_on : GoesOn has_known_texts unread at to room kept used old there
  pub whole : unused_of old ≤ unused_of new + length used + 1

-- a call was read: bytes of the innermost source were used, and nothing else of the sources changed; its window moved on over its
-- text, which is what was used and what remains
pub record ReadsCall {R : Type 0} (has_known_texts : Type 0) (unread : R → List ℕ) (at : CallState) (room : ℕ) (kept : List ℕ) (result : CallRead) (old new : List (File R)) : Type 0 where
  pub used : List ℕ
  pub inner : new ≡ with_used (inner_buffer new) used old
  pub unused : unused_of (inner_buffer new) + length used ≡ unused_of (inner_buffer old)
  pub moves : MovesOver has_known_texts (IsExactCall result) unread used (inner_buffer old) (inner_buffer new)
  pub so_far : ReadsUpTo has_known_texts unread at room kept (inner_buffer old) (inner_buffer new)
  pub text : IsExactCall result → has_known_texts → text_left unread (inner_buffer old) ≡ used ++ text_left unread (inner_buffer new)
  pub answer : TellsCall has_known_texts unread at room kept used (inner_buffer old) (inner_buffer new) result

-- a token was taken, or the part of it that was held, and the call goes on
pub record IsTaken {R : Type 0} (at to : CallState) (room : ℕ) (old_bytes new_bytes : List ℕ) (old new : List (File R)) : Type 0 where
  pub used : List ℕ
  pub kept : List ℕ
  pub some : 0 < length used
  pub bytes : new_bytes ≡ old_bytes ++ kept
  pub inner : new ≡ with_used (inner_buffer new) used old
  pub level : level_in to ≤ level_in at + length kept
  pub lead : to ≡ Before → (inner_buffer new).mode ≢ InStr
  pub moves : (unread : R → List ℕ) → MovesOver Unit Unit unread used (inner_buffer old) (inner_buffer new)
  pub text : (unread : R → List ℕ) → text_left unread (inner_buffer old) ≡ used ++ text_left unread (inner_buffer new)
  pub goes_on : (unread : R → List ℕ) → GoesOn Unit unread at to room kept used (inner_buffer old) (inner_buffer new)

-- the reading ended at a token
pub record IsEnded {R : Type 0} (at : CallState) (room : ℕ) (old_bytes new_bytes : List ℕ) (old new : List (File R)) (result : CallRead) : Type 0 where
  pub bytes : new_bytes ≡ old_bytes
  pub answers : is_failed_call result ≡ false
  pub reads : (unread : R → List ℕ) → ReadsCall Unit unread at room [] result old new

-- what follows a token
abbrev pub TakesToken : {R : Type 0} → CallState → ℕ → List ℕ → List ℕ → List (File R) → List (File R) → Next → Type 0
TakesToken at room old_bytes new_bytes old new (Goes to) = IsTaken at (call_state_meant to) room old_bytes new_bytes old new
TakesToken at room old_bytes new_bytes old new (Ends result) = IsEnded at room old_bytes new_bytes old new result

-- what a call comes to where a text has ended
abbrev pub IsEndOfText : {R : Type 0} → CallState → ℕ → BufferView R → CallRead → Type 0
IsEndOfText at room f Closed = ⊥
IsEndOfText at room f (Refused kind) = read at (is_open f.mode) room (ended_tokens f.mode f.open_token_line) ≡ ReadRefused kind
IsEndOfText at room f (Broken kind line) = read at (is_open f.mode) room (ended_tokens f.mode f.open_token_line) ≡ ReadStopped kind line
IsEndOfText at room f Failed = ⊥

-- a call that was read is that of the definition: the parts of its kept bytes are its parts, but for the lines of tokens that
-- aren't broken, none of their tokens is dropped, and after it are the tokens that remain (source: this project's profile)
pub record IsCallOf (room : ℕ) (ts : List SourceToken) (bytes : List ℕ) (following : List SourceToken) : Type 0 where
  pub used : ℕ
  pub call : map_call unlined (call_of token_role kept_token room (leading ts)) ≡ call_of_scan token_role 0 (scan.Closed (body_tokens bytes) used)
  pub rest : drop used ts ≡ following
  pub keeps : All (λ t. is_kept (token_role t) ≡ true) (body_tokens bytes)

-- the call that the definition has there (source: this project's profile)
abbrev pub MeansCall : {R : Type 0} → Type 0 → (R → List ℕ) → ℕ → List ℕ → BufferView R → BufferView R → CallRead → Type 0
MeansCall has_known_texts unread room bytes old new Closed =
    has_known_texts → IsCallOf room (tokens_left unread old) bytes (tokens_left unread new)
MeansCall has_known_texts unread room bytes old new (Refused f) = has_known_texts → call_of token_role kept_token room (leading (tokens_left unread old)) ≡ CallFault f
MeansCall has_known_texts unread room bytes old new (Broken f line) =
    has_known_texts → call_of token_role kept_token room (leading (tokens_left unread old)) ≡ CallBreakFault f line
MeansCall has_known_texts unread room bytes old new Failed = Unit

-- whether reading a call ends with a fault: what the call lacks, too many kept bytes, or a broken token (source: this project's
-- profile)
unfoldable pub is_read_fault : FaultKind → Bool
is_read_fault ArgumentsMissing = true
is_read_fault ArgumentsOpen = true
is_read_fault ArgumentBytes = true
is_read_fault EmbeddedPerl = true
is_read_fault OpenString = true
is_read_fault OpenComment = true
is_read_fault LineTooLong = true
is_read_fault SourceTooLong = true
is_read_fault kind = false

-- a call that is refused or broken is so for one of those
abbrev pub IsReadFault : CallRead → Type 0
IsReadFault Closed = Unit
IsReadFault (Refused kind) = is_read_fault kind ≡ true
IsReadFault (Broken kind line) = is_read_fault kind ≡ true
IsReadFault Failed = Unit

-- so is one that ends at a token
abbrev pub IsNextFault : Next → Type 0
IsNextFault (Goes to) = Unit
IsNextFault (Ends result) = IsReadFault result

-- the physical line at which a call is broken is small enough to be shown with another number
abbrev pub IsReadLine : CallRead → Type 0
IsReadLine Closed = Unit
IsReadLine (Refused kind) = Unit
IsReadLine (Broken kind line) = line < 2 ^ 63
IsReadLine Failed = Unit

-- so is that of one that ends at a token
abbrev pub IsNextLine : Next → Type 0
IsNextLine (Goes to) = Unit
IsNextLine (Ends result) = IsReadLine result
