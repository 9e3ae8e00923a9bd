-- Pieces, and where they stand in the held stores.
-- A definition that names no source is this project's own.
use Rattle.std.specs.Prelude.{◌≡◌, ℕ, ◌≤◌, ◌<◌, List, [], length, take, slice_range, Option, None, Some, Result, Ok, Err, ⊤}
use Rattle.std.specs.Borrow.{Bor}
use Rattle.std.specs.Option.{option_map}
use Rattle.rdlpp_meaning.specs.Outcome.{Report, report_of}
use Rattle.rdlpp_meaning.specs.declared.fault.Fault.{Fault}
use Rattle.rdlpp_read.specs.Files.{inner_buffer}
use Rattle.rdlpp_meaning.specs.Opens.{Texts}
use Rattle.rdlpp_texts.specs.Places.{IsPlaced as IsTextPlaced, place_bytes, texts_of}
use Rattle.rdlpp_state.specs.Engine.{EngineView}
use Rattle.rdlpp_state.specs.Pending.{digits_of, part_bytes}
use Rattle.rdlpp_state.specs.Remaining.{inner_name}
use Rattle.rdlpp_state.specs.declared.pending.PendingPiece.{PendingPiece}
use Rattle.rdlpp_state.specs.declared.place.Halt.{Halt}
use Rattle.rdlpp_state.specs.declared.place.Halt.TheVariants.{End, Fault as AtFault}
use Rattle.rdlpp_state.specs.declared.place.PieceLocation.{PieceLocation}
use Rattle.rdlpp_state.specs.declared.place.PieceLocation.TheVariants as spot
use Rattle.rdlpp_state.specs.declared.place.PieceLocation.TheVariants.{Source, Text, Pending}
use Rattle.rdlpp_state.specs.declared.place.Piece.{Piece}
use Rattle.rdlpp_state.specs.declared.place.Piece.TheVariants.{Bytes, Done}

-- the bytes of the part of which a piece that is pending is the beginning, under the name that is shown
abbrev pub pending_part : {S R : Type 0} → EngineView S R → PendingPiece → List ℕ
pending_part e piece = part_bytes piece.part (inner_name e.files.include_stack) (digits_of e.pending.origin)

-- the texts in which the open texts of a usage lie: the live macros, and what is kept of the call
abbrev pub held_texts : {S R : Type 0} → EngineView S R → Texts
held_texts e = texts_of e.table.macros e.expansion.arguments

-- a place lies in the held stores, or in what is pending
abbrev pub IsPlaced : {S R : Type 0} → EngineView S R → PieceLocation → Type 0
IsPlaced e (Source start end) = (0 < length e.files.include_stack) × (start ≤ end) × (end ≤ length (inner_buffer e.files.include_stack).window)
IsPlaced e (Text place) = IsTextPlaced (held_texts e) place
IsPlaced e (Pending piece) = (0 < length e.files.include_stack) × (piece.len ≤ length (pending_part e piece))
IsPlaced e (spot.Halt halt) = ⊤

-- the bytes at a place: a part of the innermost source's buffer, or of an open text, or what is pending; none where nothing more is lent
abbrev pub bytes_at : {S R : Type 0} → EngineView S R → PieceLocation → Option (List ℕ)
bytes_at e (Source start end) = Some (slice_range (inner_buffer e.files.include_stack).window start end)
bytes_at e (Text place) = Some (place_bytes (held_texts e) place)
bytes_at e (Pending piece) = Some (take piece.len (pending_part e piece))
bytes_at e (spot.Halt halt) = None

-- the bytes of a piece; none of the end
abbrev pub piece_bytes : Piece → Option (List ℕ)
piece_bytes (Bytes bytes) = Some bytes.now
piece_bytes Done = None

-- what an answer tells: bytes, the end, or a fault
abbrev pub answer_of : Result Piece (Bor Fault) → Result (Option (List ℕ)) Report
answer_of (Ok piece) = Ok (piece_bytes piece)
answer_of (Err fault) = Err (report_of fault.now)

-- what is answered of a fault, where one is kept
abbrev pub kept_answer : Option Report → Result (Option (List ℕ)) Report
kept_answer (Some f) = Err f
kept_answer None = Ok None

-- what is answered where nothing more is lent: the end, or the fault that is kept
abbrev pub halted_answer : {S R : Type 0} → EngineView S R → Halt → Result (Option (List ℕ)) Report
halted_answer e End = Ok None
halted_answer e AtFault = kept_answer e.kept

-- what is answered at a place
abbrev pub lent_answer : {S R : Type 0} → EngineView S R → PieceLocation → Result (Option (List ℕ)) Report
lent_answer e (Source start end) = Ok (bytes_at e (Source start end))
lent_answer e (Text place) = Ok (bytes_at e (Text place))
lent_answer e (Pending piece) = Ok (bytes_at e (Pending piece))
lent_answer e (spot.Halt halt) = halted_answer e halt

-- what is answered is what stands at a place: a part of the innermost source's buffer, of a live body, of a default, or of what is kept of a call, a few LF bytes, or a piece of
-- an origin line: a fixed text, the shown name, or decimal digits
-- (source: this project's profile)
pub record Lends {S R : Type 0} (e : EngineView S R) (answer : Result (Option (List ℕ)) Report) : Type 0 where
  pub place : PieceLocation
  pub placed : IsPlaced e place
  pub lent : answer ≡ lent_answer e place

-- what is answered by a step: what stands at a place, or no bytes, where nothing is lent
abbrev pub step_answer : {S R : Type 0} → EngineView S R → Option PieceLocation → Result (Option (List ℕ)) Report
step_answer e None = Ok (Some [])
step_answer e (Some place) = lent_answer e place

-- what is answered by a step that lends nothing: no bytes where it goes on
abbrev pub silent_answer : {S R : Type 0} → EngineView S R → Option Halt → Result (Option (List ℕ)) Report
silent_answer e halt = step_answer e (option_map spot.Halt halt)
