-- Outputs that are read into buffers of a caller's.
-- A definition that names no source is this project's own.
use Rattle.std.specs.Prelude.{◌≡◌, ℕ, ◌≤◌, ◌<◌, ◌⊎◌, min, false, List, [], ◌∷◌, ◌++◌, length, take, drop, Option, None, Some, Ok}
use Rattle.rdlpp_source.specs.declared.sources.Sources.{Ghosts}
use Rattle.rdlpp_meaning.specs.Outcome.{Report, Outcome, gives, fails, and_then}
use Rattle.rdlpp_state.specs.Calls.{SourcesCalled}
use Rattle.rdlpp_state.specs.Engine.{EngineView}
use Rattle.rdlpp_state.specs.Pieces.{IsPlaced, bytes_at}
use Rattle.rdlpp_state.specs.Remaining.{left_of, work_left}
use Rattle.rdlpp_state.specs.Steps.{Step, IsStarted, is_call_failed, is_memory_kind, is_read_failed}
use Rattle.rdlpp_state.specs.declared.phase.Phase.TheVariants.{Closed}
use Rattle.rdlpp_state.specs.declared.place.PieceLocation.{PieceLocation}
use Rattle.rdlpp_expand.specs.Run.{Begins, Finishes, Going, Stops, StopsAt, is_fresh}
use Rattle.rdlpp_expand.specs.declared.reading.ReadEnd.{ReadEnd}
use Rattle.rdlpp_expand.specs.declared.reading.ReadEnd.TheVariants.{Finished, Stopped}

-- the bytes of a piece, and none where there is no piece
abbrev pub bytes_or : Option (List ℕ) → List ℕ
bytes_or None = []
bytes_or (Some bytes) = bytes

-- what is left of the piece at a place, of which so many bytes were given
abbrev pub rest_at : {S R : Type 0} → EngineView S R → PieceLocation → ℕ → List ℕ
rest_at e place given = drop given (bytes_or (bytes_at e place))

-- an engine that was started, and a piece of it of which so many bytes were given
pub record IsHeldAt {S R : Type 0} (e : EngineView S R) (place : PieceLocation) (given : ℕ) : Type 0 where
  pub placed : IsPlaced e place
  pub started : IsStarted e
  pub inside : given ≤ length (bytes_or (bytes_at e place))

-- a reading: its engine, and what is left of the piece that was lent last
pub record ReadingView (S R : Type 0) : Type 0 where
  pub engine : EngineView S R
  pub rest : List ℕ

-- a reading of an engine that wasn't started: its output has no bytes, and is at its end
unfoldable pub unstarted : {S R : Type 0} → EngineView S R → ReadingView S R
unstarted fresh = record { engine = record fresh { phase = Closed }; rest = [] }

-- what remains of the output: what is left of the piece, and then what remains before the engine (this project's profile)
unfoldable pub reading_left : {S R : Type 0} → Ghosts S R → ReadingView S R → Outcome
reading_left g r = and_then (gives r.rest) (left_of g r.engine)

-- a step to the next piece, or to the end, or to a fault
abbrev pub Turns : {S R : Type 0} → Ghosts S R → EngineView S R → EngineView S R → List ℕ → Option ReadEnd → Type 0
Turns g old new rest None = Step g old new (Ok (Some rest))
Turns g old new rest (Some Finished) = Step g old new (Ok None) × (rest ≡ [])
Turns g old new rest (Some Stopped) = StopsAt g old new rest

-- how far the engine went on by the bytes that it lent, by how the output ended
abbrev pub LentEnds : {S R : Type 0} → Ghosts S R → EngineView S R → EngineView S R → List ℕ → Option ReadEnd → Type 0
LentEnds g old new lent None = Going g old new lent
LentEnds g old new lent (Some Finished) = Finishes g old new lent
LentEnds g old new lent (Some Stopped) = Stops g old new lent

-- the fault that a read ended with, if it did: the one that the engine keeps
abbrev pub ended_with : Option ReadEnd → Option Report → Option Report
ended_with None kept = None
ended_with (Some Finished) kept = None
ended_with (Some Stopped) kept = kept

-- a read into a buffer: what is given, and then what is left of the piece, is what was left of the piece and then what the engine lent; the
-- bytes of the buffer after it stay, and its length; it ends where the buffer is full, or with the output, of which nothing is left then; and the
-- counts of the sources' failures (this project's profile)
pub record Fills {S R : Type 0} (g : Ghosts S R) (old new : ReadingView S R) (before after : List ℕ) (len : ℕ) (ending : Option ReadEnd) : Type 0 where
  pub lent : List ℕ
  pub inside : len ≤ length before
  pub size : length after ≡ length before
  pub given : take len after ++ new.rest ≡ old.rest ++ lent
  pub following : drop len after ≡ drop len before
  pub full : ending ≡ None → len ≡ length before
  pub used : (e : ReadEnd) → ending ≡ Some e → new.rest ≡ []
  pub ends : LentEnds g old.engine new.engine lent ending
  pub reads : SourcesCalled g (is_fresh is_read_failed old.engine.kept (ended_with ending new.engine.kept)) (is_fresh is_memory_kind old.engine.kept (ended_with ending new.engine.kept)) old.engine.sources new.engine.sources
  pub limits : new.engine.limits ≡ old.engine.limits
  pub origins : new.engine.origins ≡ old.engine.origins
  pub main : new.engine.main ≡ old.engine.main

-- a read came back after a piece without bytes: nothing is left of it, and the work left fell
pub record Pauses {S R : Type 0} (g : Ghosts S R) (old new : ReadingView S R) : Type 0 where
  pub none : new.rest ≡ []
  pub before : EngineView S R
  pub steps : Step g before new.engine (Ok (Some []))
  pub falls : work_left new.engine < work_left old.engine

-- a read that may come back before the buffer is full, after a piece without bytes; else it is as one that fills it (this project's profile)
pub record FillsPart {S R : Type 0} (g : Ghosts S R) (old new : ReadingView S R) (before after : List ℕ) (len : ℕ) (ending : Option ReadEnd) : Type 0 where
  pub lent : List ℕ
  pub inside : len ≤ length before
  pub size : length after ≡ length before
  pub given : take len after ++ new.rest ≡ old.rest ++ lent
  pub following : drop len after ≡ drop len before
  pub full : ending ≡ None → (len ≡ length before) ⊎ Pauses g old new
  pub used : (e : ReadEnd) → ending ≡ Some e → new.rest ≡ []
  pub ends : LentEnds g old.engine new.engine lent ending
  pub reads : SourcesCalled g (is_fresh is_read_failed old.engine.kept (ended_with ending new.engine.kept)) (is_fresh is_memory_kind old.engine.kept (ended_with ending new.engine.kept)) old.engine.sources new.engine.sources
  pub limits : new.engine.limits ≡ old.engine.limits
  pub origins : new.engine.origins ≡ old.engine.origins
  pub main : new.engine.main ≡ old.engine.main

-- the piece from which a read gives: what is left of the one that was lent last, if anything is, and else that of the next step, if it lends one
abbrev pub IsNextPiece : {S R : Type 0} → Ghosts S R → ReadingView S R → EngineView S R → List ℕ → List ℕ → Option ReadEnd → Type 0
IsNextPiece g old new [] piece ending = Turns g old.engine new piece ending
IsNextPiece g old new (b ∷ rest) piece ending = (new ≡ old.engine) × (piece ≡ b ∷ rest) × (ending ≡ None)

-- a read of one piece: as many of its bytes are given as there is room for, and the others are left; the bytes of the buffer after them stay (this
-- project's profile)
pub record GivesPiece {S R : Type 0} (g : Ghosts S R) (old new : ReadingView S R) (before after : List ℕ) (len : ℕ) (ending : Option ReadEnd) : Type 0 where
  pub piece : List ℕ
  pub next : IsNextPiece g old new.engine old.rest piece ending
  pub count : len ≡ min (length piece) (length before)
  pub out : after ≡ take len piece ++ drop len before
  pub rest : new.rest ≡ drop len piece

-- bytes of an output that a fault ended: its first ones; and all of them, and the fault its end, unless a device failed or memory was
-- refused in this call (this project's profile)
pub record LeavesFault {S R : Type 0} (g : Ghosts S R) (old new : ReadingView S R) (bytes : List ℕ) : Type 0 where
  pub fault : Report
  pub kept : new.engine.kept ≡ Some fault
  pub begins : Begins bytes (reading_left g old)
  pub exact : is_fresh is_call_failed old.engine.kept (Some fault) ≡ false → reading_left g old ≡ and_then (gives bytes) (fails fault)

-- what remained of the output is the given bytes and then what remains; or they are all of it; or all before its fault
abbrev pub Leaves : {S R : Type 0} → Ghosts S R → ReadingView S R → ReadingView S R → List ℕ → Option ReadEnd → Type 0
Leaves g old new bytes None = reading_left g old ≡ and_then (gives bytes) (reading_left g new)
Leaves g old new bytes (Some Finished) = reading_left g old ≡ gives bytes
Leaves g old new bytes (Some Stopped) = LeavesFault g old new bytes
