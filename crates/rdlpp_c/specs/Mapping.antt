-- What a read with its line map does to an output.
-- A definition that names no source is this project's own.
use Rattle.std.specs.Prelude.{◌≡◌, ℕ, ◌<◌, ◌≤◌, ◌⊎◌, Bool, true, false, List, [], ◌++◌, length, take, drop, Option, None, Some}
use Rattle.rdlpp_source.specs.Asked.{wanted_of}
use Rattle.rdlpp_state.specs.Calls.{SourcesCalled}
use Rattle.rdlpp_state.specs.Steps.{is_memory_kind, is_read_failed}
use Rattle.rdlpp_expand.specs.Run.{is_fresh}
use Rattle.rdlpp_expand.specs.Reading.{GivesPiece, Leaves, LentEnds, Pauses, ended_with}
use Rattle.rdlpp_expand.specs.declared.reading.ReadEnd.{ReadEnd}
use Rattle.rdlpp_c.specs.Streaming.{ReadBuffers, TakesUp, TellsRead, owned_sources, read_wanted}
use Rattle.rdlpp_c.specs.Telling.{numbered}
use Rattle.rdlpp_c.specs.declared.stream.Stream.{Stream}
use Rattle.rdlpp_c.specs.declared.telling.Outcome.{Outcome as Numbers}

-- a read within one piece, of whose lines the map is kept
pub record ReadsPart (old new : Stream) (before after : List ℕ) (len : ℕ) (ending : Option ReadEnd) : Type 0 where
  pub gives : GivesPiece owned_sources old.reading new.reading before after len ending
  pub only : new ≡ record old { reading = new.reading; part = new.part; lines = new.lines }

-- a read over pieces, as `rdlpp_read` makes it, but that it also ends where fewer than 1,100 bytes are left for the map
pub record ReadsLines (old new : Stream) (before after : List ℕ) (len : ℕ) (ending : Option ReadEnd) (room : ℕ) : Type 0 where
  pub lent : List ℕ
  pub inside : len ≤ length before
  pub given : take len after ++ new.reading.rest ≡ old.reading.rest ++ lent
  pub following : drop len after ≡ drop len before
  pub full : ending ≡ None → (len ≡ length before) ⊎ ((room < 1100) ⊎ Pauses owned_sources old.reading new.reading)
  pub used : (e : ReadEnd) → ending ≡ Some e → new.reading.rest ≡ []
  pub ends : LentEnds owned_sources old.reading.engine new.reading.engine lent ending
  pub reads : SourcesCalled owned_sources (is_fresh is_read_failed old.reading.engine.kept (ended_with ending new.reading.engine.kept))
      (is_fresh is_memory_kind old.reading.engine.kept (ended_with ending new.reading.engine.kept)) old.reading.engine.sources new.reading.engine.sources
  pub left : Leaves owned_sources old.reading new.reading (take len after) ending
  pub only : new ≡ record old { reading = new.reading; part = new.part; lines = new.lines }

-- a read of an open stream with its map, for which so many bytes are left: where a source was asked for its search is made again; then bytes are read;
-- and how that ended is told in numbers and buffers
pub record MapsStream (room : ℕ) (old new : ReadBuffers) (before after : Stream) (outcome : Numbers) : Type 0 where
  pub at : Stream
  pub takes_up : TakesUp (wanted_of before.reading.engine.sources) before at
  pub len : ℕ
  pub ending : Option ReadEnd
  pub reads : ReadsLines at after old.out new.out len ending room
  pub tells : TellsRead len ending (ended_with ending after.reading.engine.kept) (read_wanted (ended_with ending after.reading.engine.kept) after.reading.engine.sources)
      (record { name = old.name; word = old.word }) (record { name = new.name; word = new.word }) outcome

-- such a read, by whether the buffer of the map is too short: then that is told, by status 8, and nothing changes
abbrev pub MapsOpen : Bool → ℕ → ReadBuffers → ReadBuffers → Stream → Stream → Numbers → Type 0
MapsOpen true room old new before after outcome = (after ≡ before) × (new ≡ old) × (outcome ≡ numbered 8 0)
MapsOpen false room old new before after outcome = MapsStream room old new before after outcome

-- a read with its map by a handle: of a closed one it only tells so, by status 6, and changes nothing; else it is one of the stream
abbrev pub ReadsMapped : Bool → ℕ → ReadBuffers → ReadBuffers → Option Stream → Option Stream → Numbers → Type 0
ReadsMapped short room old new None held outcome = (held ≡ None) × (new ≡ old) × (outcome ≡ numbered 6 0)
ReadsMapped short room old new (Some before) held outcome = (after : Stream) × (held ≡ Some after) × MapsOpen short room old new before after outcome
