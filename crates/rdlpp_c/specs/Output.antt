-- An output that is read to its end: its front into a buffer of a caller's, and its length.
-- A definition that names no source is this project's own.
use Rattle.std.specs.Prelude.{◌≡◌, ℕ, ◌+◌, ◌-◌, ◌^◌, List, length, min, Option, Some}
use Rattle.rdlpp_source.specs.declared.sources.Sources.{Ghosts}
use Rattle.rdlpp_meaning.specs.Outcome.{Report, Outcome}
use Rattle.rdlpp_expand.specs.Reading.{ReadingView, ended_with, reading_left}
use Rattle.rdlpp_expand.specs.declared.reading.ReadEnd.{ReadEnd}
use Rattle.rdlpp_c.specs.Buffers.{overwritten}

-- a reading came to the end of its output: what remained are these bytes, and the fault that ended them, if one did
pub record Ends {S R : Type 0} (g : Ghosts S R) (old new : ReadingView S R) (bytes : List ℕ) (ending : ReadEnd) : Type 0 where
  pub is : reading_left g old ≡ record { bytes = bytes; fault = ended_with (Some ending) new.engine.kept }

-- a reading came to the end of its output, whose bytes were counted after so many
pub record Counted {S R : Type 0} (g : Ghosts S R) (old new : ReadingView S R) (before after : ℕ) (ending : ReadEnd) : Type 0 where
  pub bytes : List ℕ
  pub ends : Ends g old new bytes ending
  pub count : after ≡ min (before + length bytes) (2 ^ 64 - 1)

-- an output was read to its end: its front is in a buffer, and its length and its fault are told
pub record IsRead (output : Outcome) (before after : List ℕ) (count : ℕ) (fault : Option Report) : Type 0 where
  pub bytes : List ℕ
  pub is : output ≡ record { bytes = bytes; fault = fault }
  pub counted : count ≡ min (length bytes) (2 ^ 64 - 1)
  pub front : after ≡ overwritten bytes before
