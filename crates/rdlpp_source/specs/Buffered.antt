-- What a sink that gathers bytes in front of a writer shows.
-- A definition that names no source is this project's own.
use Rattle.std.specs.Prelude.{◌≡◌, ℕ, List, Option, vec_capacity}
use Rattle.std.specs.Io.KnownBytes.{append_known}
use Rattle.rdlpp_source.specs.declared.buffered.Buffered.{Buffered}

-- the writer as it stands (source: this project's profile)
abbrev pub buffered_writer : {W : Type 0} → Buffered W → W
buffered_writer buffered = buffered.writer

-- the bytes that are held back (source: this project's profile)
abbrev pub buffered_held : {W : Type 0} → Buffered W → List ℕ
buffered_held buffered = buffered.held.items

-- how many bytes the buffer has room for (source: this project's profile)
abbrev pub buffered_capacity : {W : Type 0} → Buffered W → ℕ
buffered_capacity buffered = vec_capacity buffered.held

-- the bytes taken: the writer's, where they are known, and then those held back (source: this project's profile)
abbrev pub buffered_bytes : {W : Type 0} → (W → Option (List ℕ)) → Buffered W → Option (List ℕ)
buffered_bytes contents buffered = append_known (contents (buffered_writer buffered)) (buffered_held buffered)

-- how often a write failed (source: this project's profile)
abbrev pub buffered_failed_writes : {W : Type 0} → Buffered W → ℕ
buffered_failed_writes buffered = buffered.failed_writes

-- how often a flush failed (source: this project's profile)
abbrev pub buffered_failed_flushes : {W : Type 0} → Buffered W → ℕ
buffered_failed_flushes buffered = buffered.failed_flushes

-- how often a flush was asked for (source: this project's profile)
abbrev pub buffered_flushes : {W : Type 0} → Buffered W → ℕ
buffered_flushes buffered = buffered.flushes

-- the counts stay as they were (source: this project's profile)
pub record SameCounts {W : Type 0} (old new : Buffered W) : Type 0 where
  pub failed_writes : buffered_failed_writes new ≡ buffered_failed_writes old
  pub failed_flushes : buffered_failed_flushes new ≡ buffered_failed_flushes old
  pub flushes : buffered_flushes new ≡ buffered_flushes old
