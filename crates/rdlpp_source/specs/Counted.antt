-- What a sink over a writer shows.
-- A definition that names no source is this project's own.
use Rattle.std.specs.Prelude.{ℕ}
use Rattle.rdlpp_source.specs.declared.counted.Counted.{Counted}

-- the writer as it stands (source: this project's profile)
abbrev pub counted_writer : {W : Type 0} → Counted W → W
counted_writer counted = counted.writer

-- how often a write failed (source: this project's profile)
abbrev pub counted_failed_writes : {W : Type 0} → Counted W → ℕ
counted_failed_writes counted = counted.failed_writes

-- how often a flush failed (source: this project's profile)
abbrev pub counted_failed_flushes : {W : Type 0} → Counted W → ℕ
counted_failed_flushes counted = counted.failed_flushes

-- how often a flush was asked for (source: this project's profile)
abbrev pub counted_flushes : {W : Type 0} → Counted W → ℕ
counted_flushes counted = counted.flushes
