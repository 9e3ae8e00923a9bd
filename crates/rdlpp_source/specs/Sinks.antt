-- What a sink counts as a failure.
-- A definition that names no source is this project's own.
use Rattle.std.specs.Prelude.{ℕ, ◌==◌, ◌&&◌, not, Bool, true, List, length, Result, Ok, Err}

-- whether a write of these bytes failed: an error, or none taken of some (source: this project's profile)
abbrev pub is_failed_write : {E : Type 0} → Result ℕ E → List ℕ → Bool
is_failed_write (Ok n) part = (n == 0) && not (length part == 0)
is_failed_write (Err fault) part = true
