-- Buffers of a caller's.
-- A definition that names no source is this project's own.
use Rattle.std.specs.Prelude.{ℕ, List, ◌++◌, length, take, drop}

-- a buffer over whose first bytes others are written, as many as there is room for
abbrev pub overwritten : List ℕ → List ℕ → List ℕ
overwritten bytes buffer = take (length buffer) bytes ++ drop (length bytes) buffer
