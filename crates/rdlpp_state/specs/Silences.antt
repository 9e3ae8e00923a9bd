-- How many steps in a row may lend no bytes.
-- A definition that names no source is this project's own.
use Rattle.std.specs.Prelude.{ℕ}

-- so many at most come before a piece, which then has none if no other came (this project's profile)
abbrev pub most_silent : ℕ
most_silent = 65536
