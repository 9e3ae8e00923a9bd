-- Default texts of which the end is found byte by byte.
-- A definition that names no source is this project's own.
use Rattle.std.specs.Prelude.{ℕ, Bool, not, ◌||◌, ◌==◌}

-- whether a byte of a default text outside brackets neither ends it nor begins what may hide its end: neither `,` nor `)`, no opener,
-- no `"`, with which strings begin, no `/`, with which comments do, and no `<`, with which `<%` does
unfoldable pub is_simple : ℕ → Bool
is_simple b = not (b == 44 || b == 41 || b == 40 || b == 91 || b == 123 || b == 34 || b == 47 || b == 60)
