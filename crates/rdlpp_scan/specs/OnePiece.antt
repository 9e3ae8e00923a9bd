-- Bodies that are copied in one piece.
-- A definition that names no source is this project's own.
use Rattle.std.specs.Prelude.{ℕ, Bool, not, ◌||◌, ◌==◌, List}
use Rattle.std.specs.List.{list_all}

-- whether a byte is neither `\` nor `/`, with which continuations and comments begin
unfoldable pub is_piece_byte : ℕ → Bool
is_piece_byte b = not (b == 92 || b == 47)

-- whether a text has neither a `\` nor a `/`
abbrev pub is_one_piece : List ℕ → Bool
is_one_piece text = list_all is_piece_byte text
