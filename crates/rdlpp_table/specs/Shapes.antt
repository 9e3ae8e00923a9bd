-- Of which shapes the names of formals are: of most words of a body it tells at once that they are no formals.
-- A definition that names no source is this project's own.
use Rattle.std.specs.Prelude.{◌≡◌, ◌+◌, ◌-◌, ◌*◌, ◌%◌, ℕ, Bool, true, List, [], ◌∷◌, is_some, length, slice_index, slice_index_or, slice_set}
use Rattle.rdlpp_define.specs.Macros.{Formal}
use Rattle.rdlpp_define.specs.Table.{formal_named}

-- the shape of a name: the low bits of its first byte, and of its last byte and its length together
unfoldable pub shape : List ℕ → ℕ
shape name = slice_index name 0 % 32 + 32 * ((slice_index name (length name - 1) + length name) % 8)

-- of each shape whether the name of one of these formals has it, or it is told of it before
unfoldable pub shapes_of : List Formal → List Bool → List Bool
shapes_of [] told = told
shapes_of (f ∷ fs) told = shapes_of fs (slice_set told (shape f.name) true)

-- a name is a formal only where it is told of its shape, or nothing is
abbrev pub AreShapes : List Formal → List Bool → Type 0
AreShapes formals told = (name : List ℕ) → is_some (formal_named formals name) ≡ true → slice_index_or told (shape name) true ≡ true
