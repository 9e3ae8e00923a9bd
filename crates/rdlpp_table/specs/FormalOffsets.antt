-- Where the formals of a macro begin among their bytes, kept where those bytes are many.
-- A definition that names no source is this project's own.
use Rattle.std.specs.Prelude.{ℕ, ◌+◌, ◌*◌, ◌/◌, ◌%◌, Bool, List, [], ◌∷◌, length, nat_le, nat_lt, slice_index, sum_by, if◌then◌else◌}
use Rattle.std.specs.List.{flat_map}
use Rattle.rdlpp_define.specs.Macros.{Formal, Macro, formal_size, formals_of}

-- where each formal begins among the bytes of formals, of which the first begins at a place
unfoldable pub starts_of : ℕ → List Formal → List ℕ
starts_of at [] = []
starts_of at (f ∷ fs) = at ∷ starts_of (at + formal_size f) fs

-- two numbers below 65,536 in the place of each number below 2 ^ 32: its low half, and then its high half
unfoldable pub halves : List ℕ → List ℕ
halves [] = []
halves (n ∷ ns) = n % 65536 ∷ n / 65536 ∷ halves ns

-- whether it is kept where so many formals begin, which take so many bytes: where they take four each, or more
unfoldable pub has_offsets : ℕ → ℕ → Bool
has_offsets count size = nat_le (4 * count) size

-- what is kept of where formals begin
unfoldable pub offsets_of : List Formal → List ℕ
offsets_of formals = if has_offsets (length formals) (sum_by formal_size formals) then halves (starts_of 0 formals) else []

-- what is kept of where the formals of a macro begin
unfoldable pub macro_offsets : Macro → List ℕ
macro_offsets m = offsets_of (formals_of m)

-- what is kept of where the formals of macros begin
unfoldable pub table_offsets : List Macro → List ℕ
table_offsets macros = flat_map macro_offsets macros

-- the number at a place among those of which the halves are kept
unfoldable pub offset_in : List ℕ → ℕ → ℕ
offset_in formal_offsets place = slice_index formal_offsets (2 * place) + 65536 * slice_index formal_offsets (2 * place + 1)

-- where the formal at a place ends, of so many with so many bytes: where the next one begins, or where the last one ends
unfoldable pub end_in : ℕ → ℕ → List ℕ → ℕ → ℕ
end_in count size formal_offsets place = if nat_lt (place + 1) count then offset_in formal_offsets (place + 1) else size
