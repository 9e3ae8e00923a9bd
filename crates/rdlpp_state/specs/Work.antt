-- The work left, one whole number that falls at every piece.
-- A definition that names no source is this project's own.
use Rattle.std.specs.Prelude.{ℕ, ◌+◌, ◌-◌, ◌*◌, ◌^◌, List, [], ◌∷◌, ◌++◌, length, replicate}

-- the number with these digits, the highest first, in base 2,147,483,648 (this project's profile)
unfoldable pub number_of : List ℕ → ℕ
number_of [] = 0
number_of (d ∷ ds) = d * (2 ^ 31) ^ length ds + number_of ds

-- digits, followed by 0 up to so many
unfoldable pub padded : ℕ → List ℕ → List ℕ
padded n digits = digits ++ replicate (n - length digits) 0

-- the work left, from a place for each open source, outermost first: its bytes that aren't used, and one; a place for each
-- open cursor: its bytes left, and one; and the count of the pieces that are pending (this project's profile)
unfoldable pub work_of : ℕ → ℕ → List ℕ → List ℕ → ℕ → ℕ
work_of includes depth sources cursors pending =
    number_of (padded (includes + 1) sources ++ (padded depth cursors ++ pending ∷ []))
