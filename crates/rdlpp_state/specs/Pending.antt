-- Texts that are pending: they are lent before anything that follows in the source.
-- A definition that names no source is this project's own.
use Rattle.std.specs.Prelude.{◌≡◌, ℕ, ◌+◌, ◌≤◌, ◌<◌, Bool, List, [], ◌∷◌, ◌++◌, Option, None, Some, codes, decimal, length, take, replicate, if◌then◌else◌}
use Rattle.rdlpp_state.specs.declared.pending.PendingPart.{PendingPart}
use Rattle.rdlpp_state.specs.declared.pending.PendingPart.TheVariants.{LineEnds, Label, Name, Colon, Digits}
use Rattle.rdlpp_state.specs.declared.pending.PendingPiece.{PendingPiece}

-- an origin line that is pending from a part of it on, and its number
pub record OriginView : Type 0 where
  pub part : PendingPart
  pub number : ℕ

-- how many LF bytes are pending, and the origin line that is pending after them
pub record PendingView : Type 0 where
  pub line_ends : ℕ
  pub origin : Option OriginView

-- the decimal digits of the number of an origin line that is pending
unfoldable pub digits_of : Option OriginView → List ℕ
digits_of None = []
digits_of (Some origin) = decimal origin.number

-- the number of an origin line, if one is pending
abbrev pub pending_number : Option OriginView → Option ℕ
pending_number None = None
pending_number (Some origin) = Some origin.number

-- the bytes of a part, by the name that is shown and by the digits: as many LF bytes as are lent at once, or a part of an origin
-- line (this project's profile)
unfoldable pub part_bytes : PendingPart → List ℕ → List ℕ → List ℕ
part_bytes LineEnds name digits = replicate 16 10
part_bytes Label name digits = codes "// origin: "
part_bytes Name name digits = name
part_bytes Colon name digits = 58 ∷ []
part_bytes Digits name digits = digits

-- an origin line from a part of it on (this project's profile)
unfoldable pub line_from : PendingPart → List ℕ → List ℕ → List ℕ
line_from LineEnds name digits = 10 ∷ []
line_from Label name digits = codes "// origin: " ++ (name ++ (58 ∷ (digits ++ (10 ∷ []))))
line_from Name name digits = name ++ (58 ∷ (digits ++ (10 ∷ [])))
line_from Colon name digits = 58 ∷ (digits ++ (10 ∷ []))
line_from Digits name digits = digits ++ (10 ∷ [])

-- how many pieces an origin line has from a part of it on
unfoldable pub pieces_from : PendingPart → ℕ
pieces_from LineEnds = 1
pieces_from Label = 5
pieces_from Name = 4
pieces_from Colon = 3
pieces_from Digits = 2

-- the bytes of an origin line that is pending, under the name that is shown
unfoldable pub origin_bytes : List ℕ → Option OriginView → List ℕ
origin_bytes name None = []
origin_bytes name (Some origin) = line_from origin.part name (decimal origin.number)

-- how many pieces it has
unfoldable pub origin_pieces : Option OriginView → ℕ
origin_pieces None = 0
origin_pieces (Some origin) = pieces_from origin.part

-- the bytes that are pending, where a name is shown
unfoldable pub pending_bytes : List ℕ → PendingView → List ℕ
pending_bytes name pending = replicate pending.line_ends 10 ++ origin_bytes name pending.origin

-- how many pieces they are at most
unfoldable pub pending_pieces : PendingView → ℕ
pending_pieces pending = pending.line_ends + origin_pieces pending.origin

-- nothing is pending
unfoldable pub nothing_pending : PendingView
nothing_pending = record { line_ends = 0; origin = None }

-- so many LF bytes are pending, and no origin line
unfoldable pub line_ends_pending : ℕ → PendingView
line_ends_pending lines = record { line_ends = lines; origin = None }

-- the origin line with a number, where origin lines are asked for (this project's profile)
unfoldable pub origin_pending : Bool → ℕ → Option OriginView
origin_pending origins line = if origins then Some (record { part = Label; number = line }) else None

-- a piece with other bytes of its part
unfoldable pub cut_to : PendingPiece → ℕ → PendingPiece
cut_to piece len = record { part = piece.part; len = len }

-- the first piece of an origin line that is pending, where a name of so many bytes is shown
unfoldable pub first_piece : ℕ → OriginView → PendingPiece
first_piece name_len origin = elim origin.part [
  | LineEnds ↦ record { part = LineEnds; len = 1 }
  | Label ↦ record { part = Label; len = 11 }
  | Name ↦ record { part = Name; len = name_len }
  | Colon ↦ record { part = Colon; len = 1 }
  | Digits ↦ record { part = Digits; len = length (decimal origin.number) }
]

-- what is pending of an origin line after its first piece
unfoldable pub after_piece : OriginView → Option OriginView
after_piece origin = elim origin.part [
  | LineEnds ↦ None
  | Label ↦ Some (record origin { part = Name })
  | Name ↦ Some (record origin { part = Colon })
  | Colon ↦ Some (record origin { part = Digits })
  | Digits ↦ Some (record origin { part = LineEnds })
]

-- a piece was taken out of what is pending: it and then what is still pending are what was pending, and fewer pieces are pending
pub record TakesPiece (name : List ℕ) (old new : PendingView) (piece : PendingPiece) : Type 0 where
  pub inside : piece.len ≤ length (part_bytes piece.part name (digits_of new.origin))
  pub bytes : pending_bytes name old ≡ take piece.len (part_bytes piece.part name (digits_of new.origin)) ++ pending_bytes name new
  pub fewer : pending_pieces new < pending_pieces old
