-- The text of a logical line: a continuation is read as its LF.
-- A definition that names no source is this project's own.
use Rattle.std.specs.Prelude.{ℕ, zero, suc, ◌+◌, ◌-◌, Bool, true, false, ◌&&◌, ◌==◌, List, [], ◌∷◌, slice_index, if◌then◌else◌}

-- how many bytes stand before the LF of a continuation, where a text begins with one: `\`, or `\` and CR
-- (IEEE 1364-2001, `define`)
unfoldable pub continuation_len : List ℕ → ℕ
continuation_len bytes =
    if slice_index bytes 0 == 92 && slice_index bytes 1 == 10 then 1
    else (if slice_index bytes 0 == 92 && (slice_index bytes 1 == 13 && slice_index bytes 2 == 10) then 2
    else 0)

-- a text with LF in the place of each continuation, after so many bytes are dropped (IEEE 1364-2001, `define`)
unfoldable pub without_continuations : ℕ → List ℕ → List ℕ
without_continuations skip [] = []
without_continuations (suc skip) (b ∷ bs) = without_continuations skip bs
without_continuations zero (b ∷ bs) =
    if continuation_len (b ∷ bs) == 0 then b ∷ without_continuations 0 bs
    else without_continuations (continuation_len (b ∷ bs) - 1) bs

-- a text as it is read: of a logical line with LF in the place of each continuation, else as it is
unfoldable pub as_read : Bool → List ℕ → List ℕ
as_read true text = without_continuations 0 text
as_read false text = text

-- how many bytes of a text are the first one that is read
unfoldable pub first_len : Bool → List ℕ → ℕ
first_len true text = continuation_len text + 1
first_len false text = 1
