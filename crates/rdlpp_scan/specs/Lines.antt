-- Lines of a text by their length.
-- A definition that names no source is this project's own.
use Rattle.std.specs.Prelude.{◌≡◌, ◌⊎◌, ℕ, zero, suc, Bool, List, [], ◌∷◌, length, Option, None, Some, if◌then◌else◌}
use Rattle.std.specs.Option.{option_map}
use Rattle.rdlpp_scan.specs.Bytes.{is_line_end}
use Rattle.rdlpp_scan.specs.SourceTokens.{is_continued}

-- how long the first physical line is, up to and with its LF, where it has one (this project's profile)
unfoldable pub ended_line_len : List ℕ → Option ℕ
ended_line_len [] = None
ended_line_len (b ∷ bs) = if is_line_end b then Some 1 else option_map suc (ended_line_len bs)

-- how long whole lines are of which some stand before `n` more bytes of whole lines: with their LF where no more follow
unfoldable pub onto_whole_lines : ℕ → ℕ → ℕ
onto_whole_lines b zero = if is_line_end b then 1 else 0
onto_whole_lines b (suc n) = suc (suc n)

-- how long the whole lines of a text are: all up to and with its last LF (this project's profile)
unfoldable pub whole_lines_len : List ℕ → ℕ
whole_lines_len [] = 0
whole_lines_len (b ∷ bs) = onto_whole_lines b (whole_lines_len bs)

-- whether the LF after a text is a continuation; x and y are the two bytes before the text (IEEE 1364-2001, `define`)
unfoldable pub ends_continued : ℕ → ℕ → List ℕ → Bool
ends_continued x y [] = is_continued x y
ends_continued x y (b ∷ bs) = ends_continued y b bs

-- a text of whole lines: it is empty or ends in LF
abbrev pub IsWholeLines : List ℕ → Type 0
IsWholeLines bytes = whole_lines_len bytes ≡ length bytes

-- a text that ends at a line end, or at the end of all
abbrev pub EndsLine : List ℕ → List ℕ → Type 0
EndsLine bytes rest = IsWholeLines bytes ⊎ (rest ≡ [])
