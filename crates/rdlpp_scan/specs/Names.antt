-- Names.
-- A definition that names no source is this project's own.
use Rattle.std.specs.Prelude.{◌≡◌, ℕ, Bool, true, ◌&&◌, List, slice_index}
use Rattle.std.specs.List.{list_all}
use Rattle.rdlpp_scan.specs.Bytes.{is_letter, is_word}

-- whether a text is one name: it begins with a letter or `_`, and has word bytes alone (IEEE 1364-2001, identifiers)
unfoldable pub is_name : List ℕ → Bool
is_name bytes = is_letter (slice_index bytes 0) && list_all is_word bytes

-- letters, digits and `_`
abbrev pub IsWordBytes : List ℕ → Type 0
IsWordBytes bytes = list_all is_word bytes ≡ true
