-- The classes of bytes.
-- A definition that names no source is this project's own.
use Rattle.std.specs.Prelude.{ℕ, Bool, not, ◌&&◌, ◌||◌, ◌==◌, nat_le, List, slice_index}

-- a space, tab, CR, VT or FF (this project's profile)
unfoldable pub is_blank : ℕ → Bool
is_blank b = b == 32 || b == 9 || b == 13 || b == 11 || b == 12

-- LF, which ends a line (this project's profile)
unfoldable pub is_line_end : ℕ → Bool
is_line_end b = b == 10

-- a byte that begins a name: a letter or `_` (IEEE 1364-2001, identifiers)
unfoldable pub is_letter : ℕ → Bool
is_letter b = nat_le 65 b && nat_le b 90 || nat_le 97 b && nat_le b 122 || b == 95

-- a decimal digit
unfoldable pub is_digit : ℕ → Bool
is_digit b = nat_le 48 b && nat_le b 57

-- a byte of a name or a number: a letter, `_` or a digit (IEEE 1364-2001, identifiers)
unfoldable pub is_word : ℕ → Bool
is_word b = is_letter b || is_digit b

-- `(`, `[` or `{`
unfoldable pub is_opener : ℕ → Bool
is_opener b = b == 40 || b == 91 || b == 123

-- `)`, `]` or `}`
unfoldable pub is_closer : ℕ → Bool
is_closer b = b == 41 || b == 93 || b == 125

-- `'` or `\`, which take a word along (this project's profile)
unfoldable pub takes_word : ℕ → Bool
takes_word b = b == 39 || b == 92

-- a byte that begins no name, no number, no usage, no string, no comment and no `<%`: a blank, or a token by itself (this project's
-- profile)
unfoldable pub is_inert : ℕ → Bool
is_inert b =
    not (is_letter b) && (not (is_digit b) && (not (takes_word b) && (not (b == 96) && (not (b == 34) && (not (b == 47) && not (b == 60))))))

-- `<%`, where embedded Perl begins (SystemRDL 2.0, preprocessor clause)
unfoldable pub begins_perl : List ℕ → Bool
begins_perl bytes = slice_index bytes 0 == 60 && slice_index bytes 1 == 37

-- `//`
unfoldable pub begins_line_comment : List ℕ → Bool
begins_line_comment bytes = slice_index bytes 0 == 47 && slice_index bytes 1 == 47

-- `/*`
unfoldable pub begins_block_comment : List ℕ → Bool
begins_block_comment bytes = slice_index bytes 0 == 47 && slice_index bytes 1 == 42

-- `*/`
unfoldable pub ends_block_comment : List ℕ → Bool
ends_block_comment bytes = slice_index bytes 0 == 42 && slice_index bytes 1 == 47
