-- Macros as `define` lines.
-- A definition that names no source is this project's own.
use Rattle.std.specs.Prelude.{◌≡◌, ℕ, ◌+◌, Bool, List, [], ◌∷◌, ◌++◌, ◌==◌, ◌-◌, ◌||◌, codes, length, nat_lt, slice_index, Option, None, Some, if◌then◌else◌}
use Rattle.std.specs.List.{concat, flat_map, prefix_len}
use Rattle.rdlpp_scan.specs.Bytes.{is_word}
use Rattle.rdlpp_define.specs.Macros.{Formal, Macro}

-- a byte of a text: an LF stands after a `\` (IEEE 1364-2001, `define`)
abbrev pub continued_byte : ℕ → List ℕ
continued_byte b = if b == 10 then codes "\\\n" else b ∷ []

-- a text whose LF bytes stand after a `\` each
abbrev pub continued : List ℕ → List ℕ
continued text = flat_map continued_byte text

-- whether a text ends in `\`
abbrev pub ends_in_slash : List ℕ → Bool
ends_in_slash text = slice_index text (length text - 1) == 92

-- whether a body needs a blank in front of it, since it would else go on the macro's name, or begin a list (IEEE 1364-2001, `define`)
abbrev pub goes_on_name : List ℕ → Bool
goes_on_name body = nat_lt 0 (prefix_len is_word body) || (slice_index body 0 == 40)

-- a text after a mark; nothing where it is empty
abbrev pub marked_text : List ℕ → List ℕ → List ℕ
marked_text mark [] = []
marked_text mark (b ∷ bs) = mark ++ continued (b ∷ bs)

-- a formal, with its default text where it has one (source: this project's profile)
abbrev pub formal_text : Formal → List ℕ
formal_text f = f.name ++ marked_text (codes "=") f.text

-- a formal at a place, after a comma where it isn't the first
abbrev pub formal_part : ℕ → Formal → List ℕ
formal_part place f = if place == 0 then formal_text f else codes "," ++ formal_text f

-- formals from a place on
abbrev pub formals_text : ℕ → List Formal → List ℕ
formals_text place [] = []
formals_text place (f ∷ fs) = formal_part place f ++ formals_text (place + 1) fs

-- a blank in front of a body that needs one
abbrev pub gap : List ℕ → List ℕ
gap body = if goes_on_name body then codes " " else []

-- what stands between a macro's name and its body: the list of its formals, where it has one, and else a blank where one is needed
abbrev pub list_text : Option (List Formal) → List ℕ → List ℕ
list_text None body = gap body
list_text (Some formals) body = codes "(" ++ (formals_text 0 formals ++ codes ")")

-- the line of a macro; a comment where its body ends in `\`, which no line can give (source: this project's profile)
abbrev pub definition_line : Macro → List ℕ
definition_line m =
    if ends_in_slash m.body then concat (codes "// not as a define: " ∷ m.name ∷ codes "\n" ∷ [])
    else concat (codes "`define " ∷ m.name ∷ []) ++ (list_text m.formals m.body ++ (continued m.body ++ codes "\n"))

-- the lines of macros, oldest first (source: this project's profile)
abbrev pub definition_lines : List Macro → List ℕ
definition_lines macros = flat_map definition_line macros

-- bytes begin with others
abbrev pub BeginsWith : List ℕ → List ℕ → Type 0
BeginsWith bytes front = (rest : List ℕ) × (bytes ≡ front ++ rest)

-- whether a byte stands after a formal's name in a table's bytes
abbrev pub ends_name : ℕ → Bool
ends_name b = (b == 61) || (b == 44)
