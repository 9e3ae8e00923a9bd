-- The names that directives have, and their words.
-- A definition that names no source is this project's own.
use Rattle.std.specs.Prelude.{ℕ, Bool, List, [], ◌∷◌, map, bytes_eq, codes, Option, None, Some, if◌then◌else◌}
use Rattle.std.specs.List.{list_any}
use Rattle.rdlpp_scan.specs.declared.token.Directive.{Directive}
use Rattle.rdlpp_scan.specs.declared.token.Directive.TheVariants.{Define, Undef, Ifdef, Ifndef, Elsif, Else, Endif, Include, Line}

-- the name of a directive (IEEE 1364-2001, clause on compiler directives)
abbrev pub directive_name : Directive → List ℕ
directive_name Define = codes "define"
directive_name Undef = codes "undef"
directive_name Ifdef = codes "ifdef"
directive_name Ifndef = codes "ifndef"
directive_name Elsif = codes "elsif"
directive_name Else = codes "else"
directive_name Endif = codes "endif"
directive_name Include = codes "include"
directive_name Line = codes "line"

-- the word of a directive: its name after a backquote
abbrev pub directive_word : Directive → List ℕ
directive_word d = 96 ∷ directive_name d

-- all directives
abbrev pub directives : List Directive
directives = Define ∷ Undef ∷ Ifdef ∷ Ifndef ∷ Elsif ∷ Else ∷ Endif ∷ Include ∷ Line ∷ []

-- the first of some directives whose text these bytes are
abbrev pub directive_among : (Directive → List ℕ) → List Directive → List ℕ → Option Directive
directive_among text [] bytes = None
directive_among text (d ∷ ds) bytes = if bytes_eq bytes (text d) then Some d else directive_among text ds bytes

-- the directive that a name names
unfoldable pub directive_named : List ℕ → Option Directive
directive_named name = directive_among directive_name directives name

-- the names that directives have
unfoldable pub reserved_names : List (List ℕ)
reserved_names = map directive_name directives

-- whether a name is reserved
unfoldable pub is_reserved : List ℕ → Bool
is_reserved name = list_any (bytes_eq name) reserved_names
