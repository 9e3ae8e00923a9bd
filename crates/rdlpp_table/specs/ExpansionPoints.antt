-- Where the body of a macro isn't copied as it stands.
-- A definition that names no source is this project's own.
use Rattle.std.specs.Prelude.{ℕ, ◌+◌, Bool, true, false, List, [], ◌∷◌, take, drop, slice_range, Option, Some, None}
use Rattle.rdlpp_scan.specs.declared.token.Kind.TheVariants.{Name, Back, BareBackquote}
use Rattle.rdlpp_scan.specs.declared.token.Mode.TheVariants.{Plain}
use Rattle.rdlpp_scan.specs.declared.token.Token.{Token}
use Rattle.rdlpp_scan.specs.Tokens.{tokens_from}
use Rattle.rdlpp_table.specs.declared.point.ExpansionPoint.{ExpansionPoint}
use Rattle.rdlpp_table.specs.declared.point.ExpansionPoint.TheVariants as point
use Rattle.rdlpp_define.specs.Macros.{Formal, Macro, formals_of}
use Rattle.rdlpp_define.specs.Table.{formal_named}

-- what a name at a place is, of which the place among the formals is known: one that is copied, or a formal (this project's profile)
unfoldable pub point_name : ℕ → ℕ → Option ℕ → ExpansionPoint
point_name at len (Some place) = point.Formal at len place
point_name at len None = point.None

-- what a token at a place is, whose bytes are given: one that is copied, a formal, a usage or a lone backquote (this project's profile)
unfoldable pub point_at : List Formal → ℕ → Token → List ℕ → ExpansionPoint
point_at formals at t bytes = elim t.kind [
  | Name ↦ point_name at t.len (formal_named formals bytes)
  | Back ↦ point.Usage at t.len
  | BareBackquote ↦ point.Bare at
  | _ ↦ point.None
]

-- an expansion point, or where there is none, another one
unfoldable pub or_point : ExpansionPoint → ExpansionPoint → ExpansionPoint
or_point point.None other = other
or_point found other = found

-- the first expansion point of the tokens of a text that begins at a place
unfoldable pub next_expansion_point : List Formal → ℕ → List Token → List ℕ → ExpansionPoint
next_expansion_point formals at [] text = point.None
next_expansion_point formals at (t ∷ ts) text =
    or_point (point_at formals at t (take t.len text)) (next_expansion_point formals (at + t.len) ts (drop t.len text))

-- the first expansion point of a text that begins at a place, where it is read from plain text on (this project's profile)
unfoldable pub point_of : List Formal → ℕ → List ℕ → ExpansionPoint
point_of formals at text = next_expansion_point formals at (tokens_from Plain 0 text) text

-- whether there is no expansion point
unfoldable pub is_none : ExpansionPoint → Bool
is_none point.None = true
is_none _ = false

-- the first expansion point in a range of the body of a macro
unfoldable pub point_in : Macro → ℕ → ℕ → ExpansionPoint
point_in m from to = point_of (formals_of m) from (slice_range m.body from to)
