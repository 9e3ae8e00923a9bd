-- The directives of others, which are left out here.
-- A definition that names no source is this project's own.
use Rattle.std.specs.Prelude.{ℕ, Bool, List, [], ◌∷◌, codes, bytes_eq}
use Rattle.std.specs.List.{list_any}

-- their names (source: IEEE 1364-2001, compiler directives; this project's profile for `if`)
abbrev pub left_out_names : List (List ℕ)
left_out_names =
    codes "if" ∷ codes "timescale" ∷ codes "resetall" ∷ codes "default_nettype" ∷ codes "celldefine" ∷ codes "endcelldefine"
    ∷ codes "unconnected_drive" ∷ codes "nounconnected_drive" ∷ []

-- whether a name is one of these
abbrev pub is_left_out : List ℕ → Bool
is_left_out name = list_any (bytes_eq name) left_out_names
