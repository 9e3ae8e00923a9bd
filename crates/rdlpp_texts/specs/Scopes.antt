-- The scopes of open texts: the open text that a scope is, and what follows from it.
-- A definition that names no source is this project's own.
use Rattle.std.specs.Prelude.{ℕ, suc, ◌<◌, ◌≤◌, ◌==◌, min, List, [], ◌∷◌, length, Option, None, Some, if◌then◌else◌}
use Rattle.rdlpp_define.specs.Macros.{Macro, formals_of}
use Rattle.rdlpp_define.specs.Table.{macro_at}
use Rattle.rdlpp_meaning.specs.Opens.{OpenKind, OpenBody, OpenActual, OpenDefault, Open, open_scope, scope_open}
use Rattle.rdlpp_texts.specs.declared.place.TextPlace.{TextPlace}
use Rattle.rdlpp_texts.specs.declared.place.TextSource.{TextSource}
use Rattle.rdlpp_texts.specs.declared.place.TextSource.TheVariants.{Arguments, Body, Default}

-- where the text of an open text lies, if it is a body or a default
abbrev pub kind_source : OpenKind → TextSource
kind_source (OpenBody id parts) = Body id
kind_source OpenActual = Arguments
kind_source (OpenDefault id place) = Default id place

-- where the text of a scope lies
abbrev pub found_source : Option Open → TextSource
found_source None = Arguments
found_source (Some x) = kind_source x.kind

-- where an open text lies: an actual in the text of its parent
abbrev pub own_source : OpenKind → ℕ → List Open → TextSource
own_source OpenActual parent below = found_source (scope_open below parent)
own_source (OpenBody id parts) parent below = Body id
own_source (OpenDefault id place) parent below = Default id place

-- where the innermost open text lies
unfoldable pub front_source : List Open → TextSource
front_source [] = Arguments
front_source (x ∷ below) = own_source x.kind x.parent below

-- where what is left of the innermost open text lies; none where none is open
unfoldable pub innermost_place : List Open → Option TextPlace
innermost_place [] = None
innermost_place (x ∷ below) = Some (record { source = own_source x.kind x.parent below; from = min x.part.from x.part.end; end = x.part.end })

-- the scope of the innermost open text
unfoldable pub front_scope : List Open → ℕ
front_scope [] = 0
front_scope (x ∷ below) = open_scope x below

-- the macros in whose text a scope is, by their places in the table: by what it is and those of its parent
abbrev pub own_ids : OpenKind → List ℕ → List ℕ
own_ids (OpenBody id parts) ids = id ∷ ids
own_ids OpenActual ids = []
own_ids (OpenDefault id place) ids = ids

-- the macros in whose text a scope is, by their places in the table
unfoldable pub hidden_ids : List Open → ℕ → List ℕ
hidden_ids [] k = []
hidden_ids (x ∷ below) k =
    if k == suc (length below) then own_ids x.kind (hidden_ids below x.parent) else hidden_ids below k

-- a body has a range for each formal of its macro, which is in the table; so is the macro of a default, with its formal
abbrev pub IsBound : List Macro → OpenKind → Type 0
IsBound macros (OpenBody id parts) = (id < length macros) × (length (formals_of (macro_at macros id)) ≤ length parts)
IsBound macros OpenActual = Unit
IsBound macros (OpenDefault id place) = (id < length macros) × (place < length (formals_of (macro_at macros id)))

-- so it is for each open text, whose parent is a scope further out
abbrev pub AreBound : List Macro → List Open → Type 0
AreBound macros [] = Unit
AreBound macros (x ∷ below) = (x.parent ≤ length below) × (IsBound macros x.kind × AreBound macros below)

-- each parent is a scope further out
abbrev pub AreFurtherOut : List Open → Type 0
AreFurtherOut [] = Unit
AreFurtherOut (x ∷ below) = (x.parent ≤ length below) × AreFurtherOut below
