-- Where macros were defined, as far as that is told.
-- A definition that names no source is this project's own.
use Rattle.std.specs.Prelude.{◌≡◌, ℕ, ◌-◌, ◌⊎◌, List, length, bytes_eq, Option, None, Some, if◌then◌else◌}
use Rattle.std.specs.Option.{option_map}
use Rattle.std.specs.String.{string_bytes}
use Rattle.indexmap.specs.IndexMap.{get_by_text}
use Rattle.rdlpp_define.specs.Macros.{Macro}
use Rattle.rdlpp_define.specs.Table.{macro_at}
use Rattle.rdlpp_state.specs.declared.positions.OpenSource.{OpenSource}
use Rattle.rdlpp_reports.specs.declared.places.DefinitionPlaces.{DefinitionPlaces}
use Rattle.rdlpp_reports.specs.declared.places.ShownPlace.{ShownPlace}

-- a place as faults tell it: the name that a source shows, and a line
pub record Shown : Type 0 where
  pub name : List ℕ
  pub line : ℕ

-- a place that is kept
abbrev pub shown_of : ShownPlace → Shown
shown_of place = record { name = string_bytes place.name; line = place.line }

-- a place that is lent
abbrev pub shown_by : OpenSource → Shown
shown_by source = record { name = source.name.now; line = source.line }

-- where the macro of a name was defined, if that is told
abbrev pub shown_at : DefinitionPlaces → List ℕ → Option Shown
shown_at places name = option_map shown_of (get_by_text places.places name)

-- the name of the newest of some macros
abbrev pub newest_name : List Macro → List ℕ
newest_name macros = (macro_at macros (length macros - 1)).name

-- what was told of each name is told, or nothing is
abbrev pub Forgets : DefinitionPlaces → DefinitionPlaces → Type 0
Forgets old new = (name : List ℕ) → (shown_at new name ≡ None) ⊎ (shown_at new name ≡ shown_at old name)

-- of a name its new place is told, of each other one what was told before, or nothing is (this project's profile)
abbrev pub NotesPlace : DefinitionPlaces → DefinitionPlaces → List ℕ → Shown → Type 0
NotesPlace old new named place = (name : List ℕ) → (shown_at new name ≡ None) ⊎ (shown_at new name ≡ (if bytes_eq named name then Some place else shown_at old name))
