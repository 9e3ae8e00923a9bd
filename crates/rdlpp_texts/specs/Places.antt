-- Where texts lie, and their bytes.
-- A definition that names no source is this project's own.
use Rattle.std.specs.Prelude.{ℕ, ◌<◌, ◌≤◌, List, [], length, slice_range}
use Rattle.rdlpp_define.specs.Macros.{Formal, Macro, formals_of}
use Rattle.rdlpp_define.specs.Table.{macro_at, formal_at}
use Rattle.rdlpp_meaning.specs.Opens.{Texts}
use Rattle.rdlpp_texts.specs.declared.place.TextPlace.{TextPlace}
use Rattle.rdlpp_texts.specs.declared.place.TextSource.{TextSource}
use Rattle.rdlpp_texts.specs.declared.place.TextSource.TheVariants.{Arguments, Body, Default}

-- the texts of a table's macros and of what is kept of a call
abbrev pub texts_of : List Macro → List ℕ → Texts
texts_of macros arguments = record { macros = macros; arguments = arguments }

-- a text
unfoldable pub source_text : Texts → TextSource → List ℕ
source_text texts Arguments = texts.arguments
source_text texts (Body id) = (macro_at texts.macros id).body
source_text texts (Default id place) = (formal_at (formals_of (macro_at texts.macros id)) place).text

-- the formals of a text: those of its macro, and none where it is no body
unfoldable pub source_formals : Texts → TextSource → List Formal
source_formals texts Arguments = []
source_formals texts (Body id) = formals_of (macro_at texts.macros id)
source_formals texts (Default id place) = []

-- the bytes at a place of a text
unfoldable pub place_bytes : Texts → TextPlace → List ℕ
place_bytes texts place = slice_range (source_text texts place.source) place.from place.end

-- a text that there is
abbrev pub IsSource : Texts → TextSource → Type 0
IsSource texts Arguments = Unit
IsSource texts (Body id) = id < length texts.macros
IsSource texts (Default id place) = (id < length texts.macros) × (place < length (formals_of (macro_at texts.macros id)))

-- a place that lies in a text that there is
pub record IsPlaced (texts : Texts) (place : TextPlace) : Type 0 where
  pub source : IsSource texts place.source
  pub order : place.from ≤ place.end
  pub inside : place.end ≤ length (source_text texts place.source)
