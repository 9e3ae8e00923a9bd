-- What definitions from outside come to: the macros, or the first refusal.
-- A definition that names no source is this project's own.
use Rattle.std.specs.Prelude.{◌≡◌, ℕ, ◌+◌, List, [], ◌∷◌, String, codes, Result, Ok, Err}
use Rattle.std.specs.String.{string_bytes}
use Rattle.std.specs.declared.alloc.Global.{Global}
use Rattle.rdlpp_define.specs.Macros.{Macro}
use Rattle.rdlpp_define.specs.Defined.{Accepted, DefinedFault, set_of}
use Rattle.rdlpp_define.specs.declared.fault.DefineKind.{DefineKind}
use Rattle.rdlpp_meaning.specs.Outcome.{Report, report_of}
use Rattle.rdlpp_state.specs.Engine.{EngineView}
use Rattle.rdlpp_meaning.specs.Profile.{define_fault}
use Rattle.rdlpp_expand.specs.declared.writing.RunFault.{RunFault}

-- a definition from outside: its name and its text
abbrev pub Pair : Type 0
Pair = String Global × String Global

-- what definitions come to: macros, or the fault of the first one that is refused
pub data Given : Type 0 where
  Taken : List Macro → Given
  GivenFault : Report → Given

-- the fault of a refused definition: its place from 1 as the line, under the name `-D` (source: this project's profile)
unfoldable pub refused_definition : DefineKind → List ℕ → ℕ → Report
refused_definition kind word place = record { kind = define_fault kind; name = codes "-D"; line = place; word = word }

-- the macros of definitions, each a name and a text, in order after others, where so many definitions stand before them;
-- they may have so many bytes and be so many (source: this project's profile)
unfoldable pub given : ℕ → ℕ → ℕ → List Macro → List Pair → Given
given most_bytes most_macros before macros [] = Taken macros
given most_bytes most_macros before macros (d ∷ ds) = elim (set_of most_bytes most_macros macros (string_bytes d.0) (string_bytes d.1)) [
  | Accepted more ↦ given most_bytes most_macros (before + 1) more ds
  | DefinedFault kind word ↦ GivenFault (refused_definition kind word (before + 1))
]

-- what the definitions come to in the table of an engine
abbrev pub given_in : {S R : Type 0} → EngineView S R → List Pair → Given
given_in e defines = given e.table.most_bytes e.table.most_macros 0 e.table.macros defines

-- an engine with other macros
abbrev pub with_macros : {S R : Type 0} → EngineView S R → List Macro → EngineView S R
with_macros e macros = record e { table = record e.table { macros = macros } }

-- the definitions were taken, or the first refused one is told, with nothing written
abbrev pub AreGiven : {S R : Type 0} → EngineView S R → EngineView S R → List Pair → Result (Unit {0}) RunFault → Type 0
AreGiven old new defines (Ok done) = (given_in old defines ≡ Taken new.table.macros) × (new ≡ with_macros old new.table.macros)
AreGiven old new defines (Err f) = (given_in old defines ≡ GivenFault (report_of f.fault)) × (f.written ≡ 0)
