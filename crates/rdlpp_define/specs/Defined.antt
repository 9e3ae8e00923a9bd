-- What a definition gives: the table with the new macro, or its first fault.
-- A definition that names no source is this project's own.
use Rattle.rdlpp_define.specs.Define.{Draft, DraftFault, Drawn, macro_of, macro_set}
use Rattle.std.specs.Prelude.{ℕ, ◌+◌, nat_lt, List, [], ◌∷◌, ◌++◌, length, Result, Ok, Err, if◌then◌else◌}
use Rattle.rdlpp_define.specs.Macros.{Macro, macro_size}
use Rattle.rdlpp_define.specs.Table.{table_size, without}
use Rattle.rdlpp_define.specs.declared.fault.DefineKind.{DefineKind}
use Rattle.rdlpp_define.specs.declared.fault.DefineFault.{DefineFault}
use Rattle.rdlpp_define.specs.declared.fault.DefineKind.TheVariants as kind

-- the macros with the new one, or why there is none, and for a reserved name that name
pub data Defined : Type 0 where
  Accepted : List Macro → Defined
  DefinedFault : DefineKind → List ℕ → Defined

-- a macro as the newest of a table, in the place of one of its name (this project's profile)
unfoldable pub stored : ℕ → ℕ → List Macro → Macro → Defined
stored most_bytes most_macros macros m =
    let others = without m.name macros in
    if nat_lt most_bytes (table_size others + macro_size m) then DefinedFault kind.DefinitionBytes []
    else (if nat_lt most_macros (length others + 1) then DefinedFault kind.TooManyDefinitions []
    else Accepted (others ++ m ∷ []))

-- a draft in a table
unfoldable pub stored_draft : ℕ → ℕ → List Macro → Draft → Defined
stored_draft most_bytes most_macros macros (Drawn m) = stored most_bytes most_macros macros m
stored_draft most_bytes most_macros macros (DraftFault k word) = DefinedFault k word

-- what a `define` gives, from what follows that word, in a table that takes so many bytes and so many macros (this project's profile)
unfoldable pub define_of : ℕ → ℕ → List Macro → List ℕ → Defined
define_of most_bytes most_macros macros rest = stored_draft most_bytes most_macros macros (macro_of rest)

-- what the setting of a name to a text gives (this project's profile)
unfoldable pub set_of : ℕ → ℕ → List Macro → List ℕ → List ℕ → Defined
set_of most_bytes most_macros macros name text = stored_draft most_bytes most_macros macros (macro_set name text)

-- what a call tells of the definitions after it: the macros, or why it was refused
unfoldable pub observed : Result (Unit {0}) DefineFault → List Macro → Defined
observed (Ok done) macros = Accepted macros
observed (Err fault) macros = DefinedFault fault.kind fault.word.bytes
