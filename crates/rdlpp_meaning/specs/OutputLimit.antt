-- The output of a main path, and the limit on its bytes.
-- A definition that names no source is this project's own.
use Rattle.std.specs.Prelude.{ℕ, Bool, nat_le, List, length, take, Some, if◌then◌else◌}
use Rattle.rdlpp_define.specs.declared.limits.Limits.{Limits}
use Rattle.rdlpp_define.specs.Macros.{Macro}
use Rattle.rdlpp_meaning.specs.declared.fault.FaultKind.TheVariants.{OutputBytes}
use Rattle.rdlpp_meaning.specs.Outcome.{Report, Outcome}
use Rattle.rdlpp_meaning.specs.State.{Lookup, Rules}
use Rattle.rdlpp_meaning.specs.Output.{opening_fault, output}
use Rattle.rdlpp_meaning.specs.Profile.{rules_of}

-- what searches for sources come to: for each main path, and for the path of an including source and a name
-- (source: this project's profile)
pub record Searches : Type 0 where
  pub main : List ℕ → Lookup
  pub included : List ℕ → List ℕ → Lookup

-- an outcome of at most so many bytes: its first ones and then a fault, where it has more (source: this project's profile)
unfoldable pub limited : Report → ℕ → Outcome → Outcome
limited over quota o =
    if nat_le (length o.bytes) quota then o else record { bytes = take quota o.bytes; fault = Some over }

-- the rules of a run, by its limits and by what its searches come to (source: this project's profile)
unfoldable pub search_rules : Limits → Searches → Bool → Rules
search_rules limits searches origins = rules_of limits searches.included origins

-- the output of a main path from macros, without the limit on its bytes (source: this project's profile)
unfoldable pub unlimited_output : Limits → Searches → Bool → List Macro → List ℕ → Outcome
unlimited_output limits searches origins macros path =
    output (search_rules limits searches origins) macros limits.includes limits.conditions path (searches.main path)

-- the output of a main path from macros, with and without origin lines (source: this project's profile)
unfoldable pub limited_output : Limits → Searches → Bool → List Macro → List ℕ → Outcome
limited_output limits searches origins macros path =
    limited (opening_fault OutputBytes path) limits.output_bytes (unlimited_output limits searches origins macros path)
