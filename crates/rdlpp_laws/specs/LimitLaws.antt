-- The law of larger limits: where no fault of a limit ends an output, larger limits give the same one.
-- A definition that names no source is this project's own.
use Rattle.std.specs.Prelude.{◌≡◌, ℕ, ◌≤◌, Bool, true, false, List, Option, None, Some}
use Rattle.rdlpp_define.specs.declared.limits.Limits.{Limits}
use Rattle.rdlpp_define.specs.Macros.{Macro}
use Rattle.rdlpp_meaning.specs.declared.fault.FaultKind.{FaultKind}
use Rattle.rdlpp_meaning.specs.declared.fault.FaultKind.TheVariants.{LineTooLong, SourceTooLong, ArgumentBytes, DepthPassed, DefinitionBytes, TooManyDefinitions, TooManyConditionals, TooManyIncludes, OutputBytes}
use Rattle.rdlpp_meaning.specs.Outcome.{Report}
use Rattle.rdlpp_meaning.specs.OutputLimit.{Searches, limited_output}

-- whether a fault says that a limit is passed: of a line, a source, an actual's bytes, open bodies, definitions, open
-- conditionals, open sources or the output (source: this project's profile)
unfoldable pub is_limit : FaultKind → Bool
is_limit LineTooLong = true
is_limit SourceTooLong = true
is_limit ArgumentBytes = true
is_limit DepthPassed = true
is_limit DefinitionBytes = true
is_limit TooManyDefinitions = true
is_limit TooManyConditionals = true
is_limit TooManyIncludes = true
is_limit OutputBytes = true
is_limit kind = false

-- no limit is named where a text ends (source: this project's profile)
abbrev pub NamesNoLimit : Option Report → Type 0
NamesNoLimit None = Unit
NamesNoLimit (Some f) = is_limit f.kind ≡ false

-- limits that are as large or larger (source: this project's profile)
pub record IsLarger (small large : Limits) : Type 0 where
  pub depth : small.depth ≤ large.depth
  pub includes : small.includes ≤ large.includes
  pub line_bytes : small.line_bytes ≤ large.line_bytes
  pub source_bytes : small.source_bytes ≤ large.source_bytes
  pub argument_bytes : small.argument_bytes ≤ large.argument_bytes
  pub definition_bytes : small.definition_bytes ≤ large.definition_bytes
  pub definitions : small.definitions ≤ large.definitions
  pub conditions : small.conditions ≤ large.conditions
  pub output_bytes : small.output_bytes ≤ large.output_bytes

-- an output that no fault of a limit ends is the same with larger limits
abbrev pub LargerLimits : Type 0
LargerLimits = (small large : Limits) (searches : Searches) (origins : Bool) (macros : List Macro) (path : List ℕ)
    → IsLarger small large → NamesNoLimit (limited_output small searches origins macros path).fault
    → limited_output large searches origins macros path ≡ limited_output small searches origins macros path
