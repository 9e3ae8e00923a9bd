-- The ranges of the limits, and their names.
-- A definition that names no source is this project's own.
use Rattle.std.specs.Prelude.{ℕ, List, codes, ◌≤◌, Bool, ◌&&◌, nat_le, Option, None, Some, if◌then◌else◌}
use Rattle.rdlpp_define.specs.declared.limits.Limits.{Limits}
use Rattle.rdlpp_define.specs.declared.limits.LimitFault.{LimitFault}
use Rattle.rdlpp_define.specs.declared.limits.LimitFault.TheVariants.{Depth, Includes, LineBytes, SourceBytes, ArgumentBytes, DefinitionBytes, Definitions, Conditions, OutputBytes}

-- from the least up to the greatest
abbrev pub IsWithin : ℕ → ℕ → ℕ → Type 0
IsWithin least greatest n = (least ≤ n) × (n ≤ greatest)

-- every limit in its range (this project's profile)
pub record AreInRange (limits : Limits) : Type 0 where
  pub depth : IsWithin 1 1024 limits.depth
  pub includes : IsWithin 0 64 limits.includes
  pub line_bytes : IsWithin 256 1048576 limits.line_bytes
  pub source_bytes : IsWithin 1 1073741824 limits.source_bytes
  pub argument_bytes : IsWithin 16 1048576 limits.argument_bytes
  pub definition_bytes : IsWithin 1024 16777216 limits.definition_bytes
  pub definitions : IsWithin 1 65536 limits.definitions
  pub conditions : IsWithin 1 4096 limits.conditions
  pub output_bytes : IsWithin 0 18446744073709551615 limits.output_bytes

-- the same as a test
unfoldable pub is_within : ℕ → ℕ → ℕ → Bool
is_within least greatest n = nat_le least n && nat_le n greatest

-- the first limit, in the order of the fields, that is out of its range (this project's profile)
unfoldable pub limit_fault : Limits → Option LimitFault
limit_fault limits =
    if is_within 1 1024 limits.depth then (
    if is_within 0 64 limits.includes then (
    if is_within 256 1048576 limits.line_bytes then (
    if is_within 1 1073741824 limits.source_bytes then (
    if is_within 16 1048576 limits.argument_bytes then (
    if is_within 1024 16777216 limits.definition_bytes then (
    if is_within 1 65536 limits.definitions then (
    if is_within 1 4096 limits.conditions then (
    if is_within 0 18446744073709551615 limits.output_bytes then None
    else Some OutputBytes)
    else Some Conditions)
    else Some Definitions)
    else Some DefinitionBytes)
    else Some ArgumentBytes)
    else Some SourceBytes)
    else Some LineBytes)
    else Some Includes)
    else Some Depth

-- the name of the limit that is out of its range (source: this project's profile)
abbrev pub limit_name : LimitFault → List ℕ
limit_name Depth = codes "depth"
limit_name Includes = codes "includes"
limit_name LineBytes = codes "line_bytes"
limit_name SourceBytes = codes "source_bytes"
limit_name ArgumentBytes = codes "argument_bytes"
limit_name DefinitionBytes = codes "definition_bytes"
limit_name Definitions = codes "definitions"
limit_name Conditions = codes "conditions"
limit_name OutputBytes = codes "output_bytes"
