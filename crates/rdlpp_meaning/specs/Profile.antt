-- The rules of this project's profile, from the limits and what a search finds.
-- A definition that names no source is this project's own.
use Rattle.std.specs.Prelude.{ℕ, Bool, List}
use Rattle.rdlpp_scan.specs.SourceTokens.{whole_tokens}
use Rattle.rdlpp_define.specs.declared.limits.Limits.{Limits}
use Rattle.rdlpp_define.specs.declared.fault.DefineKind.{DefineKind}
use Rattle.rdlpp_define.specs.declared.fault.DefineKind.TheVariants as kind
use Rattle.rdlpp_define.specs.Defined.{Defined as TableDefined, Accepted as TableAccepted, DefinedFault as TableRefused, define_of}
use Rattle.rdlpp_meaning.specs.declared.fault.FaultKind.{FaultKind}
use Rattle.rdlpp_meaning.specs.declared.fault.FaultKind.TheVariants as fault
use Rattle.rdlpp_meaning.specs.State.{Defined, Accepted, DefinitionFault, Lookup, Rules}

-- the fault of a `define` that is refused (source: this project's profile)
unfoldable pub define_fault : DefineKind → FaultKind
define_fault kind.EmbeddedPerl = fault.EmbeddedPerl
define_fault kind.OpenString = fault.OpenString
define_fault kind.OpenComment = fault.OpenComment
define_fault kind.NameExpected = fault.NameExpected
define_fault kind.ReservedName = fault.ReservedName
define_fault kind.NameTooLong = fault.NameTooLong
define_fault kind.BadFormals = fault.BadFormals
define_fault kind.FormalTwice = fault.FormalTwice
define_fault kind.TooManyFormals = fault.TooManyFormals
define_fault kind.DefinitionBytes = fault.DefinitionBytes
define_fault kind.TooManyDefinitions = fault.TooManyDefinitions

-- what a `define` gives, with its fault (source: IEEE 1364-2001, `define`)
unfoldable pub with_fault : TableDefined → Defined
with_fault (TableAccepted macros) = Accepted macros
with_fault (TableRefused kind word) = DefinitionFault (define_fault kind) word

-- the rules by limits, by what an `include` from a path finds, and by whether origin lines are asked for
-- (source: this project's profile)
unfoldable pub rules_of : Limits → (List ℕ → List ℕ → Lookup) → Bool → Rules
rules_of limits find origins = record {
  depth = limits.depth;
  argument_bytes = limits.argument_bytes;
  define = λ macros rest. with_fault (define_of limits.definition_bytes limits.definitions macros rest);
  tokens = λ text. whole_tokens limits.line_bytes limits.source_bytes text;
  find = find;
  origins = origins;
}
