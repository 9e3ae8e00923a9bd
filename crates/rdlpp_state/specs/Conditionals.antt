-- What the directives of conditionals do to an engine.
-- A definition that names no source is this project's own.
use Rattle.std.specs.Prelude.{◌≡◌, ℕ, Bool, true, false, not, List, [], length, Option, None, Some, if◌then◌else◌}
use Rattle.rdlpp_scan.specs.Reserved.{directive_word}
use Rattle.rdlpp_scan.specs.declared.token.Directive.{Directive}
use Rattle.rdlpp_scan.specs.declared.token.Directive.TheVariants.{Else, Elsif, Ifdef, Ifndef}
use Rattle.rdlpp_scan.specs.declared.token.Kind.TheVariants.{BareBackquote}
use Rattle.rdlpp_scan.specs.declared.token.Mode.TheVariants.{Plain}
use Rattle.rdlpp_scan.specs.Tokens.{token_of}
use Rattle.rdlpp_meaning.specs.declared.fault.FaultKind.TheVariants.{OpenConditional}
use Rattle.rdlpp_meaning.specs.Meaning.{Holds, TestFault, Test, opening_within}
use Rattle.rdlpp_meaning.specs.Outcome.{Report}
use Rattle.rdlpp_meaning.specs.State.{State, fault_at}
use Rattle.rdlpp_read.specs.Conditions.{ConditionsView, conditions_left}
use Rattle.rdlpp_read.specs.ConditionMoves.{opened_with}
use Rattle.rdlpp_read.specs.Files.{consumed_file, inner_buffer, with_inner}
use Rattle.rdlpp_front.specs.SkippedText.{counts}
use Rattle.rdlpp_front.specs.SourceItems.{IsDirective, IsNamed, IsUsage}
use Rattle.rdlpp_front.specs.declared.arguments.Argument.{Argument}
use Rattle.rdlpp_state.specs.Engine.{EngineView}
use Rattle.rdlpp_state.specs.OpenConditionals.{inner_shown}
use Rattle.rdlpp_state.specs.Pending.{line_ends_pending}
use Rattle.rdlpp_state.specs.Remaining.{state_of}
use Rattle.rdlpp_state.specs.declared.place.Halt.{Halt}
use Rattle.rdlpp_state.specs.declared.place.Halt.TheVariants.{Fault}

-- the directive that opens a conditional, by whether it wants its name defined (IEEE 1364-2001, `ifdef`, `ifndef`)
abbrev pub opening_word : Bool → Directive
opening_word true = Ifdef
opening_word false = Ifndef

-- whether its test holds, by whether its name is defined (IEEE 1364-2001, `ifdef`, `ifndef`)
abbrev pub test_of : Bool → Bool → Bool
test_of defined found = if defined then found else not found

-- a word in skipped text that doesn't count there: a lone backquote, a usage, or the word of a directive that doesn't
-- (this project's profile)
pub data IsSkippedWord (held : List ℕ) (len : ℕ) : Type 0 where
  LoneBackquote : (token_of Plain held).kind ≡ BareBackquote → len ≡ 1 → IsSkippedWord held len
  AnyUsage : IsUsage held len → IsSkippedWord held len
  PassedWord : (d : Directive) → counts d ≡ false → IsDirective d held → len ≡ length (directive_word d) → IsSkippedWord held len

-- a branch of a conditional, with the name that it is given if it wants one (IEEE 1364-2001, `elsif`, `else`)
abbrev pub IsGivenBranch : Directive → List ℕ → Option Argument → Type 0
IsGivenBranch Elsif held a = IsNamed Elsif held a
IsGivenBranch Else held a = (a ≡ None) × IsDirective Else held
IsGivenBranch d held a = ⊥

-- an engine of whose innermost source so many bytes are passed, whose LF bytes are pending (this project's profile)
unfoldable pub passes_over : {S R : Type 0} → ℕ → ℕ → EngineView S R → EngineView S R
passes_over len lines e = record e { pending = line_ends_pending lines; files = record e.files { include_stack = with_inner (consumed_file len lines) e.files.include_stack } }

-- the fault of a conditional that is open where its source ends, at the line that it showed (this project's profile)
abbrev pub unclosed_fault : ℕ → State → Report
unclosed_fault line s = record { kind = OpenConditional; name = s.name; line = line; word = [] }

-- an engine of whose innermost source so many bytes are used that have no LF, with other conditionals open
unfoldable pub goes_past : {S R : Type 0} → ConditionsView → ℕ → EngineView S R → EngineView S R
goes_past v len e = record e { conditions = v; files = record e.files { include_stack = with_inner (consumed_file len 0) e.files.include_stack } }

-- what an engine does by a test: its fault is kept, or so many bytes are used, with other conditionals open (this project's profile)
abbrev pub DoesByTest : {S R : Type 0} → Test → (Bool → ConditionsView) → ℕ → EngineView S R → EngineView S R → Option Halt → Type 0
DoesByTest (TestFault kind word) next len old new result = (result ≡ Some Fault) × (new ≡ record old { kept = Some (fault_at kind (inner_buffer old.files.include_stack).line word (state_of old)) })
DoesByTest (Holds live) next len old new result = (result ≡ None) × (new ≡ goes_past (next live) len old)

-- what a conditional whose test was answered comes to: it is opened, at the line that its directive shows, or too many are open
-- (this project's profile)
abbrev pub OpensOne : {S R : Type 0} → Bool → ℕ → EngineView S R → EngineView S R → Option Halt → Type 0
OpensOne holds len old new result =
    DoesByTest (opening_within (conditions_left old.conditions) (Holds holds)) (λ live. opened_with (inner_shown old.files.include_stack) live old.conditions) len old new result
