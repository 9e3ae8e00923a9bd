-- What preprocessing a main text writes and answers.
-- A definition that names no source is this project's own.
use Rattle.std.specs.Prelude.{◌≡◌, ℕ, ◌-◌, ◌^◌, Bool, false, ◌||◌, List, [], length, min, Option, None, Some, Result, Ok, Err}
use Rattle.std.specs.Io.KnownBytes.{Appends}
use Rattle.rdlpp_source.specs.declared.sources.Sources.{Ghosts}
use Rattle.rdlpp_source.specs.declared.sinks.Sink.{Ghosts as SinkGhosts}
use Rattle.rdlpp_define.specs.Macros.{Macro}
use Rattle.rdlpp_define.specs.Limits.{limit_fault}
use Rattle.rdlpp_define.specs.declared.limits.Limits.{Limits}
use Rattle.rdlpp_meaning.specs.Outcome.{Report, report_of, Outcome, fails}
use Rattle.rdlpp_meaning.specs.OutputLimit.{limited_output}
use Rattle.rdlpp_state.specs.Engine.{EngineView}
use Rattle.rdlpp_state.specs.Opening.{Starts, fresh_engine, searches_of, is_device_fault, is_memory_fault}
use Rattle.rdlpp_expand.specs.Run.{Runs, Begins}
use Rattle.rdlpp_state.specs.Steps.{is_write_failed}
use Rattle.rdlpp.specs.Definitions.{Given, Taken, GivenFault, given, with_macros}
use Rattle.rdlpp_define.specs.declared.options.Options.{Options}
use Rattle.rdlpp.specs.declared.fault.PrepFault.{PrepFault}
use Rattle.rdlpp.specs.declared.fault.PrepFault.TheVariants.{BadLimits, NoMemory, Run}

-- a fresh engine with macros
abbrev pub engine_with : {S R : Type 0} → Limits → Bool → S → List Macro → EngineView S R
engine_with limits origins sources macros = with_macros (fresh_engine limits sources origins) macros

-- an engine that wasn't started yet was started with a path and then run: so many bytes were written, and so it ended (source: this project's profile)
pub record RunsFresh {S R W : Type 0} (g : Ghosts S R) (h : SinkGhosts W) (fresh : EngineView S R) (path : List ℕ) (before after : W) (count : ℕ) (fault : Option Report) : Type 0 where
  pub started : EngineView S R
  pub ended : EngineView S R
  pub opening : Option Report
  pub starts : Starts g fresh started path opening
  pub runs : Runs g h started ended before after count fault

-- what the definitions of options come to (source: this project's profile)
abbrev pub given_by : Options → Given
given_by options = given options.limits.definition_bytes options.limits.definitions 0 [] options.defines.items

-- what comes of options whose limits are in range and of an engine that was made: the fault of the first definition that is refused, with nothing opened or written, and else what the run of a fresh engine with the definitions comes to (source: this project's profile)
abbrev pub Follows : {S R W : Type 0} → Ghosts S R → SinkGhosts W → Limits → Given → Bool → S → List ℕ → W → W → ℕ → Option Report → Type 0
Follows g h limits (Taken macros) origins sources path before after count fault = RunsFresh g h (engine_with limits origins sources macros) path before after count fault
Follows g h limits (GivenFault f) origins sources path before after count fault = (fault ≡ Some f) × (count ≡ 0) × (after ≡ before)

-- the answer of preprocessing: the fault of the limits exactly where one is out of its range, with nothing written; want of memory, with nothing written; and else what follows (source: this project's profile)
abbrev pub Preprocesses : {S R W : Type 0} → Ghosts S R → SinkGhosts W → Options → S → List ℕ → W → W → Result ℕ PrepFault → Type 0
Preprocesses g h options sources path before after (Ok count) =
    (limit_fault options.limits ≡ None)
    × Follows g h options.limits (given_by options) options.origins sources path before after count None
Preprocesses g h options sources path before after (Err (BadLimits fault)) = (limit_fault options.limits ≡ Some fault) × (after ≡ before)
Preprocesses g h options sources path before after (Err NoMemory) = (limit_fault options.limits ≡ None) × (after ≡ before)
Preprocesses g h options sources path before after (Err (Run f)) =
    (limit_fault options.limits ≡ None)
    × Follows g h options.limits (given_by options) options.origins sources path before after f.written (Some (report_of f.fault))

-- the output of a main text, by what the definitions come to
abbrev pub output_given : {S R : Type 0} → Ghosts S R → Limits → Bool → S → List ℕ → Given → Outcome
output_given g limits origins sources path (Taken macros) = limited_output limits (searches_of (g.catalog sources)) origins macros path
output_given g limits origins sources path (GivenFault f) = fails f

-- the output of a main text, where no opening fails (source: this project's profile)
abbrev pub output_of : {S R : Type 0} → Ghosts S R → Options → S → List ℕ → Outcome
output_of g options sources path = output_given g options.limits options.origins sources path (given_by options)

-- whether a fault is that of a device or of memory: F32, F33 or F34 (source: this project's profile)
abbrev pub is_failure : Option Report → Bool
is_failure None = false
is_failure (Some f) = is_device_fault (Some f) || (is_memory_fault (Some f) || is_write_failed f.kind)

-- the output was written whole and so it ended, unless a device failed or memory was refused, and else its first bytes were; and the count of what was written (source: this project's profile)
pub record WritesOutput (taken_before taken_after : Option (List ℕ)) (output : Outcome) (count : ℕ) (fault : Option Report) : Type 0 where
  pub bytes : List ℕ
  pub taken : Appends taken_before taken_after bytes
  pub counted : count ≡ min (length bytes) (2 ^ 64 - 1)
  pub begins : Begins bytes output
  pub exact : is_failure fault ≡ false → output ≡ record { bytes = bytes; fault = fault }

-- the answer of preprocessing, as the output and its end; nothing is said where no engine was made (source: this project's profile)
abbrev pub Tells : Option (List ℕ) → Option (List ℕ) → Outcome → Result ℕ PrepFault → Type 0
Tells before after output (Ok count) = WritesOutput before after output count None
Tells before after output (Err (BadLimits fault)) = after ≡ before
Tells before after output (Err NoMemory) = after ≡ before
Tells before after output (Err (Run f)) = WritesOutput before after output f.written (Some (report_of f.fault))
