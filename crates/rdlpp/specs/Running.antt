-- What preprocessing by an engine that stays comes to.
-- A definition that names no source is this project's own.
use Rattle.std.specs.Prelude.{◌≡◌, ℕ, List, Option, None, Some, Result, Ok, Err}
use Rattle.rdlpp_source.specs.declared.sources.Sources.{Ghosts}
use Rattle.rdlpp_source.specs.declared.sinks.Sink.{Ghosts as SinkGhosts}
use Rattle.rdlpp_define.specs.Limits.{limit_fault}
use Rattle.rdlpp_meaning.specs.Outcome.{Report, report_of}
use Rattle.rdlpp_state.specs.Engine.{EngineView}
use Rattle.rdlpp_state.specs.Opening.{fresh_engine}
use Rattle.rdlpp.specs.Definitions.{Given, Taken, GivenFault}
use Rattle.rdlpp.specs.Preprocess.{RunsFresh, engine_with, given_by}
use Rattle.rdlpp_define.specs.declared.options.Options.{Options}
use Rattle.rdlpp.specs.declared.fault.PrepFault.{PrepFault}
use Rattle.rdlpp.specs.declared.fault.PrepFault.TheVariants.{BadLimits, NoMemory, Run}

-- an engine is fresh, and does what options ask for (source: this project's profile)
abbrev pub IsFreshOf : {S R : Type 0} → Options → EngineView S R → Type 0
IsFreshOf options engine = engine ≡ fresh_engine options.limits engine.sources options.origins

-- the answer of making an engine: a fresh one over the sources where the limits are in their ranges; the fault of the limits exactly where one is out of its range; and want of memory (source: this project's profile)
abbrev pub MakesEngine : {S R : Type 0} → Options → S → Result (EngineView S R) PrepFault → Type 0
MakesEngine options sources (Ok engine) = (limit_fault options.limits ≡ None) × IsFreshOf options engine × (engine.sources ≡ sources)
MakesEngine options sources (Err (BadLimits fault)) = limit_fault options.limits ≡ Some fault
MakesEngine options sources (Err NoMemory) = limit_fault options.limits ≡ None
MakesEngine options sources (Err (Run f)) = ⊥

-- what comes of an engine that was made, and how it is left: the run of it with the definitions; or the fault of the first definition that is refused, with nothing opened or written (source: this project's profile)
abbrev pub FollowsFrom : {S R W : Type 0} → Ghosts S R → SinkGhosts W → Options → Given → EngineView S R → EngineView S R → List ℕ → W → W → ℕ → Option Report → Type 0
FollowsFrom g h options (Taken macros) old new path before after count fault =
    (run : RunsFresh g h (engine_with options.limits options.origins old.sources macros) path before after count fault) × (run.ended ≡ new)
FollowsFrom g h options (GivenFault f) old new path before after count fault = (fault ≡ Some f) × (count ≡ 0) × (after ≡ before)

-- the answer of a run from an engine that was made: what follows, as of preprocessing (source: this project's profile)
abbrev pub RunsFrom : {S R W : Type 0} → Ghosts S R → SinkGhosts W → Options → EngineView S R → EngineView S R → List ℕ → W → W → Result ℕ PrepFault → Type 0
RunsFrom g h options old new path before after (Ok count) = FollowsFrom g h options (given_by options) old new path before after count None
RunsFrom g h options old new path before after (Err (BadLimits fault)) = ⊥
RunsFrom g h options old new path before after (Err NoMemory) = ⊥
RunsFrom g h options old new path before after (Err (Run f)) = FollowsFrom g h options (given_by options) old new path before after f.written (Some (report_of f.fault))
