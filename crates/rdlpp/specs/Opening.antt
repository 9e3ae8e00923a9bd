-- What opening a main text comes to, whose output is then read.
-- A definition that names no source is this project's own.
use Rattle.std.specs.Prelude.{◌≡◌, ℕ, Bool, false, List, [], Option, None, Some, Result, Ok, Err, ⊤}
use Rattle.rdlpp_source.specs.declared.sources.Sources.{Ghosts}
use Rattle.rdlpp_define.specs.Macros.{Macro}
use Rattle.rdlpp_define.specs.Limits.{limit_fault}
use Rattle.rdlpp_define.specs.declared.limits.Limits.{Limits}
use Rattle.rdlpp_meaning.specs.Outcome.{Report, report_of, Outcome}
use Rattle.rdlpp_state.specs.Engine.{EngineView}
use Rattle.rdlpp_state.specs.Opening.{Starts, is_device_fault, is_memory_fault}
use Rattle.rdlpp_expand.specs.Reading.{ReadingView, reading_left, unstarted}
use Rattle.rdlpp.specs.Definitions.{Given, Taken, GivenFault}
use Rattle.rdlpp.specs.Preprocess.{engine_with, given_by}
use Rattle.rdlpp_define.specs.declared.options.Options.{Options}
use Rattle.rdlpp_expand.specs.declared.writing.RunFault.{RunFault}
use Rattle.rdlpp.specs.declared.fault.PrepFault.{PrepFault}
use Rattle.rdlpp.specs.declared.fault.PrepFault.TheVariants.{BadLimits, NoMemory, Run}

-- a reading of an engine that wasn't started yet and was started with a path
pub record OpensFresh {S R : Type 0} (g : Ghosts S R) (fresh : EngineView S R) (path : List ℕ) (reading : ReadingView S R) : Type 0 where
  pub opening : Option Report
  pub starts : Starts g fresh reading.engine path opening
  pub whole : reading.rest ≡ []

-- a reading of an engine with definitions; none where one is refused
abbrev pub OpensGiven : {S R : Type 0} → Ghosts S R → Limits → Given → Bool → S → List ℕ → ReadingView S R → Type 0
OpensGiven g limits (Taken macros) origins sources path reading = OpensFresh g (engine_with limits origins sources macros) path reading
OpensGiven g limits (GivenFault f) origins sources path reading = ⊥

-- the answer of an opening: the fault of the limits exactly where one is out of its range; want of memory; the first definition that is
-- refused; and else the reading of a fresh engine with the definitions that was started (source: this project's profile)
abbrev pub Opens : {S R : Type 0} → Ghosts S R → Options → S → List ℕ → Result (ReadingView S R) PrepFault → Type 0
Opens g options sources path (Ok reading) = (limit_fault options.limits ≡ None) × OpensGiven g options.limits (given_by options) options.origins sources path reading
Opens g options sources path (Err (BadLimits fault)) = limit_fault options.limits ≡ Some fault
Opens g options sources path (Err NoMemory) = limit_fault options.limits ≡ None
Opens g options sources path (Err (Run f)) = (limit_fault options.limits ≡ None) × (given_by options ≡ GivenFault (report_of f.fault)) × (f.written ≡ 0)

-- what remains of a reading is the output, unless a device failed or memory was refused where it was opened (source: this project's profile)
abbrev pub OpensOutput : {S R : Type 0} → Ghosts S R → Outcome → Result (ReadingView S R) PrepFault → Type 0
OpensOutput g output (Ok reading) = is_device_fault reading.engine.kept ≡ false → is_memory_fault reading.engine.kept ≡ false → reading_left g reading ≡ output
OpensOutput g output (Err fault) = ⊤

-- a reading of an engine that is fresh again and has some macros, and wasn't started: its output has no bytes, and is at its end (source: this project's profile)
pub record EndsUnopened {S R : Type 0} (options : Options) (sources : S) (reading : ReadingView S R) : Type 0 where
  pub macros : List Macro
  pub ends : reading ≡ unstarted (engine_with options.limits options.origins sources macros)

-- the answer of an opening in an engine that has the limits of the options: the reading of it, fresh again with the definitions, that was
-- started; or the first definition that is refused, where nothing was opened (source: this project's profile)
abbrev pub Reopens : {S R : Type 0} → Ghosts S R → Options → S → List ℕ → ReadingView S R → Result (Unit {0}) RunFault → Type 0
Reopens g options sources path reading (Ok done) = OpensGiven g options.limits (given_by options) options.origins sources path reading
Reopens g options sources path reading (Err f) =
    (given_by options ≡ GivenFault (report_of f.fault)) × (f.written ≡ 0) × EndsUnopened options sources reading

-- what remains of such a reading is the output, unless a device failed or memory was refused where it was opened (source: this project's profile)
abbrev pub ReopensOutput : {S R : Type 0} → Ghosts S R → Outcome → ReadingView S R → Result (Unit {0}) RunFault → Type 0
ReopensOutput g output reading (Ok done) = OpensOutput g output (Ok reading)
ReopensOutput g output reading (Err f) = ⊤
