-- How an engine is made, and how its main text is opened.
-- A definition that names no source is this project's own.
use Rattle.std.specs.Prelude.{◌≡◌, ℕ, Bool, false, true, ◌+◌, List, [], ◌∷◌, IfSome, Option, None, Some, Result, Ok, Err}
use Rattle.rdlpp_state.specs.Calls.{SourcesCalled}
use Rattle.rdlpp_source.specs.Sources.{Catalog, Present}
use Rattle.rdlpp_source.specs.declared.sources.Found.{Found}
use Rattle.rdlpp_source.specs.declared.sources.Sources.{Ghosts}
use Rattle.rdlpp_define.specs.Limits.{limit_fault}
use Rattle.rdlpp_define.specs.declared.limits.Limits.{Limits}
use Rattle.rdlpp_meaning.specs.declared.fault.Fault.{Fault}
use Rattle.rdlpp_meaning.specs.declared.fault.FaultKind.{FaultKind}
use Rattle.rdlpp_meaning.specs.declared.fault.FaultKind.TheVariants.{PathTooLong, ReadFailed, SourceMemory, SourceNotFound}
use Rattle.rdlpp_meaning.specs.Outcome.{Report, report_of, Outcome}
use Rattle.rdlpp_meaning.specs.Output.{name_cut, opening_fault}
use Rattle.rdlpp_state.specs.Engine.{EngineView}
use Rattle.rdlpp_state.specs.Marks.{no_marks}
use Rattle.rdlpp_read.specs.Files.{entered_file}
use Rattle.rdlpp_state.specs.Pending.{nothing_pending, origin_pending}
use Rattle.rdlpp_state.specs.Held.{IsBounded}
use Rattle.rdlpp_state.specs.Stored.{HoldsStores, LetsGo}
use Rattle.rdlpp_state.specs.Remaining.{find_of, left_of, lookup_of}
use Rattle.rdlpp_meaning.specs.OutputLimit.{Searches, limited_output}
use Rattle.rdlpp_state.specs.Steps.{IsStarted, is_memory_kind, is_read_failed}
use Rattle.rdlpp_state.specs.declared.new_fault.NewFault.{NewFault}
use Rattle.rdlpp_state.specs.declared.new_fault.NewFault.TheVariants.{BadLimits, NoMemory}
use Rattle.rdlpp_state.specs.declared.phase.Phase.TheVariants.{Fresh, Open, Closed}

-- an engine that wasn't started: an empty table, no open conditional, no open source, and no open text of a usage (this project's profile)
unfoldable pub fresh_engine : {S R : Type 0} → Limits → S → Bool → EngineView S R
fresh_engine limits sources origins = record {
  limits = limits;
  origins = origins;
  phase = Fresh;
  quota = limits.output_bytes;
  kept = None;
  main = [];
  pending = nothing_pending;
  marks = no_marks;
  table = record { macros = []; most_bytes = limits.definition_bytes; most_macros = limits.definitions };
  conditions = record { open_now = []; skipped = None; limit = limits.conditions };
  sources = sources;
  files = record { include_stack = []; slots = limits.includes + 1; line_bytes = limits.line_bytes };
  expansion = record { opens = []; arguments = []; line = 0; depth = limits.depth; most = limits.argument_bytes };
}

-- a new engine is fresh, and a limit out of its range is told exactly where there is one (this project's profile)
abbrev pub Makes : {S R : Type 0} → Limits → S → Bool → Result (EngineView S R) NewFault → Type 0
Makes limits sources origins (Ok engine) = (limit_fault limits ≡ None) × (engine ≡ fresh_engine limits sources origins)
Makes limits sources origins (Err (BadLimits fault)) = limit_fault limits ≡ Some fault
Makes limits sources origins (Err NoMemory) = limit_fault limits ≡ None

-- an engine whose main text was found for a path, before which its origin line is pending, where asked for
unfoldable pub opened_engine : {S R : Type 0} → EngineView S R → List ℕ → Found R → EngineView S R
opened_engine e path found = record e {
  phase = Open;
  quota = e.limits.output_bytes;
  kept = None;
  main = name_cut path;
  pending = record { line_ends = 0; origin = origin_pending e.origins 1 };
  files = record e.files { include_stack = entered_file found e.limits.source_bytes e.files.line_bytes 0 0 ∷ e.files.include_stack };
}

-- an engine whose main text couldn't be opened
unfoldable pub unopened_engine : {S R : Type 0} → EngineView S R → Report → EngineView S R
unopened_engine e fault = record e { phase = Closed; kept = Some fault }

-- what the searches of sources come to that tell their texts
unfoldable pub searches_of : Catalog → Searches
searches_of catalog = record { main = λ path. lookup_of (catalog.top path); included = find_of catalog }

-- the output of a main path from an engine's macros over its sources, where no opening fails (this project's profile)
unfoldable pub looked_up_output : {S R : Type 0} → Ghosts S R → EngineView S R → List ℕ → Outcome
looked_up_output g e path = limited_output e.limits (searches_of (g.catalog e.sources)) e.origins e.table.macros path

-- the fault that a start answers
unfoldable pub start_fault : Result (Unit {0}) Fault → Option Report
start_fault (Ok done) = None
start_fault (Err fault) = Some (report_of fault)

-- whether a start was refused at a device
unfoldable pub is_device_fault : Option Report → Bool
is_device_fault None = false
is_device_fault (Some f) = is_read_failed f.kind

-- whether a start was refused memory
unfoldable pub is_memory_fault : Option Report → Bool
is_memory_fault None = false
is_memory_fault (Some f) = is_memory_kind f.kind

-- whether a fault is one of an opening: its source wasn't found, its path was too long, a device failed, or memory was refused (this
-- project's profile)
unfoldable pub is_opening_kind : FaultKind → Bool
is_opening_kind SourceNotFound = true
is_opening_kind PathTooLong = true
is_opening_kind ReadFailed = true
is_opening_kind SourceMemory = true
is_opening_kind kind = false

-- a start that found its main text: the engine is as it was, with that text open under the path of the sources, which is the
-- shown name (this project's profile)
pub record Opens {S R : Type 0} (g : Ghosts S R) (old new : EngineView S R) (path : List ℕ) : Type 0 where
  pub found : Found R
  pub becomes : new ≡ opened_engine (record old { sources = new.sources }) path found
  pub text : g.has_known_texts old.sources → (g.catalog old.sources).top path ≡ Present found.path.bytes (g.unread found.reader)

-- what a start does: it keeps what it answers; the counts of failures; the text that was opened, or the fault of the opening
-- for that path, of one of the four kinds that an opening has, where nothing else changed; the output that remains is that of the main path (this project's profile)
pub record Starts {S R : Type 0} (g : Ghosts S R) (old new : EngineView S R) (path : List ℕ) (answer : Option Report) : Type 0 where
  pub limits : new.limits ≡ old.limits
  pub origins : new.origins ≡ old.origins
  pub table : new.table ≡ old.table
  pub started : IsStarted new
  pub keeps : new.kept ≡ answer
  pub opens : answer ≡ None → Opens g old new path
  pub kinds : IfSome answer (λ f. is_opening_kind f.kind ≡ true)
  pub refused : (f : Report) → answer ≡ Some f → (f ≡ opening_fault f.kind path) × (new ≡ unopened_engine (record old { sources = new.sources }) f)
  pub call : SourcesCalled g (is_device_fault answer) (is_memory_fault answer) old.sources new.sources
  pub remains_output : is_device_fault answer ≡ false → is_memory_fault answer ≡ false → g.has_known_texts old.sources
      → left_of g new ≡ looked_up_output g old path
  pub bounded : IsBounded new
  pub lets_go : old.expansion.arguments ≡ [] → LetsGo new
  pub stores : old.expansion.arguments ≡ [] → g.has_known_texts old.sources → HoldsStores g new
