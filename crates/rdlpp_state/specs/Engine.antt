-- What a contract sees of an engine.
-- A definition that names no source is this project's own.
use Rattle.std.specs.Prelude.{◌≡◌, ℕ, ◌+◌, ◌^◌, ◌≤◌, ◌<◌, Bool, true, false, List, [], ◌∷◌, Option, length, ⊤}
use Rattle.rdlpp_define.specs.Limits.{AreInRange}
use Rattle.rdlpp_define.specs.Macros.{Macro}
use Rattle.rdlpp_define.specs.Table.{table_size, TableView}
use Rattle.rdlpp_define.specs.declared.limits.Limits.{Limits}
use Rattle.rdlpp_meaning.specs.Outcome.{Report}
use Rattle.rdlpp_read.specs.Conditions.{ConditionsView}
use Rattle.rdlpp_read.specs.Files.{FilesView}
use Rattle.rdlpp_read.specs.declared.files.File.{File}
use Rattle.rdlpp_texts.specs.Places.{texts_of}
use Rattle.rdlpp_texts.specs.Steps.{AreSound}
use Rattle.rdlpp_usages.specs.Usages.{ExpansionView}
use Rattle.rdlpp_state.specs.OpenConditionals.{AreConditions}
use Rattle.rdlpp_state.specs.Marks.{MarksView}
use Rattle.rdlpp_state.specs.Pending.{PendingView}
use Rattle.rdlpp_state.specs.declared.phase.Phase.{Phase}
use Rattle.rdlpp_state.specs.declared.phase.Phase.TheVariants.{Fresh, Open, OverLimit, Closed}

-- an engine: its limits, whether it writes origin lines, how far it is, how many bytes it may still lend, the fault that it keeps, the main
-- text's name, what it owes, where it stood when it lent, its table, the open conditionals, its sources, those that are open, and the open texts of a usage
pub record EngineView (S R : Type 0) : Type 0 where
  pub limits : Limits
  pub origins : Bool
  pub phase : Phase
  pub quota : ℕ
  pub kept : Option Report
  pub main : List ℕ
  pub pending : PendingView
  pub marks : MarksView
  pub table : TableView
  pub conditions : ConditionsView
  pub sources : S
  pub files : FilesView R
  pub expansion : ExpansionView

-- whether the main text is open
unfoldable pub is_open : Phase → Bool
is_open Fresh = false
is_open Open = true
is_open OverLimit = true
is_open Closed = false

-- each of the open sources was included on a line that can be counted
abbrev pub AreIncluded : {R : Type 0} → List (File R) → Type 0
AreIncluded [] = ⊤
AreIncluded (f ∷ outer) = (f.include_line < 2 ^ 63) × AreIncluded outer

-- what always holds of an engine: its limits are in their ranges, its table, its slots and its conditionals are those of its limits, the
-- lines of its includes can be counted, and a source is open exactly where the main text is
pub record IsSoundEngine {R : Type 0} (limits : Limits) (phase : Phase) (table : TableView) (files : FilesView R) (conditions : ConditionsView) : Type 0 where
  pub in_range : AreInRange limits
  pub definition_bytes : table.most_bytes ≡ limits.definition_bytes
  pub definitions : table.most_macros ≡ limits.definitions
  pub size : table_size table.macros ≤ table.most_bytes
  pub slots : files.slots ≡ limits.includes + 1
  pub line_bytes : files.line_bytes ≡ limits.line_bytes
  pub lines : AreIncluded files.include_stack
  pub conditions_of : AreConditions limits conditions files.include_stack
  pub open_ : is_open phase ≡ true → 0 < length files.include_stack
  pub closed : is_open phase ≡ false → files.include_stack ≡ []

-- what always holds of the open texts of an engine: there is room for those of its limits, they lie in the live bodies and in what is kept of the call, their line can be
-- counted, and none is open but where the main text is
pub record AreOpenTexts (limits : Limits) (phase : Phase) (macros : List Macro) (expansion : ExpansionView) : Type 0 where
  pub depth_is : expansion.depth ≡ limits.depth
  pub most_is : expansion.most ≡ limits.argument_bytes
  pub sound : AreSound (texts_of macros expansion.arguments) expansion.opens
  pub line : expansion.line < 2 ^ 63
  pub closed : is_open phase ≡ false → expansion.opens ≡ []

-- what always holds of an engine
pub record IsWholeEngine {R : Type 0} (limits : Limits) (phase : Phase) (table : TableView) (files : FilesView R) (conditions : ConditionsView) (expansion : ExpansionView) : Type 0 where
  pub sources : IsSoundEngine limits phase table files conditions
  pub texts : AreOpenTexts limits phase table.macros expansion
