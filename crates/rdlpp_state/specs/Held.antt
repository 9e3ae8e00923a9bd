-- The held stores, and their bound.
-- A definition that names no source is this project's own.
use Rattle.std.specs.Prelude.{◌≡◌, ℕ, ◌+◌, ◌*◌, ◌≤◌, All, List, length, sum_by}
use Rattle.rdlpp_table.specs.Store.{table_bytes}
use Rattle.rdlpp_define.specs.declared.limits.Limits.{Limits}
use Rattle.rdlpp_read.specs.Files.{held_windows}
use Rattle.rdlpp_texts.specs.Opened.{bound_by}
use Rattle.rdlpp_texts.specs.Places.{texts_of}
use Rattle.rdlpp_texts.specs.Steps.{AreSound}
use Rattle.rdlpp_state.specs.Engine.{EngineView}
use Rattle.rdlpp_state.specs.declared.held.Held.{Held}

-- the three stores whose bytes are counted: those of the live definitions, of the open call's kept text, and for each open
-- source a part of its text, outermost first (this project's profile)
pub record Stores : Type 0 where
  pub definitions : List ℕ
  pub arguments : List ℕ
  pub buffers : List (List ℕ)

-- the stores of an engine (this project's profile)
unfoldable pub stores_of : {S R : Type 0} → EngineView S R → Stores
stores_of e = record {
  definitions = table_bytes e.table.macros;
  arguments = e.expansion.arguments;
  buffers = held_windows e.files.include_stack;
}

-- how many bytes are held
unfoldable pub held_bytes : Stores → ℕ
held_bytes s = length s.definitions + (length s.arguments + sum_by length s.buffers)

-- the most bytes that are held (this project's profile)
unfoldable pub bound_of : Limits → ℕ
bound_of limits = limits.definition_bytes + (limits.argument_bytes + (limits.includes + 1) * limits.line_bytes)

-- what is held is within its bounds: the bytes, and those of each open source; and the counts of open texts, of the actuals that are
-- bound in them, of open conditionals and of open sources; and each open text lies in a live definition or in what is kept of the call
-- (this project's profile)
pub record IsBounded {S R : Type 0} (e : EngineView S R) : Type 0 where
  pub bytes : held_bytes (stores_of e) ≤ bound_of e.limits
  pub windows : All (λ w. length w ≤ e.limits.line_bytes) (stores_of e).buffers
  pub cursors : length e.expansion.opens ≤ e.limits.depth
  pub bindings : bound_by e.expansion.opens ≤ e.limits.depth * 255
  pub conditions : length e.conditions.open_now ≤ e.limits.conditions
  pub sources : length e.files.include_stack ≤ e.limits.includes + 1
  pub texts : AreSound (texts_of e.table.macros e.expansion.arguments) e.expansion.opens

-- what an engine tells of what it holds (this project's profile)
unfoldable pub held_told : {S R : Type 0} → EngineView S R → Held
held_told e = let s = stores_of e in record {
  definitions = length s.definitions;
  arguments = length s.arguments;
  buffers = sum_by length s.buffers;
  cursors = length e.expansion.opens;
  bindings = bound_by e.expansion.opens;
  conditions = length e.conditions.open_now;
  sources = length e.files.include_stack;
}

-- nothing is held but definitions
pub record HoldsDefinitions (held : Held) : Type 0 where
  pub arguments : held.arguments ≡ 0
  pub buffers : held.buffers ≡ 0
  pub cursors : held.cursors ≡ 0
  pub bindings : held.bindings ≡ 0
  pub conditions : held.conditions ≡ 0
  pub sources : held.sources ≡ 0
