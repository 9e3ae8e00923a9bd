-- The macros of a table, by name and by place, what they count, and what a contract sees of a table.
-- A definition that names no source is this project's own.
use Rattle.std.specs.Prelude.{ℕ, ◌≤◌, All, List, [], length, map, filter, find, not, bytes_eq, slice_index_or, sum_by, Option, None, position}
use Rattle.std.specs.List.{IsDistinct}
use Rattle.rdlpp_define.specs.Macros.{Formal, IsSoundMacro, Macro, macro_size}

-- the macro of a name, in a list of macros with distinct names, oldest first
unfoldable pub macro_named : List Macro → List ℕ → Option Macro
macro_named macros name = find (λ m. bytes_eq m.name name) macros

-- the macros but the one of a name
unfoldable pub without : List ℕ → List Macro → List Macro
without name macros = filter (λ m. not (bytes_eq m.name name)) macros

-- what a table counts
unfoldable pub table_size : List Macro → ℕ
table_size macros = sum_by macro_size macros

-- the macros, oldest first, and the most bytes and the most macros that the table takes
pub record TableView : Type 0 where
  pub macros : List Macro
  pub most_bytes : ℕ
  pub most_macros : ℕ

-- a macro without anything
abbrev pub no_macro : Macro
no_macro = record { name = []; formals = None; body = [] }

-- the macro at a place
abbrev pub macro_at : List Macro → ℕ → Macro
macro_at macros place = slice_index_or macros place no_macro

-- the place of the macro of a name
abbrev pub place_named : List Macro → List ℕ → Option ℕ
place_named macros name = position (λ m. bytes_eq m.name name) macros

-- a formal without anything
abbrev pub no_formal : Formal
no_formal = record { name = []; text = [] }

-- the formal at a place
abbrev pub formal_at : List Formal → ℕ → Formal
formal_at formals place = slice_index_or formals place no_formal

-- the place of the formal of a name
abbrev pub formal_named : List Formal → List ℕ → Option ℕ
formal_named formals name = position (λ f. bytes_eq f.name name) formals

-- what holds of every table: its macros are sound, have distinct names, and are no more and no larger than it takes
pub record IsSound (table : TableView) : Type 0 where
  pub distinct : IsDistinct bytes_eq (map (λ m. m.name) table.macros)
  pub each : All IsSoundMacro table.macros
  pub bytes_fit : table_size table.macros ≤ table.most_bytes
  pub macros_fit : length table.macros ≤ table.most_macros
