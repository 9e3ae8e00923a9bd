-- What holds of entries and the bytes that they point into.
-- A definition that names no source is this project's own.
use Rattle.std.specs.Prelude.{ℕ, ◌+◌, ◌-◌, ◌*◌, ◌<◌, ◌≤◌, ◌^◌, List, All, unwrap_or, if◌then◌else◌}
use Rattle.rdlpp_table.specs.declared.entry.Entry.{Entry}
use Rattle.rdlpp_table.specs.FormalOffsets.{has_offsets}
use Rattle.rdlpp_table.specs.Store.{entry_end}

-- each entry's bytes lie among so many
abbrev pub AreWithin : ℕ → List Entry → Type 0
AreWithin n entries = All (λ e. entry_end e ≤ n) entries

-- an entry whose bytes lie so much further to the front, and its offsets as much as another number says
unfoldable pub moved_down : ℕ → ℕ → Entry → Entry
moved_down size formal_offsets e = record { start = e.start - size; name_len = e.name_len; list_len = e.list_len; body_len = e.body_len; arity = e.arity; formal_offsets = e.formal_offsets - formal_offsets; points = e.points }

-- an entry whose bytes lie so much further to the back, and its offsets as much as another number says
unfoldable pub moved_up : ℕ → ℕ → Entry → Entry
moved_up size formal_offsets e = record { start = e.start + size; name_len = e.name_len; list_len = e.list_len; body_len = e.body_len; arity = e.arity; formal_offsets = e.formal_offsets + formal_offsets; points = e.points }

-- each entry can be moved up so much
abbrev pub AreLow : ℕ → ℕ → List Entry → Type 0
AreLow n k entries = All (λ e. (e.start + n < 2 ^ 32) × (e.formal_offsets + k < 2 ^ 32)) entries

-- each entry's bytes lie after so many, and its offsets after as many as another number says
abbrev pub AreAfter : ℕ → ℕ → List Entry → Type 0
AreAfter n k entries = All (λ e. (n ≤ e.start) × (k ≤ e.formal_offsets)) entries

-- how many offsets an entry has
unfoldable pub offsets_len : Entry → ℕ
offsets_len e = if has_offsets (unwrap_or e.arity 0) e.list_len then 2 * unwrap_or e.arity 0 else 0
