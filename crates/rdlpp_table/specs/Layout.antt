-- The fields of a table, and the table that they stand for.
-- A definition that names no source is this project's own.
use Rattle.std.specs.Prelude.{◌≡◌, ℕ, ◌*◌, ◌/◌, ◌≤◌, List, vec_capacity, vec_len}
use Rattle.rdlpp_define.specs.Table.{TableView, IsSound}
use Rattle.rdlpp_table.specs.FormalOffsets.{table_offsets}
use Rattle.rdlpp_table.specs.Index.{IsIndexed, names_of}
use Rattle.rdlpp_table.specs.Store.{IsStored, live, macros_in}
use Rattle.rdlpp_table.specs.declared.entry.Entry.{Entry}
use Rattle.rdlpp_table.specs.declared.table.Table.TheInside.{Inside}

-- the table of bytes and entries
abbrev pub view_of : List ℕ → List Entry → ℕ → ℕ → TableView
view_of bytes entries most_bytes most_macros = record { macros = macros_in bytes entries; most_bytes = most_bytes; most_macros = most_macros }

-- the table of the fields
abbrev pub table_view : Inside → TableView
table_view t = view_of t.bytes.items (live t.front.entries t.entries.items) t.most_bytes t.most_macros

-- what holds of bytes and entries
pub record IsHeld (from formal_offsets : ℕ) (bytes : List ℕ) (entries : List Entry) (most_bytes most_macros : ℕ) : Type 0 where
  pub stored : IsStored from formal_offsets bytes entries (macros_in bytes entries)
  pub sound : IsSound (view_of bytes entries most_bytes most_macros)

-- what holds of the fields
pub record IsLaidOut (t : Inside) : Type 0 where
  pub held : IsHeld t.front.bytes t.front.formal_offsets t.bytes.items (live t.front.entries t.entries.items) t.most_bytes t.most_macros
  pub given_up : t.front.entries ≤ vec_len t.entries
  pub room : vec_capacity t.bytes ≡ t.most_bytes
  pub entry_room : vec_capacity t.entries ≡ t.most_macros
  pub indexed : IsIndexed (names_of (macros_in t.bytes.items (live t.front.entries t.entries.items))) t.index.places t.index.bucket_starts
  pub marked : t.index.formal_offsets ≡ table_offsets (macros_in t.bytes.items (live t.front.entries t.entries.items))
  pub index_room : t.index.room ≡ record { places = t.most_macros; formal_offsets = 2 * (t.most_bytes / 4) }
  pub few : t.most_macros ≤ 65536
  pub small : t.most_bytes ≤ 16777216
