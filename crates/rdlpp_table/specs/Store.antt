-- How a table lies in its two lists: the bytes of its macros one after another, and an entry for each.
-- A definition that names no source is this project's own.
use Rattle.rdlpp_define.specs.Plain.{is_name_byte, is_plain_formal, is_plain_macro}
use Rattle.rdlpp_define.specs.Macros.{list_size, Formal, Macro, macro_size, formal_bytes, formals_of}
use Rattle.std.specs.Prelude.{◌≡◌, ℕ, zero, suc, ◌+◌, ◌-◌, ◌≤◌, true, ◌==◌, List, [], ◌∷◌, ◌++◌, length, take, drop, map, slice_index, slice_range, Some, option_map, unwrap_or, if◌then◌else◌}
use Rattle.std.specs.List.{flat_map, prefix_len, list_all}
use Rattle.rdlpp_scan.specs.KeptText.{cleared, text_after}
use Rattle.rdlpp_table.specs.FormalOffsets.{macro_offsets, offsets_of}
use Rattle.rdlpp_table.specs.PointCache.{cached_points}
use Rattle.rdlpp_table.specs.declared.point_cache.PointCache.{PointCache}
use Rattle.rdlpp_table.specs.declared.entry.Entry.{Entry}

-- a macro in a table's bytes: its name, its formals, its body
unfoldable pub macro_bytes : Macro → List ℕ
macro_bytes m = m.name ++ (flat_map formal_bytes (unwrap_or m.formals []) ++ m.body)

-- a table's bytes, oldest macro first (this project's profile)
unfoldable pub table_bytes : List Macro → List ℕ
table_bytes macros = flat_map macro_bytes macros

-- the entry of a macro whose bytes begin at a place, and its offsets at another one
unfoldable pub entry_of : ℕ → ℕ → Macro → Entry
entry_of start formal_offsets m = record { start = start; name_len = length m.name; list_len = list_size m; body_len = length m.body; arity = option_map length m.formals; formal_offsets = formal_offsets; points = cached_points (formals_of m) m.body }

-- the entries of macros whose bytes begin at a place, and their offsets at another one
unfoldable pub entries_of : ℕ → ℕ → List Macro → List Entry
entries_of start formal_offsets [] = []
entries_of start formal_offsets (m ∷ ms) = entry_of start formal_offsets m ∷ entries_of (start + macro_size m) (formal_offsets + length (macro_offsets m)) ms

-- what stands after a default text with which bytes of a table begin, from its `,` on
unfoldable pub after_stored : List ℕ → List ℕ
after_stored bytes = text_after (cleared (Some 0) bytes)

-- a formal that was read from a table's bytes, and what stands after its `,`
pub record StoredFormal : Type 0 where
  pub formal : Formal
  pub following : List ℕ

-- a formal of a name, by what stands after the name: a default text after `=`, or a `,` at once
unfoldable pub formal_after : List ℕ → List ℕ → StoredFormal
formal_after name bytes =
    let text = drop 1 bytes in
    if slice_index bytes 0 == 61 then record { formal = record { name = name; text = take (length text - length (after_stored text)) text }; following = drop 1 (after_stored text) }
    else record { formal = record { name = name; text = [] }; following = text }

-- the formal with which bytes of a table begin
unfoldable pub formal_read : List ℕ → StoredFormal
formal_read bytes = formal_after (take (prefix_len is_name_byte bytes) bytes) (drop (prefix_len is_name_byte bytes) bytes)

-- so many formals with which bytes of a table begin
unfoldable pub formals_read : ℕ → List ℕ → List Formal
formals_read zero bytes = []
formals_read (suc n) bytes = (formal_read bytes).formal ∷ formals_read n (formal_read bytes).following

-- where the list of an entry's macro begins, where its body does, and where its bytes end
unfoldable pub list_start : Entry → ℕ
list_start e = e.start + e.name_len

-- where the body of an entry's macro begins
unfoldable pub body_start : Entry → ℕ
body_start e = list_start e + e.list_len

-- where the bytes of an entry's macro end
unfoldable pub entry_end : Entry → ℕ
entry_end e = body_start e + e.body_len

-- the name, the list and the body of an entry in a table's bytes
unfoldable pub name_of : List ℕ → Entry → List ℕ
name_of bytes e = slice_range bytes e.start (list_start e)

-- the bytes of the formals of an entry in a table's bytes
unfoldable pub list_of : List ℕ → Entry → List ℕ
list_of bytes e = slice_range bytes (list_start e) (body_start e)

-- the body of an entry in a table's bytes
unfoldable pub body_of : List ℕ → Entry → List ℕ
body_of bytes e = slice_range bytes (body_start e) (entry_end e)

-- the macro of an entry in a table's bytes
unfoldable pub macro_in : List ℕ → Entry → Macro
macro_in bytes e = record { name = name_of bytes e; formals = option_map (λ n. formals_read n (list_of bytes e)) e.arity; body = body_of bytes e }

-- the macros of entries in a table's bytes
unfoldable pub macros_in : List ℕ → List Entry → List Macro
macros_in bytes entries = map (macro_in bytes) entries

-- the entries that aren't given up, where so many at the front are
abbrev pub live : ℕ → List Entry → List Entry
live front entries = drop front entries

-- the bytes and the entries of macros after so many bytes that are given up, where the entries count so many offsets that aren't there
pub record IsStored (from formal_offsets : ℕ) (bytes : List ℕ) (entries : List Entry) (macros : List Macro) : Type 0 where
  pub inside : from ≤ length bytes
  pub few : formal_offsets ≤ from
  pub bytes_are : drop from bytes ≡ table_bytes macros
  pub entries_are : entries ≡ entries_of from formal_offsets macros
  pub plain : list_all is_plain_macro macros ≡ true

-- bytes are those of so many formals, and offsets are those of these
pub record AreStoredFormals (count : ℕ) (list formal_offsets : List ℕ) : Type 0 where
  pub whole : flat_map formal_bytes (formals_read count list) ≡ list
  pub plain : list_all is_plain_formal (formals_read count list) ≡ true
  pub marked : formal_offsets ≡ offsets_of (formals_read count list)

-- the first expansion points of the body after a place of a table's bytes, by so many formals between two places
abbrev pub points_told : List ℕ → ℕ → ℕ → ℕ → PointCache
points_told bytes list body count = cached_points (formals_read count (slice_range bytes list body)) (drop body bytes)
