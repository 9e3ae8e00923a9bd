-- What macros and tables count, and where a table's entries lie.
use Rattle.rdlpp_define.proofs.Sizes.{count_items, length_list_bytes}
use Rattle.std.proofs.Common.{◌≡◌, ℕ, zero, suc, ◌+◌, ◌-◌, ◌≤◌, Bool, cond, ltb, one-add, List, [], ◌∷◌, length, get_or, Option, Some, None, option_map, refl, ap, sym, ◌∙◌, arith, ◌*◌, ◌/◌, Vec, Global, vec_len, ◌<◌, ◌++◌, take, unwrap_or, sum_by, length-append, add-zero, is_some, drop, All, find, flat_map, position, le-ltb, lt-ltb, length-drop}
use Rattle.std.specs.List.{IsDistinct}
use Rattle.std.proofs.lemmas.Bool.{cases_Bool, cases_lt, cond-false, cond-true}
use Rattle.std.proofs.lemmas.Bool.Decides.{leb_tells}
use Rattle.std.proofs.lemmas.List.{get_or-map, get_or_default, length-map}
use Rattle.std.proofs.lemmas.List.Elements.{All-cons, All-nil}
use Rattle.std.proofs.lemmas.List.Folds.{find_at}
use Rattle.std.proofs.lemmas.List.Quantifiers.{position-Some}
use Rattle.std.proofs.lemmas.List.Sums.{sum_by-append, sum_by-cons}
use Rattle.std.proofs.lemmas.Option.{slice_get-get_or, slice_get_past}
use Rattle.rdlpp_table.specs.Entries.{AreWithin, offsets_len}
use Rattle.rdlpp_table.specs.PointCache.{cached_points}
use Rattle.rdlpp_table.specs.Layout.{IsHeld, view_of}
use Rattle.rdlpp_table.specs.FormalOffsets.{halves, has_offsets, macro_offsets, offsets_of, starts_of, table_offsets}
use Rattle.rdlpp_table.specs.Store.{IsStored, body_start, entries_of, entry_end, entry_of, list_start, macro_in, macros_in, macro_bytes, table_bytes}
use Rattle.rdlpp_define.specs.Macros.{list_size, Formal, Macro, formal_bytes, formal_size, macro_size, formals_of}
use Rattle.rdlpp_define.specs.Table.{macro_named, table_size, TableView, macro_at, no_macro, place_named}
use Rattle.rdlpp_table.specs.declared.entry.Entry.{Entry}

-- Places in a list.

pub find_by_position : {X : Type 0} (p : X → Bool) (xs : List X) (d : X) → find p xs ≡ option_map (λ i. get_or xs i d) (position p xs)
find_by_position p xs d = grind (arith, cases_lt, find_at, slice_get-get_or, cond-true, lt-ltb, slice_get_past, cond-false, le-ltb)

-- the first place, by the first element
abbrev placed : ℕ → ℕ → Option ℕ
placed n len = cond (ltb n len) (Some n) None

placed_more : (n len : ℕ) → placed (suc n) (suc len) ≡ option_map suc (placed n len)
placed_more n len = grind (arith, cases_lt, cond-true, lt-ltb, cond-false, le-ltb)

pub position_first : {X : Type 0} (p : X → Bool) (x : X) (xs : List X) → position p (x ∷ xs) ≡ cond (p x) (Some 0) (option_map suc (position p xs))
position_first p x xs = grind (arith, cases_Bool, cond-true, lt-ltb, one-add, placed_more, cond-false)

-- Sizes are lengths, and entries lie among the bytes.

-- an entry without anything
abbrev pub no_entry : Entry
no_entry = record { start = 0; name_len = 0; list_len = 0; body_len = 0; arity = None; formal_offsets = 0; points = record { all = [] } }

pub table_size-cons : (m : Macro) (ms : List Macro) → table_size (m ∷ ms) ≡ macro_size m + table_size ms
unfolding table_size
table_size-cons m ms = sum_by-cons macro_size m ms

pub table_size-append : (xs ys : List Macro) → table_size (xs ++ ys) ≡ table_size xs + table_size ys
unfolding table_size
table_size-append xs ys = sum_by-append macro_size xs ys

pub length_macro_bytes : (m : Macro) → length (macro_bytes m) ≡ macro_size m
unfolding macro_bytes macro_size
length_macro_bytes m =
    omega (arith, length-append m.name (flat_map formal_bytes (unwrap_or m.formals []) ++ m.body), length-append (flat_map formal_bytes (unwrap_or m.formals [])) m.body, length_list_bytes (unwrap_or m.formals []))

pub length_table_bytes : (ms : List Macro) → length (table_bytes ms) ≡ table_size ms
unfolding table_bytes table_size
length_table_bytes [] = refl
length_table_bytes (m ∷ ms) =
    omega (arith, length-append (macro_bytes m) (flat_map macro_bytes ms), length_macro_bytes m, length_table_bytes ms, sum_by-cons macro_size m ms)

pub entry_end_of : (start formal_offsets : ℕ) (m : Macro) → entry_end (entry_of start formal_offsets m) ≡ start + macro_size m
unfolding entry_end entry_of body_start list_start list_size macro_size
entry_end_of start formal_offsets m = omega arith

ends_within : (start formal_offsets : ℕ) (ms : List Macro) → All (λ e. entry_end e ≤ start + table_size ms) (entries_of start formal_offsets ms)
unfolding entries_of
ends_within start formal_offsets [] = All-nil _
ends_within start formal_offsets (m ∷ ms) =
    grind (arith, All-cons, entry_end_of, table_size-cons, (ends_within (start + macro_size m) (formal_offsets + length (macro_offsets m)) ms))

pub stored_within : {from ahead : ℕ} (bytes : List ℕ) (entries : List Entry) (ms : List Macro) → IsStored from ahead bytes entries ms → AreWithin (length bytes) entries
stored_within {from = from} {ahead = ahead} bytes entries ms s =
    let long : length bytes ≡ from + table_size ms = omega (arith, s.inside, length-drop from bytes, ap (length {A = ℕ}) s.bytes_are, length_table_bytes ms) in
    grind (arith, length-drop, length_table_bytes, ends_within)

pub length_offsets-cons : (m : Macro) (ms : List Macro) → length (table_offsets (m ∷ ms)) ≡ length (macro_offsets m) + length (table_offsets ms)
unfolding table_offsets
length_offsets-cons m ms = length-append (macro_offsets m) (flat_map macro_offsets ms)

pub no_offsets : length (table_offsets []) ≡ 0
unfolding table_offsets
no_offsets = refl

-- the entry of a macro
pub entry_of_macro : (start formal_offsets : ℕ) (ms : List Macro) (i : ℕ) (d : Entry) → i < length ms → get_or (entries_of start formal_offsets ms) i d ≡ entry_of (start + table_size (take i ms)) (formal_offsets + length (table_offsets (take i ms))) (macro_at ms i)
unfolding entries_of table_size
entry_of_macro start formal_offsets [] i d h = absurd (omega arith)
entry_of_macro start formal_offsets (m ∷ ms) zero d h =
    ap (λ (n : ℕ). entry_of n formal_offsets m) (sym (add-zero start)) ∙ ap (λ (n : ℕ). entry_of (start + 0) n m) (let e : formal_offsets ≡ formal_offsets + length (table_offsets []) = omega (arith, no_offsets) in e)
entry_of_macro start formal_offsets (m ∷ ms) (suc i) d h =
    grind (arith, sum_by-cons, length_offsets-cons, (entry_of_macro (start + macro_size m) (formal_offsets + length (macro_offsets m)) ms i d (omega arith)))

pub count_formals : (o : Option (List Formal)) → unwrap_or (option_map length o) 0 ≡ length (unwrap_or o [])
count_formals None = refl
count_formals (Some fs) = refl

pub length_starts : (at : ℕ) (fs : List Formal) → length (starts_of at fs) ≡ length fs
unfolding starts_of
length_starts at [] = refl
length_starts at (f ∷ fs) = ap suc (length_starts (at + formal_size f) fs)

-- each number has two halves
pub length_halves : (ns : List ℕ) → length (halves ns) ≡ 2 * length ns
unfolding halves
length_halves [] = refl
length_halves (n ∷ ns) = omega (arith, length_halves ns)

-- how many halves are kept of where formals begin
pub length_start_halves : (fs : List Formal) → length (halves (starts_of 0 fs)) ≡ 2 * length fs
length_start_halves fs = omega (arith, length_halves (starts_of 0 fs), length_starts 0 fs)

-- how many offsets formals have
pub length_offsets_of : (fs : List Formal) → length (offsets_of fs) ≡ cond (has_offsets (length fs) (sum_by formal_size fs)) (2 * length fs) 0
unfolding offsets_of
length_offsets_of fs = grind (arith, length_start_halves)

-- how many offsets an entry has
pub offsets_len_of : (start formal_offsets : ℕ) (m : Macro) → offsets_len (entry_of start formal_offsets m) ≡ length (macro_offsets m)
unfolding offsets_len entry_of list_size macro_offsets
offsets_len_of start formal_offsets m = grind (arith, count_formals, length_offsets_of)

-- formals have at most two offsets each
pub two_offsets : (fs : List Formal) → length (offsets_of fs) ≤ 2 * length fs
two_offsets fs = grind (arith, cases_Bool, length_offsets_of, cond-true, cond-false)

-- formals have at most two offsets for four bytes
pub few_offsets_of : (fs : List Formal) → length (offsets_of fs) ≤ 2 * (sum_by formal_size fs / 4)
unfolding has_offsets
few_offsets_of fs = grind (arith, leb_tells, length_offsets_of, cond-true, cond-false)

pub few_offsets_in : (m : Macro) → length (macro_offsets m) ≤ 2 * (macro_size m / 4)
unfolding macro_offsets macro_size
few_offsets_in m = omega (arith, few_offsets_of (unwrap_or m.formals []))

-- macros have at most two offsets for four bytes
pub few_offsets : (ms : List Macro) → length (table_offsets ms) ≤ 2 * (table_size ms / 4)
few_offsets [] = omega (arith, no_offsets)
few_offsets (m ∷ ms) = omega (arith, length_offsets-cons m ms, table_size-cons m ms, few_offsets_in m, few_offsets ms)

pub size_of_none : table_size [] ≡ 0
unfolding table_size
size_of_none = refl

-- What follows from how a table lies in its lists.

pub length_macros_in : (bytes : List ℕ) (entries : List Entry) → length (macros_in bytes entries) ≡ length entries
unfolding macros_in
length_macros_in bytes entries = length-map entries _

pub len_of_view : (bytes : List ℕ) (entries : List Entry) (a b : ℕ) (view : TableView) → view_of bytes entries a b ≡ view → length view.macros ≡ length entries
len_of_view bytes entries a b view e = ap (λ (v : TableView). length v.macros) (sym e) ∙ length_macros_in _ _

pub macros_of_none : (bytes : List ℕ) (entries : List Entry) → entries ≡ [] → macros_in bytes entries ≡ []
unfolding macros_in
macros_of_none bytes entries e = rw e refl

held_nothing : (a b : ℕ) → IsHeld 0 0 [] [] a b
unfolding macros_in entries_of table_bytes table_size IsDistinct
held_nothing a b = grind (arith, All-nil)

pub held_when_empty : (bytes : List ℕ) (entries : List Entry) (a b : ℕ) → bytes ≡ [] → entries ≡ [] → IsHeld 0 0 bytes entries a b
held_when_empty bytes entries a b e f = rw (e, f) (held_nothing a b)

pub empty_view : (bytes : List ℕ) (entries : List Entry) (a b : ℕ) → entries ≡ [] → view_of bytes entries a b ≡ record { macros = []; most_bytes = a; most_macros = b }
empty_view bytes entries a b e = ap (λ (ms : List Macro). let v : TableView = record { macros = ms; most_bytes = a; most_macros = b } in v) (macros_of_none bytes entries e)

-- the entry at a place of those that aren't given up, read from a slice of them
pub live_read : (es entries : List Entry) (i : ℕ) → es ≡ entries → i < length entries → get_or es i no_entry ≡ get_or entries i (get_or es i no_entry)
live_read es entries i p h = ap (λ (l : List Entry). get_or l i no_entry) p ∙ get_or_default entries i no_entry (get_or es i no_entry) h

-- how many entries aren't given up
pub live_count : (front : ℕ) (v : Vec Entry Global) → length (drop front v.items) ≡ vec_len v - front
live_count front v = omega (arith, length-drop front v.items, count_items v)

-- the macro of an entry
pub macro_at_entry : (bytes : List ℕ) (entries : List Entry) (a b : ℕ) (view : TableView) (i : ℕ) (d : Entry) → view_of bytes entries a b ≡ view → i < length entries → macro_at view.macros i ≡ macro_in bytes (get_or entries i d)
unfolding macros_in
macro_at_entry bytes entries a b view i d e h = ap (λ (v : TableView). macro_at v.macros i) (sym e) ∙ get_or-map (macro_in bytes) entries i d no_macro h

pub named_by_place : (ms : List Macro) (name : List ℕ) → macro_named ms name ≡ option_map (macro_at ms) (place_named ms name)
unfolding macro_named
named_by_place ms name = find_by_position _ ms no_macro

pub inside_by_place : (ms : List Macro) (name : List ℕ) (i : ℕ) → place_named ms name ≡ Some i → i < length ms
inside_by_place ms name i e = (position-Some _ ms i no_macro e).0

pub named_at : (ms : List Macro) (name : List ℕ) (r : Option ℕ) → r ≡ place_named ms name → macro_named ms name ≡ option_map (macro_at ms) r
named_at ms name r e = named_by_place ms name ∙ ap (option_map (macro_at ms)) (sym e)

pub entry_within : {from ahead : ℕ} (bs bytes : List ℕ) (entries : List Entry) (a b : ℕ) (i : ℕ) (entry : Entry) → bs ≡ bytes → IsHeld from ahead bytes entries a b → i < length entries → entry ≡ get_or entries i entry → entry_end entry ≤ length bs
entry_within bs bytes entries a b i entry p held h q = rw (p, q) (stored_within bytes entries _ held.stored i entry h)

pub arity_at : {from ahead : ℕ} (bytes : List ℕ) (entries : List Entry) (a b : ℕ) (view : TableView) (i j : ℕ) (entry : Entry) → view_of bytes entries a b ≡ view → IsHeld from ahead bytes entries a b → i ≡ j → i < length entries → entry ≡ get_or entries i entry → entry.arity ≡ option_map length (macro_at view.macros j).formals
unfolding entry_of
arity_at bytes entries a b view i j entry e held s h q = grind (arith, length_macros_in, entry_of_macro)

pub points_at : {from ahead : ℕ} (bytes : List ℕ) (entries : List Entry) (a b : ℕ) (view : TableView) (i j : ℕ) (entry : Entry) → view_of bytes entries a b ≡ view → IsHeld from ahead bytes entries a b → i ≡ j → i < length entries → entry ≡ get_or entries i entry → entry.points ≡ cached_points (formals_of (macro_at view.macros j)) (macro_at view.macros j).body
unfolding entry_of
points_at bytes entries a b view i j entry e held s h q = grind (arith, length_macros_in, entry_of_macro)

pub stored_slices_within : {from ahead : ℕ} (bs : List ℕ) (es : List Entry) (bytes : List ℕ) (entries : List Entry) (ms : List Macro) → bs ≡ bytes → es ≡ entries → IsStored from ahead bytes entries ms → AreWithin (length bs) es
stored_slices_within bs es bytes entries ms p q s = rw (p, q) (stored_within bytes entries ms s)

some_map : (f : ℕ → Macro) (r : Option ℕ) → is_some r ≡ is_some (option_map f r)
some_map f None = refl
some_map f (Some x) = refl

pub is_named : (ms : List Macro) (name : List ℕ) (r : Option ℕ) → r ≡ place_named ms name → is_some r ≡ is_some (macro_named ms name)
is_named ms name r e = some_map (macro_at ms) r ∙ ap is_some (sym (named_at ms name r e))
