-- The macros of a table, read back from its lists.
use Rattle.rdlpp_table.proofs.Taken.{between_parts, bytes_round, entries_of-append, length_entries_of, offsets_at, pushed_distinct, size_of_entry, split_at, table_bytes-append, table_bytes-cons, table_offsets-append, table_offsets-cons, whole_bytes, without_at, without_distinct, without_length, without_nowhere, without_size}
use Rattle.std.proofs.Common.{◌≡◌, ℕ, ◌+◌, ◌-◌, true, false, List, [], ◌∷◌, ◌++◌, length, take, drop, map, get_or, Option, Some, None, option_map, unwrap_or, refl, ap, sym, ◌∙◌, arith, length-append, append_assoc, slice_range, sum_by, zero, suc, ◌<◌, ◌≤◌, remove, bytes_eq, append-nil, add-one, Ok, Err, le_trans, All, flat_map, le-ltb, lt-ltb, length-drop, length-take-le}
use Rattle.std.specs.List.{IsDistinct, list_all, prefix_len}
use Rattle.std.proofs.lemmas.Bool.{and_from, and_parts, cond-false, cond-true}
use Rattle.std.proofs.lemmas.Grind.{common_steps}
use Rattle.std.proofs.lemmas.List.{drop-append-le}
use Rattle.std.proofs.lemmas.List.Elements.{All-filter, All-push}
use Rattle.std.proofs.lemmas.List.Folds.{list_all-append}
use Rattle.rdlpp_scan.specs.KeptText.{text_after}
use Rattle.rdlpp_define.specs.Defined.{Accepted, DefinedFault, define_of, observed, set_of, stored, stored_draft}
use Rattle.rdlpp_define.specs.Define.{Draft, drafted, macro_of, macro_set}
use Rattle.rdlpp_table.specs.Entries.{offsets_len}
use Rattle.rdlpp_table.specs.Layout.{IsHeld, view_of}
use Rattle.rdlpp_table.specs.FormalOffsets.{macro_offsets, offsets_of, table_offsets}
use Rattle.rdlpp_table.specs.Store.{AreStoredFormals, IsStored, after_stored, body_of, body_start, entries_of, entry_end, entry_of, formal_after, formal_read, formals_read, list_of, list_start, macro_in, macros_in, name_of, macro_bytes, table_bytes}
use Rattle.rdlpp_define.specs.Plain.{is_default, is_name_byte, is_plain_formal, is_plain_macro}
use Rattle.rdlpp_define.specs.Macros.{list_size, Formal, Macro, default_bytes, formal_bytes, formal_size, macro_size, IsSoundMacro, formals_of}
use Rattle.rdlpp_define.specs.Table.{table_size, without, IsSound, TableView, macro_at, place_named}
use Rattle.rdlpp_table.specs.declared.entry.Entry.{Entry}
use Rattle.rdlpp_define.specs.declared.fault.DefineFault.{DefineFault}
use Rattle.rdlpp_define.specs.declared.fault.DefineKind.{DefineKind}
use Rattle.rdlpp_table.proofs.Defaults.{default_read_back}
use Rattle.rdlpp_table.proofs.Sizes.{entry_of_macro, inside_by_place, length_macro_bytes, length_macros_in, length_table_bytes, macro_at_entry, offsets_len_of, size_of_none, table_size-append, table_size-cons}
use Rattle.rdlpp_define.proofs.Sizes.{length_list_bytes}
use Rattle.rdlpp_define.specs.declared.fault.DefineKind.TheVariants as kind

-- The macros of a table are read back from its lists as they are.

-- a name is read up to what stands after it
name_read : (name rest : List ℕ) → list_all is_name_byte name ≡ true → is_name_byte (get_or rest 0 0) ≡ false → prefix_len is_name_byte (name ++ rest) ≡ length name
name_read [] [] h e = refl
name_read [] (b ∷ bs) h e = cond-false _ _ _ e
name_read (b ∷ name) rest h e =
    let p = and_parts (is_name_byte b) (list_all is_name_byte name) h in
    cond-true _ _ _ p.0 ∙ (let n : 1 + prefix_len is_name_byte (name ++ rest) ≡ length (b ∷ name) = omega (arith, name_read name rest p.1 e) in n)

named_read : (name rest : List ℕ) → list_all is_name_byte name ≡ true → is_name_byte (get_or rest 0 0) ≡ false → formal_read (name ++ rest) ≡ formal_after name rest
unfolding formal_read
named_read name rest h e = grind (arith, common_steps, name_read)

stored_after : (text rest : List ℕ) → is_default text ≡ true → after_stored (text ++ 44 ∷ rest) ≡ 44 ∷ rest
unfolding after_stored text_after
stored_after text rest h = ap text_after (default_read_back text rest h)

default_read : (name text rest : List ℕ) → is_default text ≡ true → formal_after name (61 ∷ text ++ 44 ∷ rest) ≡ record { formal = record { name = name; text = text }; following = rest }
unfolding formal_after
default_read name text rest h = grind (arith, common_steps, stored_after, length-append)

by_default : (name text rest : List ℕ) → is_default text ≡ true → (is_name_byte (get_or (default_bytes text ++ 44 ∷ rest) 0 0) ≡ false) × (formal_after name (default_bytes text ++ 44 ∷ rest) ≡ record { formal = record { name = name; text = text }; following = rest })
unfolding default_bytes is_name_byte formal_after
by_default name [] rest h = (refl, refl)
by_default name (b ∷ bs) rest h = (refl, default_read name (b ∷ bs) rest h)

pub read_formal : (f : Formal) (rest : List ℕ) → is_plain_formal f ≡ true → formal_read (formal_bytes f ++ rest) ≡ record { formal = f; following = rest }
unfolding formal_bytes is_plain_formal
read_formal f rest h = grind (arith, and_parts, by_default, append_assoc, named_read)

pub read_list : (fs : List Formal) → list_all is_plain_formal fs ≡ true → formals_read (length fs) (flat_map formal_bytes fs) ≡ fs
unfolding formals_read
read_list [] h = refl
read_list (f ∷ fs) h =
    let parts = and_parts (is_plain_formal f) (list_all is_plain_formal fs) h in
    let bytes : List ℕ = formal_bytes f ++ flat_map formal_bytes fs in
    let r : formal_read bytes ≡ record { formal = f; following = flat_map formal_bytes fs } = read_formal f (flat_map formal_bytes fs) parts.0 in
    grind (arith, (read_list fs parts.1))

same_formals : (o : Option (List Formal)) (list : List ℕ) → list ≡ flat_map formal_bytes (unwrap_or o []) → list_all is_plain_formal (unwrap_or o []) ≡ true → option_map (λ (n : ℕ). formals_read n list) (option_map length o) ≡ o
same_formals None list e h = refl
same_formals (Some fs) list e h = ap Some (ap (formals_read (length fs)) e ∙ read_list fs h)

same_macro : (m : Macro) (name list body : List ℕ) → name ≡ m.name → list ≡ flat_map formal_bytes (unwrap_or m.formals []) → body ≡ m.body → list_all is_plain_formal (unwrap_or m.formals []) ≡ true → (let y : Macro = record { name = name; formals = option_map (λ (n : ℕ). formals_read n list) (option_map length m.formals); body = body } in y) ≡ m
same_macro m name list body n l b h = grind (arith, same_formals)

-- the parts of a macro in bytes in which it lies after others
-- the bytes of a macro's formals between others
pub list_back : (before after : List ℕ) (k : ℕ) (m : Macro) → list_of (before ++ (macro_bytes m ++ after)) (entry_of (length before) k m) ≡ flat_map formal_bytes (unwrap_or m.formals [])
unfolding list_of entry_of body_start list_start list_size macro_bytes
list_back before after k m =
    let formals : List Formal = unwrap_or m.formals [] in
    let list : List ℕ = flat_map formal_bytes formals in
    let n : ℕ = length before + length m.name in
    let regroup : before ++ ((m.name ++ (list ++ m.body)) ++ after) ≡ (before ++ m.name) ++ (list ++ (m.body ++ after)) =
    ap (λ (l : List ℕ). before ++ l) (append_assoc m.name (list ++ m.body) after ∙ ap (λ (l : List ℕ). m.name ++ l) (append_assoc list m.body after)) ∙ sym (append_assoc before m.name _) in
    grind (arith, between_parts, length-append, length_list_bytes)

read_parts : (before after : List ℕ) (k : ℕ) (m : Macro) → is_plain_macro m ≡ true → macro_in (before ++ (macro_bytes m ++ after)) (entry_of (length before) k m) ≡ m
unfolding macro_in name_of list_of body_of entry_of entry_end body_start list_start list_size macro_bytes is_plain_macro
read_parts before after k m h =
    let formals : List Formal = unwrap_or m.formals [] in
    let list : List ℕ = flat_map formal_bytes formals in
    let n : ℕ = length before + length m.name in
    let all : List ℕ = before ++ (m.name ++ (list ++ m.body) ++ after) in
    let regroup : all ≡ before ++ (m.name ++ (list ++ (m.body ++ after))) = ap (λ (l : List ℕ). before ++ l) (append_assoc m.name (list ++ m.body) after ∙ ap (λ (l : List ℕ). m.name ++ l) (append_assoc list m.body after)) in
    let name : slice_range all (length before) n ≡ m.name = ap (λ (l : List ℕ). slice_range l (length before) n) regroup ∙ between_parts before m.name _ _ n refl refl in
    let as_list : all ≡ (before ++ m.name) ++ (list ++ (m.body ++ after)) = regroup ∙ sym (append_assoc before m.name _) in
    let listed : slice_range all n (n + sum_by formal_size formals) ≡ list = list_back before after k m in
    let as_body : all ≡ ((before ++ m.name) ++ list) ++ (m.body ++ after) = as_list ∙ sym (append_assoc (before ++ m.name) list _) in
    let body : slice_range all (n + sum_by formal_size formals) (n + sum_by formal_size formals + length m.body) ≡ m.body =
    ap (λ (l : List ℕ). slice_range l (n + sum_by formal_size formals) (n + sum_by formal_size formals + length m.body)) as_body
    ∙ between_parts ((before ++ m.name) ++ list) m.body after _ _ (omega (arith, length-append (before ++ m.name) list, length-append before m.name, length_list_bytes formals)) refl in
    same_macro m _ _ _ name listed body h

read_macros : (before : List ℕ) (k : ℕ) (ms : List Macro) → list_all is_plain_macro ms ≡ true → macros_in (before ++ table_bytes ms) (entries_of (length before) k ms) ≡ ms
unfolding macros_in entries_of
read_macros before k [] h = refl
read_macros before k (m ∷ ms) h =
    let parts = and_parts (is_plain_macro m) (list_all is_plain_macro ms) h in
    let j : ℕ = k + length (macro_offsets m) in
    let whole : before ++ table_bytes (m ∷ ms) ≡ before ++ (macro_bytes m ++ table_bytes ms) = ap (λ (l : List ℕ). before ++ l) (table_bytes-cons m ms) in
    let moved : before ++ (macro_bytes m ++ table_bytes ms) ≡ (before ++ macro_bytes m) ++ table_bytes ms = sym (append_assoc before (macro_bytes m) (table_bytes ms)) in
    let n : length before + macro_size m ≡ length (before ++ macro_bytes m) = omega (arith, length-append before (macro_bytes m), length_macro_bytes m) in
    grind (arith, read_parts, (read_macros (before ++ macro_bytes m) j ms parts.1))

pub read_back : {from ahead : ℕ} (bytes : List ℕ) (entries : List Entry) (ms : List Macro) → IsStored from ahead bytes entries ms → macros_in bytes entries ≡ ms
read_back {from = from} {ahead = ahead} bytes entries ms s =
    let before : List ℕ = take from bytes in
    let long : from ≡ length before = sym (length-take-le from bytes s.inside) in
    ap (λ (l : List ℕ). macros_in l entries) (whole_bytes bytes entries ms s)
    ∙ (ap (macros_in (before ++ table_bytes ms)) (s.entries_are ∙ ap (λ (i : ℕ). entries_of i ahead ms) long) ∙ read_macros before ahead ms s.plain)

-- The formals of a macro in a table, as they lie there with their offsets.

-- so many formals, also where there is no list
read_any : (arity : Option ℕ) (list : List ℕ) → unwrap_or (option_map (λ (n : ℕ). formals_read n list) arity) [] ≡ formals_read (unwrap_or arity 0) list
unfolding formals_read
read_any None list = refl
read_any (Some n) list = refl

-- the formals of an entry's macro are those that are read from its list
pub read_here : (bytes : List ℕ) (entry : Entry) → formals_read (unwrap_or entry.arity 0) (list_of bytes entry) ≡ formals_of (macro_in bytes entry)
unfolding macro_in
read_here bytes entry = sym (read_any entry.arity (list_of bytes entry))

plain_at : (ms : List Macro) (place : ℕ) → place < length ms → list_all is_plain_macro ms ≡ true → list_all is_plain_formal (formals_of (macro_at ms place)) ≡ true
unfolding is_plain_macro
plain_at ms place h e = grind (arith, common_steps, and_parts, list_all-append, split_at)

-- an entry's list and its offsets among those of all, where the entry counts so many that are given up
pub record IsEntryListed (ahead : ℕ) (bytes formal_offsets : List ℕ) (entry : Entry) : Type 0 where
  pub following : ahead ≤ entry.formal_offsets
  pub within : entry.formal_offsets - ahead + offsets_len entry ≤ length formal_offsets
  pub listed : AreStoredFormals (unwrap_or entry.arity 0) (list_of bytes entry) (slice_range formal_offsets (entry.formal_offsets - ahead) (entry.formal_offsets - ahead + offsets_len entry))

module _ (from ahead : ℕ) (bytes : List ℕ) (ms : List Macro) (place : ℕ) (entry : Entry) (h : place < length ms)
    (is : entry ≡ entry_of (from + table_size (take place ms)) (ahead + length (table_offsets (take place ms))) (macro_at ms place)) where
  abbrev xs : List Macro
  xs = take place ms

  abbrev m : Macro
  m = macro_at ms place

  abbrev ys : List Macro
  ys = drop (place + 1) ms

  offsets_split : table_offsets ms ≡ table_offsets xs ++ (macro_offsets m ++ table_offsets ys)
  offsets_split = ap table_offsets (split_at ms place h) ∙ (table_offsets-append xs (m ∷ ys) ∙ ap (λ (l : List ℕ). table_offsets xs ++ l) (table_offsets-cons m ys))

  offsets_from : entry.formal_offsets ≡ ahead + length (table_offsets xs)
  offsets_from = ap (λ (e : Entry). e.formal_offsets) is ∙ offsets_at _ _ m

  offsets_count : offsets_len entry ≡ length (macro_offsets m)
  offsets_count = ap offsets_len is ∙ offsets_len_of _ _ m

  offsets_here : slice_range (table_offsets ms) (entry.formal_offsets - ahead) (entry.formal_offsets - ahead + offsets_len entry) ≡ macro_offsets m
  offsets_here =
      ap (λ (l : List ℕ). slice_range l (entry.formal_offsets - ahead) (entry.formal_offsets - ahead + offsets_len entry)) offsets_split
      ∙ between_parts (table_offsets xs) (macro_offsets m) (table_offsets ys) _ _ (omega (arith, offsets_from)) (omega (arith, offsets_count))

  offsets_fit : entry.formal_offsets - ahead + offsets_len entry ≤ length (table_offsets ms)
  offsets_fit = omega (arith, offsets_from, offsets_count, ap (length {A = ℕ}) offsets_split, length-append (table_offsets xs) (macro_offsets m ++ table_offsets ys), length-append (macro_offsets m) (table_offsets ys))

  list_here : from ≤ length bytes → bytes ≡ take from bytes ++ table_bytes ms → list_of bytes entry ≡ flat_map formal_bytes (formals_of m)
  list_here f e =
      let before : List ℕ = take from bytes ++ table_bytes xs in
      let start : from + table_size xs ≡ length before = omega (arith, length-append (take from bytes) (table_bytes xs), length-take-le from bytes f, length_table_bytes xs) in
      ap (λ (l : List ℕ). list_of l entry) (bytes_round from bytes ms place e h)
      ∙ (ap (list_of (before ++ (macro_bytes m ++ table_bytes ys))) (is ∙ ap (λ (n : ℕ). entry_of n (ahead + length (table_offsets xs)) m) start)
      ∙ list_back before (table_bytes ys) _ m)

-- of every entry of a table
pub entry_listed : {from ahead : ℕ} (bytes formal_offsets : List ℕ) (entries : List Entry) (place : ℕ) (entry : Entry) → IsStored from ahead bytes entries (macros_in bytes entries) → formal_offsets ≡ table_offsets (macros_in bytes entries) → place < length entries → entry ≡ get_or entries place entry → IsEntryListed ahead bytes formal_offsets entry
unfolding macro_offsets
entry_listed {from = from} {ahead = ahead} bytes formal_offsets entries place entry s e h q =
    let ms : List Macro = macros_in bytes entries in
    let inside : place < length ms = omega (arith, length_macros_in bytes entries) in
    let is : entry ≡ entry_of (from + table_size (take place ms)) (ahead + length (table_offsets (take place ms))) (macro_at ms place) =
    q ∙ (ap (λ (es : List Entry). get_or es place entry) s.entries_are ∙ entry_of_macro from ahead ms place entry inside) in
    let same : macro_in bytes entry ≡ macro_at ms place = ap (macro_in bytes) q ∙ sym (macro_at_entry bytes entries 0 0 (view_of bytes entries 0 0) place entry refl h) in
    let read : formals_read (unwrap_or entry.arity 0) (list_of bytes entry) ≡ formals_of (macro_at ms place) = read_here bytes entry ∙ ap formals_of same in
    record {
      following = omega (arith, offsets_from from ahead bytes ms place entry inside is);
      within = omega (arith, offsets_fit from ahead bytes ms place entry inside is, ap (length {A = ℕ}) e);
      listed = record {
        whole = ap (flat_map formal_bytes) read ∙ sym (list_here from ahead bytes ms place entry inside is s.inside (whole_bytes bytes entries ms s));
        plain = ap (list_all is_plain_formal) read ∙ plain_at ms place inside s.plain;
        marked = ap (λ (l : List ℕ). slice_range l (entry.formal_offsets - ahead) (entry.formal_offsets - ahead + offsets_len entry)) e ∙ (offsets_here from ahead bytes ms place entry inside is ∙ ap offsets_of (sym read));
      };
    }

-- the same, of what was read
pub listed_as : (count n : ℕ) (list bytes formal_offsets kept : List ℕ) → count ≡ n → list ≡ bytes → formal_offsets ≡ kept → AreStoredFormals n bytes kept → AreStoredFormals count list formal_offsets
listed_as count n list bytes formal_offsets kept p q r l = rw (p, q, r) l

-- so many formals are read as were asked for
pub count_read : (count : ℕ) (list : List ℕ) → length (formals_read count list) ≡ count
unfolding formals_read
count_read zero list = refl
count_read (suc n) list = ap suc (count_read n (formal_read list).following)

-- how many bytes and how many entries there are
pub stored_length : {from ahead : ℕ} (bytes : List ℕ) (entries : List Entry) (ms : List Macro) → IsStored from ahead bytes entries ms → length bytes ≡ from + table_size ms
stored_length {from = from} bytes entries ms s = omega (arith, s.inside, length-drop from bytes, ap (length {A = ℕ}) s.bytes_are, length_table_bytes ms)

pub stored_count : {from ahead : ℕ} (bytes : List ℕ) (entries : List Entry) (ms : List Macro) → IsStored from ahead bytes entries ms → length entries ≡ length ms
stored_count {from = from} {ahead = ahead} bytes entries ms s = ap length s.entries_are ∙ length_entries_of from ahead ms

-- A macro put after the others, and what there is beside one of its name.

one_entry : (n k : ℕ) (m : Macro) → entries_of n k (m ∷ []) ≡ entry_of n k m ∷ []
unfolding entries_of
one_entry n k m = refl

one_bytes : (m : Macro) → table_bytes (m ∷ []) ≡ macro_bytes m
unfolding table_bytes
one_bytes m = append-nil (macro_bytes m)

one_offsets : (m : Macro) → table_offsets (m ∷ []) ≡ macro_offsets m
unfolding table_offsets
one_offsets m = append-nil (macro_offsets m)

pub put_stored : {from ahead : ℕ} (bytes : List ℕ) (entries : List Entry) (ms : List Macro) (m : Macro) (start formal_offsets : ℕ) (bytes' : List ℕ) (entries' : List Entry) → IsStored from ahead bytes entries ms → is_plain_macro m ≡ true → start ≡ length bytes → formal_offsets ≡ ahead + length (table_offsets ms) → bytes' ≡ bytes ++ macro_bytes m → entries' ≡ entries ++ entry_of start formal_offsets m ∷ [] → IsStored from ahead bytes' entries' (ms ++ m ∷ [])
put_stored {from = from} {ahead = ahead} bytes entries ms m start formal_offsets bytes' entries' s p n k b e =
    grind (arith, stored_length, length-append, drop-append-le, one_bytes, table_bytes-append, one_entry, entries_of-append, list_all-append, and_from)

-- the offsets of a macro that was put after the others
pub put_offsets : (formal_offsets more : List ℕ) (ms : List Macro) (m : Macro) → formal_offsets ≡ table_offsets ms → more ≡ macro_offsets m → formal_offsets ++ more ≡ table_offsets (ms ++ m ∷ [])
put_offsets formal_offsets more ms m d e = grind (arith, one_offsets, table_offsets-append)

size_of_remove : (ms : List Macro) (place : ℕ) → place < length ms → macro_size (macro_at ms place) + table_size (remove ms place) ≡ table_size ms
size_of_remove ms place h =
    let whole : table_size ms ≡ table_size (take place ms) + table_size (macro_at ms place ∷ drop (place + 1) ms) = ap table_size (split_at ms place h) ∙ table_size-append (take place ms) _ in
    grind (arith, split_at, table_size-append, add-one, table_size-cons)

pub length_of_remove : (ms : List Macro) (place : ℕ) → place < length ms → length (remove ms place) + 1 ≡ length ms
length_of_remove ms place h = grind (arith, common_steps, split_at, length-append, add-one)

pub usage_without_size : {from ahead : ℕ} (bytes : List ℕ) (entries : List Entry) (ms : List Macro) (name : List ℕ) (place : ℕ) (d : Entry) → IsStored from ahead bytes entries ms → IsDistinct bytes_eq (map (λ m. m.name) ms) → place_named ms name ≡ Some place → from + ((get_or entries place d).name_len + (get_or entries place d).list_len + (get_or entries place d).body_len + table_size (without name ms)) ≡ length bytes
usage_without_size {from = from} {ahead = ahead} bytes entries ms name place d s distinct at =
    let h : place < length ms = inside_by_place ms name place at in
    grind (arith, inside_by_place, entry_of_macro, size_of_entry, without_at, size_of_remove, stored_length)

pub usage_without_count : {from ahead : ℕ} (bytes : List ℕ) (entries : List Entry) (ms : List Macro) (name : List ℕ) (place : ℕ) → IsStored from ahead bytes entries ms → IsDistinct bytes_eq (map (λ m. m.name) ms) → place_named ms name ≡ Some place → length (without name ms) + 1 ≡ length entries
usage_without_count bytes entries ms name place s distinct at =
    let h : place < length ms = inside_by_place ms name place at in
    omega (arith, ap length (without_at name ms place distinct at), length_of_remove ms place h, stored_count bytes entries ms s)

pub usage_without_none : {from ahead : ℕ} (bytes : List ℕ) (entries : List Entry) (ms : List Macro) (name : List ℕ) → IsStored from ahead bytes entries ms → place_named ms name ≡ None → (length bytes ≡ from + table_size (without name ms)) × (length entries ≡ length (without name ms))
usage_without_none bytes entries ms name s at = grind (arith, stored_length, without_nowhere, stored_count)

pub stored_again : {from ahead : ℕ} (bytes : List ℕ) (entries : List Entry) (ms : List Macro) → IsStored from ahead bytes entries ms → IsStored from ahead bytes entries (macros_in bytes entries)
stored_again {from = from} {ahead = ahead} bytes entries ms s = grind (arith, read_back)

-- A table after a change of its lists.

-- the table of macros
abbrev pub table_of : List Macro → ℕ → ℕ → TableView
table_of ms a b = record { macros = ms; most_bytes = a; most_macros = b }

pub held_of : {from ahead : ℕ} (bytes : List ℕ) (entries : List Entry) (ms : List Macro) (a b : ℕ) → IsStored from ahead bytes entries ms → IsSound (table_of ms a b) → IsHeld from ahead bytes entries a b
held_of {from = from} {ahead = ahead} bytes entries ms a b s sound = grind (arith, read_back)

pub view_after : {from ahead : ℕ} (bytes : List ℕ) (entries : List Entry) (ms : List Macro) (a b : ℕ) → IsStored from ahead bytes entries ms → view_of bytes entries a b ≡ table_of ms a b
view_after bytes entries ms a b s = ap (λ (l : List Macro). table_of l a b) (read_back bytes entries ms s)

each_without : (name : List ℕ) (ms : List Macro) → All IsSoundMacro ms → All IsSoundMacro (without name ms)
unfolding without
each_without name ms h = All-filter _ IsSoundMacro ms h

pub sound_without : (name : List ℕ) (view : TableView) → IsSound view → IsSound (table_of (without name view.macros) view.most_bytes view.most_macros)
sound_without name view s = record {
  distinct = without_distinct name view.macros s.distinct;
  each = each_without name view.macros s.each;
  bytes_fit = le_trans (without_size name view.macros) s.bytes_fit;
  macros_fit = le_trans (without_length name view.macros) s.macros_fit;
}

pub stored_without : {from ahead : ℕ} (ms : List Macro) (name : List ℕ) (place : ℕ) (bytes' : List ℕ) (entries' : List Entry) → IsDistinct bytes_eq (map (λ m. m.name) ms) → place_named ms name ≡ Some place → IsStored from ahead bytes' entries' (remove ms place) → IsStored from ahead bytes' entries' (without name ms)
stored_without {from = from} {ahead = ahead} ms name place bytes' entries' distinct at s = grind (arith, without_at)

pub stored_nowhere : {from ahead : ℕ} (ms : List Macro) (name : List ℕ) (bytes : List ℕ) (entries : List Entry) → place_named ms name ≡ None → IsStored from ahead bytes entries ms → IsStored from ahead bytes entries (without name ms)
stored_nowhere {from = from} {ahead = ahead} ms name bytes entries at s = grind (arith, without_nowhere)

-- what a definition gives a table, by the three cases
pub too_large : (a b : ℕ) (ms : List Macro) (m : Macro) → a < table_size (without m.name ms) + macro_size m → stored a b ms m ≡ DefinedFault kind.DefinitionBytes []
unfolding stored
too_large a b ms m h = cond-true _ _ _ (lt-ltb _ _ h)

pub too_many : (a b : ℕ) (ms : List Macro) (m : Macro) → table_size (without m.name ms) + macro_size m ≤ a → b < length (without m.name ms) + 1 → stored a b ms m ≡ DefinedFault kind.TooManyDefinitions []
unfolding stored
too_many a b ms m h k = cond-false _ _ _ (le-ltb _ _ h) ∙ cond-true _ _ _ (lt-ltb _ _ k)

pub fits : (a b : ℕ) (ms : List Macro) (m : Macro) → table_size (without m.name ms) + macro_size m ≤ a → length (without m.name ms) + 1 ≤ b → stored a b ms m ≡ Accepted (without m.name ms ++ m ∷ [])
unfolding stored
fits a b ms m h k = cond-false _ _ _ (le-ltb _ _ h) ∙ cond-false _ _ _ (le-ltb _ _ k)

pub refused_is : (e : DefineFault) (k : DefineKind) (ms : List Macro) → e.kind ≡ k → e.word.bytes ≡ [] → observed (Err e) ms ≡ DefinedFault k []
unfolding observed
refused_is e k ms p q = ap (λ (x : DefineKind). DefinedFault x e.word.bytes) p ∙ ap (DefinedFault k) q

pub accepted_is : (ms : List Macro) → observed (Ok tt) ms ≡ Accepted ms
unfolding observed
accepted_is ms = refl

pub sound_with : (view : TableView) (m : Macro) → IsSound view → IsSoundMacro m → table_size (without m.name view.macros) + macro_size m ≤ view.most_bytes → length (without m.name view.macros) + 1 ≤ view.most_macros → IsSound (table_of (without m.name view.macros ++ m ∷ []) view.most_bytes view.most_macros)
sound_with view m s sound h k =
    let one : table_size (m ∷ []) ≡ macro_size m = table_size-cons m [] ∙ omega (arith, size_of_none) in
    record {
      distinct = pushed_distinct m view.macros s.distinct;
      each = All-push IsSoundMacro (without m.name view.macros) m (each_without m.name view.macros s.each) sound;
      bytes_fit = omega (arith, table_size-append (without m.name view.macros) (m ∷ []));
      macros_fit = omega (arith, length-append (without m.name view.macros) (m ∷ []));
    }

-- a definition by what was read of it
drafted_stores : (a b : ℕ) (ms : List Macro) (m : Macro) (d : Draft) → drafted (Ok m) ≡ d → stored a b ms m ≡ stored_draft a b ms d
unfolding drafted stored_draft
drafted_stores a b ms m d e = ap (stored_draft a b ms) e

drafted_refuses : (a b : ℕ) (ms : List Macro) (fault : DefineFault) (d : Draft) → drafted (Err fault) ≡ d → observed (Err fault) ms ≡ stored_draft a b ms d
unfolding drafted stored_draft observed
drafted_refuses a b ms fault d e = ap (stored_draft a b ms) e

pub define_stores : (a b : ℕ) (ms : List Macro) (m : Macro) (rest : List ℕ) → drafted (Ok m) ≡ macro_of rest → stored a b ms m ≡ define_of a b ms rest
unfolding define_of
define_stores a b ms m rest e = drafted_stores a b ms m (macro_of rest) e

pub define_refuses : (a b : ℕ) (ms : List Macro) (fault : DefineFault) (rest : List ℕ) → drafted (Err fault) ≡ macro_of rest → observed (Err fault) ms ≡ define_of a b ms rest
unfolding define_of
define_refuses a b ms fault rest e = drafted_refuses a b ms fault (macro_of rest) e

pub set_stores : (a b : ℕ) (ms : List Macro) (m : Macro) (name text : List ℕ) → drafted (Ok m) ≡ macro_set name text → stored a b ms m ≡ set_of a b ms name text
unfolding set_of
set_stores a b ms m name text e = drafted_stores a b ms m (macro_set name text) e

pub set_refuses : (a b : ℕ) (ms : List Macro) (fault : DefineFault) (name text : List ℕ) → drafted (Err fault) ≡ macro_set name text → observed (Err fault) ms ≡ set_of a b ms name text
unfolding set_of
set_refuses a b ms fault name text e = drafted_refuses a b ms fault (macro_set name text) e
