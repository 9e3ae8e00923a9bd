-- The macros but the one of a name, and that macro taken out of the lists in which a table lies.
use Rattle.std.proofs.Common.{◌≡◌, ℕ, ◌+◌, ◌<◌, ◌≤◌, Bool, true, false, cond, not, ◌||◌, List, [], ◌∷◌, ◌++◌, length, map, remove, bytes_eq, Some, None, refl, ap, sym, ◌∙◌, arith, one-add, inl, inr, suc, ◌-◌, take, drop, get_or, length-append, append_assoc, add-zero, add-one, zero-add, ◌^◌, Vec, Global, vec_capacity, slice_range, filter, All, get_or-drop, take_at, drop_at, take-append-drop, length-take-le, lt-ltb, le-ltb}
use Rattle.std.specs.List.{IsDistinct, AllByRecursion, position_or_len, list_any, list_all, remove_range}
use Rattle.std.proofs.lemmas.List.{map-append, drop_more}
use Rattle.std.proofs.lemmas.Cmp.{nat_list_eq_equiv}
use Rattle.std.proofs.lemmas.Bool.{cases_Bool, cases_lt, cond-true, cond-false, and_parts, and_from}
use Rattle.std.proofs.lemmas.Map.Keys.{IsDistinct-head, IsDistinct-tail, IsDistinct-cons, IsDistinct-push}
use Rattle.std.proofs.lemmas.Grind.{flat_map-append}
use Rattle.std.proofs.lemmas.List.Folds.{list_all-append}
use Rattle.std.proofs.lemmas.List.Elements.{All-cons, All-nil}
use Rattle.rdlpp_table.specs.Index.{names_of}
use Rattle.rdlpp_define.specs.Macros.{Macro, macro_size, list_size}
use Rattle.rdlpp_define.specs.Table.{table_size, without, place_named, macro_at, no_macro}
use Rattle.rdlpp_table.specs.Store.{macro_bytes, table_bytes, entry_of, entries_of, entry_end, body_start, list_start, macros_in, IsStored}
use Rattle.rdlpp_table.proofs.Sizes.{table_size-cons, stored_within, length_macro_bytes, length_table_bytes, length_offsets-cons, offsets_len_of, no_offsets, few_offsets, few_offsets_in, length_macros_in, entry_of_macro}
use Rattle.rdlpp_table.specs.declared.entry.Entry.{Entry}
use Rattle.rdlpp_define.specs.Plain.{is_plain_macro}
use Rattle.rdlpp_table.specs.FormalOffsets.{macro_offsets, table_offsets}
use Rattle.rdlpp_table.specs.Entries.{offsets_len, moved_down, moved_up, AreAfter, AreLow}

-- The macros but the one of a name: what stays, and that it is the list without one place.

kept_all : (P : List ℕ → Type 0) (keep : Macro → Bool) (ms : List Macro) → AllByRecursion P (names_of ms) → AllByRecursion P (names_of (filter keep ms))
kept_all P keep [] h = h
kept_all P keep (m ∷ ms) h = grind (arith, (kept_all P keep ms h.1))

kept_distinct : (keep : Macro → Bool) (ms : List Macro) → IsDistinct bytes_eq (names_of ms) → IsDistinct bytes_eq (names_of (filter keep ms))
kept_distinct keep [] h = h
kept_distinct keep (m ∷ ms) h =
    elim (keep m) as (λ b. IsDistinct bytes_eq (names_of (cond b (m ∷ filter keep ms) (filter keep ms)))) [
      | true ↦ IsDistinct-cons bytes_eq m.name (names_of (filter keep ms)) (kept_all (λ y. bytes_eq m.name y ≡ false) keep ms (IsDistinct-head bytes_eq m.name (names_of ms) h)) (kept_distinct keep ms (IsDistinct-tail bytes_eq m.name (names_of ms) h))
      | false ↦ kept_distinct keep ms (IsDistinct-tail bytes_eq m.name (names_of ms) h)
    ]

kept_size : (keep : Macro → Bool) (ms : List Macro) → table_size (filter keep ms) ≤ table_size ms
kept_size keep [] = omega arith
kept_size keep (m ∷ ms) = grind (arith, table_size-cons, (kept_size keep ms))

kept_length : (keep : Macro → Bool) (ms : List Macro) → length (filter keep ms) ≤ length ms
kept_length keep [] = omega arith
kept_length keep (m ∷ ms) = grind (arith, (kept_length keep ms))

pub without_distinct : (name : List ℕ) (ms : List Macro) → IsDistinct bytes_eq (map (λ m. m.name) ms) → IsDistinct bytes_eq (map (λ m. m.name) (without name ms))
unfolding without
without_distinct name ms h = kept_distinct _ ms h

pub without_size : (name : List ℕ) (ms : List Macro) → table_size (without name ms) ≤ table_size ms
unfolding without
without_size name ms = kept_size _ ms

pub without_length : (name : List ℕ) (ms : List Macro) → length (without name ms) ≤ length ms
unfolding without
without_length name ms = kept_length _ ms

-- the place of the first macro of a name, or the count
abbrev first_named : List ℕ → List Macro → ℕ
first_named name ms = position_or_len (λ m. bytes_eq m.name name) ms

-- where no name is equal to one, nothing goes
without_none : (name : List ℕ) (ms : List Macro) → AllByRecursion (λ y. bytes_eq y name ≡ false) (names_of ms) → without name ms ≡ ms
unfolding without
without_none name [] h = refl
without_none name (m ∷ ms) h =
    ap (λ (b : Bool). cond (not b) (m ∷ without name ms) (without name ms)) h.0 ∙ ap (λ (l : List Macro). m ∷ l) (without_none name ms h.1)

others_differ : (n name : List ℕ) (ms : List Macro) → bytes_eq n name ≡ true → AllByRecursion (λ y. bytes_eq n y ≡ false) (names_of ms) → AllByRecursion (λ y. bytes_eq y name ≡ false) (names_of ms)
others_differ n name [] e h = h
others_differ n name (m ∷ ms) e h =
    (nat_list_eq_equiv.symm m.name name ∙ (sym (nat_list_eq_equiv.congr n name m.name e) ∙ h.0), others_differ n name ms e h.1)

removed_first : (name : List ℕ) (ms : List Macro) → IsDistinct bytes_eq (names_of ms) → first_named name ms < length ms → without name ms ≡ remove ms (first_named name ms)
unfolding without
removed_first name [] d h = absurd (omega arith)
removed_first name (m ∷ ms) d h =
    elim (cases_Bool (bytes_eq m.name name)) [
      | inl e ↦
          ap (λ (b : Bool). cond (not b) (m ∷ without name ms) (without name ms)) e
          ∙ (without_none name ms (others_differ m.name name ms e (IsDistinct-head bytes_eq m.name (names_of ms) d))
          ∙ sym (ap (λ (b : Bool). remove (m ∷ ms) (cond (not b) (1 + first_named name ms) 0)) e))
      | inr e ↦
          let below : first_named name ms < length ms =
          let all : cond (not (bytes_eq m.name name)) (1 + first_named name ms) 0 ≡ 1 + first_named name ms = ap (λ (b : Bool). cond (not b) (1 + first_named name ms) 0) e in
          omega arith in
          ap (λ (b : Bool). cond (not b) (m ∷ without name ms) (without name ms)) e
          ∙ (ap (λ (l : List Macro). m ∷ l) (removed_first name ms (IsDistinct-tail bytes_eq m.name (names_of ms) d) below)
          ∙ sym (ap (λ (b : Bool). remove (m ∷ ms) (cond (not b) (1 + first_named name ms) 0)) e ∙ ap (remove (m ∷ ms)) (one-add (first_named name ms))))
    ]

all_differ : (name : List ℕ) (ms : List Macro) → length ms ≤ first_named name ms → AllByRecursion (λ y. bytes_eq y name ≡ false) (names_of ms)
all_differ name [] h = tt
all_differ name (m ∷ ms) h =
    elim (cases_Bool (bytes_eq m.name name)) [
      | inl e ↦
          let all : cond (not (bytes_eq m.name name)) (1 + first_named name ms) 0 ≡ 0 = ap (λ (b : Bool). cond (not b) (1 + first_named name ms) 0) e in
          absurd (omega arith)
      | inr e ↦
          let all : cond (not (bytes_eq m.name name)) (1 + first_named name ms) 0 ≡ 1 + first_named name ms = ap (λ (b : Bool). cond (not b) (1 + first_named name ms) 0) e in
          (e, all_differ name ms (omega arith))
    ]

-- the place found is the first one
first_from_place : (name : List ℕ) (ms : List Macro) (place : ℕ) → place_named ms name ≡ Some place → (first_named name ms ≡ place) × (first_named name ms < length ms)
first_from_place name ms place e = grind (arith, cases_lt, cond-true, lt-ltb, cond-false, le-ltb)

pub without_at : (name : List ℕ) (ms : List Macro) (place : ℕ) → IsDistinct bytes_eq (map (λ m. m.name) ms) → place_named ms name ≡ Some place → without name ms ≡ remove ms place
without_at name ms place d e = grind (arith, first_from_place, removed_first)

pub differ_nowhere : (name : List ℕ) (ms : List Macro) → place_named ms name ≡ None → AllByRecursion (λ y. bytes_eq y name ≡ false) (map (λ m. m.name) ms)
differ_nowhere name ms e = grind (arith, cases_lt, cond-true, lt-ltb, all_differ)

pub without_nowhere : (name : List ℕ) (ms : List Macro) → place_named ms name ≡ None → without name ms ≡ ms
without_nowhere name ms e = without_none name ms (differ_nowhere name ms e)

-- no macro of the name is left
none_named : (name : List ℕ) (ms : List Macro) → list_any (bytes_eq name) (names_of (without name ms)) ≡ false
unfolding without
none_named name [] = refl
none_named name (m ∷ ms) =
    elim (cases_Bool (bytes_eq m.name name)) [
      | inl e ↦ ap (λ (b : Bool). list_any (bytes_eq name) (names_of (cond (not b) (m ∷ without name ms) (without name ms)))) e ∙ none_named name ms
      | inr e ↦
          ap (λ (b : Bool). list_any (bytes_eq name) (names_of (cond (not b) (m ∷ without name ms) (without name ms)))) e
          ∙ (ap (λ (b : Bool). b || list_any (bytes_eq name) (names_of (without name ms))) (nat_list_eq_equiv.symm name m.name ∙ e) ∙ none_named name ms)
    ]

pub pushed_distinct : (m : Macro) (ms : List Macro) → IsDistinct bytes_eq (map (λ m. m.name) ms) → IsDistinct bytes_eq (map (λ m. m.name) (without m.name ms ++ m ∷ []))
pushed_distinct m ms d = grind (arith, map-append, IsDistinct-push, nat_list_eq_equiv, without_distinct, none_named)

-- A macro taken out of the lists in which a table lies.

pub length_entries_of : (start formal_offsets : ℕ) (ms : List Macro) → length (entries_of start formal_offsets ms) ≡ length ms
unfolding entries_of
length_entries_of start formal_offsets [] = refl
length_entries_of start formal_offsets (m ∷ ms) = ap suc (length_entries_of (start + macro_size m) (formal_offsets + length (macro_offsets m)) ms)

pub entries_of-append : (start formal_offsets : ℕ) (xs ys : List Macro) → entries_of start formal_offsets (xs ++ ys) ≡ entries_of start formal_offsets xs ++ entries_of (start + table_size xs) (formal_offsets + length (table_offsets xs)) ys
unfolding entries_of table_size
entries_of-append start formal_offsets [] ys =
    ap (λ (n : ℕ). entries_of n formal_offsets ys) (sym (add-zero start)) ∙ ap (λ (n : ℕ). entries_of (start + 0) n ys) (let e : formal_offsets ≡ formal_offsets + length (table_offsets []) = omega (arith, no_offsets) in e)
entries_of-append start formal_offsets (x ∷ xs) ys =
    let k : ℕ = formal_offsets + length (macro_offsets x) in
    grind (arith, table_size-cons, length_offsets-cons, (entries_of-append (start + macro_size x) k xs ys))

pub table_offsets-append : (xs ys : List Macro) → table_offsets (xs ++ ys) ≡ table_offsets xs ++ table_offsets ys
unfolding table_offsets
table_offsets-append xs ys = flat_map-append macro_offsets xs ys

pub table_offsets-cons : (m : Macro) (ys : List Macro) → table_offsets (m ∷ ys) ≡ macro_offsets m ++ table_offsets ys
unfolding table_offsets
table_offsets-cons m ys = refl

pub table_bytes-append : (xs ys : List Macro) → table_bytes (xs ++ ys) ≡ table_bytes xs ++ table_bytes ys
unfolding table_bytes
table_bytes-append xs ys = flat_map-append macro_bytes xs ys

pub table_bytes-cons : (m : Macro) (ys : List Macro) → table_bytes (m ∷ ys) ≡ macro_bytes m ++ table_bytes ys
unfolding table_bytes
table_bytes-cons m ys = refl

moved_entry : (n size k formal_offsets : ℕ) (m : Macro) → moved_down size formal_offsets (entry_of (n + size) (k + formal_offsets) m) ≡ entry_of n k m
unfolding moved_down entry_of
moved_entry n size k formal_offsets m = grind arith

moved_entries : (n size k formal_offsets : ℕ) (ys : List Macro) → map (moved_down size formal_offsets) (entries_of (n + size) (k + formal_offsets) ys) ≡ entries_of n k ys
unfolding entries_of
moved_entries n size k formal_offsets [] = refl
moved_entries n size k formal_offsets (y ∷ ys) =
    let j : ℕ = length (macro_offsets y) in
    grind (arith, moved_entry, (moved_entries (n + macro_size y) size (k + j) formal_offsets ys))

start_of : (n k : ℕ) (m : Macro) → (entry_of n k m).start ≡ n
unfolding entry_of
start_of n k m = refl

pub offsets_at : (n k : ℕ) (m : Macro) → (entry_of n k m).formal_offsets ≡ k
unfolding entry_of
offsets_at n k m = refl

starts_after : (low few n k : ℕ) (ms : List Macro) → low ≤ n → few ≤ k → All (λ e. (low ≤ e.start) × (few ≤ e.formal_offsets)) (entries_of n k ms)
unfolding entries_of
starts_after low few n k [] h g = All-nil _
starts_after low few n k (m ∷ ms) h g =
    grind (arith, All-cons, start_of, offsets_at, (starts_after low few (n + macro_size m) (k + length (macro_offsets m)) ms (omega arith) (omega arith)))

-- a part of a text between two others
pub between_parts : (a b c : List ℕ) (i j : ℕ) → length a ≡ i → i + length b ≡ j → slice_range (a ++ (b ++ c)) i j ≡ b
between_parts a b c i j p q =
    ap (take (j - i)) (drop_at a (b ++ c) i p) ∙ take_at b c (j - i) (omega arith)

-- a list without a part between two others
pub cut_middle : (a b c : List ℕ) (i j : ℕ) → length a ≡ i → i + length b ≡ j → remove_range (a ++ (b ++ c)) i j ≡ a ++ c
cut_middle a b c i j e f =
    ap (λ (l : List ℕ). l ++ drop j (a ++ (b ++ c))) (take_at a (b ++ c) i e)
    ∙ ap (λ (l : List ℕ). a ++ l) (ap (drop j) (sym (append_assoc a b c)) ∙ drop_at (a ++ b) c j (omega (arith, length-append a b)))

-- without the element at the end of a front
removed_between : {A : Type 0} (front : List A) (x : A) (back : List A) (n : ℕ) → length front ≡ n → remove (front ++ x ∷ back) n ≡ front ++ back
removed_between front x back n e =
    let one : length (front ++ x ∷ []) ≡ suc n = omega (arith, length-append front (x ∷ [])) in
    ap (λ (l : List _). l ++ drop (suc n) (front ++ x ∷ back)) (take_at front (x ∷ back) n e)
    ∙ ap (λ (l : List _). front ++ l) (ap (drop (suc n)) (sym (append_assoc front (x ∷ []) back)) ∙ drop_at (front ++ x ∷ []) back (suc n) one)

-- macros round one of them
pub split_at : (ms : List Macro) (place : ℕ) → place < length ms → ms ≡ take place ms ++ macro_at ms place ∷ drop (place + 1) ms
split_at ms place h = sym (take-append-drop place ms) ∙ ap (λ (l : List Macro). take place ms ++ l) (drop_more ms place no_macro h)

-- the bytes of macros after what is given up
pub whole_bytes : {from ahead : ℕ} (bytes : List ℕ) (entries : List Entry) (ms : List Macro) → IsStored from ahead bytes entries ms → bytes ≡ take from bytes ++ table_bytes ms
whole_bytes {from = from} bytes entries ms s = sym (take-append-drop from bytes) ∙ ap (λ (l : List ℕ). take from bytes ++ l) s.bytes_are

-- the same, round one of them
pub bytes_round : (from : ℕ) (bytes : List ℕ) (ms : List Macro) (place : ℕ) → bytes ≡ take from bytes ++ table_bytes ms → place < length ms → bytes ≡ (take from bytes ++ table_bytes (take place ms)) ++ (macro_bytes (macro_at ms place) ++ table_bytes (drop (place + 1) ms))
bytes_round from bytes ms place e h =
    let xs : List Macro = take place ms in
    let m : Macro = macro_at ms place in
    let ys : List Macro = drop (place + 1) ms in
    e
    ∙ (ap (λ (l : List ℕ). take from bytes ++ l) (ap table_bytes (split_at ms place h) ∙ (table_bytes-append xs (m ∷ ys) ∙ ap (λ (l : List ℕ). table_bytes xs ++ l) (table_bytes-cons m ys)))
    ∙ sym (append_assoc (take from bytes) (table_bytes xs) _))

plain_left : (ms : List Macro) (place : ℕ) → place < length ms → list_all is_plain_macro ms ≡ true → list_all is_plain_macro (take place ms ++ drop (place + 1) ms) ≡ true
plain_left ms place h plain =
    let xs : List Macro = take place ms in
    let m : Macro = macro_at ms place in
    let ys : List Macro = drop (place + 1) ms in
    let p = and_parts (list_all is_plain_macro xs) (list_all is_plain_macro (m ∷ ys)) (sym (list_all-append is_plain_macro xs (m ∷ ys)) ∙ (ap (list_all is_plain_macro) (sym (split_at ms place h)) ∙ plain)) in
    list_all-append is_plain_macro xs ys ∙ and_from _ _ p.0 (and_parts (is_plain_macro m) (list_all is_plain_macro ys) p.1).1

-- the entries round one of them
entries_between : (from ahead : ℕ) (entries : List Entry) (xs : List Macro) (m : Macro) (ys : List Macro) → entries ≡ entries_of from ahead (xs ++ m ∷ ys) → entries ≡ entries_of from ahead xs ++ entry_of (from + table_size xs) (ahead + length (table_offsets xs)) m ∷ entries_of (from + table_size xs + macro_size m) (ahead + length (table_offsets xs) + length (macro_offsets m)) ys
unfolding entries_of
entries_between from ahead entries xs m ys e = e ∙ entries_of-append from ahead xs (m ∷ ys)

-- what the entry that was taken out says, and what the entries without it are
pub record Taken (from ahead : ℕ) (entries rest : List Entry) (entry : Entry) (ms : List Macro) (place size formal_offsets : ℕ) : Type 0 where
  pub start : entry.start ≡ from + table_size (take place ms)
  pub size_is : size ≡ macro_size (macro_at ms place)
  pub offsets_from : entry.formal_offsets ≡ ahead + length (table_offsets (take place ms))
  pub offsets_are : formal_offsets ≡ length (macro_offsets (macro_at ms place))
  pub front : take place rest ≡ entries_of from ahead (take place ms)
  pub back : drop place rest ≡ entries_of (from + table_size (take place ms) + macro_size (macro_at ms place)) (ahead + length (table_offsets (take place ms)) + length (macro_offsets (macro_at ms place))) (drop (place + 1) ms)

pub size_of_entry : (n k : ℕ) (m : Macro) → (entry_of n k m).name_len + (entry_of n k m).list_len + (entry_of n k m).body_len ≡ macro_size m
unfolding entry_of list_size macro_size
size_of_entry n k m = omega arith

pub taken : (from ahead : ℕ) (entries rest : List Entry) (entry : Entry) (ms : List Macro) (place size formal_offsets : ℕ) → entries ≡ entries_of from ahead ms → place < length ms → entry ≡ get_or entries place entry → rest ≡ remove entries place → size ≡ entry.name_len + entry.list_len + entry.body_len → formal_offsets ≡ offsets_len entry → Taken from ahead entries rest entry ms place size formal_offsets
taken from ahead entries rest entry ms place size formal_offsets e h q r z f =
    let xs : List Macro = take place ms in
    let m : Macro = macro_at ms place in
    let ys : List Macro = drop (place + 1) ms in
    let k : ℕ = length (table_offsets xs) in
    let n : length (entries_of from ahead xs) ≡ place = length_entries_of from ahead xs ∙ length-take-le place ms (omega arith) in
    let is : entry ≡ entry_of (from + table_size xs) (ahead + k) m = q ∙ (ap (λ (es : List Entry). get_or es place entry) e ∙ entry_of_macro from ahead ms place entry h) in
    let around : rest ≡ entries_of from ahead xs ++ entries_of (from + table_size xs + macro_size m) (ahead + k + length (macro_offsets m)) ys =
    r ∙ (ap (λ (es : List Entry). remove es place) (entries_between from ahead entries xs m ys (e ∙ ap (entries_of from ahead) (split_at ms place h))) ∙ removed_between (entries_of from ahead xs) _ _ place n) in
    record {
      start = ap (λ (x : Entry). x.start) is ∙ start_of (from + table_size xs) (ahead + k) m;
      size_is = z ∙ (ap (λ (x : Entry). x.name_len + x.list_len + x.body_len) is ∙ size_of_entry (from + table_size xs) (ahead + k) m);
      offsets_from = ap (λ (x : Entry). x.formal_offsets) is ∙ offsets_at (from + table_size xs) (ahead + k) m;
      offsets_are = f ∙ (ap offsets_len is ∙ offsets_len_of (from + table_size xs) (ahead + k) m);
      front = ap (take place) around ∙ take_at (entries_of from ahead xs) _ place n;
      back = ap (drop place) around ∙ drop_at (entries_of from ahead xs) _ place n;
    }

removed_parts : (ms : List Macro) (place : ℕ) → remove ms place ≡ take place ms ++ drop (place + 1) ms
removed_parts ms place = ap (λ (k : ℕ). take place ms ++ drop k ms) (sym (add-one place))

-- what is left of the lists once those after a macro came to the front
pub taken_stored : {from ahead : ℕ} (bytes : List ℕ) (entries rest : List Entry) (entry : Entry) (ms : List Macro) (place size formal_offsets : ℕ) (bytes' : List ℕ) (entries' : List Entry) → IsStored from ahead bytes entries ms → Taken from ahead entries rest entry ms place size formal_offsets → place < length ms → bytes' ≡ remove_range bytes entry.start (entry.start + size) → entries' ≡ take place rest ++ map (moved_down size formal_offsets) (drop place rest) → IsStored from ahead bytes' entries' (remove ms place)
taken_stored {from = from} {ahead = ahead} bytes entries rest entry ms place size formal_offsets bytes' entries' s t h b e =
    let xs : List Macro = take place ms in
    let m : Macro = macro_at ms place in
    let ys : List Macro = drop (place + 1) ms in
    let before : List ℕ = take from bytes in
    let long : length before ≡ from = length-take-le from bytes s.inside in
    let till : length (before ++ table_bytes xs) ≡ entry.start = omega (arith, length-append before (table_bytes xs), length_table_bytes xs, t.start) in
    let left : bytes' ≡ before ++ (table_bytes xs ++ table_bytes ys) =
    b
    ∙ (ap (λ (bs : List ℕ). remove_range bs entry.start (entry.start + size)) (bytes_round from bytes ms place (whole_bytes bytes entries ms s) h)
    ∙ (cut_middle (before ++ table_bytes xs) (macro_bytes m) (table_bytes ys) _ _ till (omega (arith, length_macro_bytes m, t.size_is))
    ∙ append_assoc before (table_bytes xs) (table_bytes ys))) in
    let k : ℕ = ahead + length (table_offsets xs) in
    let moved : map (moved_down size formal_offsets) (drop place rest) ≡ entries_of (from + table_size xs) k ys =
    ap (map (moved_down size formal_offsets)) t.back
    ∙ (ap (λ (i : ℕ). map (moved_down i formal_offsets) (entries_of (from + table_size xs + macro_size m) (k + length (macro_offsets m)) ys)) t.size_is
    ∙ (ap (λ (i : ℕ). map (moved_down (macro_size m) i) (entries_of (from + table_size xs + macro_size m) (k + length (macro_offsets m)) ys)) t.offsets_are
    ∙ moved_entries (from + table_size xs) (macro_size m) k (length (macro_offsets m)) ys)) in
    record {
      inside = omega (arith, ap (length {A = ℕ}) left, length-append before (table_bytes xs ++ table_bytes ys));
      few = s.few;
      bytes_are = ap (drop from) left ∙ (drop_at before _ from long ∙ (sym (table_bytes-append xs ys) ∙ ap table_bytes (sym (removed_parts ms place))));
      entries_are =
          e
          ∙ (ap (λ (l : List Entry). l ++ map (moved_down size formal_offsets) (drop place rest)) t.front
          ∙ (ap (λ (l : List Entry). entries_of from ahead xs ++ l) moved
          ∙ (sym (entries_of-append from ahead xs ys) ∙ ap (entries_of from ahead) (sym (removed_parts ms place)))));
      plain = ap (list_all is_plain_macro) (removed_parts ms place) ∙ plain_left ms place h s.plain;
    }

raised_entry : (n size k formal_offsets : ℕ) (m : Macro) → moved_up size formal_offsets (entry_of n k m) ≡ entry_of (n + size) (k + formal_offsets) m
unfolding moved_up entry_of
raised_entry n size k formal_offsets m = refl

raised_entries : (n size k formal_offsets : ℕ) (xs : List Macro) → map (moved_up size formal_offsets) (entries_of n k xs) ≡ entries_of (n + size) (k + formal_offsets) xs
unfolding entries_of
raised_entries n size k formal_offsets [] = refl
raised_entries n size k formal_offsets (x ∷ xs) =
    let j : ℕ = length (macro_offsets x) in
    grind (arith, raised_entry, (raised_entries (n + macro_size x) size (k + j) formal_offsets xs))

-- what is left of the lists once those before a macro came to the back, over it
pub covered_stored : {from ahead : ℕ} (bytes : List ℕ) (entries rest : List Entry) (entry : Entry) (ms : List Macro) (place size formal_offsets : ℕ) (bytes' : List ℕ) (entries' : List Entry) → IsStored from ahead bytes entries ms → Taken from ahead entries rest entry ms place size formal_offsets → place < length ms → drop (from + size) bytes' ≡ slice_range bytes from entry.start ++ drop (entry.start + size) bytes → length bytes' ≡ length bytes → entries' ≡ map (moved_up size formal_offsets) (take place rest) ++ drop place rest → IsStored (from + size) (ahead + formal_offsets) bytes' entries' (remove ms place)
covered_stored {from = from} {ahead = ahead} bytes entries rest entry ms place size formal_offsets bytes' entries' s t h b l e =
    let xs : List Macro = take place ms in
    let m : Macro = macro_at ms place in
    let ys : List Macro = drop (place + 1) ms in
    let before : List ℕ = take from bytes in
    let long : length before ≡ from = length-take-le from bytes s.inside in
    let till : length (before ++ table_bytes xs) ≡ entry.start = omega (arith, length-append before (table_bytes xs), length_table_bytes xs, t.start) in
    let round : bytes ≡ (before ++ table_bytes xs) ++ (macro_bytes m ++ table_bytes ys) = bytes_round from bytes ms place (whole_bytes bytes entries ms s) h in
    let past : length ((before ++ table_bytes xs) ++ macro_bytes m) ≡ entry.start + size = omega (arith, till, length-append (before ++ table_bytes xs) (macro_bytes m), length_macro_bytes m, t.size_is) in
    let all : length bytes ≡ entry.start + size + length (table_bytes ys) = omega (arith, ap (length {A = ℕ}) round, till, length-append (before ++ table_bytes xs) (macro_bytes m ++ table_bytes ys), length-append (macro_bytes m) (table_bytes ys), length_macro_bytes m, t.size_is) in
    let moved : slice_range bytes from entry.start ≡ table_bytes xs =
    ap (λ (bs : List ℕ). slice_range bs from entry.start) (round ∙ append_assoc before (table_bytes xs) _)
    ∙ between_parts before (table_bytes xs) _ from entry.start long (omega (arith, t.start, length_table_bytes xs)) in
    let following : drop (entry.start + size) bytes ≡ table_bytes ys =
    ap (drop (entry.start + size)) (round ∙ sym (append_assoc (before ++ table_bytes xs) (macro_bytes m) (table_bytes ys)))
    ∙ drop_at ((before ++ table_bytes xs) ++ macro_bytes m) (table_bytes ys) _ past in
    let k : ℕ = ahead + formal_offsets + length (table_offsets xs) in
    let raised : map (moved_up size formal_offsets) (take place rest) ≡ entries_of (from + size) (ahead + formal_offsets) xs =
    ap (map (moved_up size formal_offsets)) t.front ∙ raised_entries from size ahead formal_offsets xs in
    let stay : drop place rest ≡ entries_of (from + size + table_size xs) k ys =
    t.back
    ∙ (ap (λ (i : ℕ). entries_of i (ahead + length (table_offsets xs) + length (macro_offsets m)) ys) (omega (arith, t.size_is))
    ∙ ap (λ (i : ℕ). entries_of (from + size + table_size xs) i ys) (omega (arith, t.offsets_are))) in
    grind (arith, few_offsets_in, table_bytes-append, removed_parts, entries_of-append, plain_left)

-- what is left of the lists once all came to the front
pub settled_stored : {from ahead : ℕ} (bytes : List ℕ) (entries : List Entry) (ms : List Macro) (bytes' : List ℕ) (entries' : List Entry) → IsStored from ahead bytes entries ms → bytes' ≡ remove_range bytes 0 from → entries' ≡ map (moved_down from ahead) entries → IsStored 0 0 bytes' entries' ms
settled_stored {from = from} {ahead = ahead} bytes entries ms bytes' entries' s b e =
    record {
      inside = omega arith;
      few = omega arith;
      bytes_are = b ∙ s.bytes_are;
      entries_are =
          e
          ∙ (ap (map (moved_down from ahead)) s.entries_are
          ∙ (ap (λ (i : ℕ). map (moved_down from ahead) (entries_of i ahead ms)) (sym (zero-add from))
          ∙ (ap (λ (i : ℕ). map (moved_down from ahead) (entries_of (0 + from) i ms)) (sym (zero-add ahead))
          ∙ moved_entries 0 from 0 ahead ms)));
      plain = s.plain;
    }

-- each entry lies after what is given up
pub stored_after : {from ahead : ℕ} (bytes : List ℕ) (entries : List Entry) (ms : List Macro) → IsStored from ahead bytes entries ms → AreAfter from ahead entries
stored_after {from = from} {ahead = ahead} bytes entries ms s = grind (arith, starts_after)

pub taken_after : {from ahead : ℕ} (entries rest : List Entry) (entry : Entry) (ms : List Macro) (place size formal_offsets : ℕ) → Taken from ahead entries rest entry ms place size formal_offsets → AreAfter size formal_offsets (drop place rest)
taken_after entries rest entry ms place size formal_offsets t =
    rw (t.back, t.size_is, t.offsets_are) (starts_after (macro_size (macro_at ms place)) (length (macro_offsets (macro_at ms place))) _ _ _ (omega arith) (omega arith))

low_entries : (n k last most : ℕ) (ms : List Macro) → n + table_size ms ≤ last → k + length (table_offsets ms) ≤ most → All (λ e. (e.start ≤ last) × (e.formal_offsets ≤ most)) (entries_of n k ms)
unfolding entries_of
low_entries n k last most [] h g = All-nil _
low_entries n k last most (m ∷ ms) h g =
    grind (arith, All-cons, start_of, offsets_at, table_size-cons, length_offsets-cons, (low_entries (n + macro_size m) (k + length (macro_offsets m)) last most ms (omega (arith, h, table_size-cons m ms)) (omega (arith, g, length_offsets-cons m ms))))

pub end_within : {from ahead : ℕ} (bytes : List ℕ) (entries : List Entry) (ms : List Macro) (place : ℕ) (entry : Entry) → IsStored from ahead bytes entries ms → place < length entries → entry ≡ get_or entries place entry → entry.start + (entry.name_len + entry.list_len + entry.body_len) ≤ length bytes
unfolding entry_end body_start list_start
end_within bytes entries ms place entry s h q = grind (arith, stored_within)

-- the macro at a place after what is given up
pub taken_live : {from ahead : ℕ} (bytes : List ℕ) (items : List Entry) (front place : ℕ) (entry : Entry) (size formal_offsets : ℕ) → IsStored from ahead bytes (drop front items) (macros_in bytes (drop front items)) → place < length (drop front items) → entry ≡ get_or items (front + place) entry → size ≡ entry.name_len + entry.list_len + entry.body_len → formal_offsets ≡ offsets_len entry → Taken from ahead (drop front items) (remove (drop front items) place) entry (macros_in bytes (drop front items)) place size formal_offsets
taken_live {from = from} {ahead = ahead} bytes items front place entry size formal_offsets s h q z f =
    taken from ahead (drop front items) _ entry _ place size formal_offsets s.entries_are (omega (arith, h, length_macros_in bytes (drop front items))) (q ∙ sym (get_or-drop front items place entry)) refl z f

-- what its numbers are between
pub record IsRanged (from ahead len : ℕ) (entry : Entry) (size formal_offsets : ℕ) : Type 0 where
  pub start : from ≤ entry.start
  pub end : entry.start + size ≤ len
  pub following : ahead ≤ entry.formal_offsets
  pub few : entry.formal_offsets + formal_offsets ≤ entry.start + size

pub taken_range : {from ahead : ℕ} (bytes : List ℕ) (items : List Entry) (front place : ℕ) (entry : Entry) (size formal_offsets : ℕ) → IsStored from ahead bytes (drop front items) (macros_in bytes (drop front items)) → place < length (drop front items) → entry ≡ get_or items (front + place) entry → size ≡ entry.name_len + entry.list_len + entry.body_len → formal_offsets ≡ offsets_len entry → IsRanged from ahead (length bytes) entry size formal_offsets
taken_range {from = from} bytes items front place entry size formal_offsets s h q z f =
    let ms : List Macro = macros_in bytes (drop front items) in
    let t = taken_live bytes items front place entry size formal_offsets s h q z f in
    let inside : place < length ms = omega (arith, h, length_macros_in bytes (drop front items)) in
    grind (arith, end_within, get_or-drop, few_offsets, few_offsets_in)

-- the entries before it can be moved up
pub taken_low : {from ahead : ℕ} (bytes : List ℕ) (items : List Entry) (front place : ℕ) (entry : Entry) (size formal_offsets : ℕ) → IsStored from ahead bytes (drop front items) (macros_in bytes (drop front items)) → place < length (drop front items) → entry ≡ get_or items (front + place) entry → size ≡ entry.name_len + entry.list_len + entry.body_len → formal_offsets ≡ offsets_len entry → length bytes < 2 ^ 32 → AreLow size formal_offsets (take place (remove (drop front items) place))
taken_low {from = from} {ahead = ahead} bytes items front place entry size formal_offsets s h q z f n =
    let ms : List Macro = macros_in bytes (drop front items) in
    let t = taken_live bytes items front place entry size formal_offsets s h q z f in
    let r = taken_range bytes items front place entry size formal_offsets s h q z f in
    let P : List Entry → Type 0 = λ l. AreLow size formal_offsets l in
    let low : All (λ e. (e.start ≤ entry.start) × (e.formal_offsets ≤ entry.formal_offsets)) (entries_of from ahead (take place ms)) =
    low_entries from ahead entry.start entry.formal_offsets (take place ms) (omega (arith, t.start)) (omega (arith, t.offsets_from)) in
    grind arith

-- the offsets of the macros that stay
pub taken_offsets : {from ahead : ℕ} (formal_offsets : List ℕ) (entries rest : List Entry) (entry : Entry) (ms : List Macro) (place size count : ℕ) → formal_offsets ≡ table_offsets ms → Taken from ahead entries rest entry ms place size count → place < length ms → remove_range formal_offsets (entry.formal_offsets - ahead) (entry.formal_offsets - ahead + count) ≡ table_offsets (remove ms place)
taken_offsets {ahead = ahead} formal_offsets entries rest entry ms place size count d t h =
    let xs : List Macro = take place ms in
    let m : Macro = macro_at ms place in
    let ys : List Macro = drop (place + 1) ms in
    let whole : formal_offsets ≡ table_offsets xs ++ (macro_offsets m ++ table_offsets ys) =
    d ∙ (ap table_offsets (split_at ms place h) ∙ (table_offsets-append xs (m ∷ ys) ∙ ap (λ (x : List ℕ). table_offsets xs ++ x) (table_offsets-cons m ys))) in
    grind (arith, table_offsets-append, cut_middle, add-one)

-- the offsets of an entry lie among those of all
pub offsets_within : {from ahead : ℕ} (entries rest : List Entry) (entry : Entry) (ms : List Macro) (place size formal_offsets : ℕ) → Taken from ahead entries rest entry ms place size formal_offsets → place < length ms → entry.formal_offsets - ahead + formal_offsets ≤ length (table_offsets ms)
offsets_within entries rest entry ms place size formal_offsets t h =
    omega (arith, t.offsets_from, t.offsets_are, ap (λ (l : List Macro). length (table_offsets l)) (split_at ms place h), ap (length {A = ℕ}) (table_offsets-append (take place ms) (macro_at ms place ∷ drop (place + 1) ms)), length-append (table_offsets (take place ms)) (table_offsets (macro_at ms place ∷ drop (place + 1) ms)), length_offsets-cons (macro_at ms place) (drop (place + 1) ms))

pub bytes_fit : (v : Vec ℕ Global) → length v.items < 2 ^ 63
bytes_fit v = omega (arith, v.ok.0, v.ok.1, v.small)

pub capacity_small : (v : Vec ℕ Global) → vec_capacity v < 2 ^ 63
capacity_small v = omega (arith, v.small)
