-- The formals of a macro, as a table has them and by their shapes.
use Rattle.std.proofs.Common.{◌≡◌, ℕ, ◌+◌, ◌-◌, ◌*◌, ◌/◌, ◌%◌, ◌≤◌, Bool, true, false, not, eqb, nat_eq, inl, inr, List, [], ◌∷◌, ◌++◌, bytes_eq, length, take, drop, get_or, refl, ap, sym, ◌∙◌, arith, rules, length-append, length-drop, eq-eqb, suc, ◌<◌, cond, Option, Some, None, option_map, zero, sum_by, subst, append_assoc, length-take, add-zero, set, is_some, ⊎_elim, flat_map, eqb-true, le-ltb, lt-ltb, append-nil, drop-drop, drop_at, get_or-drop, get_or-set_other, get_or-set_same, length-set, length-take-le, take-append-drop, take_all, take_at}
use Rattle.std.specs.Cmp.{unsigned_Decides}
use Rattle.std.specs.List.{list_all, prefix_len, starts_with}
use Rattle.std.proofs.lemmas.Bool.{and_parts, cases_Bool, cases_eq, cases_lt, cond-false, cond-true, false≢true}
use Rattle.std.proofs.lemmas.Bool.Decides.{leb_tells}
use Rattle.std.proofs.lemmas.Grind.{flat_map-append}
use Rattle.std.proofs.lemmas.List.{drop_more, get_or_past, take_more}
use Rattle.std.proofs.lemmas.List.Sums.{prefix_len-le-length, prefix_len_stops, sum_by-append, sum_by-cons, sum_by-take-drop}
use Rattle.std.proofs.lemmas.Slice.Eq.{bytes_eq-Decides, starts_is}
use Rattle.rdlpp_table.specs.FormalOffsets.{end_in, halves, has_offsets, offset_in, offsets_of, starts_of}
use Rattle.rdlpp_table.specs.Shapes.{AreShapes, shape, shapes_of}
use Rattle.rdlpp_table.specs.Store.{AreStoredFormals, StoredFormal, formal_after, formal_read, formals_read}
use Rattle.rdlpp_define.specs.Plain.{is_name_byte, is_plain_formal}
use Rattle.rdlpp_define.specs.Macros.{Formal, default_bytes, formal_bytes, formal_size}
use Rattle.rdlpp_define.specs.Table.{formal_at, formal_named}
use Rattle.rdlpp_table.proofs.RoundTrip.{count_read, read_formal}
use Rattle.rdlpp_define.proofs.Sizes.{length_formal_bytes, length_list_bytes}
use Rattle.rdlpp_table.proofs.Sizes.{length_halves, length_start_halves, length_starts, position_first}

-- What is told of the formal with which bytes begin, from the bytes of its name and from its size.

-- the name of the formal is what begins the bytes, up to what is no byte of a name
pub name_is : (bytes : List ℕ) → (formal_read bytes).formal.name ≡ take (prefix_len is_name_byte bytes) bytes
unfolding formal_read formal_after
name_is bytes = search rules

-- the name has as many bytes as begin the bytes, up to what is no byte of a name
name_length : (bytes : List ℕ) → length (formal_read bytes).formal.name ≡ prefix_len is_name_byte bytes
name_length bytes = ap length (name_is bytes) ∙ length-take-le _ bytes (prefix_len-le-length is_name_byte bytes)

-- a test that tells whether two texts are the same is their comparison
pub compared : (b : Bool) (xs ys : List ℕ) → (b ≡ true → xs ≡ ys) → (xs ≡ ys → b ≡ true) → b ≡ bytes_eq xs ys
compared true xs ys f g = sym ((bytes_eq-Decides xs ys).1 (f refl))
compared false xs ys f g = grind (arith, cases_Bool, bytes_eq-Decides)

-- after the name no name goes on
pub name_ended : (bytes name : List ℕ) → (formal_read bytes).formal.name ≡ name → not (is_name_byte (get_or bytes (length name) 44)) ≡ true
unfolding is_name_byte
name_ended bytes name e = grind (arith, name_length, leb_tells, get_or_past, prefix_len_stops)

-- and the bytes begin with the name
pub name_starts : (bytes name : List ℕ) (starts : Bool) → starts ≡ starts_with nat_eq bytes name → (formal_read bytes).formal.name ≡ name → starts ≡ true
name_starts bytes name starts s e =
    let p : ℕ = prefix_len is_name_byte bytes in
    (starts_is unsigned_Decides bytes name starts s).1 (drop p bytes) (sym (take-append-drop p bytes) ∙ ap (λ (l : List ℕ). l ++ drop p bytes) (sym (name_is bytes) ∙ e))

-- bytes that begin with a name of the formal's size begin with the formal's name
pub started_name : (bytes name : List ℕ) (starts : Bool) → starts ≡ starts_with nat_eq bytes name → starts ≡ true → prefix_len is_name_byte bytes ≡ length name → (formal_read bytes).formal.name ≡ name
started_name bytes name starts s h n =
    name_is bytes
    ∙ (ap (λ (k : ℕ). take k bytes) n
    ∙ (ap (take (length name)) ((starts_is unsigned_Decides bytes name starts s).0 h)
    ∙ take_at name (drop (length name) bytes) (length name) refl))

-- so the comparison is that of the sizes where the bytes begin with the name
pub named_by_size : (bytes name : List ℕ) (starts : Bool) (len : ℕ) → starts ≡ starts_with nat_eq bytes name → starts ≡ true → len ≡ prefix_len is_name_byte bytes → eqb len (length name) ≡ bytes_eq (formal_read bytes).formal.name name
named_by_size bytes name starts len s h n =
    compared (eqb len (length name)) (formal_read bytes).formal.name name
    (λ e. started_name bytes name starts s h (sym n ∙ eqb-true len (length name) e))
    (λ e. eq-eqb len (length name) (n ∙ (sym (name_length bytes) ∙ ap length e)))

-- after the name of a formal with nothing after it are its default text and its comma
after_name : (bytes : List ℕ) → formal_bytes (formal_read bytes).formal ≡ bytes → drop (prefix_len is_name_byte bytes) bytes ≡ default_bytes (formal_read bytes).formal.text ++ 44 ∷ []
unfolding formal_bytes
after_name bytes h =
    let f : Formal = (formal_read bytes).formal in
    ap (drop (prefix_len is_name_byte bytes)) (sym h) ∙ drop_at f.name (default_bytes f.text ++ 44 ∷ []) (prefix_len is_name_byte bytes) (name_length bytes)

-- after the name, where an `=` stands, there are it, the default text and the comma
with_default : (text rest : List ℕ) → rest ≡ default_bytes text ++ 44 ∷ [] → get_or rest 0 44 ≡ 61 → rest ≡ 61 ∷ (text ++ 44 ∷ [])
unfolding default_bytes
with_default [] rest e h = absurd (let a : 44 ≡ 61 = ap (λ (l : List ℕ). get_or l 0 44) (sym e) ∙ h in omega (arith, a))
with_default (b ∷ bs) rest e h = e

-- and where no `=` stands there is no default text
without_default : (text rest : List ℕ) → rest ≡ default_bytes text ++ 44 ∷ [] → (get_or rest 0 44 ≡ 61 → ⊥) → [] ≡ text
unfolding default_bytes
without_default [] rest e h = refl
without_default (b ∷ bs) rest e h = absurd (h (ap (λ (l : List ℕ). get_or l 0 44) e))

-- the first byte after so many is the one at that place
first_after_name : (bytes : List ℕ) (n : ℕ) → get_or (drop n bytes) 0 44 ≡ get_or bytes n 44
first_after_name bytes n = get_or-drop n bytes 0 44 ∙ ap (λ (k : ℕ). get_or bytes k 44) (let e : n + 0 ≡ n = omega arith in e)

-- the same of the bytes after the name of a formal
default_after : (bytes : List ℕ) (n : ℕ) → formal_bytes (formal_read bytes).formal ≡ bytes → n ≡ prefix_len is_name_byte bytes → get_or bytes n 44 ≡ 61 → drop n bytes ≡ 61 ∷ ((formal_read bytes).formal.text ++ 44 ∷ [])
default_after bytes n h e g =
    with_default (formal_read bytes).formal.text (drop n bytes) (ap (λ (k : ℕ). drop k bytes) e ∙ after_name bytes h) (first_after_name bytes n ∙ g)

-- so the bytes are those of the name and the default text, and two more
default_size_after : (bytes : List ℕ) (n : ℕ) → formal_bytes (formal_read bytes).formal ≡ bytes → n ≡ prefix_len is_name_byte bytes → get_or bytes n 44 ≡ 61 → length bytes ≡ n + length (formal_read bytes).formal.text + 2
default_size_after bytes n h e g =
    omega (arith, ap length (default_after bytes n h e g), length-drop n bytes, length-append (formal_read bytes).formal.text (44 ∷ []), prefix_len-le-length is_name_byte bytes, e)

-- the default text ends in front of the last byte
pub default_inside : (bytes : List ℕ) (n : ℕ) → formal_bytes (formal_read bytes).formal ≡ bytes → n ≡ prefix_len is_name_byte bytes → get_or bytes n 44 ≡ 61 → n + 1 ≤ length bytes - 1
default_inside bytes n h e g = omega (arith, default_size_after bytes n h e g)

-- the default text stands between the `=` and the comma
pub default_between : (bytes : List ℕ) (n : ℕ) → formal_bytes (formal_read bytes).formal ≡ bytes → n ≡ prefix_len is_name_byte bytes → get_or bytes n 44 ≡ 61 → take (length bytes - 1 - (n + 1)) (drop (n + 1) bytes) ≡ (formal_read bytes).formal.text
default_between bytes n h e g =
    let text : List ℕ = (formal_read bytes).formal.text in
    let size : length text ≡ length bytes - 1 - (n + 1) = omega (arith, default_size_after bytes n h e g) in
    ap (take (length bytes - 1 - (n + 1))) (sym (drop-drop 1 n bytes) ∙ ap (drop 1) (default_after bytes n h e g))
    ∙ take_at text (44 ∷ []) (length bytes - 1 - (n + 1)) size

-- and where no `=` is, there is none
pub no_default_text : (bytes : List ℕ) (n : ℕ) → formal_bytes (formal_read bytes).formal ≡ bytes → n ≡ prefix_len is_name_byte bytes → (get_or bytes n 44 ≡ 61 → ⊥) → [] ≡ (formal_read bytes).formal.text
no_default_text bytes n h e g =
    without_default (formal_read bytes).formal.text (drop n bytes) (ap (λ (k : ℕ). drop k bytes) e ∙ after_name bytes h) (λ a. g (sym (first_after_name bytes n) ∙ a))

-- The formals of a macro, read one after another from a table's bytes.

no_shift : (o : Option ℕ) → option_map (λ i. 0 + i) o ≡ o
no_shift None = refl
no_shift (Some n) = let e : 0 + n ≡ n = omega arith in ap Some e

one_shift : (place : ℕ) (o : Option ℕ) → option_map (λ i. place + i) (option_map suc o) ≡ option_map (λ i. place + 1 + i) o
one_shift place None = refl
one_shift place (Some n) = let e : place + suc n ≡ place + 1 + n = omega arith in ap Some e

pub read_first : (n : ℕ) (bytes : List ℕ) → formals_read (suc n) bytes ≡ (formal_read bytes).formal ∷ formals_read n (formal_read bytes).following
unfolding formals_read
read_first n bytes = refl

read_none : (bytes : List ℕ) → formals_read 0 bytes ≡ []
unfolding formals_read
read_none bytes = refl

-- a formal of a name is sought among so many, and so many of them were passed
pub record IsReached (bytes name rest : List ℕ) (count place : ℕ) : Type 0 where
  pub same : formal_named (formals_read count bytes) name ≡ option_map (λ i. place + i) (formal_named (formals_read (count - place) rest) name)

pub reached_start : (bytes name : List ℕ) (count : ℕ) → IsReached bytes name bytes count 0
reached_start bytes name count = grind (arith, no_shift)

by_first : (rest name : List ℕ) (n : ℕ) → formal_named (formals_read (suc n) rest) name ≡ cond (bytes_eq (formal_read rest).formal.name name) (Some 0) (option_map suc (formal_named (formals_read n (formal_read rest).following) name))
by_first rest name n = grind (arith, read_first, position_first)

pub reached_more : (bytes name rest following found : List ℕ) (count place : ℕ) → place < count → IsReached bytes name rest count place → found ≡ (formal_read rest).formal.name → bytes_eq found name ≡ false → following ≡ (formal_read rest).following → IsReached bytes name following count (place + 1)
reached_more bytes name rest following found count place h r f other b =
    let n : count - place ≡ suc (count - (place + 1)) = omega arith in
    grind (arith, by_first, cond-false, one_shift)

pub reached_found : (bytes name rest found : List ℕ) (count place : ℕ) → place < count → IsReached bytes name rest count place → found ≡ (formal_read rest).formal.name → bytes_eq found name ≡ true → Some place ≡ formal_named (formals_read count bytes) name
reached_found bytes name rest found count place h r f same =
    let n : count - place ≡ suc (count - (place + 1)) = omega arith in
    grind (arith, by_first, cond-true)

pub reached_none : (bytes name rest : List ℕ) (count place : ℕ) → count ≤ place → IsReached bytes name rest count place → None ≡ formal_named (formals_read count bytes) name
reached_none bytes name rest count place h r = grind (arith, read_none)

-- the formal at a place is sought among so many, and so many before it were passed
pub record IsPassed (bytes rest : List ℕ) (count place i : ℕ) : Type 0 where
  pub same : formal_at (formals_read count bytes) place ≡ formal_at (formals_read (count - i) rest) (place - i)

pub passed_start : (bytes : List ℕ) (count place : ℕ) → IsPassed bytes bytes count place 0
passed_start bytes count place = grind arith

pub passed_more : (bytes rest following : List ℕ) (count place i : ℕ) → place < count → i < place → IsPassed bytes rest count place i → following ≡ (formal_read rest).following → IsPassed bytes following count place (i + 1)
passed_more bytes rest following count place i h k p b =
    let n : count - i ≡ suc (count - (i + 1)) = omega arith in
    grind (arith, read_first)

pub passed_last : (bytes rest text : List ℕ) (count place i : ℕ) → place < count → i ≡ place → IsPassed bytes rest count place i → text ≡ (formal_read rest).formal.text → text ≡ (formal_at (formals_read count bytes) place).text
passed_last bytes rest text count place i h k p t =
    let n : count - i ≡ suc (count - (place + 1)) = omega arith in
    grind (arith, read_first)

-- Where the formals of a macro begin among their bytes, and what is kept of that.

-- what is kept of formals that were read, by whether anything is
pub offsets_by : (b : Bool) (count : ℕ) (list : List ℕ) → flat_map formal_bytes (formals_read count list) ≡ list → b ≡ has_offsets count (length list) → offsets_of (formals_read count list) ≡ cond b (halves (starts_of 0 (formals_read count list))) []
unfolding offsets_of
offsets_by b count list h e = grind (arith, length_list_bytes, count_read)

-- the halves of numbers after other numbers
halves-append : (xs ys : List ℕ) → halves (xs ++ ys) ≡ halves xs ++ halves ys
unfolding halves
halves-append [] ys = refl
halves-append (x ∷ xs) ys = ap (λ (l : List ℕ). x % 65536 ∷ x / 65536 ∷ l) (halves-append xs ys)

-- the halves of a number give it back
whole_from : (ns : List ℕ) (i : ℕ) → i < length ns → get_or (halves ns) (2 * i) 0 + 65536 * get_or (halves ns) (2 * i + 1) 0 ≡ get_or ns i 0
unfolding halves
whole_from [] i h = absurd (omega arith)
whole_from (n ∷ ns) zero h = omega arith
whole_from (n ∷ ns) (suc i) h = grind (arith, (whole_from ns i (omega arith)))

-- a number is read back from the halves that are kept
offset_is : (formal_offsets ns : List ℕ) (i : ℕ) → formal_offsets ≡ halves ns → i < length ns → offset_in formal_offsets i ≡ get_or ns i 0
unfolding offset_in
offset_is formal_offsets ns i e h = ap (λ (l : List ℕ). get_or l (2 * i) 0 + 65536 * get_or l (2 * i + 1) 0) e ∙ whole_from ns i h

-- a formal begins after what those before it take, and after where the first one begins
start_from : (at : ℕ) (fs : List Formal) (i : ℕ) → i < length fs → get_or (starts_of at fs) i 0 ≡ at + sum_by formal_size (take i fs)
unfolding starts_of
start_from at [] i h = absurd (omega arith)
start_from at (f ∷ fs) zero h = sym (add-zero at)
start_from at (f ∷ fs) (suc i) h = omega (arith, start_from (at + formal_size f) fs i (omega arith), sum_by-cons formal_size f (take i fs))

-- a formal begins after what those before it take
pub start_at : (fs : List Formal) (i : ℕ) → i < length fs → get_or (starts_of 0 fs) i 0 ≡ sum_by formal_size (take i fs)
start_at fs i h = omega (arith, start_from 0 fs i h)

-- of formals that are read back, each one is
pub plain_at : (fs : List Formal) (i : ℕ) (d : Formal) → list_all is_plain_formal fs ≡ true → i < length fs → is_plain_formal (get_or fs i d) ≡ true
plain_at [] i d p h = absurd (omega arith)
plain_at (f ∷ fs) zero d p h = (and_parts (is_plain_formal f) (list_all is_plain_formal fs) p).0
plain_at (f ∷ fs) (suc i) d p h = plain_at fs i d (and_parts (is_plain_formal f) (list_all is_plain_formal fs) p).1 (omega arith)

-- the bytes after those of the first formals are those of the others
pub list_after : (fs : List Formal) (i : ℕ) → drop (sum_by formal_size (take i fs)) (flat_map formal_bytes fs) ≡ flat_map formal_bytes (drop i fs)
list_after fs i =
    let n : ℕ = sum_by formal_size (take i fs) in
    ap (λ (l : List Formal). drop n (flat_map formal_bytes l)) (sym (take-append-drop i fs))
    ∙ (ap (drop n) (flat_map-append formal_bytes (take i fs) (drop i fs))
    ∙ drop_at (flat_map formal_bytes (take i fs)) (flat_map formal_bytes (drop i fs)) n (length_list_bytes (take i fs)))

-- the first of these others, and those after it
pub first_after : (fs : List Formal) (i : ℕ) → i < length fs → flat_map formal_bytes (drop i fs) ≡ formal_bytes (formal_at fs i) ++ flat_map formal_bytes (drop (i + 1) fs)
first_after fs i h = ap (flat_map formal_bytes) (drop_more fs i _ h)

-- reading a formal where it begins
pub read_at : (fs : List Formal) (i : ℕ) → list_all is_plain_formal fs ≡ true → i < length fs → formal_read (flat_map formal_bytes (drop i fs)) ≡ record { formal = formal_at fs i; following = flat_map formal_bytes (drop (i + 1) fs) }
read_at fs i p h = grind (arith, first_after, read_formal, plain_at)

-- the first formals take what those before the last one take, and what it takes
size_more : (fs : List Formal) (i : ℕ) → i < length fs → sum_by formal_size (take (i + 1) fs) ≡ sum_by formal_size (take i fs) + formal_size (formal_at fs i)
size_more fs i h =
    let e : sum_by formal_size (take (i + 1) fs) ≡ sum_by formal_size (take i fs ++ formal_at fs i ∷ []) = ap (sum_by formal_size) (take_more fs i _ h) in
    omega (arith, e, sum_by-append formal_size (take i fs) (formal_at fs i ∷ []), sum_by-cons formal_size (formal_at fs i) [])

-- formals, of which where they begin was kept up to a place, and the bytes from there on
pub record IsMarking (formals : List Formal) (rest before formal_offsets : List ℕ) (passed : ℕ) : Type 0 where
  pub left : rest ≡ flat_map formal_bytes (drop passed formals)
  pub offsets_are : formal_offsets ≡ before ++ halves (take passed (starts_of 0 formals))

-- nothing is kept at first
pub marking_start : (fs : List Formal) (list before : List ℕ) → flat_map formal_bytes fs ≡ list → IsMarking fs list before before 0
unfolding halves
marking_start fs list before h = record { left = sym h; offsets_are = sym (append-nil before) }

-- how many bytes are after a place
rest_size : (fs : List Formal) (rest before formal_offsets : List ℕ) (i : ℕ) → IsMarking fs rest before formal_offsets i → sum_by formal_size (take i fs) + length rest ≡ sum_by formal_size fs
rest_size fs rest before formal_offsets i m =
    omega (arith, ap length m.left, length_list_bytes (drop i fs), sum_by-take-drop formal_size fs i)

-- where the formal at a place begins
pub marking_at : (fs : List Formal) (list rest before formal_offsets : List ℕ) (i : ℕ) → flat_map formal_bytes fs ≡ list → IsMarking fs rest before formal_offsets i → sum_by formal_size (take i fs) + length rest ≡ length list
marking_at fs list rest before formal_offsets i h m = rest_size fs rest before formal_offsets i m ∙ (sym (length_list_bytes fs) ∙ ap length h)

-- both halves of a number are put after others
pub two_halves : (old one both : List ℕ) (start : ℕ) → one ≡ old ++ (start % 65536) ∷ [] → both ≡ one ++ (start / 65536) ∷ [] → both ≡ old ++ halves (start ∷ [])
unfolding halves
two_halves old one both start e f =
    f ∙ ap (λ (l : List ℕ). l ++ (start / 65536) ∷ []) e ∙ append_assoc old ((start % 65536) ∷ []) ((start / 65536) ∷ [])

-- one more place is kept
pub marking_more : (fs : List Formal) (list rest following before formal_offsets more : List ℕ) (i start : ℕ) → flat_map formal_bytes fs ≡ list → list_all is_plain_formal fs ≡ true → i < length fs → IsMarking fs rest before formal_offsets i → start ≡ length list - length rest → more ≡ formal_offsets ++ halves (start ∷ []) → following ≡ (formal_read rest).following → IsMarking fs following before more (i + 1)
marking_more fs list rest following before formal_offsets more i start h p k m s e b =
    let at : start ≡ get_or (starts_of 0 fs) i 0 = omega (arith, marking_at fs list rest before formal_offsets i h m, start_at fs i k) in
    let some : i < length (starts_of 0 fs) = omega (arith, length_starts 0 fs) in
    record {
      left = b ∙ (ap (λ (l : List ℕ). (formal_read l).following) m.left ∙ ap (λ (r : StoredFormal). r.following) (read_at fs i p k));
      offsets_are =
          e
          ∙ (ap (λ (l : List ℕ). l ++ halves (start ∷ [])) m.offsets_are
          ∙ (append_assoc before (halves (take i (starts_of 0 fs))) (halves (start ∷ []))
          ∙ ap (λ (l : List ℕ). before ++ l)
          (sym (halves-append (take i (starts_of 0 fs)) (start ∷ []))
          ∙ ap halves (ap (λ (n : ℕ). take i (starts_of 0 fs) ++ n ∷ []) at ∙ sym (take_more (starts_of 0 fs) i 0 some)))));
    }

-- how many offsets there are then
pub marking_count : (fs : List Formal) (rest before formal_offsets : List ℕ) (i : ℕ) → i ≤ length fs → IsMarking fs rest before formal_offsets i → length formal_offsets ≡ length before + 2 * i
marking_count fs rest before formal_offsets i h m =
    omega (arith, ap length m.offsets_are, length-append before (halves (take i (starts_of 0 fs))), length_halves (take i (starts_of 0 fs)), length-take i (starts_of 0 fs), length_starts 0 fs)

-- at last each place is kept
pub marking_end : (fs : List Formal) (rest before formal_offsets : List ℕ) (i : ℕ) → length fs ≤ i → IsMarking fs rest before formal_offsets i → formal_offsets ≡ before ++ halves (starts_of 0 fs)
marking_end fs rest before formal_offsets i h m =
    m.offsets_are ∙ ap (λ (l : List ℕ). before ++ halves l) (take_all i (starts_of 0 fs) (omega (arith, length_starts 0 fs)))

-- bytes are those of formals, and it is kept where each of these begins
pub record AreMarked (formals : List Formal) (list formal_offsets : List ℕ) : Type 0 where
  pub whole : flat_map formal_bytes formals ≡ list
  pub plain : list_all is_plain_formal formals ≡ true
  pub starts : formal_offsets ≡ halves (starts_of 0 formals)

-- where offsets are kept, they are those of the formals that are read
pub listed_offsets : (count : ℕ) (list formal_offsets : List ℕ) → AreStoredFormals count list formal_offsets → has_offsets count (length list) ≡ true → AreMarked (formals_read count list) list formal_offsets
listed_offsets count list formal_offsets l h =
    record { whole = l.whole; plain = l.plain; starts = l.marked ∙ offsets_by true count list l.whole (sym h) }

-- there are two offsets for each formal
pub offsets_count : (fs : List Formal) (list formal_offsets : List ℕ) → AreMarked fs list formal_offsets → length formal_offsets ≡ 2 * length fs
offsets_count fs list formal_offsets a = ap length a.starts ∙ length_start_halves fs

-- a mark is where its formal begins
pub offset_at : (fs : List Formal) (list formal_offsets : List ℕ) (i : ℕ) → AreMarked fs list formal_offsets → i < length fs → offset_in formal_offsets i ≡ sum_by formal_size (take i fs)
offset_at fs list formal_offsets i a h = offset_is formal_offsets (starts_of 0 fs) i a.starts (omega (arith, length_starts 0 fs)) ∙ start_at fs i h

-- and there its bytes are
pub after_offset : (fs : List Formal) (list formal_offsets : List ℕ) (i : ℕ) → AreMarked fs list formal_offsets → i < length fs → drop (offset_in formal_offsets i) list ≡ flat_map formal_bytes (drop i fs)
after_offset fs list formal_offsets i a h =
    ap (λ (n : ℕ). drop n list) (offset_at fs list formal_offsets i a h)
    ∙ (ap (drop (sum_by formal_size (take i fs))) (sym a.whole) ∙ list_after fs i)

-- where the formal at a place ends, by the number of formals and of their bytes
end_by : (count size : ℕ) (formal_offsets : List ℕ) (i : ℕ) → (i + 1 < count → end_in count size formal_offsets i ≡ offset_in formal_offsets (i + 1)) × (count ≤ i + 1 → end_in count size formal_offsets i ≡ size)
unfolding end_in
end_by count size formal_offsets i = grind (arith, cond-true, lt-ltb, cond-false, le-ltb)

-- a formal ends where the next one begins, or where the list ends
pub end_at : (fs : List Formal) (count : ℕ) (list formal_offsets : List ℕ) (i : ℕ) → length fs ≡ count → AreMarked fs list formal_offsets → i < count → end_in count (length list) formal_offsets i ≡ offset_in formal_offsets i + formal_size (formal_at fs i)
end_at fs count list formal_offsets i n a h =
    let here : offset_in formal_offsets i + formal_size (formal_at fs i) ≡ sum_by formal_size (take (i + 1) fs) = omega (arith, offset_at fs list formal_offsets i a (omega (arith, n, h)), size_more fs i (omega (arith, n, h))) in
    let end = end_by count (length list) formal_offsets i in
    elim (leb_tells count (i + 1)) [
      | inl e ↦
          let all : sum_by formal_size (take (i + 1) fs) ≡ sum_by formal_size fs = ap (sum_by formal_size) (take_all (i + 1) fs (omega (arith, n, e.1))) in
          omega (arith, end.1 e.1, all, here, length_list_bytes fs, ap length a.whole)
      | inr e ↦ omega (arith, end.0 e.1, here, offset_at fs list formal_offsets (i + 1) a (omega (arith, n, e.1)))
    ]

-- so its bytes are known
pub bytes_at : (fs : List Formal) (count : ℕ) (list formal_offsets : List ℕ) (i : ℕ) → length fs ≡ count → AreMarked fs list formal_offsets → i < count → take (end_in count (length list) formal_offsets i - offset_in formal_offsets i) (drop (offset_in formal_offsets i) list) ≡ formal_bytes (formal_at fs i)
bytes_at fs count list formal_offsets i n a h =
    let some : i < length fs = omega (arith, n, h) in
    let size : length (formal_bytes (formal_at fs i)) ≡ end_in count (length list) formal_offsets i - offset_in formal_offsets i = omega (arith, end_at fs count list formal_offsets i n a h, length_formal_bytes (formal_at fs i)) in
    ap (take (end_in count (length list) formal_offsets i - offset_in formal_offsets i)) (after_offset fs list formal_offsets i a some ∙ first_after fs i some)
    ∙ take_at (formal_bytes (formal_at fs i)) (flat_map formal_bytes (drop (i + 1) fs)) _ size

-- and a plain formal is read from its own bytes
pub read_alone : (f : Formal) → is_plain_formal f ≡ true → (formal_read (formal_bytes f)).formal ≡ f
read_alone f h =
    ap (λ (l : List ℕ). (formal_read l).formal) (sym (append-nil (formal_bytes f))) ∙ ap (λ (r : StoredFormal). r.formal) (read_formal f [] h)

-- a mark lies among the bytes
pub offset_inside : (count : ℕ) (list formal_offsets : List ℕ) (i : ℕ) → AreStoredFormals count list formal_offsets → has_offsets count (length list) ≡ true → i < count → offset_in formal_offsets i ≤ length list
offset_inside count list formal_offsets i l m h =
    let fs : List Formal = formals_read count list in
    let a : AreMarked fs list formal_offsets = listed_offsets count list formal_offsets l m in
    omega (arith, offset_at fs list formal_offsets i a (omega (arith, h, count_read count list)), sum_by-take-drop formal_size fs i, length_list_bytes fs, ap length l.whole)

-- the formal of a name is sought from the first one on
pub start_listed : (count : ℕ) (list formal_offsets name : List ℕ) → AreStoredFormals count list formal_offsets → IsReached list name (flat_map formal_bytes (drop 0 (formals_read count list))) count 0
start_listed count list formal_offsets name l = subst (λ (x : List ℕ). IsReached list name x count 0) (sym l.whole) (reached_start list name count)

-- the formal with which the bytes at a mark begin
pub bytes_from : (count : ℕ) (list formal_offsets bytes : List ℕ) (i : ℕ) → AreStoredFormals count list formal_offsets → has_offsets count (length list) ≡ true → i < count → bytes ≡ drop (offset_in formal_offsets i) list → bytes ≡ flat_map formal_bytes (drop i (formals_read count list))
bytes_from count list formal_offsets bytes i l m h e =
    e ∙ after_offset (formals_read count list) list formal_offsets i (listed_offsets count list formal_offsets l m) (omega (arith, h, count_read count list))

-- there are two offsets for each formal
pub count_offsets : (count : ℕ) (list formal_offsets : List ℕ) → AreStoredFormals count list formal_offsets → has_offsets count (length list) ≡ true → length formal_offsets ≡ 2 * count
count_offsets count list formal_offsets l m =
    omega (arith, offsets_count (formals_read count list) list formal_offsets (listed_offsets count list formal_offsets l m), count_read count list)

-- a formal that was passed isn't the one that is sought
pub passed_at : (count : ℕ) (list formal_offsets name : List ℕ) (i : ℕ) → AreStoredFormals count list formal_offsets → i < count → IsReached list name (flat_map formal_bytes (drop i (formals_read count list))) count i → bytes_eq (formal_read (flat_map formal_bytes (drop i (formals_read count list)))).formal.name name ≡ false → IsReached list name (flat_map formal_bytes (drop (i + 1) (formals_read count list))) count (i + 1)
passed_at count list formal_offsets name i l h r other = grind (arith, read_at, count_read, reached_more)

-- a formal ends after where it begins
pub end_ordered : (count : ℕ) (list formal_offsets : List ℕ) (i : ℕ) → AreStoredFormals count list formal_offsets → has_offsets count (length list) ≡ true → i < count → offset_in formal_offsets i ≤ end_in count (length list) formal_offsets i
end_ordered count list formal_offsets i l m h =
    omega (arith, end_at (formals_read count list) count list formal_offsets i (count_read count list) (listed_offsets count list formal_offsets l m) h)

-- and within the bytes
pub end_inside : (count : ℕ) (list formal_offsets : List ℕ) (i : ℕ) → AreStoredFormals count list formal_offsets → has_offsets count (length list) ≡ true → i < count → end_in count (length list) formal_offsets i ≤ length list
end_inside count list formal_offsets i l m h =
    let fs : List Formal = formals_read count list in
    let a : AreMarked fs list formal_offsets = listed_offsets count list formal_offsets l m in
    let some : i < length fs = omega (arith, count_read count list) in
    omega (arith, end_at fs count list formal_offsets i (count_read count list) a h, offset_at fs list formal_offsets i a some, size_more fs i some, sum_by-take-drop formal_size fs (i + 1), length_list_bytes fs, ap length l.whole)

-- the bytes between two offsets are those of the formal there
alone_bytes : (count : ℕ) (list formal_offsets bytes : List ℕ) (i : ℕ) → AreStoredFormals count list formal_offsets → has_offsets count (length list) ≡ true → i < count → bytes ≡ take (end_in count (length list) formal_offsets i - offset_in formal_offsets i) (drop (offset_in formal_offsets i) list) → bytes ≡ formal_bytes (formal_at (formals_read count list) i)
alone_bytes count list formal_offsets bytes i l m h e =
    e ∙ bytes_at (formals_read count list) count list formal_offsets i (count_read count list) (listed_offsets count list formal_offsets l m) h

-- which is read from them
pub alone_is : (count : ℕ) (list formal_offsets bytes : List ℕ) (i : ℕ) → AreStoredFormals count list formal_offsets → has_offsets count (length list) ≡ true → i < count → bytes ≡ take (end_in count (length list) formal_offsets i - offset_in formal_offsets i) (drop (offset_in formal_offsets i) list) → (formal_read bytes).formal ≡ formal_at (formals_read count list) i
alone_is count list formal_offsets bytes i l m h e =
    let fs : List Formal = formals_read count list in
    ap (λ (x : List ℕ). (formal_read x).formal) (alone_bytes count list formal_offsets bytes i l m h e)
    ∙ read_alone (formal_at fs i) (plain_at fs i _ l.plain (omega (arith, count_read count list)))

-- with nothing left of them
pub alone_whole : (count : ℕ) (list formal_offsets bytes : List ℕ) (i : ℕ) → AreStoredFormals count list formal_offsets → has_offsets count (length list) ≡ true → i < count → bytes ≡ take (end_in count (length list) formal_offsets i - offset_in formal_offsets i) (drop (offset_in formal_offsets i) list) → formal_bytes (formal_read bytes).formal ≡ bytes
alone_whole count list formal_offsets bytes i l m h e =
    ap formal_bytes (alone_is count list formal_offsets bytes i l m h e) ∙ sym (alone_bytes count list formal_offsets bytes i l m h e)

-- the bytes between two places that were read
pub sliced : (list : List ℕ) (start end from to : ℕ) → start ≡ from → end ≡ to → take (end - start) (drop start list) ≡ take (to - from) (drop from list)
sliced list start end from to p q = rw (p, q) refl

-- No name is a formal that has another shape than the formals have.

-- what is told stays told
told_still : (told : List Bool) (j k : ℕ) → get_or told k true ≡ true → get_or (set told j true) k true ≡ true
told_still told j k h = grind (arith, get_or-set_same, get_or_past, length-set, cases_lt, get_or-set_other, cases_eq)

told_here : (told : List Bool) (k : ℕ) → get_or (set told k true) k true ≡ true
told_here told k = grind (arith, get_or-set_same, get_or_past, length-set, cases_lt)

still : (fs : List Formal) (told : List Bool) (k : ℕ) → get_or told k true ≡ true → get_or (shapes_of fs told) k true ≡ true
unfolding shapes_of
still [] told k h = h
still (f ∷ fs) told k h = still fs (set told (shape f.name) true) k (told_still told (shape f.name) k h)

some_shift : (o : Option ℕ) → is_some (option_map suc o) ≡ is_some o
some_shift (Some n) = refl
some_shift None = refl

-- the shape of each formal is told
pub shapes_told : (fs : List Formal) (told : List Bool) → AreShapes fs (shapes_of fs told)
unfolding shapes_of
shapes_told [] told name h = absurd (false≢true h)
shapes_told (f ∷ fs) told name h =
    let k = shape name in
    let next = set told (shape f.name) true in
    let named = formal_named fs name in
    let first : formal_named (f ∷ fs) name ≡ cond (bytes_eq f.name name) (Some 0) (option_map suc named) = position_first (λ (g : Formal). bytes_eq g.name name) f fs in
    ⊎_elim
    (λ e. let same : f.name ≡ name = (bytes_eq-Decides f.name name).0 e in
    still fs next k (subst (λ (n : List ℕ). get_or (set told (shape n) true) k true ≡ true) (sym same) (told_here told k)))
    (λ e. shapes_told fs next name (sym (some_shift named) ∙ sym (ap is_some (first ∙ cond-false _ (Some 0) (option_map suc named) e)) ∙ h))
    (cases_Bool (bytes_eq f.name name))

-- a name of another shape is copied
pub no_shape : (formals : List Formal) (told : List Bool) (name : List ℕ) → AreShapes formals told → get_or told (shape name) true ≡ false → None ≡ formal_named formals name
no_shape formals told name h f = grind arith

-- so many formals are told as they are read
pub told_more : (rest : List ℕ) (count place : ℕ) (told : List Bool) (name following : List ℕ) → place < count → name ≡ (formal_read rest).formal.name → following ≡ (formal_read rest).following
    → shapes_of (formals_read (count - place) rest) told ≡ shapes_of (formals_read (count - (place + 1)) following) (set told (shape name) true)
unfolding shapes_of
told_more rest count place told name following h e b =
    let n : count - place ≡ suc (count - (place + 1)) = omega arith in
    grind (arith, read_first)

pub told_none : (rest : List ℕ) (count place : ℕ) (told : List Bool) → count < place + 1 → shapes_of (formals_read (count - place) rest) told ≡ told
unfolding shapes_of formals_read
told_none rest count place told h = let n : count - place ≡ 0 = omega arith in ap (λ (k : ℕ). shapes_of (formals_read k rest) told) n

-- so is each formal where it begins
pub told_at : (count place : ℕ) (list formal_offsets name : List ℕ) (told : List Bool) → AreStoredFormals count list formal_offsets → place < count → name ≡ (formal_read (flat_map formal_bytes (drop place (formals_read count list)))).formal.name
    → shapes_of (formals_read (count - place) (flat_map formal_bytes (drop place (formals_read count list)))) told ≡ shapes_of (formals_read (count - (place + 1)) (flat_map formal_bytes (drop (place + 1) (formals_read count list)))) (set told (shape name) true)
told_at count place list formal_offsets name told l h e = grind (arith, read_at, count_read, told_more)

-- at first all of them are left
pub told_start : (count : ℕ) (list formal_offsets : List ℕ) (told : List Bool) → AreStoredFormals count list formal_offsets → shapes_of (formals_read count list) told ≡ shapes_of (formals_read (count - 0) (flat_map formal_bytes (drop 0 (formals_read count list)))) told
told_start count list formal_offsets told l = grind arith
