-- A formal list as it is read, and its formals as they are appended to a table's bytes.
use Rattle.std.proofs.Common.{◌≡◌, ℕ, zero, suc, ◌+◌, ◌-◌, ◌<◌, Bool, true, false, cond, not, ◌||◌, List, [], ◌∷◌, ◌++◌, length, map, set, take, drop, get_or, eqb, ltb, leb, bytes_eq, sum_by, unwrap_or, length-append, Option, Some, None, refl, ap, sym, ◌∙◌, arith, inl, inr, ◌⊎◌, one-add, ◌≤◌, is_some, append_assoc, append-nil, eq-eqb, Ok, flat_map, eqb-true, leb-true, leb-false, ne_eqb}
use Rattle.std.specs.List.{list_any, list_all, prefix_len}
use Rattle.std.proofs.lemmas.Bool.{both_ways, cases_Bool, cond-false, and_from, false_from_ne_true, cond-true, false≢true}
use Rattle.std.proofs.lemmas.List.{map-append, length-map, length-set, length-take-le, take_more_set}
use Rattle.std.proofs.lemmas.List.Folds.{list_all-append}
use Rattle.std.proofs.lemmas.List.Sums.{sum_by-append}
use Rattle.std.proofs.lemmas.Grind.{flat_map-append}
use Rattle.rdlpp_scan.specs.Bytes.{is_letter, is_digit, is_word}
use Rattle.rdlpp_define.specs.Macros.{Formal, default_size, formal_size, default_bytes, formal_bytes}
use Rattle.rdlpp_define.specs.Define.{FormalList, Listed, FormalListFault, OneFormal, Good, FormalFault, DefaultText, after_space, after_name, default_in, formal_fault, formal_in, formal_name, formals_in, formals_of_list, is_nothing, leading_name, with_default}
use Rattle.rdlpp_define.specs.Plain.{is_default, is_name_byte, is_plain_formal}
use Rattle.rdlpp_define.specs.Formals.{IsDefault, IsPart, IsRead, default_left, fault_after, after_told, formal_told, is_told, listed}
use Rattle.rdlpp_define.specs.declared.fault.DefineKind.{DefineKind}
use Rattle.rdlpp_define.proofs.Sizes.{one_size, length_formal_bytes, length_list_bytes}
use Rattle.rdlpp_scan.specs.KeptText.{cleared, start_level, trimmed_left, trimmed_len, trims}
use Rattle.rdlpp_scan.proofs.Measures.{ok_len}
use Rattle.rdlpp_define.specs.declared.fault.DefineKind.TheVariants as kind

-- A formal list as it is read, one formal after another.

-- a list by its first formal
pub list_full : (before : List Formal) (text : List ℕ) → formals_in 0 before text ≡ FormalListFault (unwrap_or (formal_fault before (formal_name text)) kind.TooManyFormals)
unfolding formals_in
list_full before text = refl

abbrev pub list_by : ℕ → List Formal → OneFormal → FormalList
list_by room before o = elim o [
  | FormalFault k ↦ FormalListFault k
  | Good f following ↦ cond (eqb (get_or following 0 0) 44) (formals_in room (before ++ f ∷ []) (drop 1 following))
      (cond (eqb (get_or following 0 0) 41) (Listed (Some (before ++ f ∷ [])) (drop 1 following)) (FormalListFault kind.BadFormals))
]

pub list_step : (room : ℕ) (before : List Formal) (text : List ℕ) → formals_in (suc room) before text ≡ list_by room before (formal_in before text)
unfolding formals_in
list_step room before text = refl

abbrev pub formal_by : Option DefineKind → List ℕ → Option DefaultText → OneFormal
formal_by o name d = elim o [ Some k ↦ FormalFault k | None ↦ with_default name d ]

pub in_by : (before : List Formal) (text : List ℕ) → formal_in before text ≡ formal_by (formal_fault before (formal_name text)) (formal_name text) (default_in (after_name text))
unfolding formal_in
in_by before text = refl

name_of : (text name following : List ℕ) → IsPart text name following → formal_name text ≡ name
unfolding formal_name
name_of text name following p = sym p.name_is

after_of : (text name following : List ℕ) → IsPart text name following → after_name text ≡ following
unfolding after_name
after_of text name following p = ap (λ (n : List ℕ). after_space (drop (length n) (after_space text))) (name_of text name following p) ∙ sym p.after_is

pub part_by : (before : List Formal) (text name following : List ℕ) → IsPart text name following → formal_in before text ≡ formal_by (formal_fault before name) name (default_in following)
part_by before text name following p =
    in_by before text
    ∙ (ap (λ (n : List ℕ). formal_by (formal_fault before n) n (default_in (after_name text))) (name_of text name following p)
    ∙ ap (λ (x : List ℕ). formal_by (formal_fault before name) name (default_in x)) (after_of text name following p))

-- the fault of a name, by the names before it
any_mapped : {X : Type 0} (f : X → List ℕ) (xs : List X) (name : List ℕ) → list_any (λ n. bytes_eq n name) (map f xs) ≡ list_any (λ x. bytes_eq (f x) name) xs
any_mapped f [] name = refl
any_mapped f (x ∷ xs) name = ap (λ (t : Bool). bytes_eq (f x) name || t) (any_mapped f xs name)

abbrev pub three : Bool → Bool → Bool → Option DefineKind
three a b c = cond a (Some kind.BadFormals) (cond b (Some kind.NameTooLong) (cond c (Some kind.FormalTwice) None))

abbrev four : Bool → Bool → Bool → Bool → Option DefineKind
four a b c d = cond a (Some kind.BadFormals) (cond b (Some kind.NameTooLong) (cond c (Some kind.FormalTwice) (cond d (Some kind.TooManyFormals) None)))

four_none : (a b c d : Bool) → four a b c d ≡ None → (three a b c ≡ None) × (d ≡ false) × (b ≡ false)
four_none false false false false e = (refl, refl, refl)
four_none a b c d e = absurd (cc)

four_some : (a b c d : Bool) (k : DefineKind) → four a b c d ≡ Some k → (three a b c ≡ Some k) ⊎ ((three a b c ≡ None) × (d ≡ true) × (k ≡ kind.TooManyFormals))
four_some true b c d k e = inl e
four_some false true c d k e = inl e
four_some false false true d k e = inl e
four_some false false false true k e = inr (refl, refl, cc)
four_some false false false false k e = absurd (cc)

fault_four : (before : List Formal) (name : List ℕ) → fault_after (map (λ (f : Formal). f.name) before) name ≡ four (is_nothing name) (ltb 128 (length name)) (list_any (λ (f : Formal). bytes_eq f.name name) before) (leb 255 (length before))
unfolding fault_after
fault_four before name = grind (arith, any_mapped, length-map)

pub fault_three : (before : List Formal) (name : List ℕ) → formal_fault before name ≡ three (is_nothing name) (ltb 128 (length name)) (list_any (λ (f : Formal). bytes_eq f.name name) before)
unfolding formal_fault
fault_three before name = refl

-- a name without a fault
record IsFaultless (before : List Formal) (name : List ℕ) : Type 0 where
  fault : formal_fault before name ≡ None
  few : length before < 255

faultless : (before : List Formal) (name : List ℕ) → fault_after (map (λ (f : Formal). f.name) before) name ≡ None → IsFaultless before name
faultless before name e = grind (arith, four_none, fault_four, fault_three, leb-false)

-- a list whose next formal has a fault in its name
refused_at : (room : ℕ) (before : List Formal) (text name following : List ℕ) (k : DefineKind) → IsPart text name following → formal_fault before name ≡ Some k → formals_in room before text ≡ FormalListFault k
refused_at zero before text name following k p e =
    list_full before text ∙ (ap (λ (n : List ℕ). FormalListFault (unwrap_or (formal_fault before n) kind.TooManyFormals)) (name_of text name following p) ∙ ap (λ (o : Option DefineKind). FormalListFault (unwrap_or o kind.TooManyFormals)) e)
refused_at (suc room) before text name following k p e =
    list_step room before text ∙ ap (list_by room before) (part_by before text name following p ∙ ap (λ (o : Option DefineKind). formal_by o name (default_in following)) e)

full_at : (room : ℕ) (before : List Formal) (text name following : List ℕ) → room ≡ 0 → IsPart text name following → formal_fault before name ≡ None → formals_in room before text ≡ FormalListFault kind.TooManyFormals
full_at room before text name following z p e =
    ap (λ (n : ℕ). formals_in n before text) z
    ∙ (list_full before text ∙ (ap (λ (n : List ℕ). FormalListFault (unwrap_or (formal_fault before n) kind.TooManyFormals)) (name_of text name following p) ∙ ap (λ (o : Option DefineKind). FormalListFault (unwrap_or o kind.TooManyFormals)) e))

fault_at : (before : List Formal) (text name following : List ℕ) (k : DefineKind) → IsPart text name following → fault_after (map (λ (f : Formal). f.name) before) name ≡ Some k → formals_in (255 - length before) before text ≡ FormalListFault k
fault_at before text name following k p e =
    elim (four_some (is_nothing name) (ltb 128 (length name)) (list_any (λ (f : Formal). bytes_eq f.name name) before) (leb 255 (length before)) k (sym (fault_four before name) ∙ e)) [
      | inl f ↦ refused_at (255 - length before) before text name following k p (fault_three before name ∙ f)
      | inr f ↦
          let z : 255 - length before ≡ 0 = omega (arith, leb-true 255 (length before) f.1) in
          full_at (255 - length before) before text name following z p (fault_three before name ∙ f.0) ∙ ap FormalListFault (sym f.2)
    ]

-- a formal with its default text
abbrev pub formal_with : List ℕ → List ℕ → Formal
formal_with name from = record { name = name; text = default_left from }

good_by : (name from following : List ℕ) (size : ℕ) (d : Option DefaultText) → IsDefault d from following size → with_default name d ≡ Good (formal_with name from) following
unfolding with_default
good_by name from following size d i = ap (with_default name) i.is

none_by : (name : List ℕ) → with_default name None ≡ FormalFault kind.BadFormals
unfolding with_default
none_by name = refl

good_at : (before : List Formal) (text name tail from following : List ℕ) (size : ℕ) → IsPart text name tail → formal_fault before name ≡ None → IsDefault (default_in tail) from following size → formal_in before text ≡ Good (formal_with name from) following
good_at before text name tail from following size p e d =
    part_by before text name tail p
    ∙ (ap (λ (o : Option DefineKind). formal_by o name (default_in tail)) e ∙ good_by name from following size (default_in tail) d)

bad_at : (before : List Formal) (text name tail : List ℕ) → IsPart text name tail → formal_fault before name ≡ None → default_in tail ≡ None → formal_in before text ≡ FormalFault kind.BadFormals
bad_at before text name tail p e d =
    part_by before text name tail p
    ∙ (ap (λ (o : Option DefineKind). formal_by o name (default_in tail)) e ∙ (ap (with_default name) d ∙ none_by name))

-- the formals before the rest of a text, and those of the text
pub record IsReading (text rest : List ℕ) (names : List (List ℕ)) (size : ℕ) : Type 0 where
  pub before : List Formal
  pub same : formals_in (255 - length before) before rest ≡ formals_in 255 [] text
  pub names_are : map (λ (f : Formal). f.name) before ≡ names
  pub size_is : sum_by formal_size before ≡ size
  pub plain : list_all is_plain_formal before ≡ true

pub starts : (text : List ℕ) (names : List (List ℕ)) → names ≡ [] → IsReading text text names 0
starts text names e = record { before = []; same = refl; names_are = sym e; size_is = refl; plain = refl }

-- the next formal of a list that is read, and its name has no fault
pub record IsFound (text rest : List ℕ) (names : List (List ℕ)) (size : ℕ) (name tail : List ℕ) : Type 0 where
  pub read : IsReading text rest names size
  pub part : IsPart rest name tail

pub read_fault : (text rest : List ℕ) (names slice : List (List ℕ)) (size : ℕ) (name tail : List ℕ) (k : DefineKind) → IsFound text rest names size name tail → slice ≡ names → Some k ≡ fault_after slice name → formals_in 255 [] text ≡ FormalListFault k
read_fault text rest names slice size name tail k f s e =
    sym f.read.same
    ∙ fault_at f.read.before rest name tail k f.part (ap (λ (ns : List (List ℕ)). fault_after ns name) (f.read.names_are ∙ sym s) ∙ sym e)

sound_name : (text rest : List ℕ) (names slice : List (List ℕ)) (size : ℕ) (name tail : List ℕ) (f : IsFound text rest names size name tail) → slice ≡ names → None ≡ fault_after slice name → IsFaultless f.read.before name
sound_name text rest names slice size name tail f s e =
    faultless f.read.before name (ap (λ (ns : List (List ℕ)). fault_after ns name) (f.read.names_are ∙ sym s) ∙ sym e)

pub few_names : (text rest : List ℕ) (names slice : List (List ℕ)) (size : ℕ) (name tail : List ℕ) → IsFound text rest names size name tail → slice ≡ names → None ≡ fault_after slice name → length names < 255
few_names text rest names slice size name tail f s e =
    let g = sound_name text rest names slice size name tail f s e in
    omega (arith, g.few, length-map f.read.before (λ (x : Formal). x.name), ap (length {A = List ℕ}) f.read.names_are)

-- a list whose next formal is read, by what it is
next_by : (text rest : List ℕ) (names : List (List ℕ)) (size : ℕ) (name tail : List ℕ) (f : IsFound text rest names size name tail) → IsFaultless f.read.before name → formals_in 255 [] text ≡ list_by (254 - length f.read.before) f.read.before (formal_in f.read.before rest)
next_by text rest names size name tail f g =
    let n : 255 - length f.read.before ≡ suc (254 - length f.read.before) = omega (arith, g.few) in
    sym f.read.same ∙ (ap (λ (k : ℕ). formals_in k f.read.before rest) n ∙ list_step (254 - length f.read.before) f.read.before rest)

pub read_bad : (text rest : List ℕ) (names slice : List (List ℕ)) (size : ℕ) (name tail : List ℕ) → IsFound text rest names size name tail → slice ≡ names → None ≡ fault_after slice name → default_in tail ≡ None → formals_in 255 [] text ≡ FormalListFault kind.BadFormals
read_bad text rest names slice size name tail f s e d =
    let g = sound_name text rest names slice size name tail f s e in
    next_by text rest names size name tail f g ∙ ap (list_by (254 - length f.read.before) f.read.before) (bad_at f.read.before rest name tail f.part g.fault d)

-- a formal was read: its default text, and what stands after it
pub record IsTaken (text rest : List ℕ) (names slice : List (List ℕ)) (size : ℕ) (name tail from following : List ℕ) (counted : ℕ) : Type 0 where
  pub found : IsFound text rest names size name tail
  pub slice_is : slice ≡ names
  pub sound : None ≡ fault_after slice name
  pub default : IsDefault (default_in tail) from following counted

taken_by : (text rest : List ℕ) (names slice : List (List ℕ)) (size : ℕ) (name tail from following : List ℕ) (counted : ℕ) (t : IsTaken text rest names slice size name tail from following counted) → formals_in 255 [] text ≡ list_by (254 - length t.found.read.before) t.found.read.before (Good (formal_with name from) following)
taken_by text rest names slice size name tail from following counted t =
    let f = t.found in
    let g = sound_name text rest names slice size name tail f t.slice_is t.sound in
    next_by text rest names size name tail f g ∙ ap (list_by (254 - length f.read.before) f.read.before) (good_at f.read.before rest name tail from following counted f.part g.fault t.default)

pub read_other : (text rest : List ℕ) (names slice : List (List ℕ)) (size : ℕ) (name tail from following : List ℕ) (counted : ℕ) → IsTaken text rest names slice size name tail from following counted → eqb (get_or following 0 0) 44 ≡ false → eqb (get_or following 0 0) 41 ≡ false → formals_in 255 [] text ≡ FormalListFault kind.BadFormals
read_other text rest names slice size name tail from following counted t a b =
    taken_by text rest names slice size name tail from following counted t ∙ (cond-false _ _ _ a ∙ cond-false _ _ _ b)

-- a byte of a class isn't one that the class doesn't have
apart : (test : ℕ → Bool) (b k : ℕ) → test b ≡ true → test k ≡ false → eqb b k ≡ false
apart test b k t f = false_from_ne_true (eqb b k) (λ h. both_ways (test k) f (ap test (sym (eqb-true b k h)) ∙ t))

-- a name's bytes
word_name : (b : ℕ) → is_word b ≡ true → is_name_byte b ≡ true
unfolding is_name_byte is_word is_letter is_digit
word_name b e = ap not (ap (λ (t : Bool). t || eqb b 61) (apart is_word b 44 e refl) ∙ apart is_word b 61 e refl)

words_named : (text : List ℕ) → list_all is_name_byte (take (prefix_len is_word text) text) ≡ true
words_named [] = refl
words_named (b ∷ bs) = elim (cases_Bool (is_word b)) [
  | inl e ↦
      let n : prefix_len is_word (b ∷ bs) ≡ suc (prefix_len is_word bs) = ap (λ (t : Bool). cond t (1 + prefix_len is_word bs) 0) e ∙ one-add (prefix_len is_word bs) in
      ap (λ (k : ℕ). list_all is_name_byte (take k (b ∷ bs))) n ∙ and_from _ _ (word_name b e) (words_named bs)
  | inr e ↦ ap (λ (k : ℕ). list_all is_name_byte (take k (b ∷ bs))) (cond-false (is_word b) (1 + prefix_len is_word bs) 0 e)
]

leading_named : (text : List ℕ) → list_all is_name_byte (leading_name text) ≡ true
unfolding leading_name
leading_named text = grind (arith, cases_Bool, words_named)

plain_with : (text name tail from : List ℕ) → IsPart text name tail → is_default (default_left from) ≡ true → is_plain_formal (formal_with name from) ≡ true
unfolding is_plain_formal
plain_with text name tail from p d = and_from _ _ (ap (list_all is_name_byte) p.name_is ∙ leading_named (after_space text)) d

size_with : (name from : List ℕ) (n : ℕ) → default_size (default_left from) ≡ n → formal_size (formal_with name from) ≡ length name + (n + 1)
unfolding formal_size
size_with name from n e = ap (λ (k : ℕ). length name + (k + 1)) e

-- the formals with one more
record IsMore (before : List Formal) (f : Formal) (names : List (List ℕ)) (size : ℕ) : Type 0 where
  names_are : map (λ (x : Formal). x.name) (before ++ f ∷ []) ≡ names
  size_is : sum_by formal_size (before ++ f ∷ []) ≡ size
  plain : list_all is_plain_formal (before ++ f ∷ []) ≡ true

more_of : (text rest : List ℕ) (names slice : List (List ℕ)) (size : ℕ) (name tail from following : List ℕ) (counted : ℕ) (t : IsTaken text rest names slice size name tail from following counted) (more : List (List ℕ)) (sum : ℕ) → more ≡ names ++ name ∷ [] → sum ≡ size + (length name + counted + 1) → IsMore t.found.read.before (formal_with name from) more sum
more_of text rest names slice size name tail from following counted t more sum m s =
    let r = t.found.read in
    let f : Formal = formal_with name from in
    record {
      names_are = map-append (λ (x : Formal). x.name) r.before (f ∷ []) ∙ (ap (λ (l : List (List ℕ)). l ++ name ∷ []) r.names_are ∙ sym m);
      size_is = omega (arith, sum_by-append formal_size r.before (f ∷ []), one_size f, size_with name from counted t.default.size_is, r.size_is, s);
      plain = list_all-append is_plain_formal r.before (f ∷ []) ∙ and_from _ _ r.plain (and_from _ _ (plain_with rest name tail from t.found.part t.default.plain) refl);
    }

pub read_comma : (text rest : List ℕ) (names slice : List (List ℕ)) (size : ℕ) (name tail from following : List ℕ) (counted : ℕ) (more : List (List ℕ)) (sum b : ℕ) (after : List ℕ) → IsTaken text rest names slice size name tail from following counted → more ≡ names ++ name ∷ [] → sum ≡ size + (length name + counted + 1) → following ≡ b ∷ after → b ≡ 44 → IsReading text after more sum
read_comma text rest names slice size name tail from following counted more sum b after t m s e is =
    let r = t.found.read in
    let f : Formal = formal_with name from in
    let o : IsMore r.before f more sum = more_of text rest names slice size name tail from following counted t more sum m s in
    let at : following ≡ 44 ∷ after = e ∙ ap (λ (x : ℕ). x ∷ after) is in
    let n : 255 - length (r.before ++ f ∷ []) ≡ 254 - length r.before = omega (arith, length-append r.before (f ∷ [])) in
    record {
      before = r.before ++ f ∷ [];
      same =
          ap (λ (k : ℕ). formals_in k (r.before ++ f ∷ []) after) n
          ∙ sym (taken_by text rest names slice size name tail from following counted t ∙ ap (λ (x : List ℕ). list_by (254 - length r.before) r.before (Good f x)) at);
      names_are = o.names_are;
      size_is = o.size_is;
      plain = o.plain;
    }

pub read_closer : (text rest : List ℕ) (names slice : List (List ℕ)) (size : ℕ) (name tail from following : List ℕ) (counted : ℕ) (more : List (List ℕ)) (sum count b : ℕ) (after : List ℕ) → IsTaken text rest names slice size name tail from following counted → more ≡ names ++ name ∷ [] → sum ≡ size + (length name + counted + 1) → count ≡ length more → following ≡ b ∷ after → b ≡ 41 → (formals : List Formal) × IsRead (formals_in 255 [] text) after count sum formals
read_closer text rest names slice size name tail from following counted more sum count b after t m s n e is =
    let r = t.found.read in
    let f : Formal = formal_with name from in
    let o : IsMore r.before f more sum = more_of text rest names slice size name tail from following counted t more sum m s in
    let at : following ≡ 41 ∷ after = e ∙ ap (λ (x : ℕ). x ∷ after) is in (
      r.before ++ f ∷ [],
      record {
        is = taken_by text rest names slice size name tail from following counted t ∙ ap (λ (x : List ℕ). list_by (254 - length r.before) r.before (Good f x)) at;
        count_is = sym (length-map (r.before ++ f ∷ []) (λ (x : Formal). x.name)) ∙ (ap (length {A = List ℕ}) o.names_are ∙ sym n);
        size_is = o.size_is;
        plain = o.plain;
      },
    )

-- a list without formals, and one that has some
pub read_empty : (text space after : List ℕ) (b : ℕ) → space ≡ after_space text → space ≡ b ∷ after → b ≡ 41 → (formals : List Formal) × IsRead (formals_of_list text) after 0 0 formals
unfolding formals_of_list
read_empty text space after b s e is = grind arith

pub read_formals : (text : List ℕ) → eqb (get_or (after_space text) 0 0) 41 ≡ false → formals_in 255 [] text ≡ formals_of_list text
unfolding formals_of_list
read_formals text e = sym (cond-false _ _ _ e)

-- what is wrong with a name, by the tests of it
pub fault_by : {X : Type 0} (f : X → List ℕ) (xs : List X) (name : List ℕ) (a b c d : Bool) → is_nothing name ≡ a → ltb 128 (length name) ≡ b → list_any (λ x. bytes_eq (f x) name) xs ≡ c → leb 255 (length xs) ≡ d → four a b c d ≡ fault_after (map f xs) name
unfolding fault_after
fault_by f xs name a b c d i j k m = grind (arith, any_mapped, length-map)

-- one more name
pub names_more : {X : Type 0} (f : X → List ℕ) (xs : List X) (count : ℕ) (x : X) → count < length xs → map f (take (count + 1) (set xs count x)) ≡ map f (take count xs) ++ f x ∷ []
names_more f xs count x inside = ap (map f) (take_more_set xs count x inside) ∙ map-append f (take count xs) (x ∷ [])

pub count_more : {X : Type 0} (f : X → List ℕ) (xs : List X) (count : ℕ) (x : X) → count < length xs → count + 1 ≡ length (map f (take (count + 1) (set xs count x)))
count_more f xs count x inside =
    omega (arith, length-map (take (count + 1) (set xs count x)) f, length-take-le (count + 1) (set xs count x) (omega (arith, inside, length-set xs count x)))

pub few_slots : {X : Type 0} (f : X → List ℕ) (xs : List X) (count most : ℕ) → length xs ≡ most → count ≤ most → length (map f (take count xs)) < most → count < most
few_slots f xs count most long inside few = omega (arith, length-map (take count xs) f, length-take-le count xs (omega (arith, long, inside)), few)

-- Formals that are appended to a table's bytes, one after another.

-- the formal with which a list's text begins, after no others
told_good : (text : List ℕ) (f : Formal) (following : List ℕ) → formal_in [] text ≡ Good f following → (formal_told text ≡ f) × (after_told text ≡ following) × (is_told text ≡ true)
unfolding formal_told after_told is_told
told_good text f following e = grind arith

told_bad : (text : List ℕ) (k : DefineKind) → formal_in [] text ≡ FormalFault k → is_told text ≡ false
unfolding is_told
told_bad text k e = ap (λ (o : OneFormal). elim o [ Good g x ↦ true | FormalFault j ↦ false ]) e

-- a told formal's name has no fault
sound_by : (o : Option DefineKind) (text name tail : List ℕ) → IsPart text name tail → formal_fault [] name ≡ o → is_told text ≡ true → formal_fault [] name ≡ None
sound_by None text name tail p e t = e
sound_by (Some k) text name tail p e t =
    absurd (false≢true (sym (told_bad text k (part_by [] text name tail p ∙ ap (λ (o : Option DefineKind). formal_by o name (default_in tail)) e)) ∙ t))

told_sound : (text name tail : List ℕ) → IsPart text name tail → is_told text ≡ true → formal_fault [] name ≡ None
told_sound text name tail p t = sound_by (formal_fault [] name) text name tail p refl t

-- a told formal has a default text
pub told_default : (text name tail : List ℕ) → IsPart text name tail → is_told text ≡ true → default_in tail ≡ None → ⊥
told_default text name tail p t e = false≢true (sym (told_bad text _ (bad_at [] text name tail p (told_sound text name tail p t) e)) ∙ t)

-- a default text by what it counts
no_bytes : (xs : List ℕ) → default_size xs ≡ 0 → default_bytes xs ≡ []
unfolding default_size default_bytes
no_bytes [] e = refl
no_bytes (b ∷ bs) e = absurd (omega arith)

some_bytes : (xs : List ℕ) → 0 < default_size xs → (default_bytes xs ≡ 61 ∷ xs) × (length xs ≡ default_size xs - 1)
unfolding default_size default_bytes
some_bytes [] h = absurd (omega arith)
some_bytes (b ∷ bs) h = (refl, omega arith)

-- a formal that is to be appended
pub record IsTold (text name from following : List ℕ) (size : ℕ) : Type 0 where
  pub told : formal_told text ≡ formal_with name from
  pub after_is : after_told text ≡ following
  pub size_is : formal_size (formal_told text) ≡ length name + (size + 1)
  pub short : size ≡ 0 → formal_bytes (formal_told text) ≡ name ++ 44 ∷ []
  pub long : 0 < size → formal_bytes (formal_told text) ≡ name ++ (61 ∷ default_left from ++ 44 ∷ [])
  pub len : 0 < size → trimmed_len (trims true) (cleared (start_level true) from) ≡ Ok (size - 1)

bytes_of : (name from bytes : List ℕ) → default_bytes (default_left from) ≡ bytes → formal_bytes (formal_with name from) ≡ name ++ (bytes ++ 44 ∷ [])
unfolding formal_bytes
bytes_of name from bytes e = ap (λ (x : List ℕ). name ++ (x ++ 44 ∷ [])) e

pub told_is : (text name tail from following : List ℕ) (size : ℕ) → IsPart text name tail → is_told text ≡ true → IsDefault (default_in tail) from following size → IsTold text name from following size
told_is text name tail from following size p t d =
    let g = told_good text (formal_with name from) following (good_at [] text name tail from following size p (told_sound text name tail p t) d) in
    record {
      told = g.0;
      after_is = g.1;
      size_is = ap formal_size g.0 ∙ size_with name from size d.size_is;
      short = λ z. ap formal_bytes g.0 ∙ bytes_of name from [] (no_bytes (default_left from) (d.size_is ∙ z));
      long = λ h. ap formal_bytes g.0 ∙ bytes_of name from (61 ∷ default_left from) (some_bytes (default_left from) (let k : 0 < default_size (default_left from) = omega (arith, d.size_is) in k)).0;
      len = λ h. d.len_is ∙ ap ok_len ((some_bytes (default_left from) (let k : 0 < default_size (default_left from) = omega (arith, d.size_is) in k)).1 ∙ ap (λ (n : ℕ). n - 1) d.size_is);
    }

-- a name without a fault after others has none after no others
three_false : (a b c : Bool) → three a b c ≡ None → three a b false ≡ None
three_false true b c e = absurd (cc)
three_false false true c e = absurd (cc)
three_false false false c e = refl

fault_alone : (before : List Formal) (name : List ℕ) → formal_fault before name ≡ None → formal_fault [] name ≡ None
fault_alone before name e = fault_three [] name ∙ three_false _ _ _ (sym (fault_three before name) ∙ e)

good_formal : (before : List Formal) (text : List ℕ) (o : Option DefineKind) (f : Formal) (following : List ℕ) → formal_fault before (formal_name text) ≡ o → formal_in before text ≡ Good f following → o ≡ None
unfolding formal_in
good_formal before text None f following e g = refl
good_formal before text (Some k) f following e g = grind arith

good_alone : (before : List Formal) (text : List ℕ) (f : Formal) (following : List ℕ) → formal_in before text ≡ Good f following → formal_in [] text ≡ Good f following
unfolding formal_in
good_alone before text f following g = grind (arith, good_formal, fault_alone)

-- whether a list was read
abbrev pub is_listed : FormalList → Bool
is_listed l = is_some (listed l)

-- the formals of a list that was read
abbrev pub all_of : FormalList → List Formal
all_of l = unwrap_or (listed l) []

-- the first formal of a list that was read, and the rest of it
pub record IsFirst (room : ℕ) (before : List Formal) (text : List ℕ) : Type 0 where
  pub left : ℕ
  pub room_is : room ≡ suc left
  pub told : is_told text ≡ true
  pub next : eqb (get_or (after_told text) 0 0) 44 ≡ true → formals_in room before text ≡ formals_in left (before ++ formal_told text ∷ []) (drop 1 (after_told text))
  pub last : eqb (get_or (after_told text) 0 0) 44 ≡ false → formals_in room before text ≡ Listed (Some (before ++ formal_told text ∷ [])) (drop 1 (after_told text))

closed_by : (c : Bool) (fs : List Formal) (after : List ℕ) (k : DefineKind) → is_listed (cond c (Listed (Some fs) after) (FormalListFault k)) ≡ true → cond c (Listed (Some fs) after) (FormalListFault k) ≡ Listed (Some fs) after
unfolding listed
closed_by true fs after k e = refl
closed_by false fs after k e = absurd (false≢true e)

not_listed : (k : DefineKind) → is_listed (FormalListFault k) ≡ false
unfolding listed
not_listed k = refl

first_by : (left : ℕ) (before : List Formal) (text : List ℕ) (o : OneFormal) → formal_in before text ≡ o → is_listed (list_by left before o) ≡ true → IsFirst (suc left) before text
first_by left before text (FormalFault k) e h = absurd (false≢true (sym (not_listed k) ∙ h))
first_by left before text (Good f following) e h = grind (arith, told_good, good_alone, list_step, cond-true, cond-false, closed_by)

first_of_list : (room : ℕ) (before : List Formal) (text : List ℕ) → is_listed (formals_in room before text) ≡ true → IsFirst room before text
first_of_list zero before text h = absurd (false≢true (sym (ap is_listed (list_full before text) ∙ not_listed _) ∙ h))
first_of_list (suc left) before text h = first_by left before text (formal_in before text) refl (sym (ap is_listed (list_step left before text)) ∙ h)

all_listed : (fs : List Formal) (after : List ℕ) → all_of (Listed (Some fs) after) ≡ fs
unfolding listed
all_listed fs after = refl

-- what was read is no larger than the whole list
size_in : (room : ℕ) (before : List Formal) (text : List ℕ) → is_listed (formals_in room before text) ≡ true → sum_by formal_size before ≤ sum_by formal_size (all_of (formals_in room before text))
size_in zero before text h = absurd (false≢true (sym (ap is_listed (list_full before text) ∙ not_listed _) ∙ h))
size_in (suc left) before text h =
    let f : IsFirst (suc left) before text = first_of_list (suc left) before text h in
    let n : left ≡ f.left = omega (arith, f.room_is) in
    elim (cases_Bool (eqb (get_or (after_told text) 0 0) 44)) [
      | inl c ↦
          let e : formals_in (suc left) before text ≡ formals_in left (before ++ formal_told text ∷ []) (drop 1 (after_told text)) = f.next c ∙ ap (λ (k : ℕ). formals_in k (before ++ formal_told text ∷ []) (drop 1 (after_told text))) (sym n) in
          omega (arith, size_in left (before ++ formal_told text ∷ []) (drop 1 (after_told text)) (sym (ap is_listed e) ∙ h), ap (λ (l : FormalList). sum_by formal_size (all_of l)) e, sum_by-append formal_size before (formal_told text ∷ []))
      | inr c ↦ omega (arith, ap (λ (l : FormalList). sum_by formal_size (all_of l)) (f.last c), ap (sum_by formal_size) (all_listed (before ++ formal_told text ∷ []) (drop 1 (after_told text))), sum_by-append formal_size before (formal_told text ∷ []))
    ]

first_size : (room : ℕ) (before : List Formal) (text : List ℕ) → is_listed (formals_in room before text) ≡ true → sum_by formal_size before + formal_size (formal_told text) ≤ sum_by formal_size (all_of (formals_in room before text))
first_size room before text h =
    let f : IsFirst room before text = first_of_list room before text h in
    grind (arith, cases_Bool, size_in, sum_by-append, one_size, all_listed)

-- the bytes of the formals before the rest of a list were appended
pub record IsAppended (text rest old items : List ℕ) : Type 0 where
  pub room : ℕ
  pub before : List Formal
  pub same : formals_in room before rest ≡ formals_in 255 [] text
  pub bytes : items ≡ old ++ flat_map formal_bytes before

pub append_starts : (text items : List ℕ) → IsAppended text text items items
append_starts text items = record { room = 255; before = []; same = refl; bytes = sym (append-nil items) }

listed_rest : (text rest old items : List ℕ) (a : IsAppended text rest old items) → is_listed (formals_in 255 [] text) ≡ true → is_listed (formals_in a.room a.before rest) ≡ true
listed_rest text rest old items a h = ap is_listed a.same ∙ h

pub append_told : (text rest old items : List ℕ) → IsAppended text rest old items → is_listed (formals_in 255 [] text) ≡ true → is_told rest ≡ true
append_told text rest old items a h = (first_of_list a.room a.before rest (listed_rest text rest old items a h)).told

pub append_room : (text rest old items : List ℕ) → IsAppended text rest old items → is_listed (formals_in 255 [] text) ≡ true → length items + formal_size (formal_told rest) ≤ length old + sum_by formal_size (all_of (formals_in 255 [] text))
append_room text rest old items a h = grind (arith, first_size, listed_rest, length-append, length_list_bytes)

more_bytes : (old items more : List ℕ) (before : List Formal) (f : Formal) → items ≡ old ++ flat_map formal_bytes before → more ≡ items ++ formal_bytes f → more ≡ old ++ flat_map formal_bytes (before ++ f ∷ [])
more_bytes old items more before f e m = grind (arith, append_assoc, append-nil, flat_map-append)

pub append_next : (text rest old items more following : List ℕ) → IsAppended text rest old items → is_listed (formals_in 255 [] text) ≡ true → more ≡ items ++ formal_bytes (formal_told rest) → after_told rest ≡ 44 ∷ following → IsAppended text following old more
append_next text rest old items more following a h m b =
    let f : IsFirst a.room a.before rest = first_of_list a.room a.before rest (listed_rest text rest old items a h) in
    grind (arith, first_of_list, listed_rest, more_bytes)

append_last : (text rest old items more : List ℕ) → IsAppended text rest old items → is_listed (formals_in 255 [] text) ≡ true → more ≡ items ++ formal_bytes (formal_told rest) → eqb (get_or (after_told rest) 0 0) 44 ≡ false → more ≡ old ++ flat_map formal_bytes (all_of (formals_in 255 [] text))
append_last text rest old items more a h m c =
    let f : IsFirst a.room a.before rest = first_of_list a.room a.before rest (listed_rest text rest old items a h) in
    grind (arith, more_bytes, all_listed)

-- a formal but for its comma was appended
pub record IsMid (text old items : List ℕ) : Type 0 where
  pub whole : items ++ 44 ∷ [] ≡ old ++ formal_bytes (formal_told text)

left_is : (from : List ℕ) → trimmed_left (trims true) (cleared (start_level true) from) ≡ default_left from
unfolding start_level default_left
left_is from = refl

pub mid_long : (text name from following old named signed items : List ℕ) (size : ℕ) → IsTold text name from following size → 0 < size → named ≡ old ++ name → signed ≡ named ++ 61 ∷ [] → items ≡ signed ++ trimmed_left (trims true) (cleared (start_level true) from) → IsMid text old items
mid_long text name from following old named signed items size t h e f g = grind (arith, left_is, append_assoc)

pub mid_short : (text name from following old items : List ℕ) (size : ℕ) → IsTold text name from following size → size ≡ 0 → items ≡ old ++ name → IsMid text old items
mid_short text name from following old items size t z e = grind (arith, append_assoc)

pub mid_length : (text old items : List ℕ) → IsMid text old items → length items + 1 ≡ length old + formal_size (formal_told text)
mid_length text old items m =
    omega (arith, ap (length {A = ℕ}) m.whole, length-append items (44 ∷ []), length-append old (formal_bytes (formal_told text)), length_formal_bytes (formal_told text))

pub after_comma : (text following after : List ℕ) (b : ℕ) → after_told text ≡ following → following ≡ b ∷ after → b ≡ 44 → after_told text ≡ 44 ∷ after
after_comma text following after b e f g = e ∙ (f ∙ ap (λ (x : ℕ). x ∷ after) g)

pub after_other : (text following : List ℕ) → after_told text ≡ following → eqb (get_or following 0 0) 44 ≡ false → get_or (after_told text) 0 0 ≡ 44 → ⊥
after_other text following e f g =
    false≢true (sym (ap (λ (x : List ℕ). eqb (get_or x 0 0) 44) e ∙ f) ∙ eq-eqb (get_or (after_told text) 0 0) 44 g)

pub append_end : (text rest old items more : List ℕ) → IsAppended text rest old items → is_listed (formals_in 255 [] text) ≡ true → more ≡ items ++ formal_bytes (formal_told rest) → (get_or (after_told rest) 0 0 ≡ 44 → ⊥) → more ≡ old ++ flat_map formal_bytes (all_of (formals_in 255 [] text))
append_end text rest old items more a h m n = append_last text rest old items more a h m (ne_eqb (get_or (after_told rest) 0 0) 44 n)
