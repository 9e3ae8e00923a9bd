-- What is written of names, of formals and of macros, part by part.
use Rattle.std.proofs.Common.{◌≡◌, ℕ, List, [], ◌∷◌, ◌++◌, length, refl, arith, suc, ◌+◌, ◌<◌, take, drop, take-append-drop, slice_index_or, Option, Result, Ok, Err, ap, ◌∙◌, append_assoc, append-nil, add-one, sym, subst, true, false, map, codes, bytes_eq, ◌≤◌, ◌==◌, ◌&&◌, Bool, get_or, None, Some, inl, inr, slice_index, option_map, unwrap_or, flat_map, position, if◌then◌else◌, drop-cons, take-suc, eq-eqb, eqb-true, ne_eqb, length-append, take_all}
use Rattle.std.specs.Io.KnownBytes.{Appends}
use Rattle.std.specs.List.{IsDistinct, concat}
use Rattle.std.specs.Option.{option_map_or}
use Rattle.std.proofs.KnownBytes.{Appends-trans}
use Rattle.std.proofs.Math.ListN.{get_or-map}
use Rattle.std.proofs.lemmas.Bool.{cases_lt, false≢true}
use Rattle.std.proofs.lemmas.Grind.{flat_map-append}
use Rattle.std.proofs.lemmas.List.{drop_all, length-map, take-append-le}
use Rattle.std.proofs.lemmas.List.Folds.{flat_map-map}
use Rattle.std.proofs.lemmas.List.Quantifiers.{position-Some}
use Rattle.std.proofs.lemmas.Map.Keys.{apart_from_distinct}
use Rattle.std.proofs.lemmas.Slice.Eq.{bytes_eq-Decides}
use Rattle.rdlpp_define.specs.Macros.{Formal, Macro, default_bytes, formal_bytes, formals_of}
use Rattle.rdlpp_table.specs.Store.{macro_bytes}
use Rattle.rdlpp_define.specs.Table.{macro_at}
use Rattle.rdlpp_table.proofs.Orders.{position_is}
use Rattle.rdlpp_reports.specs.Definitions.{BeginsWith, continued, definition_line, ends_in_slash, ends_name, formal_part, formal_text, formals_text, list_text, marked_text}
use Rattle.rdlpp_reports.specs.Dependencies.{empty_rule, included, prerequisite, quote, rule_name}
use Rattle.rdlpp_reports.specs.Writes.{Writes}

-- A text after a mark, by whether it is empty.

-- an empty text
pub marked-none : (mark text : List ℕ) → length text ≡ 0 → [] ≡ marked_text mark text
marked-none mark [] h = refl
marked-none mark (b ∷ bs) h = absurd (omega arith)

-- any other text
pub marked-some : (mark text : List ℕ) → (length text ≡ 0 → ⊥) → mark ++ continued text ≡ marked_text mark text
marked-some mark [] h = absurd (h refl)
marked-some mark (b ∷ bs) h = refl

-- Parts were written one after another, from what was written of each.

-- all bytes of a part were written, and then those of another
pub writes_then : {T E : Type 0} (old between new : Option (List ℕ)) (a b : List ℕ) (r : Result T E) → Appends old between a → Writes between new b r → Writes old new (a ++ b) r
writes_then old between new a b r first w = record {
  written = a ++ w.written;
  rest = w.rest;
  split = ap (λ l. a ++ l) w.split ∙ sym (append_assoc a w.written w.rest);
  taken = Appends-trans old between new a w.written first w.taken;
  whole = w.whole;
}

-- the same bytes
pub writes_by : {T E : Type 0} (old new : Option (List ℕ)) (a b : List ℕ) (r : Result T E) → a ≡ b → Writes old new a r → Writes old new b r
writes_by old new a b r e w = subst (λ bytes. Writes old new bytes r) e w

-- a part failed, and nothing of what follows was written
pub writes_part : {T U E F : Type 0} (old new : Option (List ℕ)) (a b : List ℕ) (e : E) (f : F) → Writes {T = T} old new a (Err e) → Writes {T = U} old new (a ++ b) (Err f)
writes_part old new a b e f w = search (arith, append_assoc)

-- where all was written, that is what was taken
pub writes_whole : {T E : Type 0} (old new : Option (List ℕ)) (bytes : List ℕ) (x : T) → Writes {E = E} old new bytes (Ok x) → Appends old new bytes
writes_whole old new bytes x w = search (arith, append-nil)

-- one part more
pub flat-take-suc : {A : Type 0} (f : A → List ℕ) (xs : List A) (i : ℕ) (d : A) → i < length xs
    → flat_map f (take (i + 1) xs) ≡ flat_map f (take i xs) ++ f (slice_index_or xs i d)
flat-take-suc f xs i d h = grind (arith, add-one i, take-suc xs i d h, flat_map-append, append-nil)

-- the parts are those so far, one, and the others
pub flat-split : {A : Type 0} (f : A → List ℕ) (xs : List A) (i : ℕ) (d : A) → i < length xs
    → flat_map f xs ≡ flat_map f (take i xs) ++ (f (slice_index_or xs i d) ++ flat_map f (drop (suc i) xs))
flat-split f xs i d h = grind (arith, take-append-drop i xs, drop-cons xs i d h, flat_map-append)

-- a part more was written after those so far
pub flat-grows : {A T E : Type 0} (f : A → List ℕ) (xs : List A) (i : ℕ) (d : A) (old between new : Option (List ℕ)) (x : T) → i < length xs
    → Appends old between (flat_map f (take i xs)) → Writes {E = E} between new (f (slice_index_or xs i d)) (Ok x)
    → Appends old new (flat_map f (take (i + 1) xs))
flat-grows f xs i d old between new x h done w =
    subst (Appends old new) (sym (flat-take-suc f xs i d h)) (Appends-trans old between new _ _ done (writes_whole between new _ x w))

-- a part failed after those so far
pub flat-fails : {A T U E F : Type 0} (f : A → List ℕ) (xs : List A) (i : ℕ) (d : A) (old between new : Option (List ℕ)) (e : E) (r : F) → i < length xs
    → Appends old between (flat_map f (take i xs)) → Writes {T = T} between new (f (slice_index_or xs i d)) (Err e)
    → Writes {T = U} old new (flat_map f xs) (Err r)
flat-fails f xs i d old between new e r h done w = grind (arith, flat-split f xs i d h, writes_by, writes_then, writes_part)

-- A name was written as make reads it, byte by byte.

-- what is written of a byte
abbrev pub name_byte : ℕ → List ℕ → List ℕ
name_byte b following = concat (quote b following ∷ (b ∷ []) ∷ [])

-- what was written of a name, and what is left of it
pub record NameWritten (name rest : List ℕ) (old new : Option (List ℕ)) : Type 0 where
  pub done : List ℕ
  pub split : rule_name name ≡ done ++ rule_name rest
  pub appended : Appends old new done

-- one byte more was written
pub name-grows : {T E : Type 0} (name rest following : List ℕ) (b : ℕ) (old between new : Option (List ℕ)) (x : T) → rest ≡ b ∷ following
    → NameWritten name rest old between → Writes {E = E} between new (name_byte b following) (Ok x) → NameWritten name following old new
unfolding rule_name
name-grows name rest following b old between new x e w h = record {
  done = w.done ++ name_byte b following;
  split = w.split ∙ ap (λ r. w.done ++ rule_name r) e ∙ sym (append_assoc w.done (name_byte b following) (rule_name following));
  appended = Appends-trans old between new _ _ w.appended (writes_whole between new _ x h);
}

-- one byte failed
pub name-fails : {T U E F : Type 0} (name rest following end : List ℕ) (b : ℕ) (old between new : Option (List ℕ)) (e : E) (f : F) → rest ≡ b ∷ following
    → NameWritten name rest old between → Writes {T = T} between new (name_byte b following) (Err e) → Writes {T = U} old new (rule_name name ++ end) (Err f)
unfolding rule_name
name-fails name rest following end b old between new e f is w h =
    writes_by old new _ _ _
    (sym (ap (λ l. l ++ end) (w.split ∙ ap (λ r. w.done ++ rule_name r) is) ∙ append_assoc w.done (name_byte b following ++ rule_name following) end ∙ ap (λ l. w.done ++ l) (append_assoc (name_byte b following) (rule_name following) end)))
    (writes_then old between new _ _ _ w.appended (writes_part between new _ (rule_name following ++ end) e f h))

-- all of it was written, and then the end
pub name-ends : {T E : Type 0} (name rest end : List ℕ) (old between new : Option (List ℕ)) (r : Result T E) → rest ≡ []
    → NameWritten name rest old between → Writes between new end r → Writes old new (rule_name name ++ end) r
unfolding rule_name
name-ends name rest end old between new r is w h = search (arith, writes_by, append_assoc, writes_then)

-- the included sources by their paths
pub included-map : {A B : Type 0} (f : A → B) (xs : List A) → map f (included xs) ≡ included (map f xs)
included-map f [] = refl
included-map f (x ∷ xs) = refl

-- the rules of the included sources
pub rules-following : {A : Type 0} (f : A → List ℕ) (xs rest : List A) (paths : List (List ℕ)) → rest ≡ included xs → map f xs ≡ paths
    → flat_map (λ x. empty_rule (f x)) rest ≡ flat_map empty_rule (included paths)
rules-following f xs rest paths e p = search (arith, flat_map-map, included-map)

-- the sources after the target
pub sources-following : {A : Type 0} (f : A → List ℕ) (xs : List A) (paths : List (List ℕ)) → map f xs ≡ paths
    → flat_map (λ x. prerequisite (f x)) xs ≡ flat_map prerequisite paths
sources-following f xs paths p = sym (flat_map-map prerequisite f xs) ∙ ap (flat_map prerequisite) p

-- a source that isn't standard input
pub prerequisite-named : (path : List ℕ) → bytes_eq path (codes "-") ≡ false → prerequisite path ≡ codes " \\\n " ++ (rule_name path ++ [])
prerequisite-named path h = search (arith, append-nil)

-- standard input
pub prerequisite-input : (path : List ℕ) → bytes_eq path (codes "-") ≡ true → [] ≡ prerequisite path
prerequisite-input path h = sym (ap (λ b. if b then [] else codes " \\\n " ++ rule_name path) h)

-- Among distinct names, a name and its place are one.

-- distinct names differ
apart : {X : Type 0} (f : X → List ℕ) (xs : List X) (d : X) (i j : ℕ) → IsDistinct bytes_eq (map f xs) → i < j → j < length xs → bytes_eq (f (get_or xs i d)) (f (get_or xs j d)) ≡ false
apart f xs d i j h b l = grind (arith, get_or-map f xs i d, get_or-map f xs j d, apart_from_distinct bytes_eq (map f xs) i j (f d) h b (omega (arith, l, length-map xs f)), length-map xs f)

-- the place of the name at a place
pub place_of_name : {X : Type 0} (f : X → List ℕ) (xs : List X) (d : X) (i : ℕ) → IsDistinct bytes_eq (map f xs) → i < length xs → position (λ x. bytes_eq (f x) (f (get_or xs i d))) xs ≡ Some i
place_of_name f xs d i h l =
    position_is (λ x. bytes_eq (f x) (f (get_or xs i d))) xs i d l (λ k g. apart f xs d k i h g l) ((bytes_eq-Decides (f (get_or xs i d)) (f (get_or xs i d))).1 refl)

-- bytes that begin with a name, up to its length
pub front_of_name : (bytes name rest : List ℕ) (len : ℕ) → bytes ≡ name ++ rest → len ≡ length name → take len bytes ≡ name
front_of_name bytes name rest len e l =
    ap (take len) e ∙ (take-append-le len name rest (omega (arith, l)) ∙ take_all len name (omega (arith, l)))

-- where the name at a place is looked up, that place is found
pub is_found : {X : Type 0} (f : X → List ℕ) (xs : List X) (d : X) (i : ℕ) (name : List ℕ) (found : Option ℕ) → IsDistinct bytes_eq (map f xs) → i < length xs → name ≡ f (get_or xs i d)
    → found ≡ position (λ x. bytes_eq (f x) name) xs → option_map_or (λ n. n == i) found false ≡ true
is_found f xs d i name found h l e p =
    ap (λ o. option_map_or (λ n. n == i) o false) (p ∙ (ap (λ n. position (λ x. bytes_eq (f x) n) xs) e ∙ place_of_name f xs d i h l)) ∙ eq-eqb i i refl

-- a name isn't longer than what was looked up in vain
pub is_longer : {X : Type 0} (f : X → List ℕ) (xs : List X) (d : X) (i len : ℕ) (bytes rest : List ℕ) (found : Option ℕ) → IsDistinct bytes_eq (map f xs) → i < length xs → bytes ≡ f (get_or xs i d) ++ rest
    → found ≡ position (λ x. bytes_eq (f x) (take len bytes)) xs → option_map_or (λ n. n == i) found false ≡ false → len ≤ length (f (get_or xs i d)) → len + 1 ≤ length (f (get_or xs i d))
is_longer f xs d i len bytes rest found h l b p vain le =
    elim (cases_lt len (length (f (get_or xs i d)))) [
      | inl g ↦ omega (arith, g)
      | inr g ↦ absurd (false≢true (sym vain ∙ is_found f xs d i (take len bytes) found h l (front_of_name bytes (f (get_or xs i d)) rest len b (omega (arith, g, le))) p))
    ]

-- what was found at a place
pub found_at : (i : ℕ) (found : Option ℕ) → option_map_or (λ n. n == i) found false ≡ true → found ≡ Some i
found_at i None e = absurd (false≢true e)
found_at i (Some n) e = ap Some (eqb-true n i e)

-- what stands after the name of a formal
unfoldable pub after_name : Formal → List ℕ → List ℕ
after_name f rest = (default_bytes f.text ++ 44 ∷ []) ++ rest

-- a formal's bytes begin with its name
pub name_in_front : (bytes rest : List ℕ) (f : Formal) → bytes ≡ formal_bytes f ++ rest → bytes ≡ f.name ++ after_name f rest
unfolding formal_bytes after_name
name_in_front bytes rest f e = e ∙ append_assoc f.name (default_bytes f.text ++ 44 ∷ []) rest

-- the byte after the front of bytes
index-length : (xs ys : List ℕ) → slice_index (xs ++ ys) (length xs) ≡ slice_index ys 0
index-length [] ys = refl
index-length (x ∷ xs) ys = index-length xs ys

first_ends : (f : Formal) (rest text : List ℕ) → f.text ≡ text → ends_name (slice_index ((default_bytes text ++ 44 ∷ []) ++ rest) 0) ≡ true
unfolding default_bytes
first_ends f rest [] e = refl
first_ends f rest (b ∷ bs) e = refl

-- after a formal's name stands a byte that ends it
pub name_ends : (bytes rest : List ℕ) (f : Formal) (len : ℕ) → bytes ≡ f.name ++ after_name f rest → len ≡ length f.name → ends_name (slice_index bytes len) ≡ true
unfolding after_name
name_ends bytes rest f len e l = grind (arith, index-length f.name ((default_bytes f.text ++ 44 ∷ []) ++ rest), first_ends f rest f.text refl)

-- where the first of two tests holds and not both do
second_fails : (a b : Bool) → (a && b) ≡ false → a ≡ true → b ≡ false
second_fails true b e h = e
second_fails false b e h = absurd (false≢true h)

-- where two tests hold, the second does
pub second_holds : (a b : Bool) → (a && b) ≡ true → b ≡ true
second_holds true b e = e
second_holds false b e = absurd (false≢true e)

-- a formal's name isn't longer than what isn't it
pub formal_longer : (fs : List Formal) (d : Formal) (i len : ℕ) (bytes rest : List ℕ) (found : Option ℕ) → IsDistinct bytes_eq (map (λ f. f.name) fs) → i < length fs → bytes ≡ formal_bytes (get_or fs i d) ++ rest
    → found ≡ position (λ f. bytes_eq f.name (take len bytes)) fs → (ends_name (slice_index bytes len) && option_map_or (λ n. n == i) found false) ≡ false → len ≤ length (get_or fs i d).name → len + 1 ≤ length (get_or fs i d).name
formal_longer fs d i len bytes rest found h l b p vain le =
    let f = get_or fs i d in
    let front = name_in_front bytes rest f b in
    elim (cases_lt len (length f.name)) [
      | inl g ↦ omega (arith, g)
      | inr g ↦ is_longer (λ x. x.name) fs d i len bytes (after_name f rest) found h l front p (second_fails (ends_name (slice_index bytes len)) (option_map_or (λ n. n == i) found false) vain (name_ends bytes rest f len front (omega (arith, g, le)))) le
    ]

-- the name at the place that was found
pub found_name : {X : Type 0} (f : X → List ℕ) (xs : List X) (d : X) (i : ℕ) (name : List ℕ) → option_map_or (λ n. n == i) (position (λ x. bytes_eq (f x) name) xs) false ≡ true → name ≡ f (get_or xs i d)
found_name f xs d i name e =
    sym ((bytes_eq-Decides (f (get_or xs i d)) name).0 (position-Some (λ x. bytes_eq (f x) name) xs i d (found_at i (position (λ x. bytes_eq (f x) name) xs) e)).1)

-- What stands after a formal and after a macro in a table's bytes.

-- bytes after a front
pub drop_front : (xs ys : List ℕ) → drop (length xs) (xs ++ ys) ≡ ys
drop_front [] ys = refl
drop_front (x ∷ xs) ys = drop_front xs ys

-- what stands after a formal's name
after_is : (bytes after name rest : List ℕ) (f : Formal) → bytes ≡ formal_bytes f ++ after → name ≡ f.name → rest ≡ drop (length name) bytes → rest ≡ after_name f after
after_is bytes after name rest f e n r =
    r ∙ (ap (λ l. drop (length l) bytes) n ∙ (ap (drop (length f.name)) (name_in_front bytes after f e) ∙ drop_front f.name (after_name f after)))

tail_plain : (text after : List ℕ) → length text ≡ 0 → drop 1 ((default_bytes text ++ 44 ∷ []) ++ after) ≡ after
unfolding default_bytes
tail_plain [] after h = refl
tail_plain (b ∷ bs) after h = absurd (omega arith)

tail_default : (text after : List ℕ) → (length text ≡ 0 → ⊥) → drop (length text + 2) ((default_bytes text ++ 44 ∷ []) ++ after) ≡ after
unfolding default_bytes
tail_default [] after h = absurd (h refl)
tail_default (b ∷ bs) after h = grind (arith, length-append (b ∷ bs) (44 ∷ []), drop_front)

-- what stands after a formal without a default text
pub after_plain : (bytes after name rest text : List ℕ) (f : Formal) → bytes ≡ formal_bytes f ++ after → name ≡ f.name → rest ≡ drop (length name) bytes → text ≡ f.text → length text ≡ 0 → drop 1 rest ≡ after
unfolding after_name
after_plain bytes after name rest text f e n r t h =
    ap (drop 1) (after_is bytes after name rest f e n r) ∙ tail_plain f.text after (sym (ap length t) ∙ h)

-- what stands after a formal with one
pub after_default : (bytes after name rest text : List ℕ) (f : Formal) → bytes ≡ formal_bytes f ++ after → name ≡ f.name → rest ≡ drop (length name) bytes → text ≡ f.text → (length text ≡ 0 → ⊥) → drop (length text + 2) rest ≡ after
unfolding after_name
after_default bytes after name rest text f e n r t h =
    ap (λ l. drop (length l + 2) rest) t ∙ (ap (drop (length f.text + 2)) (after_is bytes after name rest f e n r) ∙ tail_default f.text after (λ z. h (ap length t ∙ z)))

-- what stands after a macro's name
pub formals_after : (bytes after name rest : List ℕ) (m : Macro) → bytes ≡ macro_bytes m ++ after → name ≡ m.name → rest ≡ drop (length name) bytes → rest ≡ flat_map formal_bytes (drop 0 (formals_of m)) ++ (m.body ++ after)
unfolding macro_bytes
formals_after bytes after name rest m e n r = grind (arith, append_assoc, drop_front)

-- the formals from a place on are the one at the place, and those after it
pub formals_from : (fs : List Formal) (d : Formal) (place : ℕ) (rest tail : List ℕ) → place < length fs → rest ≡ flat_map formal_bytes (drop place fs) ++ tail
    → rest ≡ formal_bytes (get_or fs place d) ++ (flat_map formal_bytes (drop (place + 1) fs) ++ tail)
formals_from fs d place rest tail h e = search (arith, drop-cons, append_assoc, add-one)

-- after the last formal
pub formals_end : (fs : List Formal) (place : ℕ) (rest tail : List ℕ) → length fs ≤ place → rest ≡ flat_map formal_bytes (drop place fs) ++ tail → rest ≡ tail
formals_end fs place rest tail h e = e ∙ ap (λ l. flat_map formal_bytes l ++ tail) (drop_all place fs h)

-- after a macro's body
pub body_after : (rest after body : List ℕ) (m : Macro) → rest ≡ m.body ++ after → body ≡ m.body → drop (length body) rest ≡ after
body_after rest after body m e b = ap (λ l. drop (length l) rest) b ∙ (ap (drop (length m.body)) e ∙ drop_front m.body after)

-- how many formals a macro has, by its arity
pub count_formals : (formals : Option (List Formal)) (arity : Option ℕ) → arity ≡ option_map length formals → unwrap_or arity 0 ≡ length (unwrap_or formals [])
count_formals None arity e = ap (λ a. unwrap_or a 0) e
count_formals (Some fs) arity e = ap (λ a. unwrap_or a 0) e

-- the macros from a place on are the one at the place, and those after it
pub macros_from : (ms : List Macro) (place : ℕ) (rest : List ℕ) → place < length ms → rest ≡ flat_map macro_bytes (drop place ms)
    → rest ≡ macro_bytes (macro_at ms place) ++ flat_map macro_bytes (drop (place + 1) ms)
macros_from ms place rest h e = search (arith, drop-cons, add-one)

-- a macro's bytes begin with its name
pub macro_name : (rest after : List ℕ) (m : Macro) → rest ≡ macro_bytes m ++ after → BeginsWith rest m.name
unfolding macro_bytes
macro_name rest after m e = grind (arith, append_assoc)

-- Formals were written one after another, and the lines of macros.

-- the first formal
pub first_part : (place : ℕ) (f : Formal) → place ≡ 0 → formal_text f ≡ formal_part place f
first_part place f e = sym (ap (λ b. if b then formal_text f else codes "," ++ formal_text f) (eq-eqb place 0 e))

-- a further one
pub further_part : (place : ℕ) (f : Formal) → (place ≡ 0 → ⊥) → codes "," ++ formal_text f ≡ formal_part place f
further_part place f e = sym (ap (λ b. if b then formal_text f else codes "," ++ formal_text f) (ne_eqb place 0 e))

-- what was written of a list of formals, and what is left of it
pub record FormalsWritten (fs : List Formal) (place : ℕ) (old new : Option (List ℕ)) : Type 0 where
  pub done : List ℕ
  pub split : formals_text 0 fs ≡ done ++ formals_text place (drop place fs)
  pub appended : Appends old new (codes "(" ++ done)

-- the formal at a place, and those after it
part_split : (fs : List Formal) (d : Formal) (place : ℕ) (done : List ℕ) → place < length fs → formals_text 0 fs ≡ done ++ formals_text place (drop place fs)
    → formals_text 0 fs ≡ done ++ (formal_part place (get_or fs place d) ++ formals_text (place + 1) (drop (place + 1) fs))
part_split fs d place done h e = search (arith, drop-cons, add-one)

-- one formal more was written
pub formal-grows : {T E : Type 0} (fs : List Formal) (d : Formal) (place : ℕ) (old between new : Option (List ℕ)) (x : T) → place < length fs
    → FormalsWritten fs place old between → Writes {E = E} between new (formal_part place (get_or fs place d)) (Ok x) → FormalsWritten fs (place + 1) old new
formal-grows fs d place old between new x h w p = record {
  done = w.done ++ formal_part place (get_or fs place d);
  split = part_split fs d place w.done h w.split ∙ sym (append_assoc w.done (formal_part place (get_or fs place d)) (formals_text (place + 1) (drop (place + 1) fs)));
  appended = Appends-trans old between new _ _ w.appended (writes_whole between new _ x p);
}

-- one formal failed
pub formal-fails : {T U E F : Type 0} (fs : List Formal) (d : Formal) (place : ℕ) (old between new : Option (List ℕ)) (e : E) (r : F) → place < length fs
    → FormalsWritten fs place old between → Writes {T = T} between new (formal_part place (get_or fs place d)) (Err e)
    → Writes {T = U} old new (codes "(" ++ (formals_text 0 fs ++ codes ")")) (Err r)
formal-fails fs d place old between new e r h w p =
    let part = formal_part place (get_or fs place d) in
    let following = formals_text (place + 1) (drop (place + 1) fs) in
    writes_by old new _ _ _
    (sym (ap (λ l. codes "(" ++ (l ++ codes ")")) (part_split fs d place w.done h w.split)
    ∙ (ap (λ l. codes "(" ++ l) (append_assoc w.done (part ++ following) (codes ")") ∙ ap (λ l. w.done ++ l) (append_assoc part following (codes ")")))
    ∙ sym (append_assoc (codes "(") w.done (part ++ (following ++ codes ")"))))))
    (writes_then old between new _ _ _ w.appended (writes_part between new _ (following ++ codes ")") e r p))

-- all of them were written, and then the end
pub formals-end : {T E : Type 0} (fs : List Formal) (place : ℕ) (old between new : Option (List ℕ)) (r : Result T E) → length fs ≤ place
    → FormalsWritten fs place old between → Writes between new (codes ")") r → Writes old new (codes "(" ++ (formals_text 0 fs ++ codes ")")) r
formals-end fs place old between new r h w p =
    writes_by old new _ _ _
    (sym (ap (λ l. codes "(" ++ (l ++ codes ")")) (w.split ∙ ap (λ l. w.done ++ formals_text place l) (drop_all place fs h))
    ∙ (ap (λ l. codes "(" ++ l) (append_assoc w.done [] (codes ")"))
    ∙ sym (append_assoc (codes "(") w.done (codes ")")))))
    (writes_then old between new _ _ _ w.appended p)

-- a formal by its name and its default text
pub part_by : (place : ℕ) (name text : List ℕ) (f : Formal) → name ≡ f.name → text ≡ f.text → formal_part place (record { name = name; text = text }) ≡ formal_part place f
part_by place name text f e h =
    ap (λ n. formal_part place (record { name = n; text = text })) e ∙ ap (λ t. formal_part place (record { name = f.name; text = t })) h

-- the comment in place of a macro's line
pub comment_line : (m : Macro) (name body : List ℕ) → name ≡ m.name → body ≡ m.body → ends_in_slash body ≡ true → concat (codes "// not as a define: " ∷ name ∷ codes "\n" ∷ []) ≡ definition_line m
comment_line m name body n b e = grind arith

-- a macro's line
pub whole_line : (m : Macro) (name body : List ℕ) → name ≡ m.name → body ≡ m.body → ends_in_slash body ≡ false
    → concat (codes "`define " ∷ name ∷ []) ++ (list_text m.formals m.body ++ (continued body ++ codes "\n")) ≡ definition_line m
whole_line m name body n b e = grind arith

-- a macro's bytes begin with its name, and then the formals
pub formals_in_front : (bytes name rest : List ℕ) (m : Macro) → BeginsWith bytes (macro_bytes m) → name ≡ m.name → rest ≡ drop (length name) bytes → BeginsWith rest (flat_map formal_bytes (formals_of m))
formals_in_front bytes name rest m b n r = (m.body ++ b.0, formals_after bytes b.0 name rest m b.1 n r)
