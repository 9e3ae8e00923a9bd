-- What is told of the places of macros after changes.
use Rattle.std.proofs.Common.{◌≡◌, ℕ, ◌⊎◌, inl, inr, IfSome, IfNone, Bool, true, false, List, bytes_eq, Option, None, Some, Result, Ok, Err, is_err, OnErr, refl, ap, subst, ◌∙◌, cond, if◌then◌else◌, string_bytes, string_eq, String, option_map}
use Rattle.std.specs.declared.alloc.Global.{Global}
use Rattle.std.specs.HashMap.{HashMap, UpdatesBy, get_by_text}
use Rattle.std.specs.Map.{lookup}
use Rattle.std.proofs.lemmas.Map.Text.{hash_map_updates_text}
use Rattle.rdlpp_reports.specs.Places.{Forgets, Shown, shown_at, shown_of}
use Rattle.rdlpp_reports.specs.declared.places.DefinitionPlaces.{DefinitionPlaces}
use Rattle.rdlpp_reports.specs.declared.places.ShownPlace.{ShownPlace}

-- a choice of what is kept, as it is told
chosen : (b : Bool) (w x : Option ShownPlace) → option_map shown_of (cond b w x) ≡ (if b then option_map shown_of w else option_map shown_of x)
chosen true w x = refl
chosen false w x = refl

-- what a change at a name leaves at each name
pub changed : {S : Type 0} (m n : HashMap (String Global) ShownPlace S) (bytes : List ℕ) (w : Option ShownPlace)
    → UpdatesBy string_eq (λ k. bytes_eq bytes (string_bytes k)) m n w → (name : List ℕ)
    → option_map shown_of (get_by_text n name) ≡ (if bytes_eq bytes name then option_map shown_of w else option_map shown_of (get_by_text m name))
changed m n bytes w h name = ap (option_map shown_of) (hash_map_updates_text bytes m n w h name) ∙ chosen (bytes_eq bytes name) w (get_by_text m name)

-- where a name is told no more, the others are as they were
pub taken_out : (b : Bool) (x y : Option Shown) → x ≡ (if b then None else y) → (x ≡ None) ⊎ (x ≡ y)
taken_out true x y e = inl e
taken_out false x y e = inr e

-- the same, where a place would have been told
pub taken_back : (b : Bool) (x y : Option Shown) (place : Shown) → x ≡ (if b then None else y) → (x ≡ None) ⊎ (x ≡ (if b then Some place else y))
taken_back true x y place e = inl e
taken_back false x y place e = inr e

-- so where a place was put to a name
pub put_at : {S : Type 0} (m n : HashMap (String Global) ShownPlace S) (key : String Global) (v : ShownPlace) (bytes : List ℕ) (place : Shown)
    → UpdatesBy string_eq (string_eq key) m n (Some v) → string_bytes key ≡ bytes → shown_of v ≡ place → (name : List ℕ)
    → option_map shown_of (get_by_text n name) ≡ (if bytes_eq bytes name then Some place else option_map shown_of (get_by_text m name))
put_at m n key v bytes place h e s name =
    let old : Option Shown = option_map shown_of (get_by_text m name) in
    let now : Option Shown = option_map shown_of (get_by_text n name) in
    let own : now ≡ (if bytes_eq (string_bytes key) name then Some (shown_of v) else old) = changed m n (string_bytes key) (Some v) h name in
    let placed : now ≡ (if bytes_eq (string_bytes key) name then Some place else old) =
    subst (λ (p : Shown). now ≡ (if bytes_eq (string_bytes key) name then Some p else old)) s own in
    subst (λ (b : List ℕ). now ≡ (if bytes_eq b name then Some place else old)) e placed

-- what holds after an error
pub on_error : {A B : Type 0} (r : Result A B) (P : Type 0) → is_err r ≡ true → OnErr r P → P
on_error (Ok a) P e h = (let bad : ⊥ = cc e in absurd bad)
on_error (Err b) P e h = h

-- and where nothing more is told of it, since it wasn't put
pub taken_at : {S : Type 0} (was m n : HashMap (String Global) ShownPlace S) (bytes named : List ℕ) (place : Shown) → bytes ≡ named
    → ((name : List ℕ) → option_map shown_of (get_by_text m name) ≡ option_map shown_of (get_by_text was name))
    → UpdatesBy string_eq (λ k. bytes_eq bytes (string_bytes k)) m n None → (name : List ℕ)
    → (option_map shown_of (get_by_text n name) ≡ None)
    ⊎ (option_map shown_of (get_by_text n name) ≡ (if bytes_eq named name then Some place else option_map shown_of (get_by_text was name)))
taken_at was m n bytes named place as_named same h name =
    let old : Option Shown = option_map shown_of (get_by_text was name) in
    let now : Option Shown = option_map shown_of (get_by_text n name) in
    let own : now ≡ (if bytes_eq bytes name then None else option_map shown_of (get_by_text m name)) = changed m n bytes None h name in
    let less : now ≡ (if bytes_eq bytes name then None else old) = subst (λ (o : Option Shown). now ≡ (if bytes_eq bytes name then None else o)) (same name) own in
    taken_back (bytes_eq named name) now old place (subst (λ (b : List ℕ). now ≡ (if bytes_eq b name then None else old)) as_named less)

-- what is left where an entry was taken out, or none was
pub dropped : {S : Type 0} (m n : HashMap (String Global) ShownPlace S) (gone : Option (String Global × ShownPlace))
    → IfSome gone (λ p. UpdatesBy string_eq (string_eq p.0) m n None) → IfNone gone (n.entries ≡ m.entries) → (name : List ℕ)
    → (option_map shown_of (get_by_text n name) ≡ None) ⊎ (option_map shown_of (get_by_text n name) ≡ option_map shown_of (get_by_text m name))
dropped m n None some none name = inr (ap (λ es. option_map shown_of (lookup (λ k. bytes_eq name (string_bytes k)) es)) none)
dropped m n (Some p) some none name = taken_out (bytes_eq (string_bytes p.0) name) _ _ (changed m n (string_bytes p.0) None some name)

-- more is forgotten
pub forgets_more : (old mid new : DefinitionPlaces) → Forgets old mid → Forgets mid new → Forgets old new
forgets_more old mid new first next name = by (next name) (first name)
  where
    by : (shown_at new name ≡ None) ⊎ (shown_at new name ≡ shown_at mid name) → (shown_at mid name ≡ None) ⊎ (shown_at mid name ≡ shown_at old name)
        → (shown_at new name ≡ None) ⊎ (shown_at new name ≡ shown_at old name)
    by (inl none) before = inl none
    by (inr same) (inl none) = inl (same ∙ none)
    by (inr same) (inr told) = inr (same ∙ told)
