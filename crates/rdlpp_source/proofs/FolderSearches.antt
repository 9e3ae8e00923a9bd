-- A search goes over its candidates in order.
use Rattle.std.proofs.Common.{◌≡◌, ℕ, zero, suc, ◌≤◌, true, false, List, [], ◌∷◌, length, map, drop, None, Some, Result, Ok, Err, slice_get, inl, inr, sym, ap, subst, ◌∙◌, arith, length-drop}
use Rattle.std.proofs.lemmas.Bool.{cases_lt}
use Rattle.rdlpp_source.specs.Search.{joined_path}
use Rattle.rdlpp_source.specs.declared.sources.Found.{Found}
use Rattle.rdlpp_source.specs.declared.sources.SourceFault.{SourceFault}
use Rattle.rdlpp_source.specs.declared.sources.SourceFault.TheVariants.{Absent, PathTooLong, Device, NoMemory}
use Rattle.rdlpp_source.specs.Sources.{is_absent}
use Rattle.rdlpp_source.specs.Folders.{AreShort, OpensOne, OpensPath, SearchesPaths}

-- what the open of a candidate comes to is what the search comes to, unless nothing stands there
pub searches_one : {R : Type 0} (paths : List (List ℕ)) (answer : Result (Found R) SourceFault)
    → is_absent answer ≡ false → OpensOne paths answer → SearchesPaths paths answer
searches_one paths (Ok found) e opens = opens
searches_one paths (Err Absent) e opens = cc
searches_one paths (Err PathTooLong) e opens = opens
searches_one paths (Err Device) e opens = opens
searches_one paths (Err NoMemory) e opens = opens

short_absent : {R : Type 0} (path : List ℕ) (answer : Result (Found R) SourceFault)
    → is_absent answer ≡ true → OpensPath path answer → length path ≤ 1024
short_absent path (Ok found) e opens = cc
short_absent path (Err Absent) e opens = opens
short_absent path (Err PathTooLong) e opens = cc
short_absent path (Err Device) e opens = cc
short_absent path (Err NoMemory) e opens = cc

same_path : (paths : List (List ℕ)) (place at : ℕ) (path other : List ℕ) → place ≡ at → slice_get paths place ≡ Some path
    → slice_get paths at ≡ Some other → length path ≤ 1024 → length other ≤ 1024
same_path paths place at path other is here there short =
    let e : Some path ≡ Some other = sym here ∙ ap (slice_get paths) is ∙ there in
    let same : path ≡ other = ap (λ o. elim o [ Some p ↦ p | None ↦ [] ]) e in
    subst (λ p. length p ≤ 1024) same short

-- where nothing stands at a candidate, one candidate more is short
pub short_more : {R : Type 0} (paths : List (List ℕ)) (place : ℕ) (path : List ℕ) (answer : Result (Found R) SourceFault)
    → AreShort paths place → slice_get paths place ≡ Some path → is_absent answer ≡ true → OpensPath path answer
    → AreShort paths (suc place)
short_more paths place path answer short here e opens at other below there =
    elim (cases_lt at place) [
      | inl less ↦ short at other less there
      | inr most ↦ same_path paths place at path other (omega arith) here there (short_absent path answer e opens)
    ]

-- all candidates are short where as many as there are, or more, are
pub short_all : (paths : List (List ℕ)) (place : ℕ) → AreShort paths place → length paths ≤ place → AreShort paths (length paths)
short_all paths place short all at path below here = short at path (omega arith) here

stands_at : (paths rest : List (List ℕ)) (tried : ℕ) (path : List ℕ) → path ∷ rest ≡ drop tried paths
    → (slice_get paths tried ≡ Some path) × (rest ≡ drop (suc tried) paths)
stands_at [] rest zero path e = cc
stands_at [] rest (suc k) path e = cc
stands_at (p ∷ ps) rest zero path e = (sym (ap (λ xs. slice_get xs 0) e), ap (drop 1) e)
stands_at (p ∷ ps) rest (suc k) path e = stands_at ps rest k path e

-- the candidate of the next folder, and those after it
pub in_folder : (paths folders rest : List (List ℕ)) (name folder : List ℕ) (tried : ℕ)
    → map (λ f. joined_path f name) folders ≡ drop tried paths → folders ≡ folder ∷ rest
    → (slice_get paths tried ≡ Some (joined_path folder name)) × (map (λ f. joined_path f name) rest ≡ drop (suc tried) paths)
in_folder paths folders rest name folder tried left step =
    stands_at paths (map (λ f. joined_path f name) rest) tried (joined_path folder name) (sym (ap (map (λ f. joined_path f name)) step) ∙ left)

-- after the last candidate none is left
pub all_tried : (paths : List (List ℕ)) (tried : ℕ) → [] ≡ drop tried paths → length paths ≤ tried
all_tried paths tried e = let none : 0 ≡ length (drop tried paths) = ap length e in omega (arith, length-drop tried paths)

-- none comes before the first
pub none_before : (paths : List (List ℕ)) → AreShort paths 0
none_before paths at path below here = absurd (omega arith)
