-- A path after others, as a key after keys.
use Rattle.std.proofs.Common.{◌≡◌, ℕ, Bool, true, false, List, [], ◌∷◌, ◌++◌, map, Option, Some, refl, ap, sym, ◌∙◌, bytes_eq, if◌then◌else◌, ◌||◌, string_bytes, string_eq, String}
use Rattle.std.specs.List.{list_any}
use Rattle.std.specs.declared.alloc.Global.{Global}
use Rattle.std.proofs.lemmas.List.{map-append}
use Rattle.std.proofs.lemmas.List.Sums.{fold-append}
use Rattle.indexmap.specs.IndexSet.{insert_key}
use Rattle.rdlpp_reports.specs.Recorded.{Opening, Told, firsts, is_same, with_opening, with_path, with_source}
use Rattle.rdlpp_source.specs.declared.files.FileId.{FileId}

-- a key is among keys where its bytes are among theirs
among : (ks : List (String Global)) (k : String Global) → list_any (string_eq k) ks ≡ list_any (bytes_eq (string_bytes k)) (map string_bytes ks)
among [] k = refl
among (x ∷ ks) k = ap (λ b. bytes_eq (string_bytes k) (string_bytes x) || b) (among ks k)

-- the bytes of the keys, by whether one is equal
chosen : (b : Bool) (ks : List (String Global)) (k : String Global)
    → map string_bytes (if b then ks else ks ++ k ∷ []) ≡ (if b then map string_bytes ks else map string_bytes ks ++ string_bytes k ∷ [])
chosen true ks k = refl
chosen false ks k = map-append string_bytes ks (k ∷ [])

-- the bytes of the keys with one more
pub noted_key : (ks : List (String Global)) (k : String Global) → map string_bytes (insert_key string_eq ks k) ≡ with_path (map string_bytes ks) (string_bytes k)
noted_key ks k =
    chosen (list_any (string_eq k) ks) ks k
    ∙ ap (λ b. if b then map string_bytes ks else map string_bytes ks ++ string_bytes k ∷ []) (among ks k)

-- what is told of sources and one more
pub one_more : (before : List Opening) (told : Told) (opening : Opening) → told ≡ firsts before → with_opening told opening ≡ firsts (before ++ opening ∷ [])
one_more before told opening e =
    ap (λ t. with_opening t opening) e ∙ sym (fold-append with_opening (record { paths = []; files = [] }) before (opening ∷ []))

-- nothing more is told of a source whose file is told
pub known_file : (paths : List (List ℕ)) (files keys : List FileId) (path : List ℕ) (given : Option FileId) (file : FileId)
    → given ≡ Some file → list_any (is_same file) files ≡ true → keys ≡ insert_key is_same files file
    → record { paths = paths; files = keys } ≡ with_opening (record { paths = paths; files = files }) (record { path = path; file = given })
known_file paths files keys path given file g there e =
    let same : keys ≡ files = e ∙ ap (λ b. if b then files else files ++ file ∷ []) there in
    ap (λ ks. record { paths = paths; files = ks }) same
    ∙ sym (ap (λ b. if b then record { paths = paths; files = files } else record { paths = with_path paths path; files = files ++ file ∷ [] }) there)
    ∙ ap (with_source (record { paths = paths; files = files }) path) (sym g)
