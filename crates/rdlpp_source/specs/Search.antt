-- Which source a search finds: the candidates of a name, and the first of them that exists.
-- A definition that names no source is this project's own.
use Rattle.std.specs.Prelude.{◌≡◌, ℕ, ◌<◌, ◌≤◌, ◌==◌, ◌||◌, true, false, List, [], ◌∷◌, ◌++◌, length, map, Option, None, Some, Result, Ok, Err, nat_lt, slice_index, ◌-◌, if◌then◌else◌}
use Rattle.std.specs.List.{list_any}
use Rattle.std.specs.Borrow.{Bor}
use Rattle.arrayvec.specs.declared.array_string.ArrayString.{ArrayString}
use Rattle.rdlpp_source.specs.Sources.{Answer, Missing, Overlong, Present}
use Rattle.rdlpp_source.specs.declared.search.SearchedFolders.{SearchedFolders}
use Rattle.rdlpp_source.specs.declared.sources.SourceFault.{SourceFault}
use Rattle.rdlpp_source.specs.declared.sources.SourceFault.TheVariants.{Absent, PathTooLong, Device, NoMemory}

-- the folder of a path: all up to and with its last `/`, or nothing (source: this project's profile)
abbrev pub folder_of : List ℕ → List ℕ
folder_of [] = []
folder_of (b ∷ bs) = if list_any (λ c. c == 47) (b ∷ bs) then b ∷ folder_of bs else []

-- a name joined to a folder: as it is where the folder is empty or ends in `/`, else with one `/` between (source: this project's profile)
abbrev pub joined_path : List ℕ → List ℕ → List ℕ
joined_path folder name =
    if (length folder == 0) || (slice_index folder (length folder - 1) == 47) then folder ++ name
    else folder ++ 47 ∷ name

-- the candidates of a name that a source includes: a name that begins with `/` as it is, any other in the folder of that source and then in each include folder (source: this project's profile)
abbrev pub candidates : List (List ℕ) → List ℕ → List ℕ → List (List ℕ)
candidates folders from name =
    if slice_index name 0 == 47 then name ∷ []
    else map (λ folder. joined_path folder name) (folder_of from ∷ folders)

-- the folders that are left of a search, the first of which may be taken already
abbrev pub folders_from : Option (Bor (List ℕ)) → List (List ℕ) → List (List ℕ)
folders_from None folders = folders
folders_from (Some first) folders = first.now ∷ folders

abbrev pub folders_left : {F : Type 0} → (F → List ℕ) → SearchedFolders F → List (List ℕ)
folders_left text s = folders_from s.first (map text s.others.now)

-- a path is given where a source may stand there; more than 1,024 bytes are too long, and nothing stands at a path with an LF byte (source: this project's profile)
abbrev pub IsCandidate : List ℕ → ArrayString 1024 → Result (Unit {0}) SourceFault → Type 0
IsCandidate path found (Ok done) = (found.bytes ≡ path) × (length path ≤ 1024) × (list_any (λ b. b == 10) path ≡ false)
IsCandidate path found (Err Absent) = (length path ≤ 1024) × (list_any (λ b. b == 10) path ≡ true)
IsCandidate path found (Err PathTooLong) = 1024 < length path
IsCandidate path found (Err Device) = ⊥
IsCandidate path found (Err NoMemory) = ⊥

-- what stands at a path: nothing, or a text (source: this project's profile)
abbrev pub at_path : List ℕ → Option (List ℕ) → Answer
at_path path None = Missing
at_path path (Some text) = Present path text

-- what one candidate comes to, where `text_of` says what stands at each path: more than 1,024 bytes are too long, and nothing stands at a path with an LF byte (source: this project's profile)
abbrev pub answer_at : (List ℕ → Option (List ℕ)) → List ℕ → Answer
answer_at text_of path =
    if nat_lt 1024 (length path) then Overlong
    else (if list_any (λ b. b == 10) path then Missing else at_path path (text_of path))

-- an answer, or the next one where it is that nothing stands there (source: this project's profile)
abbrev pub answer_or : Answer → Answer → Answer
answer_or Missing next = next
answer_or Overlong next = Overlong
answer_or (Present path text) next = Present path text

-- what the candidates come to: the first that exists, unless one before it is too long (source: this project's profile)
abbrev pub first_answer : (List ℕ → Option (List ℕ)) → List (List ℕ) → Answer
first_answer text_of [] = Missing
first_answer text_of (path ∷ paths) = answer_or (answer_at text_of path) (first_answer text_of paths)
