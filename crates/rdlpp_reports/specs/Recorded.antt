-- Sources that note what is opened, and what is told of it.
-- A definition that names no source is this project's own.
use Rattle.std.specs.Prelude.{◌≡◌, ℕ, Bool, true, false, List, [], ◌∷◌, ◌++◌, ◌==◌, ◌&&◌, map, bytes_eq, Option, None, Some, Result, Ok, Err, fold, if◌then◌else◌}
use Rattle.std.specs.List.{list_any}
use Rattle.std.specs.String.{string_bytes}
use Rattle.rdlpp_source.specs.declared.sources.Found.{Found}
use Rattle.rdlpp_source.specs.declared.sources.SourceFault.{SourceFault}
use Rattle.rdlpp_source.specs.declared.files.FileId.{FileId}
use Rattle.rdlpp_reports.specs.declared.recorded.OpenedPaths.{OpenedPaths}
use Rattle.rdlpp_reports.specs.declared.recorded.Recorded.{Recorded}

-- a source that was opened: its path, and the file in which it lies, where that is known
pub record Opening : Type 0 where
  pub path : List ℕ
  pub file : Option FileId

-- what is told of sources: paths, and the files of sources, each in order
pub record Told : Type 0 where
  pub paths : List (List ℕ)
  pub files : List FileId

-- the sources below
abbrev pub noted_sources : {S : Type 0} → Recorded S → S
noted_sources r = r.sources

-- the paths that are told of those that were noted, in order (source: this project's profile)
abbrev pub paths_of : OpenedPaths → List (List ℕ)
paths_of opened = map string_bytes opened.paths.keys

-- what is told of the sources that were noted
abbrev pub told_of : OpenedPaths → Told
told_of opened = record { paths = paths_of opened; files = opened.files.keys }

-- the paths that were noted of sources
abbrev pub noted_paths : {S : Type 0} → Recorded S → OpenedPaths
noted_paths r = r.opened

-- whether sources note what they open
abbrev pub is_noting : {S : Type 0} → Recorded S → Bool
is_noting r = r.is_noting

-- whether memory was there for each of them
abbrev pub is_whole : OpenedPaths → Bool
is_whole opened = opened.is_whole

-- whether two files are one: they have the same number on the same device
abbrev pub is_same : FileId → FileId → Bool
is_same file other = (file.device == other.device) && (file.number == other.number)

-- paths with one more at the end, unless it is among them (source: this project's profile)
abbrev pub with_path : List (List ℕ) → List ℕ → List (List ℕ)
with_path paths path = if list_any (bytes_eq path) paths then paths else paths ++ path ∷ []

-- what is told with the path and the file of one more source: its path, unless it is among the paths; and nothing more where its file is among the files (source: this project's profile)
abbrev pub with_source : Told → List ℕ → Option FileId → Told
with_source told path None = record { paths = with_path told.paths path; files = told.files }
with_source told path (Some file) =
    if list_any (is_same file) told.files then told else record { paths = with_path told.paths path; files = told.files ++ file ∷ [] }

-- so of a source that was opened
abbrev pub with_opening : Told → Opening → Told
with_opening told opening = with_source told opening.path opening.file

-- what is told of sources in the order in which they were opened: the path of the first one of each file, and of each that lies in no file that is known, each path once (source: this project's profile)
abbrev pub firsts : List Opening → Told
firsts openings = fold with_opening (record { paths = []; files = [] }) openings

-- a path was noted, or memory was refused for it
abbrev pub NotesPath : OpenedPaths → OpenedPaths → List ℕ → Type 0
NotesPath old new path = is_whole new ≡ true → (is_whole old ≡ true) × (paths_of new ≡ with_path (paths_of old) path) × (new.files ≡ old.files)

-- a source was noted, or memory was refused for it: what is told is that of the sources before and of this one
abbrev pub NotesOpening : OpenedPaths → OpenedPaths → Opening → Type 0
NotesOpening old new opening = is_whole new ≡ true → (is_whole old ≡ true) × (told_of new ≡ with_opening (told_of old) opening)
    × ((before : List Opening) → told_of old ≡ firsts before → told_of new ≡ firsts (before ++ opening ∷ []))

-- a source that was found was noted, and none other
abbrev pub NotesAnswer : {R : Type 0} → (R → Option FileId) → OpenedPaths → OpenedPaths → Result (Found R) SourceFault → Type 0
NotesAnswer lies_in old new (Ok found) = NotesOpening old new (record { path = found.path.bytes; file = lies_in found.reader })
NotesAnswer lies_in old new (Err fault) = new ≡ old

-- so it is where sources are noted, and else nothing was noted
abbrev pub NotesWhere : {R : Type 0} → (R → Option FileId) → Bool → OpenedPaths → OpenedPaths → Result (Found R) SourceFault → Type 0
NotesWhere lies_in true old new answer = NotesAnswer lies_in old new answer
NotesWhere lies_in false old new answer = new ≡ old
