-- Sources over files: which paths are opened, and what an open and a read answer.
-- A definition that names no source is this project's own.
use Rattle.std.specs.Prelude.{◌≡◌, ◌≢◌, ⊤, codes, ℕ, ◌<◌, ◌≤◌, ◌==◌, false, List, length, map, Option, None, Some, slice_get, Result, Ok, Err}
use Rattle.std.specs.List.{list_any}
use Rattle.std.specs.String.{string_bytes}
use Rattle.rdlpp_source.specs.declared.sources.Found.{Found}
use Rattle.rdlpp_source.specs.declared.sources.SourceFault.{SourceFault}
use Rattle.rdlpp_source.specs.declared.sources.SourceFault.TheVariants.{Absent, PathTooLong, Device, NoMemory}
use Rattle.rdlpp_source.specs.declared.files.FileId.{FileId}
use Rattle.rdlpp_source.specs.declared.folders.Folders.{Folders}
use Rattle.rdlpp_source.specs.declared.folders.FolderReader.{FolderReader}
use Rattle.rdlpp_source.specs.declared.folders.FolderReader.TheVariants.{Input, File}

-- the include folders, in the order of the search
abbrev pub include_folders : {R : Type 0} → Folders R → List (List ℕ)
include_folders folders = map string_bytes folders.folders.items

-- how often a device failed
abbrev pub device_failures : {R : Type 0} → Folders R → ℕ
device_failures folders = folders.failures

-- how often memory was refused
abbrev pub memory_refusals : {R : Type 0} → Folders R → ℕ
memory_refusals folders = folders.refusals

-- the bytes that a reader of standard input or of a file has still to give, where it says so
abbrev pub unread_bytes : {I F : Type 0} → (I → Option (List ℕ)) → (F → Option (List ℕ)) → FolderReader I F → Option (List ℕ)
unread_bytes of_input of_file (Input input) = of_input input
unread_bytes of_input of_file (File file id) = of_file file

-- the file in which the text of a reader lies, where that is known
abbrev pub known_file : {I F : Type 0} → FolderReader I F → Option FileId
known_file (Input input) = None
known_file (File file id) = id

-- a reader is one of a file
abbrev pub IsFile : {I F : Type 0} → FolderReader I F → Type 0
IsFile (Input input) = ⊥
IsFile (File file id) = ⊤

-- a reader is one of standard input
abbrev pub IsInput : {I F : Type 0} → FolderReader I F → Type 0
IsInput (Input input) = ⊤
IsInput (File file id) = ⊥

-- the reader of a main path: of `-` that of standard input, and of every other one a file (source: this project's profile)
abbrev pub IsReaderOf : {I F : Type 0} → List ℕ → FolderReader I F → Type 0
IsReaderOf path reader = (path ≡ codes "-" → IsInput reader) × (path ≢ codes "-" → IsFile reader)

-- an open of one path gave a source under that very path, which has no LF byte; it was refused as too long exactly where the path is (source: this project's profile)
abbrev pub OpensPath : {R : Type 0} → List ℕ → Result (Found R) SourceFault → Type 0
OpensPath path (Ok found) = (found.path.bytes ≡ path) × (list_any (λ b. b == 10) path ≡ false)
OpensPath path (Err Absent) = length path ≤ 1024
OpensPath path (Err PathTooLong) = 1024 < length path
OpensPath path (Err Device) = length path ≤ 1024
OpensPath path (Err NoMemory) = length path ≤ 1024

-- none of the first so many paths is too long
abbrev pub AreShort : List (List ℕ) → ℕ → Type 0
AreShort paths count = (at : ℕ) (path : List ℕ) → at < count → slice_get paths at ≡ Some path → length path ≤ 1024

-- a search came to what the open of one of its candidates came to, and none before that is too long
abbrev pub OpensOne : {R : Type 0} → List (List ℕ) → Result (Found R) SourceFault → Type 0
OpensOne paths result = (path : List ℕ) × (at : ℕ) × (slice_get paths at ≡ Some path) × AreShort paths at × OpensPath path result

-- a search found a source under the path of one of its candidates, ended at one that is too long, at a device or for memory, with none before it too long; or it found nothing, and none is too long (source: this project's profile)
abbrev pub SearchesPaths : {R : Type 0} → List (List ℕ) → Result (Found R) SourceFault → Type 0
SearchesPaths paths (Ok found) = OpensOne paths (Ok found)
SearchesPaths paths (Err Absent) = AreShort paths (length paths)
SearchesPaths paths (Err PathTooLong) = OpensOne {R = Unit {0}} paths (Err PathTooLong)
SearchesPaths paths (Err Device) = OpensOne {R = Unit {0}} paths (Err Device)
SearchesPaths paths (Err NoMemory) = OpensOne {R = Unit {0}} paths (Err NoMemory)
