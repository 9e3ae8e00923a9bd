-- What a search for a text answers, and what a read gives of it.
-- A definition that names no source is this project's own.
use Rattle.std.specs.Prelude.{◌≡◌, ℕ, ◌<◌, Bool, true, false, List, [], ◌++◌, length, take, ⊤, Result, Ok, Err}
use Rattle.arrayvec.specs.declared.array_string.ArrayString.{ArrayString}
use Rattle.rdlpp_source.specs.declared.sources.Found.{Found}
use Rattle.rdlpp_source.specs.declared.sources.SourceFault.{SourceFault}
use Rattle.rdlpp_source.specs.declared.sources.SourceFault.TheVariants.{Absent, PathTooLong, Device, NoMemory}

-- what a search comes to: no text, a path that is too long, or a path and the text that stands there (source: this project's profile)
pub data Answer : Type 0 where
  Missing : Answer
  Overlong : Answer
  Present : List ℕ → List ℕ → Answer

-- what sources that tell their texts answer: `top` for each path, and `find` for the path of the including source and the name (source: this project's profile)
pub record Catalog : Type 0 where
  pub top : List ℕ → Answer
  pub find : List ℕ → List ℕ → Answer

-- whether nothing stands at a candidate (source: this project's profile)
abbrev pub is_absent : {A : Type 0} → Result A SourceFault → Bool
is_absent (Ok x) = false
is_absent (Err Absent) = true
is_absent (Err PathTooLong) = false
is_absent (Err Device) = false
is_absent (Err NoMemory) = false

-- whether a call failed at a device (source: this project's profile)
abbrev pub is_device : {A : Type 0} → Result A SourceFault → Bool
is_device (Ok x) = false
is_device (Err Absent) = false
is_device (Err PathTooLong) = false
is_device (Err Device) = true
is_device (Err NoMemory) = false

-- whether a call was refused memory (source: this project's profile)
abbrev pub is_no_memory : {A : Type 0} → Result A SourceFault → Bool
is_no_memory (Ok x) = false
is_no_memory (Err Absent) = false
is_no_memory (Err PathTooLong) = false
is_no_memory (Err Device) = false
is_no_memory (Err NoMemory) = true

-- what a search answers that sets the path of what it opens
abbrev pub found_at : {R : Type 0} → ArrayString 1024 → Result R SourceFault → Result (Found R) SourceFault
found_at path (Ok reader) = Ok (record { path = path; reader = reader })
found_at path (Err fault) = Err fault

-- a search answered so, with the whole text unread (source: this project's profile)
abbrev pub Gives : {R : Type 0} → (R → List ℕ) → Answer → Result (Found R) SourceFault → Type 0
Gives unread answer (Ok found) = answer ≡ Present found.path.bytes (unread found.reader)
Gives unread answer (Err Absent) = answer ≡ Missing
Gives unread answer (Err PathTooLong) = answer ≡ Overlong
Gives unread answer (Err Device) = ⊥
Gives unread answer (Err NoMemory) = ⊥

-- a search answered what the catalog answers, with the whole text unread, or failed at a device or for memory (source: this project's profile)
abbrev pub Finds : {R : Type 0} → (R → List ℕ) → Answer → Result (Found R) SourceFault → Type 0
Finds unread answer (Ok found) = answer ≡ Present found.path.bytes (unread found.reader)
Finds unread answer (Err Absent) = answer ≡ Missing
Finds unread answer (Err PathTooLong) = answer ≡ Overlong
Finds unread answer (Err Device) = ⊤
Finds unread answer (Err NoMemory) = ⊤

-- a read took from the front of what was unread the bytes that it gave, none with room only where none was left, and nothing where it failed (source: this project's profile)
abbrev pub Reads : {E : Type 0} → List ℕ → List ℕ → Result ℕ E → List ℕ → Type 0
Reads old new (Ok n) to = (old ≡ take n to ++ new) × (n ≡ 0 → 0 < length to → new ≡ [])
Reads old new (Err fault) to = new ≡ old
