-- What a caller tells of the sources that were asked for.
-- A definition that names no source is this project's own.
use Rattle.std.specs.Prelude.{◌≡◌, ℕ, ◌⊎◌, ◌&&◌, Bool, true, false, List, [], ◌++◌, IsUtf8, bytes_eq, Option, None, Some, Result, Ok, Err, if◌then◌else◌}
use Rattle.std.specs.declared.alloc.AllocError.{AllocError}
use Rattle.arrayvec.specs.declared.array_string.ArrayString.{ArrayString}
use Rattle.rdlpp_source.specs.Asked.{Adds, Stays, standing_text}
use Rattle.rdlpp_source.specs.declared.asked.AskedTexts.{AskedTexts}
use Rattle.rdlpp_source.specs.declared.asked.Standing.{Standing}
use Rattle.rdlpp_c.specs.Once.{GivenOnce, Stands, freed_at}
use Rattle.rdlpp_c.specs.declared.once.Given.{Given}
use Rattle.rdlpp_c.specs.declared.once.Given.TheVariants.{Known, Taken, Other}
use Rattle.rdlpp_c.specs.declared.once.Once.{Once}
use Rattle.rdlpp_c.specs.declared.stream.Stream.{Stream}
use Rattle.rdlpp_c.specs.declared.asking.Refusal.{Refusal}
use Rattle.rdlpp_c.specs.declared.asking.Refusal.TheVariants.{BadText, NoMemory}

-- the status that tells what came of it: 0 where it was taken, 3 for a path that isn't UTF-8, 4 for want of memory
abbrev pub given_status : Result Unit Refusal → ℕ
given_status (Ok u) = 0
given_status (Err BadText) = 3
given_status (Err NoMemory) = 4

-- what stands at a path was taken: it counts unless something is known of the path already
pub record Takes (path : List ℕ) (standing : Standing) (old new : AskedTexts) : Type 0 where
  pub adds : Adds old new old.asks path standing
  pub only : new ≡ record old { known = new.known }

-- nothing changed that is seen
pub record Keeps (old new : AskedTexts) : Type 0 where
  pub stays : Stays old new
  pub only : new ≡ record old { known = new.known }

-- what sources become that are told what stands at a path: with a refusal nothing changes
abbrev pub TellsPath : List ℕ → Standing → AskedTexts → AskedTexts → Result Unit Refusal → Type 0
TellsPath path standing old new (Ok u) = Takes path standing old new
TellsPath path standing old new (Err BadText) = Keeps old new × ¬ (IsUtf8 path)
TellsPath path standing old new (Err NoMemory) = Keeps old new

-- no part of a text is left, and nothing else changed
pub record LeavesParts (before after : Stream) : Type 0 where
  pub none : after.parts.items ≡ []
  pub only : after ≡ record before { parts = after.parts }

-- a part of a text that is given: it stands after the parts before it; or memory was refused, and no part came
pub record GivesPart (part : List ℕ) (before after : Stream) (status : ℕ) : Type 0 where
  pub comes : ((status ≡ 0) × (after.parts.items ≡ before.parts.items ++ part)) ⊎ ((status ≡ 4) × (after.parts.items ≡ before.parts.items))
  pub only : after ≡ record before { parts = after.parts }

-- a give to an open stream: what its sources become, and the status that tells it; no part of a text is left, and nothing else of it changes
pub record GivesStanding (path : List ℕ) (standing : Standing) (before after : Stream) (status : ℕ) : Type 0 where
  pub answer : Result Unit Refusal
  pub tells : TellsPath path standing before.reading.engine.sources after.reading.engine.sources answer
  pub is : status ≡ given_status answer
  pub none : after.parts.items ≡ []
  pub only : after ≡ record before { reading = record before.reading { engine = record before.reading.engine { sources = after.reading.engine.sources } }; parts = after.parts }

-- a give of a text: the parts before it and the text stand at the path; or memory was refused for it, and nothing changed but that no part is left
abbrev pub GivesText : List ℕ → List ℕ → Stream → Stream → ℕ → Type 0
GivesText path text before after status =
    ((standing : Standing) × (standing_text (Some standing) ≡ Some (before.parts.items ++ text)) × GivesStanding path standing before after status) ⊎ (LeavesParts before after × (status ≡ 4))

-- the status that tells what came of a text that is forgotten when the next one is given: 0 where it was taken, or something is known of its path; 9 where it is another one than before; 4 for want of memory
abbrev pub once_status : Result Given AllocError → ℕ
once_status (Ok Known) = 0
once_status (Ok Taken) = 0
once_status (Ok Other) = 9
once_status (Err e) = 4

-- what such a give comes to, by what was known of each path once the text that was given last is forgotten; where memory was refused that one is forgotten alone
abbrev pub ComesOnce : (List ℕ → Option Standing) → Bool → List ℕ → List ℕ → Once → AskedTexts → Once → Result Given AllocError → Type 0
ComesOnce at asks path text before new after (Ok given) = GivenOnce at asks path text before new after given
ComesOnce at asks path text before new after (Err e) = Stands at before new after

-- whether a text was refused, since it is another one than before
abbrev pub is_refused : Result Given AllocError → Bool
is_refused (Ok Known) = false
is_refused (Ok Taken) = false
is_refused (Ok Other) = true
is_refused (Err e) = false

-- whether a path is the one that is asked for
abbrev pub is_asked : Option (ArrayString 1024) → List ℕ → Bool
is_asked None path = false
is_asked (Some wanted) path = bytes_eq wanted.bytes path

-- the path that was asked for when another text was given of it than before: this one, or one of before
abbrev pub changed_path : Result Given AllocError → Option (ArrayString 1024) → List ℕ → Option (ArrayString 1024) → Option (ArrayString 1024)
changed_path given wanted path before = if is_refused given && is_asked wanted path then wanted else before

-- such a give to an open stream, after the parts before it, and the status that tells it; no part of a text is left, and nothing else of it changes
pub record TellsOnce (path text : List ℕ) (before after : Stream) (status : ℕ) : Type 0 where
  pub answer : Result Given AllocError
  pub comes : ComesOnce (freed_at before.once before.reading.engine.sources) before.reading.engine.sources.asks path (before.parts.items ++ text) before.once after.reading.engine.sources after.once answer
  pub known : after.reading.engine.sources ≡ record before.reading.engine.sources { known = after.reading.engine.sources.known }
  pub is : status ≡ once_status answer
  pub changed : after.changed ≡ changed_path answer before.reading.engine.sources.wanted path before.changed
  pub none : after.parts.items ≡ []
  pub only : after ≡ record before { reading = record before.reading { engine = record before.reading.engine { sources = after.reading.engine.sources } }; once = after.once; changed = after.changed; parts = after.parts }

-- the same by bytes as the path: where they aren't UTF-8 nothing changes but that no part is left
abbrev pub GivesOnce : List ℕ → List ℕ → Stream → Stream → ℕ → Type 0
GivesOnce path text before after status = TellsOnce path text before after status ⊎ (LeavesParts before after × (status ≡ 3) × ¬ (IsUtf8 path))

-- a give by a handle: of a closed one it only tells so, by status 6; else it is one of the stream
abbrev pub Gives : (Stream → Stream → ℕ → Type 0) → Option Stream → Option Stream → ℕ → Type 0
Gives by None held status = (held ≡ None) × (status ≡ 6)
Gives by (Some before) held status = (after : Stream) × (held ≡ Some after) × by before after status
