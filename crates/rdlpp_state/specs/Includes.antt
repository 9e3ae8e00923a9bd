-- What an `include` does to an engine, and the end of the source that it opened.
-- A definition that names no source is this project's own.
use Rattle.std.specs.Prelude.{◌≡◌, ℕ, ◌≤◌, ◌<◌, ◌==◌, ◌||◌, Bool, true, false, not, List, [], ◌∷◌, Result, Ok, Err, length, drop, if◌then◌else◌}
use Rattle.std.specs.Str.{is_utf8}
use Rattle.rdlpp_scan.specs.declared.token.Mode.TheVariants.{Plain}
use Rattle.rdlpp_source.specs.Sources.{Finds, is_device, is_no_memory}
use Rattle.rdlpp_source.specs.declared.sources.Found.{Found}
use Rattle.rdlpp_source.specs.declared.sources.SourceFault.{SourceFault}
use Rattle.rdlpp_source.specs.declared.sources.SourceFault.TheVariants as source
use Rattle.rdlpp_source.specs.declared.sources.Sources.{Ghosts}
use Rattle.rdlpp_meaning.specs.State.{shown_line}
use Rattle.rdlpp_meaning.specs.declared.fault.FaultKind.{FaultKind}
use Rattle.rdlpp_meaning.specs.declared.fault.FaultKind.TheVariants.{IncludeName, PathTooLong, ReadFailed, SourceMemory, SourceNotFound, TooManyIncludes}
use Rattle.rdlpp_read.specs.Buffer.{held_of}
use Rattle.rdlpp_read.specs.Files.{consumed_file, entered_file, inner_buffer, shift_of, with_inner}
use Rattle.rdlpp_read.specs.declared.files.File.{File}
use Rattle.rdlpp_front.specs.SourceItems.{HasString, include_name}
use Rattle.rdlpp_state.specs.Calls.{SourcesCalled}
use Rattle.rdlpp_state.specs.Engine.{EngineView}
use Rattle.rdlpp_state.specs.Marks.{MarksView, ends_line}
use Rattle.rdlpp_state.specs.Pending.{PendingView, nothing_pending, origin_pending}

-- the kind of fault that a source's refusal is told as (this project's profile)
unfoldable pub kind_of_source : SourceFault → FaultKind
kind_of_source source.Absent = SourceNotFound
kind_of_source source.PathTooLong = PathTooLong
kind_of_source source.Device = ReadFailed
kind_of_source source.NoMemory = SourceMemory

-- the path of the innermost source; none where none is open
abbrev pub inner_path : {R : Type 0} → List (File R) → List ℕ
inner_path [] = []
inner_path (f ∷ outer) = f.path.bytes

-- whether a name can't be searched for: it is empty, or it isn't UTF-8 (this project's profile)
abbrev pub is_bad_name : List ℕ → Bool
is_bad_name name = (length name == 0) || not (is_utf8 name)

-- what is held of the innermost source begins with an `include` that asks for a search: a string with a good name stands after
-- it, and one more source may be opened (this project's profile)
pub record IsSearch {S R : Type 0} (e : EngineView S R) : Type 0 where
  pub start : ℕ
  pub stop : ℕ
  pub mode : (inner_buffer e.files.include_stack).mode ≡ Plain
  pub has : HasString (held_of (inner_buffer e.files.include_stack)) start stop
  pub name : is_bad_name (include_name (held_of (inner_buffer e.files.include_stack)) start stop) ≡ false
  pub room : length e.files.include_stack < e.files.slots

-- a search was made for a name from the path of the innermost source, by sources that were others before
pub record Searches {S R : Type 0} (g : Ghosts S R) (e : EngineView S R) (name : List ℕ) (new : S) (answer : Result (Found R) SourceFault) : Type 0 where
  pub name_good : is_bad_name name ≡ false
  pub room : length e.files.include_stack < e.files.slots
  pub answers : g.has_known_texts e.sources → Finds g.unread ((g.catalog e.sources).find (inner_path e.files.include_stack) name) answer
  pub call : SourcesCalled g (is_device answer) (is_no_memory answer) e.sources new

-- why an `include` of a name opens nothing: the name is bad; too many sources are open, and nothing is searched for; or the search
-- is refused (this project's profile)
pub data Denies {S R : Type 0} (g : Ghosts S R) (e : EngineView S R) (name : List ℕ) (new : S) (kind : FaultKind) : Type 0 where
  BadName : is_bad_name name ≡ true → kind ≡ IncludeName → new ≡ e.sources → Denies g e name new kind
  Full : is_bad_name name ≡ false → e.files.slots ≤ length e.files.include_stack → kind ≡ TooManyIncludes → new ≡ e.sources → Denies g e name new kind
  SearchFault : (fault : SourceFault) → kind ≡ kind_of_source fault → Searches g e name new (Err fault) → Denies g e name new kind

-- what the search of an `include` comes to
abbrev pub SearchMade : {S R : Type 0} → Ghosts S R → EngineView S R → List ℕ → S → Result (Found R) FaultKind → Type 0
SearchMade g e name new (Ok found) = Searches g e name new (Ok found)
SearchMade g e name new (Err kind) = Denies g e name new kind

-- an engine whose `include` has found a source: the directive, which has so many bytes, is used, and the source is open inside of the
-- others, before which its origin line is pending, where asked for (this project's profile)
unfoldable pub included_engine : {S R : Type 0} → Found R → ℕ → EngineView S R → EngineView S R
included_engine found stop e = record e {
  pending = record { line_ends = 0; origin = origin_pending e.origins 1 };
  files = record e.files {
    include_stack = entered_file found e.limits.source_bytes e.files.line_bytes (length e.conditions.open_now) (inner_buffer e.files.include_stack).line
        ∷ with_inner (consumed_file stop 0) e.files.include_stack;
  };
}

-- what is pending where an included source has ended: an LF where its text ends in mid-line, and the origin line of its `include`, where
-- asked for (this project's profile)
unfoldable pub pending_after : {R : Type 0} → Bool → List (File R) → PendingView
pending_after origins [] = nothing_pending
pending_after origins (f ∷ []) = nothing_pending
pending_after origins (f ∷ around ∷ outer) = record {
  line_ends = if f.ends_mid_line then 1 else 0;
  origin = origin_pending origins (shown_line (shift_of around.shift) f.include_line);
}

-- the marks of an engine that has left an included source: the LF that is pending shows the place of the `include` (this project's profile)
unfoldable pub marks_after : {R : Type 0} → List (File R) → MarksView → MarksView
marks_after [] m = m
marks_after (f ∷ []) m = m
marks_after (f ∷ around ∷ outer) m = ends_line (if f.ends_mid_line then 1 else 0) around.name.bytes (shown_line (shift_of around.shift) f.include_line) m

-- an engine that has left an included source
unfoldable pub left_engine : {S R : Type 0} → EngineView S R → EngineView S R
left_engine e = record e { pending = pending_after e.origins e.files.include_stack; marks = marks_after e.files.include_stack e.marks; files = record e.files { include_stack = drop 1 e.files.include_stack } }
