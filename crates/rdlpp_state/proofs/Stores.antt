-- What is held of the texts that are read, as an engine goes on or stops.
use Rattle.std.proofs.Common.{◌≡◌, inl, inr, ℕ, Bool, true, false, List, nat_eq, codes, None, Some, refl, sym, ap, ◌∙◌, ◌⊎◌, ◌≤◌, ◌<◌, [], ◌∷◌, ◌++◌, length, take, drop, Option, subst, append_assoc, arith, take-append-drop, take-take}
use Rattle.std.specs.List.{starts_with}
use Rattle.std.proofs.lemmas.Bool.{and_left, and_right, false≢true, or_from}
use Rattle.arrayvec.specs.declared.array_string.ArrayString.{ArrayString}
use Rattle.rdlpp_scan.specs.declared.token.Mode.{Mode}
use Rattle.rdlpp_scan.specs.declared.token.Mode.TheVariants.{Plain}
use Rattle.rdlpp_define.specs.Macros.{Formal, Macro}
use Rattle.rdlpp_define.specs.Table.{macro_at}
use Rattle.rdlpp_meaning.specs.CallScan.{Before}
use Rattle.rdlpp_meaning.specs.Opens.{Open}
use Rattle.rdlpp_meaning.specs.Outcome.{Report}
use Rattle.rdlpp_meaning.specs.Parts.{only_blanks}
use Rattle.rdlpp_meaning.specs.declared.fault.FaultKind.{FaultKind}
use Rattle.rdlpp_meaning.specs.declared.fault.FaultKind.TheVariants.{ReadFailed, SourceMemory, WriteFailed}
use Rattle.rdlpp_source.specs.Sources.{Catalog, Present}
use Rattle.rdlpp_source.specs.declared.sources.Found.{Found}
use Rattle.rdlpp_source.specs.declared.sources.Sources.{Ghosts}
use Rattle.rdlpp_texts.specs.Opened.{StaysOutermost, usage_id}
use Rattle.rdlpp_read.specs.Conditions.{ConditionsView}
use Rattle.rdlpp_read.specs.Buffer.{BufferView, Gains, MovesOver, Slides, ahead_of, entered_mode, held_of, opened_buffer, rest_of, text_left, unread_of}
use Rattle.rdlpp_read.specs.Files.{consumed_file, entered_file, inner_buffer, ends_mid_line_after, with_buffer, with_inner}
use Rattle.rdlpp_read.specs.declared.files.File.{File}
use Rattle.rdlpp_usages.specs.CallReads.{ReadsUpTo, with_used}
use Rattle.rdlpp_usages.specs.Usages.{ExpansionView, KeepsCall, KeepsOpening, KeepsUsage, StaysOpen, is_opened}
use Rattle.rdlpp_usages.specs.declared.expansion.Opening.{Opening}
use Rattle.rdlpp_usages.specs.declared.expansion.Opening.TheVariants.{Opened}
use Rattle.rdlpp_state.specs.Engine.{EngineView}
use Rattle.rdlpp_state.specs.Failures.{MayGoOn, begins_include, is_call_failed, is_failed_call, is_failed_search, is_failed_start, is_memory_kind, is_over, is_read_failed, is_write_failed, may_follow}
use Rattle.rdlpp_state.specs.Includes.{inner_path}
use Rattle.rdlpp_state.specs.Lines.{renumbered_file}
use Rattle.rdlpp_state.specs.Marks.{MarksView}
use Rattle.rdlpp_state.specs.Pending.{PendingView}
use Rattle.rdlpp_state.specs.Steps.{IsOwn, IsReading}
use Rattle.rdlpp_state.specs.Stored.{AreParts, BeginsCall, HoldsCall, HoldsStores, IsBegunIn, IsCallOf, IsPartOf, LetsGo, called_formals}
use Rattle.rdlpp_state.specs.declared.phase.Phase.{Phase}
use Rattle.rdlpp_state.specs.declared.phase.Phase.TheVariants.{Open as OpenPhase}

-- Engines that may go on after a fault, and those that may not.

-- where a source is read, no `include` begins what is held
pub read_front : {R : Type 0} (b : BufferView R) → IsReading b → begins_include (held_of b) ≡ false
unfolding begins_include
read_front b (inl none) = ap (λ (held : List ℕ). starts_with nat_eq held (codes "`include")) none
read_front b (inr define) = ap (λ (held : List ℕ). starts_with nat_eq held (codes "`include")) define.1

-- whether a fault is a text's own: none of a device or of memory
abbrev pub is_own : FaultKind → Bool
is_own ReadFailed = false
is_own WriteFailed = false
is_own SourceMemory = false
is_own kind = true

-- such a fault is
pub own_kind : (kind : FaultKind) → is_own kind ≡ true → IsOwn kind
unfolding is_read_failed is_write_failed is_memory_kind
own_kind ReadFailed own = cc own
own_kind WriteFailed own = cc own
own_kind SourceMemory own = cc own
own_kind kind own = record { read = refl; write = refl; memory = refl }

-- and one of kinds of which each is
pub own_by : (is : FaultKind → Bool) → is ReadFailed ≡ false → is WriteFailed ≡ false → is SourceMemory ≡ false → (kind : FaultKind) → is kind ≡ true → IsOwn kind
own_by is read write memory ReadFailed h = absurd (false≢true (sym read ∙ h))
own_by is read write memory WriteFailed h = absurd (false≢true (sym write ∙ h))
own_by is read write memory SourceMemory h = absurd (false≢true (sym memory ∙ h))
own_by is read write memory kind h = own_kind kind refl

-- a text's own fault is none of a device or of memory
pub own_failed : (kind : FaultKind) → IsOwn kind → is_call_failed kind ≡ false
unfolding is_call_failed
own_failed kind own = or_from _ _ own.read own.memory

-- a fault is kept, and nothing is made again: the engine can't go on
stops_by : {S R : Type 0} (e : EngineView S R) (f : Report) → e.kept ≡ Some f → is_failed_search e ≡ false → is_failed_start e ≡ false → MayGoOn e → ⊥
stops_by e f kept search start (inl none) = (let no : Some f ≡ None = sym kept ∙ none in cc)
stops_by e f kept search start (inr on) = false≢true (sym (or_from (is_failed_search e) (is_failed_start e) search start) ∙ on)

-- so it is after a fault that is none of a device or of memory
pub own_stops : {S R : Type 0} (e : EngineView S R) (f : Report) → e.kept ≡ Some f → is_call_failed f.kind ≡ false → MayGoOn e → ⊥
unfolding is_failed_search is_failed_start is_failed_call
own_stops e f kept own = grind (arith, stops_by, and_left)

-- no read is made again
pub read_never : {S R : Type 0} (e : EngineView S R) → IsReading (inner_buffer e.files.include_stack) → is_failed_search e ≡ false
unfolding is_failed_search
read_never e reading =
    and_right (is_failed_call e.kept) _ (and_right (may_follow e.phase) (begins_include (held_of (inner_buffer e.files.include_stack))) (read_front (inner_buffer e.files.include_stack) reading))

-- and after one that failed
pub read_stops : {S R : Type 0} (e : EngineView S R) (f : Report) → e.kept ≡ Some f → e.phase ≡ OpenPhase → IsReading (inner_buffer e.files.include_stack) → MayGoOn e → ⊥
unfolding is_failed_start is_over
read_stops e f kept open_ reading = stops_by e f kept (read_never e reading) (and_right (is_failed_call e.kept) (is_over e.phase) (ap is_over open_))

-- What is held of the texts that are read, as an engine goes on.

-- an engine that can't go on: nothing is said then
stopped_lets_go : {S R : Type 0} (e : EngineView S R) → (MayGoOn e → ⊥) → LetsGo e
stopped_lets_go e stops = record { idle = λ on. absurd (stops on) }

-- a part of a text, where its window moved on over that
pub part_moves : {R : Type 0} (unread : R → List ℕ) (catalog : Catalog) (own exact : Type 0) (path : List ℕ) (old new : BufferView R) (outer : List (File R)) (dropped gained : List ℕ)
    → old.window ++ gained ≡ dropped ++ new.window → Gains exact gained (unread_of unread old.reader) (unread_of unread new.reader) → own → IsPartOf unread catalog own path old outer
    → IsPartOf unread catalog exact path new outer
part_moves unread catalog own exact path old new outer dropped gained window gains here p =
    record {
      text = p.text;
      told = p.told;
      front = p.front ++ dropped;
      rest = gains.rest;
      whole = p.whole
          ∙ ap (λ (u : List ℕ). p.front ++ (old.window ++ u)) (p.same here ∙ gains.whole)
          ∙ ap (λ (u : List ℕ). p.front ++ u) (sym (append_assoc old.window gained gains.rest) ∙ ap (λ (w : List ℕ). w ++ gains.rest) window ∙ append_assoc dropped new.window gains.rest)
          ∙ sym (append_assoc p.front dropped (new.window ++ gains.rest));
      same = gains.same;
    }

-- parts of which less is asked
pub parts_told : {R : Type 0} (unread : R → List ℕ) (catalog : Catalog) (own exact : Type 0) (include_stack : List (File R)) → (exact → own) → AreParts unread catalog own include_stack → AreParts unread catalog exact include_stack
parts_told unread catalog own exact [] t parts = tt
parts_told unread catalog own exact (f ∷ outer) t parts = grind (arith, (parts_told unread catalog own exact outer t parts.1))

-- open sources that stay parts of their texts, of which no byte is lost where the move is exact
abbrev pub MovesParts : {R : Type 0} → (R → List ℕ) → Type 0 → List (File R) → List (File R) → Type 0
MovesParts unread exact old new = (catalog : Catalog) → AreParts unread catalog Unit old → AreParts unread catalog exact new

-- and of which none is lost
abbrev pub KeepsParts : {R : Type 0} → (R → List ℕ) → List (File R) → List (File R) → Type 0
KeepsParts unread old new = MovesParts unread Unit old new

-- where held bytes of the innermost are used
pub parts_used : {R : Type 0} (unread : R → List ℕ) (len lines : ℕ) (include_stack : List (File R)) → KeepsParts unread include_stack (with_inner (consumed_file len lines) include_stack)
parts_used unread len lines [] = λ catalog parts. parts
parts_used unread len lines (f ∷ outer) = λ catalog parts.
    (record { text = parts.0.text; told = parts.0.told; front = parts.0.front; rest = parts.0.rest; whole = parts.0.whole; same = parts.0.same }, parts.1)

-- where the window of the innermost slid
pub parts_slid : {R : Type 0} (has_known_texts exact : Type 0) (unread : R → List ℕ) (b : BufferView R) (include_stack : List (File R)) → 0 < length include_stack → Slides has_known_texts exact unread (inner_buffer include_stack) b → has_known_texts
    → MovesParts unread exact include_stack (with_buffer b include_stack)
parts_slid has_known_texts exact unread b [] some slides t = λ catalog parts. tt
parts_slid has_known_texts exact unread b (f ∷ outer) some slides t = λ catalog parts. (
  part_moves unread catalog Unit exact f.path.bytes f.buffer b outer slides.dropped slides.gained slides.window (slides.text t) tt parts.0,
  parts_told unread catalog Unit exact outer (λ _. tt) parts.1,
)

-- one after the other
pub parts_on : {R : Type 0} (unread : R → List ℕ) (old mid new : List (File R)) → KeepsParts unread old mid → KeepsParts unread mid new → KeepsParts unread old new
parts_on unread old mid new first then_ = λ catalog parts. then_ catalog (first catalog parts)

-- where the buffer has the same window and the same reader
pub parts_same : {R : Type 0} (unread : R → List ℕ) (b : BufferView R) (include_stack : List (File R)) → b.window ≡ (inner_buffer include_stack).window → b.reader ≡ (inner_buffer include_stack).reader → KeepsParts unread include_stack (with_buffer b include_stack)
parts_same unread b [] window reader = λ catalog parts. parts
parts_same unread b (f ∷ outer) window reader = grind arith

-- where another mode is entered
pub parts_mode : {R : Type 0} (unread : R → List ℕ) (next : Mode) (include_stack : List (File R)) → KeepsParts unread include_stack (with_buffer (entered_mode (inner_buffer include_stack) next) include_stack)
unfolding entered_mode
parts_mode unread next include_stack = parts_same unread (entered_mode (inner_buffer include_stack) next) include_stack refl refl

-- where the innermost shows another name and other numbers
pub parts_shown : {R : Type 0} (unread : R → List ℕ) (from number : ℕ) (name : ArrayString 1024) (include_stack : List (File R)) → KeepsParts unread include_stack (with_inner (renumbered_file from number name) include_stack)
parts_shown unread from number name [] = λ catalog parts. parts
parts_shown unread from number name (f ∷ outer) = λ catalog parts.
    (record { text = parts.0.text; told = parts.0.told; front = parts.0.front; rest = parts.0.rest; whole = parts.0.whole; same = parts.0.same }, parts.1)

-- the sources around the innermost
pub parts_around : {R : Type 0} (unread : R → List ℕ) (include_stack : List (File R)) → KeepsParts unread include_stack (drop 1 include_stack)
parts_around unread [] = λ catalog parts. parts
parts_around unread (f ∷ outer) = λ catalog parts. parts.1

-- the sources of which bytes are used, whose window moved on
pub parts_moved : {R : Type 0} (has_known_texts exact : Type 0) (unread : R → List ℕ) (used : List ℕ) (old new : List (File R)) → 0 < length old → new ≡ with_used (inner_buffer new) used old
    → MovesOver has_known_texts exact unread used (inner_buffer old) (inner_buffer new) → has_known_texts → MovesParts unread exact old new
parts_moved has_known_texts exact unread used [] new some inner moves t = λ catalog parts. absurd (omega (arith, some))
parts_moved {R} has_known_texts exact unread used (f ∷ outer) new some inner moves t = λ catalog parts.
    let b = inner_buffer new in
    let changed : File R = record f { buffer = b; blanks = only_blanks f.blanks used; ends_mid_line = ends_mid_line_after f.ends_mid_line used } in
    let now : AreParts unread catalog exact (changed ∷ outer) = (
      part_moves unread catalog Unit exact f.path.bytes f.buffer b outer moves.dropped moves.gained moves.window (moves.text t) tt parts.0,
      parts_told unread catalog Unit exact outer (λ _. tt) parts.1,
    ) in
    subst (λ (ns : List (File R)). AreParts unread catalog exact ns) (sym inner) now

-- an included source that was found
pub parts_entered : {R : Type 0} (unread : R → List ℕ) (catalog : Catalog) (found : Found R) (stop source_bytes line_bytes below line : ℕ) (name : List ℕ) (include_stack : List (File R)) → 0 < length include_stack
    → catalog.find (inner_path include_stack) name ≡ Present found.path.bytes (unread found.reader) → AreParts unread catalog Unit include_stack
    → AreParts unread catalog Unit (entered_file found source_bytes line_bytes below line ∷ with_inner (consumed_file stop 0) include_stack)
unfolding unread_of opened_buffer
parts_entered unread catalog found stop source_bytes line_bytes below line name [] some finds parts = absurd (omega (arith, some))
parts_entered unread catalog found stop source_bytes line_bytes below line name (f ∷ outer) some finds parts =
    (record { text = unread found.reader; told = (name, finds); front = []; rest = unread found.reader; whole = refl; same = λ e. refl }, parts_used unread stop 0 (f ∷ outer) catalog parts)

-- a main text that was found
pub parts_opened : {R : Type 0} (unread : R → List ℕ) (catalog : Catalog) (exact : Type 0) (found : Found R) (source_bytes line_bytes below line : ℕ) (path : List ℕ)
    → catalog.top path ≡ Present found.path.bytes (unread found.reader) → AreParts unread catalog exact (entered_file found source_bytes line_bytes below line ∷ [])
unfolding unread_of opened_buffer
parts_opened unread catalog exact found source_bytes line_bytes below line path finds =
    (record { text = unread found.reader; told = (path, finds); front = []; rest = unread found.reader; whole = refl; same = λ e. refl }, tt)

-- where no text of a usage is open, none is called
pub none_called : (macros : List Macro) (opens : List Open) → opens ≡ [] → called_formals macros opens ≡ None
unfolding called_formals usage_id
none_called macros opens none = ap (called_formals macros) none

-- where one is called, some text is open
called_some : (macros : List Macro) (opens : List Open) (fs : List Formal) → called_formals macros opens ≡ Some fs → 0 < length opens
called_some macros [] fs called = absurd (let no : None ≡ Some fs = sym (none_called macros [] refl) ∙ called in cc)
called_some macros (x ∷ below) fs called = omega arith

-- the macro of the usage is
pub called_by : (macros : List Macro) (id : ℕ) (opens : List Open) → usage_id opens ≡ Some id → called_formals macros opens ≡ (macro_at macros id).formals
unfolding called_formals
called_by macros id opens is = ap (λ (u : Option ℕ). elim u [ None ↦ None | Some i ↦ (macro_at macros i).formals ]) is

-- the same is called where the outermost text stays
same_called : (macros : List Macro) (old new : List Open) → StaysOutermost old new → 0 < length new → called_formals macros new ≡ called_formals macros old
unfolding called_formals
same_called macros old new stays some = ap (λ (u : Option ℕ). elim u [ None ↦ None | Some id ↦ (macro_at macros id).formals ]) (stays some)

-- a window and what is unread, from the used bytes on
whole_left : {R : Type 0} (unread : R → List ℕ) (b : BufferView R) → b.at ≤ b.accepted → b.window ++ unread_of unread b.reader ≡ take b.at b.window ++ text_left unread b
unfolding text_left held_of rest_of ahead_of
whole_left unread b used =
    let x = unread_of unread b.reader in
    let front = take b.accepted b.window in
    let ahead = drop b.accepted b.window in
    let first : take b.at front ≡ take b.at b.window = take-take b.at b.accepted b.window used in
    ap (λ (w : List ℕ). w ++ x) (sym (take-append-drop b.accepted b.window))
    ∙ append_assoc front ahead x
    ∙ ap (λ (w : List ℕ). w ++ (ahead ++ x)) (sym (take-append-drop b.at front))
    ∙ append_assoc (take b.at front) (drop b.at front) (ahead ++ x)
    ∙ ap (λ (w : List ℕ). w ++ (drop b.at front ++ (ahead ++ x))) first

-- the text of a source, from the bytes on that aren't used
text_from : {R : Type 0} (unread : R → List ℕ) (catalog : Catalog) (path : List ℕ) (b : BufferView R) (outer : List (File R)) → b.at ≤ b.accepted → (p : IsPartOf unread catalog Unit path b outer)
    → p.text ≡ (p.front ++ take b.at b.window) ++ text_left unread b
text_from unread catalog path b outer used p = grind (arith, whole_left, append_assoc)

-- the call of a usage, after whose name a source stood
call_kept : {R : Type 0} (unread : R → List ℕ) (catalog : Catalog) (most : ℕ) (arguments path : List ℕ) (mid now : BufferView R) (outer : List (File R)) → mid.at ≤ mid.accepted → IsPartOf unread catalog Unit path mid outer
    → KeepsCall unread most arguments mid now → IsCallOf unread catalog most arguments path now outer
call_kept unread catalog most arguments path mid now outer used p keeps =
    record {
      text = p.text;
      told = p.told;
      front = p.front ++ take mid.at mid.window;
      from = mid;
      keeps = keeps;
      whole = text_from unread catalog path mid outer used p ∙ ap (λ (w : List ℕ). (p.front ++ take mid.at mid.window) ++ w) keeps.text;
    }

-- one in which a fault came
call_begun : {R : Type 0} (unread : R → List ℕ) (catalog : Catalog) (most : ℕ) (has_known_texts : Type 0) (arguments path : List ℕ) (mid now : BufferView R) (outer : List (File R)) → mid.at ≤ mid.accepted → mid.mode ≡ Plain
    → IsPartOf unread catalog Unit path mid outer → has_known_texts → ReadsUpTo has_known_texts unread Before most arguments mid now → IsBegunIn unread catalog most arguments path now outer
call_begun unread catalog most has_known_texts arguments path mid now outer used plain p t reads =
    let on = reads.goes_on in
    record {
      text = p.text;
      told = p.told;
      front = p.front ++ take mid.at mid.window;
      from = mid;
      plain = plain;
      reads = record {
        to = reads.to;
        used = reads.used;
        there = reads.there;
        goes_on = record { unused = on.unused; fits = on.fits; reads = λ _. on.reads t; bytes = λ _. on.bytes t };
        whole = reads.whole;
      };
      whole = text_from unread catalog path mid outer used p;
    }

-- so it is among the open sources
pub holds_call : {R : Type 0} (unread : R → List ℕ) (catalog : Catalog) (most len : ℕ) (has_known_texts : Type 0) (arguments used : List ℕ) (include_stack new : List (File R)) → 0 < length include_stack
    → (inner_buffer (with_inner (consumed_file len 0) include_stack)).at ≤ (inner_buffer include_stack).accepted → new ≡ with_used (inner_buffer new) used include_stack → AreParts unread catalog Unit include_stack
    → KeepsOpening has_known_texts unread most Opened arguments (inner_buffer (with_inner (consumed_file len 0) include_stack)) (inner_buffer new) → has_known_texts → HoldsCall unread catalog most arguments new
holds_call unread catalog most len has_known_texts arguments used [] new some inside inner parts keeps t = absurd (omega (arith, some))
holds_call {R} unread catalog most len has_known_texts arguments used (f ∷ outer) new some inside inner parts keeps t =
    let b = inner_buffer new in
    let mid = consumed_file len 0 f in
    let changed : File R = record f { buffer = b; blanks = only_blanks f.blanks used; ends_mid_line = ends_mid_line_after f.ends_mid_line used } in
    let own : IsPartOf unread catalog Unit f.path.bytes mid.buffer outer = (parts_used unread len 0 (f ∷ outer) catalog parts).0 in
    subst (λ (ns : List (File R)). HoldsCall unread catalog most arguments ns) (sym inner)
    (call_kept unread catalog most arguments f.path.bytes mid.buffer b outer inside own (keeps t))

-- and where a fault came in it
begins_call : {R : Type 0} (unread : R → List ℕ) (catalog : Catalog) (most len : ℕ) (has_known_texts : Type 0) (arguments used : List ℕ) (include_stack new : List (File R)) → 0 < length include_stack
    → (inner_buffer (with_inner (consumed_file len 0) include_stack)).at ≤ (inner_buffer include_stack).accepted → (inner_buffer include_stack).mode ≡ Plain → new ≡ with_used (inner_buffer new) used include_stack → AreParts unread catalog Unit include_stack
    → has_known_texts → ReadsUpTo has_known_texts unread Before most arguments (inner_buffer (with_inner (consumed_file len 0) include_stack)) (inner_buffer new) → BeginsCall unread catalog most arguments new
begins_call unread catalog most len has_known_texts arguments used [] new some inside plain inner parts t reads = absurd (omega (arith, some))
begins_call {R} unread catalog most len has_known_texts arguments used (f ∷ outer) new some inside plain inner parts t reads =
    let b = inner_buffer new in
    let mid = consumed_file len 0 f in
    let changed : File R = record f { buffer = b; blanks = only_blanks f.blanks used; ends_mid_line = ends_mid_line_after f.ends_mid_line used } in
    let own : IsPartOf unread catalog Unit f.path.bytes mid.buffer outer = (parts_used unread len 0 (f ∷ outer) catalog parts).0 in
    subst (λ (ns : List (File R)). BeginsCall unread catalog most arguments ns) (sym inner)
    (call_begun unread catalog most has_known_texts arguments f.path.bytes mid.buffer b outer inside plain own t reads)

-- what is kept of a usage without a list, and of one with a list
usage_none : {R : Type 0} (formals : Option (List Formal)) (has_known_texts : Type 0) (unread : R → List ℕ) (most : ℕ) (arguments : List ℕ) (from now : BufferView R) → KeepsUsage formals has_known_texts unread most Opened arguments from now
    → formals ≡ None → arguments ≡ []
usage_none None has_known_texts unread most arguments from now keeps e = keeps
usage_none (Some fs) has_known_texts unread most arguments from now keeps e = cc e

usage_some : {R : Type 0} (formals : Option (List Formal)) (fs : List Formal) (has_known_texts : Type 0) (unread : R → List ℕ) (most : ℕ) (arguments : List ℕ) (from now : BufferView R)
    → KeepsUsage formals has_known_texts unread most Opened arguments from now → formals ≡ Some fs → KeepsOpening has_known_texts unread most Opened arguments from now
usage_some None fs has_known_texts unread most arguments from now keeps e = cc e
usage_some (Some own) fs has_known_texts unread most arguments from now keeps e = keeps

-- what is kept of a usage in which a fault came: nothing, or what was kept so far
usage_begun : {R : Type 0} (formals : Option (List Formal)) (has_known_texts : Type 0) (unread : R → List ℕ) (most : ℕ) (opening : Opening) (arguments : List ℕ) (from now : BufferView R) → is_opened opening ≡ false
    → KeepsUsage formals has_known_texts unread most opening arguments from now → (arguments ≡ []) ⊎ ReadsUpTo has_known_texts unread Before most arguments from now
usage_begun None has_known_texts unread most opening arguments from now none keeps = inl keeps
usage_begun (Some fs) has_known_texts unread most Opened arguments from now none keeps = cc none
usage_begun _ has_known_texts unread most _ arguments from now none keeps = inr keeps

-- what is held as an engine goes on
pub record KeepsStores {S R : Type 0} (g : Ghosts S R) (old new : EngineView S R) : Type 0 where
  pub lets_go : LetsGo old → LetsGo new
  pub stores : g.has_known_texts old.sources → HoldsStores g old → HoldsStores g new

-- the parts of an engine's texts, of which no byte was lost
free_parts : {S R : Type 0} (g : Ghosts S R) (e : EngineView S R) → e.kept ≡ None → HoldsStores g e → AreParts g.unread (g.catalog e.sources) Unit e.files.include_stack
free_parts g e free h = parts_told g.unread (g.catalog e.sources) (MayGoOn e) Unit e.files.include_stack (λ _. inl free) h.parts

-- where the sources changed, no fault is kept, and no text of a usage is open
pub keeps_sources : {S R : Type 0} (g : Ghosts S R) (old : EngineView S R) (pending : PendingView) (marks : MarksView) (macros : List Macro) (v : ConditionsView) (include_stack : List (File R)) (sources : S) → old.kept ≡ None → old.expansion.opens ≡ []
    → g.catalog sources ≡ g.catalog old.sources → (g.has_known_texts old.sources → AreParts g.unread (g.catalog old.sources) Unit old.files.include_stack → AreParts g.unread (g.catalog old.sources) Unit include_stack)
    → KeepsStores g old (record old { pending = pending; marks = marks; table = record old.table { macros = macros }; conditions = v; files = record old.files { include_stack = include_stack }; sources = sources })
keeps_sources g old pending marks macros v include_stack sources free idle catalog parts =
    let none = none_called macros old.expansion.opens idle in
    let nothing : LetsGo old → old.expansion.arguments ≡ [] = λ h. h.idle (inl free) (none_called old.table.macros old.expansion.opens idle) in
    record {
      lets_go = λ h. record { idle = λ _ _. nothing h };
      stores = λ t h. record {
        lets_go = record { idle = λ _ _. nothing h.lets_go };
        parts = parts_told g.unread (g.catalog sources) Unit _ include_stack (λ _. tt)
            (subst (λ (c : Catalog). AreParts g.unread c Unit include_stack) (sym catalog) (parts t (free_parts g old free h)));
        call = λ fs called. absurd (let no : None ≡ Some fs = sym none ∙ called in cc);
        begun = λ _. inl (nothing h.lets_go);
      };
    }

-- where nothing of it changed
pub keeps_pending : {S R : Type 0} (g : Ghosts S R) (old : EngineView S R) (pending : PendingView) (marks : MarksView) → KeepsStores g old (record old { pending = pending; marks = marks })
unfolding is_failed_search is_failed_start
keeps_pending g old pending marks = grind arith

-- nor with how far an engine is that keeps no fault, and how many bytes may be lent
pub keeps_phase : {S R : Type 0} (g : Ghosts S R) (old : EngineView S R) (phase : Phase) (quota : ℕ) → old.kept ≡ None → KeepsStores g old (record old { phase = phase; quota = quota })
keeps_phase g old phase quota free = record {
  lets_go = λ h. record { idle = λ _. h.idle (inl free) };
  stores = λ t h. record {
    lets_go = record { idle = λ _. h.lets_go.idle (inl free) };
    parts = parts_told g.unread (g.catalog old.sources) (MayGoOn old) _ old.files.include_stack (λ _. inl free) h.parts;
    call = h.call;
    begun = h.begun;
  };
}

-- where a fault is kept that is none of a device or of memory, and nothing else changed: it closes nothing
pub keeps_refused : {S R : Type 0} (g : Ghosts S R) (old : EngineView S R) (f : Report) → is_call_failed f.kind ≡ false → KeepsStores g old (record old { kept = Some f })
keeps_refused {S} {R} g old f own =
    let new : EngineView S R = record old { kept = Some f } in
    let stops : MayGoOn new → ⊥ = own_stops new f refl own in
    record {
      lets_go = λ h. stopped_lets_go new stops;
      stores = λ t h. record {
        lets_go = stopped_lets_go new stops;
        parts = parts_told g.unread (g.catalog old.sources) (MayGoOn old) (MayGoOn new) old.files.include_stack (λ on. absurd (stops on)) h.parts;
        call = h.call;
        begun = h.begun;
      };
    }

-- where a search failed: the sources alone changed, and no byte is lost
pub keeps_searched : {S R : Type 0} (g : Ghosts S R) (old : EngineView S R) (f : Report) (sources : S) → old.kept ≡ None → old.expansion.opens ≡ [] → g.catalog sources ≡ g.catalog old.sources
    → KeepsStores g old (record old { kept = Some f; sources = sources })
keeps_searched g old f sources free idle catalog =
    let none = none_called old.table.macros old.expansion.opens idle in
    record {
      lets_go = λ h. record { idle = λ _ _. h.idle (inl free) none };
      stores = λ t h. record {
        lets_go = record { idle = λ _ _. h.lets_go.idle (inl free) none };
        parts = parts_told g.unread (g.catalog sources) Unit _ old.files.include_stack (λ _. tt)
            (subst (λ (c : Catalog). AreParts g.unread c Unit old.files.include_stack) (sym catalog) (free_parts g old free h));
        call = λ fs called. absurd (let no : None ≡ Some fs = sym none ∙ called in cc);
        begun = λ _. inl (h.lets_go.idle (inl free) none);
      };
    }

-- where a fault is kept that came at the front of what is held, and after which the engine can't go on: the innermost window moved on, and
-- bytes may be lost after it
pub keeps_stopped : {S R : Type 0} (g : Ghosts S R) (old : EngineView S R) (f : Report) (b : BufferView R) (sources : S) → old.kept ≡ None → old.expansion.opens ≡ [] → 0 < length old.files.include_stack
    → g.catalog sources ≡ g.catalog old.sources → Slides (g.has_known_texts old.sources) ⊥ g.unread (inner_buffer old.files.include_stack) b
    → (MayGoOn (record old { kept = Some f; files = record old.files { include_stack = with_buffer b old.files.include_stack }; sources = sources }) → ⊥)
    → KeepsStores g old (record old { kept = Some f; files = record old.files { include_stack = with_buffer b old.files.include_stack }; sources = sources })
keeps_stopped {S} {R} g old f b sources free idle some catalog slides stops =
    let new : EngineView S R = record old { kept = Some f; files = record old.files { include_stack = with_buffer b old.files.include_stack }; sources = sources } in
    let none = none_called old.table.macros old.expansion.opens idle in
    record {
      lets_go = λ h. stopped_lets_go new stops;
      stores = λ t h. record {
        lets_go = stopped_lets_go new stops;
        parts = parts_told g.unread (g.catalog sources) ⊥ (MayGoOn new) (with_buffer b old.files.include_stack) stops
            (subst (λ (c : Catalog). AreParts g.unread c ⊥ (with_buffer b old.files.include_stack)) (sym catalog)
            (parts_slid (g.has_known_texts old.sources) ⊥ g.unread b old.files.include_stack some slides t (g.catalog old.sources) (free_parts g old free h)));
        call = λ fs called. absurd (let no : None ≡ Some fs = sym none ∙ called in cc);
        begun = λ _. inl (h.lets_go.idle (inl free) none);
      };
    }

-- where a fault is kept that came in the call of a usage, and after which the engine can't go on
pub keeps_broken : {S R : Type 0} (g : Ghosts S R) (old : EngineView S R) (f : Report) (include_stack : List (File R)) (s : S) (opening : Opening) (arguments used : List ℕ) (len : ℕ) (exact : Type 0) (formals : Option (List Formal))
    → old.kept ≡ None → old.expansion.opens ≡ [] → 0 < length old.files.include_stack → g.catalog s ≡ g.catalog old.sources → include_stack ≡ with_used (inner_buffer include_stack) used old.files.include_stack
    → MovesOver (g.has_known_texts old.sources) exact g.unread used (inner_buffer old.files.include_stack) (inner_buffer include_stack)
    → (inner_buffer (with_inner (consumed_file len 0) old.files.include_stack)).at ≤ (inner_buffer old.files.include_stack).accepted → (inner_buffer old.files.include_stack).mode ≡ Plain → is_opened opening ≡ false
    → KeepsUsage formals (g.has_known_texts old.sources) g.unread old.expansion.most opening arguments (inner_buffer (with_inner (consumed_file len 0) old.files.include_stack)) (inner_buffer include_stack)
    → (MayGoOn (record old { kept = Some f; files = record old.files { include_stack = include_stack }; sources = s; expansion = record old.expansion { arguments = arguments } }) → ⊥)
    → KeepsStores g old (record old { kept = Some f; files = record old.files { include_stack = include_stack }; sources = s; expansion = record old.expansion { arguments = arguments } })
keeps_broken {S} {R} g old f include_stack s opening arguments used len exact formals free idle some catalog inner moves inside plain unopened keeps stops =
    let new : EngineView S R = record old { kept = Some f; files = record old.files { include_stack = include_stack }; sources = s; expansion = record old.expansion { arguments = arguments } } in
    let none = none_called old.table.macros old.expansion.opens idle in
    record {
      lets_go = λ h. stopped_lets_go new stops;
      stores = λ t h. record {
        lets_go = stopped_lets_go new stops;
        parts = parts_told g.unread (g.catalog s) exact (MayGoOn new) include_stack (λ on. absurd (stops on))
            (subst (λ (c : Catalog). AreParts g.unread c exact include_stack) (sym catalog)
            (parts_moved (g.has_known_texts old.sources) exact g.unread used old.files.include_stack include_stack some inner moves t (g.catalog old.sources) (free_parts g old free h)));
        call = λ fs called. absurd (let no : None ≡ Some fs = sym none ∙ called in cc);
        begun = λ _. elim (usage_begun formals (g.has_known_texts old.sources) g.unread old.expansion.most opening arguments _ _ unopened keeps) [
          | inl nothing ↦ inl nothing
          | inr reads ↦
              inr (subst (λ (c : Catalog). BeginsCall g.unread c old.expansion.most arguments include_stack) (sym catalog)
              (begins_call g.unread (g.catalog old.sources) old.expansion.most len (g.has_known_texts old.sources) arguments used old.files.include_stack include_stack some inside plain inner (free_parts g old free h) t reads))
        ];
      };
    }

-- where the open texts went on
pub keeps_texts : {S R : Type 0} (g : Ghosts S R) (old : EngineView S R) (x : ExpansionView) (marks : MarksView) → old.kept ≡ None → StaysOpen old.expansion x → StaysOutermost old.expansion.opens x.opens → (x.opens ≡ [] → x.arguments ≡ [])
    → KeepsStores g old (record old { expansion = x; marks = marks })
keeps_texts g old x marks free stays outer lets_go = record {
  lets_go = λ h. record { idle = λ _ none. by h none x.opens refl };
  stores = λ t h. record {
    lets_go = record { idle = λ _ none. by h.lets_go none x.opens refl };
    parts = parts_told g.unread (g.catalog old.sources) (MayGoOn old) _ old.files.include_stack (λ _. inl free) h.parts;
    call = λ fs called.
        let some = called_some old.table.macros x.opens fs called in
        let own = sym (same_called old.table.macros old.expansion.opens x.opens outer some) ∙ called in
        elim stays.arguments [
          | inl same ↦
              subst (λ (n : ℕ). HoldsCall g.unread (g.catalog old.sources) n x.arguments old.files.include_stack) (sym stays.most)
              (subst (λ (a : List ℕ). HoldsCall g.unread (g.catalog old.sources) old.expansion.most a old.files.include_stack) (sym same) (h.call fs own))
          | inr none ↦ (let zeroth = ap length none.0 in absurd (omega (arith, zeroth, some)))
        ];
    begun = λ none. inl (by h.lets_go none x.opens refl);
  };
}
  where
    by : LetsGo old → called_formals old.table.macros x.opens ≡ None → (opens : List Open) → x.opens ≡ opens → x.arguments ≡ []
    by h none [] is = lets_go is
    by h none (y ∷ below) is =
        let size = ap length is in
        let own = sym (same_called old.table.macros old.expansion.opens x.opens outer (omega (arith, size))) ∙ none in
        elim stays.arguments [ inl same ↦ same ∙ h.idle (inl free) own | inr gone ↦ gone.1 ]

-- where a usage is opened
pub keeps_opened : {S R : Type 0} (g : Ghosts S R) (old : EngineView S R) (include_stack : List (File R)) (s : S) (x : ExpansionView) (used : List ℕ) (len : ℕ) (formals : Option (List Formal)) → old.kept ≡ None → 0 < length old.files.include_stack
    → g.catalog s ≡ g.catalog old.sources → include_stack ≡ with_used (inner_buffer include_stack) used old.files.include_stack → (g.has_known_texts old.sources → KeepsParts g.unread old.files.include_stack include_stack)
    → (inner_buffer (with_inner (consumed_file len 0) old.files.include_stack)).at ≤ (inner_buffer old.files.include_stack).accepted → called_formals old.table.macros x.opens ≡ formals → x.most ≡ old.expansion.most
    → KeepsUsage formals (g.has_known_texts old.sources) g.unread old.expansion.most Opened x.arguments (inner_buffer (with_inner (consumed_file len 0) old.files.include_stack)) (inner_buffer include_stack)
    → KeepsStores g old (record old { files = record old.files { include_stack = include_stack }; sources = s; expansion = x })
keeps_opened g old include_stack s x used len formals free some catalog inner parts inside called most keeps =
    let nothing : called_formals old.table.macros x.opens ≡ None → x.arguments ≡ [] =
    λ none. usage_none formals (g.has_known_texts old.sources) g.unread old.expansion.most x.arguments _ _ keeps (sym called ∙ none) in
    record {
      lets_go = λ h. record { idle = λ _ none. nothing none };
      stores = λ t h. record {
        lets_go = record { idle = λ _ none. nothing none };
        parts = parts_told g.unread (g.catalog s) Unit _ include_stack (λ _. tt)
            (subst (λ (c : Catalog). AreParts g.unread c Unit include_stack) (sym catalog) (parts t (g.catalog old.sources) (free_parts g old free h)));
        call = λ fs own.
            subst (λ (n : ℕ). HoldsCall g.unread (g.catalog s) n x.arguments include_stack) (sym most)
            (subst (λ (c : Catalog). HoldsCall g.unread c old.expansion.most x.arguments include_stack) (sym catalog)
            (holds_call g.unread (g.catalog old.sources) old.expansion.most len (g.has_known_texts old.sources) x.arguments used old.files.include_stack include_stack some inside inner (free_parts g old free h)
            (usage_some formals fs (g.has_known_texts old.sources) g.unread old.expansion.most x.arguments _ _ keeps (sym called ∙ own)) t));
        begun = λ none. inl (nothing none);
      };
    }
