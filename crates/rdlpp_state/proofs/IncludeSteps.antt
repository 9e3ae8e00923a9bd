-- Sources that an `include` opens, and their end, as steps of the engine.
use Rattle.std.proofs.Common.{◌≡◌, ℕ, suc, ◌-◌, ◌≤◌, ◌<◌, Bool, true, false, ◌==◌, List, [], ◌∷◌, ◌++◌, length, take, drop, None, refl, sym, ap, ◌∙◌, arith, ◌+◌, Some, Result, Ok, Err, subst, ◌^◌, Option, inl, inr, if◌then◌else◌, max, IsUtf8, length-drop}
use Rattle.std.specs.Str.{is_utf8}
use Rattle.std.proofs.lemmas.Bool.{or_right}
use Rattle.std.proofs.lemmas.List.Elements.{All-head, All-same, All-tail}
use Rattle.std.proofs.lemmas.Str.{IsUtf8-from_is_utf8}
use Rattle.rdlpp_scan.specs.Front.{Breach}
use Rattle.rdlpp_scan.specs.Reserved.{directive_word}
use Rattle.rdlpp_scan.specs.declared.token.Directive.TheVariants.{Include}
use Rattle.rdlpp_scan.specs.declared.token.Mode.{Mode}
use Rattle.rdlpp_scan.specs.declared.token.Mode.TheVariants.{Plain}
use Rattle.rdlpp_define.specs.Macros.{Macro}
use Rattle.rdlpp_define.specs.declared.limits.Limits.{Limits}
use Rattle.rdlpp_meaning.specs.Meaning.{Passage, Progress, back_in, after_bytes, goes_on, origin_line, unquoted}
use Rattle.rdlpp_meaning.specs.Moves.{Enters, Move, Stops, found_move, include_move, move_of, single_move}
use Rattle.rdlpp_meaning.specs.Opened.{all_resumed, unwound}
use Rattle.rdlpp_meaning.specs.Outcome.{Report}
use Rattle.rdlpp_meaning.specs.Output.{start_state}
use Rattle.rdlpp_meaning.specs.Profile.{rules_of}
use Rattle.rdlpp_meaning.specs.Resumed.{Live, Place as OwnPlace, resumed}
use Rattle.rdlpp_meaning.specs.State.{LongPath, NoSource, Rules, Source, State, breach_kind, fault_at, shown_line, Lookup}
use Rattle.rdlpp_meaning.specs.declared.fault.FaultKind.{FaultKind}
use Rattle.rdlpp_meaning.specs.declared.fault.FaultKind.TheVariants.{IncludeName, PathTooLong, ReadFailed, SourceMemory, SourceNotFound, TooManyIncludes}
use Rattle.rdlpp_source.specs.Counts.{Counts}
use Rattle.rdlpp_source.specs.Sources.{Catalog, Finds, is_device, is_no_memory}
use Rattle.rdlpp_source.specs.declared.sources.Found.{Found}
use Rattle.rdlpp_source.specs.declared.sources.SourceFault.{SourceFault}
use Rattle.rdlpp_source.specs.declared.sources.SourceFault.TheVariants as source
use Rattle.rdlpp_source.specs.declared.sources.Sources.{Ghosts}
use Rattle.rdlpp_read.specs.Conditions.{ConditionsView, own_conditions, place_of}
use Rattle.rdlpp_read.specs.Buffer.{BufferView, held_of, tokens_left}
use Rattle.rdlpp_read.specs.Files.{AreOpen, FilesView, IsSlot, consumed_file, entered_file, inner_buffer, shift_of, ends_mid_line_after, with_buffer, with_inner}
use Rattle.rdlpp_read.specs.Filling.{Fills, ended_tokens, only_broken}
use Rattle.rdlpp_read.specs.declared.buffer.filling.Fill.TheVariants as fill
use Rattle.rdlpp_read.specs.declared.files.File.{File}
use Rattle.rdlpp_read.proofs.BufferTokens.{ended-text}
use Rattle.rdlpp_front.specs.Arguments.{IsClosedString}
use Rattle.rdlpp_front.specs.SourceItems.{HasString, LacksArgument, include_name, argument_name}
use Rattle.rdlpp_front.specs.SourceLeft.{source_left, HoldsFront}
use Rattle.rdlpp_front.proofs.TextLeft.{ended_left}
use Rattle.rdlpp_front.proofs.DirectivesLeft.{include_word, no_string_in_front_of, string_in_front_of}
use Rattle.rdlpp_front.proofs.NamedDirectives.{GivenInFront}
use Rattle.rdlpp_state.specs.Calls.{SourcesCalled}
use Rattle.rdlpp_state.specs.Conditionals.{unclosed_fault}
use Rattle.rdlpp_state.specs.Engine.{AreIncluded, EngineView}
use Rattle.rdlpp_state.specs.Held.{IsBounded}
use Rattle.rdlpp_state.specs.Includes.{BadName, Denies, Full, IsSearch, SearchFault, Searches, included_engine, inner_path, is_bad_name, kind_of_source, left_engine, marks_after, pending_after}
use Rattle.rdlpp_state.specs.Marks.{MarksView, ends_line}
use Rattle.rdlpp_state.specs.Moves.{Closes, Ends, IsReady, Returns, StopsOpen, StopsUnclosed}
use Rattle.rdlpp_state.specs.OpenConditionals.{inner_below, outer_open}
use Rattle.rdlpp_state.specs.Pending.{PendingView, nothing_pending, origin_pending, origin_pieces, pending_bytes, pending_pieces}
use Rattle.rdlpp_state.specs.Pieces.{halted_answer, silent_answer}
use Rattle.rdlpp_state.specs.Positions.{AfterSource}
use Rattle.rdlpp_state.specs.Remaining.{ending_after, file_state, find_of, inner_name, lookup_of, include_stack_left, include_stack_state, run_rules, source_rules, state_of, waiting_around}
use Rattle.rdlpp_state.specs.Standing.{InSources, Nowhere}
use Rattle.rdlpp_state.specs.Steps.{IsOwn, OnSearch, UncutStep, is_call_failed, is_memory_kind, is_read_failed, is_write_failed}
use Rattle.rdlpp_state.specs.declared.phase.Phase.TheVariants.{Closed}
use Rattle.rdlpp_state.specs.declared.place.Halt.{Halt}
use Rattle.rdlpp_state.specs.declared.place.Halt.TheVariants.{End, Fault}
use Rattle.rdlpp_state.proofs.IncludeStackLeft.{around, conditions_live, inner_below-same, live_place, include_stack_ended, include_stack_open}
use Rattle.rdlpp_state.proofs.EngineSteps.{kept_at, not_called, walks_end, walks_stopped}
use Rattle.rdlpp_state.proofs.FrontSteps.{Fails, IsRead, keeps_fault, keeps_files, keeps_moves, kept_text, left_by, lends_by, read_text, refuses, refuses_by, text_drained, read_sources}
use Rattle.rdlpp_state.proofs.Stores.{KeepsStores, keeps_searched, own_kind, parts_around}
use Rattle.rdlpp_state.proofs.LentPieces.{pending_few, pending_ends_mid_line}
use Rattle.rdlpp_state.proofs.SkippedStacks.{unclosed_at}
use Rattle.rdlpp_state.proofs.Soundness.{inner_facts, with_inner-length}
use Rattle.rdlpp_state.proofs.WorkFacts.{left_falls}
use Rattle.rdlpp_state.proofs.StackMoves.{Comes, all_own, front_command, front_moves, none_own}
use Rattle.rdlpp_state.proofs.DirectiveMoves.{Does, does_step}

-- Sources that are included, in the open ones: where one is opened, and where it ends.

module _ {R : Type 0} (limits : Limits) (rules : Rules) (unread : R → List ℕ) (macros : List Macro) (v : ConditionsView) (live : v.skipped ≡ None) where
  -- where an included source has ended, the one around it goes on
  unwinds : (f g : File R) (outer : List (File R)) (os : List Progress) → os ≡ v.open_now
      → unwound rules (waiting_around limits rules unread os f (g ∷ outer)) (include_stack_state limits macros v (f ∷ g ∷ outer))
      ≡ after_bytes (ending_after rules unread f g) (include_stack_left limits rules unread macros v (g ∷ outer))
  unfolding unwound waiting_around include_stack_left include_stack_state file_state back_in source_left all_resumed own_conditions
  unwinds f g outer os e =
      let s = include_stack_state limits macros v (g ∷ outer) in
      let ws = waiting_around limits rules unread (outer_open g.conditions_below v.open_now) g outer in
      let next : OwnPlace → Passage = λ here.
      after_bytes (ending_after rules unread f g) (goes_on (resumed rules here g.blanks (tokens_left unread g.buffer) s) (λ after. unwound rules ws after)) in
      rw e (ap next (sym (live_place g.conditions_below v live)))

  -- an included source has ended: what is written after it, and then what remains of the one around it, where it has no open conditional of its own
  pub include_stack_returned : (has_known_texts : Type 0) (t : has_known_texts) (f g : File R) (outer : List (File R)) (new : BufferView R) → Fills has_known_texts unread fill.End f.buffer new → f.buffer.mode ≡ Plain
      → f.conditions_below ≡ length v.open_now
      → include_stack_left limits rules unread macros v (f ∷ g ∷ outer) ≡ after_bytes (ending_after rules unread f g) (include_stack_left limits rules unread macros v (g ∷ outer))
  unfolding include_stack_left
  include_stack_returned has_known_texts t f g outer new fills plain own =
      let s = include_stack_state limits macros v (f ∷ g ∷ outer) in
      let os = outer_open f.conditions_below v.open_now in
      let ws = waiting_around limits rules unread os f (g ∷ outer) in
      let place : place_of f.conditions_below v ≡ Live [] = live_place f.conditions_below v live ∙ ap Live (none_own v f.conditions_below own) in
      ap (λ (here : OwnPlace). source_left rules unread ws here f s) place
      ∙ (ended_left rules unread ws f s has_known_texts new fills t plain
      ∙ unwinds f g outer os (all_own v.open_now f.conditions_below own))

-- An `include`, as steps of the engine: the source that it opens, or its fault.

-- an `include` with its string
pub string_inside : (held : List ℕ) (start stop : ℕ) → HasString held start stop → (start < stop) × (stop ≤ length held)
string_inside held start stop has =
    let n = length (directive_word Include) in
    let given = has.argument.given in
    let starts = has.argument.starts in
    let stops = has.argument.stops in
    let inside : n + has.argument.to ≤ length held = omega (arith, given.inside, given.some, length-drop n held) in
    (omega (arith, given.some), omega arith)

-- the state of the innermost source
room_here : {R : Type 0} (limits : Limits) (macros : List Macro) (v : ConditionsView) (include_stack : List (File R)) → 0 < length include_stack
    → (include_stack_state limits macros v include_stack).sources_left ≡ limits.includes + 1 - length include_stack
unfolding include_stack_state file_state
room_here limits macros v [] some = absurd (omega arith)
room_here limits macros v (f ∷ outer) some = omega arith

path_here : {R : Type 0} (limits : Limits) (macros : List Macro) (v : ConditionsView) (include_stack : List (File R)) → (include_stack_state limits macros v include_stack).path ≡ inner_path include_stack
unfolding include_stack_state file_state start_state
path_here limits macros v [] = refl
path_here limits macros v (f ∷ outer) = refl

-- it is the same where bytes are used
same_used : {R : Type 0} (limits : Limits) (macros : List Macro) (v : ConditionsView) (include_stack : List (File R)) (len : ℕ)
    → include_stack_state limits macros v include_stack ≡ include_stack_state limits macros v (with_inner (consumed_file len 0) include_stack)
unfolding include_stack_state file_state
same_used limits macros v [] len = refl
same_used limits macros v (f ∷ outer) len = refl

-- an `include` in live text, by what it is given
module _ {S R : Type 0} (g : Ghosts S R) (e : EngineView S R) (ready : IsReady e) (live : e.conditions.skipped ≡ None) (some : 0 < length (held_of (inner_buffer e.files.include_stack)))
    (plain : (inner_buffer e.files.include_stack).mode ≡ Plain) where
  abbrev own : List Progress
  own = own_conditions (inner_below e.files.include_stack) e.conditions

  abbrev here : State
  here = include_stack_state e.limits e.table.macros e.conditions e.files.include_stack

  abbrev front : HoldsFront (inner_buffer e.files.include_stack)
  front = record { some = some; ends = (inner_facts e.files ready.include_stack ready.files).ends }

  include_comes : (given : Option (List ℕ)) (len : ℕ) (m : Move) → GivenInFront Include g.unread (inner_buffer e.files.include_stack) given len → include_move (run_rules g e) given own here ≡ m
      → Comes e.limits (run_rules g e) g.unread e.table.macros e.conditions e.files.include_stack (with_inner (consumed_file len 0) e.files.include_stack) m
  unfolding move_of single_move
  include_comes given len m i is =
      let rules = run_rules g e in
      subst (Comes e.limits rules g.unread e.table.macros e.conditions e.files.include_stack (with_inner (consumed_file len 0) e.files.include_stack))
      (ap (λ (p : OwnPlace). move_of rules (front_command e.limits rules g.unread e.table.macros e.conditions Include given len e.files.include_stack) p here) (live_place (inner_below e.files.include_stack) e.conditions live) ∙ is)
      (front_moves e.limits rules g.unread e.table.macros e.conditions e.files.include_stack Include given len (record { some = some; ends = front.ends; plain = plain }) include_word i)

  -- after which no string stands that closes on its line
  pub left_nameless_include : LacksArgument IsClosedString Include (held_of (inner_buffer e.files.include_stack)) → Fails g e IncludeName (inner_buffer e.files.include_stack).line []
  unfolding state_of include_move
  left_nameless_include lacks =
      include_comes None (length (directive_word Include)) (Stops IncludeName []) (no_string_in_front_of g.unread (inner_buffer e.files.include_stack) front plain lacks) refl

-- an `include` whose string is given, after the search for what it names
module _ {S R : Type 0} (g : Ghosts S R) (old mid new : EngineView S R) (start stop : ℕ) (ready : IsReady old) (live : old.conditions.skipped ≡ None) (some : 0 < length (held_of (inner_buffer old.files.include_stack)))
    (plain : (inner_buffer old.files.include_stack).mode ≡ Plain) (has : HasString (held_of (inner_buffer old.files.include_stack)) start stop) (bounded : IsBounded new) (becomes : mid ≡ record old { sources = mid.sources }) where
  -- the name that is searched for
  abbrev name_of : List ℕ
  name_of = include_name (held_of (inner_buffer old.files.include_stack)) start stop

  same_files : mid.files ≡ old.files
  same_files = ap (λ e. e.files) becomes

  -- a fault is kept
  abbrev KeepsKind : FaultKind → Type 0
  KeepsKind kind = new ≡ record mid { kept = Some (fault_at kind (inner_buffer mid.files.include_stack).line [] (state_of mid)) }

  -- what it comes to
  abbrev comes_to : Move
  comes_to = include_move (run_rules g old) (Some (argument_name (held_of (inner_buffer old.files.include_stack)) start stop)) (own g old ready live some plain) (here g old ready live some plain)

  bad_comes : is_bad_name name_of ≡ true → comes_to ≡ Stops IncludeName []
  unfolding include_move
  bad_comes bad = rw bad refl

  named_comes : (n : ℕ) (found : Lookup) → is_bad_name name_of ≡ false → old.limits.includes + 1 - length old.files.include_stack ≡ n → (run_rules g old).find (inner_path old.files.include_stack) name_of ≡ found
      → comes_to ≡ found_move (run_rules g old) n found (own g old ready live some plain)
  unfolding include_move
  named_comes n found good room finds =
      let rules = run_rules g old in
      let os = own g old ready live some plain in
      let s = here g old ready live some plain in
      ap (λ (b : Bool). if b then Stops IncludeName [] else found_move rules s.sources_left (rules.find s.path name_of) os) good
      ∙ ap (λ (k : ℕ). found_move rules k (rules.find s.path name_of) os) (room_here old.limits old.table.macros old.conditions old.files.include_stack ready.include_stack ∙ room)
      ∙ ap (λ (x : Lookup). found_move rules n x os) (ap (λ (p : List ℕ). rules.find p name_of) (path_here old.limits old.table.macros old.conditions old.files.include_stack) ∙ finds)

  -- where a search is made
  searched_comes : (answer : Result (Found R) SourceFault) (found : Lookup) → Searches g old name_of mid.sources answer → (run_rules g old).find (inner_path old.files.include_stack) name_of ≡ found
      → comes_to ≡ found_move (run_rules g old) (suc (old.limits.includes - length old.files.include_stack)) found (own g old ready live some plain)
  searched_comes answer found s finds =
      let room = s.room in
      let slots = ready.sound.slots in
      named_comes (suc (old.limits.includes - length old.files.include_stack)) found s.name_good (omega arith) finds

  -- an engine that does what it comes to
  steps : (result : Option Halt) (m : Move) → SourcesCalled g false false old.sources mid.sources → (g.has_known_texts old.sources → comes_to ≡ m) → Does g stop old mid new result m → UncutStep g old new (silent_answer new result)
  steps result m call comes does =
      let within = string_inside (held_of (inner_buffer old.files.include_stack)) start stop has in
      does_step g old mid new ready bounded becomes call stop result m (omega (arith, within.0), within.1)
      (λ t. include_comes g old ready live some plain (Some (argument_name (held_of (inner_buffer old.files.include_stack)) start stop)) stop m
      (string_in_front_of g.unread (inner_buffer old.files.include_stack) (front g old ready live some plain) plain start stop has) (comes t)) does

  -- the text has a fault
  refuse_steps : (place : Halt) → place ≡ Fault → (kind : FaultKind) → IsOwn kind → SourcesCalled g false false old.sources mid.sources → KeepsKind kind
      → (g.has_known_texts old.sources → comes_to ≡ Stops kind []) → UncutStep g old new (halted_answer new place)
  refuse_steps place is kind owns call kept comes = steps (Some place) (Stops kind []) call comes (ap Some is, kept, owns)

  -- the search failed
  stopped_steps : (place : Halt) → place ≡ Fault → (kind : FaultKind) → is_call_failed kind ≡ true → is_write_failed kind ≡ false → SourcesCalled g (is_read_failed kind) (is_memory_kind kind) old.sources mid.sources
      → KeepsKind kind → is_bad_name name_of ≡ false → length old.files.include_stack < old.files.slots → UncutStep g old new (halted_answer new place)
  unfolding fault_at state_of
  stopped_steps place is kind met write call kept good room =
      let told : EngineView S R → Report = λ e. fault_at kind (inner_buffer e.files.include_stack).line [] (include_stack_state e.limits e.table.macros e.conditions e.files.include_stack) in
      let r = read_sources g old mid becomes in
      let files : new.files ≡ old.files = ap (λ e. e.files) kept ∙ same_files in
      let sources : new.sources ≡ mid.sources = ap (λ e. e.sources) kept in
      let P : S → Type 0 = λ s. SourcesCalled g (is_read_failed kind) (is_memory_kind kind) old.sources s in
      let search : IsSearch new = record {
        start = start;
        stop = stop;
        mode = ap (λ (fs : FilesView R). (inner_buffer fs.include_stack).mode) files ∙ plain;
        has = subst (λ (fs : FilesView R). HasString (held_of (inner_buffer fs.include_stack)) start stop) (sym files) has;
        name = ap (λ (fs : FilesView R). is_bad_name (include_name (held_of (inner_buffer fs.include_stack)) start stop)) files ∙ good;
        room = subst (λ (fs : FilesView R). length fs.include_stack < fs.slots) (sym files) room;
      } in
      let include_stack : old.files.include_stack ≡ with_buffer (inner_buffer mid.files.include_stack) old.files.include_stack = sym (ap (λ (fs : FilesView R). fs.include_stack) same_files) ∙ ap (λ (fs : FilesView R). fs.include_stack) r.only in
      kept_at g old new place (told mid) is (ap (λ e. e.kept) kept)
      (walks_stopped g old new ready.free ready.open_ bounded (told mid) (OnSearch search kind met (sym (ap told kept))) met write
      (keeps_fault old mid new (told mid) r kept) (keeps_files old mid new (told mid) r kept) (keeps_moves old mid new (told mid) r kept) ready.pending (subst P (sym sources) call)
      (λ t. read_text g old mid ready.pending ready.idle r call.catalog (ap (λ (ns : List (File R)). left_by g old old.table.macros old.conditions ns) include_stack) ∙ sym (kept_text g mid new (told mid) kept))
      (subst (λ (e : EngineView S R). KeepsStores g old e) (sym (kept ∙ ap (λ (m : EngineView S R). record m { kept = Some (told mid) }) becomes))
      (keeps_searched g old (told mid) mid.sources ready.free ready.idle call.catalog)))

  -- what is found is what the rules find
  finds_as : (fault : SourceFault) → Searches g old name_of mid.sources (Err fault) → (place : Halt) → place ≡ Fault → KeepsKind (kind_of_source fault) → UncutStep g old new (halted_answer new place)
  unfolding kind_of_source is_call_failed is_read_failed is_write_failed is_memory_kind source_rules rules_of find_of lookup_of found_move
  finds_as source.Absent s place is kept = refuse_steps place is SourceNotFound (own_kind _ refl) s.call kept (λ t. searched_comes (Err source.Absent) NoSource s (ap lookup_of (s.answers t)))
  finds_as source.PathTooLong s place is kept = refuse_steps place is PathTooLong (own_kind _ refl) s.call kept (λ t. searched_comes (Err source.PathTooLong) LongPath s (ap lookup_of (s.answers t)))
  finds_as source.Device s place is kept = stopped_steps place is ReadFailed refl refl s.call kept s.name_good s.room
  finds_as source.NoMemory s place is kept = stopped_steps place is SourceMemory refl refl s.call kept s.name_good s.room

  -- nothing is opened
  pub denied_steps : (place : Halt) (kind : FaultKind) → place ≡ Fault → Denies g old name_of mid.sources kind → KeepsKind kind → UncutStep g old new (halted_answer new place)
  unfolding found_move
  denied_steps place kind is (BadName bad named same) kept =
      refuse_steps place is IncludeName (own_kind _ refl) (subst (λ (s : S). SourcesCalled g false false old.sources s) (sym same) (not_called g old.sources)) (subst KeepsKind named kept)
      (λ t. bad_comes bad)
  denied_steps place kind is (Full good full named same) kept =
      let slots = ready.sound.slots in
      refuse_steps place is TooManyIncludes (own_kind _ refl) (subst (λ (s : S). SourcesCalled g false false old.sources s) (sym same) (not_called g old.sources)) (subst KeepsKind named kept)
      (λ t. named_comes 0 _ good (omega arith) refl)
  denied_steps place kind is (SearchFault fault named s) kept = finds_as fault s place is (subst KeepsKind named kept)

  -- a source is opened
  pub entered_steps : (found : Found R) → Searches g old name_of mid.sources (Ok found) → new ≡ included_engine found stop mid → UncutStep g old new (silent_answer new None)
  unfolding source_rules rules_of find_of lookup_of found_move
  entered_steps found s enters =
      steps None (Enters (origin_line (run_rules g old) found.path.bytes 1) (own g old ready live some plain) found.path.bytes (g.unread found.reader)) s.call
      (λ t. searched_comes (Ok found) (Source found.path.bytes (g.unread found.reader)) s (ap lookup_of (s.answers t)))
      (record {
        done = refl;
        name = name_of;
        found = found;
        searches = s;
        writes = refl;
        admits = record {
          live = live;
          own = refl;
          path_is = refl;
          text_is = refl;
          tokens = refl;
          same = same_used old.limits old.table.macros old.conditions old.files.include_stack stop;
        };
        becomes = enters;
      })

-- a search that was made
pub searches_by : {S R : Type 0} (g : Ghosts S R) (e : EngineView S R) (from given name : List ℕ) (new : S) (answer : Result (Found R) SourceFault) → given ≡ name → from ≡ inner_path e.files.include_stack
    → is_bad_name name ≡ false → length e.files.include_stack < e.files.slots → (g.has_known_texts e.sources → Finds g.unread ((g.catalog e.sources).find from given) answer)
    → Counts (is_device answer) (g.failures e.sources) (g.failures new) → Counts (is_no_memory answer) (g.refusals e.sources) (g.refusals new) → (g.has_known_texts e.sources → g.has_known_texts new) → g.catalog new ≡ g.catalog e.sources
    → Searches g e name new answer
searches_by {S} {R} g e from given name new answer same path good room answers failures refusals has_known_texts catalog = record {
  name_good = good;
  room = room;
  answers = λ t. rw (← same, ← path) (answers t);
  call = record { failures = failures; refusals = refusals; has_known_texts = has_known_texts; catalog = catalog };
}

-- a source that was opened after an `include` that was used
pub included_by : {S R : Type 0} (found : Found R) (stop : ℕ) (old used new : EngineView S R) (pending : PendingView) (files : FilesView R) (below line : ℕ)
    → used ≡ record old { files = record old.files { include_stack = with_inner (consumed_file stop 0) old.files.include_stack } }
    → files ≡ record used.files { include_stack = entered_file found used.limits.source_bytes used.files.line_bytes below line ∷ used.files.include_stack }
    → pending ≡ record used.pending { origin = origin_pending used.origins 1 } → new ≡ record used { pending = pending; files = files }
    → old.pending ≡ nothing_pending → below ≡ length used.conditions.open_now → line ≡ (inner_buffer old.files.include_stack).line → new ≡ included_engine found stop old
unfolding included_engine nothing_pending
included_by found stop old used new pending files below line uses enters queues is nothing around here = rw (is, queues, enters, around, here, uses, nothing) refl

-- what stands between the quotes of a string
pub name_taken : (string : List ℕ) (end : ℕ) → end ≡ max (length string) 2 → take (end - 1 - 1) (drop 1 string) ≡ unquoted string
unfolding unquoted
name_taken string end is = let same : end - 1 - 1 ≡ length string - 2 = omega arith in ap (λ n. take n (drop 1 string)) same

-- an empty name is bad, and one that isn't UTF-8
pub bad_empty : (name : List ℕ) → (length name == 0) ≡ true → is_bad_name name ≡ true
bad_empty name empty = rw empty refl

pub bad_utf8 : (name : List ℕ) → is_utf8 name ≡ false → is_bad_name name ≡ true
bad_utf8 name wrong = rw wrong (or_right (length name == 0) true refl)

-- any other is good
pub good_name : (name : List ℕ) → (length name == 0) ≡ false → is_utf8 name ≡ true → is_bad_name name ≡ false
good_name name some right = rw (some, right) refl

-- what isn't UTF-8 isn't told as such
pub not_utf8 : (name : List ℕ) → (IsUtf8 name → ⊥) → is_utf8 name ≡ false
not_utf8 name never =
    elim (is_utf8 name) as (λ b. is_utf8 name ≡ b → b ≡ false) [
      | true ↦ λ e. absurd (never (IsUtf8-from_is_utf8 name e))
      | false ↦ λ e. refl
    ] refl

-- The end of the innermost source, as steps of the engine.

-- the macros of a state are those that it is made of
pub include_stack_macros : {R : Type 0} (limits : Limits) (macros : List Macro) (v : ConditionsView) (include_stack : List (File R)) → (include_stack_state limits macros v include_stack).macros ≡ macros
unfolding include_stack_state file_state start_state
include_stack_macros limits macros v [] = refl
include_stack_macros limits macros v (f ∷ outer) = refl

-- what is written after an included source that has ended
ending_of : {R : Type 0} → Rules → List (File R) → List ℕ
ending_of rules [] = []
ending_of rules (f ∷ []) = []
ending_of rules (f ∷ around ∷ outer) = (if f.ends_mid_line then 10 ∷ [] else []) ++ origin_line rules around.name.bytes (shown_line (shift_of around.shift) f.include_line)

-- where an included source has ended, the one around it goes on
include_stack_back : {R : Type 0} (limits : Limits) (rules : Rules) (unread : R → List ℕ) (macros : List Macro) (v : ConditionsView) (live : v.skipped ≡ None) (has_known_texts : Type 0) (t : has_known_texts)
    (include_stack : List (File R)) (new : BufferView R) → 1 < length include_stack → length v.open_now ≡ inner_below include_stack → Fills has_known_texts unread fill.End (inner_buffer include_stack) new → (inner_buffer include_stack).mode ≡ Plain
    → include_stack_left limits rules unread macros v include_stack ≡ after_bytes (ending_of rules include_stack) (include_stack_left limits rules unread macros v (drop 1 include_stack))
unfolding ending_after ending_of ends_mid_line_after
include_stack_back limits rules unread macros v live has_known_texts t [] new inner ended fills plain = absurd (omega arith)
include_stack_back limits rules unread macros v live has_known_texts t (f ∷ []) new inner ended fills plain = absurd (omega arith)
include_stack_back limits rules unread macros v live has_known_texts t (f ∷ around ∷ outer) new inner ended fills plain =
    include_stack_returned limits rules unread macros v live has_known_texts t f around outer new fills plain (sym ended)
    ∙ ap (λ (x : List ℕ). after_bytes ((if ends_mid_line_after f.ends_mid_line x then 10 ∷ [] else []) ++ origin_line rules around.name.bytes (shown_line (shift_of around.shift) f.include_line))
    (include_stack_left limits rules unread macros v (around ∷ outer))) (ended-text has_known_texts unread f.buffer new fills t)

-- what is pending is that
pending_ending : {R : Type 0} (c : Catalog) (limits : Limits) (origins : Bool) (include_stack : List (File R)) → 1 < length include_stack
    → pending_bytes (inner_name (drop 1 include_stack)) (pending_after origins include_stack) ≡ ending_of (source_rules c limits origins) include_stack
unfolding pending_after ending_of
pending_ending c limits origins [] inner = absurd (omega arith)
pending_ending c limits origins (f ∷ []) inner = absurd (omega arith)
pending_ending c limits origins (f ∷ around ∷ outer) inner = pending_ends_mid_line c limits origins around.name.bytes f.ends_mid_line (shown_line (shift_of around.shift) f.include_line)

-- one LF at most
ends_mid_line_few : (ends_mid_line : Bool) → (if ends_mid_line then 1 else 0) ≤ 1
ends_mid_line_few true = omega arith
ends_mid_line_few false = omega arith

-- it can be counted
pending_after-few : {R : Type 0} (origins : Bool) (include_stack : List (File R)) → pending_pieces (pending_after origins include_stack) < 2 ^ 31
unfolding pending_after nothing_pending pending_pieces origin_pieces
pending_after-few origins [] = omega arith
pending_after-few origins (f ∷ []) = omega arith
pending_after-few origins (f ∷ around ∷ outer) =
    let few = ends_mid_line_few f.ends_mid_line in pending_few origins (if f.ends_mid_line then 1 else 0) (shown_line (shift_of around.shift) f.include_line) (omega arith)

-- what is pending and what is left are the same where the innermost source has another buffer
pending_same : {R : Type 0} (origins : Bool) (b : BufferView R) (include_stack : List (File R)) → pending_after origins (with_buffer b include_stack) ≡ pending_after origins include_stack
unfolding pending_after
pending_same origins b [] = refl
pending_same origins b (f ∷ []) = refl
pending_same origins b (f ∷ around ∷ outer) = refl

marks_same : {R : Type 0} (m : MarksView) (b : BufferView R) (include_stack : List (File R)) → marks_after (with_buffer b include_stack) m ≡ marks_after include_stack m
unfolding marks_after
marks_same m b [] = refl
marks_same m b (f ∷ []) = refl
marks_same m b (f ∷ around ∷ outer) = refl

drop_same : {R : Type 0} (b : BufferView R) (include_stack : List (File R)) → drop 1 (with_buffer b include_stack) ≡ drop 1 include_stack
drop_same b [] = refl
drop_same b (f ∷ outer) = refl

-- the end of the innermost source
module _ {S R : Type 0} (g : Ghosts S R) (old mid new : EngineView S R) (ready : IsReady old) (r : IsRead g old mid) (bounded : IsBounded new)
    (fills : Fills (g.has_known_texts old.sources) g.unread fill.End (inner_buffer old.files.include_stack) (inner_buffer mid.files.include_stack))
    (call : SourcesCalled g false false old.sources mid.sources) where
  -- the same conditionals are open, and around the innermost source
  same_below : inner_below mid.files.include_stack ≡ inner_below old.files.include_stack
  same_below =
      ap (λ (fs : FilesView R). inner_below fs.include_stack) r.only ∙ inner_below-same (λ f. record f { buffer = inner_buffer mid.files.include_stack }) old.files.include_stack (λ f. refl)

  same_open : mid.conditions ≡ old.conditions
  same_open = ap (λ e. e.conditions) r.becomes

  -- as many sources
  same_size : length mid.files.include_stack ≡ length old.files.include_stack
  same_size = ap (λ (fs : FilesView R). length fs.include_stack) r.only ∙ with_inner-length (λ f. record f { buffer = inner_buffer mid.files.include_stack }) old.files.include_stack

  -- and none of its own conditionals
  same_ended : length mid.conditions.open_now ≡ inner_below mid.files.include_stack → length old.conditions.open_now ≡ inner_below old.files.include_stack
  same_ended none = sym (ap (λ (v : ConditionsView). length v.open_now) same_open) ∙ none ∙ same_below

  ended_text : Closes mid new → UncutStep g old new (Ok None)
  unfolding state_of
  ended_text c =
      let becomes = c.becomes in
      let plain = c.mode in
      let one : length old.files.include_stack ≤ 1 = (let few = c.alone in let size = same_size in omega arith) in
      let files : FilesView R = record mid.files { include_stack = [] } in
      let table : new.table ≡ old.table = ap (λ e. e.table) becomes ∙ ap (λ e. e.table) r.becomes in
      let sources : new.sources ≡ mid.sources = ap (λ e. e.sources) becomes in
      let closes : FilesView R → S → EngineView S R = λ fs s. record old { phase = Closed; files = fs; sources = s } in
      let ends : new ≡ record old { phase = Closed; files = new.files; sources = new.sources } =
      becomes ∙ (ap (λ (m : EngineView S R). record m { phase = Closed; files = files }) r.becomes
      ∙ (ap (λ (fs : FilesView R). closes fs mid.sources) (sym (ap (λ e. e.files) becomes)) ∙ ap (λ (s : S). closes new.files s) (sym sources))) in
      let P : S → Type 0 = λ s. SourcesCalled g false false old.sources s in
      walks_end g old new ready.free ready.open_ bounded ends ready.pending ready.idle (subst P (sym sources) call)
      (λ t. record {
        last = include_stack_state old.limits old.table.macros old.conditions old.files.include_stack;
        text = text_drained g old ready.pending ready.idle
            ∙ include_stack_ended old.limits (run_rules g old) g.unread old.table.macros old.conditions (g.has_known_texts old.sources) t old.files.include_stack (inner_buffer mid.files.include_stack)
            ready.include_stack one (same_ended c.ended) fills (sym fills.mode ∙ plain);
        macros = include_stack_macros old.limits old.table.macros old.conditions old.files.include_stack ∙ ap (λ t. t.macros) (sym table);
        closed = ap (λ e. e.files.include_stack) becomes;
      })

  ended_open : StopsOpen mid new → UncutStep g old new (halted_answer new Fault)
  unfolding state_of
  ended_open stops =
      let b = inner_buffer mid.files.include_stack in
      let before = inner_buffer old.files.include_stack in
      let tokens : ended_tokens before.mode before.open_token_line ≡ ended_tokens b.mode b.open_token_line =
      rw (fills.mode, fills.open_token_line) refl in
      refuses g old mid new Fault (breach_kind stops.breach) b.open_token_line [] ready r bounded refl stops.kept stops.own call
      (λ t. include_stack_open old.limits (run_rules g old) g.unread old.table.macros old.conditions (g.has_known_texts old.sources) t old.files.include_stack b stops.breach ready.include_stack fills
      (tokens ∙ (stops.tokens ∙ ap (only_broken stops.breach) fills.open_token_line))
      ∙ rw fills.open_token_line refl)

  ended_unclosed : StopsUnclosed mid new → UncutStep g old new (halted_answer new Fault)
  unfolding state_of
  ended_unclosed stops =
      let o = stops.conditional in
      let below = stops.below in
      let same = same_below in
      refuses_by g old mid new Fault (unclosed_fault o.line) (λ s. (own_kind _ refl)) ready r bounded refl stops.kept call
      (λ t. unclosed_at old.limits (run_rules g old) g.unread old.table.macros old.conditions (g.has_known_texts old.sources) t old.files.include_stack (inner_buffer mid.files.include_stack) o stops.around ready.include_stack
      (sym (ap (λ (v : ConditionsView). v.open_now) same_open) ∙ stops.is_open) (omega arith) fills (sym fills.mode ∙ stops.plain))

  -- an included source has ended: the one around it goes on
  ended_back : Returns mid new → UncutStep g old new (Ok (Some []))
  unfolding left_engine after_bytes
  ended_back back =
      let b = inner_buffer mid.files.include_stack in
      let before = old.files.include_stack in
      let inner : 1 < length before = (let some = back.inner in let size = same_size in omega arith) in
      let ended = same_ended back.ended in
      let live : old.conditions.skipped ≡ None = conditions_live old.limits old.conditions before ended ready.sound.conditions_of in
      let pending = pending_after old.origins before in
      let marks = marks_after before old.marks in
      let leaves_as : FilesView R → EngineView S R = λ fs. record old { pending = pending_after old.origins fs.include_stack; marks = marks_after fs.include_stack old.marks; files = record fs { include_stack = drop 1 fs.include_stack }; sources = mid.sources } in
      let by : PendingView → MarksView → List (File R) → EngineView S R = λ o m ns. record old { pending = o; marks = m; files = record old.files { include_stack = ns }; sources = mid.sources } in
      let becomes : new ≡ by pending marks (drop 1 before) =
      back.becomes ∙ (ap left_engine r.becomes ∙ (ap leaves_as r.only
      ∙ (ap (λ (o : PendingView). by o (marks_after (with_buffer b before) old.marks) (drop 1 (with_buffer b before))) (pending_same old.origins b before)
      ∙ (ap (λ (m : MarksView). by pending m (drop 1 (with_buffer b before))) (marks_same old.marks b before) ∙ ap (by pending marks) (drop_same b before))))) in
      let few = ready.files.few in
      let slots = ready.sound.slots in
      subst (λ (e : EngineView S R). UncutStep g old e (Ok (Some []))) (sym becomes)
      (lends_by g old ready [] pending marks old.table.macros old.conditions (drop 1 before) mid.sources (subst IsBounded becomes bounded)
      (left_falls old (by pending marks (drop 1 before)) refl ready.idle ready.idle refl ready.include_stack (omega arith) (pending_after-few old.origins before)) call
      (λ t. include_stack_back old.limits (run_rules g old) g.unread old.table.macros old.conditions live (g.has_known_texts old.sources) t before b inner ended fills (sym fills.mode ∙ back.mode)
      ∙ ap (λ (x : List ℕ). after_bytes x (left_by g old old.table.macros old.conditions (drop 1 before))) (sym (pending_ending (g.catalog old.sources) old.limits old.origins before inner)))
      (λ t. parts_around g.unread before (g.catalog old.sources)) (Nowhere refl (InSources ready.idle refl (AfterSource refl))))

  pub ended_steps : (place : Option Halt) → Ends mid new place → UncutStep g old new (silent_answer new place)
  ended_steps None ends = ended_back ends
  ended_steps (Some End) ends = ended_text ends
  ended_steps (Some Fault) (inl ends) = ended_open ends
  ended_steps (Some Fault) (inr ends) = ended_unclosed ends

-- a text that ended in a mode in which its end is a fault, at a place
pub stops_open : {S R : Type 0} (old new : EngineView S R) (place : Halt) (breach : Breach) (mode : Mode) (line : ℕ) →
    place ≡ Fault → (inner_buffer old.files.include_stack).mode ≡ mode
    → ended_tokens mode (inner_buffer old.files.include_stack).open_token_line ≡ only_broken breach (inner_buffer old.files.include_stack).open_token_line
    → IsOwn (breach_kind breach) → line ≡ (inner_buffer old.files.include_stack).open_token_line →
    new ≡ record old { kept = Some (fault_at (breach_kind breach) line [] (state_of old)) } → Ends old new (Some place)
stops_open {S} {R} old new place breach mode line is at_mode tokens own opened becomes =
    let b = inner_buffer old.files.include_stack in
    let keeps : ℕ → EngineView S R = λ n. record old { kept = Some (fault_at (breach_kind breach) n [] (state_of old)) } in
    subst (λ (p : Halt). Ends old new (Some p)) (sym is) (inl (record {
      breach = breach;
      tokens = ap (λ (m : Mode). ended_tokens m b.open_token_line) at_mode ∙ tokens;
      own = own;
      kept = becomes ∙ ap keeps opened;
    }))

-- what is pending after the innermost of two sources
pub after_two : {R : Type 0} (origins : Bool) (include_stack rest : List (File R)) (f around : File R) → include_stack ≡ f ∷ drop 1 include_stack → drop 1 include_stack ≡ around ∷ rest
    → pending_after origins include_stack ≡ record { line_ends = if f.ends_mid_line then 1 else 0; origin = origin_pending origins (shown_line (shift_of around.shift) f.include_line) }
unfolding pending_after
after_two {R} origins include_stack rest f around first second = ap (pending_after origins) (first ∙ ap (λ (ns : List (File R)). f ∷ ns) second)

-- the numbers of both can be counted
pub line_few : {R : Type 0} (include_stack : List (File R)) (f : File R) → include_stack ≡ f ∷ drop 1 include_stack → AreIncluded include_stack → f.include_line < 2 ^ 63
line_few {R} include_stack f first lines =
    let here : AreIncluded (f ∷ drop 1 include_stack) = subst (λ (ns : List (File R)). AreIncluded ns) first lines in here.0

pub around_few : {R : Type 0} (files : FilesView R) (rest : List (File R)) (f around : File R) → files.include_stack ≡ f ∷ drop 1 files.include_stack → drop 1 files.include_stack ≡ around ∷ rest → AreOpen files
    → around.shift.number < 2 ^ 32
around_few {R} files rest f around first second slots =
    let P : File R → Type 0 = IsSlot files.line_bytes in
    let both : f ∷ around ∷ rest ≡ files.include_stack = sym (first ∙ ap (λ (ns : List (File R)). f ∷ ns) second) in
    (All-head P around rest (All-tail P f (around ∷ rest) (All-same P (f ∷ around ∷ rest) files.include_stack both slots.each))).number

-- an LF is pending at most
pub ends_few : (ends pending : ℕ) (ends_mid_line : Bool) → ends ≡ (if ends_mid_line then 1 else 0) → pending ≡ 0 → pending + ends < 2 ^ 64
ends_few ends pending ends_mid_line is none = let few = ends_mid_line_few ends_mid_line in omega arith

-- what is pending where an included source was left
pub queues_after : {R : Type 0} (origins : Bool) (include_stack rest : List (File R)) (f around : File R) (old mid new : PendingView) (ends shown : ℕ) → include_stack ≡ f ∷ drop 1 include_stack → drop 1 include_stack ≡ around ∷ rest
    → old ≡ nothing_pending → ends ≡ (if f.ends_mid_line then 1 else 0) → shown ≡ shown_line (shift_of around.shift) f.include_line
    → mid ≡ record old { line_ends = old.line_ends + ends } → new ≡ record mid { origin = origin_pending origins shown } → new ≡ pending_after origins include_stack
unfolding nothing_pending
queues_after origins include_stack rest f around old mid new ends shown first second nothing ends_mid_line line adds asks =
    let none : old.line_ends ≡ 0 = ap (λ o. o.line_ends) nothing in
    let count : mid.line_ends ≡ old.line_ends + ends = ap (λ o. o.line_ends) adds in
    let exact : mid.line_ends ≡ (if f.ends_mid_line then 1 else 0) = omega arith in
    let makes : ℕ → ℕ → PendingView = λ n m. record { line_ends = n; origin = origin_pending origins m } in
    asks ∙ (ap (λ (n : ℕ). makes n shown) exact ∙ (ap (makes (if f.ends_mid_line then 1 else 0)) line ∙ sym (after_two origins include_stack rest f around first second)))

-- and its mark
pub marks_two : {R : Type 0} (include_stack rest : List (File R)) (f around : File R) (m : MarksView) (ends shown : ℕ) (name : List ℕ) → include_stack ≡ f ∷ drop 1 include_stack → drop 1 include_stack ≡ around ∷ rest
    → ends ≡ (if f.ends_mid_line then 1 else 0) → shown ≡ shown_line (shift_of around.shift) f.include_line → name ≡ around.name.bytes → ends_line ends name shown m ≡ marks_after include_stack m
unfolding marks_after
marks_two {R} include_stack rest f around m ends shown name first second ends_mid_line line named =
    rw (ends_mid_line, line, named) (sym (ap (λ (ns : List (File R)). marks_after ns m) (first ∙ ap (λ (ns : List (File R)). f ∷ ns) second)))
