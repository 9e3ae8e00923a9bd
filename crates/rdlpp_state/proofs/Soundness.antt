-- What always holds of an engine, as its sources and their conditionals change.
use Rattle.std.proofs.Common.{◌≡◌, List, [], ap, ℕ, ◌≤◌, ◌<◌, true, false, ◌∷◌, ◌^◌, None, length, drop, refl, sym, subst, ◌∙◌, arith, zero, suc, ◌+◌, ◌-◌, Bool, take, Option, Some, Result, Ok, Err, unwrap_or, All, length-drop, take_all}
use Rattle.std.proofs.lemmas.List.{nil_from_length}
use Rattle.std.proofs.lemmas.List.Elements.{All-head, All-same, All-tail}
use Rattle.rdlpp_scan.specs.declared.token.Directive.{Directive}
use Rattle.rdlpp_scan.specs.declared.token.Mode.TheVariants.{Plain}
use Rattle.rdlpp_define.specs.Macros.{Macro}
use Rattle.rdlpp_define.specs.Table.{table_size, TableView}
use Rattle.rdlpp_define.specs.declared.limits.Limits.{Limits}
use Rattle.rdlpp_meaning.specs.Moves.{in_branch}
use Rattle.rdlpp_meaning.specs.Meaning.{Holds, Passage, Progress, after_bytes, goes_on, leaves, opening_within}
use Rattle.rdlpp_meaning.specs.OpenItems.{open_left}
use Rattle.rdlpp_meaning.specs.Opens.{Open as OpenText, Texts}
use Rattle.rdlpp_meaning.specs.Outcome.{gives}
use Rattle.rdlpp_meaning.specs.Resumed.{Place, Skipped}
use Rattle.rdlpp_meaning.specs.State.{Rules, State, fault_at, shown_line}
use Rattle.rdlpp_meaning.specs.declared.fault.FaultKind.{FaultKind}
use Rattle.rdlpp_meaning.specs.declared.fault.FaultKind.TheVariants.{StrayBranch}
use Rattle.rdlpp_source.specs.declared.sources.Sources.{Ghosts}
use Rattle.rdlpp_texts.specs.Places.{texts_of}
use Rattle.rdlpp_texts.specs.Steps.{AreSound}
use Rattle.rdlpp_read.specs.Conditions.{ConditionsView, conditions_left as left_open, place_of}
use Rattle.rdlpp_read.specs.ConditionMoves.{Closes, IsBranch, IsDone, IsTurn, IsUnclosed, closed_one, opened_with, opening_answer, skipped_by, turned_open, turned_with, with_count}
use Rattle.rdlpp_read.specs.declared.conditions.Branch.{Branch}
use Rattle.rdlpp_read.specs.declared.conditions.Branch.TheVariants.{Inner, Refused}
use Rattle.rdlpp_read.specs.Buffer.{BufferView, EndsHeld, IsBuffer, unused_of}
use Rattle.rdlpp_read.specs.Files.{AreOpen, FilesView, IsSlot, consumed_file, inner_buffer, shift_of, with_buffer, with_inner}
use Rattle.rdlpp_read.specs.declared.files.File.{File}
use Rattle.rdlpp_usages.specs.Usages.{ExpansionView, texts_left}
use Rattle.rdlpp_state.specs.Conditionals.{unclosed_fault}
use Rattle.rdlpp_state.specs.Engine.{AreIncluded, AreOpenTexts, EngineView, IsSoundEngine, IsWholeEngine, is_open}
use Rattle.rdlpp_state.specs.Moves.{Ends}
use Rattle.rdlpp_state.specs.OpenConditionals.{AreBelow, AreConditions, inner_below}
use Rattle.rdlpp_state.specs.Pending.{pending_bytes}
use Rattle.rdlpp_state.specs.Remaining.{file_state, inner_name, include_stack_left, include_stack_state, run_rules, state_of, text_of}
use Rattle.rdlpp_state.specs.declared.phase.Phase.{Phase}
use Rattle.rdlpp_state.specs.declared.phase.Phase.TheVariants.{Closed, Fresh, Open, OverLimit}
use Rattle.rdlpp_state.specs.declared.place.Halt.{Halt}
use Rattle.rdlpp_state.specs.declared.place.Halt.TheVariants.{Fault}
use Rattle.rdlpp_state.proofs.IncludeStackLeft.{Deep, Inside, Outside, Standing, conditions_closed, conditions_inner, conditions_left, conditions_live, conditions_none, conditions_opened, place_inside, place_outside, place_skipped, standing}

-- Where no text of a usage is open, the text goes on in the open sources.

-- nothing remains of no text
pub silent_texts : (rules : Rules) (s : State) (macros : List Macro) (x : ExpansionView) (p : Passage) → x.opens ≡ [] → goes_on (texts_left rules s macros x) (λ after. p) ≡ p
unfolding texts_left goes_on leaves open_left gives after_bytes
silent_texts rules s macros x p idle =
    ap (λ (os : List OpenText). goes_on (leaves (open_left rules s x.line x.depth (texts_of macros x.arguments) os) s) (λ after. p)) idle

-- no text is sound
pub none_sound : (texts : Texts) (opens : List OpenText) → opens ≡ [] → AreSound texts opens
none_sound texts opens none = rw none (record { are_open = tt; are_inside = tt; are_kept = tt })

-- what remains of the text where no text of a usage is open
pub text_idle : {S R : Type 0} (g : Ghosts S R) (e : EngineView S R) → e.expansion.opens ≡ []
    → text_of g e ≡ after_bytes (pending_bytes (inner_name e.files.include_stack) e.pending) (include_stack_left e.limits (run_rules g e) g.unread e.table.macros e.conditions e.files.include_stack)
unfolding text_of
text_idle g e idle =
    ap (after_bytes (pending_bytes (inner_name e.files.include_stack) e.pending))
    (silent_texts (run_rules g e) (state_of e) e.table.macros e.expansion (include_stack_left e.limits (run_rules g e) g.unread e.table.macros e.conditions e.files.include_stack) idle)

-- What always holds of an engine, as its open sources change.

-- as many sources are open where the innermost changes
pub with_inner-length : {R : Type 0} (change : File R → File R) (include_stack : List (File R)) → length (with_inner change include_stack) ≡ length include_stack
with_inner-length change [] = refl
with_inner-length change (f ∷ outer) = refl

-- how many conditionals are open around a source, and the line of its `include`
abbrev pub surroundings : {R : Type 0} → File R → ℕ × ℕ
surroundings f = (f.conditions_below, f.include_line)

-- the lines of the includes are the same where the innermost source changes
lines_inner : {R : Type 0} (change : File R → File R) (include_stack : List (File R)) → ((f : File R) → (change f).include_line ≡ f.include_line) → AreIncluded include_stack → AreIncluded (with_inner change include_stack)
lines_inner change [] same lines = tt
lines_inner change (f ∷ outer) same lines = rw (same f) lines

-- an engine of whose open sources the innermost changes
pub sound_inner : {R : Type 0} (limits : Limits) (phase : Phase) (table : TableView) (files new : FilesView R) (v : ConditionsView) (change : File R → File R)
    → IsSoundEngine limits phase table files v → new ≡ record files { include_stack = with_inner change files.include_stack } → ((f : File R) → surroundings (change f) ≡ surroundings f)
    → unused_of (inner_buffer (with_inner change files.include_stack)) ≤ unused_of (inner_buffer files.include_stack) → IsSoundEngine limits phase table new v
sound_inner {R} limits phase table files new v change s becomes same less = grind (arith, with_inner-length, lines_inner, conditions_inner, nil_from_length)

-- no more bytes of the innermost source aren't used where bytes of it are used
pub used_less : {R : Type 0} (len lines : ℕ) (include_stack : List (File R)) → unused_of (inner_buffer (with_inner (consumed_file len lines) include_stack)) ≤ unused_of (inner_buffer include_stack)
unfolding unused_of
used_less len lines [] = omega arith
used_less len lines (f ∷ outer) = omega arith

-- nor where it has another buffer with no more of them
pub buffer_less : {R : Type 0} (b : BufferView R) (include_stack : List (File R)) → unused_of b ≤ unused_of (inner_buffer include_stack) → unused_of (inner_buffer (with_buffer b include_stack)) ≤ unused_of (inner_buffer include_stack)
buffer_less b [] less = omega arith
buffer_less b (f ∷ outer) less = less

-- nor where its buffer stays
pub shown_less : {R : Type 0} (change : File R → File R) (include_stack : List (File R)) → ((f : File R) → (change f).buffer ≡ f.buffer)
    → unused_of (inner_buffer (with_inner change include_stack)) ≤ unused_of (inner_buffer include_stack)
shown_less change [] same = omega arith
shown_less change (f ∷ outer) same = rw (same f) (omega arith)

-- what is left where one source was open
pub left_alone : {R : Type 0} (include_stack : List (File R)) → length include_stack ≤ 1 → drop 1 include_stack ≡ []
left_alone (f ∷ g ∷ outer) few = absurd (omega arith)
left_alone _ few = refl

-- an engine whose main text was closed
pub sound_closed : {R : Type 0} (limits : Limits) (phase : Phase) (table : TableView) (files new : FilesView R) (v : ConditionsView)
    → IsSoundEngine limits phase table files v → 0 < length files.include_stack → length files.include_stack ≤ 1 → length v.open_now ≡ inner_below files.include_stack → new ≡ record files { include_stack = drop 1 files.include_stack } → IsSoundEngine limits Closed table new v
unfolding is_open
sound_closed limits phase table files new v s some alone ended becomes =
    let none = left_alone files.include_stack alone in
    rw (becomes, none) (record {
      in_range = s.in_range;
      definition_bytes = s.definition_bytes;
      definitions = s.definitions;
      size = s.size;
      slots = s.slots;
      line_bytes = s.line_bytes;
      lines = tt;
      conditions_of = conditions_closed limits v files.include_stack some alone ended s.conditions_of;
      open_ = λ o. cc;
      closed = λ c. refl;
    })

-- no source and no conditional is open before the start
pub fresh_include_stack : {R : Type 0} (limits : Limits) (phase : Phase) (table : TableView) (files : FilesView R) (v : ConditionsView) → IsSoundEngine limits phase table files v → phase ≡ Fresh → files.include_stack ≡ []
unfolding is_open
fresh_include_stack limits phase table files v s fresh = s.closed (ap is_open fresh)

pub fresh_open : {R : Type 0} (limits : Limits) (phase : Phase) (table : TableView) (files : FilesView R) (v : ConditionsView) → IsSoundEngine limits phase table files v → phase ≡ Fresh → v.open_now ≡ []
fresh_open limits phase table files v s fresh = conditions_none limits v files.include_stack (fresh_include_stack limits phase table files v s fresh) s.conditions_of

-- what holds of the innermost source
pub record IsInner {R : Type 0} (files : FilesView R) : Type 0 where
  pub buffer : IsBuffer (inner_buffer files.include_stack)
  pub ends : EndsHeld (inner_buffer files.include_stack)
  pub size : (inner_buffer files.include_stack).line_bytes ≡ files.line_bytes

inner_of : {R : Type 0} (include_stack : List (File R)) (slots line_bytes : ℕ) → 0 < length include_stack → AreOpen (record { include_stack = include_stack; slots = slots; line_bytes = line_bytes })
    → IsInner (record { include_stack = include_stack; slots = slots; line_bytes = line_bytes })
inner_of [] slots line_bytes some open_ = absurd (omega arith)
inner_of (f ∷ outer) slots line_bytes some open_ =
    let slot : IsSlot line_bytes f = All-head (IsSlot line_bytes) f outer open_.each in
    record { buffer = slot.buffer; ends = slot.ends; size = slot.size }

pub inner_facts : {R : Type 0} (files : FilesView R) → 0 < length files.include_stack → AreOpen files → IsInner files
inner_facts files some open_ = inner_of files.include_stack files.slots files.line_bytes some open_

-- its shown numbers can be counted
pub inner_number : {R : Type 0} (files : FilesView R) (f : File R) (outer : List (File R)) → files.include_stack ≡ f ∷ outer → AreOpen files → f.shift.number < 2 ^ 32
inner_number files f outer is open_ = (All-head (IsSlot files.line_bytes) f outer (All-same (IsSlot files.line_bytes) (f ∷ outer) files.include_stack (sym is) open_.each)).number

-- a fault of the innermost source, under its name and its shown line
pub told_first : {R : Type 0} (limits : Limits) (macros : List Macro) (v : ConditionsView) (include_stack : List (File R)) (f : File R) (outer : List (File R)) (kind : FaultKind) (line : ℕ) (word : List ℕ)
    → include_stack ≡ f ∷ outer → length word ≤ 128
    → fault_at kind line word (include_stack_state limits macros v include_stack) ≡ record { kind = kind; name = f.name.bytes; line = shown_line (shift_of f.shift) line; word = word }
unfolding fault_at include_stack_state file_state
told_first limits macros v include_stack f outer kind line word is short = rw (is, take_all 128 word short) refl

-- an engine whose main text was opened
pub sound_opened : {R : Type 0} (limits : Limits) (phase : Phase) (table : TableView) (files new : FilesView R) (v : ConditionsView) (f : File R)
    → IsSoundEngine limits phase table files v → files.include_stack ≡ [] → new ≡ record files { include_stack = f ∷ files.include_stack } → f.conditions_below ≡ 0 → f.include_line ≡ 0 → unused_of f.buffer < 2 ^ 31 → IsSoundEngine limits Open table new v
unfolding is_open
sound_opened {R} limits phase table files new v f s none becomes below first few = grind (arith, conditions_opened, conditions_live)

-- an engine whose main text couldn't be opened
pub sound_unopened : {R : Type 0} (limits : Limits) (phase : Phase) (table : TableView) (files : FilesView R) (v : ConditionsView)
    → IsSoundEngine limits phase table files v → phase ≡ Fresh → IsSoundEngine limits Closed table files v
unfolding is_open
sound_unopened limits phase table files v s fresh = grind (arith, fresh_include_stack)

-- an engine whose output has passed its limit
pub sound_passed : {R : Type 0} (limits : Limits) (phase : Phase) (table : TableView) (files : FilesView R) (v : ConditionsView)
    → IsSoundEngine limits phase table files v → phase ≡ Open → IsSoundEngine limits OverLimit table files v
unfolding is_open
sound_passed limits phase table files v s was = grind arith

-- what a source may still give can be counted
unused_few : {R : Type 0} (line_bytes : ℕ) (f : File R) → IsSlot line_bytes f → unused_of f.buffer < 2 ^ 31
unfolding unused_of
unused_few line_bytes f slot = let counts = slot.buffer.counts in omega arith

-- the conditionals, where the innermost source is left
conditions_dropped : {R : Type 0} (limits : Limits) (v : ConditionsView) (line_bytes : ℕ) (include_stack : List (File R)) → 1 < length include_stack → All (IsSlot line_bytes) include_stack
    → length v.open_now ≡ inner_below include_stack → AreConditions limits v include_stack → AreConditions limits v (drop 1 include_stack)
conditions_dropped limits v line_bytes [] some each ended s = absurd (omega arith)
conditions_dropped limits v line_bytes (f ∷ []) some each ended s = absurd (omega arith)
conditions_dropped {R} limits v line_bytes (f ∷ g ∷ outer) some each ended s =
    let slot : IsSlot line_bytes g = All-head (IsSlot line_bytes) g outer (All-tail (IsSlot line_bytes) f (g ∷ outer) each) in
    conditions_left limits v f (g ∷ outer) ended (unused_few line_bytes g slot) s

-- and the lines of the includes
lines_dropped : {R : Type 0} (include_stack : List (File R)) → AreIncluded include_stack → AreIncluded (drop 1 include_stack)
lines_dropped [] lines = tt
lines_dropped (f ∷ outer) lines = lines.1

-- an engine that has left an included source
pub sound_left : {R : Type 0} (limits : Limits) (phase : Phase) (table : TableView) (files new : FilesView R) (v : ConditionsView)
    → IsSoundEngine limits phase table files v → AreOpen files → 1 < length files.include_stack → length v.open_now ≡ inner_below files.include_stack → phase ≡ Open
    → new ≡ record files { include_stack = drop 1 files.include_stack } → IsSoundEngine limits phase table new v
unfolding is_open
sound_left {R} limits phase table files new v s slots some ended was becomes =
    let rest = length-drop 1 files.include_stack in
    rw becomes (record {
      in_range = s.in_range;
      definition_bytes = s.definition_bytes;
      definitions = s.definitions;
      size = s.size;
      slots = s.slots;
      line_bytes = s.line_bytes;
      lines = lines_dropped files.include_stack s.lines;
      conditions_of = conditions_dropped limits v files.line_bytes files.include_stack some slots.each ended s.conditions_of;
      open_ = λ o. omega arith;
      closed = λ c. absurd (let no : true ≡ false = sym (ap is_open was) ∙ c in cc);
    })

-- an engine that has opened a source inside of the others
pub sound_entered : {R : Type 0} (limits : Limits) (phase : Phase) (table : TableView) (files new : FilesView R) (v : ConditionsView) (f : File R)
    → IsSoundEngine limits phase table files v → phase ≡ Open → v.skipped ≡ None → new ≡ record files { include_stack = f ∷ files.include_stack }
    → f.conditions_below ≡ length v.open_now → f.include_line < 2 ^ 63 → unused_of f.buffer < 2 ^ 31 → IsSoundEngine limits phase table new v
unfolding is_open
sound_entered {R} limits phase table files new v f s was live becomes below line few = grind (arith, conditions_opened)

-- the open texts of an engine in another phase
texts_phase : (limits : Limits) (phase now : Phase) (macros : List Macro) (x : ExpansionView)
    → AreOpenTexts limits phase macros x → (is_open now ≡ false → x.opens ≡ []) → AreOpenTexts limits now macros x
texts_phase limits phase now macros x t closed = record { depth_is = t.depth_is; most_is = t.most_is; sound = t.sound; line = t.line; closed = closed }

-- those of an engine of which none is open, with other macros
texts_idle : (limits : Limits) (phase : Phase) (macros now : List Macro) (x : ExpansionView)
    → AreOpenTexts limits phase macros x → x.opens ≡ [] → AreOpenTexts limits phase now x
texts_idle limits phase macros now x t idle =
    record { depth_is = t.depth_is; most_is = t.most_is; sound = none_sound (texts_of now x.arguments) x.opens idle; line = t.line; closed = λ c. idle }

module _ {R : Type 0} (limits : Limits) (phase : Phase) (table : TableView) (files : FilesView R) (v : ConditionsView) (x : ExpansionView) (w : IsWholeEngine limits phase table files v x) where
  -- the innermost source changes
  pub whole_inner : (new : FilesView R) (change : File R → File R) → new ≡ record files { include_stack = with_inner change files.include_stack } → ((f : File R) → surroundings (change f) ≡ surroundings f)
      → unused_of (inner_buffer (with_inner change files.include_stack)) ≤ unused_of (inner_buffer files.include_stack) → IsWholeEngine limits phase table new v x
  whole_inner new change becomes below less = record { sources = sound_inner limits phase table files new v change w.sources becomes below less; texts = w.texts }

  -- the main text is closed
  pub whole_closed : (new : FilesView R) → 0 < length files.include_stack → length files.include_stack ≤ 1 → length v.open_now ≡ inner_below files.include_stack → new ≡ record files { include_stack = drop 1 files.include_stack } → x.opens ≡ [] → IsWholeEngine limits Closed table new v x
  whole_closed new some alone ended becomes idle = record { sources = sound_closed limits phase table files new v w.sources some alone ended becomes; texts = texts_phase limits phase Closed table.macros x w.texts (λ c. idle) }

  -- the main text is opened
  pub whole_opened : (new : FilesView R) (f : File R) → files.include_stack ≡ [] → new ≡ record files { include_stack = f ∷ files.include_stack } → f.conditions_below ≡ 0 → f.include_line ≡ 0 → unused_of f.buffer < 2 ^ 31
      → IsWholeEngine limits Open table new v x
  unfolding is_open
  whole_opened new f none becomes below first few =
      record { sources = sound_opened limits phase table files new v f w.sources none becomes below first few; texts = texts_phase limits phase Open table.macros x w.texts (λ c. cc) }

  -- or can't be
  pub whole_unopened : phase ≡ Fresh → IsWholeEngine limits Closed table files v x
  unfolding is_open
  whole_unopened fresh =
      record { sources = sound_unopened limits phase table files v w.sources fresh; texts = texts_phase limits phase Closed table.macros x w.texts (λ c. w.texts.closed (ap is_open fresh)) }

  -- the output has passed its limit
  pub whole_passed : phase ≡ Open → IsWholeEngine limits OverLimit table files v x
  unfolding is_open
  whole_passed was = record { sources = sound_passed limits phase table files v w.sources was; texts = texts_phase limits phase OverLimit table.macros x w.texts (λ c. cc) }

  -- an included source is left
  pub whole_left : (new : FilesView R) → AreOpen files → 1 < length files.include_stack → length v.open_now ≡ inner_below files.include_stack → phase ≡ Open → new ≡ record files { include_stack = drop 1 files.include_stack }
      → IsWholeEngine limits phase table new v x
  whole_left new slots some ended was becomes =
      record { sources = sound_left limits phase table files new v w.sources slots some ended was becomes; texts = w.texts }

  -- a source is opened inside of the others
  pub whole_entered : (new : FilesView R) (f : File R) → phase ≡ Open → v.skipped ≡ None → new ≡ record files { include_stack = f ∷ files.include_stack }
      → f.conditions_below ≡ length v.open_now → f.include_line < 2 ^ 63 → unused_of f.buffer < 2 ^ 31 → IsWholeEngine limits phase table new v x
  whole_entered new f was live becomes below line few =
      record { sources = sound_entered limits phase table files new v f w.sources was live becomes below line few; texts = w.texts }

  -- the table has other macros, and no text is open
  pub whole_table : (new : TableView) → new.most_bytes ≡ table.most_bytes → new.most_macros ≡ table.most_macros → table_size new.macros ≤ new.most_bytes → x.opens ≡ []
      → IsWholeEngine limits phase new files v x
  whole_table new bytes count size idle = grind (arith, texts_idle)

  -- a usage is opened, or bytes of the innermost source are used for one that isn't
  pub whole_usage : (new : FilesView R) (now : ExpansionView) (change : File R → File R) → phase ≡ Open → new ≡ record files { include_stack = with_inner change files.include_stack } → ((f : File R) → surroundings (change f) ≡ surroundings f)
      → unused_of (inner_buffer (with_inner change files.include_stack)) ≤ unused_of (inner_buffer files.include_stack)
      → now.depth ≡ x.depth → now.most ≡ x.most → AreSound (texts_of table.macros now.arguments) now.opens → now.line < 2 ^ 63 → IsWholeEngine limits phase table new v now
  unfolding is_open
  whole_usage new now change was becomes below less depth most sound line = grind (arith, sound_inner)

-- no text of a usage is open before the start
pub fresh_texts : (limits : Limits) (phase : Phase) (macros : List Macro) (x : ExpansionView) → AreOpenTexts limits phase macros x → phase ≡ Fresh → x.opens ≡ []
unfolding is_open
fresh_texts limits phase macros x t fresh = t.closed (ap is_open fresh)

-- What always holds of an engine, as conditionals open, branch and close; and what a branch and an end of them meet.

-- no more are open around the innermost source than are open
pub inner_most : {R : Type 0} (limits : Limits) (v : ConditionsView) (include_stack : List (File R)) → AreConditions limits v include_stack → inner_below include_stack ≤ length v.open_now
inner_most limits v [] s = omega arith
inner_most limits v (f ∷ outer) s = s.below.0

-- so many stay open around the innermost source
below_by : {R : Type 0} (most less : ℕ) (include_stack : List (File R)) → 0 < length include_stack → inner_below include_stack ≤ less → AreBelow most include_stack → AreBelow less include_stack
below_by most less [] some within below = absurd (omega arith)
below_by most less (f ∷ outer) some within below = (within, below.1)

-- other conditionals are open in the innermost source
pub conditions_by : {R : Type 0} (limits : Limits) (v w : ConditionsView) (include_stack : List (File R)) → 0 < length include_stack → AreConditions limits v include_stack → w.limit ≡ v.limit → length w.open_now ≤ v.limit
    → inner_below include_stack ≤ length w.open_now → ((n : ℕ) → w.skipped ≡ Some n → inner_below include_stack < length w.open_now) → unwrap_or w.skipped 0 + unused_of (inner_buffer include_stack) < 2 ^ 31 → AreConditions limits w include_stack
conditions_by limits v w include_stack some s limit few within own counted = grind (arith, below_by)

-- none opened in skipped text where a test was answered
skipped_none : (holds : Bool) → unwrap_or (skipped_by holds) 0 ≡ 0
unfolding skipped_by
skipped_none true = refl
skipped_none false = refl

-- a branch leaves as many open
turned_len : (word : Directive) (holds : Bool) (os : List Progress) → length (turned_open word holds os) ≡ length os
unfolding turned_open
turned_len word holds [] = refl
turned_len word holds (o ∷ os) = refl

-- one fewer
fewer_len : (os : List Progress) → length (drop 1 os) ≡ length os - 1
fewer_len [] = refl
fewer_len (o ∷ os) = omega arith

module _ {R : Type 0} (limits : Limits) (v : ConditionsView) (include_stack : List (File R)) (some : 0 < length include_stack) (s : AreConditions limits v include_stack) where
  -- one more is opened
  pub conditions_one : (line : ℕ) (holds : Bool) → length v.open_now < v.limit → AreConditions limits (opened_with line holds v) include_stack
  conditions_one line holds room = grind (arith, inner_most, skipped_none, conditions_by)

  module _ (own : inner_below include_stack < length v.open_now) where
    -- a branch of the innermost
    pub conditions_turned : (word : Directive) (holds : Bool) → AreConditions limits (turned_with word holds v) include_stack
    conditions_turned word holds =
        let same = turned_len word holds v.open_now in
        let none = skipped_none holds in
        let few = s.counted in
        let most = s.few in
        conditions_by limits v (turned_with word holds v) include_stack some s refl (omega arith) (omega arith) (λ n e. omega arith) (omega arith)

    -- its end
    pub conditions_fewer : AreConditions limits (closed_one v) include_stack
    conditions_fewer =
        let fewer = fewer_len v.open_now in
        let few = s.counted in
        let most = s.few in
        conditions_by limits v (closed_one v) include_stack some s refl (omega arith) (omega arith) (λ n e. absurd (cc)) (omega arith)

    -- another count of those that opened in skipped text
    pub conditions_count : (n : ℕ) → n + unused_of (inner_buffer include_stack) < 2 ^ 31 → AreConditions limits (with_count n v) include_stack
    conditions_count n counted =
        let most = s.few in
        conditions_by limits v (with_count n v) include_stack some s refl (omega arith) (omega arith) (λ m e. own) counted

-- the name that the innermost source shows is the state's
pub named_state : {R : Type 0} (limits : Limits) (macros : List Macro) (v : ConditionsView) (include_stack : List (File R)) (f : File R) (outer : List (File R)) → include_stack ≡ f ∷ outer
    → (include_stack_state limits macros v include_stack).name ≡ f.name.bytes
unfolding include_stack_state file_state
named_state limits macros v include_stack f outer is = rw is refl

-- other conditionals in an engine
pub sound_with : {R : Type 0} (limits : Limits) (phase : Phase) (table : TableView) (files : FilesView R) (v w : ConditionsView) → IsSoundEngine limits phase table files v
    → AreConditions limits w files.include_stack → IsSoundEngine limits phase table files w
sound_with limits phase table files v w s c = grind arith

pub whole_with : {R : Type 0} (limits : Limits) (phase : Phase) (table : TableView) (files : FilesView R) (v w : ConditionsView) (x : ExpansionView) → IsWholeEngine limits phase table files v x
    → AreConditions limits w files.include_stack → IsWholeEngine limits phase table files w x
whole_with limits phase table files v w x s c = record { sources = sound_with limits phase table files v w s.sources c; texts = s.texts }

-- the innermost conditional is the innermost source's own, and what is told of a branch of it is its test
pub record OwnTurn (word : Directive) (branch : Branch) (below : ℕ) (v : ConditionsView) : Type 0 where
  pub live : Bool
  pub conditional : Progress
  pub around : List Progress
  pub is_open : v.open_now ≡ conditional ∷ around
  pub within : below ≤ length around
  pub skips : v.skipped ≡ skipped_by live
  pub turns : IsTurn conditional word branch

-- what a branch meets: no conditional of its source; the innermost one, which is its own; or one that opened in skipped text
pub data Meets (word : Directive) (branch : Branch) (below : ℕ) (v : ConditionsView) : Type 0 where
  MeetsNone : length v.open_now ≡ below → branch ≡ Refused StrayBranch → Meets word branch below v
  MeetsOwn : OwnTurn word branch below v → Meets word branch below v
  MeetsInner : (n : ℕ) (o : Progress) (os : List Progress) → v.open_now ≡ o ∷ os → below ≤ length os → v.skipped ≡ Some (suc n) → branch ≡ Inner → Meets word branch below v

turn_in : (live : Bool) (o : Progress) (os : List Progress) (word : Directive) (branch : Branch) → IsBranch (in_branch live o os) word branch → IsTurn o word branch
unfolding in_branch
turn_in true o os word branch h = h
turn_in false o os word branch h = h

meets_by : (word : Directive) (branch : Branch) (below : ℕ) (v : ConditionsView) → Standing below v → IsBranch (place_of below v) word branch → Meets word branch below v
meets_by word branch below v (Outside alone) h = MeetsNone alone (subst (λ (p : Place). IsBranch p word branch) (place_outside below v alone) h)
meets_by word branch below v (Inside live o os is some skips) h =
    MeetsOwn (record {
      live = live;
      conditional = o;
      around = os;
      is_open = is;
      within = some;
      skips = skips;
      turns = turn_in live o _ word branch (subst (λ (p : Place). IsBranch p word branch) (place_inside below v live o os is some skips) h);
    })
meets_by word branch below v (Deep n o os is some skips) h =
    MeetsInner n o os is some skips (subst (λ (p : Place). IsBranch p word branch) (place_skipped below v (suc n) o os is some skips) h)

pub meets : (word : Directive) (branch : Branch) (below : ℕ) (v : ConditionsView) → below ≤ length v.open_now → IsBranch (place_of below v) word branch → Meets word branch below v
meets word branch below v most h = meets_by word branch below v (standing below v most) h

-- a branch that is decided, or whose name decides
pub own_turn : (word : Directive) (branch : Branch) (below : ℕ) (v : ConditionsView) → Meets word branch below v → (branch ≡ Refused StrayBranch → ⊥) → (branch ≡ Inner → ⊥) → OwnTurn word branch below v
own_turn word branch below v (MeetsNone alone is) stray inner = absurd (stray is)
own_turn word branch below v (MeetsOwn own) stray inner = own
own_turn word branch below v (MeetsInner n o os is_open within skips is) stray inner = absurd (inner is)

pub own_open : (word : Directive) (branch : Branch) (below : ℕ) (v : ConditionsView) → OwnTurn word branch below v → below < length v.open_now
own_open word branch below v own = let size : length v.open_now ≡ suc (length own.around) = ap length own.is_open in let within = own.within in omega arith

-- what an end meets
pub data EndsOne {A : Type 0} (result : Result A FaultKind) (old new : ConditionsView) (below : ℕ) : Type 0 where
  EndsNone : length old.open_now ≡ below → result ≡ Err StrayBranch → new ≡ old → EndsOne result old new below
  EndsOwn : (live : Bool) (o : Progress) (os : List Progress) → old.open_now ≡ o ∷ os → below ≤ length os → old.skipped ≡ skipped_by live → IsDone result → new ≡ closed_one old → EndsOne result old new below
  EndsInner : (n : ℕ) (o : Progress) (os : List Progress) → old.open_now ≡ o ∷ os → below ≤ length os → old.skipped ≡ Some (suc n) → IsDone result → new ≡ with_count n old → EndsOne result old new below

close_in : {A : Type 0} (live : Bool) (o : Progress) (os : List Progress) (result : Result A FaultKind) (old new : ConditionsView) → Closes (in_branch live o os) result old new → IsDone result × (new ≡ closed_one old)
unfolding in_branch
close_in true o os result old new h = h
close_in false o os result old new h = h

ends_by : {A : Type 0} (result : Result A FaultKind) (old new : ConditionsView) (below : ℕ) → Standing below old → Closes (place_of below old) result old new → EndsOne result old new below
ends_by {A} result old new below (Outside alone) h = grind (arith, place_outside)
ends_by {A} result old new below (Inside live o os is some skips) h =
    let own = close_in live o _ result old new (subst (λ (p : Place). Closes {A = A} p result old new) (place_inside below old live o os is some skips) h) in
    EndsOwn live o os is some skips own.0 own.1
ends_by {A} result old new below (Deep n o os is some skips) h =
    let inner : Closes {A = A} (Skipped (suc n) o (take (length os - below) os)) result old new = subst (λ (p : Place). Closes {A = A} p result old new) (place_skipped below old (suc n) o os is some skips) h in
    EndsInner n o os is some skips inner.0 inner.1

pub ends_one : {A : Type 0} (result : Result A FaultKind) (old new : ConditionsView) (below : ℕ) → below ≤ length old.open_now → Closes (place_of below old) result old new → EndsOne result old new below
ends_one result old new below most h = ends_by result old new below (standing below old most) h

conditions_ended : {R A : Type 0} (limits : Limits) (v : ConditionsView) (include_stack : List (File R)) → 0 < length include_stack → AreConditions limits v include_stack → (result : Result A FaultKind) (w : ConditionsView)
    → EndsOne result v w (inner_below include_stack) → AreConditions limits w include_stack
conditions_ended limits v include_stack some s result w (EndsNone alone wrong stays) = rw stays s
conditions_ended limits v include_stack some s result w (EndsOwn live o os is_open below skips done moves) = grind arith
conditions_ended limits v include_stack some s result w (EndsInner n o os is_open below skips done moves) = grind arith

-- what always holds after an `endif`
pub conditions_end : {R A : Type 0} (limits : Limits) (v : ConditionsView) (include_stack : List (File R)) → 0 < length include_stack → AreConditions limits v include_stack → (result : Result A FaultKind) (w : ConditionsView) (below : ℕ)
    → below ≡ inner_below include_stack → Closes (place_of below v) result v w → AreConditions limits w include_stack
conditions_end {R} {A} limits v include_stack some s result w below same h = grind (arith, inner_most, conditions_ended, ends_one)

-- what the end of a source leaves open
pub data LeavesOpen (line : Option ℕ) (below : ℕ) (v : ConditionsView) : Type 0 where
  LeavesNone : length v.open_now ≡ below → line ≡ None → LeavesOpen line below v
  LeavesOne : (o : Progress) (os : List Progress) → v.open_now ≡ o ∷ os → below ≤ length os → line ≡ Some o.line → LeavesOpen line below v

unclosed_in : (live : Bool) (o : Progress) (os : List Progress) (line : Option ℕ) → IsUnclosed (in_branch live o os) line → line ≡ Some o.line
unfolding in_branch
unclosed_in true o os line h = h
unclosed_in false o os line h = h

leaves_by : (line : Option ℕ) (below : ℕ) (v : ConditionsView) → Standing below v → IsUnclosed (place_of below v) line → LeavesOpen line below v
leaves_by line below v (Outside alone) h = LeavesNone alone (subst (λ (p : Place). IsUnclosed p line) (place_outside below v alone) h)
leaves_by line below v (Inside live o os is some skips) h =
    LeavesOne o os is some (unclosed_in live o _ line (subst (λ (p : Place). IsUnclosed p line) (place_inside below v live o os is some skips) h))
leaves_by line below v (Deep n o os is some skips) h =
    LeavesOne o os is some (subst (λ (p : Place). IsUnclosed p line) (place_skipped below v (suc n) o os is some skips) h)

pub leaves_open : (line : Option ℕ) (below : ℕ) (v : ConditionsView) → below ≤ length v.open_now → IsUnclosed (place_of below v) line → LeavesOpen line below v
leaves_open line below v most h = leaves_by line below v (standing below v most) h

-- whether one more may be opened, by the answer
one_within : (k : ℕ) (v : ConditionsView) (holds : Bool) → v.limit - length v.open_now ≡ k → opening_within k (Holds holds) ≡ Holds holds → length v.open_now < v.limit
unfolding opening_within
one_within zero v holds is h = absurd (cc)
one_within (suc k) v holds is h = omega arith

pub one_opens : {A : Type 0} (x : A) (v : ConditionsView) (holds : Bool) → opening_within (left_open v) (Holds holds) ≡ opening_answer {A = A} (Ok x) holds → length v.open_now < v.limit
unfolding left_open
one_opens x v holds e = one_within (v.limit - length v.open_now) v holds refl e

-- What the end of a source leaves open among its conditionals.

-- what the end of the innermost source leaves open
pub leaves_here : {S R : Type 0} (line : Option ℕ) (e : EngineView S R) → inner_below e.files.include_stack ≤ length e.conditions.open_now → (below : ℕ) → below ≡ inner_below e.files.include_stack
    → IsUnclosed (place_of below e.conditions) line → LeavesOpen line (inner_below e.files.include_stack) e.conditions
leaves_here line e most below same h =
    leaves_open line (inner_below e.files.include_stack) e.conditions most (subst (λ (n : ℕ). IsUnclosed (place_of n e.conditions) line) same h)

-- none
pub ended_alone : (below : ℕ) (v : ConditionsView) → LeavesOpen None below v → length v.open_now ≡ below
ended_alone below v (LeavesNone alone same) = alone
ended_alone below v (LeavesOne o os is_open most wrong) = absurd (cc)

-- or one, whose fault is kept
pub stops_unclosed : {S R : Type 0} (old new : EngineView S R) (place : Halt) (line : ℕ) → (inner_buffer old.files.include_stack).mode ≡ Plain → LeavesOpen (Some line) (inner_below old.files.include_stack) old.conditions
    → place ≡ Fault → new ≡ record old { kept = Some (unclosed_fault line (state_of old)) } → Ends old new (Some place)
stops_unclosed old new place line plain (LeavesNone alone wrong) is becomes = absurd (cc)
stops_unclosed {S} {R} old new place line plain (LeavesOne o os is_open most same) is becomes = grind arith
