-- What is taken of the open sources, as steps of the engine.
use Rattle.std.proofs.Common.{◌≡◌, ℕ, zero, suc, ◌+◌, ◌-◌, ◌^◌, ◌≤◌, ◌<◌, true, false, List, [], ◌∷◌, ◌++◌, length, take, drop, replicate, append_assoc, append-nil, Option, None, Some, Ok, refl, sym, ap, ◌∙◌, subst, arith, slice_range, min, take-take, length-drop, length-take}
use Rattle.std.proofs.lemmas.List.{drop-take, take_rest}
use Rattle.std.proofs.Math.Seq.{drop-nil}
use Rattle.rdlpp_source.specs.Sources.{Catalog}
use Rattle.rdlpp_source.specs.declared.sources.Sources.{Ghosts}
use Rattle.rdlpp_scan.specs.SourceTokens.{line_ends}
use Rattle.rdlpp_scan.specs.declared.token.Directive.TheVariants.{Define}
use Rattle.rdlpp_scan.specs.declared.token.Mode.{Mode}
use Rattle.rdlpp_scan.specs.declared.token.Mode.TheVariants.{Plain}
use Rattle.rdlpp_define.specs.Macros.{Macro}
use Rattle.rdlpp_define.specs.Table.{macro_named, TableView}
use Rattle.rdlpp_define.specs.declared.limits.Limits.{Limits}
use Rattle.rdlpp_define.specs.Defined.{define_of}
use Rattle.rdlpp_define.specs.Defined as table_stored
use Rattle.rdlpp_define.specs.declared.fault.DefineKind.{DefineKind}
use Rattle.rdlpp_define.specs.declared.fault.DefineKind.TheVariants as define
use Rattle.rdlpp_meaning.specs.declared.fault.FaultKind.{FaultKind}
use Rattle.rdlpp_meaning.specs.declared.fault.FaultKind.TheVariants as fault
use Rattle.rdlpp_meaning.specs.Meaning.{Passage, after_bytes, goes_on, leaves}
use Rattle.rdlpp_meaning.specs.Outcome.{Report, fails}
use Rattle.rdlpp_meaning.specs.Parts.{line_ends_of}
use Rattle.rdlpp_meaning.specs.Profile.{define_fault, rules_of, with_fault}
use Rattle.rdlpp_meaning.specs.State.{State, fault_at}
use Rattle.rdlpp_meaning.proofs.Skipping.{line_ends_of-owed}
use Rattle.rdlpp_read.specs.Buffer.{BufferView, entered_mode, held_of, reading_line_of, Slides}
use Rattle.rdlpp_read.specs.Files.{AreOpen, FilesView, consumed_file, inner_buffer, with_buffer, with_inner}
use Rattle.rdlpp_read.specs.Filling.{IsExact, Fills}
use Rattle.rdlpp_read.specs.LogicalLines.{IsExactLine, HoldsLine}
use Rattle.rdlpp_read.specs.declared.buffer.extending.LogicalLine.TheVariants as line
use Rattle.rdlpp_read.specs.declared.buffer.filling.Fill.TheVariants as fill
use Rattle.rdlpp_read.specs.declared.files.File.{File}
use Rattle.rdlpp_read.proofs.Growing.{line_ends_le}
use Rattle.rdlpp_front.specs.SourceItems.{AtBare, AtPerl, IsDirective, IsRefused, IsText, IsUsage, usage_name}
use Rattle.rdlpp_front.proofs.Insides.{held_entered, text_inside}
use Rattle.rdlpp_read.specs.Conditions.{ConditionsView}
use Rattle.rdlpp_state.specs.Calls.{SourcesCalled}
use Rattle.rdlpp_state.specs.Engine.{EngineView, IsSoundEngine, is_open}
use Rattle.rdlpp_state.specs.Failures.{MayGoOn}
use Rattle.rdlpp_state.proofs.Stores.{KeepsParts, KeepsStores, keeps_pending, keeps_sources, keeps_stopped, own_failed, own_stops, parts_mode, parts_on, parts_slid, parts_used, read_stops}
use Rattle.rdlpp_state.specs.Held.{IsBounded}
use Rattle.rdlpp_state.specs.Standing.{AtPending, AtSource, InSources, Nowhere, StandsIn}
use Rattle.rdlpp_state.specs.Stored.{AreParts}
use Rattle.rdlpp_read.proofs.BufferTokens.{slides-same, slides-told}
use Rattle.rdlpp_state.specs.Moves.{Defines, IsReady, IsDrained, ReadsDefine, RefusesDefine, define_rest}
use Rattle.rdlpp_state.specs.Marks.{MarksView, lends_line, lends_pending}
use Rattle.rdlpp_state.specs.Pending.{PendingView, TakesPiece, digits_of, line_ends_pending, nothing_pending, origin_bytes, origin_pieces, pending_bytes, pending_pieces, part_bytes}
use Rattle.rdlpp_state.specs.declared.pending.PendingPiece.{PendingPiece}
use Rattle.rdlpp_state.specs.Pieces.{IsPlaced, halted_answer, lent_answer, silent_answer}
use Rattle.rdlpp_state.specs.Positions.{Unmarked, position_of}
use Rattle.rdlpp_state.specs.Remaining.{file_state, inner_name, include_stack_left, include_stack_state, run_rules, source_rules, state_of, text_of, work_left}
use Rattle.rdlpp_state.specs.Steps.{IsOwn, IsReading, UncutStep, is_memory_kind, is_read_failed, is_write_failed}
use Rattle.rdlpp_state.specs.declared.phase.Phase.{Phase}
use Rattle.rdlpp_state.specs.declared.phase.Phase.TheVariants.{Open}
use Rattle.rdlpp_state.specs.declared.place.Halt.{Halt}
use Rattle.rdlpp_state.specs.declared.place.Halt.TheVariants.{Fault}
use Rattle.rdlpp_state.specs.declared.place.PieceLocation.TheVariants.{Source, Pending}
use Rattle.rdlpp_usages.specs.Usages.{texts_left}
use Rattle.rdlpp_state.proofs.Soundness.{inner_facts, text_idle, with_inner-length}
use Rattle.rdlpp_front.proofs.TextLeft.{define_begins}
use Rattle.rdlpp_state.proofs.LentPieces.{pending_position, source_position}
use Rattle.rdlpp_state.proofs.EngineSteps.{IsSilent, kept_at, not_called, one_part, reaches_one, walks_failed, walks_fault, walks_lent}
use Rattle.rdlpp_state.proofs.IncludeStackLeft.{include_stack_cut_define, include_stack_defined, include_stack_filled, include_stack_long_define, include_stack_long_line, include_stack_long_source, include_stack_refused, include_stack_refused_define, include_stack_text, include_stack_undefined, include_stack_unfilled, include_stack_unheld}
use Rattle.rdlpp_state.proofs.WorkFacts.{IsUsed, entered_unused, held_room, pending_falls, used_after, work_falls, work_same}

-- another buffer for the innermost source changes no state
pub same_state : {R : Type 0} (b : BufferView R) (limits : Limits) (macros : List Macro) (v : ConditionsView) (include_stack : List (File R))
    → include_stack_state limits macros v (with_buffer b include_stack) ≡ include_stack_state limits macros v include_stack
unfolding include_stack_state file_state
same_state b limits macros v [] = refl
same_state b limits macros v (f ∷ outer) = refl

-- the innermost source with its own buffer
pub same_include_stack : {R : Type 0} (include_stack : List (File R)) → include_stack ≡ with_buffer (inner_buffer include_stack) include_stack
same_include_stack [] = refl
same_include_stack (f ∷ outer) = refl

-- the window stays where bytes are used and a mode is entered
same_window : {R : Type 0} (include_stack : List (File R)) (len lines : ℕ) (next : Mode)
    → (inner_buffer (with_inner (consumed_file len lines) (with_buffer (entered_mode (inner_buffer include_stack) next) include_stack))).window ≡ (inner_buffer include_stack).window
unfolding entered_mode
same_window [] len lines next = refl
same_window (f ∷ outer) len lines next = refl

-- a part of a text up to a place after it
part_slice : (xs : List ℕ) (at len accepted : ℕ) → at + len ≤ accepted → take len (drop at xs) ≡ take len (drop at (take accepted xs))
part_slice xs at len accepted h =
    let place : at + (accepted - at) ≡ accepted = omega arith in
    let cut : drop at (take (at + (accepted - at)) xs) ≡ take (accepted - at) (drop at xs) = drop-take at (accepted - at) xs in
    sym (ap (take len) (rw place at cut) ∙ take-take len (accepted - at) (drop at xs) (omega arith))

-- the held bytes that are used are a part of the window
held_part : {R : Type 0} (b : BufferView R) (len : ℕ) → b.at ≤ b.accepted → len ≤ length (held_of b) → slice_range b.window b.at (b.at + len) ≡ take len (held_of b)
unfolding held_of
held_part b len used inside = grind (arith, held_room, length-drop, length-take, part_slice)

-- nothing that is pending is before nothing
pub drained_after : (name : List ℕ) (pending : PendingView) (p : Passage) → pending ≡ nothing_pending → after_bytes (pending_bytes name pending) p ≡ p
unfolding nothing_pending pending_bytes origin_bytes after_bytes
drained_after name pending p none = rw none refl

-- what remains of the text where nothing is pending
pub text_drained : {S R : Type 0} (g : Ghosts S R) (e : EngineView S R) → e.pending ≡ nothing_pending → e.expansion.opens ≡ []
    → text_of g e ≡ include_stack_left e.limits (run_rules g e) g.unread e.table.macros e.conditions e.files.include_stack
text_drained g e none idle = grind (arith, text_idle, drained_after)

-- nothing that is pending can be counted
pub drained_few : (pending : PendingView) → pending ≡ nothing_pending → pending_pieces pending < 2 ^ 31
unfolding nothing_pending pending_pieces origin_pieces
drained_few pending none = rw none (omega arith)

-- LF bytes alone that are pending
pub pending_lines : (name : List ℕ) (lines : ℕ) → pending_bytes name (line_ends_pending lines) ≡ replicate lines 10
unfolding line_ends_pending pending_bytes origin_bytes
pending_lines name lines = append-nil (replicate lines 10)

-- each of them is a piece
pub lines_few : (lines n : ℕ) → lines < n → pending_pieces (line_ends_pending lines) < n
unfolding line_ends_pending pending_pieces origin_pieces
lines_few lines n few = omega arith

-- what is left of the open sources of an engine, with other macros, other conditionals and others open
abbrev pub left_by : {S R : Type 0} → Ghosts S R → EngineView S R → List Macro → ConditionsView → List (File R) → Passage
left_by g e macros v include_stack = include_stack_left e.limits (run_rules g e) g.unread macros v include_stack

-- the work left falls, and a piece is lent
pub lends_by : {S R : Type 0} (g : Ghosts S R) (old : EngineView S R) (ready : IsReady old) (bytes : List ℕ) (pending : PendingView) (marks : MarksView) (macros : List Macro) (v : ConditionsView) (include_stack : List (File R)) (sources : S)
    → let after = record old { pending = pending; marks = marks; table = record old.table { macros = macros }; conditions = v; files = record old.files { include_stack = include_stack }; sources = sources } in
    IsBounded after → work_left after < work_left old → SourcesCalled g false false old.sources sources
    → (g.has_known_texts old.sources → left_by g old old.table.macros old.conditions old.files.include_stack ≡ after_bytes bytes (after_bytes (pending_bytes (inner_name include_stack) pending) (left_by g old macros v include_stack)))
    → (g.has_known_texts old.sources → AreParts g.unread (g.catalog old.sources) Unit old.files.include_stack → AreParts g.unread (g.catalog old.sources) Unit include_stack)
    → StandsIn g old after bytes (position_of after) → UncutStep g old after (Ok (Some bytes))
lends_by g old ready bytes pending marks macros v include_stack sources bounded falls call law parts from =
    let after = record old { pending = pending; marks = marks; table = record old.table { macros = macros }; conditions = v; files = record old.files { include_stack = include_stack }; sources = sources } in
    walks_lent g old after ready.free ready.open_ bounded bytes refl (refl, refl) call
    (λ t. text_drained g old ready.pending ready.idle
    ∙ (law t ∙ (ap (λ (c : Catalog). after_bytes bytes (after_bytes (pending_bytes (inner_name include_stack) pending) (include_stack_left old.limits (source_rules c old.limits old.origins) g.unread macros v include_stack))) (sym call.catalog)
    ∙ ap (after_bytes bytes) (sym (text_idle g after ready.idle)))))
    falls (keeps_sources g old pending marks macros v include_stack sources ready.free ready.idle call.catalog parts) from

-- bytes of the innermost source are used, and a piece is lent
pub lends_piece : {S R : Type 0} (g : Ghosts S R) (old : EngineView S R) (ready : IsReady old) (bytes : List ℕ) (pending : PendingView) (marks : MarksView) (macros : List Macro) (v : ConditionsView) (include_stack : List (File R)) (sources : S)
    → let after = record old { pending = pending; marks = marks; table = record old.table { macros = macros }; conditions = v; files = record old.files { include_stack = include_stack }; sources = sources } in
    IsBounded after → pending_pieces pending < 2 ^ 31 → IsUsed old.files.include_stack include_stack → SourcesCalled g false false old.sources sources
    → (g.has_known_texts old.sources → left_by g old old.table.macros old.conditions old.files.include_stack ≡ after_bytes bytes (after_bytes (pending_bytes (inner_name include_stack) pending) (left_by g old macros v include_stack)))
    → (g.has_known_texts old.sources → KeepsParts g.unread old.files.include_stack include_stack)
    → StandsIn g old after bytes (position_of after) → UncutStep g old after (Ok (Some bytes))
lends_piece g old ready bytes pending marks macros v include_stack sources bounded few used call law parts from =
    let after = record old { pending = pending; marks = marks; table = record old.table { macros = macros }; conditions = v; files = record old.files { include_stack = include_stack }; sources = sources } in
    lends_by g old ready bytes pending marks macros v include_stack sources bounded (work_falls old after refl used ready.idle ready.idle few) call law (λ t. parts t (g.catalog old.sources)) from

-- and nothing is pending
pub lends_source : {S R : Type 0} (g : Ghosts S R) (old new : EngineView S R) (ready : IsReady old) (bytes : List ℕ) (marks : MarksView) (macros : List Macro) (v : ConditionsView) (include_stack : List (File R))
    → new ≡ record old { marks = marks; table = record old.table { macros = macros }; conditions = v; files = record old.files { include_stack = include_stack } }
    → IsBounded new → IsUsed old.files.include_stack include_stack
    → left_by g old old.table.macros old.conditions old.files.include_stack ≡ after_bytes bytes (left_by g old macros v include_stack)
    → KeepsParts g.unread old.files.include_stack include_stack
    → (let after = record old { marks = marks; table = record old.table { macros = macros }; conditions = v; files = record old.files { include_stack = include_stack } } in StandsIn g old after bytes (position_of after)) → UncutStep g old new (Ok (Some bytes))
lends_source {S} {R} g old new ready bytes marks macros v include_stack becomes bounded used law parts from =
    subst (λ (e : EngineView S R). UncutStep g old e (Ok (Some bytes))) (sym becomes)
    (lends_piece g old ready bytes old.pending marks macros v include_stack old.sources (subst IsBounded becomes bounded) (drained_few old.pending ready.pending) used (not_called g old.sources)
    (λ t. law ∙ ap (after_bytes bytes) (sym (drained_after (inner_name include_stack) old.pending (left_by g old macros v include_stack) ready.pending))) (λ t. parts) from)

-- what is refused in front isn't a failed read, a failed write or want of memory
pub refused_kind : (mode : Mode) (held : List ℕ) (kind : FaultKind) → IsRefused mode held kind → IsOwn kind
unfolding is_read_failed is_write_failed is_memory_kind
refused_kind mode held kind (AtPerl h) = record { read = refl; write = refl; memory = refl }
refused_kind mode held kind (AtBare plain h) = record { read = refl; write = refl; memory = refl }

-- nor is a refused definition
pub define_kind : (kind : DefineKind) → IsOwn (define_fault kind)
unfolding is_read_failed is_write_failed is_memory_kind define_fault
define_kind define.EmbeddedPerl = record { read = refl; write = refl; memory = refl }
define_kind _ = record { read = refl; write = refl; memory = refl }

-- a fault's word is cut once
pub cut_once : (kind : FaultKind) (line : ℕ) (word : List ℕ) (s : State) → fault_at kind line (take 128 word) s ≡ fault_at kind line word s
unfolding fault_at
cut_once kind line word s = rw (take-take 128 128 word (omega arith)) refl

-- a fault that is kept about a name that was cut
pub kept_cut : {S R : Type 0} (old new : EngineView S R) (kind : FaultKind) (line : ℕ) (word name : List ℕ) (s : State) →
    new ≡ record old { kept = Some (fault_at kind line word s) } → word ≡ take 128 name →
    new ≡ record old { kept = Some (fault_at kind line name s) }
kept_cut {S} {R} old new kind line word name s becomes cut = grind (arith, cut_once)

-- only the innermost buffer and the sources changed
pub record IsRead {S R : Type 0} (g : Ghosts S R) (old mid : EngineView S R) : Type 0 where
  pub becomes : mid ≡ record old { files = mid.files; sources = mid.sources }
  pub only : mid.files ≡ record old.files { include_stack = with_buffer (inner_buffer mid.files.include_stack) old.files.include_stack }
  pub moves : Slides (g.has_known_texts old.sources) ⊥ g.unread (inner_buffer old.files.include_stack) (inner_buffer mid.files.include_stack)

-- a window that moved on over its text, wherever bytes were lost
pub slid : {R : Type 0} (has_known_texts exact : Type 0) (unread : R → List ℕ) (old new : BufferView R) → Slides has_known_texts exact unread old new → Slides has_known_texts ⊥ unread old new
slid has_known_texts exact unread old new slides = slides-told has_known_texts has_known_texts ⊥ exact unread old new (λ t. t) (λ no. absurd no) slides

-- the state is the same then
pub read_state : {S R : Type 0} {g : Ghosts S R} (old mid : EngineView S R) → IsRead g old mid → state_of mid ≡ state_of old
unfolding state_of
read_state {S} {R} old mid r = grind (arith, same_state)

-- what keeping a fault makes of an engine
pub keeps_fault : {S R : Type 0} {g : Ghosts S R} (old mid new : EngineView S R) (f : Report) → IsRead g old mid → new ≡ record mid { kept = Some f }
    → new ≡ record old { kept = Some f; files = new.files; sources = new.sources }
keeps_fault {S} {R} old mid new f r becomes = grind arith

-- and the innermost buffer alone
pub keeps_files : {S R : Type 0} {g : Ghosts S R} (old mid new : EngineView S R) (f : Report) → IsRead g old mid → new ≡ record mid { kept = Some f }
    → new.files ≡ record old.files { include_stack = with_buffer (inner_buffer new.files.include_stack) old.files.include_stack }
keeps_files {S} {R} old mid new f r becomes =
    subst (λ (fs : FilesView R). fs ≡ record old.files { include_stack = with_buffer (inner_buffer fs.include_stack) old.files.include_stack }) (sym (ap (λ e. e.files) becomes)) r.only

-- whose window moved on
pub keeps_moves : {S R : Type 0} {g : Ghosts S R} (old mid new : EngineView S R) (f : Report) → IsRead g old mid → new ≡ record mid { kept = Some f }
    → Slides (g.has_known_texts old.sources) ⊥ g.unread (inner_buffer old.files.include_stack) (inner_buffer new.files.include_stack)
keeps_moves {S} {R} {g} old mid new f r becomes =
    subst (λ (fs : FilesView R). Slides (g.has_known_texts old.sources) ⊥ g.unread (inner_buffer old.files.include_stack) (inner_buffer fs.include_stack)) (sym (ap (λ e. e.files) becomes)) r.moves

-- and what is held stays
pub keeps_read : {S R : Type 0} (g : Ghosts S R) (old mid new : EngineView S R) (f : Report) → IsReady old → IsRead g old mid → new ≡ record mid { kept = Some f } → g.catalog mid.sources ≡ g.catalog old.sources → (MayGoOn new → ⊥)
    → KeepsStores g old new
keeps_read {S} {R} g old mid new f ready r becomes catalog stops = grind (arith, keeps_stopped)

-- the text is the same where what remains of the open sources is
pub read_text : {S R : Type 0} (g : Ghosts S R) (old mid : EngineView S R) → old.pending ≡ nothing_pending → old.expansion.opens ≡ [] → IsRead g old mid → g.catalog mid.sources ≡ g.catalog old.sources
    → left_by g old old.table.macros old.conditions old.files.include_stack ≡ left_by g old old.table.macros old.conditions (with_buffer (inner_buffer mid.files.include_stack) old.files.include_stack)
    → text_of g old ≡ text_of g mid
read_text {S} {R} g old mid drained idle r catalog law = grind (arith, text_drained)

-- the fault that is kept is no part of the text
pub kept_text : {S R : Type 0} (g : Ghosts S R) (mid new : EngineView S R) (f : Report) → new ≡ record mid { kept = Some f } → text_of g new ≡ text_of g mid
unfolding text_of state_of
kept_text g mid new f becomes = ap (text_of g) becomes

-- the kind of a fault that is told
pub told_kind : (kind : FaultKind) (line : ℕ) (word : List ℕ) (s : State) → IsOwn kind → IsOwn (fault_at kind line word s).kind
unfolding fault_at
told_kind kind line word s own = own

-- a fault of the text is kept, as it is told in the state that the text goes on from
pub refuses_by : {S R : Type 0} (g : Ghosts S R) (old mid new : EngineView S R) (place : Halt) (tell : State → Report) → ((s : State) → IsOwn (tell s).kind) → IsReady old → IsRead g old mid → IsBounded new
    → place ≡ Fault → new ≡ record mid { kept = Some (tell (state_of mid)) } → SourcesCalled g false false old.sources mid.sources
    → (g.has_known_texts old.sources → left_by g old old.table.macros old.conditions old.files.include_stack ≡ leaves (fails (tell (state_of old))) (state_of old))
    → UncutStep g old new (halted_answer new place)
unfolding state_of
refuses_by {S} {R} g old mid new place tell own ready r bounded is becomes call law =
    let f = tell (state_of mid) in
    let same : state_of mid ≡ state_of old = read_state old mid r in
    let here : state_of new ≡ state_of mid = ap (λ (e : EngineView S R). include_stack_state e.limits e.table.macros e.conditions e.files.include_stack) becomes in
    let sources : new.sources ≡ mid.sources = ap (λ e. e.sources) becomes in
    let P : S → Type 0 = λ s. SourcesCalled g false false old.sources s in
    kept_at g old new place f is (ap (λ e. e.kept) becomes)
    (walks_fault g old new ready.free ready.open_ bounded f (own (state_of mid)) (keeps_fault old mid new f r becomes) (keeps_files old mid new f r becomes) (keeps_moves old mid new f r becomes) ready.pending (subst P (sym sources) call)
    (λ t. text_drained g old ready.pending ready.idle ∙ (law t ∙ (ap (λ (s : State). leaves (fails (tell s)) s) (sym same) ∙ ap (leaves (fails f)) (sym here))))
    (keeps_read g old mid new f ready r becomes call.catalog (own_stops new f (ap (λ e. e.kept) becomes) (own_failed f.kind (own (state_of mid))))))

-- a fault at a line of the source is kept
pub refuses : {S R : Type 0} (g : Ghosts S R) (old mid new : EngineView S R) (place : Halt) (kind : FaultKind) (line : ℕ) (word : List ℕ) → IsReady old → IsRead g old mid → IsBounded new
    → place ≡ Fault → new ≡ record mid { kept = Some (fault_at kind line word (state_of mid)) } → IsOwn kind → SourcesCalled g false false old.sources mid.sources
    → (g.has_known_texts old.sources → left_by g old old.table.macros old.conditions old.files.include_stack ≡ leaves (fails (fault_at kind line word (state_of old))) (state_of old))
    → UncutStep g old new (halted_answer new place)
refuses g old mid new place kind line word ready r bounded is becomes own call law =
    refuses_by g old mid new place (λ s. fault_at kind line word s) (λ s. told_kind kind line word s own) ready r bounded is becomes call law

-- a failed read is kept
pub fails_reading : {S R : Type 0} (g : Ghosts S R) (old mid new : EngineView S R) (place : Halt) → IsReady old → IsRead g old mid → IsReading (inner_buffer mid.files.include_stack) → IsBounded new
    → place ≡ Fault → new ≡ record mid { kept = Some (fault_at fault.ReadFailed (reading_line_of (inner_buffer mid.files.include_stack)) [] (state_of mid)) } → SourcesCalled g true false old.sources mid.sources
    → (g.has_known_texts old.sources → left_by g old old.table.macros old.conditions old.files.include_stack ≡ left_by g old old.table.macros old.conditions (with_buffer (inner_buffer mid.files.include_stack) old.files.include_stack))
    → UncutStep g old new (halted_answer new place)
unfolding state_of
fails_reading {S} {R} g old mid new place ready r reading bounded is becomes call law =
    let told : EngineView S R → Report = λ e. fault_at fault.ReadFailed (reading_line_of (inner_buffer e.files.include_stack)) [] (include_stack_state e.limits e.table.macros e.conditions e.files.include_stack) in
    let sources : new.sources ≡ mid.sources = ap (λ e. e.sources) becomes in
    let P : S → Type 0 = λ s. SourcesCalled g true false old.sources s in
    let open_ : new.phase ≡ Open = ap (λ e. e.phase) becomes ∙ (ap (λ e. e.phase) r.becomes ∙ ready.open_) in
    let here : IsReading (inner_buffer new.files.include_stack) = subst (λ (fs : FilesView R). IsReading (inner_buffer fs.include_stack)) (sym (ap (λ e. e.files) becomes)) reading in
    kept_at g old new place (told mid) is (ap (λ e. e.kept) becomes)
    (walks_failed g old new ready.free ready.open_ bounded (told mid)
    here (sym (ap told becomes)) (keeps_fault old mid new (told mid) r becomes) (keeps_files old mid new (told mid) r becomes) (keeps_moves old mid new (told mid) r becomes) ready.pending (subst P (sym sources) call)
    (λ t. read_text g old mid ready.pending ready.idle r call.catalog (law t) ∙ sym (kept_text g mid new (told mid) becomes))
    (keeps_read g old mid new (told mid) ready r becomes call.catalog (read_stops new (told mid) (ap (λ e. e.kept) becomes) open_ here)))

-- a `define` begins what is held, of which more came
pub reading_define : {R : Type 0} (old new : BufferView R) (more : List ℕ) → 0 < length (held_of old) → IsDirective Define (held_of old) → held_of new ≡ held_of old ++ more → IsReading new
reading_define old new more some is held = grind (arith, define_begins, append_assoc)

-- nothing changed
pub read_nothing : {S R : Type 0} {g : Ghosts S R} (e : EngineView S R) → IsRead g e e
read_nothing {S} {R} {g} e = grind (arith, same_include_stack, slides-same)

-- only the sources changed
pub read_sources : {S R : Type 0} (g : Ghosts S R) (old mid : EngineView S R) → mid ≡ record old { sources = mid.sources } → IsRead g old mid
read_sources {S} {R} g old mid becomes =
    let files : mid.files ≡ old.files = ap (λ e. e.files) becomes in
    let nothing : IsRead g old old = read_nothing old in
    record {
      becomes = becomes ∙ ap (λ (fs : FilesView R). record old { files = fs; sources = mid.sources }) (sym files);
      only = subst (λ (fs : FilesView R). fs ≡ record old.files { include_stack = with_buffer (inner_buffer fs.include_stack) old.files.include_stack }) (sym files) nothing.only;
      moves = subst (λ (fs : FilesView R). Slides (g.has_known_texts old.sources) ⊥ g.unread (inner_buffer old.files.include_stack) (inner_buffer fs.include_stack)) (sym files) nothing.moves;
    }

-- text that is copied is lent
pub take_text : {S R : Type 0} (g : Ghosts S R) (old mid new : EngineView S R) (len lines from to : ℕ) (next : Mode) → IsReady old → old.conditions.skipped ≡ None → IsBounded new
    → 0 < length (held_of (inner_buffer old.files.include_stack)) → IsText (inner_buffer old.files.include_stack).mode (held_of (inner_buffer old.files.include_stack)) len next
    → lines ≡ line_ends (take len (held_of (inner_buffer old.files.include_stack)))
    → mid ≡ record old { files = record old.files { include_stack = with_buffer (entered_mode (inner_buffer old.files.include_stack) next) old.files.include_stack } }
    → new ≡ record mid { files = record mid.files { include_stack = with_inner (consumed_file len lines) mid.files.include_stack }; marks = lends_line (inner_buffer old.files.include_stack).line mid.marks }
    → from ≡ (inner_buffer old.files.include_stack).at → to ≡ from + len → UncutStep g old new (lent_answer new (Source from to))
take_text {S} {R} g old mid new len lines from to next ready live bounded some text counted enters uses begins stops =
    let inner = inner_facts old.files ready.include_stack ready.files in
    let b = inner_buffer old.files.include_stack in
    let within = text_inside b.mode (held_of b) len next some text in
    let include_stack = with_inner (consumed_file len lines) (with_buffer (entered_mode b next) old.files.include_stack) in
    let marks = lends_line b.line old.marks in
    let becomes : new ≡ record old { files = record old.files { include_stack = include_stack }; marks = marks } =
    uses ∙ ap (λ (m : EngineView S R). record m { files = record m.files { include_stack = with_inner (consumed_file len lines) m.files.include_stack }; marks = lends_line b.line m.marks }) enters in
    let window : (inner_buffer new.files.include_stack).window ≡ b.window = ap (λ (e : EngineView S R). (inner_buffer e.files.include_stack).window) becomes ∙ same_window old.files.include_stack len lines next in
    let part : slice_range (inner_buffer new.files.include_stack).window from to ≡ take len (held_of b) =
    rw (window, begins, stops) (rw begins (held_part b len inner.buffer.used within.1)) in
    subst (λ (xs : List ℕ). UncutStep g old new (Ok (Some xs))) (sym part)
    (lends_source g old new ready (take len (held_of b)) marks old.table.macros old.conditions include_stack becomes bounded
    (used_after old.files.include_stack (entered_mode b next) len lines ready.include_stack (entered_unused b next) within.0 (rw (held_entered b next) within.1))
    (include_stack_text old.limits (run_rules g old) g.unread old.table.macros old.conditions live old.files.include_stack len lines next some inner.ends text counted)
    (parts_on g.unread old.files.include_stack (with_buffer (entered_mode b next) old.files.include_stack) include_stack (parts_mode g.unread next old.files.include_stack) (parts_used g.unread len lines (with_buffer (entered_mode b next) old.files.include_stack)))
    (AtSource len lines next ready.pending ready.idle refl (source_position old len lines next ready.free ready.open_) refl))

-- a `define` whose logical line is held, and what it comes to
module _ {S R : Type 0} (g : Ghosts S R) (old mid new : EngineView S R) (len : ℕ) (ready : IsReady old) (live : old.conditions.skipped ≡ None) (r : IsRead g old mid) (bounded : IsBounded new)
    (some : 0 < length (held_of (inner_buffer old.files.include_stack))) (plain : (inner_buffer old.files.include_stack).mode ≡ Plain) (define : IsDirective Define (held_of (inner_buffer old.files.include_stack)))
    (holds : HoldsLine (g.has_known_texts old.sources) g.unread (line.Whole len) (inner_buffer old.files.include_stack) (inner_buffer mid.files.include_stack))
    (call : SourcesCalled g false false old.sources mid.sources) where
  -- it is accepted
  accepted_steps : 7 ≤ len → len ≤ length (held_of (inner_buffer mid.files.include_stack)) → length (held_of (inner_buffer mid.files.include_stack)) < 2 ^ 31 → Defines len mid new → UncutStep g old new (silent_answer new None)
  unfolding source_rules rules_of with_fault after_bytes
  accepted_steps wide inside few d =
      let inner = inner_facts old.files ready.include_stack ready.files in
      let b = inner_buffer mid.files.include_stack in
      let w = take len (held_of b) in
      let limits : mid.limits ≡ old.limits = ap (λ e. e.limits) r.becomes in
      let table : mid.table ≡ old.table = ap (λ e. e.table) r.becomes in
      let include_stack : mid.files.include_stack ≡ with_buffer b old.files.include_stack = ap (λ f. f.include_stack) r.only in
      let after = with_inner (consumed_file len d.lines) (with_buffer b old.files.include_stack) in
      let least = line_ends_le w in
      let size = length-take len (held_of b) in
      let counted = d.counted in
      let makes : List (File R) → EngineView S R = λ ns.
      record old { pending = line_ends_pending d.lines; table = record old.table { macros = d.macros }; files = record old.files { include_stack = ns }; sources = mid.sources } in
      let becomes : new ≡ makes after =
      d.becomes ∙ (ap (λ (m : EngineView S R). record m { table = record m.table { macros = d.macros }; files = record m.files { include_stack = with_inner (consumed_file len d.lines) mid.files.include_stack }; pending = line_ends_pending d.lines }) r.becomes
      ∙ (ap (λ (fs : FilesView R). record old { pending = line_ends_pending d.lines; table = record old.table { macros = d.macros }; files = record fs { include_stack = with_inner (consumed_file len d.lines) mid.files.include_stack }; sources = mid.sources }) r.only
      ∙ ap (λ (ns : List (File R)). makes (with_inner (consumed_file len d.lines) ns)) include_stack)) in
      let accepted : define_of old.limits.definition_bytes old.limits.definitions old.table.macros (drop 7 w) ≡ table_stored.Accepted d.macros =
      rw (← ready.sound.definition_bytes, ← ready.sound.definitions) (rw table at d.accepted) in
      let pending : line_ends_of w ≡ pending_bytes (inner_name after) (line_ends_pending d.lines) =
      line_ends_of-owed w ∙ (ap (λ n. replicate n 10) (sym counted) ∙ sym (pending_lines (inner_name after) d.lines)) in
      subst (λ (e : EngineView S R). UncutStep g old e (Ok (Some []))) (sym becomes)
      (lends_piece g old ready [] (line_ends_pending d.lines) old.marks d.macros old.conditions after mid.sources (subst IsBounded becomes bounded) (lines_few d.lines _ (omega arith))
      (used_after old.files.include_stack b len d.lines ready.include_stack holds.extends.unused (omega arith) inside) call
      (λ t. include_stack_defined old.limits (run_rules g old) g.unread old.table.macros old.conditions live (g.has_known_texts old.sources) t old.files.include_stack b len d.lines d.macros
      some inner.ends plain define holds (ap with_fault accepted) counted
      ∙ ap (λ (x : List ℕ). after_bytes x (left_by g old d.macros old.conditions after)) pending)
      (λ t. parts_on g.unread old.files.include_stack (with_buffer b old.files.include_stack) after (parts_slid (g.has_known_texts old.sources) Unit g.unread b old.files.include_stack ready.include_stack (slides-told (g.has_known_texts old.sources) (g.has_known_texts old.sources) Unit (IsExactLine (line.Whole len)) g.unread (inner_buffer old.files.include_stack) b (λ x. x) (λ _ e. cc) holds.slides) t)
      (parts_used g.unread len d.lines (with_buffer b old.files.include_stack))) (Nowhere refl (InSources ready.idle refl (Unmarked refl))))

  -- it is refused
  refused_steps : (place : Halt) → place ≡ Fault → RefusesDefine len mid new → UncutStep g old new (halted_answer new place)
  unfolding source_rules rules_of with_fault state_of
  refused_steps place is d =
      let inner = inner_facts old.files ready.include_stack ready.files in
      let b = inner_buffer mid.files.include_stack in
      let table : mid.table ≡ old.table = ap (λ e. e.table) r.becomes in
      let here : b.line ≡ (inner_buffer old.files.include_stack).line = holds.extends.line in
      let refused : define_of old.limits.definition_bytes old.limits.definitions old.table.macros (drop 7 (take len (held_of b))) ≡ table_stored.DefinedFault d.kind d.word =
      rw (← ready.sound.definition_bytes, ← ready.sound.definitions) (rw table at d.refused) in
      refuses g old mid new place (define_fault d.kind) b.line d.word ready r bounded is d.becomes (define_kind d.kind) call
      (λ t. include_stack_refused_define old.limits (run_rules g old) g.unread old.table.macros old.conditions live (g.has_known_texts old.sources) t old.files.include_stack b len (define_fault d.kind) d.word
      some inner.ends plain define holds (ap with_fault refused)
      ∙ rw here refl)

  pub defined_steps : (result : Option Halt) → 7 ≤ len → len ≤ length (held_of (inner_buffer mid.files.include_stack)) → length (held_of (inner_buffer mid.files.include_stack)) < 2 ^ 31 → ReadsDefine len mid new result → UncutStep g old new (silent_answer new result)
  defined_steps None wide inside few reads = accepted_steps wide inside few reads
  defined_steps (Some Fault) wide inside few reads = refused_steps Fault refl reads
  defined_steps _ wide inside few reads = absurd reads

-- bytes in front of bytes
pub after_twice : (x y : List ℕ) (p : Passage) → after_bytes (x ++ y) p ≡ after_bytes x (after_bytes y p)
unfolding after_bytes
after_twice x y p = ap (λ (xs : List ℕ). record { bytes = xs; fault = p.fault; after = p.after }) (append_assoc x y p.bytes)

-- what is pending is lent
pub take_pending : {S R : Type 0} (g : Ghosts S R) (old new : EngineView S R) (piece : PendingPiece) (pending : PendingView) → old.kept ≡ None → old.phase ≡ Open → IsBounded new
    → TakesPiece (inner_name old.files.include_stack) old.pending pending piece → new ≡ record old { pending = pending; marks = lends_pending old.pending (inner_buffer old.files.include_stack).line old.marks } → UncutStep g old new (lent_answer new (Pending piece))
unfolding text_of state_of
take_pending {S} {R} g old new piece pending free open_ bounded takes becomes =
    let marks = lends_pending old.pending (inner_buffer old.files.include_stack).line old.marks in
    let after = record old { pending = pending; marks = marks } in
    let name = inner_name old.files.include_stack in
    let bytes = take piece.len (part_bytes piece.part name (digits_of pending.origin)) in
    let rest = goes_on (texts_left (run_rules g old) (state_of old) old.table.macros old.expansion) (λ after. left_by g old old.table.macros old.conditions old.files.include_stack) in
    subst (λ (e : EngineView S R). UncutStep g old e (lent_answer e (Pending piece))) (sym becomes)
    (walks_lent g old after free open_ (subst IsBounded becomes bounded) bytes refl (refl, refl) (not_called g old.sources)
    (λ t. ap (λ (x : List ℕ). after_bytes x rest) takes.bytes ∙ after_twice bytes (pending_bytes name pending) rest)
    (pending_falls old after refl refl refl takes.fewer) (keeps_pending g old pending marks) (AtPending piece pending takes refl (pending_position old pending piece takes free open_) refl))

-- and it is a place
pub pending_is_placed : {S R : Type 0} (old new : EngineView S R) (piece : PendingPiece) (pending : PendingView) → 0 < length old.files.include_stack
    → (marks : MarksView) → TakesPiece (inner_name old.files.include_stack) old.pending pending piece → new ≡ record old { pending = pending; marks = marks } → IsPlaced new (Pending piece)
pending_is_placed {S} {R} old new piece pending some marks takes becomes =
    subst (λ (e : EngineView S R). IsPlaced e (Pending piece)) (sym becomes) (some, takes.inside)

-- what is held stays so
filled_stores : {S R : Type 0} (g : Ghosts S R) (old mid : EngineView S R) → IsReady old → IsRead g old mid
    → Fills (g.has_known_texts old.sources) g.unread fill.Held (inner_buffer old.files.include_stack) (inner_buffer mid.files.include_stack) → SourcesCalled g false false old.sources mid.sources → KeepsStores g old mid
filled_stores {S} {R} g old mid ready r fills call =
    let b = inner_buffer mid.files.include_stack in
    let include_stack = with_buffer b old.files.include_stack in
    let is : mid ≡ record old { files = record old.files { include_stack = include_stack }; sources = mid.sources } =
    r.becomes ∙ ap (λ (fs : FilesView R). record old { files = fs; sources = mid.sources }) r.only in
    subst (λ (e : EngineView S R). KeepsStores g old e) (sym is)
    (keeps_sources g old old.pending old.marks old.table.macros old.conditions include_stack mid.sources ready.free ready.idle call.catalog
    (λ t. parts_slid (g.has_known_texts old.sources) Unit g.unread b old.files.include_stack ready.include_stack (slides-told (g.has_known_texts old.sources) (g.has_known_texts old.sources) Unit (IsExact fill.Held) g.unread (inner_buffer old.files.include_stack) b (λ x. x) (λ _ e. cc) fills.slides) t (g.catalog old.sources)))

-- bytes are held that weren't, and nothing else changed
pub silent_fill : {S R : Type 0} (g : Ghosts S R) (old mid : EngineView S R) → IsReady old → IsRead g old mid
    → Fills (g.has_known_texts old.sources) g.unread fill.Held (inner_buffer old.files.include_stack) (inner_buffer mid.files.include_stack) → SourcesCalled g false false old.sources mid.sources → IsSilent g 1 old mid
silent_fill {S} {R} g old mid ready r fills call =
    let b = inner_buffer mid.files.include_stack in
    let limits : mid.limits ≡ old.limits = ap (λ e. e.limits) r.becomes in
    let origins : mid.origins ≡ old.origins = ap (λ e. e.origins) r.becomes in
    let table : mid.table ≡ old.table = ap (λ e. e.table) r.becomes in
    let conditions : mid.conditions ≡ old.conditions = ap (λ e. e.conditions) r.becomes in
    let pending : mid.pending ≡ old.pending = ap (λ e. e.pending) r.becomes in
    let include_stack : mid.files.include_stack ≡ with_buffer b old.files.include_stack = ap (λ f. f.include_stack) r.only in
    record {
      limits = limits;
      origins = origins;
      main = ap (λ e. e.main) r.becomes;
      quota = ap (λ e. e.quota) r.becomes;
      most_bytes = ap (λ t. t.most_bytes) table;
      most_macros = ap (λ t. t.most_macros) table;
      free = ready.free;
      still = ap (λ e. e.kept) r.becomes ∙ ready.free;
      open_ = ready.open_;
      stays = ap (λ e. e.phase) r.becomes ∙ ready.open_;
      call = call;
      text = λ t. read_text g old mid ready.pending ready.idle r call.catalog
          (include_stack_filled old.limits (run_rules g old) g.unread old.table.macros old.conditions (g.has_known_texts old.sources) t old.files.include_stack b fills);
      work = (let same : work_left mid ≡ work_left old = work_same old mid b limits pending (ap (λ e. e.expansion) r.becomes) include_stack fills.unused in omega arith);
      keeps = filled_stores g old mid ready r fills call;
      reaches = reaches_one g old mid (record { after = mid; place = None; stands = Nowhere refl (InSources ready.idle (ap (λ e. e.expansion) r.becomes) (Unmarked (ap (λ e. e.marks) r.becomes))); becomes = refl });
      few = one_part _ refl;
    }

-- the main text is open
pub opened_phase : (p : Phase) → p ≡ Open → is_open p ≡ true
unfolding is_open
opened_phase p e = ap is_open e

-- an engine that goes on still does where bytes were filled in
pub ready_filled : {S R : Type 0} {g : Ghosts S R} (old mid : EngineView S R) → IsReady old → IsRead g old mid → IsSoundEngine mid.limits mid.phase mid.table mid.files mid.conditions → AreOpen mid.files → IsReady mid
ready_filled old mid ready r sound files = grind (arith, opened_phase)

-- what remains of an engine that goes on, where what it begins with ends the output
module _ {S R : Type 0} (g : Ghosts S R) (e : EngineView S R) where
  abbrev pub Fails : FaultKind → ℕ → List ℕ → Type 0
  Fails kind line word = left_by g e e.table.macros e.conditions e.files.include_stack ≡ leaves (fails (fault_at kind line word (state_of e))) (state_of e)

  -- a usage of what isn't defined
  pub left_undefined : (len : ℕ) → IsReady e → e.conditions.skipped ≡ None → 0 < length (held_of (inner_buffer e.files.include_stack)) → (inner_buffer e.files.include_stack).mode ≡ Plain → IsUsage (held_of (inner_buffer e.files.include_stack)) len
      → macro_named e.table.macros (usage_name (held_of (inner_buffer e.files.include_stack)) len) ≡ None → Fails fault.UndefinedMacro (inner_buffer e.files.include_stack).line (usage_name (held_of (inner_buffer e.files.include_stack)) len)
  unfolding state_of
  left_undefined len ready live some plain usage none =
      include_stack_undefined e.limits (run_rules g e) g.unread e.table.macros e.conditions live e.files.include_stack len some (inner_facts e.files ready.include_stack ready.files).ends plain usage none

  -- what is refused
  pub left_refused : (kind : FaultKind) → IsReady e → e.conditions.skipped ≡ None → 0 < length (held_of (inner_buffer e.files.include_stack)) → IsRefused (inner_buffer e.files.include_stack).mode (held_of (inner_buffer e.files.include_stack)) kind → Fails kind (inner_buffer e.files.include_stack).line []
  unfolding state_of
  left_refused kind ready live some refused =
      include_stack_refused e.limits (run_rules g e) g.unread e.table.macros e.conditions live e.files.include_stack kind some (inner_facts e.files ready.include_stack ready.files).ends refused

-- what remains where a line breaks the source
module _ {S R : Type 0} (g : Ghosts S R) (old mid : EngineView S R) (ready : IsReady old) (t : g.has_known_texts old.sources) where
  pub left_long_line : Fills (g.has_known_texts old.sources) g.unread fill.LineLong (inner_buffer old.files.include_stack) (inner_buffer mid.files.include_stack)
      → left_by g old old.table.macros old.conditions old.files.include_stack ≡ leaves (fails (fault_at fault.LineTooLong (inner_buffer mid.files.include_stack).line [] (state_of old))) (state_of old)
  unfolding state_of
  left_long_line fills =
      include_stack_long_line old.limits (run_rules g old) g.unread old.table.macros old.conditions (g.has_known_texts old.sources) t old.files.include_stack (inner_buffer mid.files.include_stack) ready.include_stack fills
      ∙ rw fills.line refl

  pub left_long_source : Fills (g.has_known_texts old.sources) g.unread fill.SourceLong (inner_buffer old.files.include_stack) (inner_buffer mid.files.include_stack)
      → left_by g old old.table.macros old.conditions old.files.include_stack ≡ leaves (fails (fault_at fault.SourceTooLong (inner_buffer mid.files.include_stack).line [] (state_of old))) (state_of old)
  unfolding state_of
  left_long_source fills =
      include_stack_long_source old.limits (run_rules g old) g.unread old.table.macros old.conditions (g.has_known_texts old.sources) t old.files.include_stack (inner_buffer mid.files.include_stack) ready.include_stack fills
      ∙ rw fills.line refl

  -- where a read fails the same remains
  pub left_unfilled : Fills (g.has_known_texts old.sources) g.unread fill.Failed (inner_buffer old.files.include_stack) (inner_buffer mid.files.include_stack)
      → left_by g old old.table.macros old.conditions old.files.include_stack ≡ left_by g old old.table.macros old.conditions (with_buffer (inner_buffer mid.files.include_stack) old.files.include_stack)
  left_unfilled fills = include_stack_unfilled old.limits (run_rules g old) g.unread old.table.macros old.conditions (g.has_known_texts old.sources) t old.files.include_stack (inner_buffer mid.files.include_stack) fills

  pub left_unheld : HoldsLine (g.has_known_texts old.sources) g.unread line.Failed (inner_buffer old.files.include_stack) (inner_buffer mid.files.include_stack)
      → left_by g old old.table.macros old.conditions old.files.include_stack ≡ left_by g old old.table.macros old.conditions (with_buffer (inner_buffer mid.files.include_stack) old.files.include_stack)
  left_unheld holds = include_stack_unheld old.limits (run_rules g old) g.unread old.table.macros old.conditions (g.has_known_texts old.sources) t old.files.include_stack (inner_buffer mid.files.include_stack) holds

  -- or the logical line of a `define` does
  module _ (live : old.conditions.skipped ≡ None) (some : 0 < length (held_of (inner_buffer old.files.include_stack))) (plain : (inner_buffer old.files.include_stack).mode ≡ Plain) (define : IsDirective Define (held_of (inner_buffer old.files.include_stack))) where
    pub left_long_define : HoldsLine (g.has_known_texts old.sources) g.unread line.TooLong (inner_buffer old.files.include_stack) (inner_buffer mid.files.include_stack)
        → left_by g old old.table.macros old.conditions old.files.include_stack ≡ leaves (fails (fault_at fault.LineTooLong (inner_buffer mid.files.include_stack).line [] (state_of old))) (state_of old)
    unfolding state_of
    left_long_define holds =
        include_stack_long_define old.limits (run_rules g old) g.unread old.table.macros old.conditions live (g.has_known_texts old.sources) t old.files.include_stack (inner_buffer mid.files.include_stack)
        some (inner_facts old.files ready.include_stack ready.files).ends plain define holds
        ∙ rw holds.extends.line refl

    pub left_cut_define : HoldsLine (g.has_known_texts old.sources) g.unread line.SourceLong (inner_buffer old.files.include_stack) (inner_buffer mid.files.include_stack)
        → left_by g old old.table.macros old.conditions old.files.include_stack ≡ leaves (fails (fault_at fault.SourceTooLong (inner_buffer mid.files.include_stack).line [] (state_of old))) (state_of old)
    unfolding state_of
    left_cut_define holds =
        include_stack_cut_define old.limits (run_rules g old) g.unread old.table.macros old.conditions live (g.has_known_texts old.sources) t old.files.include_stack (inner_buffer mid.files.include_stack)
        some (inner_facts old.files ready.include_stack ready.files).ends plain define holds
        ∙ rw holds.extends.line refl

-- no more is held than a line may have
pub held_few : {S R : Type 0} (e : EngineView S R) → IsSoundEngine e.limits e.phase e.table e.files e.conditions → AreOpen e.files → 0 < length e.files.include_stack → length (held_of (inner_buffer e.files.include_stack)) < 2 ^ 31
held_few e sound files some = grind (arith, inner_facts, held_room)

-- what stands where a mode is entered
pub entered_at : {R : Type 0} (include_stack : List (File R)) (next : Mode) → (inner_buffer (with_buffer (entered_mode (inner_buffer include_stack) next) include_stack)).at ≡ (inner_buffer include_stack).at
unfolding entered_mode
entered_at [] next = refl
entered_at (f ∷ outer) next = refl

pub entered_holds : {R : Type 0} (include_stack : List (File R)) (next : Mode) → held_of (inner_buffer (with_buffer (entered_mode (inner_buffer include_stack) next) include_stack)) ≡ held_of (inner_buffer include_stack)
unfolding entered_mode held_of
entered_holds [] next = refl
entered_holds (f ∷ outer) next = refl

-- the places of held bytes can be counted, and lie in the window
pub record IsRoom {S R : Type 0} (e : EngineView S R) (len start : ℕ) : Type 0 where
  pub inside : start + len ≤ length (inner_buffer e.files.include_stack).window
  pub few : start + len < 2 ^ 64

pub room_of : {S R : Type 0} (e : EngineView S R) (len start : ℕ) → IsReady e → len ≤ length (held_of (inner_buffer e.files.include_stack)) → start ≡ (inner_buffer e.files.include_stack).at → IsRoom e len start
room_of e len start ready inside is = grind (arith, inner_facts, held_room)

-- the text that is lent lies in the window
pub text_placed : {S R : Type 0} (old mid new : EngineView S R) (len lines start : ℕ) (next : Mode) → IsReady old → IsRoom old len start
    → mid ≡ record old { files = record old.files { include_stack = with_buffer (entered_mode (inner_buffer old.files.include_stack) next) old.files.include_stack } }
    → (marks : MarksView) → new ≡ record mid { files = record mid.files { include_stack = with_inner (consumed_file len lines) mid.files.include_stack }; marks = marks }
    → IsPlaced new (Source start (start + len))
text_placed {S} {R} old mid new len lines start next ready room enters marks uses = grind (arith, same_window, with_inner-length)

-- what is dropped of a short text
drop_min : (xs : List ℕ) (m k : ℕ) → m ≡ min (length xs) k → drop m xs ≡ drop k xs
drop_min [] m k e = drop-nil m ∙ sym (drop-nil k)
drop_min (x ∷ xs) zero zero e = refl
drop_min (x ∷ xs) (suc m) (suc k) e = drop_min xs m k (omega arith)
drop_min _ _ _ e = absurd (omega arith)

-- what stands after the word of a `define`
pub after_word : (line : List ℕ) (len m : ℕ) → length line ≡ len → m ≡ min len 7 → take (length line - m) (drop m line) ≡ drop 7 line
after_word line len m wide least =
    take_rest line m ∙ drop_min line m 7 (least ∙ ap (λ n. min n 7) (sym wide))

-- what a `define` gives of the same things
pub defined_same : (b n : ℕ) (macros : List Macro) (r1 r2 : List ℕ) (o : table_stored.Defined) → o ≡ define_of b n macros r1 → r1 ≡ r2 → define_of b n macros r2 ≡ o
defined_same b n macros r1 r2 o e r = rw (← r) (sym e)

-- a refused `define`, at a place
pub reads_refused : {S R : Type 0} (len : ℕ) (old new : EngineView S R) (place : Halt) → place ≡ Fault → RefusesDefine len old new → ReadsDefine len old new (Some place)
reads_refused {S} {R} len old new place is refuses = subst (λ (p : Halt). ReadsDefine len old new (Some p)) (sym is) refuses

-- a table of which only the macros changed
table_same : (old new : TableView) → new.most_bytes ≡ old.most_bytes → new.most_macros ≡ old.most_macros → new ≡ record old { macros = new.macros }
table_same old new bytes count = rw (← bytes, ← count) refl

-- an accepted `define`
pub defines_by : {S R : Type 0} (len : ℕ) (old now new : EngineView S R) (table : TableView) (pending : PendingView) (lines : ℕ)
    → now ≡ record old { table = table; files = record old.files { include_stack = with_inner (consumed_file len lines) old.files.include_stack } }
    → new ≡ record now { pending = pending } → pending ≡ record now.pending { line_ends = now.pending.line_ends + lines } → old.pending ≡ nothing_pending
    → (table.most_bytes ≡ old.table.most_bytes) × (table.most_macros ≡ old.table.most_macros)
    → define_of old.table.most_bytes old.table.most_macros old.table.macros (define_rest old len) ≡ table_stored.Accepted table.macros
    → lines ≡ line_ends (take len (held_of (inner_buffer old.files.include_stack))) → Defines len old new
unfolding nothing_pending line_ends_pending
defines_by {S} {R} len old now new table pending lines used queues adds nothing limits accepted counted = grind (arith, table_same)

-- it goes on in its open sources where no text of a usage is open
pub ready_idle : {S R : Type 0} (e : EngineView S R) → IsDrained e → e.expansion.opens ≡ [] → IsSoundEngine e.limits e.phase e.table e.files e.conditions → AreOpen e.files → IsReady e
ready_idle e drained idle sound files = grind (arith, opened_phase)

-- the same engine, with something else pending
pub owing : {S R : Type 0} (a b : EngineView S R) (pending : PendingView) → a ≡ b → record a { pending = pending } ≡ record b { pending = pending }
owing {S} {R} a b pending same = ap (λ (e : EngineView S R). record e { pending = pending }) same
