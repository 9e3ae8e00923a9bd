-- The opening of a usage and the steps of its open texts, as steps of the engine.
use Rattle.std.proofs.Common.{◌≡◌, ◌==◌, ◌⊎◌, inl, inr, ℕ, ◌^◌, ◌<◌, true, false, List, [], ◌∷◌, length, Option, None, Some, Ok, refl, sym, ap, ◌∙◌, subst, arith, ◌++◌, ◌≤◌, ◌+◌, drop, Err}
use Rattle.rdlpp_scan.specs.declared.token.Mode.TheVariants.{Plain}
use Rattle.rdlpp_define.specs.Macros.{Macro}
use Rattle.rdlpp_define.specs.Table.{macro_named}
use Rattle.rdlpp_define.specs.declared.limits.Limits.{Limits}
use Rattle.rdlpp_meaning.specs.Meaning.{Passage, Progress, after_bytes, goes_on, leaves}
use Rattle.rdlpp_meaning.specs.OpenItems.{open_left}
use Rattle.rdlpp_meaning.specs.Opened.{Waiting}
use Rattle.rdlpp_meaning.specs.Opens.{Open, Texts}
use Rattle.rdlpp_meaning.specs.Outcome.{Outcome, Report, and_then, fails, gives}
use Rattle.rdlpp_meaning.specs.Parts.{only_blanks}
use Rattle.rdlpp_meaning.specs.Profile.{rules_of}
use Rattle.rdlpp_meaning.specs.State.{Rules, State, fault_at}
use Rattle.rdlpp_meaning.specs.declared.fault.FaultKind.{FaultKind}
use Rattle.rdlpp_meaning.specs.declared.fault.FaultKind.TheVariants as fault
use Rattle.rdlpp_meaning.proofs.Outcomes.{and_then-gives_nil, fails-goes_on}
use Rattle.rdlpp_source.specs.Sources.{Catalog}
use Rattle.rdlpp_source.specs.declared.sources.Sources.{Ghosts}
use Rattle.rdlpp_texts.specs.Digits.{AreFalling, IsFalling, cursor_digits}
use Rattle.rdlpp_texts.specs.Places.{IsPlaced as IsTextPlaced, place_bytes, texts_of}
use Rattle.rdlpp_texts.specs.Steps.{AreSound, IsPlacedStep, IsStep, StepsTo}
use Rattle.rdlpp_texts.specs.Usages.{IsTextFault, is_text_fault}
use Rattle.rdlpp_texts.specs.declared.place.TextPlace.{TextPlace}
use Rattle.rdlpp_texts.specs.declared.step.CursorFault.{CursorFault}
use Rattle.rdlpp_texts.specs.declared.step.CursorStep.{CursorStep}
use Rattle.rdlpp_texts.specs.declared.step.CursorStep.TheVariants.{Lends, Refused as RefusedStep, Silent}
use Rattle.rdlpp_texts.proofs.Falling.{digits-count, digits-short}
use Rattle.rdlpp_read.specs.Conditions.{ConditionsView, own_conditions}
use Rattle.rdlpp_read.specs.Buffer.{BufferView, closed_buffer, held_of, reading_line_of, text_left, unused_of}
use Rattle.rdlpp_read.specs.Files.{FilesView, consumed_file, inner_buffer, source_digits, ends_mid_line_after, with_inner}
use Rattle.rdlpp_read.specs.declared.files.File.{File}
use Rattle.rdlpp_read.proofs.BufferTokens.{moves-told, ends_mid_line_after-append}
use Rattle.rdlpp_front.specs.SourceItems.{IsUsage, usage_name}
use Rattle.rdlpp_front.proofs.Insides.{usage_inside}
use Rattle.rdlpp_usages.specs.Usages.{ExpansionView, IsExactOpening, IsRoomy, IsRun, KeepsUsage, StaysAt, StaysLent, StaysOpen, TakesUsageStep, TellsUsage, UsesSource, inner_left, is_opened, is_usage_fault, texts_left}
use Rattle.rdlpp_usages.specs.declared.expansion.Opening.{Opening}
use Rattle.rdlpp_usages.specs.declared.expansion.Opening.TheVariants.{Broken, Failed, Opened, Refused}
use Rattle.rdlpp_state.specs.Calls.{SourcesCalled}
use Rattle.rdlpp_state.specs.Engine.{AreOpenTexts, EngineView, IsSoundEngine}
use Rattle.rdlpp_state.specs.Failures.{MayGoOn}
use Rattle.rdlpp_state.specs.Held.{IsBounded}
use Rattle.rdlpp_state.specs.Marks.{lends_usage}
use Rattle.rdlpp_state.specs.Moves.{IsReady, IsDrained}
use Rattle.rdlpp_state.specs.Pending.{nothing_pending, pending_bytes, pending_pieces}
use Rattle.rdlpp_state.specs.Pieces.{halted_answer, held_texts, lent_answer}
use Rattle.rdlpp_state.specs.Remaining.{file_state, inner_name, include_stack_left, include_stack_state, run_rules, source_rules, state_of, text_of, work_left}
use Rattle.rdlpp_state.specs.Standing.{AtCursor, InTexts, Nowhere, OpensText, OpensUsage, Turns}
use Rattle.rdlpp_state.specs.Steps.{BeforeCall, FaultsWhere, InCall, IsOwn, OnRead, StopsInCall, UncutStep, is_call_failed, is_memory_kind, is_read_failed, is_write_failed}
use Rattle.rdlpp_state.specs.declared.place.Halt.{Halt}
use Rattle.rdlpp_state.specs.declared.place.Halt.TheVariants.{Fault}
use Rattle.rdlpp_state.specs.declared.place.PieceLocation.TheVariants.{Text}
use Rattle.rdlpp_state.proofs.WorkFacts.{IsUsed, cursors_fall, held_room, idle_digits, work_opens}
use Rattle.rdlpp_state.proofs.IncludeSteps.{include_stack_macros}
use Rattle.rdlpp_state.proofs.EngineSteps.{called, kept_at, no_part, not_called, reaches_same, walks_ceased, walks_fault, walks_kept, walks_lent}
use Rattle.rdlpp_state.proofs.FrontSteps.{IsRead, after_twice, keeps_fault, keeps_files, keeps_moves, left_by, read_nothing, told_kind, drained_after, drained_few}
use Rattle.rdlpp_state.proofs.Stores.{KeepsStores, keeps_broken, keeps_opened, keeps_refused, keeps_texts, own_by, own_failed, own_stops, parts_moved, read_stops}
use Rattle.rdlpp_state.proofs.Soundness.{silent_texts}
use Rattle.rdlpp_state.proofs.IncludeStackLeft.{around, at_live, waiting_same}
use Rattle.rdlpp_state.proofs.LentPieces.{usage_position}

-- The steps of the open texts of a usage, as steps of the engine.

-- bytes in front of what goes on
goes_by : (bytes xs : List ℕ) (f : Option Report) (s : State) (next : State → Passage)
    → goes_on (leaves (and_then (gives bytes) (record { bytes = xs; fault = f })) s) next ≡ after_bytes bytes (goes_on (leaves (record { bytes = xs; fault = f }) s) next)
unfolding goes_on leaves and_then gives after_bytes
goes_by bytes xs None s next = after_twice bytes xs (next s)
goes_by bytes xs (Some f) s next = refl

pub goes_after : (bytes : List ℕ) (o : Outcome) (s : State) (next : State → Passage) → goes_on (leaves (and_then (gives bytes) o) s) next ≡ after_bytes bytes (goes_on (leaves o s) next)
goes_after bytes o s next = goes_by bytes o.bytes o.fault s next

-- nothing is left where no text is open
left_none : (rules : Rules) (s : State) (line depth : ℕ) (texts : Texts) (opens : List Open) → opens ≡ [] → open_left rules s line depth texts opens ≡ gives []
unfolding open_left
left_none rules s line depth texts opens none = ap (λ (os : List Open). open_left rules s line depth texts os) none

-- the kept bytes are the same, or no text is open in them
same_kept : (rules : Rules) (s : State) (macros : List Macro) (line depth : ℕ) (opens : List Open) (a b : List ℕ) → (b ≡ a) ⊎ ((opens ≡ []) × (b ≡ []))
    → open_left rules s line depth (texts_of macros a) opens ≡ open_left rules s line depth (texts_of macros b) opens
same_kept rules s macros line depth opens a b (inl same) = ap (λ (x : List ℕ). open_left rules s line depth (texts_of macros x) opens) (sym same)
same_kept rules s macros line depth opens a b (inr none) =
    left_none rules s line depth (texts_of macros a) opens none.0 ∙ sym (left_none rules s line depth (texts_of macros b) opens none.0)

same_left : (rules : Rules) (s : State) (macros : List Macro) (old new : ExpansionView) → StaysOpen old new
    → open_left rules s old.line old.depth (texts_of macros old.arguments) new.opens ≡ open_left rules s new.line new.depth (texts_of macros new.arguments) new.opens
same_left rules s macros old new stays = grind (arith, same_kept)

-- the open texts go on over some bytes, before what goes on after them
texts_go : (rules : Rules) (s : State) (macros : List Macro) (old new : ExpansionView) (bytes : List ℕ) (p : Passage)
    → open_left rules s old.line old.depth (texts_of macros old.arguments) old.opens ≡ and_then (gives bytes) (open_left rules s old.line old.depth (texts_of macros old.arguments) new.opens) → StaysOpen old new
    → goes_on (texts_left rules s macros old) (λ after. p) ≡ after_bytes bytes (goes_on (texts_left rules s macros new) (λ after. p))
unfolding texts_left
texts_go rules s macros old new bytes p goes stays = grind (arith, goes_after, same_left)

-- or end with a fault
texts_fail : (rules : Rules) (s : State) (macros : List Macro) (x : ExpansionView) (f : Report) (p : Passage)
    → open_left rules s x.line x.depth (texts_of macros x.arguments) x.opens ≡ fails f → goes_on (texts_left rules s macros x) (λ after. p) ≡ leaves (fails f) s
unfolding texts_left
texts_fail rules s macros x f p ends = ap (λ (o : Outcome). goes_on (leaves o s) (λ after. p)) ends ∙ fails-goes_on f s (λ after. p)

-- a fault of open texts is a text's own
pub text_kind : (kind : FaultKind) → is_text_fault kind ≡ true → IsOwn kind
unfolding is_text_fault
text_kind kind h = own_by is_text_fault refl refl refl kind h

-- what always holds of an engine and of its open texts, between steps
pub record HoldsTexts {S R : Type 0} (e : EngineView S R) (x : ExpansionView) : Type 0 where
  pub sound : IsSoundEngine e.limits e.phase e.table e.files e.conditions
  pub texts : AreOpenTexts e.limits e.phase e.table.macros e.expansion
  pub room : IsRoomy e.expansion
  pub now_room : IsRoomy x

module _ {S R : Type 0} (g : Ghosts S R) (old : EngineView S R) (x : ExpansionView) (drained : IsDrained old) (holds : HoldsTexts old x) where
  -- what remains of the text
  text_goes : (bytes : List ℕ) → StaysOpen old.expansion x
      → open_left (run_rules g old) (state_of old) old.expansion.line old.expansion.depth (held_texts old) old.expansion.opens
      ≡ and_then (gives bytes) (open_left (run_rules g old) (state_of old) old.expansion.line old.expansion.depth (held_texts old) x.opens)
      → text_of g old ≡ after_bytes bytes (text_of g (record old { expansion = x }))
  unfolding text_of state_of
  text_goes bytes stays goes =
      let name = inner_name old.files.include_stack in
      let p = left_by g old old.table.macros old.conditions old.files.include_stack in
      drained_after name old.pending (goes_on (texts_left (run_rules g old) (state_of old) old.table.macros old.expansion) (λ after. p)) drained.pending
      ∙ (texts_go (run_rules g old) (state_of old) old.table.macros old.expansion x bytes p goes stays
      ∙ ap (after_bytes bytes) (sym (drained_after name old.pending (goes_on (texts_left (run_rules g old) (state_of old) old.table.macros x) (λ after. p)) drained.pending)))

  -- the work left falls
  work_texts : StaysOpen old.expansion x → AreSound (texts_of old.table.macros x.arguments) x.opens → AreFalling (cursor_digits old.expansion.opens) (cursor_digits x.opens)
      → work_left (record old { expansion = x }) < work_left old
  unfolding work_left
  work_texts stays sound falls =
      let before = digits-count old.expansion.opens in
      let count = digits-count x.opens in
      let few = holds.room.few in
      let now_few = holds.now_room.few in
      let depth = stays.depth in
      let depth_is = holds.texts.depth_is in
      let fits = holds.now_room.fits in
      let most = stays.most in
      let most_is = holds.texts.most_is in
      let range = holds.sound.in_range.argument_bytes.1 in
      let bytes = holds.sound.in_range.definition_bytes.1 in
      let size = holds.sound.size in
      let bytes_is = holds.sound.definition_bytes in
      cursors_fall old.limits.includes old.limits.depth (pending_pieces old.pending) (pending_pieces old.pending) (source_digits old.files.include_stack) (cursor_digits old.expansion.opens) (cursor_digits x.opens) falls
      (omega arith) (omega arith)
      (digits-short 16777216 (2 ^ 31) (texts_of old.table.macros x.arguments) x.opens (record { definitions = omega arith; arguments = omega arith }) sound.are_inside (omega arith))
      (drained_few old.pending drained.pending)

  -- bytes of a text are lent
  pub texts_lend : (place : TextPlace) → (let after = record old { expansion = x; marks = lends_usage old.expansion.line old.marks } in IsBounded after) → TakesUsageStep old.table.macros old.expansion (Lends place) x
      → (let after = record old { expansion = x; marks = lends_usage old.expansion.line old.marks } in UncutStep g old after (lent_answer after (Text place)))
  unfolding IsStep StepsTo IsFalling StaysLent state_of lends_usage text_of work_left
  texts_lend place bounded t =
      let goes = t.step (run_rules g old) (state_of old) (include_stack_macros old.limits old.table.macros old.conditions old.files.include_stack) in
      let marks = lends_usage old.expansion.line old.marks in
      let after = record old { expansion = x; marks = marks } in
      subst (λ (xs : List ℕ). UncutStep g old after (Ok (Some xs))) (ap (λ (a : List ℕ). place_bytes (texts_of old.table.macros a) place) (sym t.lends.1))
      (walks_lent g old after drained.free drained.open_ bounded (place_bytes (held_texts old) place) refl (refl, refl) (not_called g old.sources)
      (λ _. text_goes (place_bytes (held_texts old) place) t.stays goes) (work_texts t.stays t.sound t.digits) (keeps_texts g old x marks drained.free t.stays t.outer t.lets_go)
      (AtCursor place drained.pending t.stands refl t.turns (usage_position old x drained.free drained.open_) refl))

  -- a text was opened or closed
  pub texts_turn : IsBounded (record old { expansion = x }) → TakesUsageStep old.table.macros old.expansion Silent x → UncutStep g old (record old { expansion = x }) (Ok (Some []))
  unfolding IsStep StepsTo IsFalling state_of
  texts_turn bounded t =
      walks_lent g old (record old { expansion = x }) drained.free drained.open_ bounded [] refl (refl, refl) (not_called g old.sources)
      (λ _. text_goes [] t.stays (t.step (run_rules g old) (state_of old) (include_stack_macros old.limits old.table.macros old.conditions old.files.include_stack)
      ∙ sym (and_then-gives_nil (open_left (run_rules g old) (state_of old) old.expansion.line old.expansion.depth (held_texts old) x.opens)))) (work_texts t.stays t.sound t.digits)
      (keeps_texts g old x old.marks drained.free t.stays t.outer t.lets_go) (Nowhere refl (InTexts drained.pending refl t.step t.turns t.sound))

-- the open texts end with a fault, and nothing else changes
pub texts_refuse : {S R : Type 0} (g : Ghosts S R) (old mid new : EngineView S R) (place : Halt) (fault : CursorFault) → IsDrained old → IsBounded new → mid ≡ old → place ≡ Fault
    → new ≡ record mid { kept = Some (fault_at fault.kind mid.expansion.line (place_bytes (held_texts mid) fault.word) (state_of mid)) } → is_text_fault fault.kind ≡ true
    → IsStep old.expansion.line old.expansion.depth (held_texts old) old.expansion.opens (RefusedStep fault) mid.expansion.opens → UncutStep g old new (halted_answer new place)
unfolding IsStep StepsTo state_of text_of
texts_refuse {S} {R} g old mid new place fault drained bounded same is kept own step =
    let word = place_bytes (held_texts old) fault.word in
    let f : Report = fault_at fault.kind old.expansion.line word (state_of old) in
    let becomes : new ≡ record old { kept = Some f } =
    subst (λ (m : EngineView S R). new ≡ record m { kept = Some (fault_at fault.kind m.expansion.line (place_bytes (held_texts m) fault.word) (state_of m)) }) same kept in
    let r : IsRead g old old = read_nothing old in
    let P : S → Type 0 = λ s. SourcesCalled g false false old.sources s in
    let here : state_of old ≡ state_of new = sym (ap (λ (e : EngineView S R). include_stack_state e.limits e.table.macros e.conditions e.files.include_stack) becomes) in
    let p = left_by g old old.table.macros old.conditions old.files.include_stack in
    kept_at g old new place f is (ap (λ e. e.kept) becomes)
    (walks_fault g old new drained.free drained.open_ bounded f (told_kind fault.kind old.expansion.line word (state_of old) (text_kind fault.kind own))
    (keeps_fault old old new f r becomes) (keeps_files old old new f r becomes) (keeps_moves old old new f r becomes) drained.pending (subst P (sym (ap (λ e. e.sources) becomes)) (not_called g old.sources))
    (λ t. drained_after (inner_name old.files.include_stack) old.pending (goes_on (texts_left (run_rules g old) (state_of old) old.table.macros old.expansion) (λ after. p)) drained.pending
    ∙ (texts_fail (run_rules g old) (state_of old) old.table.macros old.expansion f p
    (step (run_rules g old) (state_of old) (include_stack_macros old.limits old.table.macros old.conditions old.files.include_stack))
    ∙ ap (leaves (fails f)) here))
    (subst (λ (e : EngineView S R). KeepsStores g old e) (sym becomes) (keeps_refused g old f (own_failed f.kind (told_kind fault.kind old.expansion.line word (state_of old) (text_kind fault.kind own))))))

-- the same engine, with other open texts
pub opening : {S R : Type 0} (a b : EngineView S R) (x : ExpansionView) → a ≡ b → record a { expansion = x } ≡ record b { expansion = x }
opening {S} {R} a b x same = ap (λ (e : EngineView S R). record e { expansion = x }) same

pub some_open : (opens : List Open) → (length opens == 0) ≡ false → 0 < length opens
some_open [] e = cc e
some_open (x ∷ below) e = omega arith

module _ {S R : Type 0} (g : Ghosts S R) (old : EngineView S R) (x : ExpansionView) (result : CursorStep) (drained : IsDrained old) (takes : TakesUsageStep old.table.macros old.expansion result x) where
  -- a step that lends bytes
  pub lend_step : (new : EngineView S R) (place : TextPlace) → HoldsTexts old x → result ≡ Lends place → new ≡ record old { expansion = x; marks = lends_usage old.expansion.line old.marks } → IsBounded new → UncutStep g old new (lent_answer new (Text place))
  lend_step new place holds is becomes bounded =
      subst (λ (e : EngineView S R). UncutStep g old e (lent_answer e (Text place))) (sym becomes)
      (texts_lend g old x drained holds place (subst (λ (e : EngineView S R). IsBounded e) becomes bounded) (subst (λ (r : CursorStep). TakesUsageStep old.table.macros old.expansion r x) is takes))

  -- one that lends none
  pub turn_step : (new : EngineView S R) → HoldsTexts old x → result ≡ Silent → new ≡ record old { expansion = x } → IsBounded new → UncutStep g old new (Ok (Some []))
  turn_step new holds is becomes bounded =
      subst (λ (e : EngineView S R). UncutStep g old e (Ok (Some []))) (sym becomes)
      (texts_turn g old x drained holds (subst (λ (e : EngineView S R). IsBounded e) becomes bounded) (subst (λ (r : CursorStep). TakesUsageStep old.table.macros old.expansion r x) is takes))

  -- one that is refused
  pub refuse_step : (mid new : EngineView S R) (place : Halt) (fault : CursorFault) → result ≡ RefusedStep fault → mid ≡ record old { expansion = x } → IsBounded new → place ≡ Fault
      → new ≡ record mid { kept = Some (fault_at fault.kind mid.expansion.line (place_bytes (held_texts mid) fault.word) (state_of mid)) } → is_text_fault fault.kind ≡ true → UncutStep g old new (halted_answer new place)
  unfolding StaysAt
  refuse_step mid new place fault is becomes bounded at kept own =
      let t : TakesUsageStep old.table.macros old.expansion (RefusedStep fault) x = subst (λ (r : CursorStep). TakesUsageStep old.table.macros old.expansion r x) is takes in
      let stays : x ≡ old.expansion = t.refused in
      let same : mid ≡ old = becomes ∙ ap (λ (y : ExpansionView). record old { expansion = y }) stays in
      texts_refuse g old mid new place fault drained bounded same at kept own
      (subst (λ (os : List Open). IsStep old.expansion.line old.expansion.depth (held_texts old) old.expansion.opens (RefusedStep fault) os) (sym (ap (λ (e : EngineView S R). e.expansion.opens) becomes)) t.step)

-- a place that is lent lies in its text, and so does the word of a fault
pub placed_lent : (texts : Texts) (result : CursorStep) (place : TextPlace) → result ≡ Lends place → IsPlacedStep texts result → IsTextPlaced texts place
unfolding IsPlacedStep
placed_lent texts result place is placed = let p : IsPlacedStep texts (Lends place) = subst (λ (r : CursorStep). IsPlacedStep texts r) is placed in p

pub placed_word : (texts : Texts) (result : CursorStep) (fault : CursorFault) → result ≡ RefusedStep fault → IsPlacedStep texts result → IsTextPlaced texts fault.word
unfolding IsPlacedStep
placed_word texts result fault is placed = let p : IsPlacedStep texts (RefusedStep fault) = subst (λ (r : CursorStep). IsPlacedStep texts r) is placed in p

-- and its kind is one of open texts
pub fault_text : (result : CursorStep) (fault : CursorFault) → result ≡ RefusedStep fault → IsTextFault result → is_text_fault fault.kind ≡ true
fault_text result fault is kind = let p : IsTextFault (RefusedStep fault) = subst (λ (r : CursorStep). IsTextFault r) is kind in p

-- A usage that is opened: what remained of the open sources is its open texts and then what remains of the open sources after it.

-- what goes on from a state goes on from that one alone
goes_from_by : (bytes : List ℕ) (f : Option Report) (s : State) (next : State → Passage)
    → goes_on (leaves (record { bytes = bytes; fault = f }) s) next ≡ goes_on (leaves (record { bytes = bytes; fault = f }) s) (λ after. next s)
unfolding goes_on leaves
goes_from_by bytes None s next = refl
goes_from_by bytes (Some f) s next = refl

goes_from_outcome : (o : Outcome) (s : State) (next : State → Passage) → goes_on (leaves o s) next ≡ goes_on (leaves o s) (λ after. next s)
goes_from_outcome o s next = goes_from_by o.bytes o.fault s next

goes_from : (rules : Rules) (s : State) (macros : List Macro) (x : ExpansionView) (next : State → Passage)
    → goes_on (texts_left rules s macros x) next ≡ goes_on (texts_left rules s macros x) (λ after. next s)
unfolding texts_left
goes_from rules s macros x next = goes_from_outcome _ s next

-- the innermost source with bytes of it used
abbrev pub used_file : {R : Type 0} → BufferView R → List ℕ → File R → File R
used_file b used f = record f { buffer = b; blanks = only_blanks f.blanks used; ends_mid_line = ends_mid_line_after f.ends_mid_line used }

module _ {R : Type 0} (limits : Limits) (rules : Rules) (unread : R → List ℕ) (macros : List Macro) (v : ConditionsView) (live : v.skipped ≡ None) where
  -- what remains of the open sources is what remains of the innermost, with those that wait around it
  left_inner : (f : File R) (outer : List (File R))
      → include_stack_left limits rules unread macros v (f ∷ outer)
      ≡ inner_left rules unread (around limits rules unread macros v f outer) (own_conditions f.conditions_below v) (f ∷ outer) (include_stack_state limits macros v (f ∷ outer))
  unfolding inner_left
  left_inner f outer = at_live limits rules unread macros v live f outer _ refl

  -- a source ends as it did where bytes of it are used
  ends_used : (f : File R) (b : BufferView R) (used : List ℕ) → text_left unread f.buffer ≡ used ++ text_left unread b
      → ends_mid_line_after (used_file b used f).ends_mid_line (text_left unread b) ≡ ends_mid_line_after f.ends_mid_line (text_left unread f.buffer)
  ends_used f b used text = sym (ends_mid_line_after-append f.ends_mid_line used (text_left unread b)) ∙ ap (ends_mid_line_after f.ends_mid_line) (sym text)

  -- a usage that is opened
  pub opened_left : (f : File R) (outer : List (File R)) (b : BufferView R) (used : List ℕ) (x : ExpansionView) (line : ℕ) (name : List ℕ) → text_left unread f.buffer ≡ used ++ text_left unread b
      → TellsUsage rules (include_stack_state limits macros v (f ∷ outer)) unread (around limits rules unread macros v f outer) (own_conditions f.conditions_below v) macros line name Opened x (f ∷ outer) (used_file b used f ∷ outer)
      → include_stack_left limits rules unread macros v (f ∷ outer)
      ≡ goes_on (texts_left rules (include_stack_state limits macros v (f ∷ outer)) macros x) (λ after. include_stack_left limits rules unread macros v (used_file b used f ∷ outer))
  unfolding include_stack_state file_state
  opened_left f outer b used x line name text means = grind (arith, left_inner, goes_from, waiting_same, ends_used)

  -- one that is refused, at its line about its name
  pub refused_left : (f : File R) (outer new : List (File R)) (x : ExpansionView) (kind : FaultKind) (line : ℕ) (name : List ℕ)
      → TellsUsage rules (include_stack_state limits macros v (f ∷ outer)) unread (around limits rules unread macros v f outer) (own_conditions f.conditions_below v) macros line name (Refused kind) x (f ∷ outer) new
      → include_stack_left limits rules unread macros v (f ∷ outer) ≡ leaves (fails (fault_at kind line name (include_stack_state limits macros v (f ∷ outer)))) (include_stack_state limits macros v (f ∷ outer))
  refused_left f outer new x kind line name means = left_inner f outer ∙ means

  -- and one whose call is broken, at that line about no word
  pub broken_left : (f : File R) (outer new : List (File R)) (x : ExpansionView) (kind : FaultKind) (own line : ℕ) (name : List ℕ)
      → TellsUsage rules (include_stack_state limits macros v (f ∷ outer)) unread (around limits rules unread macros v f outer) (own_conditions f.conditions_below v) macros line name (Broken kind own) x (f ∷ outer) new
      → include_stack_left limits rules unread macros v (f ∷ outer) ≡ leaves (fails (fault_at kind own [] (include_stack_state limits macros v (f ∷ outer)))) (include_stack_state limits macros v (f ∷ outer))
  broken_left f outer new x kind own line name means = left_inner f outer ∙ means

  -- that usage, where bytes of the innermost source are used, and nothing else of the sources changed
  pub opened_include_stack : (include_stack new : List (File R)) (used : List ℕ) (x : ExpansionView) (line : ℕ) (name : List ℕ) → 0 < length include_stack → new ≡ with_inner (used_file (inner_buffer new) used) include_stack
      → text_left unread (inner_buffer include_stack) ≡ used ++ text_left unread (inner_buffer new)
      → ((s : State) (ws : List Waiting) (os : List Progress) → s.macros ≡ macros → TellsUsage rules s unread ws os macros line name Opened x include_stack new)
      → include_stack_left limits rules unread macros v include_stack ≡ goes_on (texts_left rules (include_stack_state limits macros v include_stack) macros x) (λ after. include_stack_left limits rules unread macros v new)
  opened_include_stack [] new used x line name some uses text means = absurd (omega arith)
  opened_include_stack (f ∷ outer) new used x line name some uses text means =
      let s = include_stack_state limits macros v (f ∷ outer) in
      let ws = around limits rules unread macros v f outer in
      let os = own_conditions f.conditions_below v in
      let now : new ≡ used_file (inner_buffer new) used f ∷ outer = uses in
      subst (λ (n : List (File R)). include_stack_left limits rules unread macros v (f ∷ outer) ≡ goes_on (texts_left rules s macros x) (λ after. include_stack_left limits rules unread macros v n)) (sym now)
      (opened_left f outer (inner_buffer new) used x line name text
      (subst (λ (n : List (File R)). TellsUsage rules s unread ws os macros line name Opened x (f ∷ outer) n) now (means s ws os (include_stack_macros limits macros v (f ∷ outer)))))

  -- one that is refused
  pub refused_include_stack : (include_stack new : List (File R)) (x : ExpansionView) (kind : FaultKind) (line : ℕ) (name : List ℕ) → 0 < length include_stack
      → ((s : State) (ws : List Waiting) (os : List Progress) → s.macros ≡ macros → TellsUsage rules s unread ws os macros line name (Refused kind) x include_stack new)
      → include_stack_left limits rules unread macros v include_stack ≡ leaves (fails (fault_at kind line name (include_stack_state limits macros v include_stack))) (include_stack_state limits macros v include_stack)
  refused_include_stack [] new x kind line name some means = absurd (omega arith)
  refused_include_stack (f ∷ outer) new x kind line name some means =
      refused_left f outer new x kind line name
      (means (include_stack_state limits macros v (f ∷ outer)) (around limits rules unread macros v f outer) (own_conditions f.conditions_below v) (include_stack_macros limits macros v (f ∷ outer)))

  -- and one whose call is broken
  pub broken_include_stack : (include_stack new : List (File R)) (x : ExpansionView) (kind : FaultKind) (own line : ℕ) (name : List ℕ) → 0 < length include_stack
      → ((s : State) (ws : List Waiting) (os : List Progress) → s.macros ≡ macros → TellsUsage rules s unread ws os macros line name (Broken kind own) x include_stack new)
      → include_stack_left limits rules unread macros v include_stack ≡ leaves (fails (fault_at kind own [] (include_stack_state limits macros v include_stack))) (include_stack_state limits macros v include_stack)
  broken_include_stack [] new x kind own line name some means = absurd (omega arith)
  broken_include_stack (f ∷ outer) new x kind own line name some means =
      broken_left f outer new x kind own line name
      (means (include_stack_state limits macros v (f ∷ outer)) (around limits rules unread macros v f outer) (own_conditions f.conditions_below v) (include_stack_macros limits macros v (f ∷ outer)))

-- bytes of the innermost source that are used change no state
pub used_state : {R : Type 0} (limits : Limits) (macros : List Macro) (v : ConditionsView) (b : BufferView R) (used : List ℕ) (include_stack : List (File R))
    → include_stack_state limits macros v (with_inner (used_file b used) include_stack) ≡ include_stack_state limits macros v include_stack
unfolding include_stack_state file_state
used_state limits macros v b used [] = refl
used_state limits macros v b used (f ∷ outer) = refl

-- what remains of the text of an engine, by the same rules in the open texts and in the sources
abbrev pub text_by : {S R : Type 0} → Rules → Ghosts S R → EngineView S R → Passage
text_by rules g e = after_bytes (pending_bytes (inner_name e.files.include_stack) e.pending)
    (goes_on (texts_left rules (state_of e) e.table.macros e.expansion)
    (λ after. include_stack_left e.limits rules g.unread e.table.macros e.conditions e.files.include_stack))

module _ {S R : Type 0} (g : Ghosts S R) (rules : Rules) (e : EngineView S R) (drained : e.pending ≡ nothing_pending) (idle : e.expansion.opens ≡ []) (live : e.conditions.skipped ≡ None) (some : 0 < length e.files.include_stack) where
  -- it is what remains of the open sources, where nothing is pending and no text is open
  text_sources : text_by rules g e ≡ include_stack_left e.limits rules g.unread e.table.macros e.conditions e.files.include_stack
  text_sources =
      let p = include_stack_left e.limits rules g.unread e.table.macros e.conditions e.files.include_stack in
      drained_after (inner_name e.files.include_stack) e.pending (goes_on (texts_left rules (state_of e) e.table.macros e.expansion) (λ after. p)) drained
      ∙ silent_texts rules (state_of e) e.table.macros e.expansion p idle

  -- before a usage that is opened it is that of the engine with the texts open and the source after the usage
  pub opened_text : (new : List (File R)) (used : List ℕ) (x : ExpansionView) (s : S) (line : ℕ) (name : List ℕ) → new ≡ with_inner (used_file (inner_buffer new) used) e.files.include_stack
      → text_left g.unread (inner_buffer e.files.include_stack) ≡ used ++ text_left g.unread (inner_buffer new)
      → ((t : State) (ws : List Waiting) (os : List Progress) → t.macros ≡ e.table.macros → TellsUsage rules t g.unread ws os e.table.macros line name Opened x e.files.include_stack new)
      → text_by rules g e ≡ text_by rules g (record e { files = record e.files { include_stack = new }; sources = s; expansion = x })
  unfolding state_of
  opened_text new used x s line name uses text means =
      let p = include_stack_left e.limits rules g.unread e.table.macros e.conditions new in
      let here : include_stack_state e.limits e.table.macros e.conditions new ≡ include_stack_state e.limits e.table.macros e.conditions e.files.include_stack =
      ap (include_stack_state e.limits e.table.macros e.conditions) uses ∙ used_state e.limits e.table.macros e.conditions (inner_buffer new) used e.files.include_stack in
      text_sources
      ∙ (opened_include_stack e.limits rules g.unread e.table.macros e.conditions live e.files.include_stack new used x line name some uses text means
      ∙ (ap (λ (t : State). goes_on (texts_left rules t e.table.macros x) (λ after. p)) (sym here)
      ∙ sym (drained_after (inner_name new) e.pending (goes_on (texts_left rules (include_stack_state e.limits e.table.macros e.conditions new) e.table.macros x) (λ after. p)) drained)))

  -- before one that is refused it is the fault
  pub refused_text : (new : List (File R)) (x : ExpansionView) (kind : FaultKind) (line : ℕ) (name : List ℕ)
      → ((t : State) (ws : List Waiting) (os : List Progress) → t.macros ≡ e.table.macros → TellsUsage rules t g.unread ws os e.table.macros line name (Refused kind) x e.files.include_stack new)
      → text_by rules g e ≡ leaves (fails (fault_at kind line name (state_of e))) (state_of e)
  unfolding state_of
  refused_text new x kind line name means = text_sources ∙ refused_include_stack e.limits rules g.unread e.table.macros e.conditions live e.files.include_stack new x kind line name some means

  -- and so it is before one whose call is broken
  pub broken_text : (new : List (File R)) (x : ExpansionView) (kind : FaultKind) (own line : ℕ) (name : List ℕ)
      → ((t : State) (ws : List Waiting) (os : List Progress) → t.macros ≡ e.table.macros → TellsUsage rules t g.unread ws os e.table.macros line name (Broken kind own) x e.files.include_stack new)
      → text_by rules g e ≡ leaves (fails (fault_at kind own [] (state_of e))) (state_of e)
  unfolding state_of
  broken_text new x kind own line name means = text_sources ∙ broken_include_stack e.limits rules g.unread e.table.macros e.conditions live e.files.include_stack new x kind own line name some means

-- The opening of a usage, as a step of the engine.

-- the innermost source is used, and no other one changed
used_include_stack : {R : Type 0} (include_stack new : List (File R)) (used : List ℕ) → 0 < length include_stack → new ≡ with_inner (used_file (inner_buffer new) used) include_stack
    → 0 < length used → unused_of (inner_buffer new) + length used ≡ unused_of (inner_buffer include_stack) → IsUsed include_stack new
used_include_stack [] new used some uses has unused = absurd (omega arith)
used_include_stack (f ∷ outer) new used some uses has unused = record { fewer = omega arith; outer = ap (drop 1) uses; size = ap length uses }

-- the bytes of its name are accepted
usage_within : {R : Type 0} (include_stack : List (File R)) (n : ℕ) → 0 < n → n ≤ length (held_of (inner_buffer include_stack)) → (inner_buffer (with_inner (consumed_file n 0) include_stack)).at ≤ (inner_buffer include_stack).accepted
unfolding closed_buffer
usage_within [] n some inside = omega arith
usage_within (f ∷ outer) n some inside = let room = held_room f.buffer in omega (arith, room, some, inside)

-- a fault of a usage is a text's own
pub usage_kind : (kind : FaultKind) → is_usage_fault kind ≡ true → IsOwn kind
unfolding is_usage_fault
usage_kind kind h = own_by is_usage_fault refl refl refl kind h

-- what remains of a text is that by the rules of the run
by_run : {S R : Type 0} (g : Ghosts S R) (e : EngineView S R) → text_of g e ≡ text_by (run_rules g e) g e
unfolding text_of
by_run g e = refl

-- an expansion in which nothing is open stays the same but for what is kept, where its line and its limits do
pub unchanged : (old new : ExpansionView) → old.opens ≡ [] → new.opens ≡ [] → new.line ≡ old.line → new.depth ≡ old.depth → new.most ≡ old.most → new ≡ record old { arguments = new.arguments }
unchanged old new idle none line depth most = grind arith

-- an engine of which the sources and the open texts changed
module _ {S R : Type 0} (old mid : EngineView S R) (becomes : mid ≡ record old { files = mid.files; sources = mid.sources; expansion = mid.expansion }) (only : mid.files ≡ record old.files { include_stack = mid.files.include_stack }) where
  -- it has other open sources
  pub opened_is : mid ≡ record old { files = record old.files { include_stack = mid.files.include_stack }; sources = mid.sources; expansion = mid.expansion }
  opened_is = becomes ∙ ap (λ (fs : FilesView R). record old { files = fs; sources = mid.sources; expansion = mid.expansion }) only

  -- and where a fault is kept, and no text was opened, the same open texts, but for what is kept of the call
  pub stopped_is : (new : EngineView S R) (f : Report) → mid.expansion ≡ record old.expansion { arguments = mid.expansion.arguments } → new ≡ record mid { kept = Some f }
      → new ≡ record old { kept = Some f; files = record old.files { include_stack = mid.files.include_stack }; sources = mid.sources; expansion = record old.expansion { arguments = mid.expansion.arguments } }
  stopped_is new f same is = grind (arith, opened_is)

  -- and it stands in the same state, where bytes of the innermost source are used
  pub used_here : (used : List ℕ) → mid.files.include_stack ≡ with_inner (used_file (inner_buffer mid.files.include_stack) used) old.files.include_stack → state_of mid ≡ state_of old
  unfolding state_of
  used_here used uses = grind (arith, opened_is, used_state)

-- an engine that stands before a usage, of whose innermost source bytes are used: its sources and its open texts are these now
module _ {S R : Type 0} (g : Ghosts S R) (old : EngineView S R) (ready : IsReady old) (live : old.conditions.skipped ≡ None)
    (include_stack : List (File R)) (s : S) (x : ExpansionView) (opening : Opening) (uses : UsesSource (g.has_known_texts old.sources) g.unread opening old.files.include_stack include_stack) where
  -- the one in which its texts are open
  abbrev pub opened_engine_at : EngineView S R
  opened_engine_at = record old { files = record old.files { include_stack = include_stack }; sources = s; expansion = x }

  -- what a usage comes to in each run with its macros
  abbrev pub TellsAt : Opening → ℕ → List ℕ → Type 0
  TellsAt opening line name =
      (t : State) (ws : List Waiting) (os : List Progress) → t.macros ≡ old.table.macros → TellsUsage (run_rules g old) t g.unread ws os old.table.macros line name opening x old.files.include_stack include_stack

  -- the work left falls
  pub usage_work : AreOpenTexts old.limits old.phase old.table.macros old.expansion → IsRoomy x → x.depth ≡ old.expansion.depth → x.most ≡ old.expansion.most → AreSound (texts_of old.table.macros x.arguments) x.opens
      → work_left opened_engine_at < work_left old
  usage_work texts room depth most sound =
      let none = ap length (idle_digits old.expansion.opens ready.idle) in
      let count = digits-count x.opens in
      let few = room.few in
      let fits = room.fits in
      let depth_is = texts.depth_is in
      let most_is = texts.most_is in
      let range = ready.sound.in_range.argument_bytes.1 in
      let bytes = ready.sound.in_range.definition_bytes.1 in
      let size = ready.sound.size in
      let bytes_is = ready.sound.definition_bytes in
      work_opens old opened_engine_at refl (used_include_stack old.files.include_stack include_stack uses.used ready.include_stack uses.inner uses.some uses.unused)
      (omega arith) (omega arith)
      (digits-short 16777216 (2 ^ 31) (texts_of old.table.macros x.arguments) x.opens (record { definitions = omega arith; arguments = omega arith }) sound.are_inside (omega arith))
      (drained_few old.pending ready.pending)

  -- its texts are open: nothing is lent yet
  pub usage_opens : (line : ℕ) (name : List ℕ) → IsBounded opened_engine_at → SourcesCalled g false false old.sources s → work_left opened_engine_at < work_left old
      → (g.has_known_texts old.sources → text_left g.unread (inner_buffer old.files.include_stack) ≡ uses.used ++ text_left g.unread (inner_buffer include_stack))
      → (g.has_known_texts old.sources → TellsAt Opened line name) → KeepsStores g old opened_engine_at → Turns g old opened_engine_at → UncutStep g old opened_engine_at (Ok (Some []))
  unfolding after_bytes
  usage_opens line name bounded call falls text means keeps turn =
      let catalog : source_rules (g.catalog s) old.limits old.origins ≡ run_rules g old = ap (λ (c : Catalog). source_rules c old.limits old.origins) call.catalog in
      walks_lent g old opened_engine_at ready.free ready.open_ bounded [] refl (refl, refl) call
      (λ t. by_run g old
      ∙ (opened_text g (run_rules g old) old ready.pending ready.idle live ready.include_stack include_stack uses.used x s line name uses.inner (text t) (means t)
      ∙ (ap (λ (r : Rules). text_by r g opened_engine_at) (sym catalog)
      ∙ sym (by_run g opened_engine_at))))
      falls keeps (Nowhere refl turn)

  -- the one that keeps a fault of its call
  abbrev pub stopped_engine : Report → EngineView S R
  stopped_engine f = record old { kept = Some f; files = record old.files { include_stack = include_stack }; sources = s; expansion = record old.expansion { arguments = x.arguments } }

  module _ (len : ℕ) (mode : (inner_buffer old.files.include_stack).mode ≡ Plain) (usage : IsUsage (held_of (inner_buffer old.files.include_stack)) len) (unopened : is_opened opening ≡ false)
      (macro : Macro) (named : macro_named old.table.macros (usage_name (held_of (inner_buffer old.files.include_stack)) len) ≡ Some macro)
      (kept : KeepsUsage macro.formals (g.has_known_texts old.sources) g.unread old.expansion.most opening x.arguments (inner_buffer (with_inner (consumed_file len 0) old.files.include_stack)) (inner_buffer include_stack))
      (inside : (inner_buffer (with_inner (consumed_file len 0) old.files.include_stack)).at ≤ (inner_buffer old.files.include_stack).accepted) where
    -- it stopped in the call
    stops_in : (f : Report) → StopsInCall g old (stopped_engine f)
    stops_in f = record { len = len; mode = mode; usage = usage; idle = ready.idle; becomes = refl; only = refl; opening = opening; unopened = unopened; macro = macro; named = named; kept = kept; uses = uses }

    -- and closes nothing
    stores_in : (f : Report) → g.catalog s ≡ g.catalog old.sources → (MayGoOn (stopped_engine f) → ⊥) → KeepsStores g old (stopped_engine f)
    stores_in f catalog stops =
        keeps_broken g old f include_stack s opening x.arguments uses.used len (IsExactOpening opening) macro.formals ready.free ready.idle ready.include_stack catalog uses.inner uses.moves inside mode unopened kept stops

    faults_in : (f : Report) → FaultsWhere g 0 old (stopped_engine f)
    faults_in f = record { at = old; reached = reaches_same g old; few = no_part _ refl; idle = λ h none. h.idle (inl ready.free) none; text = λ t. refl; drained = ready.pending; stopped = InCall (stops_in f) }

    -- and stands in the same state
    same_here : (f : Report) → state_of (stopped_engine f) ≡ state_of old
    unfolding state_of
    same_here f =
        ap (include_stack_state old.limits old.table.macros old.conditions) uses.inner
        ∙ used_state old.limits old.table.macros old.conditions (inner_buffer include_stack) uses.used old.files.include_stack

    -- a fault of the text
    usage_faults : (f : Report) → IsOwn f.kind → IsBounded (stopped_engine f) → SourcesCalled g false false old.sources s
        → (g.has_known_texts old.sources → text_by (run_rules g old) g old ≡ leaves (fails f) (state_of old)) → UncutStep g old (stopped_engine f) (Err f)
    usage_faults f own bounded call law =
        walks_kept g old (stopped_engine f) ready.free ready.open_ bounded f own refl (faults_in f) call
        (λ t. by_run g old ∙ (law t ∙ ap (leaves (fails f)) (sym (same_here f)))) (stores_in f call.catalog (own_stops (stopped_engine f) f refl (own_failed f.kind own)))

    -- the usage is refused, at its line about its name
    pub usage_refuses : (kind : FaultKind) (line : ℕ) (name : List ℕ) → is_usage_fault kind ≡ true → let f = fault_at kind line name (state_of old) in IsBounded (stopped_engine f)
        → SourcesCalled g false false old.sources s → (g.has_known_texts old.sources → TellsAt (Refused kind) line name) → UncutStep g old (stopped_engine f) (Err f)
    usage_refuses kind line name own bounded call means =
        usage_faults (fault_at kind line name (state_of old)) (told_kind kind line name (state_of old) (usage_kind kind own)) bounded call
        (λ t. refused_text g (run_rules g old) old ready.pending ready.idle live ready.include_stack include_stack x kind line name (means t))

    -- its call is broken, at a line of its own about no word
    pub usage_breaks : (kind : FaultKind) (own line : ℕ) (name : List ℕ) → is_usage_fault kind ≡ true → let f = fault_at kind own [] (state_of old) in IsBounded (stopped_engine f)
        → SourcesCalled g false false old.sources s → (g.has_known_texts old.sources → TellsAt (Broken kind own) line name) → UncutStep g old (stopped_engine f) (Err f)
    usage_breaks kind own line name is bounded call means =
        usage_faults (fault_at kind own [] (state_of old)) (told_kind kind own [] (state_of old) (usage_kind kind is)) bounded call
        (λ t. broken_text g (run_rules g old) old ready.pending ready.idle live ready.include_stack include_stack x kind own line name (means t))

    -- a read failed in its call
    pub usage_fails : held_of (inner_buffer include_stack) ≡ [] → let f = fault_at fault.ReadFailed (reading_line_of (inner_buffer include_stack)) [] (state_of old) in IsBounded (stopped_engine f)
        → SourcesCalled g true false old.sources s → UncutStep g old (stopped_engine f) (Err f)
    unfolding fault_at is_read_failed is_write_failed is_memory_kind is_call_failed
    usage_fails unheld bounded call =
        let f = fault_at fault.ReadFailed (reading_line_of (inner_buffer include_stack)) [] (state_of old) in
        let here : f ≡ fault_at fault.ReadFailed (reading_line_of (inner_buffer include_stack)) [] (state_of (stopped_engine f)) =
        ap (fault_at fault.ReadFailed (reading_line_of (inner_buffer include_stack)) []) (sym (same_here f)) in
        walks_ceased g old (stopped_engine f) ready.free ready.open_ bounded f (OnRead (inl unheld) here) refl refl refl (faults_in f)
        (record { open_ = ready.open_; still = ready.open_; at = old; stood = BeforeCall (stops_in f) unheld; text = λ t. refl }) call (stores_in f call.catalog (read_stops (stopped_engine f) f refl ready.open_ (inl unheld)))

-- a usage as a step of the engine, by what its opening says
module _ {S R : Type 0} (g : Ghosts S R) (old mid : EngineView S R) (len : ℕ) (ready : IsReady old) (live : old.conditions.skipped ≡ None) (mode : (inner_buffer old.files.include_stack).mode ≡ Plain)
    (usage : IsUsage (held_of (inner_buffer old.files.include_stack)) len) (texts : AreOpenTexts old.limits old.phase old.table.macros old.expansion) where
  -- the run goes on with its macros and its limits
  run_is : (s : State) → s.macros ≡ old.table.macros → IsRun (run_rules g old) s old.table.macros old.expansion.depth old.expansion.most
  unfolding source_rules rules_of
  run_is s macros = record { macros_are = macros; depth_is = sym texts.depth_is; most_is = sym texts.most_is }

  -- the name lies in the accepted lines
  inside_of : 0 < length (held_of (inner_buffer old.files.include_stack)) → (inner_buffer (with_inner (consumed_file len 0) old.files.include_stack)).at ≤ (inner_buffer old.files.include_stack).accepted
  inside_of some = let within = usage_inside (held_of (inner_buffer old.files.include_stack)) len some usage in usage_within old.files.include_stack len within.0 within.1

  -- its texts are open
  pub opens_step : OpensUsage g len old mid Opened → IsBounded mid → UncutStep g old mid (Ok (Some []))
  opens_step o bounded =
      let is = opened_is old mid o.becomes o.only in
      subst (λ (e : EngineView S R). UncutStep g old e (Ok (Some []))) (sym is)
      (usage_opens g old ready live mid.files.include_stack mid.sources mid.expansion Opened o.uses (inner_buffer old.files.include_stack).line (usage_name (held_of (inner_buffer old.files.include_stack)) len)
      (subst (λ (e : EngineView S R). IsBounded e) is bounded) (called g false old.sources mid.sources o.call)
      (usage_work g old ready live mid.files.include_stack mid.sources mid.expansion Opened o.uses texts o.now_room o.depth o.most o.sound)
      (λ t. o.uses.text (λ own e. cc e) t) (λ t s ws os macros. o.means (run_rules g old) s ws os (run_is s macros) t)
      (keeps_opened g old mid.files.include_stack mid.sources mid.expansion o.uses.used len o.macro.formals ready.free ready.include_stack o.call.catalog o.uses.inner
      (λ t. parts_moved (g.has_known_texts old.sources) Unit g.unread o.uses.used old.files.include_stack mid.files.include_stack ready.include_stack o.uses.inner
      (moves-told (g.has_known_texts old.sources) (g.has_known_texts old.sources) Unit (IsExactOpening Opened) g.unread o.uses.used (inner_buffer old.files.include_stack) (inner_buffer mid.files.include_stack) (λ x. x) (λ _ own e. cc e) o.uses.moves) t)
      (inside_of o.some) (o.called refl) o.most o.keeps)
      (OpensText len (subst (λ (e : EngineView S R). OpensUsage g len old e Opened) is o)))

  -- it is refused
  pub refuses_step : (new : EngineView S R) (place : Halt) (kind : FaultKind) → OpensUsage g len old mid (Refused kind) → IsBounded new → place ≡ Fault
      → new ≡ record mid { kept = Some (fault_at kind (inner_buffer old.files.include_stack).line (usage_name (held_of (inner_buffer old.files.include_stack)) len) (state_of mid)) } → UncutStep g old new (halted_answer new place)
  refuses_step new place kind o bounded at kept =
      let line = (inner_buffer old.files.include_stack).line in
      let name = usage_name (held_of (inner_buffer old.files.include_stack)) len in
      let f = fault_at kind line name (state_of old) in
      let here = used_here old mid o.becomes o.only o.uses.used o.uses.inner in
      let same = unchanged old.expansion mid.expansion ready.idle (o.lets_go refl) o.line o.depth o.most in
      let is = stopped_is old mid o.becomes o.only new f same (kept ∙ ap (λ (s : State). record mid { kept = Some (fault_at kind line name s) }) here) in
      kept_at g old new place f at (ap (λ e. e.kept) is)
      (subst (λ (e : EngineView S R). UncutStep g old e (Err f)) (sym is)
      (usage_refuses g old ready live mid.files.include_stack mid.sources mid.expansion (Refused kind) o.uses len mode usage refl o.macro o.named o.keeps (inside_of o.some) kind line name o.fault (subst (λ (e : EngineView S R). IsBounded e) is bounded)
      (called g false old.sources mid.sources o.call) (λ t s ws os macros. o.means (run_rules g old) s ws os (run_is s macros) t)))

  -- its call is broken
  pub breaks_step : (new : EngineView S R) (place : Halt) (kind : FaultKind) (own : ℕ) → OpensUsage g len old mid (Broken kind own) → IsBounded new → place ≡ Fault
      → new ≡ record mid { kept = Some (fault_at kind own [] (state_of mid)) } → UncutStep g old new (halted_answer new place)
  breaks_step new place kind own o bounded at kept =
      let line = (inner_buffer old.files.include_stack).line in
      let name = usage_name (held_of (inner_buffer old.files.include_stack)) len in
      let f = fault_at kind own [] (state_of old) in
      let here = used_here old mid o.becomes o.only o.uses.used o.uses.inner in
      let same = unchanged old.expansion mid.expansion ready.idle (o.lets_go refl) o.line o.depth o.most in
      let is = stopped_is old mid o.becomes o.only new f same (kept ∙ ap (λ (s : State). record mid { kept = Some (fault_at kind own [] s) }) here) in
      kept_at g old new place f at (ap (λ e. e.kept) is)
      (subst (λ (e : EngineView S R). UncutStep g old e (Err f)) (sym is)
      (usage_breaks g old ready live mid.files.include_stack mid.sources mid.expansion (Broken kind own) o.uses len mode usage refl o.macro o.named o.keeps (inside_of o.some) kind own line name o.fault (subst (λ (e : EngineView S R). IsBounded e) is bounded)
      (called g false old.sources mid.sources o.call) (λ t s ws os macros. o.means (run_rules g old) s ws os (run_is s macros) t)))

  -- a read failed in its call
  pub fails_step : (new : EngineView S R) (place : Halt) → OpensUsage g len old mid Failed → IsBounded new → place ≡ Fault
      → new ≡ record mid { kept = Some (fault_at fault.ReadFailed (reading_line_of (inner_buffer mid.files.include_stack)) [] (state_of mid)) } → UncutStep g old new (halted_answer new place)
  fails_step new place o bounded at kept =
      let line = reading_line_of (inner_buffer mid.files.include_stack) in
      let f = fault_at fault.ReadFailed line [] (state_of old) in
      let here = used_here old mid o.becomes o.only o.uses.used o.uses.inner in
      let same = unchanged old.expansion mid.expansion ready.idle (o.lets_go refl) o.line o.depth o.most in
      let is = stopped_is old mid o.becomes o.only new f same (kept ∙ ap (λ (s : State). record mid { kept = Some (fault_at fault.ReadFailed line [] s) }) here) in
      kept_at g old new place f at (ap (λ e. e.kept) is)
      (subst (λ (e : EngineView S R). UncutStep g old e (Err f)) (sym is)
      (usage_fails g old ready live mid.files.include_stack mid.sources mid.expansion Failed o.uses len mode usage refl o.macro o.named o.keeps (inside_of o.some) (o.unheld refl) (subst (λ (e : EngineView S R). IsBounded e) is bounded)
      (called g true old.sources mid.sources o.call)))
