-- The steps of an engine, by what they met.
use Rattle.std.proofs.Common.{◌≡◌, ◌⊎◌, inl, inr, ℕ, ◌+◌, ◌≤◌, ◌<◌, Bool, true, false, ◌&&◌, ◌||◌, List, [], ◌∷◌, ◌++◌, Option, None, Some, Result, Ok, Err, length, refl, sym, ap, ◌∙◌, subst, arith, length-append, is_some, option_map}
use Rattle.rdlpp_source.specs.Counts.{Counts}
use Rattle.rdlpp_source.specs.declared.sources.Sources.{Ghosts}
use Rattle.rdlpp_meaning.specs.declared.fault.Fault.{Fault}
use Rattle.rdlpp_meaning.specs.declared.fault.FaultKind.{FaultKind}
use Rattle.rdlpp_meaning.specs.declared.fault.FaultKind.TheVariants as fault
use Rattle.rdlpp_meaning.specs.Meaning.{Passage, after_bytes, leaves, outcome}
use Rattle.rdlpp_meaning.specs.Outcome.{Report, report_of, Outcome, fails}
use Rattle.rdlpp_meaning.specs.State.{fault_at}
use Rattle.rdlpp_meaning.proofs.Outcomes.{outcome-after_bytes, outcome-leaves}
use Rattle.rdlpp_read.specs.Buffer.{Slides, reading_line_of}
use Rattle.rdlpp_read.specs.Calls.{SourcesRead}
use Rattle.rdlpp_read.specs.Files.{inner_buffer, with_buffer}
use Rattle.rdlpp_state.specs.Calls.{SourcesCalled}
use Rattle.rdlpp_state.specs.Engine.{EngineView}
use Rattle.rdlpp_state.specs.Held.{IsBounded}
use Rattle.rdlpp_state.specs.Standing.{LendNone, LendsNone, LendsWhere, Reaches, StandsIn}
use Rattle.rdlpp_state.proofs.Stores.{KeepsStores, keeps_refused, none_called}
use Rattle.rdlpp_state.specs.Pending.{nothing_pending}
use Rattle.rdlpp_state.specs.Pieces.{halted_answer, kept_answer}
use Rattle.rdlpp_state.specs.Positions.{position_of}
use Rattle.rdlpp_state.specs.Remaining.{uncut_of, kept_uncut, output_fault, phase_uncut, state_of, text_of, work_left}
use Rattle.rdlpp_state.specs.Steps.{EndsText, FailsAt, OnRead, EndsOrFaults, FaultsWhere, IsReading, AtFront, Itself, LendsText, StopsReading, StepSpec, TellsText, UncutStep, UncutStepWithin, all_of, may_follow, no_len, Tells, IsOwn, IsStarted, has_failed, has_met, has_refused, is_call_failed, is_memory_kind, is_read_failed, is_write_failed}
use Rattle.rdlpp_state.specs.declared.phase.Phase.{Phase}
use Rattle.rdlpp_state.specs.declared.phase.Phase.TheVariants.{Fresh, Open, OverLimit, Closed}
use Rattle.rdlpp_state.specs.declared.place.Halt.{Halt}
use Rattle.rdlpp_state.specs.declared.place.Halt.TheVariants.{Fault as AtFault}

-- nothing was asked of the sources
pub not_called : {S R : Type 0} (g : Ghosts S R) (sources : S) → SourcesCalled g false false sources sources
not_called g sources = record { failures = refl; refusals = refl; has_known_texts = λ t. t; catalog = refl }

-- a read that may have failed
pub called : {S R : Type 0} (g : Ghosts S R) (failed : Bool) (old new : S) → SourcesRead g failed old new → SourcesCalled g failed false old new
called g failed old new read = record { failures = read.failures; refusals = read.refusals; has_known_texts = read.has_known_texts; catalog = read.catalog }

-- what remains of an engine whose main text is open
pub left_open : {S R : Type 0} (g : Ghosts S R) (e : EngineView S R) → e.kept ≡ None → e.phase ≡ Open → uncut_of g e ≡ outcome (text_of g e)
unfolding uncut_of kept_uncut phase_uncut
left_open g e free open_ = rw (free, open_) refl

-- a kept fault
pub steps_kept : {S R : Type 0} (g : Ghosts S R) (e : EngineView S R) (f : Report) → IsStarted e → IsBounded e → e.kept ≡ Some f → UncutStep g e e (Err f)
unfolding has_met uncut_of kept_uncut no_len
steps_kept g e f started bounded kept = grind (arith, not_called)

-- the end once more
pub steps_ended : {S R : Type 0} (g : Ghosts S R) (e : EngineView S R) → IsStarted e → IsBounded e → e.kept ≡ None → e.phase ≡ Closed → UncutStep g e e (Ok None)
unfolding has_met uncut_of kept_uncut phase_uncut no_len
steps_ended g e started bounded free closed = grind (arith, not_called)

-- no step at all
abbrev pub reaches_same : {S R : Type 0} (g : Ghosts S R) (e : EngineView S R) → Reaches g e e
reaches_same g e = record { between = []; steps = refl }

-- steps that lend nothing, and then others
lend_on : {S R : Type 0} (g : Ghosts S R) (old : EngineView S R) (mids : List (EngineView S R)) (mid : EngineView S R) (more : List (EngineView S R)) (new : EngineView S R)
    → LendNone g old mids mid → LendNone g mid more new → LendNone g old (mids ++ more) new
lend_on {S} {R} g old [] mid more new same then_ = subst (λ (e : EngineView S R). LendNone g e more new) same then_
lend_on g old (m ∷ mids) mid more new first then_ = (first.0, lend_on g m mids mid more new first.1 then_)

abbrev reaches_on : {S R : Type 0} (g : Ghosts S R) (old mid new : EngineView S R) → Reaches g old mid → Reaches g mid new → Reaches g old new
reaches_on g old mid new first then_ = record { between = first.between ++ then_.between; steps = lend_on g old first.between mid then_.between new first.steps then_.steps }

-- one step that lends nothing
abbrev pub reaches_one : {S R : Type 0} (g : Ghosts S R) (old new : EngineView S R) → LendsNone g old new → Reaches g old new
reaches_one g old new step = record { between = new ∷ []; steps = (step, refl) }

-- how many there are, where they are none, one, one more than others, or others in a row
pub no_part : (a : ℕ) → a ≡ 0 → a ≤ 0
no_part a e = omega (arith, e)

pub one_part : (a : ℕ) → a ≡ 1 → a ≤ 1
one_part a e = omega (arith, e)

part_more : (a b m : ℕ) → a ≡ b + 1 → b ≤ m → a ≤ m + 1
part_more a b m e few = omega (arith, e, few)

parts_both : (a b c n m : ℕ) → a ≡ b + c → b ≤ n → c ≤ m → a ≤ n + m
parts_both a b c n m e few more = omega (arith, e, few, more)

parts_wider : (a n m : ℕ) → a ≤ n → n ≤ m → a ≤ m
parts_wider a n m few more = omega (arith, few, more)

-- an engine whose main text is open and that keeps no fault
module _ {S R : Type 0} (g : Ghosts S R) (old new : EngineView S R) (free : old.kept ≡ None) (open_ : old.phase ≡ Open) (bounded : IsBounded new) where
  -- a piece was lent
  pub walks_lent : (bytes : List ℕ) → new ≡ record old { pending = new.pending; marks = new.marks; table = new.table; conditions = new.conditions; files = new.files; sources = new.sources; expansion = new.expansion }
      → (new.table.most_bytes ≡ old.table.most_bytes) × (new.table.most_macros ≡ old.table.most_macros)
      → SourcesCalled g false false old.sources new.sources
      → (g.has_known_texts old.sources → text_of g old ≡ after_bytes bytes (text_of g new))
      → work_left new < work_left old → KeepsStores g old new → StandsIn g old new bytes (position_of new) → UncutStep g old new (Ok (Some bytes))
  unfolding has_met no_len all_of may_follow
  walks_lent bytes becomes room call text falls keeps from =
      let still : new.phase ≡ Open = ap (λ e. e.phase) becomes ∙ open_ in
      let none : new.kept ≡ None = ap (λ e. e.kept) becomes ∙ free in
      record {
        limits = ap (λ e. e.limits) becomes;
        origins = ap (λ e. e.origins) becomes;
        main = ap (λ e. e.main) becomes;
        started = λ fresh. (let no : Open ≡ Fresh = sym still ∙ fresh in cc);
        kept = λ h is. absurd (let no : None ≡ Some h = sym free ∙ is in cc);
        ended = λ _ closed. absurd (let no : Open ≡ Closed = sym open_ ∙ closed in cc);
        passed = λ _ past. absurd (let no : Open ≡ OverLimit = sym open_ ∙ past in cc);
        keeps = tt;
        free = none;
        own = λ _. tt;
        ends = λ e. absurd (cc);
        failed = λ met. absurd (let no : false ≡ true = rw free at met in cc);
        call = rw free call;
        answers = λ _ t. left_open g old free open_ ∙ (ap outcome (text t) ∙ (outcome-after_bytes bytes (text_of g new) ∙ rw (left_open g new none still) refl));
        text = λ _ _ _ t. record { piece = bytes; lent = refl; text = text t };
        reads = λ met. absurd (let no : false ≡ true = rw free at met in cc);
        ends_or_faults = λ _ _. tt;
        falls = λ _ _. falls;
        lends = λ _ _. (open_, ap may_follow still);
        quota = omega (arith, ap (λ e. e.quota) becomes);
        most_bytes = room.0;
        most_macros = room.1;
        bounded = bounded;
        stands = λ _ _ xs e. (let same : bytes ≡ xs = cc e in record { at = old; reached = reaches_same g old; few = no_part _ refl; text = λ _. refl; after = new; becomes = refl; piece = bytes; lent = sym same; stands = from });
        lets_go = keeps.lets_go;
        stores = keeps.stores;
      }

  -- what a fault leaves, where nothing is pending
  halts_at : (f : Report) → new ≡ record old { kept = Some f; files = new.files; sources = new.sources }
      → new.files ≡ record old.files { include_stack = with_buffer (inner_buffer new.files.include_stack) old.files.include_stack } → Slides (g.has_known_texts old.sources) ⊥ g.unread (inner_buffer old.files.include_stack) (inner_buffer new.files.include_stack) → old.pending ≡ nothing_pending → FaultsWhere g 0 old new
  halts_at f becomes only moves drained =
      let keeps : Option Report → EngineView S R = λ k. record old { kept = k; files = new.files; sources = new.sources } in
      record {
        at = old;
        reached = reaches_same g old;
        few = no_part _ refl;
        idle = λ h none. h.idle (inl free) none;
        text = λ t. refl;
        drained = drained;
        stopped = AtFront (record {
          becomes = becomes ∙ ap keeps (sym (ap (λ e. e.kept) becomes));
          only = only;
          moves = moves;
        });
      }

  -- the open texts stay
  same_texts : (f : Report) → new ≡ record old { kept = Some f; files = new.files; sources = new.sources } → new ≡ record old { kept = Some f; files = new.files; sources = new.sources; expansion = new.expansion }
  same_texts f becomes =
      becomes ∙ ap (λ x. record old { kept = Some f; files = new.files; sources = new.sources; expansion = x }) (sym (ap (λ e. e.expansion) becomes))

  -- the text has a fault, which is kept, wherever that came
  pub walks_kept : (f : Report) → IsOwn f.kind → new ≡ record old { kept = Some f; files = new.files; sources = new.sources; expansion = new.expansion } → FaultsWhere g 0 old new
      → SourcesCalled g false false old.sources new.sources
      → (g.has_known_texts old.sources → text_of g old ≡ leaves (fails f) (state_of new)) → KeepsStores g old new → UncutStep g old new (Err f)
  unfolding has_met no_len is_call_failed
  walks_kept f own becomes ends_or_faults call text stores = grind (arith, left_open, outcome-leaves)

  -- a fault at the front of what is held
  pub walks_fault : (f : Report) → IsOwn f.kind → new ≡ record old { kept = Some f; files = new.files; sources = new.sources }
      → new.files ≡ record old.files { include_stack = with_buffer (inner_buffer new.files.include_stack) old.files.include_stack }
      → Slides (g.has_known_texts old.sources) ⊥ g.unread (inner_buffer old.files.include_stack) (inner_buffer new.files.include_stack) → old.pending ≡ nothing_pending
      → SourcesCalled g false false old.sources new.sources
      → (g.has_known_texts old.sources → text_of g old ≡ leaves (fails f) (state_of new)) → KeepsStores g old new → UncutStep g old new (Err f)
  walks_fault f own becomes only moves drained call text stores =
      walks_kept f own (same_texts f becomes) (halts_at f becomes only moves drained) call text stores

  -- a read or a search failed, wherever that was
  pub walks_ceased : (f : Report) → FailsAt new f → is_call_failed f.kind ≡ true → is_write_failed f.kind ≡ false
      → new ≡ record old { kept = Some f; files = new.files; sources = new.sources; expansion = new.expansion } → FaultsWhere g 0 old new → StopsReading g old new
      → SourcesCalled g (is_read_failed f.kind) (is_memory_kind f.kind) old.sources new.sources → KeepsStores g old new → UncutStep g old new (Err f)
  unfolding has_met no_len
  walks_ceased f fails met write becomes ends_or_faults reads call stores = grind arith

  -- at the front of what is held
  pub walks_stopped : (f : Report) → FailsAt new f → is_call_failed f.kind ≡ true → is_write_failed f.kind ≡ false
      → new ≡ record old { kept = Some f; files = new.files; sources = new.sources }
      → new.files ≡ record old.files { include_stack = with_buffer (inner_buffer new.files.include_stack) old.files.include_stack }
      → Slides (g.has_known_texts old.sources) ⊥ g.unread (inner_buffer old.files.include_stack) (inner_buffer new.files.include_stack) → old.pending ≡ nothing_pending
      → SourcesCalled g (is_read_failed f.kind) (is_memory_kind f.kind) old.sources new.sources
      → (g.has_known_texts old.sources → text_of g old ≡ text_of g new) → KeepsStores g old new → UncutStep g old new (Err f)
  walks_stopped f fails met write becomes only moves drained call text stores =
      let still : new.phase ≡ Open = ap (λ e. e.phase) becomes ∙ open_ in
      walks_ceased f fails met write (same_texts f becomes) (halts_at f becomes only moves drained)
      (record { open_ = open_; still = still; at = new; stood = Itself refl; text = text }) call stores

  -- a read failed
  pub walks_failed : (f : Report) → IsReading (inner_buffer new.files.include_stack) → f ≡ fault_at fault.ReadFailed (reading_line_of (inner_buffer new.files.include_stack)) [] (state_of new)
      → new ≡ record old { kept = Some f; files = new.files; sources = new.sources }
      → new.files ≡ record old.files { include_stack = with_buffer (inner_buffer new.files.include_stack) old.files.include_stack }
      → Slides (g.has_known_texts old.sources) ⊥ g.unread (inner_buffer old.files.include_stack) (inner_buffer new.files.include_stack) → old.pending ≡ nothing_pending
      → SourcesCalled g true false old.sources new.sources
      → (g.has_known_texts old.sources → text_of g old ≡ text_of g new) → KeepsStores g old new → UncutStep g old new (Err f)
  unfolding fault_at is_read_failed is_write_failed is_memory_kind is_call_failed
  walks_failed f reading is becomes only moves drained call text stores =
      let read : is_read_failed f.kind ≡ true = ap (λ t. is_read_failed t.kind) is in
      let write : is_write_failed f.kind ≡ false = ap (λ t. is_write_failed t.kind) is in
      let memory : is_memory_kind f.kind ≡ false = ap (λ t. is_memory_kind t.kind) is in
      walks_stopped f (OnRead reading is) (ap (λ t. is_call_failed t.kind) is) write becomes only moves drained (rw (read, memory) call) text stores

  -- the text has ended
  pub walks_end : new ≡ record old { phase = Closed; files = new.files; sources = new.sources } → old.pending ≡ nothing_pending → old.expansion.opens ≡ []
      → SourcesCalled g false false old.sources new.sources
      → (g.has_known_texts old.sources → EndsText new (text_of g old)) → UncutStep g old new (Ok None)
  unfolding has_met no_len uncut_of kept_uncut phase_uncut
  walks_end becomes drained idle call text = grind (arith, left_open, outcome-leaves, none_called, called)

-- what a part of a step did that lends nothing, in so many parts at most, where no fault was kept
pub record IsSilent {S R : Type 0} (g : Ghosts S R) (n : ℕ) (old mid : EngineView S R) : Type 0 where
  pub limits : mid.limits ≡ old.limits
  pub origins : mid.origins ≡ old.origins
  pub main : mid.main ≡ old.main
  pub quota : mid.quota ≡ old.quota
  pub most_bytes : mid.table.most_bytes ≡ old.table.most_bytes
  pub most_macros : mid.table.most_macros ≡ old.table.most_macros
  pub free : old.kept ≡ None
  pub still : mid.kept ≡ None
  pub open_ : old.phase ≡ Open
  pub stays : mid.phase ≡ Open
  pub call : SourcesCalled g false false old.sources mid.sources
  pub text : g.has_known_texts old.sources → text_of g old ≡ text_of g mid
  pub work : work_left mid ≤ work_left old
  pub keeps : KeepsStores g old mid
  pub reaches : Reaches g old mid
  pub few : length reaches.between ≤ n

-- what a step says of the fault that is kept, where it answers none: none was kept
pub free_before : {S R : Type 0} {n : ℕ} (g : Ghosts S R) (left : EngineView S R → Outcome) (spent : Result (Option (List ℕ)) Report → ℕ) (most : ℕ → List ℕ → List ℕ) (goes_on : Phase → Bool) (old new : EngineView S R) (kept : Option Report) (lent : Option (List ℕ)) →
    old.kept ≡ kept → StepSpec g n left spent most goes_on old new (Ok lent) → kept ≡ None
free_before g left spent most goes_on old new None lent e s = refl
free_before g left spent most goes_on old new (Some f) lent e s = cc ((s.kept f e).0)

-- whether a fault was met, by the fault that was kept before
met_none : (test : FaultKind → Bool) (a b : Option Report) (answer : Result (Option (List ℕ)) Report) → a ≡ None → b ≡ None → has_met test a answer ≡ has_met test b answer
met_none test a b answer p q = ap (λ k. has_met test k answer) (p ∙ sym q)

-- an answer with no fault met none
pub ok_not_met : (test : FaultKind → Bool) (kept : Option Report) (lent : Option (List ℕ)) → has_met test kept (Ok lent) ≡ false
unfolding has_met
ok_not_met test None lent = refl
ok_not_met test (Some f) lent = refl

-- one count and then another, of which one at most rose
pub counts_or : (a b : Bool) (old mid new : ℕ) → (a && b) ≡ false → Counts a old mid → Counts b mid new → Counts (a || b) old new
counts_or true true old mid new e p q = cc e
counts_or true false old mid new e p q = q ∙ p
counts_or false b old mid new e p q = let P : ℕ → Type 0 = λ n. Counts b n new in subst P p q

-- one call and then another, of which one at most failed, and one at most was refused memory
pub called_after : {S R : Type 0} (g : Ghosts S R) (a b c d : Bool) (old mid new : S) → (a && b) ≡ false → (c && d) ≡ false →
    SourcesCalled g a c old mid → SourcesCalled g b d mid new → SourcesCalled g (a || b) (c || d) old new
called_after g a b c d old mid new e f first then_ = grind (arith, counts_or)

-- all of a piece is lent, whatever may still be
told_over : {S R : Type 0} (g : Ghosts S R) (answer : Result (Option (List ℕ)) Report) (a b : ℕ) (p : Passage) (new : EngineView S R)
    → TellsText (all_of a) g answer p new → TellsText (all_of b) g answer p new
unfolding all_of
told_over g (Ok (Some bytes)) a b p new has_known_texts = record { piece = has_known_texts.piece; lent = has_known_texts.lent; text = has_known_texts.text }
told_over g _ a b p new has_known_texts = has_known_texts

-- where no byte was lent, the same remains
silent_text : (quota : ℕ) (old new : Passage) → LendsText (all_of quota) [] old new → old ≡ new
unfolding all_of after_bytes
silent_text quota old new lends = lends.text ∙ ap (λ (x : List ℕ). after_bytes x new) (sym lends.lent)

-- what an answer leaves, after such a part
ends_or_faults_after : {S R : Type 0} (g : Ghosts S R) (n m : ℕ) (answer : Result (Option (List ℕ)) Report) (old mid new : EngineView S R) → IsSilent g n old mid → EndsOrFaults g m answer mid new → EndsOrFaults g (n + m) answer old new
ends_or_faults_after g n m (Ok (Some bytes)) old mid new first ends_or_faults = tt
ends_or_faults_after g n m (Ok None) old mid new first ends_or_faults = ends_or_faults
ends_or_faults_after g n m (Err f) old mid new first ends_or_faults = record {
  at = ends_or_faults.at;
  reached = reaches_on g old mid ends_or_faults.at first.reaches ends_or_faults.reached;
  few = parts_both _ _ _ n m (length-append first.reaches.between ends_or_faults.reached.between) first.few ends_or_faults.few;
  idle = λ h none. ends_or_faults.idle (first.keeps.lets_go h) none;
  text = λ t. first.text t ∙ ends_or_faults.text (first.call.has_known_texts t);
  drained = ends_or_faults.drained;
  stopped = ends_or_faults.stopped;
}

-- where bytes that are lent stand, after such a part
lends_after : {S R : Type 0} (g : Ghosts S R) (n m : ℕ) (old mid new : EngineView S R) (bytes : List ℕ) (a b : ℕ) → (reaches : Reaches g old mid) → length reaches.between ≤ n → (g.has_known_texts old.sources → text_of g old ≡ text_of g mid) → (g.has_known_texts old.sources → g.has_known_texts mid.sources)
    → LendsWhere g m (all_of b) mid new bytes → LendsWhere g (n + m) (all_of a) old new bytes
unfolding all_of
lends_after g n m old mid new bytes a b reaches few text has_known_texts l = record { at = l.at; reached = reaches_on g old mid l.at reaches l.reached; few = parts_both _ _ _ n m (length-append reaches.between l.reached.between) few l.few; text = λ t. text t ∙ l.text (has_known_texts t); after = l.after; becomes = l.becomes; piece = l.piece; lent = l.lent; stands = l.stands }

-- such a part, and then a step, are one step
pub silent_then : {S R : Type 0} (g : Ghosts S R) (n m : ℕ) (old mid new : EngineView S R) (answer : Result (Option (List ℕ)) Report) →
    IsSilent g n old mid → UncutStepWithin g m mid new answer → UncutStepWithin g (n + m) old new answer
unfolding no_len all_of
silent_then g n m old mid new answer first then_ =
    let same : (test : FaultKind → Bool) → has_met test old.kept answer ≡ has_met test mid.kept answer = λ test. met_none test old.kept mid.kept answer first.free first.still in
    record {
      limits = then_.limits ∙ first.limits;
      origins = then_.origins ∙ first.origins;
      main = then_.main ∙ first.main;
      started = then_.started;
      kept = λ f is. absurd (let no : None ≡ Some f = sym first.free ∙ is in cc);
      ended = λ none closed. absurd (let no : Open ≡ Closed = sym first.open_ ∙ closed in cc);
      passed = λ none past. absurd (let no : Open ≡ OverLimit = sym first.open_ ∙ past in cc);
      keeps = then_.keeps;
      free = then_.free;
      own = λ none. then_.own first.still;
      ends = then_.ends;
      failed = λ met. then_.failed (sym (same is_call_failed) ∙ met);
      call = rw (same is_read_failed, same is_memory_kind)
          (called_after g false (has_failed mid.kept answer) false (has_refused mid.kept answer) _ _ _ refl refl first.call then_.call);
      answers = λ own t.
          let left : uncut_of g mid ≡ uncut_of g old =
          left_open g mid first.still first.stays ∙ (sym (ap outcome (first.text t)) ∙ sym (left_open g old first.free first.open_)) in
          subst (λ (o : Outcome). Tells answer o (uncut_of g new)) left (then_.answers (sym (same is_call_failed) ∙ own) (first.call.has_known_texts t));
      text = λ _ _ own t.
          subst (λ (p : Passage). TellsText (all_of old.quota) g answer p new) (sym (first.text t))
          (told_over g answer mid.quota old.quota (text_of g mid) new (then_.text first.still first.stays (sym (same is_call_failed) ∙ own) (first.call.has_known_texts t)));
      reads = λ met.
          let reads = then_.reads (sym (same is_call_failed) ∙ met) in
          record { open_ = first.open_; still = reads.still; at = reads.at; stood = reads.stood; text = λ t. first.text t ∙ reads.text (first.call.has_known_texts t) };
      ends_or_faults = λ _ _. ends_or_faults_after g n m answer old mid new first (then_.ends_or_faults first.still first.stays);
      falls = λ bytes is. (let less = then_.falls bytes is in let most = first.work in omega arith);
      lends = λ bytes is. (first.open_, (then_.lends bytes is).1);
      quota = (let one = first.quota in let two = then_.quota in omega arith);
      most_bytes = then_.most_bytes ∙ first.most_bytes;
      most_macros = then_.most_macros ∙ first.most_macros;
      bounded = then_.bounded;
      stands = λ _ _ bytes is. lends_after g n m old mid new bytes old.quota mid.quota first.reaches first.few (first.text) (first.call.has_known_texts) (then_.stands first.still first.stays bytes is);
      lets_go = λ h. then_.lets_go (first.keeps.lets_go h);
      stores = λ t h. then_.stores (first.call.has_known_texts t) (first.keeps.stores t h);
    }

-- where bytes may follow, the main text is open
pub follows : (p : Phase) → may_follow p ≡ true → p ≡ Open
unfolding may_follow
follows Open h = refl
follows _ h = cc h

-- a step that lent nothing is such a part
silent_step : {S R : Type 0} (g : Ghosts S R) (m : ℕ) (old mid : EngineView S R) → UncutStepWithin g m old mid (Ok (Some [])) → IsSilent g (m + 1) old mid
unfolding no_len all_of
silent_step g m old mid w =
    let free : old.kept ≡ None = free_before g (uncut_of g) no_len all_of may_follow old mid old.kept (Some []) refl w in
    let lends = w.lends [] refl in
    let none : (test : FaultKind → Bool) → has_met test old.kept (Ok (Some [])) ≡ false = λ test. ok_not_met test old.kept (Some []) in
    record {
      limits = w.limits;
      origins = w.origins;
      main = w.main;
      quota = omega (arith, w.quota);
      most_bytes = w.most_bytes;
      most_macros = w.most_macros;
      free = free;
      still = w.free;
      open_ = lends.0;
      stays = follows mid.phase lends.1;
      call = rw (none is_read_failed, none is_memory_kind) at w.call;
      text = λ t. silent_text old.quota (text_of g old) (text_of g mid) (w.text free lends.0 (none is_call_failed) t);
      work = (let less = w.falls [] refl in omega arith);
      keeps = record { lets_go = w.lets_go; stores = w.stores };
      reaches =
          let l = w.stands free lends.0 [] refl in
          reaches_on g old l.at mid l.reached
          (reaches_one g l.at mid (record { after = l.after; place = position_of mid; stands = subst (λ (xs : List ℕ). StandsIn g l.at l.after xs (position_of mid)) (sym l.lent) l.stands; becomes = l.becomes }));
      few =
          let l = w.stands free lends.0 [] refl in
          part_more _ (length l.reached.between) m (length-append l.reached.between (mid ∷ [])) l.few;
    }

-- a fault that came after fewer parts
ends_or_faults_wider : {S R : Type 0} (g : Ghosts S R) (n m : ℕ) (answer : Result (Option (List ℕ)) Report) (old new : EngineView S R) → n ≤ m → EndsOrFaults g n answer old new → EndsOrFaults g m answer old new
ends_or_faults_wider g n m (Ok (Some bytes)) old new more ends_or_faults = tt
ends_or_faults_wider g n m (Ok None) old new more ends_or_faults = ends_or_faults
ends_or_faults_wider g n m (Err f) old new more ends_or_faults =
    record { at = ends_or_faults.at; reached = ends_or_faults.reached; few = parts_wider _ n m ends_or_faults.few more; idle = ends_or_faults.idle; text = ends_or_faults.text; drained = ends_or_faults.drained; stopped = ends_or_faults.stopped }

-- what more parts may be is no more than so many
pub wider : {S R : Type 0} (g : Ghosts S R) (n m : ℕ) (old new : EngineView S R) (answer : Result (Option (List ℕ)) Report) → n ≤ m
    → UncutStepWithin g n old new answer → UncutStepWithin g m old new answer
wider g n m old new answer more w = record {
  limits = w.limits;
  origins = w.origins;
  main = w.main;
  started = w.started;
  kept = w.kept;
  ended = w.ended;
  passed = w.passed;
  keeps = w.keeps;
  free = w.free;
  own = w.own;
  ends = w.ends;
  failed = w.failed;
  call = w.call;
  answers = w.answers;
  text = w.text;
  reads = w.reads;
  ends_or_faults = λ free open_. ends_or_faults_wider g n m answer old new more (w.ends_or_faults free open_);
  falls = w.falls;
  lends = w.lends;
  quota = w.quota;
  most_bytes = w.most_bytes;
  most_macros = w.most_macros;
  bounded = w.bounded;
  stands = λ free open_ bytes is.
      let l = w.stands free open_ bytes is in
      record { at = l.at; reached = l.reached; few = parts_wider _ n m l.few more; text = l.text; after = l.after; becomes = l.becomes; piece = l.piece; lent = l.lent; stands = l.stands };
  lets_go = w.lets_go;
  stores = w.stores;
}

-- a step that lent nothing, and then another, are one step
pub steps_on : {S R : Type 0} (g : Ghosts S R) (n m : ℕ) (old mid new : EngineView S R) (answer : Result (Option (List ℕ)) Report) →
    UncutStepWithin g n old mid (Ok (Some [])) → UncutStepWithin g m mid new answer → UncutStepWithin g (n + 1 + m) old new answer
steps_on g n m old mid new answer first then_ = silent_then g (n + 1) m old mid new answer (silent_step g n old mid first) then_

-- steps that lent nothing, fewer than so many, and perhaps none
abbrev pub Passes : {S R : Type 0} → Ghosts S R → ℕ → EngineView S R → EngineView S R → Type 0
Passes g n old new = (new ≡ old) ⊎ ((m : ℕ) × (m < n) × UncutStepWithin g m old new (Ok (Some [])))

-- such steps, and then another, are one step
pub passes_on : {S R : Type 0} (g : Ghosts S R) (n m k : ℕ) (old mid new : EngineView S R) (answer : Result (Option (List ℕ)) Report) → n + m ≤ k →
    Passes g n old mid → UncutStepWithin g m mid new answer → UncutStepWithin g k old new answer
passes_on {S} {R} g n m k old mid new answer room (inl same) steps =
    wider g m k old new answer (omega (arith, room)) (subst (λ (e : EngineView S R). UncutStepWithin g m e new answer) same steps)
passes_on g n m k old mid new answer room (inr first) steps =
    wider g (first.0 + 1 + m) k old new answer (let less = first.1 in omega (arith, room)) (steps_on g first.0 m old mid new answer first.2 steps)

-- and another that lent nothing are more of them
pub passes_more : {S R : Type 0} (g : Ghosts S R) (n m k : ℕ) (old mid new : EngineView S R) → n + m < k →
    Passes g n old mid → UncutStepWithin g m mid new (Ok (Some [])) → Passes g k old new
passes_more g n m k old mid new room passes steps = inr (n + m, room, passes_on g n m (n + m) old mid new (Ok (Some [])) (omega arith) passes steps)

-- an engine that such steps left was started
pub passes_started : {S R : Type 0} (g : Ghosts S R) (n : ℕ) (old new : EngineView S R) → IsStarted old → Passes g n old new → IsStarted new
passes_started {S} {R} g n old new started (inl same) = subst (λ (e : EngineView S R). IsStarted e) (sym same) started
passes_started g n old new started (inr steps) = steps.2.started

-- a phase that is neither the first nor one of an open text is the last
pub is_closed : (p : Phase) → (p ≡ Fresh → ⊥) → (p ≡ Open → ⊥) → (p ≡ OverLimit → ⊥) → p ≡ Closed
is_closed Fresh a b c = absurd (a refl)
is_closed Open a b c = absurd (b refl)
is_closed OverLimit a b c = absurd (c refl)
is_closed Closed a b c = refl

-- a kept fault, where one is
pub steps_kept_by : {S R : Type 0} (g : Ghosts S R) (e : EngineView S R) (o : Option Fault) → IsStarted e → IsBounded e → e.kept ≡ option_map report_of o → is_some o ≡ true →
    UncutStep g e e (kept_answer e.kept)
steps_kept_by g e None started bounded kept some = cc some
steps_kept_by g e (Some f) started bounded kept some =
    subst (λ (a : Result (Option (List ℕ)) Report). UncutStep g e e a) (sym (ap kept_answer kept)) (steps_kept g e (report_of f) started bounded kept)

-- none is kept, where none is
pub none_kept_by : (k : Option Report) (o : Option Fault) → k ≡ option_map report_of o → is_some o ≡ false → k ≡ None
none_kept_by k None kept none = kept
none_kept_by k (Some f) kept none = cc none

-- whether a kept fault is that of a write that failed
pub write_failed_by : (f : Fault) (t : Report) → Some (report_of f) ≡ Some t → is_write_failed f.kind ≡ is_write_failed t.kind
unfolding report_of
write_failed_by f t e = ap (λ (x : Report). is_write_failed x.kind) (let same : report_of f ≡ t = cc e in same)

-- more bytes are due than the output may have
pub steps_passed : {S R : Type 0} (g : Ghosts S R) (old new : EngineView S R) →
    old.kept ≡ None → old.phase ≡ OverLimit → IsBounded new → new ≡ record old { kept = Some (output_fault old.main) } → UncutStep g old new (Err (output_fault old.main))
unfolding has_met uncut_of kept_uncut phase_uncut no_len output_fault is_call_failed is_read_failed is_write_failed is_memory_kind
steps_passed {S} {R} g old new free past bounded becomes =
    let still : new.phase ≡ OverLimit = ap (λ e. e.phase) becomes ∙ past in
    let stores : KeepsStores g old new = subst (λ (e : EngineView S R). KeepsStores g old e) (sym becomes) (keeps_refused g old (output_fault old.main) refl) in
    record {
      limits = ap (λ e. e.limits) becomes;
      origins = ap (λ e. e.origins) becomes;
      main = ap (λ e. e.main) becomes;
      started = λ fresh. (let no : OverLimit ≡ Fresh = sym still ∙ fresh in cc);
      kept = λ h is. absurd (let no : None ≡ Some h = sym free ∙ is in cc);
      ended = λ none closed. absurd (let no : OverLimit ≡ Closed = sym past ∙ closed in cc);
      passed = λ _ _. (refl, becomes);
      keeps = ap (λ e. e.kept) becomes;
      free = tt;
      own = λ none. refl;
      ends = λ e. absurd (cc);
      failed = λ met. absurd (let no : false ≡ true = rw free at met in cc);
      call = rw (free, becomes) (not_called g old.sources);
      answers = λ _ t. rw (free, past) refl;
      text = λ none open_. absurd (let no : OverLimit ≡ Open = sym past ∙ open_ in cc);
      reads = λ met. absurd (let no : false ≡ true = rw free at met in cc);
      ends_or_faults = λ none open_. absurd (let no : OverLimit ≡ Open = sym past ∙ open_ in cc);
      falls = λ bytes e. absurd (cc);
      lends = λ bytes e. absurd (cc);
      quota = omega (arith, ap (λ e. e.quota) becomes);
      most_bytes = ap (λ e. e.table.most_bytes) becomes;
      most_macros = ap (λ e. e.table.most_macros) becomes;
      bounded = bounded;
      stands = λ _ _ bytes e. absurd (cc);
      lets_go = stores.lets_go;
      stores = stores.stores;
    }

-- a fault that is kept is what is answered
pub kept_lent : {S R : Type 0} (e : EngineView S R) (place : Halt) (f : Report) → place ≡ AtFault → e.kept ≡ Some f → halted_answer e place ≡ Err f
kept_lent e place f is kept = ap (halted_answer e) is ∙ ap kept_answer kept

-- a fault that is kept is what a step answers
pub kept_at : {S R : Type 0} (g : Ghosts S R) (old new : EngineView S R) (place : Halt) (f : Report) →
    place ≡ AtFault → new.kept ≡ Some f → UncutStep g old new (Err f) → UncutStep g old new (halted_answer new place)
kept_at g old new place f is kept steps =
    subst (λ (a : Result (Option (List ℕ)) Report). UncutStep g old new a) (sym (kept_lent new place f is kept)) steps
