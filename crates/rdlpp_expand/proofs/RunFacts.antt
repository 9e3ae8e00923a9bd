-- Pulls in a row, the run that they are, and what its watcher is shown.
use Rattle.std.proofs.Common.{◌≡◌, ◌≢◌, ℕ, ◌+◌, ◌-◌, ◌^◌, ◌≤◌, ◌==◌, min, Bool, true, false, ◌&&◌, ◌||◌, not, List, [], ◌++◌, length, take, Option, None, Some, Result, Ok, Err, IfSome, refl, sym, ap, subst, ◌∙◌, append_assoc, append-nil, length-append, ne_eqb, arith, inl, inr, if◌then◌else◌, length-take-le, take-append-drop, take_all}
use Rattle.std.specs.Io.KnownBytes.{Appends, Keeps}
use Rattle.rdlpp_meaning.specs.Meaning.{outcome}
use Rattle.rdlpp_meaning.specs.Outcome.{Outcome, Report, and_then, fails, gives}
use Rattle.rdlpp_meaning.specs.OutputLimit.{limited}
use Rattle.rdlpp_meaning.specs.declared.fault.FaultKind.{FaultKind}
use Rattle.rdlpp_meaning.proofs.Outcomes.{and_then-gives, and_then-gives_gives, and_then-gives_nil, bytes-and_then_gives}
use Rattle.rdlpp_source.specs.Counts.{Counts}
use Rattle.rdlpp_source.specs.declared.sinks.Sink.{Ghosts as SinkGhosts}
use Rattle.rdlpp_source.specs.declared.sources.Sources.{Ghosts}
use Rattle.rdlpp_state.specs.Calls.{SourcesCalled}
use Rattle.rdlpp_state.specs.Engine.{EngineView, is_open}
use Rattle.rdlpp_state.specs.Held.{IsBounded, stores_of}
use Rattle.rdlpp_state.specs.Pending.{nothing_pending}
use Rattle.rdlpp_state.specs.Remaining.{kept_uncut, left_of, output_fault, phase_uncut, state_of, text_of, uncut_of}
use Rattle.rdlpp_state.specs.Steps.{BeforeCall, FailsAt, IsStarted, Itself, Step, Stood, StopsReading, Tells, has_met, is_call_failed, is_memory_kind, is_read_failed, is_write_failed, lent_len}
use Rattle.rdlpp_state.specs.declared.phase.Phase.{Phase}
use Rattle.rdlpp_state.specs.declared.phase.Phase.TheVariants.{Closed, Fresh, Open, OverLimit}
use Rattle.rdlpp_state.proofs.EngineSteps.{called_after, free_before, left_open, not_called, ok_not_met}
use Rattle.rdlpp_state.proofs.FrontSteps.{opened_phase}
use Rattle.rdlpp_state.proofs.Stores.{KeepsStores, keeps_refused}
use Rattle.rdlpp_expand.specs.Run.{Begins, Breaks, Finishes, Flushes, Going, Pulls, Runs, Stops, StopsAt, Unflushed, Wrote, WroteEnds, answered, is_fresh, is_kept, write_fault}
use Rattle.rdlpp_expand.specs.Watching.{Shows}
use Rattle.rdlpp_state.specs.declared.watching.Watcher.{Ghosts as WatcherGhosts}
use Rattle.rdlpp_expand.specs.declared.writing.Ending.{Ending}
use Rattle.rdlpp_expand.specs.declared.writing.Ending.TheVariants.{Finished, Stopped, Unwritten}

-- Pulls in a row, and the run that they are.

-- nothing was taken
pub appends_none : (known : Option (List ℕ)) → Appends known known []
appends_none None = tt
appends_none (Some xs) = sym (append-nil xs)

-- two pieces that were taken in a row are one
pub appends_more : (old mid new : Option (List ℕ)) (xs ys zs : List ℕ) → Appends old mid xs → Appends mid new ys → zs ≡ xs ++ ys → Appends old new zs
appends_more None mid new xs ys zs p q e = tt
appends_more (Some a) None new xs ys zs p q e = absurd p
appends_more (Some a) (Some b) None xs ys zs p q e = absurd q
appends_more (Some a) (Some b) (Some c) xs ys zs p q e = q ∙ ap (λ t. t ++ ys) p ∙ append_assoc a xs ys ∙ ap (λ t. a ++ t) (sym e)

-- a flush after what was taken
pub appends_kept : (old mid new : Option (List ℕ)) (xs : List ℕ) → Appends old mid xs → Keeps mid new → Appends old new xs
appends_kept None mid new xs p q = tt
appends_kept (Some a) None new xs p q = absurd p
appends_kept (Some a) (Some b) None xs p q = absurd q
appends_kept (Some a) (Some b) (Some c) xs p q = q ∙ p

-- a write that takes a byte counts nothing
pub counts_taken : (n : ℕ) (part : List ℕ) (old new : ℕ) → n ≢ 0 → Counts ((n == 0) && not (length part == 0)) old new → new ≡ old
counts_taken n part old new h k =
    let P : Bool → Type 0 = λ b. Counts (b && not (length part == 0)) old new in subst P (ne_eqb n 0 h) k

-- a count after one that stayed
pub counts_after : (b : Bool) (old mid new : ℕ) → mid ≡ old → Counts b mid new → Counts b old new
counts_after b old mid new e c = let P : ℕ → Type 0 = λ n. Counts b n new in subst P e c

-- a sink that wasn't asked to flush, and again wasn't
unflushed_more : {W : Type 0} (h : SinkGhosts W) (old mid new : W) → Unflushed h old mid → Unflushed h mid new → Unflushed h old new
unflushed_more h old mid new a b = record { failed_flushes = b.failed_flushes ∙ a.failed_flushes; flushes = b.flushes ∙ a.flushes }

-- counts up to the largest `u64` in a row
pub counted_more : (n a k b m : ℕ) → n ≡ min a (2 ^ 64 - 1) → k ≡ b → m ≡ a + b → min (n + k) (2 ^ 64 - 1) ≡ min m (2 ^ 64 - 1)
counted_more n a k b m p q r = grind arith

-- whether a fault was met in a call, in both words
pub err_met : (test : FaultKind → Bool) (kept : Option Report) (f : Report) → has_met test kept (Err f) ≡ is_fresh test kept (Some f)
unfolding has_met is_fresh
err_met test None f = refl
err_met test (Some k) f = refl

-- no fault is no fresh fault
pub none_fresh : (test : FaultKind → Bool) (kept : Option Report) → is_fresh test kept None ≡ false
unfolding is_fresh
none_fresh test None = refl
none_fresh test (Some k) = refl

-- a step that answers no fault is a call in which no device failed and no memory was refused
pub ok_reads : {S R : Type 0} (g : Ghosts S R) (old new : EngineView S R) (lent : Option (List ℕ)) → Step g old new (Ok lent) → SourcesCalled g false false old.sources new.sources
ok_reads g old new lent s = rw (ok_not_met is_read_failed old.kept lent, ok_not_met is_memory_kind old.kept lent) at s.call

-- a step's call, by the fault that it answers
pub err_reads : {S R : Type 0} (g : Ghosts S R) (old new : EngineView S R) (f : Report) → Step g old new (Err f)
    → SourcesCalled g (is_fresh is_read_failed old.kept (Some f)) (is_fresh is_memory_kind old.kept (Some f)) old.sources new.sources
err_reads g old new f s = rw (err_met is_read_failed old.kept f, err_met is_memory_kind old.kept f) at s.call

-- what a step that answers no fault tells
pub ok_tells : {S R : Type 0} (g : Ghosts S R) (old new : EngineView S R) (lent : Option (List ℕ)) → Step g old new (Ok lent) → g.has_known_texts old.sources → Tells (Ok lent) (left_of g old) (left_of g new)
ok_tells g old new lent s told = s.answers (ok_not_met is_call_failed old.kept lent) told

-- a fault that wasn't kept isn't that of a write
pub own_of : {S R : Type 0} (g : Ghosts S R) (old new : EngineView S R) (f : Report) (kept : Option Report) → old.kept ≡ kept → Step g old new (Err f) → is_fresh is_write_failed kept (Some f) ≡ false
unfolding is_fresh
own_of g old new f None e s = s.own e
own_of g old new f (Some k) e s = refl

-- a first part, and what is left of the first part's outcome
pub begins_after : (xs : List ℕ) (o : Outcome) → Begins xs (and_then (gives xs) o)
begins_after xs o = (o.bytes, bytes-and_then_gives xs o)

-- a first part, where the outcome is known otherwise
pub begins_of : (xs : List ℕ) (o p : Outcome) → p ≡ and_then (gives xs) o → Begins xs p
begins_of xs o p e = let P : Outcome → Type 0 = λ q. Begins xs q in subst P (sym e) (begins_after xs o)

-- a call in which nothing failed, where no fault was answered
pub none_reads : {S R : Type 0} (g : Ghosts S R) (kept : Option Report) (old new : S) → SourcesCalled g false false old new
    → SourcesCalled g (is_fresh is_read_failed kept None) (is_fresh is_memory_kind kept None) old new
none_reads g kept old new r = rw (none_fresh is_read_failed kept, none_fresh is_memory_kind kept) r

-- so far nothing failed
pub going_reads : {S R : Type 0} (g : Ghosts S R) (kept : Option Report) (old new : S)
    → SourcesCalled g (is_fresh is_read_failed kept None) (is_fresh is_memory_kind kept None) old new → SourcesCalled g false false old new
going_reads g kept old new r = rw (none_fresh is_read_failed kept, none_fresh is_memory_kind kept) at r

-- nothing was written yet
pub wrote_none : {S R W : Type 0} (g : Ghosts S R) (h : SinkGhosts W) (e : EngineView S R) (w : W) → IsStarted e → Wrote g h e e w w 0 None
wrote_none g h e w started = grind (arith, none_reads g e.kept e.sources e.sources (not_called g e.sources), not_called g e.sources, and_then-gives_nil (left_of g e), appends_none)

-- one pull more, where what it did to the engine is known
pub wrote_with : {S R W : Type 0} (g : Ghosts S R) (h : SinkGhosts W) (old mid new : EngineView S R) (before between after : W) (n len : ℕ) (ending : Option Ending)
    (w : Wrote g h old mid before between n None) (p : Pulls g h mid new between after len ending)
    → SourcesCalled g (is_fresh is_read_failed old.kept (answered ending new.kept)) (is_fresh is_memory_kind old.kept (answered ending new.kept)) old.sources new.sources
    → new.limits ≡ mid.limits → new.origins ≡ mid.origins → new.main ≡ mid.main → new.table.most_bytes ≡ mid.table.most_bytes → new.table.most_macros ≡ mid.table.most_macros → IsStarted new → WroteEnds g old new (w.bytes ++ p.bytes) ending
    → Wrote g h old new before after (min (n + len) (2 ^ 64 - 1)) ending
wrote_with g h old mid new before between after n len ending w p reads limits origins main bytes count started ends = search (arith, appends_more, counted_more, length-append, counts_after, unflushed_more)

-- what is left of an engine, but for the fault that it keeps, where its text is open
left_but : {S R : Type 0} (g : Ghosts S R) (e : EngineView S R) → e.phase ≡ Open → left_of g (record e { kept = None }) ≡ limited (output_fault e.main) e.quota (outcome (text_of g e))
unfolding left_of uncut_of kept_uncut phase_uncut text_of state_of
left_but g e open_ = rw open_ refl

-- where a read failed, no fault was kept
met_free : (test : FaultKind → Bool) (kept : Option Report) (f : Report) → has_met test kept (Err f) ≡ true → kept ≡ None
unfolding has_met
met_free test None f met = refl
met_free test (Some k) f met = cc met

-- an engine that stopped, and the one whose text remains, have these in common
record IsAlike {S R : Type 0} (at new : EngineView S R) : Type 0 where
  main : new.main ≡ at.main
  quota : new.quota ≡ at.quota
  phase : new.phase ≡ at.phase

alike : {S R : Type 0} (g : Ghosts S R) (at new : EngineView S R) → Stood g at new → IsAlike at new
alike g at new (Itself same) = record { main = sym (ap (λ e. e.main) same); quota = sym (ap (λ e. e.quota) same); phase = sym (ap (λ e. e.phase) same) }
alike g at new (BeforeCall c unheld) = record { main = ap (λ e. e.main) c.becomes; quota = ap (λ e. e.quota) c.becomes; phase = ap (λ e. e.phase) c.becomes }

-- where a read failed, what remains but for the fault is what remained
pub failed_rest : {S R : Type 0} (g : Ghosts S R) (mid new : EngineView S R) (f : Report) → Step g mid new (Err f) → has_met is_call_failed mid.kept (Err f) ≡ true → (reads : StopsReading g mid new) → g.has_known_texts mid.sources
    → left_of g mid ≡ left_of g (record reads.at { kept = None })
unfolding left_of lent_len
failed_rest g mid new f s met reads t = search (arith, alike, left_open, met_free, left_but)

-- where an output ended that was open, nothing is pending
end_drained : {S R : Type 0} (g : Ghosts S R) (mid new : EngineView S R) (p : Phase) → mid.phase ≡ p → is_open p ≡ true → mid.kept ≡ None → Step g mid new (Ok None) → new.pending ≡ nothing_pending
unfolding is_open
end_drained g mid new Fresh phase open_ free s = cc open_
end_drained g mid new Open phase open_ free s = s.ends_or_faults free phase
end_drained g mid new OverLimit phase open_ free s = absurd (let no : Ok None ≡ Err (output_fault mid.main) = (s.passed free phase).0 in cc)
end_drained g mid new Closed phase open_ free s = cc open_

-- a piece was written whole
pub goes_on : {S R : Type 0} (g : Ghosts S R) (old mid new : EngineView S R) (xs ys : List ℕ) → (g.has_known_texts old.sources → g.has_known_texts mid.sources) → Going g old mid xs → Step g mid new (Ok (Some ys)) → Going g old new (xs ++ ys)
goes_on g old mid new xs ys told w s =
    let free : old.kept ≡ None = sym w.kept ∙ free_before g (left_of g) lent_len take is_open mid new mid.kept (Some ys) refl s in
    record {
      kept = s.free ∙ sym free;
      open_ = inr (s.lends ys refl).1;
      answers = λ t. w.answers t ∙ ap (and_then (gives xs)) (ok_tells g mid new (Some ys) s (told t)) ∙ and_then-gives_gives xs ys (left_of g new);
      again = λ f k. (let bad : ⊥ = cc (k, free) in absurd bad);
      lets_go = λ h. s.lets_go (w.lets_go h);
      stores = λ t h. s.stores (told t) (w.stores t h);
    }

-- nothing was left
pub finishes : {S R : Type 0} (g : Ghosts S R) (old mid new : EngineView S R) (xs ys : List ℕ) → (g.has_known_texts old.sources → g.has_known_texts mid.sources) → Going g old mid xs → Step g mid new (Ok None) → ys ≡ [] → Finishes g old new (xs ++ ys)
finishes g old mid new xs ys told w s none = search (arith, free_before, ok_tells, and_then-gives, opened_phase, end_drained)

-- a fault was answered
pub stops : {S R : Type 0} (g : Ghosts S R) (old mid new : EngineView S R) (xs ys : List ℕ) → (g.has_known_texts old.sources → g.has_known_texts mid.sources) → Going g old mid xs → StopsAt g mid new ys → Stops g old new (xs ++ ys)
stops g old mid new xs ys told w stop =
    let s = stop.steps in
    let f = stop.fault in
    let same : xs ≡ xs ++ ys = sym (ap (λ (zs : List ℕ). xs ++ zs) stop.none ∙ append-nil xs) in
    let own : is_fresh is_write_failed mid.kept (Some f) ≡ false = own_of g mid new f mid.kept refl s in
    let met : (test : FaultKind → Bool) → has_met test mid.kept (Err f) ≡ is_fresh test old.kept (Some f) =
    λ test. err_met test mid.kept f ∙ ap (λ (k : Option Report). is_fresh test k (Some f)) w.kept in
    record {
      fault = f;
      kept = s.keeps;
      own = ap (λ (k : Option Report). is_fresh is_write_failed k (Some f)) (sym w.kept) ∙ own;
      failed = λ fresh. s.failed (met is_call_failed ∙ fresh);
      rest = λ fresh.
          let reads = s.reads (met is_call_failed ∙ fresh) in
          record {
            at = reads.at;
            stood = reads.stood;
            rest = λ t. w.answers t ∙ ap (and_then (gives xs)) (failed_rest g mid new f s (met is_call_failed ∙ fresh) reads (told t))
                ∙ ap (λ (zs : List ℕ). and_then (gives zs) (left_of g (record reads.at { kept = None }))) same;
          };
      begins = λ t. begins_of (xs ++ ys) (left_of g mid) (left_of g old) (w.answers t ∙ ap (λ (zs : List ℕ). and_then (gives zs) (left_of g mid)) same);
      answers = λ fresh t. w.answers t ∙ ap (and_then (gives xs)) (s.answers (met is_call_failed ∙ fresh) (told t)) ∙ ap (λ (zs : List ℕ). and_then (gives zs) (fails f)) same;
      again = λ k e. (let was = w.again k e in let now = s.kept k (w.kept ∙ e) in (cc (now.0), sym same ∙ was.0, now.1 ∙ was.1));
      bounded = s.bounded;
      lets_go = λ h. s.lets_go (w.lets_go h);
      stores = λ t h. s.stores (told t) (w.stores t h);
    }

-- a piece was written in part
pub breaks : {S R : Type 0} (g : Ghosts S R) (old mid new : EngineView S R) (xs ys rest : List ℕ) → (g.has_known_texts old.sources → g.has_known_texts mid.sources) → Going g old mid xs → Step g mid new (Ok (Some (ys ++ rest))) → Breaks g old new (xs ++ ys)
breaks g old mid new xs ys rest told w s =
    let left = left_of g new in
    let free : old.kept ≡ None = sym w.kept ∙ free_before g (left_of g) lent_len take is_open mid new mid.kept (Some (ys ++ rest)) refl s in
    record {
      free = free;
      kept = s.free;
      begins = λ t. begins_of (xs ++ ys) (and_then (gives rest) left) (left_of g old)
          (w.answers t ∙ ap (and_then (gives xs)) (ok_tells g mid new (Some (ys ++ rest)) s (told t) ∙ sym (and_then-gives_gives ys rest left)) ∙ and_then-gives_gives xs ys (and_then (gives rest) left));
      bounded = s.bounded;
      lets_go = λ h. s.lets_go (w.lets_go h);
      stores = λ t h. s.stores (told t) (w.stores t h);
    }

-- one pull more
pub wrote_more : {S R W : Type 0} (g : Ghosts S R) (h : SinkGhosts W) (old mid new : EngineView S R) (before between after : W) (n len : ℕ) (ending : Option Ending)
    → Wrote g h old mid before between n None → Pulls g h mid new between after len ending → Wrote g h old new before after (min (n + len) (2 ^ 64 - 1)) ending
wrote_more g h old mid new before between after n len None w p =
    let s : Step g mid new (Ok (Some p.bytes)) = p.ends in
    let was = going_reads g old.kept _ _ w.reads in
    wrote_with g h old mid new before between after n len None w p
    (none_reads g old.kept _ _ (called_after g false false false false _ _ _ refl refl was (ok_reads g mid new (Some p.bytes) s)))
    s.limits s.origins s.main s.most_bytes s.most_macros s.started (goes_on g old mid new w.bytes p.bytes was.has_known_texts w.ends s)
wrote_more g h old mid new before between after n len (Some Finished) w p =
    let s : Step g mid new (Ok None) = p.ends.0 in
    let was = going_reads g old.kept _ _ w.reads in
    wrote_with g h old mid new before between after n len (Some Finished) w p
    (none_reads g old.kept _ _ (called_after g false false false false _ _ _ refl refl was (ok_reads g mid new None s)))
    s.limits s.origins s.main s.most_bytes s.most_macros s.started (finishes g old mid new w.bytes p.bytes was.has_known_texts w.ends s p.ends.1)
wrote_more g h old mid new before between after n len (Some Stopped) w p =
    let stop : StopsAt g mid new p.bytes = p.ends in
    let s = stop.steps in
    let was = going_reads g old.kept _ _ w.reads in
    let P : Option Report → Option Report → Type 0 = λ k f. SourcesCalled g (is_fresh is_read_failed k f) (is_fresh is_memory_kind k f) mid.sources new.sources in
    let reads : P old.kept new.kept = subst (λ (f : Option Report). P old.kept f) (sym s.keeps) (subst (λ (k : Option Report). P k (Some stop.fault)) w.ends.kept (err_reads g mid new stop.fault s)) in
    wrote_with g h old mid new before between after n len (Some Stopped) w p
    (called_after g false _ false _ _ _ _ refl refl was reads)
    s.limits s.origins s.main s.most_bytes s.most_macros s.started (stops g old mid new w.bytes p.bytes was.has_known_texts w.ends stop)
wrote_more g h old mid new before between after n len (Some Unwritten) w p =
    let s : Step g mid new (Ok (Some (p.bytes ++ p.ends.0))) = p.ends.1 in
    let was = going_reads g old.kept _ _ w.reads in
    wrote_with g h old mid new before between after n len (Some Unwritten) w p
    (none_reads g old.kept _ _ (called_after g false false false false _ _ _ refl refl was (ok_reads g mid new (Some (p.bytes ++ p.ends.0)) s)))
    s.limits s.origins s.main s.most_bytes s.most_macros s.started (breaks g old mid new w.bytes p.bytes p.ends.0 was.has_known_texts w.ends s)

-- a sink that wasn't asked to flush, and what a write leaves of that
pub quiet_more : {W : Type 0} (h : SinkGhosts W) (old mid new : W) → Unflushed h old mid → h.failed_flushes new ≡ h.failed_flushes mid → h.flushes new ≡ h.flushes mid → Unflushed h old new
quiet_more h old mid new a failed asked = unflushed_more h old mid new a (record { failed_flushes = failed; flushes = asked })

-- a flush, by what its test came to
pub flushes_as : {W : Type 0} (h : SinkGhosts W) (b c : Bool) (before after : W) → b ≡ c → Flushes h b before after → Flushes h c before after
flushes_as h b c before after e f = subst (λ (x : Bool). Flushes h x before after) e f

-- a pull of a piece that was written whole
pub pulled_whole : {S R W : Type 0} (g : Ghosts S R) (h : SinkGhosts W) (old new : EngineView S R) (before after : W) (piece : List ℕ) (len : ℕ)
    → Step g old new (Ok (Some piece)) → len ≡ length piece → Appends (h.taken before) (h.taken after) (take len piece) → Counts false (h.failed_writes before) (h.failed_writes after)
    → Unflushed h before after → Pulls g h old new before after len None
pulled_whole g h old new before after piece len s whole taken writes quiet = search (arith, take_all)

-- a pull of a piece that was written in part
pub pulled_part : {S R W : Type 0} (g : Ghosts S R) (h : SinkGhosts W) (old new : EngineView S R) (before after : W) (piece : List ℕ) (len : ℕ)
    → Step g old new (Ok (Some piece)) → len ≤ length piece → Appends (h.taken before) (h.taken after) (take len piece) → Counts true (h.failed_writes before) (h.failed_writes after)
    → Unflushed h before after → Pulls g h old new before after len (Some Unwritten)
pulled_part g h old new before after piece len s inside taken writes quiet = grind (arith, length-take-le len piece inside, take-append-drop len piece)

-- a pull of a piece, by what was written of it
pub pulled_written : {S R W : Type 0} (g : Ghosts S R) (h : SinkGhosts W) (old new : EngineView S R) (before after : W) (piece : List ℕ) (len : ℕ) (failed : Bool) (ending : Option Ending)
    → Step g old new (Ok (Some piece)) → ending ≡ (if failed then Some Unwritten else None) → len ≤ length piece → (failed ≡ false → len ≡ length piece)
    → Appends (h.taken before) (h.taken after) (take len piece) → Counts failed (h.failed_writes before) (h.failed_writes after)
    → Unflushed h before after → Pulls g h old new before after len ending
pulled_written g h old new before after piece len true ending s e inside whole taken writes quiet =
    subst (λ (x : Option Ending). Pulls g h old new before after len x) (sym e) (pulled_part g h old new before after piece len s inside taken writes quiet)
pulled_written g h old new before after piece len false ending s e inside whole taken writes quiet =
    subst (λ (x : Option Ending). Pulls g h old new before after len x) (sym e) (pulled_whole g h old new before after piece len s (whole refl) taken writes quiet)

-- a sink of which nothing was asked
quiet_same : {W : Type 0} (h : SinkGhosts W) (w : W) → Unflushed h w w
quiet_same h w = record { failed_flushes = refl; flushes = refl }

-- a pull that came to an end without a piece
pub pulled_none : {S R W : Type 0} (g : Ghosts S R) (h : SinkGhosts W) (old new : EngineView S R) (w : W) → Step g old new (Ok None) → Pulls g h old new w w 0 (Some Finished)
pulled_none g h old new w s = record { bytes = []; taken = appends_none (h.taken w); count = refl; writes = refl; quiet = quiet_same h w; ends = (s, refl) }

-- a pull that lent nothing
pub pulled_silent : {S R W : Type 0} (g : Ghosts S R) (h : SinkGhosts W) (old new : EngineView S R) (w : W) → Step g old new (Ok (Some [])) → Pulls g h old new w w 0 None
pulled_silent g h old new w s = record { bytes = []; taken = appends_none (h.taken w); count = refl; writes = refl; quiet = quiet_same h w; ends = s }

-- a pull that came to a fault
pub pulled_fault : {S R W : Type 0} (g : Ghosts S R) (h : SinkGhosts W) (old new : EngineView S R) (w : W) (f : Report) → Step g old new (Err f) → Pulls g h old new w w 0 (Some Stopped)
pulled_fault g h old new w f s = search (arith, appends_none, quiet_same)

-- the same of an equal count and an equal ending
pub wrote_at : {S R W : Type 0} (g : Ghosts S R) (h : SinkGhosts W) (old new : EngineView S R) (before after : W) (n m : ℕ) (e f : Option Ending)
    → Wrote g h old new before after n e → m ≡ n → f ≡ e → Wrote g h old new before after m f
wrote_at g h old new before after n m e f w p q = grind arith

-- a step, by an answer that is the same
pub answer_step : {S R : Type 0} (g : Ghosts S R) (old new : EngineView S R) (a b : Result (Option (List ℕ)) Report) → Step g old new a → b ≡ a → Step g old new b
answer_step g old new a b s e = subst (λ (x : Result (Option (List ℕ)) Report). Step g old new x) (sym e) s

-- a count, by what its test came to
pub counts_as : (b c : Bool) (old new : ℕ) → b ≡ c → Counts b old new → Counts c old new
counts_as b c old new e k = let P : Bool → Type 0 = λ t. Counts t old new in subst P e k

-- all the bytes of an outcome are its first ones
pub begins_all : (xs : List ℕ) (o : Outcome) → o ≡ gives xs → Begins xs o
unfolding gives
begins_all xs o e = ([], ap (λ (p : Outcome). p.bytes) e ∙ sym (append-nil xs))

-- bytes and no fault
pub gives_whole : (xs : List ℕ) (o : Outcome) → o ≡ gives xs → o ≡ record { bytes = xs; fault = None }
unfolding gives
gives_whole xs o e = e

-- bytes and a fault after them
pub fails_whole : (xs : List ℕ) (f : Report) (o : Outcome) → o ≡ and_then (gives xs) (fails f) → o ≡ record { bytes = xs; fault = Some f }
unfolding gives fails and_then
fails_whole xs f o e = e ∙ ap (λ (ys : List ℕ). record { bytes = ys; fault = Some f }) (append-nil xs)

-- the fault of a write is fresh where none was kept
pub write_fresh : (kept : Option Report) (name : List ℕ) (f : Report) → kept ≡ None → f ≡ write_fault name → is_fresh is_write_failed kept (Some f) ≡ true
unfolding is_fresh write_fault is_write_failed
write_fresh None name f e p = ap (λ (x : Report). is_write_failed x.kind) p
write_fresh (Some k) name f e p = cc e

-- the fault of a write is no read that failed
pub write_no_read : (kept : Option Report) (name : List ℕ) (f : Report) → f ≡ write_fault name → is_fresh is_read_failed kept (Some f) ≡ false
unfolding is_fresh write_fault is_read_failed
write_no_read None name f p = ap (λ (x : Report). is_read_failed x.kind) p
write_no_read (Some k) name f p = refl

-- nor is it memory that was refused
pub write_no_memory : (kept : Option Report) (name : List ℕ) (f : Report) → f ≡ write_fault name → is_fresh is_memory_kind kept (Some f) ≡ false
unfolding is_fresh write_fault is_memory_kind
write_no_memory None name f p = ap (λ (x : Report). is_memory_kind x.kind) p
write_no_memory (Some k) name f p = refl

-- so it is no call that failed
pub write_no_call : (kept : Option Report) (name : List ℕ) (f : Report) → f ≡ write_fault name → is_fresh is_call_failed kept (Some f) ≡ false
unfolding is_fresh write_fault is_call_failed is_read_failed is_memory_kind
write_no_call None name f p = ap (λ (x : Report). is_call_failed x.kind) p
write_no_call (Some k) name f p = refl

-- and none of a device or of memory
write_own : (name : List ℕ) → is_call_failed (write_fault name).kind ≡ false
unfolding write_fault is_call_failed is_read_failed is_memory_kind
write_own name = refl

-- or with nothing after it
or_false : (b : Bool) → (b || false) ≡ b
or_false true = refl
or_false false = refl

-- the bound doesn't speak of the fault that is kept
pub bounded_kept : {S R : Type 0} (e : EngineView S R) (kept : Option Report) → IsBounded e → IsBounded (record e { kept = kept })
unfolding stores_of
bounded_kept e kept b = record { bytes = b.bytes; windows = b.windows; cursors = b.cursors; bindings = b.bindings; conditions = b.conditions; sources = b.sources; texts = b.texts }

-- the kept fault is no write that failed, where none is kept
none_kept : (test : FaultKind → Bool) (kept : Option Report) → kept ≡ None → is_kept test kept ≡ false
unfolding is_kept
none_kept test None e = refl
none_kept test (Some f) e = cc e

-- a fault that came now isn't that of a write, and the one that was kept is: then it was kept
kept_before : (test : FaultKind → Bool) (kept : Option Report) (f : Report) (b : Bool) → is_fresh test kept (Some f) ≡ false → ((k : Report) → kept ≡ Some k → k ≡ f) → test f.kind ≡ b → is_kept test kept ≡ b
unfolding is_kept is_fresh
kept_before test None f b fresh same is = sym fresh ∙ is
kept_before test (Some k) f b fresh same is = ap (λ (t : Report). test t.kind) (same k refl) ∙ is

-- the output was written whole, and so was the flush
pub runs_whole : {S R W : Type 0} (g : Ghosts S R) (h : SinkGhosts W) (old new : EngineView S R) (before between after : W) (n : ℕ)
    → Wrote g h old new before between n (Some Finished) → Flushes h false between after → Runs g h old new before after n None
runs_whole g h old new before between after n w flush =
    let free : old.kept ≡ None = w.ends.free in
    record {
      bytes = w.bytes;
      unwritten = false;
      unflushed = false;
      asked = true;
      taken = appends_kept _ _ _ w.bytes w.taken flush.bytes;
      counted = w.counted;
      begins = λ t. begins_all w.bytes _ (w.ends.answers t);
      exact = λ r f t. gives_whole w.bytes _ (w.ends.answers t);
      reads = w.reads;
      failed = λ e. (let bad : ⊥ = cc (e, none_fresh is_call_failed old.kept) in absurd bad);
      rest = λ e. (let bad : ⊥ = cc (e, none_fresh is_call_failed old.kept) in absurd bad);
      writes = flush.writes ∙ w.writes;
      failed_flushes = flush.failures ∙ w.quiet.failed_flushes;
      flushes = counts_after true _ _ _ w.quiet.flushes flush.asked;
      asks = rw (none_kept is_write_failed old.kept free) refl;
      unflushed_asked = λ e. refl;
      write_failed = λ e. (let bad : ⊥ = cc (e, none_fresh is_write_failed old.kept) in absurd bad);
      unwritten_told = λ e. (let bad : ⊥ = cc e in absurd bad);
      unflushed_told = λ e. (let bad : ⊥ = cc e in absurd bad);
      flushed = λ e. (let bad : ⊥ = cc (e, none_fresh is_write_failed old.kept) in absurd bad);
      again = λ f k. (let bad : ⊥ = cc (k, free) in absurd bad);
      kept = w.ends.kept;
      closed = λ e. w.ends.closed;
      drained = λ e. w.ends.drained;
      limits = w.limits;
      origins = w.origins;
      main = w.main;
      most_bytes = w.most_bytes;
      most_macros = w.most_macros;
      started = w.started;
      bounded = w.ends.bounded;
      lets_go = w.ends.lets_go;
      stores = w.ends.stores;
    }

-- the fault of the engine was answered, and perhaps a flush was asked for
module _ {S R W : Type 0} (g : Ghosts S R) (h : SinkGhosts W) (old new : EngineView S R) (before between after : W) (n : ℕ) (w : Wrote g h old new before between n (Some Stopped)) where
  -- the calls of the sources, by the fault
  stopped_reads : SourcesCalled g (is_fresh is_read_failed old.kept new.kept) (is_fresh is_memory_kind old.kept new.kept) old.sources new.sources
  stopped_reads = w.reads

  -- a fault of the engine, and what was asked of the sink after it
  runs_ended : (asked unflushed : Bool) (fault : Option Report) → fault ≡ new.kept → Keeps (h.taken between) (h.taken after) → h.failed_writes after ≡ h.failed_writes between
      → Counts unflushed (h.failed_flushes between) (h.failed_flushes after) → Counts asked (h.flushes between) (h.flushes after)
      → (unflushed ≡ true → asked ≡ true) → asked ≡ not (is_kept is_write_failed old.kept) → (unflushed ≡ true → is_write_failed w.ends.fault.kind ≡ false)
      → Runs g h old new before after n fault
  runs_ended asked unflushed fault is keeps writes failed flushes first asks other =
      let f = w.ends.fault in
      let told : fault ≡ Some f = is ∙ w.ends.kept in
      let own : is_fresh is_write_failed old.kept (Some f) ≡ false = w.ends.own in
      let same : (test : FaultKind → Bool) → is_fresh test old.kept fault ≡ is_fresh test old.kept (Some f) = λ test. ap (is_fresh test old.kept) told in
      record {
        bytes = w.bytes;
        unwritten = false;
        unflushed = unflushed;
        asked = asked;
        taken = appends_kept _ _ _ w.bytes w.taken keeps;
        counted = w.counted;
        begins = w.ends.begins;
        exact = λ r x t. fails_whole w.bytes f _ (w.ends.answers (sym (same is_call_failed) ∙ r) t) ∙ ap (λ (k : Option Report). record { bytes = w.bytes; fault = k }) (sym told);
        reads = rw is stopped_reads;
        failed = λ e. subst (λ (k : Option Report). IfSome k (FailsAt new)) (sym told) (w.ends.failed (sym (same is_call_failed) ∙ e));
        rest = λ e. w.ends.rest (sym (same is_call_failed) ∙ e);
        writes = writes ∙ w.writes;
        failed_flushes = counts_after unflushed _ _ _ w.quiet.failed_flushes failed;
        flushes = counts_after asked _ _ _ w.quiet.flushes flushes;
        asks = asks;
        unflushed_asked = first;
        write_failed = λ e. (let bad : ⊥ = cc (e, same is_write_failed, own) in absurd bad);
        unwritten_told = λ e. (let bad : ⊥ = cc e in absurd bad);
        unflushed_told = λ e. inr (rw told (other e));
        flushed = λ e. (let bad : ⊥ = cc (e, same is_write_failed, own) in absurd bad);
        again = λ k e. (let a = w.ends.again k e in (told ∙ ap Some (sym a.0), a.1, a.2));
        kept = sym is;
        closed = λ e. (let bad : ⊥ = cc (e, told) in absurd bad);
        drained = λ e. (let bad : ⊥ = cc (e, told) in absurd bad);
        limits = w.limits;
        origins = w.origins;
        main = w.main;
        most_bytes = w.most_bytes;
        most_macros = w.most_macros;
        started = w.started;
        bounded = w.ends.bounded;
        lets_go = w.ends.lets_go;
        stores = w.ends.stores;
      }

  -- a fault came before the flush
  pub runs_stopped : (failed : Bool) (fault : Option Report) (test : Bool) → fault ≡ new.kept → Flushes h failed between after
      → ((f : Report) → new.kept ≡ Some f → test ≡ is_write_failed f.kind) → test ≡ false → Runs g h old new before after n fault
  runs_stopped failed fault test is flush tests is_not =
      let other : is_write_failed w.ends.fault.kind ≡ false = sym (tests w.ends.fault w.ends.kept) ∙ is_not in
      runs_ended true failed fault is flush.bytes flush.writes flush.failures flush.asked (λ e. refl)
      (ap not (sym (kept_before is_write_failed old.kept w.ends.fault false w.ends.own (λ k e. (w.ends.again k e).0) other))) (λ e. other)

-- a write or the flush failed, and no fault came before
pub runs_unwritten : {S R W : Type 0} (g : Ghosts S R) (h : SinkGhosts W) (old mid new : EngineView S R) (before between after : W) (n : ℕ) (fault : Option Report) (ending : Option Ending)
    (unwritten unflushed asked : Bool) (w : Wrote g h old mid before between n ending) → answered ending mid.kept ≡ None → old.kept ≡ None → (g.has_known_texts old.sources → Begins w.bytes (left_of g old)) → IsBounded mid
    → Keeps (h.taken between) (h.taken after) → Counts unwritten (h.failed_writes before) (h.failed_writes after)
    → Counts unflushed (h.failed_flushes between) (h.failed_flushes after) → Counts asked (h.flushes between) (h.flushes after)
    → (unwritten || unflushed) ≡ true → asked ≡ not unwritten → (unflushed ≡ true → asked ≡ true)
    → new ≡ record mid { kept = Some (write_fault mid.main) } → fault ≡ new.kept → KeepsStores g old mid
    → (unwritten ≡ false → (mid.phase ≡ Closed) × (g.has_known_texts old.sources → left_of g old ≡ gives w.bytes)) → Runs g h old new before after n fault
runs_unwritten {S} {R} g h old mid new before between after n fault ending unwritten unflushed asked w quiet free begins bounded keeps writes failed flushes some asks first becomes is held whole =
    let f = write_fault mid.main in
    let stores : KeepsStores g mid new = subst (λ (e : EngineView S R). KeepsStores g mid e) (sym becomes) (keeps_refused g mid f (write_own mid.main)) in
    let told : fault ≡ Some f = is ∙ ap (λ e. e.kept) becomes in
    let fresh : is_fresh is_write_failed old.kept fault ≡ true = ap (is_fresh is_write_failed old.kept) told ∙ write_fresh old.kept mid.main f free refl in
    let P : Option Report → Type 0 = λ k. SourcesCalled g (is_fresh is_read_failed old.kept k) (is_fresh is_memory_kind old.kept k) old.sources mid.sources in
    let reads : SourcesCalled g false false old.sources mid.sources = going_reads g old.kept _ _ (subst P quiet w.reads) in
    let no_read : is_fresh is_read_failed old.kept fault ≡ false = ap (is_fresh is_read_failed old.kept) told ∙ write_no_read old.kept mid.main f refl in
    let no_call : is_fresh is_call_failed old.kept fault ≡ false = ap (is_fresh is_call_failed old.kept) told ∙ write_no_call old.kept mid.main f refl in
    let no_memory : is_fresh is_memory_kind old.kept fault ≡ false = ap (is_fresh is_memory_kind old.kept) told ∙ write_no_memory old.kept mid.main f refl in
    let sources : new.sources ≡ mid.sources = ap (λ e. e.sources) becomes in
    record {
      bytes = w.bytes;
      unwritten = unwritten;
      unflushed = unflushed;
      asked = asked;
      taken = appends_kept _ _ _ w.bytes w.taken keeps;
      counted = w.counted;
      begins = begins;
      exact = λ r x t. (let bad : ⊥ = cc (x, fresh) in absurd bad);
      reads = rw (no_read, no_memory, sources) reads;
      failed = λ e. (let bad : ⊥ = cc (e, no_call) in absurd bad);
      rest = λ e. (let bad : ⊥ = cc (e, no_call) in absurd bad);
      writes = writes;
      failed_flushes = counts_after unflushed _ _ _ w.quiet.failed_flushes failed;
      flushes = counts_after asked _ _ _ w.quiet.flushes flushes;
      asks = asks ∙ ap not (sym (or_false unwritten) ∙ ap (λ (b : Bool). unwritten || b) (sym (none_kept is_write_failed old.kept free)));
      unflushed_asked = first;
      write_failed = λ e. (some, told ∙ ap Some (ap write_fault w.main));
      unwritten_told = λ e. fresh;
      unflushed_told = λ e. inl fresh;
      flushed = λ _ e. (ap (λ m. m.phase) becomes ∙ (whole e).0, (whole e).1);
      again = λ k e. (let bad : ⊥ = cc (e, free) in absurd bad);
      kept = sym is;
      closed = λ e. (let bad : ⊥ = cc (e, told) in absurd bad);
      drained = λ e. (let bad : ⊥ = cc (e, told) in absurd bad);
      limits = ap (λ e. e.limits) becomes ∙ w.limits;
      origins = ap (λ e. e.origins) becomes ∙ w.origins;
      main = ap (λ e. e.main) becomes ∙ w.main;
      most_bytes = ap (λ e. e.table.most_bytes) becomes ∙ w.most_bytes;
      most_macros = ap (λ e. e.table.most_macros) becomes ∙ w.most_macros;
      started = λ e. w.started (sym (ap (λ e. e.phase) becomes) ∙ e);
      bounded = subst IsBounded (sym becomes) (bounded_kept mid _ bounded);
      lets_go = λ h. stores.lets_go (held.lets_go h);
      stores = λ t h. stores.stores (reads.has_known_texts t) (held.stores t h);
    }

-- what is known stays, where nothing happens
pub keeps_same : (known : Option (List ℕ)) → Keeps known known
keeps_same None = tt
keeps_same (Some xs) = refl

-- the flush failed after the whole output
pub runs_unflushed : {S R W : Type 0} (g : Ghosts S R) (h : SinkGhosts W) (old mid new : EngineView S R) (before between after : W) (n : ℕ) (fault : Option Report)
    → Wrote g h old mid before between n (Some Finished) → Flushes h true between after
    → new ≡ record mid { kept = Some (write_fault mid.main) } → fault ≡ new.kept → Runs g h old new before after n fault
runs_unflushed g h old mid new before between after n fault w flush becomes is =
    runs_unwritten g h old mid new before between after n fault (Some Finished) false true true w refl w.ends.free
    (λ t. begins_all w.bytes _ (w.ends.answers t)) w.ends.bounded flush.bytes (flush.writes ∙ w.writes) flush.failures flush.asked refl refl (λ e. refl) becomes is
    (record { lets_go = w.ends.lets_go; stores = w.ends.stores }) (λ _. (w.ends.closed, w.ends.answers))

-- a write failed
pub runs_broken : {S R W : Type 0} (g : Ghosts S R) (h : SinkGhosts W) (old mid new : EngineView S R) (before after : W) (n : ℕ) (fault : Option Report)
    → Wrote g h old mid before after n (Some Unwritten)
    → new ≡ record mid { kept = Some (write_fault mid.main) } → fault ≡ new.kept → Runs g h old new before after n fault
runs_broken g h old mid new before after n fault w becomes is =
    runs_unwritten g h old mid new before after after n fault (Some Unwritten) true false false w refl w.ends.free
    w.ends.begins w.ends.bounded (keeps_same (h.taken after)) w.writes refl refl refl refl (λ e. (let bad : ⊥ = cc e in absurd bad)) becomes is
    (record { lets_go = w.ends.lets_go; stores = w.ends.stores }) (λ e. absurd (cc))

-- the fault of a write was kept, and nothing was flushed
pub runs_unchanged : {S R W : Type 0} (g : Ghosts S R) (h : SinkGhosts W) (old new : EngineView S R) (before after : W) (n : ℕ) (fault : Option Report)
    (test : Bool) (w : Wrote g h old new before after n (Some Stopped)) → fault ≡ new.kept
    → ((f : Report) → new.kept ≡ Some f → test ≡ is_write_failed f.kind) → test ≡ true → Runs g h old new before after n fault
runs_unchanged g h old new before after n fault test w is tests is_so =
    let other : is_write_failed w.ends.fault.kind ≡ true = sym (tests w.ends.fault w.ends.kept) ∙ is_so in
    runs_ended g h old new before after after n w false false fault is (keeps_same (h.taken after)) refl refl refl (λ e. (let bad : ⊥ = cc e in absurd bad))
    (ap not (sym (kept_before is_write_failed old.kept w.ends.fault true w.ends.own (λ k e. (w.ends.again k e).0) other))) (λ e. (let bad : ⊥ = cc e in absurd bad))

-- Watchers, which are shown what a sink took.

-- nothing was taken, and nothing shown
pub shows_none : {W V : Type 0} (h : SinkGhosts W) (v : WatcherGhosts V) (w : W) (x : V) → Shows h v w w x x
shows_none h v w x = record { bytes = []; taken = appends_none (h.taken w); looks = refl; seen = λ _. appends_none (v.seen x); blind = λ _. refl }

-- nothing was taken, and nothing shown, but a watcher that looks was told something else
pub shows_told : {W V : Type 0} (h : SinkGhosts W) (v : WatcherGhosts V) (w : W) (was now : V) → v.looks now ≡ v.looks was → v.seen now ≡ v.seen was
    → (v.looks was ≡ false → now ≡ was) → Shows h v w w was now
shows_told h v w was now looks seen blind = search (arith, appends_none)

-- more was taken, and shown
pub shows_more : {W V : Type 0} (h : SinkGhosts W) (v : WatcherGhosts V) (before between after : W) (was then_ now : V) → Shows h v before between was then_
    → Shows h v between after then_ now → Shows h v before after was now
shows_more h v before between after was then_ now first next = record {
  bytes = first.bytes ++ next.bytes;
  taken = appends_more _ _ _ first.bytes next.bytes _ first.taken next.taken refl;
  looks = next.looks ∙ first.looks;
  seen = λ looks. appends_more _ _ _ first.bytes next.bytes _ (first.seen looks) (next.seen (first.looks ∙ looks)) refl;
  blind = λ blind. next.blind (first.looks ∙ blind) ∙ first.blind blind;
}

-- a flush shows nothing
pub shows_kept : {W V : Type 0} (h : SinkGhosts W) (v : WatcherGhosts V) (before between after : W) (was now : V) → Shows h v before between was now
    → Keeps (h.taken between) (h.taken after) → Shows h v before after was now
shows_kept h v before between after was now first keeps =
    record { bytes = first.bytes; taken = appends_kept _ _ _ first.bytes first.taken keeps; looks = first.looks; seen = first.seen; blind = first.blind }

-- a part of a piece was taken, and shown
pub shows_part : {W V : Type 0} (h : SinkGhosts W) (v : WatcherGhosts V) (before after : W) (was now : V) (xs ys : List ℕ) → Appends (h.taken before) (h.taken after) xs
    → v.looks now ≡ v.looks was → (v.looks was ≡ true → Appends (v.seen was) (v.seen now) ys) → (v.looks was ≡ false → now ≡ was) → ys ≡ xs → Shows h v before after was now
shows_part h v before after was now xs ys taken looks seen blind same =
    record { bytes = xs; taken = taken; looks = looks; seen = λ l. (let P : List ℕ → Type 0 = λ zs. Appends (v.seen was) (v.seen now) zs in subst P same (seen l)); blind = blind }
