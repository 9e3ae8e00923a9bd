-- Reads of the output into buffers, and searches that are made again.
use Rattle.std.proofs.Common.{◌≡◌, ℕ, ◌+◌, ◌-◌, ◌≤◌, ◌<◌, min, false, List, [], ◌++◌, length, take, drop, Option, None, Some, Ok, Err, refl, sym, ap, subst, ◌∙◌, append_assoc, append-nil, length-append, arith, inl, inr, ◌&&◌, Bool, true, nat_eq, codes, ◌∷◌, drop_of_length-le, drop-drop, length-drop, length-take-le, take-append-drop}
use Rattle.std.specs.Cmp.{unsigned_Decides}
use Rattle.std.specs.List.{starts_with}
use Rattle.std.proofs.Math.Seq.{drop-append_seam, take-append_seam}
use Rattle.std.proofs.lemmas.Bool.{and_parts, false≢true, or_left, or_right}
use Rattle.std.proofs.lemmas.List.{nil_from_length}
use Rattle.std.proofs.lemmas.Slice.Eq.{starts_is}
use Rattle.rdlpp_scan.specs.Tokens.{token_of}
use Rattle.rdlpp_scan.specs.declared.token.Mode.TheVariants.{Plain}
use Rattle.rdlpp_define.specs.Table.{TableView}
use Rattle.rdlpp_define.specs.declared.limits.Limits.{Limits}
use Rattle.rdlpp_meaning.specs.Outcome.{Report, and_then, fails, gives, report_of}
use Rattle.rdlpp_meaning.specs.declared.fault.Fault.{Fault}
use Rattle.rdlpp_meaning.proofs.Outcomes.{and_then-gives, and_then-gives_gives, and_then-gives_nil, bytes-and_then_gives}
use Rattle.rdlpp_source.specs.declared.sources.Sources.{Ghosts}
use Rattle.rdlpp_read.specs.Conditions.{ConditionsView}
use Rattle.rdlpp_read.specs.Buffer.{closed_buffer, held_of}
use Rattle.rdlpp_read.specs.Files.{FilesView, inner_buffer}
use Rattle.rdlpp_read.specs.declared.files.File.{File}
use Rattle.rdlpp_usages.specs.Usages.{ExpansionView}
use Rattle.rdlpp_state.specs.Calls.{SourcesCalled}
use Rattle.rdlpp_state.specs.Engine.{AreOpenTexts, EngineView, IsWholeEngine, is_open}
use Rattle.rdlpp_state.specs.Failures.{MayGoOn, begins_include, is_failed_call, is_failed_search, is_failed_start, is_over}
use Rattle.rdlpp_state.specs.Includes.{IsSearch}
use Rattle.rdlpp_state.specs.Opening.{Starts}
use Rattle.rdlpp_state.specs.Remaining.{left_of, state_of, text_of, work_left}
use Rattle.rdlpp_state.specs.Searches.{Retries, StartsAgain}
use Rattle.rdlpp_state.specs.Steps.{BeforeCall, Itself, Step, Stood, StopsReading, has_met, has_stopped, is_call_failed, is_memory_kind, is_read_failed, may_follow}
use Rattle.rdlpp_state.specs.Stored.{HoldsStores, LetsGo}
use Rattle.rdlpp_state.specs.declared.phase.Phase.{Phase}
use Rattle.rdlpp_state.specs.declared.phase.Phase.TheVariants.{Closed, Fresh, Open, OverLimit}
use Rattle.rdlpp_state.proofs.EngineSteps.{called_after, not_called}
use Rattle.rdlpp_state.proofs.Stores.{none_called, parts_told, read_front, read_never}
use Rattle.rdlpp_expand.specs.Reading.{Fills, FillsPart, Leaves, LentEnds, ReadingView, Turns, ended_with, reading_left}
use Rattle.rdlpp_expand.specs.Run.{is_fresh}
use Rattle.rdlpp_expand.specs.declared.reading.ReadEnd.{ReadEnd}
use Rattle.rdlpp_expand.specs.declared.reading.ReadEnd.TheVariants.{Finished, Stopped}
use Rattle.rdlpp_expand.proofs.RunFacts.{err_reads, failed_rest, finishes, goes_on, going_reads, none_reads, ok_reads, stops}

-- Reads of the output into buffers.

-- what an engine lent so far, and how the output ended
pub record Lent {S R : Type 0} (g : Ghosts S R) (old new : EngineView S R) (lent : List ℕ) (ending : Option ReadEnd) : Type 0 where
  pub reads : SourcesCalled g (is_fresh is_read_failed old.kept (ended_with ending new.kept)) (is_fresh is_memory_kind old.kept (ended_with ending new.kept)) old.sources new.sources
  pub limits : new.limits ≡ old.limits
  pub origins : new.origins ≡ old.origins
  pub main : new.main ≡ old.main
  pub ends : LentEnds g old new lent ending

-- a further piece, or the end
pub lent_more : {S R : Type 0} (g : Ghosts S R) (old mid new : EngineView S R) (xs ys : List ℕ) (ending : Option ReadEnd)
    → Lent g old mid xs None → Turns g mid new ys ending → Lent g old new (xs ++ ys) ending
lent_more g old mid new xs ys None l s =
    let was = going_reads g old.kept _ _ l.reads in
    record {
      reads = none_reads g old.kept _ _ (called_after g false false false false _ _ _ refl refl was (ok_reads g mid new (Some ys) s));
      limits = s.limits ∙ l.limits;
      origins = s.origins ∙ l.origins;
      main = s.main ∙ l.main;
      ends = goes_on g old mid new xs ys was.has_known_texts l.ends s;
    }
lent_more g old mid new xs ys (Some Finished) l t =
    let s : Step g mid new (Ok None) = t.0 in
    let was = going_reads g old.kept _ _ l.reads in
    record {
      reads = none_reads g old.kept _ _ (called_after g false false false false _ _ _ refl refl was (ok_reads g mid new None s));
      limits = s.limits ∙ l.limits;
      origins = s.origins ∙ l.origins;
      main = s.main ∙ l.main;
      ends = finishes g old mid new xs ys was.has_known_texts l.ends s t.1;
    }
lent_more {S} {R} g old mid new xs ys (Some Stopped) l stop =
    let s : Step g mid new (Err stop.fault) = stop.steps in
    let was = going_reads g old.kept _ _ l.reads in
    let P : Option Report → Option Report → Type 0 = λ k f. SourcesCalled g (is_fresh is_read_failed k f) (is_fresh is_memory_kind k f) mid.sources new.sources in
    let reads : P old.kept new.kept = subst (λ (f : Option Report). P old.kept f) (sym s.keeps) (subst (λ (k : Option Report). P k (Some stop.fault)) l.ends.kept (err_reads g mid new stop.fault s)) in
    record {
      reads = called_after g false _ false _ _ _ _ refl refl was reads;
      limits = s.limits ∙ l.limits;
      origins = s.origins ∙ l.origins;
      main = s.main ∙ l.main;
      ends = stops g old mid new xs ys was.has_known_texts l.ends stop;
    }

-- the work left doesn't rise, where it falls
work_after : (a b c : ℕ) → b ≤ a → c < b → c ≤ a
work_after a b c most less = omega (arith, most, less)

-- what a read has given so far: the output hasn't ended
pub record IsGiven {S R : Type 0} (g : Ghosts S R) (old new : ReadingView S R) (before after : List ℕ) (len : ℕ) : Type 0 where
  pub lent : List ℕ
  pub inside : len ≤ length after
  pub size : length after ≡ length before
  pub given : take len after ++ new.rest ≡ old.rest ++ lent
  pub following : drop len after ≡ drop len before
  pub so : Lent g old.engine new.engine lent None
  pub work : work_left new.engine ≤ work_left old.engine

-- nothing was given yet
pub given_none : {S R : Type 0} (g : Ghosts S R) (r : ReadingView S R) (out : List ℕ) → IsGiven g r r out out 0
given_none g r out = record {
  lent = [];
  inside = omega arith;
  size = refl;
  given = sym (append-nil r.rest);
  following = refl;
  so = record {
    reads = none_reads g r.engine.kept _ _ (not_called g r.engine.sources);
    limits = refl;
    origins = refl;
    main = refl;
    ends = record { kept = refl; open_ = inl refl; answers = λ t. sym (and_then-gives_nil (left_of g r.engine)); again = λ f k. (refl, refl); lets_go = λ h. h; stores = λ t h. h };
  };
  work = omega arith;
}

-- the length of two lists in a row
joined_length : (xs ys : List ℕ) (k n : ℕ) → length xs ≡ k → length ys ≡ n → length (xs ++ ys) ≡ k + n
joined_length xs ys k n p q = (let a = length-append xs ys in omega (arith, p, q))

-- the front of a list that was made of three
joined_front : (xs ys zs : List ℕ) (k n : ℕ) → length xs ≡ k → length ys ≡ n → take (k + n) (xs ++ ys ++ zs) ≡ xs ++ ys
joined_front xs ys zs k n p q = subst (λ (i : ℕ). take i (xs ++ ys ++ zs) ≡ xs ++ ys) (joined_length xs ys k n p q) (take-append_seam (xs ++ ys) zs)

-- and what stands after it
joined_back : (xs ys zs : List ℕ) (k n : ℕ) → length xs ≡ k → length ys ≡ n → drop (k + n) (xs ++ ys ++ zs) ≡ zs
joined_back xs ys zs k n p q = subst (λ (i : ℕ). drop i (xs ++ ys ++ zs) ≡ zs) (joined_length xs ys k n p q) (drop-append_seam (xs ++ ys) zs)

-- as many as are there, or as there is room for
least_left : (n a b : ℕ) → n ≡ min a b → n ≤ a
least_left n a b e = grind arith

least_right : (n a b : ℕ) → n ≡ min a b → n ≤ b
least_right n a b e = grind arith

-- where there is more room, all is given
least_all : (n a len room : ℕ) → n ≡ min a (room - len) → len ≤ room → (len + n ≡ room → ⊥) → a ≤ n
least_all n a len room e inside more = grind arith

-- what is left of the piece is given, as much as there is room for
pub given_more : {S R : Type 0} (g : Ghosts S R) (old mid new : ReadingView S R) (before after out : List ℕ) (len n : ℕ) → IsGiven g old mid before after len
    → new ≡ record mid { rest = drop n mid.rest } → n ≡ min (length mid.rest) (length after - len) → out ≡ take len after ++ take n mid.rest ++ drop (len + n) after
    → IsGiven g old new before out (len + n)
given_more {S} {R} g old mid new before after out len n w becomes is over = grind (arith, length-drop (len + n) after, drop-drop n len after, drop-drop n len before, length-take-le, least_left, least_right, length-append, joined_length, joined_front, joined_back, append_assoc, take-append-drop)

-- where there is room after it, nothing is left of the piece
pub rest_used : {S R : Type 0} (g : Ghosts S R) (old mid new : ReadingView S R) (before after out : List ℕ) (len n : ℕ) → IsGiven g old mid before after len
    → new ≡ record mid { rest = drop n mid.rest } → n ≡ min (length mid.rest) (length after - len) → out ≡ take len after ++ take n mid.rest ++ drop (len + n) after
    → (len + n ≡ length out → ⊥) → new.rest ≡ []
rest_used {S} {R} g old mid new before after out len n w becomes is over more = grind (arith, given_more g old mid new before after out len n w becomes is over, drop_of_length-le, least_all)

-- where there is room after it, nothing is left of the piece, and the engine goes on
pub given_turned : {S R : Type 0} (g : Ghosts S R) (old mid new : ReadingView S R) (before after : List ℕ) (len : ℕ) → IsGiven g old mid before after len
    → mid.rest ≡ [] → Turns g mid.engine new.engine new.rest None → IsGiven g old new before after len
given_turned g old mid new before after len w none t = grind (arith, append-nil (take len after), append_assoc old.rest w.lent new.rest, lent_more g old.engine mid.engine new.engine w.lent new.rest None w.so t, work_after)

-- the work left fell, where it does again
pub work_fell : (a b c : ℕ) → b ≤ a → c < b → c < a
work_fell a b c most less = omega (arith, most, less)

-- a read that filled its buffer
pub fills_full : {S R : Type 0} (g : Ghosts S R) (old new : ReadingView S R) (before after : List ℕ) (len : ℕ) → IsGiven g old new before after len
    → len ≡ length after → Fills g old new before after len None
fills_full g old new before after len w is = grind arith

-- after the end and after a fault nothing is left of a piece
turned_rest : {S R : Type 0} (g : Ghosts S R) (old new : EngineView S R) (rest : List ℕ) (e : ReadEnd) → Turns g old new rest (Some e) → rest ≡ []
turned_rest g old new rest Finished t = t.1
turned_rest g old new rest Stopped t = t.none

-- a read that came to the end, or to a fault
pub fills_ended : {S R : Type 0} (g : Ghosts S R) (old mid new : ReadingView S R) (before after : List ℕ) (len : ℕ) (e : ReadEnd) → IsGiven g old mid before after len
    → mid.rest ≡ [] → Turns g mid.engine new.engine new.rest (Some e) → Fills g old new before after len (Some e)
fills_ended g old mid new before after len e w none t =
    let so = lent_more g old.engine mid.engine new.engine w.lent new.rest (Some e) w.so t in
    record {
      lent = w.lent ++ new.rest;
      inside = (let i = w.inside in let s = w.size in omega arith);
      size = w.size;
      given = ap (λ (xs : List ℕ). xs ++ new.rest) (sym (append-nil (take len after)) ∙ ap (λ (r : List ℕ). take len after ++ r) (sym none) ∙ w.given) ∙ append_assoc old.rest w.lent new.rest;
      following = w.following;
      full = λ bad. (let no : ⊥ = cc bad in absurd no);
      used = λ f same. turned_rest g mid.engine new.engine new.rest e t;
      ends = so.ends;
      reads = so.reads;
      limits = so.limits;
      origins = so.origins;
      main = so.main;
    }

-- a read that fills its buffer is one that may come back before
pub fills_part : {S R : Type 0} (g : Ghosts S R) (old new : ReadingView S R) (before after : List ℕ) (len : ℕ) (ending : Option ReadEnd) → Fills g old new before after len ending
    → FillsPart g old new before after len ending
fills_part g old new before after len ending f = grind arith

-- a read that came back after a piece without bytes
pub fills_paused : {S R : Type 0} (g : Ghosts S R) (old mid new : ReadingView S R) (before after : List ℕ) (len : ℕ) → IsGiven g old mid before after len
    → mid.rest ≡ [] → Turns g mid.engine new.engine new.rest None → length new.rest ≡ 0 → FillsPart g old new before after len None
fills_paused g old mid new before after len w used t none =
    let empty : new.rest ≡ [] = nil_from_length new.rest none in
    let v : IsGiven g old new before after len = given_turned g old mid new before after len w used t in
    let steps : Step g mid.engine new.engine (Ok (Some new.rest)) = t in
    record {
      lent = v.lent;
      inside = (let i = v.inside in let s = v.size in omega arith);
      size = v.size;
      given = v.given;
      following = v.following;
      full = λ _. inr (record {
        none = empty;
        before = mid.engine;
        steps = subst (λ (xs : List ℕ). Step g mid.engine new.engine (Ok (Some xs))) empty steps;
        falls = work_fell _ _ _ w.work (steps.falls new.rest refl);
      });
      used = λ e bad. (let no : ⊥ = cc bad in absurd no);
      ends = v.so.ends;
      reads = v.so.reads;
      limits = v.so.limits;
      origins = v.so.origins;
      main = v.so.main;
    }

-- what is given, where nothing is left of the piece
given_all : {S R : Type 0} (g : Ghosts S R) (old new : ReadingView S R) (before after : List ℕ) (len : ℕ) (e : ReadEnd) → (f : FillsPart g old new before after len (Some e)) → take len after ≡ old.rest ++ f.lent
given_all g old new before after len e f = sym (append-nil (take len after)) ∙ ap (λ (r : List ℕ). take len after ++ r) (sym (f.used e refl)) ∙ f.given

-- what a read leaves of the output
pub leaves : {S R : Type 0} (g : Ghosts S R) (old new : ReadingView S R) (before after : List ℕ) (len : ℕ) (ending : Option ReadEnd) → FillsPart g old new before after len ending
    → g.has_known_texts old.engine.sources → Leaves g old new (take len after) ending
unfolding reading_left
leaves g old new before after len None f t = grind (arith, and_then-gives_gives)
leaves g old new before after len (Some Finished) f t =
    ap (and_then (gives old.rest)) (f.ends.answers t) ∙ and_then-gives old.rest f.lent ∙ ap gives (sym (given_all g old new before after len Finished f))
leaves g old new before after len (Some Stopped) f t =
    let all = given_all g old new before after len Stopped f in
    let part = f.ends.begins t in
    record {
      fault = f.ends.fault;
      kept = f.ends.kept;
      begins = (part.0, bytes-and_then_gives old.rest (left_of g old.engine) ∙ ap (λ (xs : List ℕ). old.rest ++ xs) part.1 ∙ sym (append_assoc old.rest f.lent part.0) ∙ ap (λ (xs : List ℕ). xs ++ part.0) (sym all));
      exact = λ own. ap (and_then (gives old.rest)) (f.ends.answers own t) ∙ and_then-gives_gives old.rest f.lent (fails f.ends.fault) ∙ ap (λ (xs : List ℕ). and_then (gives xs) (fails f.ends.fault)) (sym all);
    }

-- a turn, by what it answered
pub turns_as : {S R : Type 0} (g : Ghosts S R) (old new : EngineView S R) (rest : List ℕ) (a b : Option ReadEnd) → Turns g old new rest a → a ≡ b → Turns g old new rest b
turns_as g old new rest a b t e = subst (λ (x : Option ReadEnd). Turns g old new rest x) e t

-- Searches that failed, and are made again.

-- where an `include` asks for a search, its word begins what is held
searched_front : {S R : Type 0} (e : EngineView S R) → IsSearch e → begins_include (held_of (inner_buffer e.files.include_stack)) ≡ true
unfolding begins_include
searched_front e s =
    let held : List ℕ = held_of (inner_buffer e.files.include_stack) in
    let len : ℕ = (token_of Plain held).len in
    (starts_is unsigned_Decides held (codes "`include") (starts_with nat_eq held (codes "`include")) refl).1 (drop len held)
    (sym (take-append-drop len held) ∙ ap (λ (l : List ℕ). l ++ drop len held) s.has.word.word)

-- all three hold
all_hold : (a b c : Bool) → a ≡ true → b ≡ true → c ≡ true → (a && (b && c)) ≡ true
all_hold a b c p q r = rw (p, q, r) refl

-- the first and the last of three hold
first_holds : (a b c : Bool) → (a && (b && c)) ≡ true → (a ≡ true) × (c ≡ true)
first_holds true true c h = (refl, h)
first_holds true false c h = absurd (false≢true h)
first_holds false b c h = absurd (false≢true h)

-- a search is one that is made again
search_again : {S R : Type 0} (e : EngineView S R) (f : Report) → e.kept ≡ Some f → is_call_failed f.kind ≡ true → e.phase ≡ Open → IsSearch e → is_failed_search e ≡ true
unfolding is_failed_search is_failed_call may_follow
search_again e f kept failed open_ search =
    all_hold (is_failed_call e.kept) (may_follow e.phase) (begins_include (held_of (inner_buffer e.files.include_stack)))
    (ap is_failed_call kept ∙ failed) (ap may_follow open_) (searched_front e search)

-- where a search failed, the engine that stopped is the one whose text remains
stood_itself : {S R : Type 0} (g : Ghosts S R) (at new : EngineView S R) → begins_include (held_of (inner_buffer new.files.include_stack)) ≡ true → Stood g at new → at ≡ new
unfolding begins_include
stood_itself g at new begins (Itself same) = same
stood_itself g at new begins (BeforeCall c none) = absurd (false≢true (sym (read_front (inner_buffer new.files.include_stack) (inl none)) ∙ begins))

-- the fault that is kept is no part of the text
kept_text : {S R : Type 0} (g : Ghosts S R) (e : EngineView S R) → text_of g e ≡ text_of g (record e { kept = None })
unfolding text_of state_of
kept_text g e = refl

-- what remained before a search that failed remains
searched_rest : {S R : Type 0} (g : Ghosts S R) (before old : EngineView S R) (f : Report) → is_failed_search old ≡ true → before.kept ≡ None → Step g before old (Err f)
    → g.has_known_texts before.sources → (text_of g before ≡ text_of g (record old { kept = None })) × (left_of g before ≡ left_of g (record old { kept = None }))
unfolding is_failed_search is_failed_call is_call_failed is_read_failed has_met
searched_rest {S} {R} g before old f failed free s t =
    let both = first_holds (is_failed_call old.kept) (may_follow old.phase) (begins_include (held_of (inner_buffer old.files.include_stack))) failed in
    let keeps : old.kept ≡ Some f = s.keeps in
    let kind : is_call_failed f.kind ≡ true = sym (ap is_failed_call keeps) ∙ both.0 in
    let met : has_stopped before.kept (Err f) ≡ true = ap (λ (k : Option Report). has_stopped k (Err f)) free ∙ kind in
    let reads : StopsReading g before old = s.reads met in
    let same : reads.at ≡ old = stood_itself g reads.at old both.1 reads.stood in (
      reads.text t ∙ ap (λ (e : EngineView S R). text_of g e) same ∙ kept_text g old,
      failed_rest g before old f s met reads t ∙ ap (λ (e : EngineView S R). left_of g (record e { kept = None })) same,
    )

-- where the fault of a search that failed is forgotten, what is held stays what it was
forgets_lets_go : {S R : Type 0} (old : EngineView S R) → MayGoOn old → LetsGo old → LetsGo (record old { kept = None })
forgets_lets_go old on h = record { idle = λ _. h.idle on }

forgets_stores : {S R : Type 0} (g : Ghosts S R) (old : EngineView S R) → MayGoOn old → HoldsStores g old → HoldsStores g (record old { kept = None })
forgets_stores g old on h = search (arith, forgets_lets_go, parts_told)

-- a retry, by what it does
pub retries : {S R : Type 0} (g : Ghosts S R) (old new : EngineView S R) → (is_failed_search old ≡ true → new ≡ record old { kept = None })
    → (is_failed_search old ≡ false → new ≡ old) → Retries g old new
retries {S} {R} g old new forgets same = record {
  forgets = forgets;
  same = same;
  search = search_again old;
  read = read_never old;
  remains = λ failed before f free s t.
      subst (λ (e : EngineView S R). (text_of g before ≡ text_of g e) × (left_of g before ≡ left_of g e)) (sym (forgets failed)) (searched_rest g before old f failed free s t);
  lets_go = λ h. by LetsGo (λ on. forgets_lets_go old on h) h (is_failed_search old) refl;
  stores = λ h. by (HoldsStores g) (λ on. forgets_stores g old on h) h (is_failed_search old) refl;
}
  where
    by : (P : EngineView S R → Type 0) → (MayGoOn old → P (record old { kept = None })) → P old → (failed : Bool) → is_failed_search old ≡ failed → P new
    by P forgotten stays true is = subst P (sym (forgets is)) (forgotten (inr (or_left (is_failed_search old) (is_failed_start old) is)))
    by P forgotten stays false is = subst P (sym (same is)) stays

-- two tests in a row, where the first holds
pub both_tests : (a b x r : Bool) → x ≡ a → x ≡ true → r ≡ b → r ≡ (a && b)
both_tests true b x r p q e = e
both_tests false b x r p q e = absurd (false≢true (sym p ∙ q))

-- and where it doesn't
pub first_test : (a b x : Bool) → x ≡ a → x ≡ false → x ≡ (a && b)
first_test true b x p q = absurd (false≢true (sym q ∙ p))
first_test false b x p q = q

-- a fault that is kept, by what is told of it
pub failed_by : (f : Fault) (k : Option Report) → k ≡ Some (report_of f) → is_call_failed f.kind ≡ is_failed_call k
unfolding report_of is_failed_call
failed_by f k e = sym (ap is_failed_call e)

-- none is kept
pub failed_none : (k : Option Report) → k ≡ None → false ≡ is_failed_call k
unfolding is_failed_call
failed_none k e = sym (ap is_failed_call e)

-- where no source is open, no byte is held
pub none_held : {R : Type 0} (include_stack : List (File R)) → length include_stack ≡ 0 → [] ≡ held_of (inner_buffer include_stack)
unfolding held_of closed_buffer
none_held [] e = refl
none_held (f ∷ outer) e = cc e

-- an engine over which no text is open is as good as one that wasn't started
pub fresh_whole : {R : Type 0} (limits : Limits) (phase : Phase) (table : TableView) (files : FilesView R) (conditions : ConditionsView) (expansion : ExpansionView)
    → is_over phase ≡ true → IsWholeEngine limits phase table files conditions expansion → IsWholeEngine limits Fresh table files conditions expansion
unfolding is_over is_open
fresh_whole limits Fresh table files conditions expansion over w = absurd (false≢true over)
fresh_whole limits Open table files conditions expansion over w = absurd (false≢true over)
fresh_whole limits OverLimit table files conditions expansion over w = absurd (false≢true over)
fresh_whole limits Closed table files conditions expansion over w = grind (arith, false≢true)

-- no text is open where the opening of the main text failed
pub failed_over : {S R : Type 0} (e : EngineView S R) → is_failed_start e ≡ true → is_over e.phase ≡ true
unfolding is_failed_start
failed_over e failed = (and_parts (is_failed_call e.kept) (is_over e.phase) failed).1

-- nor is one of a usage
over_shut : (p : Phase) → is_over p ≡ true → is_open p ≡ false
unfolding is_over is_open
over_shut Fresh over = absurd (false≢true over)
over_shut Open over = absurd (false≢true over)
over_shut OverLimit over = absurd (false≢true over)
over_shut Closed over = refl

-- a start that is made again, by what it does
pub starts_again : {S R : Type 0} (g : Ghosts S R) (old new : EngineView S R) (path : List ℕ) (answer : Option Report) → is_failed_start old ≡ true
    → AreOpenTexts old.limits old.phase old.table.macros old.expansion → Starts g (record old { phase = Fresh; kept = None }) new path answer → StartsAgain g old new path answer
starts_again g old new path answer failed texts starts = search (arith, over_shut, failed_over, or_right, none_called, false≢true)

-- and one that isn't
pub starts_never : {S R : Type 0} (g : Ghosts S R) (e : EngineView S R) (path : List ℕ) (answer : Option Report) → is_failed_start e ≡ false → answer ≡ e.kept → StartsAgain g e e path answer
starts_never g e path answer isnt kept = grind (arith, false≢true)
