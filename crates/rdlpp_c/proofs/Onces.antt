-- Texts of paths that are added, given once, and searched for from a handle.
use Rattle.std.proofs.Common.{◌≡◌, ℕ, ◌+◌, ◌<◌, Bool, true, false, cond, List, [], ◌∷◌, ◌++◌, find, get_or, length, take, Option, None, Some, bytes_eq, refl, sym, ap, ◌∙◌, subst, if◌then◌else◌, Result, Ok, Err, IfOk, OnErr, is_some, option_map, string_bytes}
use Rattle.std.specs.declared.alloc.AllocError.{AllocError}
use Rattle.std.proofs.lemmas.List.{take_more}
use Rattle.arrayvec.specs.declared.array_string.ArrayString.{ArrayString}
use Rattle.rdlpp_meaning.specs.Outcome.{Report}
use Rattle.rdlpp_source.specs.Asked.{first_known, told_of}
use Rattle.rdlpp_source.specs.declared.asked.AskedTexts.{AskedTexts}
use Rattle.rdlpp_source.specs.declared.asked.Standing.{Standing}
use Rattle.rdlpp_source.specs.declared.asked.Standing.TheVariants.{Failed}
use Rattle.rdlpp_state.specs.Searches.{Retries, StartsAgain, is_failed_start}
use Rattle.rdlpp_expand.specs.Reading.{ReadingView}
use Rattle.rdlpp_c.specs.Giving.{Gives}
use Rattle.rdlpp_c.specs.Knowing.{AddsText, KnowsTexts, first_of, lent_at, lent_content}
use Rattle.rdlpp_c.specs.Once.{GivenOnce, Refuses, Stands, TakesText, is_open, is_other, mark_at, mark_of}
use Rattle.rdlpp_c.specs.Streaming.{SearchesAgain, TakesUp, owned_sources}
use Rattle.rdlpp_c.specs.declared.arrays.Text.{Text}
use Rattle.rdlpp_c.specs.declared.once.Given.{Given}
use Rattle.rdlpp_c.specs.declared.once.Given.TheVariants.{Known, Other, Taken}
use Rattle.rdlpp_c.specs.declared.once.Mark.{Mark}
use Rattle.rdlpp_c.specs.declared.once.Once.{Once}
use Rattle.rdlpp_c.specs.declared.stream.Stream.{Stream}

-- The first text of a path, as texts are added one by one.

first_after : (f : Text → Option (List ℕ)) (is : Text → Bool) (x : Text) (b : Bool) (e : Option Text) (rest : Option (Option (List ℕ)))
    → option_map f e ≡ rest → option_map f (cond b (Some x) e) ≡ cond b (Some (f x)) rest
first_after f is x true e rest h = refl
first_after f is x false e rest h = h

first_cond : (b : Bool) (x : Option (List ℕ)) (y z : Option (Option (List ℕ))) → cond b (Some x) (first_of y z) ≡ first_of (cond b (Some x) y) z
first_cond true x y z = refl
first_cond false x y z = refl

-- the first of some texts and one more
pub find_more : (is : Text → Bool) (texts : List Text) (text : Text)
    → option_map lent_content (find is (texts ++ text ∷ [])) ≡ first_of (option_map lent_content (find is texts)) (cond (is text) (Some (lent_content text)) None)
find_more is [] text = first_after lent_content is text (is text) None None refl
find_more is (t ∷ texts) text =
    first_after lent_content is t (is t) (find is (texts ++ text ∷ [])) _ (find_more is texts text)
    ∙ first_cond (is t) (lent_content t) (option_map lent_content (find is texts)) (cond (is text) (Some (lent_content text)) None)
    ∙ ap (λ (o : Option (Option (List ℕ))). first_of o (cond (is text) (Some (lent_content text)) None)) (sym (first_after lent_content is t (is t) (find is texts) _ refl))

-- the texts up to one that was added are known
pub knows_more : (texts : List Text) (i : ℕ) (d : Text) (old new : AskedTexts) → i < length texts → KnowsTexts (take i texts) old → AddsText (get_or texts i d) old new
    → KnowsTexts (take (i + 1) texts) new
knows_more texts i d old new inside knows adds q =
    adds q ∙ ap (λ (o : Option (Option (List ℕ))). first_of o (lent_at (get_or texts i d) q)) (knows q)
    ∙ sym (find_more (λ t. bytes_eq q t.path.now) (take i texts) (get_or texts i d))
    ∙ ap (λ (ts : List Text). option_map lent_content (find (λ t. bytes_eq q t.path.now) ts)) (sym (take_more texts i d inside))

-- What is done with the stream of a handle, and what its search finds out.

-- a give to the stream that a handle owns
pub gives_held : (by : Stream → Stream → ℕ → Type 0) (before after : Stream) (first last : Option Stream) (status : ℕ)
    → first ≡ Some before → last ≡ Some after → by before after status → Gives by first last status
gives_held by before after first last status p q given = subst (λ (o : Option Stream). Gives by o last status) (sym p) (after, q, given)

-- a search that asked is made again
pub takes_again : (wanted : Option (ArrayString 1024)) (old new : Stream) → is_some wanted ≡ true → SearchesAgain old new
    → TakesUp (option_map (λ (path : ArrayString 1024). path.bytes) wanted) old new
takes_again None old new e searches = cc e
takes_again (Some path) old new e searches = searches

-- a search is made again, by a retry and then by a second start
pub searches : (old new : Stream) (retried : ReadingView AskedTexts (List ℕ)) (path : List ℕ) (opening : Option Report) → path ≡ string_bytes old.path
    → Retries owned_sources old.reading.engine retried.engine → retried.rest ≡ old.reading.rest
    → StartsAgain owned_sources retried.engine new.reading.engine path opening
    → new.reading.rest ≡ (if is_failed_start retried.engine then [] else retried.rest) → new ≡ record old { reading = new.reading } → SearchesAgain old new
searches old new retried path opening same retries kept starts rest only = record {
  retried = retried.engine;
  retries = retries;
  opening = opening;
  starts = subst (λ (p : List ℕ). StartsAgain owned_sources retried.engine new.reading.engine p opening) same starts;
  rest = rest ∙ ap (λ (r : List ℕ). if is_failed_start retried.engine then [] else r) kept;
  only = only;
}

-- A give, where the text that was given last was forgotten before.

module _ (f g : List ℕ → Option Standing) (b c : Once) (same : (q : List ℕ) → f q ≡ g q) (marks : (q : List ℕ) → mark_at b q ≡ mark_at c q) (new : AskedTexts) (after : Once) where
  stands_moved : Stands f b new after → Stands g c new after
  stands_moved h = record { stays = λ q. h.stays q ∙ same q; marks = λ q. h.marks q ∙ marks q; last = h.last }

  takes_moved : (path text : List ℕ) → TakesText f path text b new after → TakesText g path text c new after
  takes_moved path text h = record {
    standing = h.standing;
    told = h.told;
    adds = λ q. h.adds q ∙ ap (λ (s : Option Standing). first_known s (told_of true path h.standing q)) (same q);
    marks = λ q. h.marks q ∙ ap (λ (m : Option Mark). if bytes_eq q path then Some (mark_of text) else m) (marks q);
    last = h.last;
  }

  refuses_moved : (path : List ℕ) → Refuses f path b new after → Refuses g path c new after
  refuses_moved path h = record {
    adds = λ q. h.adds q ∙ ap (λ (s : Option Standing). first_known s (told_of true path Failed q)) (same q);
    marks = λ q. h.marks q ∙ marks q;
    last = h.last;
  }

  opens : (x : Bool) (asks other : Bool) (path : List ℕ) → asks ≡ other → is_open asks (f path) ≡ x → is_open other (g path) ≡ x
  opens x asks other path e h = sym (ap (λ (s : Option Standing). is_open asks s) (same path) ∙ ap (λ (a : Bool). is_open a (g path)) e) ∙ h

  others : (x : Bool) (path : List ℕ) (mark : Mark) → is_other (mark_at b path) mark ≡ x → is_other (mark_at c path) mark ≡ x
  others x path mark h = sym (ap (λ (m : Option Mark). is_other m mark) (marks path)) ∙ h

  given_moved : (asks other : Bool) (path text : List ℕ) (given : Given) → asks ≡ other → GivenOnce f asks path text b new after given → GivenOnce g other path text c new after given
  given_moved asks other path text Known e h = (opens false asks other path e h.0, stands_moved h.1)
  given_moved asks other path text Taken e h = (opens true asks other path e h.0, others false path (mark_of text) h.1, takes_moved path text h.2)
  given_moved asks other path text Other e h = (opens true asks other path e h.0, others true path (mark_of text) h.1, refuses_moved path h.2)

  pub give_moved : (asks other : Bool) (path text : List ℕ) (r : Result Given AllocError) → asks ≡ other → IfOk r (GivenOnce f asks path text b new after) → IfOk r (GivenOnce g other path text c new after)
  give_moved asks other path text (Ok given) e h = given_moved asks other path text given e h
  give_moved asks other path text (Err error) e h = h

  pub refusal_moved : (r : Result Given AllocError) → OnErr r (Stands f b new after) → OnErr r (Stands g c new after)
  refusal_moved (Ok given) h = h
  refusal_moved (Err error) h = stands_moved h

-- marks stay where only the text that was given last is forgotten
pub same_marks : (b c : Once) → b ≡ record c { last = b.last } → (q : List ℕ) → mark_at b q ≡ mark_at c q
unfolding mark_at
same_marks b c e q = ap (λ (o : Once). mark_at o q) e
