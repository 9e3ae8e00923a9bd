-- Searches: the folder of a path, and the answer that a search comes to.
use Rattle.std.proofs.Common.{◌≡◌, ℕ, zero, suc, ◌+◌, true, false, ◌==◌, cond, List, [], ◌∷◌, get_or, take, drop, refl, ap, sym, ◌∙◌, arith, add-one, ne_eqb, Result, Ok, Err, subst, ◌-◌, ◌^◌, min, Bool, Option, None, Some, nat_lt}
use Rattle.std.specs.Bool.{⊤}
use Rattle.std.specs.List.{list_any}
use Rattle.std.specs.Str.{NoCharPasses}
use Rattle.std.specs.Str.Pattern.{HasCharAt}
use Rattle.std.proofs.lemmas.Bool.{or_right}
use Rattle.std.proofs.lemmas.List.Elements.{All-from_get_or}
use Rattle.std.proofs.lemmas.List.Folds.{list_any_none}
use Rattle.std.proofs.lemmas.Str.Pattern.{NoCharPasses-char, drop_at_char}
use Rattle.rdlpp_source.specs.Asked.{Answered, Answers, Comes, Ends, SearchFault, Search, Wanted, asked_catalog, failed_search, first_search, folders_of, is_found, known_search, search_at, search_of, search_or, seen_failures, standing_text, text_at, unread_of}
use Rattle.rdlpp_source.specs.Counts.{Counts}
use Rattle.rdlpp_source.specs.Search.{answer_at, answer_or, at_path, candidates, first_answer, folder_of}
use Rattle.rdlpp_source.specs.Sources.{Answer, Finds, Gives, Missing, Present, is_device, is_no_memory}
use Rattle.rdlpp_source.specs.declared.asked.AskedTexts.{AskedTexts}
use Rattle.rdlpp_source.specs.declared.asked.Standing.{Standing}
use Rattle.rdlpp_source.specs.declared.asked.Standing.TheVariants.{Absent as Gone, Failed, Text}
use Rattle.rdlpp_source.specs.declared.asked.Stop.{Stop}
use Rattle.rdlpp_source.specs.declared.asked.Stop.TheVariants.{Absent as NotThere, Failed as NotOpened, NoMemory as NoRoom, PathTooLong as TooLong, Wanted as NotKnown}
use Rattle.rdlpp_source.specs.declared.sources.Found.{Found}
use Rattle.rdlpp_source.specs.declared.sources.SourceFault.{SourceFault}
use Rattle.rdlpp_source.specs.declared.sources.SourceFault.TheVariants.{Device, NoMemory}

-- The folder of a path ends with the last `/`.

-- a path without a `/` has no folder
pub folder_of-none : (bs : List ℕ) → list_any (λ c. c == 47) bs ≡ false → folder_of bs ≡ []
folder_of-none [] h = refl
folder_of-none (b ∷ bs) h = ap (λ t. cond t (b ∷ folder_of bs) []) h

-- a list that has a `/` from some place on has one
any-drop : (i : ℕ) (bs : List ℕ) → list_any (λ c. c == 47) (drop i bs) ≡ true → list_any (λ c. c == 47) bs ≡ true
any-drop (suc i) (b ∷ bs) h = or_right (b == 47) (list_any (λ c. c == 47) bs) (any-drop i bs h)
any-drop _ bs h = h

-- the folder of a path that has a `/` begins with the path's first byte
folder_of-step : (b : ℕ) (bs : List ℕ) → list_any (λ c. c == 47) (b ∷ bs) ≡ true → folder_of (b ∷ bs) ≡ b ∷ folder_of bs
folder_of-step b bs h = ap (λ t. cond t (b ∷ folder_of bs) []) h

-- the folder goes up to and with a `/` that no other follows
folder_of-last : (i : ℕ) (bs rest : List ℕ) → drop i bs ≡ 47 ∷ rest → list_any (λ c. c == 47) rest ≡ false → folder_of bs ≡ take (suc i) bs
folder_of-last i [] rest e h = refl
folder_of-last zero (b ∷ bs) rest e h = grind (arith, folder_of-step, folder_of-none)
folder_of-last (suc i) (b ∷ bs) rest e h =
    let any : list_any (λ c. c == 47) (drop i bs) ≡ true = ap (λ xs. list_any (λ c. c == 47) xs) e in
    folder_of-step b bs (or_right (b == 47) (list_any (λ c. c == 47) bs) (any-drop i bs any))
    ∙ ap (λ xs. b ∷ xs) (folder_of-last i bs rest e h)

-- a text without the character has no such byte
pub lacks_slash : (bs : List ℕ) → NoCharPasses (λ c. c == 47) bs → list_any (λ c. c == 47) bs ≡ false
lacks_slash bs h =
    list_any_none (λ c. c == 47) bs (All-from_get_or (λ c. (c == 47) ≡ false) bs 0
    (λ i below. ne_eqb (get_or bs i 0) 47 (NoCharPasses-char 47 bs i h (omega arith) below)))

-- the folder of a path whose last `/` is at a place
pub folder_of-at : (bs : List ℕ) (i j : ℕ) → NoCharPasses (λ c. c == 47) (drop j bs) → HasCharAt 47 bs i j → folder_of bs ≡ take (i + 1) bs
folder_of-at bs i j none here =
    folder_of-last i bs (drop j bs) (drop_at_char 47 bs i j here (omega arith)) (lacks_slash (drop j bs) none) ∙ ap (λ n. take n bs) (sym (add-one i))

-- A search that gives its answer without a failure answers what the catalog says, and no count rises.

-- an exact answer is what sources that tell their texts may answer
pub Finds-from_Gives : {R : Type 0} (unread : R → List ℕ) (answer : Answer) (r : Result (Found R) SourceFault) → Gives unread answer r → Finds unread answer r
Finds-from_Gives unread answer (Err Device) h = absurd h
Finds-from_Gives unread answer (Err NoMemory) h = absurd h
Finds-from_Gives unread answer _ h = h

-- no device failed where the answer is exact
pub failures-from_Gives : {R : Type 0} (unread : R → List ℕ) (answer : Answer) (r : Result (Found R) SourceFault) (n : ℕ) → Gives unread answer r → Counts (is_device r) n n
failures-from_Gives unread answer (Err Device) n h = absurd h
failures-from_Gives unread answer _ n h = refl

-- no memory was refused where the answer is exact
pub refusals-from_Gives : {R : Type 0} (unread : R → List ℕ) (answer : Answer) (r : Result (Found R) SourceFault) (n : ℕ) → Gives unread answer r → Counts (is_no_memory r) n n
refusals-from_Gives unread answer (Err NoMemory) n h = absurd h
refusals-from_Gives unread answer _ n h = refl

-- no device failed where a read gave bytes
pub failures-from_Ok : (r : Result ℕ SourceFault) (k n : ℕ) → r ≡ Ok k → Counts (is_device r) n n
failures-from_Ok r k n h = let P : Result ℕ SourceFault → Type 0 = λ t. Counts (is_device t) n n in subst P (sym h) refl

-- A search that came to an answer gives the one of the catalog.

-- what a search says of an answer: where it came to one, it is this
abbrev Says : Search → Answer → Type 0
Says (Answered found) answer = answer ≡ found
Says _ answer = ⊤

known_says : (asks : Bool) (path : List ℕ) (s : Option Standing) → Says (known_search asks path s) (at_path path (standing_text s))
known_says asks path (Some (Text text)) = refl
known_says asks path (Some Gone) = refl
known_says true path (Some Failed) = tt
known_says false path (Some Failed) = refl
known_says true path None = tt
known_says false path None = refl

cond_says : (b : Bool) (s t : Search) (x y : Answer) → Says s x → Says t y → Says (cond b s t) (cond b x y)
cond_says true s t x y p q = p
cond_says false s t x y p q = q

at_says : (texts : AskedTexts) (path : List ℕ) → Says (search_at texts path) (answer_at (text_at texts) path)
at_says texts path = grind (arith, cond_says, nat_lt, known_says)

or_says : (s t : Search) (x y : Answer) → Says s x → Says t y → Says (search_or s t) (answer_or x y)
or_says (Answered Missing) t x y p q = subst (λ (a : Answer). Says t (answer_or a y)) (sym p) q
or_says SearchFault t x y p q = tt
or_says (Wanted path) t x y p q = tt
or_says _ t x y p q = ap (λ (a : Answer). answer_or a y) p

first_says : (texts : AskedTexts) (paths : List (List ℕ)) → Says (first_search texts paths) (first_answer (text_at texts) paths)
first_says texts [] = refl
first_says texts (path ∷ paths) =
    or_says (search_at texts path) (first_search texts paths) (answer_at (text_at texts) path) (first_answer (text_at texts) paths) (at_says texts path) (first_says texts paths)

says_finds : (s : Search) (answer : Answer) (r : Result (Found (List ℕ)) SourceFault) (wanted : Option (List ℕ)) → Says s answer → Answers s r wanted → Finds unread_of answer r
says_finds s answer (Err Device) wanted says a = tt
says_finds s answer (Err NoMemory) wanted says a = tt
says_finds s answer _ wanted says a = subst (λ (t : Search). Says t answer) a.0 says

-- the first candidate at which a text stands ends a search
pub found_or : (s next : Search) → is_found s ≡ true → is_found (search_or s next) ≡ true
found_or (Answered (Present path text)) next e = refl
found_or _ next e = cc e

-- a search that is told as it ended within answers so
pub answers_of : (s : Search) (within : Result (Found (List ℕ)) Stop) (r : Result (Found (List ℕ)) SourceFault) (wanted : Option (List ℕ))
    → Comes s within → Ends within r wanted → Answers s r wanted
answers_of s (Ok found) r wanted c e = subst (λ (t : Result (Found (List ℕ)) SourceFault). Answers s t wanted) (sym e.0) (c, e.1)
answers_of s (Err NotThere) (Err fault) wanted c e = subst (λ (f : SourceFault). Answers s (Err f) wanted) (sym e.0) (c, e.1)
answers_of s (Err TooLong) (Err fault) wanted c e = subst (λ (f : SourceFault). Answers s (Err f) wanted) (sym e.0) (c, e.1)
answers_of s (Err NotOpened) (Err fault) wanted c e = subst (λ (f : SourceFault). Answers s (Err f) wanted) (sym e.0) (c ∙ ap failed_search (sym e.1))
answers_of s (Err NoRoom) (Err fault) wanted c e = subst (λ (f : SourceFault). Answers s (Err f) wanted) (sym e.0) (c, e.1)
answers_of s (Err (NotKnown path)) (Err fault) wanted c e = subst (λ (f : SourceFault). Answers s (Err f) wanted) (sym e.0) (c ∙ ap failed_search (sym e.1))
answers_of s _ _ wanted c e = absurd e

-- the search for a path gives what the catalog has
pub finds_top : (texts : AskedTexts) (path : List ℕ) (r : Result (Found (List ℕ)) SourceFault) (wanted : Option (List ℕ))
    → Answers (search_at texts path) r wanted → Finds unread_of ((asked_catalog texts).top path) r
finds_top texts path r wanted a = says_finds (search_at texts path) (answer_at (text_at texts) path) r wanted (at_says texts path) a

-- the search for a name gives what the catalog has
pub finds_named : (texts : AskedTexts) (from name : List ℕ) (r : Result (Found (List ℕ)) SourceFault) (wanted : Option (List ℕ))
    → Answers (search_of texts from name) r wanted → Finds unread_of ((asked_catalog texts).find from name) r
finds_named texts from name r wanted a =
    says_finds (search_of texts from name) (first_answer (text_at texts) (candidates (folders_of texts) from name)) r wanted (first_says texts (candidates (folders_of texts) from name)) a

-- Sources that don't ask: no search fails at a device, and contracts see no failure.

-- whether a search came to an answer
is_answered : Search → Bool
is_answered (Answered found) = true
is_answered _ = false

known_answered : (path : List ℕ) (s : Option Standing) → is_answered (known_search false path s) ≡ true
unfolding is_answered
known_answered path (Some (Text text)) = refl
known_answered path _ = refl

cond_answered : (b : Bool) (s t : Search) → is_answered s ≡ true → is_answered t ≡ true → is_answered (cond b s t) ≡ true
cond_answered true s t p q = p
cond_answered false s t p q = q

at_answered : (texts : AskedTexts) (path : List ℕ) → texts.asks ≡ false → is_answered (search_at texts path) ≡ true
unfolding is_answered
at_answered texts path e = grind (arith, cond_answered, nat_lt, known_answered)

or_answered : (s t : Search) → is_answered s ≡ true → is_answered t ≡ true → is_answered (search_or s t) ≡ true
unfolding is_answered
or_answered (Answered Missing) t p q = q
or_answered SearchFault t p q = p
or_answered (Wanted path) t p q = p
or_answered _ t p q = refl

first_answered : (texts : AskedTexts) (paths : List (List ℕ)) → texts.asks ≡ false → is_answered (first_search texts paths) ≡ true
unfolding is_answered
first_answered texts [] e = refl
first_answered texts (path ∷ paths) e = or_answered (search_at texts path) (first_search texts paths) (at_answered texts path e) (first_answered texts paths e)

failed_unanswered : (wanted : Option (List ℕ)) → is_answered (failed_search wanted) ≡ false
unfolding is_answered
failed_unanswered None = refl
failed_unanswered (Some path) = refl

answered_unfailed : (s : Search) (r : Result (Found (List ℕ)) SourceFault) (wanted : Option (List ℕ)) → is_answered s ≡ true → Answers s r wanted → is_device r ≡ false
answered_unfailed s (Err Device) wanted e a = let bad = ap is_answered a in let none = failed_unanswered wanted in cc
answered_unfailed s _ wanted e a = refl

-- the search for a path fails at no device where none is asked for
pub top_unfailed : (texts : AskedTexts) (path : List ℕ) (r : Result (Found (List ℕ)) SourceFault) (wanted : Option (List ℕ))
    → texts.asks ≡ false → Answers (search_at texts path) r wanted → is_device r ≡ false
top_unfailed texts path r wanted e a = answered_unfailed (search_at texts path) r wanted (at_answered texts path e) a

-- the search for a name fails at no device where none is asked for
pub named_unfailed : (texts : AskedTexts) (from name : List ℕ) (r : Result (Found (List ℕ)) SourceFault) (wanted : Option (List ℕ))
    → texts.asks ≡ false → Answers (search_of texts from name) r wanted → is_device r ≡ false
named_unfailed texts from name r wanted e a =
    answered_unfailed (search_of texts from name) r wanted (first_answered texts (candidates (folders_of texts) from name) e) a

failures_seen : (asks rose : Bool) (old new : ℕ) → (asks ≡ false → rose ≡ false) → Counts rose old new → Counts rose (seen_failures asks old) (seen_failures asks new)
unfolding seen_failures
failures_seen true true old new quiet c = grind arith
failures_seen true false old new quiet c = ap (λ n. min (n + 2) (2 ^ 64 - 1)) c
failures_seen false true old new quiet c = let bad = quiet refl in cc
failures_seen false false old new quiet c = refl

-- what contracts see of the failures rises as they do
pub failures_rise : (asks still rose : Bool) (old new : ℕ) → still ≡ asks → (asks ≡ false → rose ≡ false) → Counts rose old new
    → Counts rose (seen_failures asks old) (seen_failures still new)
failures_rise asks still rose old new same quiet c =
    subst (λ (b : Bool). Counts rose (seen_failures asks old) (seen_failures b new)) (sym same) (failures_seen asks rose old new quiet c)

-- a call of sources that don't ask fails at no device
pub unasked : (asks still rose : Bool) (old new : ℕ) → asks ≡ false → Counts rose (seen_failures asks old) (seen_failures still new) → rose ≡ false
unfolding seen_failures
unasked true still rose old new e c = cc
unasked false still false old new e c = refl
unasked false true true old new e c = (let bad : ⊥ = omega (arith, c) in absurd bad)
unasked false false true old new e c = (let bad : ⊥ = omega (arith, c) in absurd bad)

-- after a call sources ask where they did
pub still_asked : (asks still rose : Bool) (old new : ℕ) → Counts rose (seen_failures asks old) (seen_failures still new) → still ≡ asks
unfolding seen_failures
still_asked true true rose old new c = refl
still_asked false false rose old new c = refl
still_asked true false true old new c = (let bad : ⊥ = omega (arith, c) in absurd bad)
still_asked true false false old new c = (let bad : ⊥ = omega (arith, c) in absurd bad)
still_asked false true true old new c = (let bad : ⊥ = omega (arith, c) in absurd bad)
still_asked false true false old new c = (let bad : ⊥ = omega (arith, c) in absurd bad)
