-- The stored conditionals, and the place that they make.
use Rattle.std.proofs.Common.{◌≡◌, ℕ, zero, suc, ◌-◌, ◌≤◌, ◌<◌, Bool, true, false, not, ◌||◌, List, [], ◌∷◌, ◌++◌, length, take, drop, get_or, Option, None, Some, Ok, refl, sym, ap, subst, ◌∙◌, arith, unwrap_or, map, reverse, length-set, set, take-suc, take-suc-set, take_all}
use Rattle.std.proofs.lemmas.List.{length-map, length-reverse, reverse-append}
use Rattle.rdlpp_scan.specs.declared.token.Directive.{Directive}
use Rattle.rdlpp_meaning.specs.Meaning.{Holds, Progress, TestFault, is_else, opening_within, turn}
use Rattle.rdlpp_meaning.specs.Resumed.{Live, Place}
use Rattle.rdlpp_meaning.specs.declared.fault.FaultKind.TheVariants.{BranchAfterElse, TooManyConditionals}
use Rattle.rdlpp_read.specs.Conditions.{ConditionsView, conditions_left, own_conditions, place_by, place_of, progress_of, seen_of}
use Rattle.rdlpp_read.specs.ConditionMoves.{Closes, IsBranch, IsTurn, IsUnclosed, closed_one, turned_open, with_count}
use Rattle.rdlpp_read.specs.declared.conditions.Branch.{Branch}
use Rattle.rdlpp_read.specs.declared.conditions.Branch.TheVariants.{Decided, Inner, Named, Refused}
use Rattle.rdlpp_read.specs.declared.conditions.Progress.{Progress as StoredProgress}

-- The stored conditionals as they are seen, and the place that they make.

-- as many are seen as are stored
pub seen-length : (stored : List StoredProgress) → length (seen_of stored) ≡ length stored
unfolding seen_of
seen-length stored = length-map (reverse stored) progress_of ∙ length-reverse stored

-- the one that was stored last is seen first
pub seen-push : (stored : List StoredProgress) (o : StoredProgress) → seen_of (stored ++ o ∷ []) ≡ progress_of o ∷ seen_of stored
unfolding seen_of
seen-push stored o = ap (map progress_of) (reverse-append stored (o ∷ []))

-- what is stored, by all but the last and the last
pub last_apart : (stored : List StoredProgress) (d : StoredProgress) → 0 < length stored → stored ≡ take (length stored - 1) stored ++ get_or stored (length stored - 1) d ∷ []
last_apart stored d some =
    let n = length stored - 1 in
    let same : length stored ≡ suc n = omega arith in
    sym (take_all (length stored) stored (omega arith)) ∙ ap (λ (k : ℕ). take k stored) same ∙ take-suc stored n d (omega arith)

-- the last
pub seen-last : (stored : List StoredProgress) (d : StoredProgress) → 0 < length stored → seen_of stored ≡ progress_of (get_or stored (length stored - 1) d) ∷ seen_of (take (length stored - 1) stored)
seen-last stored d some = ap seen_of (last_apart stored d some) ∙ seen-push (take (length stored - 1) stored) (get_or stored (length stored - 1) d)

-- another in place of the last
pub seen-set : (stored : List StoredProgress) (o : StoredProgress) → 0 < length stored → seen_of (set stored (length stored - 1) o) ≡ progress_of o ∷ seen_of (take (length stored - 1) stored)
seen-set stored o some =
    let n = length stored - 1 in
    let all : set stored n o ≡ take n stored ++ o ∷ [] =
    sym (take_all (suc n) (set stored n o) (omega (arith, length-set stored n o))) ∙ take-suc-set stored n o (omega arith) in
    ap seen_of all ∙ seen-push (take n stored) o

-- all but the last
pub seen-rest : (stored : List StoredProgress) (d : StoredProgress) → 0 < length stored → seen_of (take (length stored - 1) stored) ≡ drop 1 (seen_of stored)
seen-rest stored d some = sym (ap (drop 1) (seen-last stored d some))

-- the innermost, of so many
pub innermost_seen : (stored : List StoredProgress) (n : ℕ) (o : StoredProgress) → n ≡ length stored → 0 < n → o ≡ get_or stored (n - 1) o → progress_of o ∷ drop 1 (seen_of stored) ≡ seen_of stored
innermost_seen stored n o size some is = grind (arith, seen-last)

-- all but the innermost, of so many
pub rest_seen : (stored after : List StoredProgress) (n : ℕ) → n ≡ length stored → 0 < n → after ≡ take (n - 1) stored → seen_of after ≡ drop 1 (seen_of stored)
rest_seen [] after n size some is = absurd (omega arith)
rest_seen (o ∷ os) after n size some is = grind (arith, seen-rest)

-- the innermost after a branch
pub turned_seen : (stored after : List StoredProgress) (n : ℕ) (o next : StoredProgress) (word : Directive) (holds : Bool) → n ≡ length stored → 0 < n → o ≡ get_or stored (n - 1) o
    → next ≡ record { line = o.line; taken = o.taken || holds; closing = is_else word } → after ≡ set stored (n - 1) next → seen_of after ≡ turned_open word holds (seen_of stored)
unfolding turned_open
turned_seen stored after n o next word holds size some is turns becomes = grind (arith, seen-set, seen-last)

-- as many are seen as are counted
pub count_seen : (stored : List StoredProgress) (open_now : List Progress) (n : ℕ) → seen_of stored ≡ open_now → n ≡ length stored → n ≡ length open_now
count_seen stored open_now n seen size = size ∙ sym (seen-length stored) ∙ ap length seen

-- where none of the open conditionals is the innermost source's
pub place_none : (P : Place → Type 0) (below : ℕ) (v : ConditionsView) → length v.open_now ≡ below → P (Live []) → P (place_of below v)
unfolding place_of own_conditions place_by
place_none P below v all p = grind arith

-- where some are
pub place_some : (P : Place → Type 0) (below : ℕ) (v : ConditionsView) (o : Progress) (rest : List Progress) → o ∷ rest ≡ v.open_now → below < length v.open_now
    → ((os : List Progress) → P (place_by v.skipped (o ∷ os))) → P (place_of below v)
unfolding place_of own_conditions
place_some P below v o rest is more p = grind arith

-- at some of them, whichever it is
place_at : (P : Place → Type 0) (below : ℕ) (skipped : Option ℕ) (os : List Progress) → below < length os → ((p : Progress) (rest : List Progress) → P (place_by skipped (p ∷ rest)))
    → P (place_by skipped (take (length os - below) os))
place_at P below skipped [] more p = absurd (omega arith)
place_at P below skipped (o ∷ os) more p =
    let k = length (o ∷ os) - below - 1 in
    let size : length (o ∷ os) - below ≡ suc k = omega arith in
    let here : place_by skipped (take (length (o ∷ os) - below) (o ∷ os)) ≡ place_by skipped (o ∷ take k os) = ap (λ (n : ℕ). place_by skipped (take n (o ∷ os))) size in
    subst P (sym here) (p o (take k os))

pub place_any : (P : Place → Type 0) (below : ℕ) (v : ConditionsView) → below < length v.open_now → ((o : Progress) (os : List Progress) → P (place_by v.skipped (o ∷ os))) → P (place_of below v)
unfolding place_of own_conditions
place_any P below v more p = place_at P below v.skipped v.open_now more p

-- a branch of one that opened in skipped text
pub branch_inner : (skipped : Option ℕ) (o : Progress) (os : List Progress) (word : Directive) → 0 < unwrap_or skipped 0 → IsBranch (place_by skipped (o ∷ os)) word Inner
unfolding place_by
branch_inner (Some (suc n)) o os word some = refl
branch_inner _ o os word some = absurd (omega arith)

-- a branch of the innermost
pub branch_own : (skipped : Option ℕ) (o : Progress) (os : List Progress) (word : Directive) (branch : Branch) → unwrap_or skipped 0 ≤ 0 → IsTurn o word branch → IsBranch (place_by skipped (o ∷ os)) word branch
unfolding place_by
branch_own (Some (suc n)) o os word branch none turns = absurd (omega arith)
branch_own _ o os word branch none turns = turns

-- the end of one that opened in skipped text
pub closes_inner : {A : Type 0} (skipped : Option ℕ) (o : Progress) (os : List Progress) (x : A) (inner : ℕ) (old new : ConditionsView) → inner ≡ unwrap_or skipped 0 → 0 < inner → new ≡ with_count (inner - 1) old
    → Closes {A = A} (place_by skipped (o ∷ os)) (Ok x) old new
unfolding place_by
closes_inner None o os x inner old new is some becomes = absurd (omega arith)
closes_inner (Some zero) o os x inner old new is some becomes = absurd (omega arith)
closes_inner (Some (suc n)) o os x inner old new is some becomes = grind arith

-- the end of the innermost
pub closes_own : {A : Type 0} (skipped : Option ℕ) (o : Progress) (os : List Progress) (x : A) (inner : ℕ) (old new : ConditionsView) → inner ≡ unwrap_or skipped 0 → inner ≤ 0 → new ≡ closed_one old
    → Closes {A = A} (place_by skipped (o ∷ os)) (Ok x) old new
unfolding place_by
closes_own (Some (suc n)) o os x inner old new is none becomes = absurd (omega arith)
closes_own _ o os x inner old new is none becomes = (tt, becomes)

-- what is left open
pub unclosed_some : (skipped : Option ℕ) (o : Progress) (os : List Progress) (line : ℕ) → line ≡ o.line → IsUnclosed (place_by skipped (o ∷ os)) (Some line)
unfolding place_by
unclosed_some None o os line is = ap Some is
unclosed_some (Some n) o os line is = ap Some is

-- a branch after an `else`
pub turn_refused : (o : Progress) (word : Directive) → o.closing ≡ true → IsTurn o word (Refused BranchAfterElse)
unfolding turn
turn_refused o word closing = (refl, λ c s is. rw closing refl)

-- an `else`
pub turn_else : (o : Progress) (word : Directive) (holds : Bool) → o.closing ≡ false → is_else word ≡ true → holds ≡ not o.taken → IsTurn o word (Decided holds)
unfolding turn
turn_else o word holds closing last is = λ c s w. rw (closing, w, last, is) refl

-- a branch after one that was taken
pub turn_taken : (o : Progress) (word : Directive) → o.closing ≡ false → is_else word ≡ false → o.taken ≡ true → IsTurn o word (Decided false)
unfolding turn
turn_taken o word closing other taken = λ c s w. rw (closing, w, other, taken) refl

-- a branch whose name decides
pub turn_named : (o : Progress) (word : Directive) → o.closing ≡ false → is_else word ≡ false → o.taken ≡ false → IsTurn o word Named
unfolding turn
turn_named o word closing other taken = (other, λ c s w. rw (closing, w, other, taken) refl)

-- where no more may be opened
pub opens_none : (v : ConditionsView) (holds : Bool) → length v.open_now ≡ v.limit → opening_within (conditions_left v) (Holds holds) ≡ TestFault TooManyConditionals []
unfolding conditions_left opening_within
opens_none v holds full = grind arith

-- where one more may
pub opens_one : (v : ConditionsView) (holds : Bool) → length v.open_now < v.limit → opening_within (conditions_left v) (Holds holds) ≡ Holds holds
unfolding conditions_left opening_within
opens_one v holds room = grind arith
