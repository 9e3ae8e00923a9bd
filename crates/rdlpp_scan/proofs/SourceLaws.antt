-- Lines and logical lines, and the tokens of a source line by line.
use Rattle.std.proofs.Common.{◌≡◌, ℕ, zero, suc, ◌+◌, ◌<◌, ◌≤◌, Bool, true, false, cond, List, ◌∷◌, ◌++◌, length, take, drop, refl, sym, ap, ◌∙◌, subst, inl, inr, ⊎_elim, arith, not, ◌&&◌, Option, Some, None, ◌-◌, eqb, get_or, ltb, count_by, option_map, unwrap_or, take-add, eqb-true, le-ltb, lt-ltb, append-nil, append_assoc, drop-drop, length-append, length-take, length-take-le, []}
use Rattle.std.specs.List.{concat}
use Rattle.std.proofs.Math.Bool.{and-false}
use Rattle.std.proofs.lemmas.Bool.{cond_both, false_from_ne_true}
use Rattle.std.proofs.lemmas.List.Sums.{count_by-le-length, count_by_more_no, count_by_more_yes, sum_by-append}
use Rattle.memchr.specs.Find.{IsFirstByte, is_byte}
use Rattle.rdlpp_scan.specs.Bytes.{is_line_end}
use Rattle.rdlpp_scan.specs.Front.{Breach, Front, LineLong, SourceLong, front, front_of_lines, lines_of, onto_first, onto_front}
use Rattle.rdlpp_scan.specs.Lines.{EndsLine, IsWholeLines, ended_line_len, ends_continued, onto_whole_lines, whole_lines_len}
use Rattle.rdlpp_scan.specs.SourceTokens.{Course, Last, Next, SourceToken, is_continued, line_after, line_ends, line_len, logical_len, source_end, source_step, source_tokens}
use Rattle.rdlpp_scan.specs.declared.token.Mode.{Mode}
use Rattle.rdlpp_scan.specs.declared.token.Mode.TheVariants.{Plain}

-- Texts that end at a line end.

-- whole lines are within their text
pub whole_lines_len-le : (bs : List ℕ) → whole_lines_len bs ≤ length bs
unfolding whole_lines_len onto_whole_lines
whole_lines_len-le [] = omega arith
whole_lines_len-le (b ∷ bs) = grind (arith, (whole_lines_len-le bs))

-- without its first byte a text of whole lines is one
pub IsWholeLines-rest : (b : ℕ) (bs : List ℕ) → IsWholeLines (b ∷ bs) → IsWholeLines bs
unfolding whole_lines_len onto_whole_lines
IsWholeLines-rest b bs h = grind arith

one_of : (t : Bool) (n : ℕ) → cond t 1 0 ≡ n → n ≡ 1 → t ≡ true
one_of true n e h = refl
one_of false n e h = absurd (omega arith)

-- a text of whole lines and of one byte is LF
pub IsWholeLines-one : (b : ℕ) → IsWholeLines (b ∷ []) → is_line_end b ≡ true
unfolding whole_lines_len onto_whole_lines
IsWholeLines-one b h = one_of (is_line_end b) (whole_lines_len (b ∷ [])) refl h

-- whole lines in front of a text
pub whole_lines_len-append : (xs ys : List ℕ) → IsWholeLines xs → whole_lines_len (xs ++ ys) ≡ length xs + whole_lines_len ys
unfolding whole_lines_len onto_whole_lines
whole_lines_len-append [] ys h = omega arith
whole_lines_len-append (b ∷ xs) ys h =
    let rest = IsWholeLines-rest b xs h in
    let n = length xs + whole_lines_len ys in
    let P : ℕ → Type 0 = λ k. k ≡ n → onto_whole_lines b k ≡ suc k in
    let none : P zero = λ e. let zero_is : whole_lines_len xs ≡ 0 = omega (arith, rest) in let one : suc (length xs) ≡ 1 = omega arith in sym (ap (onto_whole_lines b) zero_is) ∙ h ∙ one in
    let here : onto_whole_lines b n ≡ suc n = elim n as P [ zero ↦ none | suc k ↦ λ e. refl ] refl in
    ap (onto_whole_lines b) (whole_lines_len-append xs ys rest) ∙ here ∙ omega arith

-- whole lines after whole lines are whole lines
pub IsWholeLines-append : (xs ys : List ℕ) → IsWholeLines xs → IsWholeLines ys → IsWholeLines (xs ++ ys)
IsWholeLines-append xs ys h k = whole_lines_len-append xs ys h ∙ ap (λ n. length xs + n) k ∙ sym (length-append xs ys)

-- the whole lines of a text are whole lines
pub IsWholeLines-take : (bs : List ℕ) → IsWholeLines (take (whole_lines_len bs) bs)
unfolding whole_lines_len onto_whole_lines
IsWholeLines-take [] = refl
IsWholeLines-take (b ∷ bs) = grind (arith, whole_lines_len-le, length-take-le, (IsWholeLines-take bs))

-- what is after a place of whole lines is whole lines
pub IsWholeLines-drop : (n : ℕ) (bs : List ℕ) → IsWholeLines bs → IsWholeLines (drop n bs)
unfolding whole_lines_len
IsWholeLines-drop zero bs h = h
IsWholeLines-drop (suc n) [] h = refl
IsWholeLines-drop (suc n) (b ∷ bs) h = IsWholeLines-drop n bs (IsWholeLines-rest b bs h)

-- the same for a text that ends at a line end or at the end of all
pub EndsLine-drop : (n : ℕ) (bs rest : List ℕ) → EndsLine bs rest → EndsLine (drop n bs) rest
EndsLine-drop n bs rest = ⊎_elim (λ h. inl (IsWholeLines-drop n bs h)) (λ h. inr h)

-- a byte in front of whole lines
pub whole_one : (b : ℕ) (bs : List ℕ) → IsWholeLines bs → 0 < length bs → IsWholeLines (b ∷ bs)
unfolding whole_lines_len onto_whole_lines
whole_one b bs h some = grind arith

-- Lines and logical lines, with more after them.

line_len-whole : (held more : List ℕ) → 0 < length held → IsWholeLines held → line_len (held ++ more) ≡ line_len held
unfolding line_len
line_len-whole [] more some whole = absurd (omega arith)
line_len-whole (b ∷ []) more some whole = grind (arith, IsWholeLines-one)
line_len-whole (b ∷ c ∷ cs) more some whole =
    ap (λ n. cond (is_line_end b) 1 (suc n)) (line_len-whole (c ∷ cs) more (omega arith) (IsWholeLines-rest b (c ∷ cs) whole))

-- a text with nothing after it is that text
pub nothing_after : {A : Type 0} (F : List ℕ → A) (held more : List ℕ) → more ≡ [] → F (held ++ more) ≡ F held
nothing_after F held more none = ap F (ap (λ xs. held ++ xs) none ∙ append-nil held)

-- a line that has its LF
pub line_len-append : (held more : List ℕ) → 0 < length held → EndsLine held more → line_len (held ++ more) ≡ line_len held
line_len-append held more some = ⊎_elim (λ whole. line_len-whole held more some whole) (λ none. nothing_after line_len held more none)

-- one less
pub some_suc : (o : Option ℕ) (n : ℕ) → option_map suc o ≡ Some n → (m : ℕ) × ((o ≡ Some m) × (n ≡ suc m))
some_suc None n e = absurd (cc)
some_suc (Some m) n e = (m, (refl, cc))

-- none
pub none_suc : (o : Option ℕ) → option_map suc o ≡ None → o ≡ None
none_suc None e = refl
none_suc (Some m) e = absurd (cc)

-- a text with no LF is part of its line
pub line_len-open : (xs ys : List ℕ) → ended_line_len xs ≡ None → line_len (xs ++ ys) ≡ length xs + line_len ys
unfolding line_len ended_line_len
line_len-open [] ys h = omega arith
line_len-open (b ∷ xs) ys h =
    let P : Bool → Type 0 = λ t. cond t (Some 1) (option_map suc (ended_line_len xs)) ≡ None → cond t 1 (suc (line_len (xs ++ ys))) ≡ suc (length xs) + line_len ys in
    let at_true : P true = λ e. absurd (cc) in
    let at_false : P false = λ e. omega (arith, line_len-open xs ys (none_suc (ended_line_len xs) e)) in
    elim (is_line_end b) as P [ true ↦ at_true | false ↦ at_false ] h

-- a line has a byte
pub line_len-some : (bs : List ℕ) → 0 < length bs → 0 < line_len bs
unfolding line_len
line_len-some [] some = absurd (omega arith)
line_len-some (b ∷ bs) some = elim (is_line_end b) as (λ t. 0 < cond t 1 (suc (line_len bs))) [ true ↦ omega arith | false ↦ omega arith ]

-- the end of a logical line
pub logical_len-append : (x y : ℕ) (xs ys : List ℕ) (n : ℕ) → logical_len x y xs ≡ Some n → logical_len x y (xs ++ ys) ≡ Some n
unfolding logical_len
logical_len-append x y [] ys n h = absurd (cc)
logical_len-append x y (b ∷ xs) ys n h =
    let P : Bool → Type 0 = λ t. cond t (Some 1) (option_map suc (logical_len y b xs)) ≡ Some n → cond t (Some 1) (option_map suc (logical_len y b (xs ++ ys))) ≡ Some n in
    let at_true : P true = λ e. e in
    let at_false : P false = λ e. let p = some_suc (logical_len y b xs) n e in ap (option_map suc) (logical_len-append y b xs ys p.0 p.1.0) ∙ ap Some (sym p.1.1) in
    elim (is_line_end b && not (is_continued x y)) as P [ true ↦ at_true | false ↦ at_false ] h

-- Lines and logical lines, by the places of their LF bytes.

-- a line's length, by whether it has an LF
pub line_len-ended : (bs : List ℕ) → unwrap_or (ended_line_len bs) (length bs) ≡ line_len bs
unfolding ended_line_len line_len
line_len-ended [] = refl
line_len-ended (b ∷ bs) = grind (arith, (line_len-ended bs))

-- a line is within its text
pub line_len-le : (bs : List ℕ) → line_len bs ≤ length bs
unfolding line_len
line_len-le [] = omega arith
line_len-le (b ∷ bs) = elim (is_line_end b) as (λ t. cond t 1 (suc (line_len bs)) ≤ suc (length bs)) [ true ↦ omega arith | false ↦ omega (arith, line_len-le bs) ]

-- the two bytes before the LF decide
pub ends_continued-last : (x y : ℕ) (w : List ℕ) → ends_continued x y w ≡ is_continued (get_or (x ∷ y ∷ w) (length w) 0) (get_or (x ∷ y ∷ w) (suc (length w)) 0)
unfolding ends_continued
ends_continued-last x y [] = refl
ends_continued-last x y (b ∷ w) = ends_continued-last y b w

-- the same, with the two bytes counted from the end
pub ends_continued-back : (w : List ℕ) (r : Bool) (p q : ℕ) → r ≡ is_continued p q → p ≡ get_or (0 ∷ 0 ∷ w) (length w + 2 - 2) 0 → q ≡ get_or (0 ∷ 0 ∷ w) (length w + 2 - 1) 0 → r ≡ ends_continued 0 0 w
ends_continued-back w r p q is before last = grind (arith, ends_continued-last)

-- one more in front
pub option_map-twice : (k : ℕ) (o : Option ℕ) → option_map suc (option_map (λ n. k + n) o) ≡ option_map (λ n. suc k + n) o
option_map-twice k None = refl
option_map-twice k (Some n) = ap Some (omega arith)

option_map-suc : (o : Option ℕ) → option_map suc o ≡ option_map (λ n. 1 + n) o
option_map-suc None = refl
option_map-suc (Some n) = ap Some (omega arith)

option_map-both : (at k : ℕ) (o : Option ℕ) → option_map (λ n. at + n) (option_map (λ n. suc k + n) o) ≡ option_map (λ n. at + k + 1 + n) o
option_map-both at k None = refl
option_map-both at k (Some n) = ap Some (omega arith)

after_ten : (b : ℕ) (bs : List ℕ) → logical_len 10 b bs ≡ logical_len 0 b bs
unfolding logical_len is_continued
after_ten b [] = refl
after_ten b (c ∷ cs) = refl

-- after an LF a line begins anew
pub logical_len-after : (x : ℕ) (bs : List ℕ) → logical_len x 10 bs ≡ logical_len 0 0 bs
unfolding logical_len is_continued
logical_len-after x [] = refl
logical_len-after x (b ∷ bs) =
    ap (λ t. cond (is_line_end b && not t) (Some 1) (option_map suc (logical_len 10 b bs))) (and-false (eqb x 92)) ∙ ap (λ o. cond (is_line_end b && true) (Some 1) (option_map suc o)) (after_ten b bs)

-- the first LF of a text: the logical line ends there, or goes on
pub logical_len-at : (x y : ℕ) (bs : List ℕ) (k : ℕ) → ((j : ℕ) → j < k → is_line_end (get_or bs j 0) ≡ false) → k < length bs → get_or bs k 0 ≡ 10
    → logical_len x y bs ≡ cond (ends_continued x y (take k bs)) (option_map (λ n. suc k + n) (logical_len 0 0 (drop (suc k) bs))) (Some (suc k))
unfolding logical_len ends_continued is_line_end
logical_len-at x y [] k none inside here = absurd (omega arith)
logical_len-at x y (b ∷ bs) zero none inside here =
    let P : ℕ → Type 0 = λ c. cond (eqb c 10 && not (is_continued x y)) (Some 1) (option_map suc (logical_len y c bs)) ≡ cond (is_continued x y) (option_map (λ n. 1 + n) (logical_len 0 0 bs)) (Some 1) in
    let at_ten : P 10 = elim (is_continued x y) as (λ t. cond (not t) (Some 1) (option_map suc (logical_len y 10 bs)) ≡ cond t (option_map (λ n. 1 + n) (logical_len 0 0 bs)) (Some 1)) [
      | true ↦ ap (option_map suc) (logical_len-after y bs) ∙ option_map-suc (logical_len 0 0 bs)
      | false ↦ refl
    ] in
    subst P (sym here) at_ten
logical_len-at x y (b ∷ bs) (suc k) none inside here =
    let rest = logical_len 0 0 (drop (suc k) bs) in
    let more = logical_len-at y b bs k (λ j lt. none (suc j) (omega arith)) (omega arith) here in
    let split : (c : Bool) → option_map suc (cond c (option_map (λ n. suc k + n) rest) (Some (suc k))) ≡ cond c (option_map (λ n. suc (suc k) + n) rest) (Some (suc (suc k))) = λ c.
    elim c as (λ d. option_map suc (cond d (option_map (λ n. suc k + n) rest) (Some (suc k))) ≡ cond d (option_map (λ n. suc (suc k) + n) rest) (Some (suc (suc k)))) [ true ↦ option_map-twice (suc k) rest | false ↦ refl ] in
    ap (λ t. cond (t && not (is_continued x y)) (Some 1) (option_map suc (logical_len y b bs))) (none 0 (omega arith)) ∙ ap (option_map suc) more ∙ split (ends_continued y b (take k bs))

-- a text with no LF has no end of a logical line
pub logical_len-none : (x y : ℕ) (bs : List ℕ) → ((j : ℕ) → j < length bs → is_line_end (get_or bs j 0) ≡ false) → logical_len x y bs ≡ None
unfolding logical_len
logical_len-none x y [] none = refl
logical_len-none x y (b ∷ bs) none =
    ap (λ t. cond (t && not (is_continued x y)) (Some 1) (option_map suc (logical_len y b bs))) (none 0 (omega arith)) ∙ ap (option_map suc) (logical_len-none y b bs (λ j lt. none (suc j) (omega arith)))

-- one line on, in a text that is passed over as far as `at`
pub logical_len-goes_on : (bs : List ℕ) (at k : ℕ) → at ≤ length bs → IsFirstByte (is_byte 10) (drop at bs) (Some k) → ends_continued 0 0 (take k (drop at bs)) ≡ true
    → logical_len 0 0 bs ≡ option_map (λ n. at + n) (logical_len 0 0 (drop at bs)) → logical_len 0 0 bs ≡ option_map (λ n. at + k + 1 + n) (logical_len 0 0 (drop (at + k + 1) bs))
unfolding is_line_end
logical_len-goes_on bs at k inside found goes so_far =
    let rest = logical_len 0 0 (drop (suc k) (drop at bs)) in
    let line = logical_len-at 0 0 (drop at bs) k (λ j lt. false_from_ne_true _ (found.0.before j (omega arith) lt)) found.0.high (eqb-true (get_or (drop at bs) k 0) 10 found.1) in
    let cut : drop (suc k) (drop at bs) ≡ drop (at + k + 1) bs = drop-drop (suc k) at bs ∙ ap (λ i. drop i bs) (omega arith) in
    so_far ∙ ap (option_map (λ n. at + n)) (line ∙ ap (λ t. cond t (option_map (λ n. suc k + n) rest) (Some (suc k))) goes)
    ∙ option_map-both at k rest ∙ ap (λ xs. option_map (λ n. at + k + 1 + n) (logical_len 0 0 xs)) cut

-- the end of the logical line
pub logical_len-ends : (bs : List ℕ) (at k : ℕ) → at ≤ length bs → IsFirstByte (is_byte 10) (drop at bs) (Some k) → ends_continued 0 0 (take k (drop at bs)) ≡ false
    → logical_len 0 0 bs ≡ option_map (λ n. at + n) (logical_len 0 0 (drop at bs)) → Some (at + k + 1) ≡ logical_len 0 0 bs
unfolding is_line_end
logical_len-ends bs at k inside found ends so_far =
    let rest = logical_len 0 0 (drop (suc k) (drop at bs)) in
    let line = logical_len-at 0 0 (drop at bs) k (λ j lt. false_from_ne_true _ (found.0.before j (omega arith) lt)) found.0.high (eqb-true (get_or (drop at bs) k 0) 10 found.1) in
    sym (so_far ∙ ap (option_map (λ n. at + n)) (line ∙ ap (λ t. cond t (option_map (λ n. suc k + n) rest) (Some (suc k))) ends) ∙ ap Some (omega arith))

-- no LF is left
pub logical_len-no_end : (bs : List ℕ) (at : ℕ) → IsFirstByte (is_byte 10) (drop at bs) None → logical_len 0 0 bs ≡ option_map (λ n. at + n) (logical_len 0 0 (drop at bs)) → None ≡ logical_len 0 0 bs
unfolding is_line_end
logical_len-no_end bs at none so_far =
    sym (so_far ∙ ap (option_map (λ n. at + n)) (logical_len-none 0 0 (drop at bs) (λ j lt. false_from_ne_true _ (none j (omega arith) lt))))

-- nothing is passed over at first
pub logical_len-start : (bs : List ℕ) → logical_len 0 0 bs ≡ option_map (λ n. 0 + n) (logical_len 0 0 bs)
logical_len-start bs = elim (logical_len 0 0 bs) as (λ o. o ≡ option_map (λ n. 0 + n) o) [ None ↦ refl | Some n ↦ ap Some (omega arith) ]

-- Laws of a source's tokens that hold of every text.

-- in plain text it is of no account where something opened
pub source_tokens-opened : (c : Course) (o p l skip : ℕ) (bs : List ℕ) → source_tokens c Plain o l skip bs ≡ source_tokens c Plain p l skip bs
unfolding source_tokens source_end source_step
source_tokens-opened c o p l zero [] = refl
source_tokens-opened c o p l (suc skip) [] = refl
source_tokens-opened c o p l (suc skip) (b ∷ bs) = source_tokens-opened c o p (line_after b l) skip bs
source_tokens-opened c o p l zero (b ∷ bs) = refl

-- how many LF bytes one more byte makes
pub line_ends-cons : (b : ℕ) (bs : List ℕ) → line_ends (b ∷ bs) ≡ cond (is_line_end b) 1 0 + line_ends bs
unfolding line_ends
line_ends-cons b bs =
    let one : 0 + cond (is_line_end b) 1 0 ≡ cond (is_line_end b) 1 0 = omega arith in
    sum_by-append (λ x. cond (is_line_end x) 1 0) (b ∷ []) bs ∙ ap (λ n. n + count_by is_line_end bs) one

-- how many LF bytes two texts have together
pub line_ends-append : (xs ys : List ℕ) → line_ends (xs ++ ys) ≡ line_ends xs + line_ends ys
unfolding line_ends
line_ends-append xs ys = sum_by-append (λ x. cond (is_line_end x) 1 0) xs ys

-- the line after a byte, and after a text that it begins
pub line_after-ends : (b l : ℕ) (bs : List ℕ) → line_after b l + line_ends bs ≡ l + line_ends (b ∷ bs)
unfolding line_after
line_after-ends b l bs = grind (arith, line_ends-cons)

-- bytes that are passed over are dropped, with their LF bytes counted
pub source_tokens-skip : (c : Course) (m : Mode) (o l n : ℕ) (bs : List ℕ) → source_tokens c m o l n bs ≡ source_tokens c m o (l + line_ends (take n bs)) 0 (drop n bs)
unfolding source_tokens line_ends
source_tokens-skip c m o l zero bs = let e : l ≡ l + 0 = omega arith in ap (λ k. source_tokens c m o k 0 bs) e
source_tokens-skip c m o l (suc n) [] = let e : l ≡ l + 0 = omega arith in ap (λ k. source_end c m o k) e
source_tokens-skip c m o l (suc n) (b ∷ bs) =
    source_tokens-skip c m o (line_after b l) n bs ∙ ap (λ k. source_tokens c m o k 0 (drop n bs)) (line_after-ends b l (take n bs))

-- a first token with more after it
pub source_tokens-next : (c : Course) (m : Mode) (o l : ℕ) (bs : List ℕ) (t : SourceToken) → 0 < length bs → source_step c m o l bs ≡ Next t → 0 < length t.bytes
    → source_tokens c m o l 0 bs ≡ t ∷ source_tokens c Plain l (l + line_ends (take (length t.bytes) bs)) 0 (drop (length t.bytes) bs)
unfolding source_tokens
source_tokens-next c m o l [] t some is long = absurd (omega arith)
source_tokens-next c m o l (b ∷ bs) t some is long =
    let following : ℕ → List SourceToken = λ n. source_tokens c Plain l (line_after b l) n bs in
    let picked = ap (λ s. elim s [ Last u ↦ u ∷ [] | Next u ↦ u ∷ source_tokens c Plain l (line_after b l) (length u.bytes - 1) bs ]) is in
    let n = length t.bytes in
    let one : suc (n - 1) ≡ n = omega arith in
    let dropped : following (n - 1) ≡ source_tokens c Plain l (l + line_ends (take n (b ∷ bs))) 0 (drop n (b ∷ bs)) =
    subst (λ k. following (n - 1) ≡ source_tokens c Plain l (l + line_ends (take k (b ∷ bs))) 0 (drop k (b ∷ bs))) one (source_tokens-skip c Plain l l (suc (n - 1)) (b ∷ bs)) in
    picked ∙ ap (λ ts. t ∷ ts) dropped

-- a first token that ends the list
pub source_tokens-last : (c : Course) (m : Mode) (o l : ℕ) (bs : List ℕ) (t : SourceToken) → 0 < length bs → source_step c m o l bs ≡ Last t → source_tokens c m o l 0 bs ≡ t ∷ []
unfolding source_tokens
source_tokens-last c m o l [] t some is = absurd (omega arith)
source_tokens-last c m o l (b ∷ bs) t some is =
    ap (λ s. elim s [ Last u ↦ u ∷ [] | Next u ↦ u ∷ source_tokens c Plain l (line_after b l) (length u.bytes - 1) bs ]) is

-- The front of a text, line by line.

-- the first line of a text, and the lines after it
pub lines_of-first : (b : ℕ) (bs : List ℕ) → lines_of (b ∷ bs) ≡ take (line_len (b ∷ bs)) (b ∷ bs) ∷ lines_of (drop (line_len (b ∷ bs)) (b ∷ bs))
unfolding lines_of line_len onto_first is_line_end
lines_of-first b [] = elim (eqb b 10) as (λ t. cond t ((b ∷ []) ∷ []) ((b ∷ []) ∷ []) ≡ take (cond t 1 1) (b ∷ []) ∷ lines_of (drop (cond t 1 1) (b ∷ []))) [ true ↦ refl | false ↦ refl ]
lines_of-first b (c ∷ cs) = grind (arith, (lines_of-first c cs))

-- the lines of whole lines and of what is after them
lines_of-append : (w r : List ℕ) → IsWholeLines w → lines_of (w ++ r) ≡ lines_of w ++ lines_of r
unfolding lines_of is_line_end onto_first
lines_of-append [] r whole = refl
lines_of-append (b ∷ []) r whole = grind (arith, IsWholeLines-one)
lines_of-append (b ∷ c ∷ w) r whole =
    let rest = lines_of-append (c ∷ w) r (IsWholeLines-rest b (c ∷ w) whole) in
    let some = lines_of-first c w in
    let P : List (List ℕ) → Type 0 = λ ls. onto_first b (ls ++ lines_of r) ≡ onto_first b ls ++ lines_of r in
    let split : P (lines_of (c ∷ w)) = subst P (sym some) refl in
    elim (eqb b 10) as (λ t. cond t ((b ∷ []) ∷ lines_of (c ∷ w ++ r)) (onto_first b (lines_of (c ∷ w ++ r))) ≡ cond t ((b ∷ []) ∷ lines_of (c ∷ w)) (onto_first b (lines_of (c ∷ w))) ++ lines_of r) [
      | true ↦ ap (λ ls. (b ∷ []) ∷ ls) rest
      | false ↦ ap (onto_first b) rest ∙ split
    ]

concat-onto_first : (b : ℕ) (ls : List (List ℕ)) → concat (onto_first b ls) ≡ b ∷ concat ls
unfolding onto_first
concat-onto_first b [] = refl
concat-onto_first b (l ∷ ls) = refl

-- the lines of a text are all of it
concat-lines_of : (bs : List ℕ) → concat (lines_of bs) ≡ bs
unfolding lines_of
concat-lines_of [] = refl
concat-lines_of (b ∷ bs) =
    cond_both (eqb b 10) ((b ∷ []) ∷ lines_of bs) (onto_first b (lines_of bs)) (λ ls. concat ls ≡ b ∷ bs) (λ _. ap (λ xs. b ∷ xs) (concat-lines_of bs)) (λ _. concat-onto_first b (lines_of bs) ∙ ap (λ xs. b ∷ xs) (concat-lines_of bs))

-- lines that the limits accept are passed over
front_of_lines-append : (most room : ℕ) (ls rs : List (List ℕ)) → length (concat ls) ≤ most → length (concat ls) ≤ room → front_of_lines most room (ls ++ rs) ≡ onto_front (concat ls) (front_of_lines most (room - length (concat ls)) rs)
unfolding front_of_lines onto_front
front_of_lines-append most room [] rs line source = let e : room ≡ room - 0 = omega arith in ap (λ n. front_of_lines most n rs) e
front_of_lines-append most room (l ∷ ls) rs line source =
    let both = length-append l (concat ls) in
    let X = onto_front l (front_of_lines most (room - length l) (ls ++ rs)) in
    let long : Front = record { text = []; break = Some (record { breach = LineLong; len = length l }) } in
    let much : Front = record { text = []; break = Some (record { breach = SourceLong; len = length l }) } in
    let f = front_of_lines most (room - length l - length (concat ls)) rs in
    let less : room - length l - length (concat ls) ≡ room - length (l ++ concat ls) = omega (arith, both) in
    ap (λ t. cond t long (cond (ltb room (length l)) much X)) (le-ltb most (length l) (omega (arith, both)))
    ∙ ap (λ t. cond t much X) (le-ltb room (length l) (omega (arith, both)))
    ∙ ap (onto_front l) (front_of_lines-append most (room - length l) ls rs (omega (arith, both)) (omega (arith, both)))
    ∙ ap (λ t. record { text = t; break = f.break }) (sym (append_assoc l (concat ls) f.text))
    ∙ ap (λ n. onto_front (l ++ concat ls) (front_of_lines most n rs)) less

no_lines_after : (w : List ℕ) → lines_of (w ++ []) ≡ lines_of w ++ lines_of []
unfolding lines_of
no_lines_after w = ap lines_of (append-nil w) ∙ sym (append-nil (lines_of w))

-- lines that the limits accept
pub front-accept : (most room : ℕ) (w r : List ℕ) → EndsLine w r → length w ≤ most → length w ≤ room → front most room (w ++ r) ≡ onto_front w (front most (room - length w) r)
unfolding front
front-accept most room w r ends line source = grind (arith, concat-lines_of, lines_of-append, no_lines_after, front_of_lines-append)

-- no text
pub front-none : (most room : ℕ) → front most room [] ≡ record { text = []; break = None }
unfolding front front_of_lines lines_of
front-none most room = refl

-- the front begins with the first line, or breaks there
front-first : (most room b : ℕ) (bs : List ℕ) → front most room (b ∷ bs) ≡ front_of_lines most room (take (line_len (b ∷ bs)) (b ∷ bs) ∷ lines_of (drop (line_len (b ∷ bs)) (b ∷ bs)))
unfolding front
front-first most room b bs = ap (front_of_lines most room) (lines_of-first b bs)

of_lines-line_long : (most room : ℕ) (l : List ℕ) (ls : List (List ℕ)) → most < length l → front_of_lines most room (l ∷ ls) ≡ record { text = []; break = Some (record { breach = LineLong; len = length l }) }
unfolding front_of_lines
of_lines-line_long most room l ls long = grind (arith, lt-ltb)

of_lines-source_long : (most room : ℕ) (l : List ℕ) (ls : List (List ℕ)) → length l ≤ most → room < length l → front_of_lines most room (l ∷ ls) ≡ record { text = []; break = Some (record { breach = SourceLong; len = length l }) }
unfolding front_of_lines
of_lines-source_long most room l ls fits much = grind (arith, le-ltb, lt-ltb)

broken_front : Breach → ℕ → Front
broken_front k n = record { text = []; break = Some (record { breach = k; len = n }) }

-- a first line that is too long
pub front-line_long : (most room : ℕ) (r : List ℕ) → most < line_len r → front most room r ≡ record { text = []; break = Some (record { breach = LineLong; len = line_len r }) }
unfolding broken_front
front-line_long most room [] long = absurd (omega (arith, line_len-le []))
front-line_long most room (b ∷ bs) long = grind (arith, length-take-le, line_len-le, front-first, of_lines-line_long, broken_front)

-- a first line that is too much for the source
pub front-source_long : (most room : ℕ) (r : List ℕ) → line_len r ≤ most → room < line_len r → front most room r ≡ record { text = []; break = Some (record { breach = SourceLong; len = line_len r }) }
unfolding broken_front
front-source_long most room [] fits long = absurd (omega (arith, line_len-le []))
front-source_long most room (b ∷ bs) fits long = grind (arith, length-take-le, line_len-le, front-first, of_lines-source_long, broken_front)

-- How many LF bytes the beginning of a text has, one byte or one part further.

-- one byte further, which is LF
pub line_ends-hit : (bs : List ℕ) (i : ℕ) → i < length bs → get_or bs i 0 ≡ 10 → line_ends (take (i + 1) bs) ≡ line_ends (take i bs) + 1
unfolding line_ends is_line_end
line_ends-hit bs i less is = count_by_more_yes is_line_end bs i 0 less (ap is_line_end is)

-- one byte further, which isn't LF
pub line_ends-miss : (bs : List ℕ) (i : ℕ) → i < length bs → (get_or bs i 0 ≡ 10 → ⊥) → line_ends (take (i + 1) bs) ≡ line_ends (take i bs)
unfolding line_ends is_line_end
line_ends-miss bs i less is = count_by_more_no is_line_end bs i 0 less (false_from_ne_true _ (λ e. is (eqb-true _ _ e)))

-- no more LF bytes than bytes
pub line_ends-most : (bs : List ℕ) (i : ℕ) → line_ends (take i bs) ≤ i
unfolding line_ends
line_ends-most bs i = omega (arith, count_by-le-length is_line_end (take i bs), length-take i bs)

-- one part further
pub line_ends-part : (bs : List ℕ) (at more : ℕ) → line_ends (take at bs) + line_ends (take (at + more - at) (drop at bs)) ≡ line_ends (take (at + more) bs)
line_ends-part bs at more = grind (arith, line_ends-append, take-add)
