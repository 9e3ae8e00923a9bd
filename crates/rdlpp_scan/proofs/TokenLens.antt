-- Searches in a text, the classes of bytes, and the length and the last byte of a first token.
use Rattle.std.proofs.Common.{◌≡◌, ℕ, zero, suc, ◌<◌, Bool, true, false, ◌&&◌, not, nat_eq, bit_and, get_or, List, refl, arith, inl, inr, cond, ◌∷◌, Option, Some, None, length, sym, ap, ◌∙◌, ◌+◌, ◌≤◌, eqb, one-add, take, drop, ⊎_elim, ◌||◌, subst, ◌≢◌, min, ltb, ◌-◌, option_map, unwrap_or, eq-eqb, eqb-true, leb-true, ltb-false, ltb-true, ne_eqb, drop-drop, get_or-drop, length-drop, take_all, []}
use Rattle.std.specs.Bool.{beq}
use Rattle.std.specs.List.{AllByRecursion, list_all, prefix_len}
use Rattle.std.proofs.Math.Bool.{or-true}
use Rattle.std.proofs.lemmas.Bool.{and_from, and_parts, cases_eq, cases_lt, cond_both, false_from_ne_true, false≢true, or_cases, or_from, or_parts}
use Rattle.std.proofs.lemmas.List.{drop_all, drop_more, get_or_past}
use Rattle.std.proofs.lemmas.List.Folds.{list_all_at}
use Rattle.std.proofs.lemmas.List.Sums.{prefix_len-le-length, prefix_len_is, prefix_len_passes, prefix_len_stops}
use Rattle.memchr.specs.Find.{FindsNeedle, IsFirstByte, IsLastByte, OccursAt, is_byte, is_byte3}
use Rattle.rdlpp_scan.specs.Bytes.{begins_block_comment, begins_line_comment, begins_perl, ends_block_comment, is_blank, is_closer, is_digit, is_letter, is_line_end, is_opener, is_word, takes_word}
use Rattle.rdlpp_scan.specs.Comments.{is_line_comment}
use Rattle.rdlpp_scan.specs.LexFaults.{fault_of_tokens, is_perl, open_fault}
use Rattle.rdlpp_scan.specs.Lines.{ended_line_len, onto_whole_lines, whole_lines_len}
use Rattle.rdlpp_scan.specs.Tokens.{block_token, first_place, plain_len, plain_token, stops_plain_text, string_stop, string_token, token_of, tokens_from, whole}
use Rattle.rdlpp_scan.specs.declared.token.Kind.{Kind}
use Rattle.rdlpp_scan.specs.declared.token.Kind.TheVariants.{Back, BareBackquote, Blank, BlockComment, Closer, Comma, LineComment, LineEnd, Name, Opener, Other, Perl, Str, Word}
use Rattle.rdlpp_scan.specs.declared.token.LexFault.TheVariants.{Perl as PerlFault}
use Rattle.rdlpp_scan.specs.declared.token.Mode.{Mode}
use Rattle.rdlpp_scan.specs.declared.token.Mode.TheVariants.{InBlock, InStr, Plain}
use Rattle.rdlpp_scan.specs.declared.token.Token.{Token}

-- The classes of bytes: the table is held against a definition at each of the 256 bytes, by computing.

-- two tests agree below a number
unfoldable pub agree_below : (ℕ → Bool) → (ℕ → Bool) → ℕ → Bool
agree_below f g zero = true
agree_below f g (suc n) = beq (f n) (g n) && agree_below f g n

both_of : (x y rest : Bool) → (beq x y && rest) ≡ true → (x ≡ y) × (rest ≡ true)
both_of true false rest h = cc
both_of false true rest h = cc
both_of _ _ rest h = (refl, h)

agree_at : (f g : ℕ → Bool) (n : ℕ) → agree_below f g n ≡ true → (b : ℕ) → b < n → f b ≡ g b
unfolding agree_below
agree_at f g zero h b lt = absurd (omega arith)
agree_at f g (suc n) h b lt =
    let both = both_of (f n) (g n) (agree_below f g n) h in
    elim (cases_eq b n) [ inl same ↦ rw same both.0 | inr other ↦ agree_at f g n both.1 b (omega arith) ]

abbrev pub has_class : List ℕ → ℕ → ℕ → Bool
has_class table class b = not (nat_eq (bit_and (get_or table b 0) class) 0)

-- a table tells a class of bytes, where it does for each of them
pub told : (table : List ℕ) (class : ℕ) (test : ℕ → Bool) (b : ℕ) → b < 256 → agree_below (has_class table class) test 256 ≡ true → has_class table class b ≡ test b
told table class test b lt h = agree_at _ _ 256 h b lt

-- What a search's answer says of the definitions that walk over a text.

-- the first byte that passes a test ends the run that fails it
pub prefix_len-search : (test : ℕ → Bool) (bs : List ℕ) (r : Option ℕ) → IsFirstByte test bs r → unwrap_or r (length bs) ≡ prefix_len (λ x. not (test x)) bs
prefix_len-search test bs None h =
    sym (prefix_len_is (λ x. not (test x)) bs (length bs) 0 (omega arith) (λ k lt. ap not (false_from_ne_true (test (get_or bs k 0)) (h k (omega arith) lt))) (λ lt. absurd (omega arith)))
prefix_len-search test bs (Some k) h =
    sym (prefix_len_is (λ x. not (test x)) bs k 0 (omega (arith, h.0.high)) (λ j lt. ap not (false_from_ne_true (test (get_or bs j 0)) (h.0.before j (omega arith) lt))) (λ lt. ap not h.1))

-- the bytes before the first LF
pub before_line_end-search : (bs : List ℕ) (r : Option ℕ) → IsFirstByte (is_byte 10) bs r → unwrap_or r (length bs) ≡ prefix_len (λ x. not (is_line_end x)) bs
unfolding is_line_end
before_line_end-search bs r h = prefix_len-search (is_byte 10) bs r h

ended-some : (bs : List ℕ) (k : ℕ) → ((j : ℕ) → j < k → is_line_end (get_or bs j 0) ≡ false) → k < length bs → is_line_end (get_or bs k 0) ≡ true → ended_line_len bs ≡ Some (suc k)
unfolding ended_line_len
ended-some [] k before inside here = absurd (omega arith)
ended-some (b ∷ bs) zero before inside here = ap (λ t. cond t (Some 1) (option_map suc (ended_line_len bs))) here
ended-some (b ∷ bs) (suc k) before inside here =
    let rest : ended_line_len bs ≡ Some (suc k) = ended-some bs k (λ j lt. before (suc j) (omega arith)) (omega arith) here in
    ap (λ t. cond t (Some 1) (option_map suc (ended_line_len bs))) (before 0 (omega arith)) ∙ ap (option_map suc) rest

ended-none : (bs : List ℕ) → ((j : ℕ) → j < length bs → is_line_end (get_or bs j 0) ≡ false) → ended_line_len bs ≡ None
unfolding ended_line_len
ended-none [] before = refl
ended-none (b ∷ bs) before =
    ap (λ t. cond t (Some 1) (option_map suc (ended_line_len bs))) (before 0 (omega arith)) ∙ ap (option_map suc) (ended-none bs (λ j lt. before (suc j) (omega arith)))

-- the first LF ends the first line
pub ended_line_len-search : (bs : List ℕ) (r : Option ℕ) → IsFirstByte (is_byte 10) bs r → option_map suc r ≡ ended_line_len bs
unfolding is_line_end
ended_line_len-search bs None h = sym (ended-none bs (λ j lt. false_from_ne_true _ (h j (omega arith) lt)))
ended_line_len-search bs (Some k) h = sym (ended-some bs k (λ j lt. false_from_ne_true _ (h.0.before j (omega arith) lt)) h.0.high h.1)

whole-none : (bs : List ℕ) → ((j : ℕ) → j < length bs → is_line_end (get_or bs j 0) ≡ false) → whole_lines_len bs ≡ 0
unfolding whole_lines_len onto_whole_lines
whole-none [] none = refl
whole-none (b ∷ bs) none =
    ap (onto_whole_lines b) (whole-none bs (λ j lt. none (suc j) (omega arith))) ∙ ap (λ t. cond t 1 0) (none 0 (omega arith))

whole-some : (bs : List ℕ) (k : ℕ) → ((j : ℕ) → k < j → j < length bs → is_line_end (get_or bs j 0) ≡ false) → k < length bs → is_line_end (get_or bs k 0) ≡ true → whole_lines_len bs ≡ suc k
unfolding whole_lines_len onto_whole_lines
whole-some [] k after inside here = absurd (omega arith)
whole-some (b ∷ bs) zero after inside here =
    ap (onto_whole_lines b) (whole-none bs (λ j lt. after (suc j) (omega arith) (omega arith))) ∙ ap (λ t. cond t 1 0) here
whole-some (b ∷ bs) (suc k) after inside here =
    ap (onto_whole_lines b) (whole-some bs k (λ j low lt. after (suc j) (omega arith) (omega arith)) (omega arith) here)

-- with no LF there is no whole line
pub whole_lines_len-none : (bs : List ℕ) → IsLastByte (is_byte 10) bs None → whole_lines_len bs ≡ 0
unfolding is_line_end
whole_lines_len-none bs h = whole-none bs (λ j lt. false_from_ne_true _ (h j (omega arith) lt))

-- the last LF ends the whole lines
pub whole_lines_len-some : (bs : List ℕ) (k : ℕ) → IsLastByte (is_byte 10) bs (Some k) → whole_lines_len bs ≡ suc k
unfolding is_line_end
whole_lines_len-some bs k h =
    whole-some bs k (λ j low lt. false_from_ne_true _ (h.0.after j (omega arith) lt)) h.0.high h.1

-- The first place that passes a test, by index.

-- a place is the first that passes where none before it does
pub first_place_is : (test : List ℕ → Bool) (bs : List ℕ) (k : ℕ) → k ≤ length bs → ((j : ℕ) → j < k → test (drop j bs) ≡ false) → (k < length bs → test (drop k bs) ≡ true) → first_place test bs ≡ k
unfolding first_place
first_place_is test [] k inside before here = omega arith
first_place_is test (b ∷ bs) zero inside before here = ap (λ t. cond t 0 (suc (first_place test bs))) (here (omega arith))
first_place_is test (b ∷ bs) (suc k) inside before here =
    ap (λ t. cond t 0 (suc (first_place test bs))) (before 0 (omega arith)) ∙ ap suc (first_place_is test bs k (omega arith) (λ j lt. before (suc j) (omega arith)) (λ lt. here (omega arith)))

-- the first place is within the text
pub first_place-le : (test : List ℕ → Bool) (bs : List ℕ) → first_place test bs ≤ length bs
unfolding first_place
first_place-le test [] = omega arith
first_place-le test (b ∷ bs) =
    elim (test (b ∷ bs)) as (λ t. cond t 0 (suc (first_place test bs)) ≤ suc (length bs)) [ true ↦ omega arith | false ↦ omega (arith, first_place-le test bs) ]

-- no place before the first passes
pub first_place-before : (test : List ℕ → Bool) (bs : List ℕ) (j : ℕ) → j < first_place test bs → test (drop j bs) ≡ false
unfolding first_place
first_place-before test [] j lt = absurd (omega arith)
first_place-before test (b ∷ bs) zero lt = grind arith
first_place-before test (b ∷ bs) (suc j) lt =
    let P : Bool → Type 0 = λ t. suc j < cond t 0 (suc (first_place test bs)) → j < first_place test bs in
    first_place-before test bs j (elim (test (b ∷ bs)) as P [ true ↦ λ h. absurd (omega arith) | false ↦ λ h. omega arith ] lt)

-- the first place passes, where there is one
pub first_place-at : (test : List ℕ → Bool) (bs : List ℕ) → first_place test bs < length bs → test (drop (first_place test bs) bs) ≡ true
unfolding first_place
first_place-at test [] lt = absurd (omega arith)
first_place-at test (b ∷ bs) lt =
    let P : Bool → Type 0 = λ t. test (b ∷ bs) ≡ t → cond t 0 (suc (first_place test bs)) < suc (length bs) → test (drop (cond t 0 (suc (first_place test bs))) (b ∷ bs)) ≡ true in
    elim (test (b ∷ bs)) as P [ true ↦ λ e h. e | false ↦ λ e h. first_place-at test bs (omega arith) ] refl lt

-- the first byte of what a text has from a place on
pub at_zero : (bs : List ℕ) (k : ℕ) → get_or (drop k bs) 0 0 ≡ get_or bs k 0
at_zero bs k = get_or-drop k bs 0 0 ∙ ap (λ i. get_or bs i 0) (omega arith)

reads_two : (bs : List ℕ) (k x y : ℕ) → get_or bs k 0 ≡ x → get_or bs (k + 1) 0 ≡ y → (j : ℕ) → j < 2 → get_or bs (k + j) 0 ≡ get_or (x ∷ y ∷ []) j 0
reads_two bs k x y first second zero lt = ap (λ i. get_or bs i 0) (omega arith) ∙ first
reads_two bs k x y first second (suc zero) lt = second
reads_two bs k x y first second (suc (suc j)) lt = absurd (omega arith)

-- `*/` stands where a text that is cut there ends a comment
pub ends-occurs : (bs : List ℕ) (k : ℕ) → ends_block_comment (drop k bs) ≡ true → OccursAt bs (42 ∷ 47 ∷ []) k
unfolding ends_block_comment
ends-occurs bs k e = grind (arith, and_parts, at_zero, eqb-true, get_or-drop, get_or_past, cases_lt, reads_two)

pub occurs-ends : (bs : List ℕ) (k : ℕ) → OccursAt bs (42 ∷ 47 ∷ []) k → ends_block_comment (drop k bs) ≡ true
unfolding ends_block_comment
occurs-ends bs k at = grind (arith, get_or-drop, and_from, eq-eqb)

-- a search for `*/` says where a block comment stops
pub comment_stop-search : (bs : List ℕ) (r : Option ℕ) → FindsNeedle bs (42 ∷ 47 ∷ []) 0 r → unwrap_or r (length bs) ≡ first_place ends_block_comment bs
comment_stop-search bs None h =
    sym (first_place_is ends_block_comment bs (length bs) (omega arith) (λ j lt. false_from_ne_true (ends_block_comment (drop j bs)) (λ e. h j (omega arith) (omega arith) (ends-occurs bs j e))) (λ lt. absurd (omega arith)))
comment_stop-search bs (Some k) h =
    sym (first_place_is ends_block_comment bs k (omega (arith, h.0.high)) (λ j lt. false_from_ne_true (ends_block_comment (drop j bs)) (λ e. h.0.before j (omega arith) lt (ends-occurs bs j e))) (λ lt. occurs-ends bs k h.1))

-- a loop that looks for the first place
pub first_place-found : (test : List ℕ → Bool) (bs : List ℕ) (i : ℕ) → i < length bs → ((j : ℕ) → j < i → test (drop j bs) ≡ false) → test (drop i bs) ≡ true → i ≡ first_place test bs
first_place-found test bs i lt before here = sym (first_place_is test bs i (omega arith) before (λ _. here))

-- the end of such a loop
pub first_place-none : (test : List ℕ → Bool) (bs : List ℕ) → ((j : ℕ) → j < length bs → test (drop j bs) ≡ false) → length bs ≡ first_place test bs
first_place-none test bs before = sym (first_place_is test bs (length bs) (omega arith) before (λ lt. absurd (omega arith)))

-- bytes that pass a test pass it together
pub list_all-prefix : (p : ℕ → Bool) (bs : List ℕ) → list_all p (take (prefix_len p bs) bs) ≡ true
list_all-prefix p [] = refl
list_all-prefix p (b ∷ bs) = elim (p b) as (λ v. p b ≡ v → list_all p (take (cond v (1 + prefix_len p bs) 0) (b ∷ bs)) ≡ true) [
  | true ↦ λ e. rw (one-add, e) (list_all-prefix p bs)
  | false ↦ λ e. refl
] refl

-- all bytes pass a test where as many as there are pass it from the first one on
pub prefix_whole : (p : ℕ → Bool) (bs : List ℕ) → nat_eq (prefix_len p bs) (length bs) ≡ list_all p bs
prefix_whole p bs = elim (cases_eq (prefix_len p bs) (length bs)) [
  | inl e ↦ eq-eqb _ _ e ∙ sym (ap (list_all p) (sym (take_all (prefix_len p bs) bs (omega (arith, e)))) ∙ list_all-prefix p bs)
  | inr n ↦
      let lt : prefix_len p bs < length bs = omega (arith, n, prefix_len-le-length p bs) in
      ne_eqb _ _ n ∙ sym (list_all_at p bs (prefix_len p bs) 0 lt (prefix_len_stops p bs 0 lt))
]

-- Where ordinary text stops, by the bytes that matter to it.

-- `<%` doesn't begin at another byte
pub no_perl : (bs : List ℕ) (i : ℕ) → eqb (get_or bs i 0) 60 ≡ false → begins_perl (drop i bs) ≡ false
unfolding begins_perl
no_perl bs i h = ap (λ n. eqb n 60 && eqb (get_or (drop i bs) 1 0) 37) (at_zero bs i) ∙ ap (λ t. t && eqb (get_or (drop i bs) 1 0) 37) h

-- ordinary text goes on at a byte that doesn't matter, where no `<%` begins
pub inert_at : (bs : List ℕ) (i : ℕ) → is_byte3 96 34 47 (get_or bs i 0) ≡ false → begins_perl (drop i bs) ≡ false → stops_plain_text (drop i bs) ≡ false
unfolding stops_plain_text begins_line_comment begins_block_comment
inert_at bs i h perl = grind (arith, at_zero, or_parts)

-- a place further, where it goes on
pub inert_through : (bs : List ℕ) (place : ℕ) → ((j : ℕ) → j < place → stops_plain_text (drop j bs) ≡ false) → stops_plain_text (drop place bs) ≡ false → (j : ℕ) → j < place + 1 → stops_plain_text (drop j bs) ≡ false
inert_through bs place before here j lt =
    ⊎_elim (λ less. before j less) (λ past. let e : place ≡ j = omega arith in subst (λ i. stops_plain_text (drop i bs) ≡ false) e here) (cases_lt j place)

-- the place where ordinary text stops
pub plain_len-found : (bs : List ℕ) (i : ℕ) → i < length bs → ((j : ℕ) → j < i → stops_plain_text (drop j bs) ≡ false) → stops_plain_text (drop i bs) ≡ true → i ≡ plain_len bs
unfolding plain_len
plain_len-found bs i lt before here = first_place-found stops_plain_text bs i lt before here

-- ordinary text to the end of all
pub plain_len-to_end : (bs : List ℕ) (i : ℕ) → i ≤ length bs → ((j : ℕ) → j < i → stops_plain_text (drop j bs) ≡ false) → length bs ≤ i → i ≡ plain_len bs
unfolding plain_len
plain_len-to_end bs i le before end = grind (arith, first_place-none)

-- Where a string stops, by a search for the bytes that matter to it.

inert_step : (a b c p : Bool) (s : Bool → ℕ) → (a || b || c) ≡ false → cond (a || (c && p)) 0 (suc (s b)) ≡ suc (s false)
inert_step false false false p s h = refl
inert_step _ b c p s h = absurd (false≢true (sym h))

-- bytes that don't matter to a string are passed over
string_stop-pass : (xs : List ℕ) (k : ℕ) → k ≤ length xs → ((j : ℕ) → j < k → is_byte3 34 92 60 (get_or xs j 0) ≡ false) → string_stop false xs ≡ k + string_stop false (drop k xs)
unfolding string_stop begins_perl
string_stop-pass xs zero le inert = omega arith
string_stop-pass [] (suc k) le inert = absurd (omega arith)
string_stop-pass (x ∷ xs) (suc k) le inert =
    let rest : string_stop false xs ≡ k + string_stop false (drop k xs) = string_stop-pass xs k (omega arith) (λ j lt. inert (suc j) (omega arith)) in
    inert_step (eqb x 34) (eqb x 92) (eqb x 60) (eqb (get_or (x ∷ xs) 1 0) 37) (λ t. string_stop t xs) (inert 0 (omega arith)) ∙ omega (arith, rest)

-- a backslash takes the next byte along
string_stop-escape : (xs : List ℕ) → string_stop false (92 ∷ xs) ≡ min 2 (suc (length xs)) + string_stop false (drop (min 2 (suc (length xs))) (92 ∷ xs))
unfolding string_stop begins_perl
string_stop-escape [] = refl
string_stop-escape (y ∷ ys) = grind arith

-- a string stops at its quote or at `<%`
pub string_stop-stop : (xs : List ℕ) → (eqb (get_or xs 0 0) 34 || begins_perl xs) ≡ true → string_stop false xs ≡ 0
unfolding string_stop
string_stop-stop [] h = refl
string_stop-stop (x ∷ xs) h = ap (λ t. cond t 0 (suc (string_stop (eqb x 92) xs))) h

-- a string goes on at any other byte
string_stop-other : (xs : List ℕ) → 0 < length xs → (eqb (get_or xs 0 0) 34 || begins_perl xs) ≡ false → eqb (get_or xs 0 0) 92 ≡ false → string_stop false xs ≡ 1 + string_stop false (drop 1 xs)
unfolding string_stop
string_stop-other [] some h k = absurd (omega arith)
string_stop-other (x ∷ xs) some h k =
    ap (λ t. cond t 0 (suc (string_stop (eqb x 92) xs))) h ∙ ap (λ t. suc (string_stop t xs)) k ∙ omega arith

-- a search that found a byte that matters
module _ (bs : List ℕ) (at k : ℕ) (inside : at ≤ length bs) (found : IsFirstByte (is_byte3 34 92 60) (drop at bs) (Some k))
    (so_far : string_stop false bs ≡ at + string_stop false (drop at bs)) where
  pub found-within : at + k < length bs
  found-within = omega (arith, found.0.high, length-drop at bs)

  reached : string_stop false bs ≡ at + k + string_stop false (drop (at + k) bs)
  reached =
      let passed = string_stop-pass (drop at bs) k (omega (arith, found.0.high)) (λ j lt. false_from_ne_true (is_byte3 34 92 60 (get_or (drop at bs) j 0)) (found.0.before j (omega arith) lt)) in
      let dropped = ap (string_stop false) (drop-drop k at bs) in
      omega (arith, so_far, passed, dropped)

  pub found-escape : get_or bs (at + k) 0 ≡ 92 → string_stop false bs ≡ min (length bs) (at + k + 2) + string_stop false (drop (min (length bs) (at + k + 2)) bs)
  found-escape is = grind (arith, found-within, drop_more, string_stop-escape, length-drop, drop-drop, reached)

  pub found-stop : (eqb (get_or (drop (at + k) bs) 0 0) 34 || begins_perl (drop (at + k) bs)) ≡ true → at + k ≡ string_stop false bs
  found-stop h = omega (arith, reached, string_stop-stop (drop (at + k) bs) h)

  pub found-other : (eqb (get_or (drop (at + k) bs) 0 0) 34 || begins_perl (drop (at + k) bs)) ≡ false → get_or bs (at + k) 0 ≢ 92 → string_stop false bs ≡ at + k + 1 + string_stop false (drop (at + k + 1) bs)
  found-other h other =
      let lt = found-within in
      let here : get_or (drop (at + k) bs) 0 0 ≡ get_or bs (at + k) 0 = get_or-drop (at + k) bs 0 0 ∙ ap (λ i. get_or bs i 0) (omega arith) in
      let ne = ne_eqb (get_or (drop (at + k) bs) 0 0) 92 (λ e. other (sym here ∙ e)) in
      let next = string_stop-other (drop (at + k) bs) (omega (arith, length-drop (at + k) bs)) h ne in
      let rest = ap (string_stop false) (drop-drop 1 (at + k) bs) in
      omega (arith, reached, next, rest)

-- a search that found nothing that matters
pub found-none : (bs : List ℕ) (at : ℕ) → at ≤ length bs → IsFirstByte (is_byte3 34 92 60) (drop at bs) None → string_stop false bs ≡ at + string_stop false (drop at bs) → length bs ≡ string_stop false bs
unfolding string_stop
found-none bs at inside none so_far =
    let n = length (drop at bs) in
    let passed = string_stop-pass (drop at bs) n (omega arith) (λ j lt. false_from_ne_true (is_byte3 34 92 60 (get_or (drop at bs) j 0)) (none j (omega arith) lt)) in
    let over = ap (string_stop false) (drop_all n (drop at bs) (omega arith)) in
    omega (arith, so_far, passed, over, length-drop at bs)

-- Each first token has a byte at least, and lies in its text.

-- a token has a byte, and lies in its text
pub record IsPart (t : Token) (bs : List ℕ) : Type 0 where
  pub not_empty : 0 < t.len
  pub inside : t.len ≤ length bs

-- a byte that isn't 0 lies in its text
pub inside_of : (bs : List ℕ) (i : ℕ) → 0 < get_or bs i 0 → i < length bs
inside_of bs i some = ⊎_elim (λ lt. lt) (λ ge. absurd (omega (arith, get_or_past bs i 0 ge))) (cases_lt i (length bs))

-- two bytes in front
two_of : (bs : List ℕ) (x y : ℕ) → 0 < y → (eqb (get_or bs 0 0) x && eqb (get_or bs 1 0) y) ≡ true → 2 ≤ length bs
two_of bs x y some h = grind (arith, eqb-true, and_parts, inside_of)

pub begins_perl-two : (bs : List ℕ) → begins_perl bs ≡ true → 2 ≤ length bs
unfolding begins_perl
begins_perl-two bs h = two_of bs 60 37 (omega arith) h

pub begins_block_comment-two : (bs : List ℕ) → begins_block_comment bs ≡ true → 2 ≤ length bs
unfolding begins_block_comment
begins_block_comment-two bs h = two_of bs 47 42 (omega arith) h

pub ends_block_comment-two : (bs : List ℕ) → ends_block_comment bs ≡ true → 2 ≤ length bs
unfolding ends_block_comment
ends_block_comment-two bs h = two_of bs 42 47 (omega arith) h

-- a run that its first byte is part of has a byte
pub prefix_len-some : (p : ℕ → Bool) (bs : List ℕ) → 0 < length bs → p (get_or bs 0 0) ≡ true → 0 < prefix_len p bs
prefix_len-some p [] some h = absurd (omega arith)
prefix_len-some p (x ∷ xs) some h = let P : Bool → Type 0 = λ t. 0 < cond t (1 + prefix_len p xs) 0 in subst P (sym h) (omega arith)

pub string_stop-le : (taken : Bool) (bs : List ℕ) → string_stop taken bs ≤ length bs
unfolding string_stop
string_stop-le taken [] = omega arith
string_stop-le true (b ∷ bs) = omega (arith, string_stop-le false bs)
string_stop-le false (b ∷ bs) =
    cond_both (eqb b 34 || begins_perl (b ∷ bs)) 0 (suc (string_stop (eqb b 92) bs)) (λ n. n ≤ suc (length bs)) (λ _. omega arith) (λ _. omega (arith, string_stop-le (eqb b 92) bs))

whole-part : (k : Kind) (n : ℕ) (bs : List ℕ) → 0 < n → n ≤ length bs → IsPart (whole k n) bs
unfolding whole
whole-part k n bs some fits = record { not_empty = some; inside = fits }

string_token-part : (from : ℕ) (bs : List ℕ) → from ≤ length bs → (eqb (get_or bs (from + string_stop false (drop from bs)) 0) 34 ≡ false → 0 < from + string_stop false (drop from bs)) → IsPart (string_token from bs) bs
unfolding string_token
string_token-part from bs fits some = grind (arith, string_stop-le, length-drop, cond_both, whole-part, inside_of, eqb-true)

block_token-part : (from : ℕ) (bs : List ℕ) → from ≤ length bs → 0 < length bs → IsPart (block_token from bs) bs
unfolding block_token
block_token-part from bs fits some =
    let at = first_place ends_block_comment (drop from bs) in
    let stop = from + at in
    let le : stop ≤ length bs = omega (arith, first_place-le ends_block_comment (drop from bs), length-drop from bs) in
    cond_both (ltb stop (length bs)) (whole BlockComment (stop + 2)) (record { kind = BlockComment; len = stop; next_mode = InBlock }) (λ t. IsPart t bs)
    (λ h.
    let lt : at < length (drop from bs) = omega (arith, ltb-true stop (length bs) h, length-drop from bs) in
    let room = ends_block_comment-two (drop at (drop from bs)) (first_place-at ends_block_comment (drop from bs) lt) in
    whole-part BlockComment (stop + 2) bs (omega arith) (omega (arith, room, length-drop at (drop from bs), length-drop from bs)))
    (λ h. record { not_empty = omega (arith, ltb-false stop (length bs) h); inside = le })

string_rest-some : (bs : List ℕ) → 0 < length bs → begins_perl bs ≡ false → eqb (get_or bs (string_stop false bs) 0) 34 ≡ false → 0 < string_stop false bs
unfolding string_stop
string_rest-some [] some perl quote = absurd (omega arith)
string_rest-some (b ∷ bs) some perl quote = grind (arith, false≢true)

-- a letter is a word byte
pub is_word-letter : (b : ℕ) → is_letter b ≡ true → is_word b ≡ true
unfolding is_word
is_word-letter b h = ap (λ t. t || is_digit b) h

pub is_word-digit : (b : ℕ) → is_digit b ≡ true → is_word b ≡ true
unfolding is_word
is_word-digit b h = ap (λ t. is_letter b || t) h ∙ or-true (is_letter b)

slash_goes_on : (bs : List ℕ) → begins_line_comment bs ≡ true → not (is_line_end (get_or bs 0 0)) ≡ true
unfolding begins_line_comment is_line_end
slash_goes_on bs h =
    ap (λ x. not (eqb x 10)) (eqb-true (get_or bs 0 0) 47 (and_parts (eqb (get_or bs 0 0) 47) (eqb (get_or bs 1 0) 47) h).0)

word_after : (bs : List ℕ) → 0 < length bs → suc (prefix_len is_word (drop 1 bs)) ≤ length bs
word_after bs some = omega (arith, prefix_len-le-length is_word (drop 1 bs), length-drop 1 bs)

run-part : (k : Kind) (p : ℕ → Bool) (bs : List ℕ) → 0 < length bs → p (get_or bs 0 0) ≡ true → IsPart (whole k (prefix_len p bs)) bs
run-part k p bs some h = whole-part k (prefix_len p bs) bs (prefix_len-some p bs some h) (prefix_len-le-length p bs)

one-part : (k : Kind) (bs : List ℕ) → 0 < length bs → IsPart (whole k 1) bs
one-part k bs some = whole-part k 1 bs (omega arith) (omega arith)

plain_token-part : (bs : List ℕ) → 0 < length bs → IsPart (plain_token bs) bs
unfolding plain_token
plain_token-part bs some = grind (arith, cond_both, whole-part, begins_perl-two, one-part, run-part, slash_goes_on, block_token-part, begins_block_comment-two, string_token-part, is_word-letter, is_word-digit, word_after)

-- the first token has a byte, and lies in its text
pub token_of-part : (m : Mode) (bs : List ℕ) → 0 < length bs → IsPart (token_of m bs) bs
unfolding token_of
token_of-part Plain bs some = plain_token-part bs some
token_of-part InStr bs some = grind (arith, cond_both, whole-part, begins_perl-two, string_token-part, string_rest-some)
token_of-part InBlock bs some = block_token-part 0 bs (omega arith) some

-- The tokens of a text, step by step.

-- bytes that are passed over are dropped
pub tokens_from-skip : (m : Mode) (n : ℕ) (bs : List ℕ) → tokens_from m n bs ≡ tokens_from m 0 (drop n bs)
unfolding tokens_from
tokens_from-skip m (suc n) (b ∷ bs) = tokens_from-skip m n bs
tokens_from-skip m _ _ = refl

tokens_from-following : (m : Mode) (n b : ℕ) (bs : List ℕ) → 0 < n → tokens_from m (n - 1) bs ≡ tokens_from m 0 (drop n (b ∷ bs))
tokens_from-following m zero b bs long = absurd (omega arith)
tokens_from-following m (suc n) b bs long = tokens_from-skip m (suc n - 1) bs ∙ ap (λ i. tokens_from m 0 (drop i bs)) (omega arith)

-- the first token, and the tokens after it
pub tokens_from-step : (m : Mode) (bs : List ℕ) → 0 < length bs → 0 < (token_of m bs).len → tokens_from m 0 bs ≡ token_of m bs ∷ tokens_from (token_of m bs).next_mode 0 (drop (token_of m bs).len bs)
unfolding tokens_from
tokens_from-step m [] some long = absurd (omega arith)
tokens_from-step m (b ∷ bs) some long = grind (arith, tokens_from-following)

some_within : (k : ℕ) (m : Mode) (bs : List ℕ) → length bs ≤ k → AllByRecursion (λ t. 0 < t.len) (tokens_from m 0 bs)
unfolding tokens_from
some_within k m [] le = tt
some_within zero m (b ∷ bs) le = absurd (omega arith)
some_within (suc k) m (b ∷ bs) le =
    let t = token_of m (b ∷ bs) in
    let some = (token_of-part m (b ∷ bs) (omega arith)).not_empty in
    let rest = drop t.len (b ∷ bs) in
    let A : List Token → Type 0 = λ ts. AllByRecursion (λ t. 0 < t.len) ts in
    subst A (sym (tokens_from-step m (b ∷ bs) (omega arith) some)) (some, some_within k t.next_mode rest (omega (arith, length-drop t.len (b ∷ bs))))

-- each token of a text has a byte
pub tokens-some : (m : Mode) (bs : List ℕ) → AllByRecursion (λ t. 0 < t.len) (tokens_from m 0 bs)
tokens-some m bs = some_within (length bs) m bs (omega arith)

-- a text that begins with `<%`, outside a comment
pub fault-perl : (m : Mode) (bs : List ℕ) → 0 < length bs → is_perl (token_of m bs).kind ≡ true → fault_of_tokens m (tokens_from m 0 bs) ≡ Some PerlFault
unfolding fault_of_tokens
fault-perl m bs some is = grind (arith, tokens_from-step, token_of-part)

-- a text that begins with another token
pub fault-next : (m : Mode) (bs : List ℕ) → 0 < length bs → is_perl (token_of m bs).kind ≡ false → fault_of_tokens m (tokens_from m 0 bs) ≡ fault_of_tokens (token_of m bs).next_mode (tokens_from (token_of m bs).next_mode 0 (drop (token_of m bs).len bs))
unfolding fault_of_tokens
fault-next m bs some other = grind (arith, tokens_from-step, token_of-part)

-- the end of a text
pub fault-end : (m : Mode) (bs : List ℕ) (at : ℕ) → length bs ≤ at → fault_of_tokens m (tokens_from m 0 (drop at bs)) ≡ open_fault m
unfolding fault_of_tokens tokens_from
fault-end m bs at over = ap (λ xs. fault_of_tokens m (tokens_from m 0 xs)) (drop_all at bs over)

-- The last byte of a token that leaves plain text after it is no blank and no LF, where the token isn't of these alone.

-- a byte that is a blank or LF
abbrev is_space : ℕ → Bool
is_space b = is_blank b || is_line_end b

-- how a token of a text ends: it is all blanks, or an LF, or its last byte is neither
pub data Ending (bs : List ℕ) (t : Token) : Type 0 where
  InBlanks : ((k : ℕ) → k < t.len → is_blank (get_or bs k 0) ≡ true) → Ending bs t
  InLine : t.len ≡ 1 → is_line_end (get_or bs 0 0) ≡ true → Ending bs t
  InOther : (k : ℕ) → t.len ≡ suc k → (is_blank (get_or bs k 0) || is_line_end (get_or bs k 0)) ≡ false → Ending bs t

-- a space is a small byte
space_small : (b : ℕ) → is_space b ≡ true → b ≤ 32
unfolding is_blank is_line_end
space_small b h = grind (arith, eqb-true, or_cases)

-- a byte past them is none
large_other : (b : ℕ) → 32 < b → is_space b ≡ false
large_other b large = false_from_ne_true (is_space b) (λ h. absurd (omega (arith, space_small b h)))

word_large : (b : ℕ) → is_word b ≡ true → 32 < b
unfolding is_word is_letter is_digit
word_large b h = grind (arith, leb-true, and_parts, or_cases, eqb-true)

-- a byte that is known
ends_with : (bs : List ℕ) (t : Token) (k n : ℕ) → t.len ≡ suc k → get_or bs k 0 ≡ n → 32 < n → Ending bs t
ends_with bs t k n len is large = InOther k len (large_other (get_or bs k 0) (omega arith))

-- what is told of the first token
Ends : List ℕ → Token → Type 0
Ends bs t = t.next_mode ≡ Plain → is_line_comment t.kind ≡ false → Ending bs t

-- a run of word bytes from a place on
run-ends : (bs : List ℕ) (k : Kind) (n : ℕ) → 0 < n → is_word (get_or bs (n - 1) 0) ≡ true → Ends bs (whole k n)
unfolding Ends whole
run-ends bs k n some h next kept = InOther (n - 1) (omega arith) (large_other (get_or bs (n - 1) 0) (word_large _ h))

word_run : (bs : List ℕ) (k : Kind) → 0 < length bs → is_word (get_or bs 0 0) ≡ true → Ends bs (whole k (prefix_len is_word bs))
word_run bs k some h = grind (arith, prefix_len-some, run-ends, prefix_len_passes)

rest_some : (bs : List ℕ) → 1 < length bs → 0 < length (drop 1 bs)
rest_some (b ∷ c ∷ bs) lt = omega arith
rest_some _ lt = absurd (omega arith)

-- a run of them after a first byte
run_after : (bs : List ℕ) (k : Kind) → is_word (get_or bs 1 0) ≡ true → Ends bs (whole k (suc (prefix_len is_word (drop 1 bs))))
run_after bs k h = grind (arith, inside_of, word_large, at_zero, prefix_len-some, rest_some, get_or-drop, run-ends, prefix_len_passes)

-- a string that is closed ends with its quote
string-ends : (from : ℕ) (bs : List ℕ) → Ends bs (string_token from bs)
unfolding Ends string_token whole
string-ends from bs =
    let stop = from + string_stop false (drop from bs) in
    cond_both (eqb (get_or bs stop 0) 34) _ _ (Ends bs) (λ h _ _. ends_with bs (whole Str (suc stop)) stop 34 refl (eqb-true _ _ h) (omega arith)) (λ _ mode _. absurd (cc))

-- a block comment that is closed ends with `/`
block-ends : (from : ℕ) (bs : List ℕ) → from ≤ length bs → Ends bs (block_token from bs)
unfolding Ends block_token whole ends_block_comment
block-ends from bs fits =
    let at = first_place ends_block_comment (drop from bs) in
    let stop = from + at in
    cond_both (ltb stop (length bs)) _ _ (Ends bs)
    (λ h _ _.
    let lt : at < length (drop from bs) = omega (arith, ltb-true stop (length bs) h, length-drop from bs) in
    let here = drop at (drop from bs) in
    let two = and_parts (eqb (get_or here 0 0) 42) (eqb (get_or here 1 0) 47) (first_place-at ends_block_comment (drop from bs) lt) in
    let last : get_or (drop at (drop from bs)) 1 0 ≡ get_or bs (suc stop) 0 = get_or-drop at (drop from bs) 1 0 ∙ (get_or-drop from bs (at + 1) 0 ∙ ap (λ i. get_or bs i 0) (omega arith)) in
    ends_with bs (whole BlockComment (stop + 2)) (suc stop) 47 (omega arith) (sym last ∙ eqb-true _ _ two.1) (omega arith))
    (λ _ mode _. absurd (cc))

-- a token of one byte
one-ends : (bs : List ℕ) (k : Kind) → is_line_end (get_or bs 0 0) ≡ false → is_blank (get_or bs 0 0) ≡ false → Ends bs (whole k 1)
unfolding Ends whole
one-ends bs k line blank next kept = InOther 0 refl (or_from _ _ blank line)

perl-ends : (bs : List ℕ) → begins_perl bs ≡ true → Ends bs (whole Perl 2)
unfolding Ends whole begins_perl
perl-ends bs h next kept = ends_with bs (whole Perl 2) 1 37 refl (eqb-true _ _ (and_parts (eqb (get_or bs 0 0) 60) (eqb (get_or bs 1 0) 37) h).1) (omega arith)

line-ends : (bs : List ℕ) → is_line_end (get_or bs 0 0) ≡ true → Ends bs (whole LineEnd 1)
unfolding Ends whole
line-ends bs h next kept = InLine refl h

blank-ends : (bs : List ℕ) → Ends bs (whole Blank (prefix_len is_blank bs))
unfolding Ends whole
blank-ends bs next kept = InBlanks (λ k lt. prefix_len_passes is_blank bs k 0 lt)

comment-ends : (bs : List ℕ) (n : ℕ) → Ends bs (whole LineComment n)
unfolding Ends whole is_line_comment
comment-ends bs n next kept = absurd (false≢true (sym kept))

-- the rows of the token table
plain-ends : (bs : List ℕ) → 0 < length bs → Ends bs (plain_token bs)
unfolding plain_token
plain-ends bs some =
    let b = get_or bs 0 0 in
    let c = get_or bs 1 0 in
    let P : Token → Type 0 = Ends bs in
    cond_both (begins_perl bs) _ _ P (perl-ends bs) (λ _.
    cond_both (is_line_end b) _ _ P (line-ends bs) (λ line.
    cond_both (is_blank b) _ _ P (λ _. blank-ends bs) (λ blank.
    cond_both (begins_line_comment bs) _ _ P (λ _. comment-ends bs _) (λ _.
    cond_both (begins_block_comment bs) _ _ P (λ h. block-ends 2 bs (begins_block_comment-two bs h)) (λ _.
    cond_both (eqb b 34) _ _ P (λ _. string-ends 1 bs) (λ _.
    cond_both (is_letter b) _ _ P (λ h. word_run bs Name some (is_word-letter b h)) (λ _.
    cond_both (is_digit b) _ _ P (λ h. word_run bs Word some (is_word-digit b h)) (λ _.
    cond_both (takes_word b && is_word c) _ _ P (λ h. run_after bs Word (and_parts (takes_word b) (is_word c) h).1) (λ _.
    cond_both (eqb b 96 && is_letter c) _ _ P (λ h. run_after bs Back (is_word-letter c (and_parts (eqb b 96) (is_letter c) h).1)) (λ _.
    cond_both (eqb b 96) _ _ P (λ _. one-ends bs BareBackquote line blank) (λ _.
    cond_both (is_opener b) _ _ P (λ _. one-ends bs Opener line blank) (λ _.
    cond_both (is_closer b) _ _ P (λ _. one-ends bs Closer line blank) (λ _.
    cond_both (eqb b 44) _ _ P (λ _. one-ends bs Comma line blank) (λ _. one-ends bs Other line blank))))))))))))))

-- the first token of a text, where it leaves plain text after it and is no `//` comment
pub token-ends : (bs : List ℕ) → 0 < length bs → (token_of Plain bs).next_mode ≡ Plain → is_line_comment (token_of Plain bs).kind ≡ false → Ending bs (token_of Plain bs)
unfolding token_of Ends
token-ends bs some = plain-ends bs some
