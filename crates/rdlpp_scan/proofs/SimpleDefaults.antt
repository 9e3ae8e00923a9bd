-- Default texts without strings, comments and brackets in front of a comma or a `)`.
use Rattle.std.proofs.Common.{◌≡◌, ◌&&◌, eqb, ℕ, zero, suc, ◌+◌, ◌-◌, ◌<◌, Bool, true, false, cond, List, [], ◌∷◌, length, take, drop, get_or, Some, refl, sym, ap, ◌∙◌, subst, arith, inl, inr, ⊎_elim, ◌⊎◌, eqb-true, get_or-drop}
use Rattle.std.specs.List.{prefix_len}
use Rattle.std.proofs.lemmas.Bool.{false≢true, cases_Bool, cond_both, or_cases, false_from_ne_true}
use Rattle.std.proofs.lemmas.Slice.{between_to_end}
use Rattle.rdlpp_scan.specs.declared.token.Kind.TheVariants.{Name, Word, Blank, Comma, Closer}
use Rattle.rdlpp_scan.specs.declared.token.Mode.TheVariants.{Plain}
use Rattle.rdlpp_scan.specs.declared.token.Token.{Token}
use Rattle.rdlpp_scan.specs.Bytes.{begins_perl, begins_line_comment, begins_block_comment, is_blank, is_line_end, is_letter, is_digit, is_word, is_opener, is_closer, takes_word}
use Rattle.rdlpp_scan.specs.LexFaults.{is_perl}
use Rattle.rdlpp_scan.specs.Tokens.{plain_token, token_of, whole}
use Rattle.rdlpp_scan.proofs.StopKinds.{both_first, digit_token, letter_token, blank_token, run_one}
use Rattle.rdlpp_scan.proofs.TokenLens.{is_word-digit, is_word-letter}
use Rattle.rdlpp_scan.specs.SimpleDefaults.{is_simple}
use Rattle.rdlpp_scan.specs.KeptText.{Cleared, cleared, ends_default, left_in, level_after, text_after}
use Rattle.rdlpp_scan.proofs.Measures.{after_onto, by_first, left_first}

-- what is left of a default text after a first token that ends nothing and leaves the level
by_token : (text : List ℕ) (t : Token) → 0 < length text → token_of Plain text ≡ t
    → text_after (left_in (Some 0) Plain text) ≡ text_after (by_first (Some 0) t text)
by_token text t some e = ap text_after (left_first (Some 0) Plain text some ∙ ap (λ (u : Token). by_first (Some 0) u text) e)

-- a word is passed
word_passed : (text : List ℕ) (n : ℕ) → n ≡ prefix_len is_word text
    → text_after (left_in (Some 0) Plain text) ≡ text_after (left_in (Some 0) Plain (drop n text))
unfolding is_word whole is_perl ends_default level_after
word_passed [] zero e = refl
word_passed [] (suc n) e = absurd (omega (arith, e))
word_passed (b ∷ bs) n e = elim (cases_Bool (is_letter b)) [
  | inl l ↦
      by_token (b ∷ bs) (whole Name n) (omega arith) (letter_token b bs l ∙ ap (λ (k : ℕ). whole Name k) (sym e))
      ∙ after_onto _ _ _ refl
  | inr l ↦ elim (cases_Bool (is_digit b)) [
    | inl d ↦
        by_token (b ∷ bs) (whole Word n) (omega arith) (digit_token b bs l d ∙ ap (λ (k : ℕ). whole Word k) (sym e))
        ∙ after_onto _ _ _ refl
    | inr d ↦
        let none : prefix_len is_word (b ∷ bs) ≡ 0 = rw (l, d) refl in
        ap (λ (k : ℕ). text_after (left_in (Some 0) Plain (drop k (b ∷ bs)))) (sym (e ∙ none))
  ]
]

-- blanks are passed
blanks_passed : (text : List ℕ) → text_after (left_in (Some 0) Plain text) ≡ text_after (left_in (Some 0) Plain (drop (prefix_len is_blank text) text))
unfolding whole is_perl ends_default level_after
blanks_passed [] = refl
blanks_passed (b ∷ bs) = elim (cases_Bool (is_blank b)) [
  | inl d ↦ by_token (b ∷ bs) (whole Blank (prefix_len is_blank (b ∷ bs))) (omega arith) (blank_token b bs d) ∙ after_onto _ _ _ refl
  | inr d ↦
      let none : prefix_len is_blank (b ∷ bs) ≡ 0 = ap (λ (t : Bool). cond t (1 + prefix_len is_blank bs) 0) d in
      ap (λ (k : ℕ). text_after (left_in (Some 0) Plain (drop k (b ∷ bs)))) (sym none)
]

-- a run whose first byte is passed is passed where the others are
run_passed : (class : ℕ → Bool) (b : ℕ) (bs : List ℕ) → class b ≡ true
    → text_after (left_in (Some 0) Plain bs) ≡ text_after (left_in (Some 0) Plain (drop (prefix_len class bs) bs))
    → text_after (left_in (Some 0) Plain (drop (prefix_len class (b ∷ bs)) (b ∷ bs))) ≡ text_after (left_in (Some 0) Plain bs)
run_passed class b bs h e = ap (λ (l : List ℕ). text_after (left_in (Some 0) Plain l)) (run_one class b bs h) ∙ sym e

-- a byte that isn't simple
no_simple : (b n : ℕ) → is_simple b ≡ true → is_simple n ≡ false → eqb b n ≡ true → ⊥
no_simple b n s f e = false≢true (sym f ∙ subst (λ (k : ℕ). is_simple k ≡ true) (eqb-true b n e) s)

no_opener : (b : ℕ) → is_simple b ≡ true → is_opener b ≡ true → ⊥
unfolding is_opener is_simple
no_opener b s h =
    ⊎_elim (λ h2. ⊎_elim (λ e. no_simple b 40 s refl e) (λ e. no_simple b 91 s refl e) (or_cases _ _ h2)) (λ e. no_simple b 123 s refl e) (or_cases _ _ h)

-- what is left where a text doesn't end
goes_on : (ends : Bool) (c d : Cleared) → ends ≡ false → text_after (cond ends c d) ≡ text_after d
goes_on ends c d e = ap (λ (t : Bool). text_after (cond t c d)) e

-- a simple byte is passed
byte_passed : (b : ℕ) (bs : List ℕ) → is_simple b ≡ true → text_after (left_in (Some 0) Plain (b ∷ bs)) ≡ text_after (left_in (Some 0) Plain bs)
unfolding token_of plain_token whole is_perl ends_default level_after begins_perl begins_line_comment begins_block_comment is_simple
byte_passed b bs s =
    let c = get_or (b ∷ bs) 1 0 in
    let word : text_after (left_in (Some 0) Plain bs) ≡ text_after (left_in (Some 0) Plain (drop (prefix_len is_word bs) bs)) = word_passed bs _ refl in
    let P : Token → Type 0 = λ t. text_after (by_first (Some 0) t (b ∷ bs)) ≡ text_after (left_in (Some 0) Plain bs) in
    by_token (b ∷ bs) (token_of Plain (b ∷ bs)) (omega arith) refl
    ∙ cond_both (begins_perl (b ∷ bs)) _ _ P (λ h. absurd (no_simple b 60 s refl (both_first _ _ h))) (λ _.
    cond_both (is_line_end b) _ _ P (λ _. after_onto _ _ _ refl) (λ _.
    cond_both (is_blank b) _ _ P (λ h. after_onto _ _ _ refl ∙ run_passed is_blank b bs h (blanks_passed bs)) (λ _.
    cond_both (begins_line_comment (b ∷ bs)) _ _ P (λ h. absurd (no_simple b 47 s refl (both_first _ _ h))) (λ _.
    cond_both (begins_block_comment (b ∷ bs)) _ _ P (λ h. absurd (no_simple b 47 s refl (both_first _ _ h))) (λ _.
    cond_both (eqb b 34) _ _ P (λ h. absurd (no_simple b 34 s refl h)) (λ _.
    cond_both (is_letter b) _ _ P (λ h. after_onto _ _ _ refl ∙ run_passed is_word b bs (is_word-letter b h) word) (λ _.
    cond_both (is_digit b) _ _ P (λ h. after_onto _ _ _ refl ∙ run_passed is_word b bs (is_word-digit b h) word) (λ _.
    cond_both (takes_word b && is_word c) _ _ P (λ _. after_onto _ _ _ refl ∙ sym word) (λ _.
    cond_both (eqb b 96 && is_letter c) _ _ P (λ _. after_onto _ _ _ refl ∙ sym word) (λ _.
    cond_both (eqb b 96) _ _ P (λ _. after_onto _ _ _ refl) (λ _.
    cond_both (is_opener b) _ _ P (λ h. absurd (no_opener b s h)) (λ _.
    cond_both (is_closer b) _ _ P (λ _. goes_on _ _ _ (false_from_ne_true (eqb b 41) (no_simple b 41 s refl)) ∙ after_onto _ _ _ refl) (λ _.
    cond_both (eqb b 44) _ _ P (λ h. absurd (no_simple b 44 s refl h)) (λ _. after_onto _ _ _ refl))))))))))))))

-- simple bytes are passed
simple_passed : (text : List ℕ) → text_after (left_in (Some 0) Plain text) ≡ text_after (left_in (Some 0) Plain (drop (prefix_len is_simple text) text))
simple_passed [] = refl
simple_passed (b ∷ bs) = grind (arith, cases_Bool, byte_passed, run_one, (simple_passed bs))

-- what stands after the rest of a text, after its simple bytes, stands after all of it
pub after_rest : (text : List ℕ) (n : ℕ) → n ≡ prefix_len is_simple text
    → text_after (cleared (Some 0) (take (length text - n) (drop n text))) ≡ text_after (cleared (Some 0) text)
unfolding cleared
after_rest text n e = grind (arith, between_to_end, simple_passed)

-- a comma or a `)` ends a default text
ends_here : (text : List ℕ) (n : ℕ) → 0 < n → get_or text 0 0 ≡ n
    → ((bs : List ℕ) → text_after (left_in (Some 0) Plain (n ∷ bs)) ≡ n ∷ bs)
    → text_after (left_in (Some 0) Plain text) ≡ text
ends_here [] n some e h = absurd (omega (arith, some, e))
ends_here (b ∷ bs) n some e h = subst (λ (m : ℕ). text_after (left_in (Some 0) Plain (m ∷ bs)) ≡ m ∷ bs) (sym e) (h bs)

comma_ends : (bs : List ℕ) → text_after (left_in (Some 0) Plain (44 ∷ bs)) ≡ 44 ∷ bs
unfolding token_of plain_token whole is_perl ends_default text_after begins_perl begins_line_comment begins_block_comment is_blank is_line_end is_letter is_digit is_opener is_closer takes_word
comma_ends bs = by_token (44 ∷ bs) (whole Comma 1) (omega arith) refl

closer_ends : (bs : List ℕ) → text_after (left_in (Some 0) Plain (41 ∷ bs)) ≡ 41 ∷ bs
unfolding token_of plain_token whole is_perl ends_default text_after begins_perl begins_line_comment begins_block_comment is_blank is_line_end is_letter is_digit is_opener is_closer takes_word
closer_ends bs = by_token (41 ∷ bs) (whole Closer 1) (omega arith) refl

-- what stands after simple bytes in front of one
pub after_simple : (text : List ℕ) (n b : ℕ) → n ≡ prefix_len is_simple text → b ≡ get_or text n 0 → (b ≡ 44) ⊎ ((b ≡ 44 → ⊥) × (b ≡ 41))
    → take (length text - n) (drop n text) ≡ text_after (cleared (Some 0) text)
unfolding cleared
after_simple text n b e at ends =
    between_to_end text n (length text) (omega arith)
    ∙ sym (simple_passed text
    ∙ ap (λ (k : ℕ). text_after (left_in (Some 0) Plain (drop k text))) (sym e)
    ∙ ⊎_elim (λ c. ends_here (drop n text) 44 (omega arith) (front ∙ c) comma_ends)
    (λ c. ends_here (drop n text) 41 (omega arith) (front ∙ c.1) closer_ends) ends)
  where
    front : get_or (drop n text) 0 0 ≡ b
    front = let zero_after : n + 0 ≡ n = omega arith in get_or-drop n text 0 0 ∙ ap (λ (k : ℕ). get_or text k 0) zero_after ∙ sym at
