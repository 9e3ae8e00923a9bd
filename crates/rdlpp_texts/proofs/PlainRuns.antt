-- Text that is passed byte by byte: in the search for the end of a part, and up to a backquote.
use Rattle.std.proofs.Common.{◌≡◌, ⊎_elim, ℕ, ◌<◌, ◌≤◌, ◌&&◌, ◌==◌, not, nat_lt, cond, Bool, true, false, List, [], ◌∷◌, drop, length, get_or, refl, sym, ap, ◌∙◌, subst, arith, inl, inr, ◌⊎◌, is_some, zero, suc, ◌+◌, one-add, take, Option, Some, None, eqb-true, get_or-drop, get_or-take, length-drop, length-take-le}
use Rattle.std.specs.List.{prefix_len}
use Rattle.std.proofs.lemmas.Bool.{and_parts, both_ways, cases_Bool, cond_both, false_from_ne_true, false≢true, not-true, or_cases, or_left, or_parts}
use Rattle.std.proofs.lemmas.List.{drop_all, drop_more}
use Rattle.std.proofs.lemmas.List.Sums.{prefix_len-le-length}
use Rattle.memchr.specs.Find.{IsFirstByte, is_byte, is_byte2}
use Rattle.rdlpp_scan.specs.Bytes.{begins_perl, is_blank, is_closer, is_digit, is_letter, is_line_end, is_opener, is_word, takes_word}
use Rattle.rdlpp_scan.specs.TokenParts.{kind_of, len_of, mark_kind, mode_after, plain_kind, stop_of}
use Rattle.rdlpp_scan.specs.Tokens.{plain_token, token_of, tokens_from, whole}
use Rattle.rdlpp_scan.specs.declared.token.Kind.{Kind}
use Rattle.rdlpp_scan.specs.declared.token.Kind.TheVariants.{Back, BareBackquote, Blank, Closer, Comma, LineComment, LineEnd, Name, Opener, Other, Perl, Word}
use Rattle.rdlpp_scan.specs.declared.token.Mode.{Mode}
use Rattle.rdlpp_scan.specs.declared.token.Mode.TheVariants.{InBlock, InStr, Plain}
use Rattle.rdlpp_scan.proofs.StopKinds.{both_first, digit_token, letter_token, parts, token_parts}
use Rattle.rdlpp_scan.proofs.OrdinaryLaws.{no_first}
use Rattle.rdlpp_scan.proofs.TokenLens.{token_of-part, tokens_from-step}
use Rattle.rdlpp_meaning.specs.Actuals.{Down, End, Start, Up, is_space, kind_role, level_after, token_role}
use Rattle.rdlpp_meaning.specs.CallScan.{is_kept}
use Rattle.rdlpp_meaning.specs.Substitution.{body_tokens}
use Rattle.rdlpp_meaning.specs.TextTokens.{text_tokens}
use Rattle.rdlpp_meaning.proofs.KeptTexts.{body_text, either_kept, first_spelled, text_nil, text_step}
use Rattle.rdlpp_texts.specs.CallParts.{ends_call, ends_part, ends_text, is_white, part_from}
use Rattle.rdlpp_texts.specs.CallTokens as call
use Rattle.rdlpp_texts.specs.CallTokens.{IsFirstToken, role_meant}
use Rattle.rdlpp_texts.specs.PlainArgumentBytes.{begins_white, byte_class, is_plain_argument, is_plain_argument_at}
use Rattle.rdlpp_texts.specs.TextItems.{is_back, run_len}
use Rattle.rdlpp_texts.specs.KeptTexts.{keeps_each}
use Rattle.rdlpp_texts.specs.declared.plain_argument.ByteClass.TheVariants.{PlainArgument, Mark, White}
use Rattle.rdlpp_texts.specs.declared.tokens.CallRole.TheVariants as role
use Rattle.rdlpp_texts.proofs.QuickTokens.{blank_token, comma_here, named, rest_turn, word_text}
use Rattle.rdlpp_texts.proofs.Stopping.{passed, running-point}

-- White space is plain argument.

white_in : (P : ℕ → Type 0) (b : ℕ) → P 32 → P 9 → P 13 → P 11 → P 12 → P 10 → is_white b ≡ true → P b
unfolding is_white is_blank is_line_end
white_in P b space tab return vertical form line h = grind (arith, eqb-true, or_cases)

pub white_plain_argument : (level b : ℕ) → is_white b ≡ true → is_plain_argument_at level b ≡ true
unfolding is_plain_argument_at is_plain_argument is_opener is_closer
white_plain_argument level b h = or_left (is_plain_argument b) _ (white_in (λ n. is_plain_argument n ≡ true) b refl refl refl refl refl refl h)

-- A class tells what a byte is.

of_white : (w c : Bool) → White ≡ cond w White (cond c PlainArgument Mark) → w ≡ true
of_white true c h = refl
of_white false true h = absurd (cc)
of_white false false h = absurd (cc)

of_plain_argument : (w c : Bool) → PlainArgument ≡ cond w White (cond c PlainArgument Mark) → (w ≡ false) × (c ≡ true)
of_plain_argument false true h = (refl, refl)
of_plain_argument _ c h = absurd (cc)

of_mark : (w c : Bool) → Mark ≡ cond w White (cond c PlainArgument Mark) → w ≡ false
of_mark true c h = absurd (cc)
of_mark false c h = refl

pub class_white : (level b : ℕ) → White ≡ byte_class level b → is_white b ≡ true
unfolding byte_class
class_white level b h = of_white (is_white b) (is_plain_argument_at level b) h

pub class_plain_argument : (level b : ℕ) → PlainArgument ≡ byte_class level b → (is_white b ≡ false) × (is_plain_argument_at level b ≡ true)
unfolding byte_class
class_plain_argument level b h = of_plain_argument (is_white b) (is_plain_argument_at level b) h

class_mark : (level b : ℕ) → Mark ≡ byte_class level b → is_white b ≡ false
unfolding byte_class
class_mark level b h = of_mark (is_white b) (is_plain_argument_at level b) h

-- a text doesn't begin with white space at a mark
pub mark_dark : (level : ℕ) (text : List ℕ) (at : ℕ) → at < length text → Mark ≡ byte_class level (get_or text at 0) → begins_white Plain (drop at text) ≡ false
unfolding begins_white
mark_dark level text at inside h = ap (begins_white Plain) (drop_more text at 0 inside) ∙ class_mark level (get_or text at 0) h

-- nor where it ends
pub end_dark : (text : List ℕ) (at : ℕ) → length text ≤ at → begins_white Plain (drop at text) ≡ false
unfolding begins_white
end_dark text at over = ap (begins_white Plain) (drop_all at text over)

-- nor in a string or a comment
pub other_dark : (mode : Mode) (text : List ℕ) → (mode ≡ Plain → ⊥) → begins_white mode text ≡ false
unfolding begins_white
other_dark Plain text h = absurd (h refl)
other_dark _ _ h = refl

-- The class of a byte by where it stands in the byte table.

-- two numbers that lie apart
unequal : (b n : ℕ) → (b ≡ n → ⊥) → (b == n) ≡ false
unequal b n h = elim (cases_Bool (b == n)) [ inl e ↦ absurd (h (eqb-true b n e)) | inr e ↦ e ]

-- the class of a byte that isn't white space
dark_class : (level b : ℕ) (plain_argument : Bool) → is_white b ≡ false → plain_argument ≡ is_plain_argument_at level b → cond plain_argument PlainArgument Mark ≡ byte_class level b
unfolding byte_class
dark_class level b plain_argument dark is =
    ap (λ (t : Bool). cond t PlainArgument Mark) is ∙ sym (ap (λ (t : Bool). cond t White (cond (is_plain_argument_at level b) PlainArgument Mark)) dark)

plain_argument_high : (b : ℕ) → 64 ≤ b → (not (b == 91) && (not (b == 123) && (not (b == 93) && not (b == 125)))) ≡ is_plain_argument b
unfolding is_plain_argument is_opener is_closer
plain_argument_high b high = grind (arith, unequal)

dark_over : (b : ℕ) → 32 < b → is_white b ≡ false
unfolding is_white is_blank is_line_end
dark_over b over = grind (arith, unequal)

-- a byte from 64 on
pub high_class : (level b : ℕ) (plain_argument : Bool) → 64 ≤ b → plain_argument ≡ (not (b == 91) && (not (b == 123) && (not (b == 93) && not (b == 125))))
    → cond plain_argument PlainArgument Mark ≡ byte_class level b
unfolding is_plain_argument_at
high_class level b plain_argument high is = grind (arith, dark_class, dark_over, plain_argument_high, nat_lt, unequal)

plain_argument_low : (b : ℕ) → b < 64
    → (not (b == 40) && (not (b == 41) && (not (b == 44) && (not (b == 34) && (not (b == 47) && not (b == 60)))))) ≡ is_plain_argument b
unfolding is_plain_argument is_opener is_closer
plain_argument_low b low = grind (arith, unequal)

-- one between the blank and 64 that is no comma
pub mark_class : (level b : ℕ) (plain_argument : Bool) → b < 64 → 32 < b → (b ≡ 44 → ⊥)
    → plain_argument ≡ (not (b == 40) && (not (b == 41) && (not (b == 34) && (not (b == 47) && not (b == 60)))))
    → cond plain_argument PlainArgument Mark ≡ byte_class level b
unfolding is_plain_argument_at
mark_class level b plain_argument low over other is = grind (arith, unequal, dark_class, dark_over, plain_argument_low, nat_lt)

-- a comma, which is plain argument within further openers
pub comma_class : (level b : ℕ) → b ≡ 44 → cond (nat_lt 0 level) PlainArgument Mark ≡ byte_class level b
unfolding byte_class is_white is_blank is_line_end is_plain_argument_at is_plain_argument is_opener is_closer
comma_class level b e = subst (λ (n : ℕ). cond (nat_lt 0 level) PlainArgument Mark ≡ byte_class level n) (sym e) refl

-- the blank
pub blank_class : (level b : ℕ) → b ≡ 32 → White ≡ byte_class level b
unfolding byte_class is_white is_blank
blank_class level b e = subst (λ (n : ℕ). White ≡ byte_class level n) (sym e) refl

-- a byte below it is plain argument
control_plain_argument : (level b : ℕ) → b < 32 → is_plain_argument_at level b ≡ true
unfolding is_plain_argument_at
control_plain_argument level b low =
    or_left (is_plain_argument b) _ (sym (plain_argument_low b (omega (arith, low)))
    ∙ rw (unequal b 40 (λ e. omega (arith, e, low)), unequal b 41 (λ e. omega (arith, e, low)), unequal b 44 (λ e. omega (arith, e, low)), unequal b 34 (λ e. omega (arith, e, low)), unequal b 47 (λ e. omega (arith, e, low)), unequal b 60 (λ e. omega (arith, e, low))) refl)

-- so that only white space is told apart
pub control_class : (level b : ℕ) → b < 32 → cond (is_white b) White PlainArgument ≡ byte_class level b
unfolding byte_class
control_class level b low = sym (ap (λ (t : Bool). cond (is_white b) White (cond t PlainArgument Mark)) (control_plain_argument level b low))

-- The search for the end of a part passes what opens, closes and cuts nothing byte by byte, whatever tokens it has.

-- the search at a token of text
text_turn : (closes : Bool) (start at level end : ℕ) (text : List ℕ) (n : ℕ) → IsFirstToken Plain text (call.plain_token role.Text n)
    → part_from closes start at level end (text_tokens Plain text) ≡ part_from closes start (at + n) level (at + n) (text_tokens Plain (drop n text))
unfolding role_meant ends_text ends_call ends_part level_after is_space
text_turn true start at level end text n f = rest_turn true Plain text start at level end (call.plain_token role.Text n) f
text_turn false start at level end text n f = rest_turn false Plain text start at level end (call.plain_token role.Text n) f

-- and at white space
space_turn : (closes : Bool) (start at level end : ℕ) (text : List ℕ) (n : ℕ) → IsFirstToken Plain text (call.plain_token role.Space n)
    → part_from closes start at level end (text_tokens Plain text) ≡ part_from closes start (at + n) level end (text_tokens Plain (drop n text))
unfolding role_meant ends_text ends_call ends_part level_after is_space
space_turn true start at level end text n f = rest_turn true Plain text start at level end (call.plain_token role.Space n) f
space_turn false start at level end text n f = rest_turn false Plain text start at level end (call.plain_token role.Space n) f

-- the search passes the word at the front of a text, if there is one
word_skip : (closes : Bool) (start at level : ℕ) (bs : List ℕ) (n : ℕ) → n ≡ prefix_len is_word bs
    → part_from closes start at level at (text_tokens Plain bs) ≡ part_from closes start (at + n) level (at + n) (text_tokens Plain (drop n bs))
word_skip closes start at level bs zero e = grind arith
word_skip closes start at level bs (suc n) e =
    let all = prefix_len-le-length is_word bs in
    text_turn closes start at level at bs (suc n) (word_text bs (suc n) e (omega arith) (omega (arith, e, all)))

-- a token that is a byte and the word after it is passed as the byte is, and then the word
taken_step : (closes : Bool) (start at level end b : ℕ) (bs : List ℕ) → IsFirstToken Plain (b ∷ bs) (call.plain_token role.Text (suc (prefix_len is_word bs)))
    → part_from closes start at level end (text_tokens Plain (b ∷ bs)) ≡ part_from closes start (at + 1) level (at + 1) (text_tokens Plain bs)
taken_step closes start at level end b bs f =
    let k = prefix_len is_word bs in
    let same : at + suc k ≡ (at + 1) + k = omega arith in
    text_turn closes start at level end (b ∷ bs) (suc k) f
    ∙ ap (λ (n : ℕ). part_from closes start n level n (text_tokens Plain (drop k bs))) same
    ∙ sym (word_skip closes start (at + 1) level bs k refl)

-- so is a byte of a word
word_step : (closes : Bool) (start at level end b : ℕ) (bs : List ℕ) → is_word b ≡ true
    → part_from closes start at level end (text_tokens Plain (b ∷ bs)) ≡ part_from closes start (at + 1) level (at + 1) (text_tokens Plain bs)
word_step closes start at level end b bs e = grind (arith, one-add, prefix_len-le-length, taken_step, word_text)

-- no blank is a letter
pub blank_dark : (b : ℕ) → is_blank b ≡ true → is_letter b ≡ false
unfolding is_letter is_blank
blank_dark b h = grind (arith, eqb-true, or_cases)

-- blanks are a token
blank_text : (text : List ℕ) (n : ℕ) → n ≡ prefix_len is_blank text → 0 < n → n ≤ length text → IsFirstToken Plain text (call.plain_token role.Space n)
unfolding whole role_meant kind_role
blank_text [] n is some inside = absurd (omega (arith, some, inside))
blank_text (b ∷ bs) n is some inside = elim (cases_Bool (is_blank b)) [
  | inl h ↦ named (b ∷ bs) (whole Blank n) role.Space (ap (λ (k : ℕ). whole Blank k) is ∙ sym (blank_token b bs (blank_dark b h) h)) some inside refl
  | inr h ↦
      let none : prefix_len is_blank (b ∷ bs) ≡ 0 = ap (λ (t : Bool). cond t (1 + prefix_len is_blank bs) 0) h in
      absurd (omega (arith, is, none, some))
]

-- the search passes the blanks at the front of a text, if there are some
blank_skip : (closes : Bool) (start at level end : ℕ) (bs : List ℕ) (n : ℕ) → n ≡ prefix_len is_blank bs
    → part_from closes start at level end (text_tokens Plain bs) ≡ part_from closes start (at + n) level end (text_tokens Plain (drop n bs))
blank_skip closes start at level end bs zero e = grind arith
blank_skip closes start at level end bs (suc n) e =
    let all = prefix_len-le-length is_blank bs in
    space_turn closes start at level end bs (suc n) (blank_text bs (suc n) e (omega arith) (omega (arith, e, all)))

-- and a blank as one byte
blank_step : (closes : Bool) (start at level end b : ℕ) (bs : List ℕ) → is_blank b ≡ true
    → part_from closes start at level end (text_tokens Plain (b ∷ bs)) ≡ part_from closes start (at + 1) level end (text_tokens Plain bs)
blank_step closes start at level end b bs e =
    let k = prefix_len is_blank bs in
    let len : suc k ≡ prefix_len is_blank (b ∷ bs) = sym (ap (λ (t : Bool). cond t (1 + k) 0) e ∙ one-add k) in
    let same : at + suc k ≡ (at + 1) + k = omega arith in
    blank_skip closes start at level end (b ∷ bs) (suc k) len
    ∙ ap (λ (n : ℕ). part_from closes start n level end (text_tokens Plain (drop k bs))) same
    ∙ sym (blank_skip closes start (at + 1) level end bs k refl)

-- an LF is a token
line_here : (bs : List ℕ) → IsFirstToken Plain (10 ∷ bs) (call.plain_token role.Space 1)
unfolding token_of plain_token whole role_meant kind_role begins_perl is_line_end
line_here bs = named (10 ∷ bs) (whole LineEnd 1) role.Space refl (omega arith) (omega arith) refl

-- an LF is one byte of white space
line_step : (closes : Bool) (start at level end b : ℕ) (bs : List ℕ) → is_line_end b ≡ true
    → part_from closes start at level end (text_tokens Plain (b ∷ bs)) ≡ part_from closes start (at + 1) level end (text_tokens Plain bs)
unfolding is_line_end
line_step closes start at level end b bs e =
    let here : IsFirstToken Plain (b ∷ bs) (call.plain_token role.Space 1) =
    subst (λ (n : ℕ). IsFirstToken Plain (n ∷ bs) (call.plain_token role.Space 1)) (sym (eqb-true b 10 e)) (line_here bs) in
    space_turn closes start at level end (b ∷ bs) 1 here

-- the token of any other plain argument byte is that byte alone, or takes the word after it along
IsPlainArgumentFirst : ℕ → List ℕ → Type 0
IsPlainArgumentFirst b bs = IsFirstToken Plain (b ∷ bs) (call.plain_token role.Text 1) ⊎ IsFirstToken Plain (b ∷ bs) (call.plain_token role.Text (suc (prefix_len is_word bs)))

-- the token of a byte alone
alone : (b : ℕ) (bs : List ℕ) (k : Kind) → token_of Plain (b ∷ bs) ≡ whole k 1 → role_meant role.Text ≡ kind_role k (b ∷ []) → IsPlainArgumentFirst b bs
unfolding whole IsPlainArgumentFirst
alone b bs k e r = inl (named (b ∷ bs) (whole k 1) role.Text (sym e) (omega arith) (omega arith) r)

-- that of a byte and a word
along : (b : ℕ) (bs : List ℕ) (k : Kind) → token_of Plain (b ∷ bs) ≡ whole k (suc (prefix_len is_word bs)) → role_meant role.Text ≡ kind_role k (b ∷ []) → IsPlainArgumentFirst b bs
unfolding whole IsPlainArgumentFirst
along b bs k e r =
    let all = prefix_len-le-length is_word bs in
    inr (named (b ∷ bs) (whole k (suc (prefix_len is_word bs))) role.Text (sym e) (omega arith) (omega (arith, all)) r)

-- by the rows of the token table
mark_first : (b : ℕ) (bs : List ℕ) → is_plain_argument b ≡ true → is_line_end b ≡ false → is_digit b ≡ false
    → token_of Plain (b ∷ bs) ≡ parts Plain (mark_kind b (get_or (b ∷ bs) 1 0)) (b ∷ bs) → IsPlainArgumentFirst b bs
unfolding is_plain_argument parts stop_of mode_after len_of mark_kind whole kind_role role_meant
mark_first b bs plain_argument line digit =
    let T = b ∷ bs in
    let c = get_or T 1 0 in
    let opener = no_first (is_opener b) _ plain_argument in
    let closer = no_first (is_closer b) _ opener.1 in
    let comma = no_first (b == 44) _ closer.1 in
    let quote = no_first (b == 34) _ comma.1 in
    let slash = no_first (b == 47) _ quote.1 in
    let less = not-true (b == 60) slash.1 in
    let P : Kind → Type 0 = λ k. token_of Plain T ≡ parts Plain k T → IsPlainArgumentFirst b bs in
    cond_both (b == 44) _ _ P (λ h. absurd (both_ways _ comma.0 h)) (λ _.
    cond_both (is_opener b) _ _ P (λ h. absurd (both_ways _ opener.0 h)) (λ _.
    cond_both (is_closer b) _ _ P (λ h. absurd (both_ways _ closer.0 h)) (λ _.
    cond_both (is_line_end b) _ _ P (λ h. absurd (both_ways _ line h)) (λ _.
    cond_both (b == 96 && is_letter c) _ _ P (λ _ e. along b bs Back e refl) (λ _.
    cond_both (b == 96) _ _ P (λ _ e. alone b bs BareBackquote e refl) (λ _.
    cond_both (b == 34) _ _ P (λ h. absurd (both_ways _ quote.0 h)) (λ _.
    cond_both (b == 47 && c == 47) _ _ P (λ h. absurd (both_ways _ slash.0 (both_first _ _ h))) (λ _.
    cond_both (b == 47 && c == 42) _ _ P (λ h. absurd (both_ways _ slash.0 (both_first _ _ h))) (λ _.
    cond_both (b == 60 && c == 37) _ _ P (λ h. absurd (both_ways _ less (both_first _ _ h))) (λ _.
    cond_both (takes_word b && is_word c) _ _ P (λ _ e. along b bs Word (e ∙ taken) refl) (λ _ e. alone b bs Other e refl)))))))))))
  where
    taken : parts Plain Word (b ∷ bs) ≡ whole Word (suc (prefix_len is_word bs))
    taken = ap (λ (t : Bool). whole Word (cond t (prefix_len is_word (b ∷ bs)) (suc (prefix_len is_word bs)))) digit

-- the search passes such a byte
mark_step : (closes : Bool) (start at level end b : ℕ) (bs : List ℕ) → is_plain_argument b ≡ true → is_blank b ≡ false → is_line_end b ≡ false → is_word b ≡ false
    → part_from closes start at level end (text_tokens Plain (b ∷ bs)) ≡ part_from closes start (at + 1) level (at + 1) (text_tokens Plain bs)
unfolding is_word kind_of plain_kind IsPlainArgumentFirst
mark_step closes start at level end b bs plain_argument blank line word =
    let T = b ∷ bs in
    let h = or_parts (is_letter b) (is_digit b) word in
    let kind : plain_kind b (get_or T 1 0) ≡ mark_kind b (get_or T 1 0) = rw (h.0, blank, h.1) refl in
    let is : token_of Plain T ≡ parts Plain (mark_kind b (get_or T 1 0)) T = token_parts Plain T ∙ ap (λ (k : Kind). parts Plain k T) kind in
    ⊎_elim (λ f. text_turn closes start at level end T 1 f) (λ f. taken_step closes start at level end b bs f) (mark_first b bs plain_argument line h.1 is)

-- the search passes a plain argument byte
plain_argument_step : (closes : Bool) (start at level end b : ℕ) (bs : List ℕ) → is_plain_argument b ≡ true
    → part_from closes start at level end (text_tokens Plain (b ∷ bs)) ≡ part_from closes start (at + 1) level (cond (is_white b) end (at + 1)) (text_tokens Plain bs)
unfolding is_white
plain_argument_step closes start at level end b bs plain_argument = grind (arith, cond_both, blank_step, line_step, or_cases, or_parts, word_step, mark_step, cases_Bool)

-- a comma within an opener is a token that the search passes
comma_turn : (closes : Bool) (start at k end : ℕ) (bs : List ℕ)
    → part_from closes start at (suc k) end (text_tokens Plain (44 ∷ bs)) ≡ part_from closes start (at + 1) (suc k) (at + 1) (text_tokens Plain bs)
unfolding role_meant ends_text ends_call ends_part level_after is_space
comma_turn true start at k end bs = rest_turn true Plain (44 ∷ bs) start at (suc k) end (call.plain_token role.Comma 1) (comma_here bs)
comma_turn false start at k end bs = rest_turn false Plain (44 ∷ bs) start at (suc k) end (call.plain_token role.Comma 1) (comma_here bs)

comma_step : (closes : Bool) (start at level end b : ℕ) (bs : List ℕ) → (b == 44) ≡ true → nat_lt 0 level ≡ true
    → part_from closes start at level end (text_tokens Plain (b ∷ bs)) ≡ part_from closes start (at + 1) level (cond (is_white b) end (at + 1)) (text_tokens Plain bs)
unfolding is_white is_blank is_line_end
comma_step closes start at zero end b bs e within = absurd (false≢true within)
comma_step closes start at (suc k) end b bs e within = grind (arith, eqb-true, comma_turn)

both_last : (p q : Bool) → (p && q) ≡ true → q ≡ true
both_last true q h = h
both_last false q h = absurd (false≢true h)

-- the search passes a plain argument byte at its level
level_step : (closes : Bool) (start at level end b : ℕ) (bs : List ℕ) → is_plain_argument_at level b ≡ true
    → part_from closes start at level end (text_tokens Plain (b ∷ bs)) ≡ part_from closes start (at + 1) level (cond (is_white b) end (at + 1)) (text_tokens Plain bs)
unfolding is_plain_argument_at
level_step closes start at level end b bs e =
    ⊎_elim (plain_argument_step closes start at level end b bs) (λ h. comma_step closes start at level end b bs (both_first _ _ h) (both_last _ _ h)) (or_cases _ _ e)

-- so of a text at a place
byte_passed : (closes : Bool) (text : List ℕ) (start at level end : ℕ) → at < length text → is_plain_argument_at level (get_or text at 0) ≡ true
    → part_from closes start (at + 1) level (cond (is_white (get_or text at 0)) end (at + 1)) (text_tokens Plain (drop (at + 1) text))
    ≡ part_from closes start at level end (text_tokens Plain (drop at text))
byte_passed closes text start at level end inside plain_argument = grind (arith, drop_more, level_step)

-- white space leaves where the part ends, and any other plain argument byte moves it
pub white_passed : (closes : Bool) (text : List ℕ) (start at level end : ℕ) → at < length text → White ≡ byte_class level (get_or text at 0)
    → part_from closes start (at + 1) level end (text_tokens Plain (drop (at + 1) text)) ≡ part_from closes start at level end (text_tokens Plain (drop at text))
white_passed closes text start at level end inside is =
    let b = get_or text at 0 in
    let white = class_white level b is in
    ap (λ (t : Bool). part_from closes start (at + 1) level (cond t end (at + 1)) (text_tokens Plain (drop (at + 1) text))) (sym white)
    ∙ byte_passed closes text start at level end inside (white_plain_argument level b white)

pub plain_argument_passed : (closes : Bool) (text : List ℕ) (start at level end : ℕ) → at < length text → PlainArgument ≡ byte_class level (get_or text at 0)
    → part_from closes start (at + 1) level (at + 1) (text_tokens Plain (drop (at + 1) text)) ≡ part_from closes start at level end (text_tokens Plain (drop at text))
plain_argument_passed closes text start at level end inside is =
    let b = get_or text at 0 in
    let c = class_plain_argument level b is in
    ap (λ (t : Bool). part_from closes start (at + 1) level (cond t end (at + 1)) (text_tokens Plain (drop (at + 1) text))) (sym c.0)
    ∙ byte_passed closes text start at level end inside c.1

-- A text without `/` has no `//` comment.

-- a token of any other kind is kept
kept_kind : (k : Kind) (bytes : List ℕ) → (k ≡ LineComment → ⊥) → is_kept (kind_role k bytes) ≡ true
unfolding kind_role is_kept
kept_kind Opener bytes other = either_kept (get_or bytes 0 0 == 40) Start Up refl refl
kept_kind Closer bytes other = either_kept (get_or bytes 0 0 == 41) End Down refl refl
kept_kind LineComment bytes other = absurd (other refl)
kept_kind k bytes other = refl

-- no `//` comment begins with another byte
plain_other : (b c : ℕ) → (b == 47) ≡ false → plain_kind b c ≡ LineComment → ⊥
unfolding plain_kind mark_kind
plain_other b c slash = grind (arith, cond_both, both_ways, both_first)

-- nor in a string or in a block comment
other_kind : (m : Mode) (b : ℕ) (bs : List ℕ) → (b == 47) ≡ false → kind_of m (b ∷ bs) ≡ LineComment → ⊥
unfolding kind_of
other_kind Plain b bs slash = plain_other b (get_or (b ∷ bs) 1 0) slash
other_kind InStr b bs slash = cond_both (begins_perl (b ∷ bs)) _ _ (λ k. k ≡ LineComment → ⊥) (λ _ e. absurd (cc)) (λ _ e. absurd (cc))
other_kind InBlock b bs slash = λ e. absurd (cc)

-- the first token of a text that begins so is kept
first_kept : (m : Mode) (b : ℕ) (bs : List ℕ) → (b == 47) ≡ false → is_kept (token_role (first_spelled m (b ∷ bs))) ≡ true
unfolding first_spelled token_role parts
first_kept m b bs slash = grind (arith, token_parts, kept_kind, other_kind)

-- the rest of a text without `/` has none
rest_all : (n : ℕ) (bs : List ℕ) → IsFirstByte (is_byte 47) bs None → IsFirstByte (is_byte 47) (drop n bs) None
rest_all n bs none k low lt here = none (n + k) (omega arith) (omega (arith, length-drop n bs)) (sym (ap (λ b. b == 47) (get_or-drop n bs k 0)) ∙ here)

-- a call in such a text keeps each token
kept_from : (n : ℕ) (m : Mode) (bs : List ℕ) → length bs ≤ n → IsFirstByte (is_byte 47) bs None → keeps_each (text_tokens m bs) ≡ true
unfolding keeps_each
kept_from n m [] low e = ap keeps_each (text_nil m)
kept_from zero m (b ∷ bs) low e = absurd (omega (arith, low))
kept_from (suc n) m (b ∷ bs) low e =
    let T = b ∷ bs in
    let t = token_of m T in
    let some : 0 < length T = omega arith in
    let size = length-drop t.len T in
    let long = (token_of-part m T some).not_empty in
    let later = text_tokens t.next_mode (drop t.len T) in
    ap keeps_each (text_step m T some)
    ∙ ap (λ (p : Bool). cond p (keeps_each later) false) (first_kept m b bs (false_from_ne_true (b == 47) (e 0 (omega arith) some)))
    ∙ kept_from n t.next_mode (drop t.len T) (omega (arith, size, long, low)) (rest_all t.len T e)

-- so the search for `/` tells it
pub kept_is : (text : List ℕ) (found : Option ℕ) (none : Bool) → IsFirstByte (is_byte 47) text found → is_some found ≡ not none → none ≡ true → none ≡ keeps_each (body_tokens text)
kept_is text None none first e h = h ∙ sym (ap keeps_each (body_text text) ∙ kept_from (length text) Plain text (omega arith) first)
kept_is text (Some k) none first e h = absurd (false≢true (sym (ap not h) ∙ sym e))

-- A text without formals is copied up to its first backquote, where no string and no comment begins before that.

-- how many bytes are copied
run : List ℕ → ℕ
run bs = run_len [] (tokens_from Plain 0 bs) bs

-- a token that is no stop is copied
turn : (bs : List ℕ) (k : Kind) (n : ℕ) → 0 < length bs → token_of Plain bs ≡ whole k n → is_back k ≡ false → run bs ≡ n + run (drop n bs)
unfolding run whole
turn bs k n some is still = grind (arith, tokens_from-step, token_of-part, passed)

-- the word at the front of a text is copied, if there is one
run_word : (bs : List ℕ) (n : ℕ) → n ≡ prefix_len is_word bs → run bs ≡ n + run (drop n bs)
unfolding is_word is_back
run_word bs zero e = omega arith
run_word [] (suc n) e = absurd (omega (arith, e))
run_word (b ∷ bs) (suc n) e = elim (cases_Bool (is_letter b)) [
  | inl l ↦ turn (b ∷ bs) Name (suc n) (omega arith) (letter_token b bs l ∙ ap (λ (k : ℕ). whole Name k) (sym e)) refl
  | inr l ↦ elim (cases_Bool (is_digit b)) [
    | inl d ↦ turn (b ∷ bs) Word (suc n) (omega arith) (digit_token b bs l d ∙ ap (λ (k : ℕ). whole Word k) (sym e)) refl
    | inr d ↦
        let none : prefix_len is_word (b ∷ bs) ≡ 0 = rw (l, d) refl in
        absurd (omega (arith, e, none))
  ]
]

-- so are blanks
run_blank : (bs : List ℕ) (n : ℕ) → n ≡ prefix_len is_blank bs → run bs ≡ n + run (drop n bs)
unfolding is_back
run_blank bs zero e = omega arith
run_blank [] (suc n) e = absurd (omega (arith, e))
run_blank (b ∷ bs) (suc n) e = elim (cases_Bool (is_blank b)) [
  | inl h ↦ turn (b ∷ bs) Blank (suc n) (omega arith) (blank_token b bs (blank_dark b h) h ∙ ap (λ (k : ℕ). whole Blank k) (sym e)) refl
  | inr h ↦
      let none : prefix_len is_blank (b ∷ bs) ≡ 0 = ap (λ (t : Bool). cond t (1 + prefix_len is_blank bs) 0) h in
      absurd (omega (arith, e, none))
]

-- a byte of a run is copied, and then the rest of the run
run_step : (p : ℕ → Bool) → ((bs : List ℕ) (n : ℕ) → n ≡ prefix_len p bs → run bs ≡ n + run (drop n bs)) → (b : ℕ) (bs : List ℕ) → p b ≡ true → run (b ∷ bs) ≡ 1 + run bs
run_step p skip b bs e =
    let k = prefix_len p bs in
    let len : suc k ≡ prefix_len p (b ∷ bs) = sym (ap (λ (t : Bool). cond t (1 + k) 0) e ∙ one-add k) in
    let all : run (b ∷ bs) ≡ suc k + run (drop k bs) = skip (b ∷ bs) (suc k) len in
    let rest : run bs ≡ k + run (drop k bs) = skip bs k refl in
    omega (arith, all, rest)

-- a token of one byte
one_step : (b : ℕ) (bs : List ℕ) (k : Kind) → token_of Plain (b ∷ bs) ≡ whole k 1 → is_back k ≡ false → run (b ∷ bs) ≡ 1 + run bs
one_step b bs k e still = turn (b ∷ bs) k 1 (omega arith) e still

-- a byte that takes the word after it along
run_taken : (b : ℕ) (bs : List ℕ) → token_of Plain (b ∷ bs) ≡ whole Word (suc (prefix_len is_word bs)) → run (b ∷ bs) ≡ 1 + run bs
unfolding is_back
run_taken b bs e =
    let k = prefix_len is_word bs in
    let all : run (b ∷ bs) ≡ suc k + run (drop k bs) = turn (b ∷ bs) Word (suc k) (omega arith) e refl in
    let rest : run bs ≡ k + run (drop k bs) = run_word bs k refl in
    omega (arith, all, rest)

-- a `%` is a token by itself
percent : (bs : List ℕ) → token_of Plain (37 ∷ bs) ≡ whole Other 1
unfolding parts kind_of plain_kind mark_kind stop_of mode_after len_of whole is_blank is_line_end is_letter is_digit is_opener is_closer takes_word
percent bs = token_parts Plain (37 ∷ bs)

-- so `<%` is copied byte by byte
perl_step : (b : ℕ) (bs : List ℕ) → get_or (b ∷ bs) 1 0 ≡ 37 → token_of Plain (b ∷ bs) ≡ whole Perl 2 → run (b ∷ bs) ≡ 1 + run bs
unfolding is_back
perl_step b [] c e = absurd (omega (arith, c))
perl_step b (x ∷ bs) c e =
    let all : run (b ∷ x ∷ bs) ≡ 2 + run bs = turn (b ∷ x ∷ bs) Perl 2 (omega arith) e refl in
    let rest : run (x ∷ bs) ≡ 1 + run bs = one_step x bs Other (ap (λ (n : ℕ). token_of Plain (n ∷ bs)) c ∙ percent bs) refl in
    omega (arith, all, rest)

-- a byte that stands in no run is copied, if it is no backquote and begins no string and no comment
run_mark : (b : ℕ) (bs : List ℕ) → (b == 96) ≡ false → (b == 34) ≡ false → (b == 47) ≡ false → is_digit b ≡ false
    → token_of Plain (b ∷ bs) ≡ parts Plain (mark_kind b (get_or (b ∷ bs) 1 0)) (b ∷ bs) → run (b ∷ bs) ≡ 1 + run bs
unfolding parts stop_of mode_after len_of mark_kind whole is_back
run_mark b bs back quote slash digit =
    let T = b ∷ bs in
    let c = get_or T 1 0 in
    let P : Kind → Type 0 = λ k. token_of Plain T ≡ parts Plain k T → run T ≡ 1 + run bs in
    cond_both (b == 44) _ _ P (λ _ e. one_step b bs Comma e refl) (λ _.
    cond_both (is_opener b) _ _ P (λ _ e. one_step b bs Opener e refl) (λ _.
    cond_both (is_closer b) _ _ P (λ _ e. one_step b bs Closer e refl) (λ _.
    cond_both (is_line_end b) _ _ P (λ _ e. one_step b bs LineEnd e refl) (λ _.
    cond_both (b == 96 && is_letter c) _ _ P (λ h. absurd (both_ways _ back (both_first _ _ h))) (λ _.
    cond_both (b == 96) _ _ P (λ h. absurd (both_ways _ back h)) (λ _.
    cond_both (b == 34) _ _ P (λ h. absurd (both_ways _ quote h)) (λ _.
    cond_both (b == 47 && c == 47) _ _ P (λ h. absurd (both_ways _ slash (both_first _ _ h))) (λ _.
    cond_both (b == 47 && c == 42) _ _ P (λ h. absurd (both_ways _ slash (both_first _ _ h))) (λ _.
    cond_both (b == 60 && c == 37) _ _ P (λ h e. perl_step b bs (eqb-true c 37 (and_parts (b == 60) (c == 37) h).1) e) (λ _.
    cond_both (takes_word b && is_word c) _ _ P (λ _ e. run_taken b bs (e ∙ taken)) (λ _ e. one_step b bs Other e refl)))))))))))
  where
    taken : parts Plain Word (b ∷ bs) ≡ whole Word (suc (prefix_len is_word bs))
    taken = ap (λ (t : Bool). whole Word (cond t (prefix_len is_word (b ∷ bs)) (suc (prefix_len is_word bs)))) digit

-- each such byte is copied
inert_step : (b : ℕ) (bs : List ℕ) → (b == 96) ≡ false → (b == 34) ≡ false → (b == 47) ≡ false → run (b ∷ bs) ≡ 1 + run bs
unfolding is_word kind_of plain_kind
inert_step b bs back quote slash = elim (cases_Bool (is_word b)) [
  | inl w ↦ run_step is_word run_word b bs w
  | inr w ↦ elim (cases_Bool (is_blank b)) [
    | inl h ↦ run_step is_blank run_blank b bs h
    | inr h ↦
        let T = b ∷ bs in
        let n = or_parts (is_letter b) (is_digit b) w in
        let kind : plain_kind b (get_or T 1 0) ≡ mark_kind b (get_or T 1 0) = rw (n.0, h, n.1) refl in
        run_mark b bs back quote slash n.1 (token_parts Plain T ∙ ap (λ (k : Kind). parts Plain k T) kind)
  ]
]

-- and so are all in front of a backquote
inert_run : (bs : List ℕ) (n : ℕ) → n ≤ length bs
    → ((i : ℕ) → i < n → ((get_or bs i 0 == 96) ≡ false) × ((get_or bs i 0 == 34) ≡ false) × ((get_or bs i 0 == 47) ≡ false)) → run bs ≡ n + run (drop n bs)
inert_run bs zero few inert = omega arith
inert_run [] (suc n) few inert = absurd (omega (arith, few))
inert_run (b ∷ bs) (suc n) few inert =
    let q = inert 0 (omega arith) in
    let first : run (b ∷ bs) ≡ 1 + run bs = inert_step b bs q.0 q.1 q.2 in
    let rest : run bs ≡ n + run (drop n bs) = inert_run bs n (omega (arith, few)) (λ i h. inert (suc i) (omega (arith, h))) in
    omega (arith, first, rest)

-- a text that begins with a backquote begins with a usage or a lone backquote
back_first : (bs : List ℕ) → get_or bs 0 0 ≡ 96 → is_back (token_of Plain bs).kind ≡ true
unfolding parts kind_of plain_kind mark_kind is_back is_blank is_line_end is_letter is_digit is_opener is_closer
back_first bs e = grind (arith, token_parts, cond_both)

-- the bytes in front of a place at or before the first backquote, where neither `"` nor `/` stands before it
inert_before : (text : List ℕ) (at k : ℕ) → IsFirstByte (is_byte 96) text (Some at) → k ≤ at → ((i : ℕ) → i < k → is_byte2 34 47 (get_or (take at text) i 0) ≡ true → ⊥)
    → (i : ℕ) → i < k → ((get_or text i 0 == 96) ≡ false) × ((get_or text i 0 == 34) ≡ false) × ((get_or text i 0 == 47) ≡ false)
inert_before text at k first few h i l = grind (arith, get_or-take, false_from_ne_true, or_parts)

-- so the run ends at the first backquote, where neither `"` nor `/` stands before it
pub run_found : (text : List ℕ) (at : ℕ) (marks : Option ℕ) → IsFirstByte (is_byte 96) text (Some at) → marks ≡ None
    → IsFirstByte (is_byte2 34 47) (take at text) marks → at ≡ run_len [] (tokens_from Plain 0 text) text
unfolding run
run_found text at (Some k) first e h = absurd (cc)
run_found text at None first e h =
    let inside : at < length text = first.0.high in
    let size : length (take at text) ≡ at = length-take-le at text (omega arith) in
    let inert = inert_before text at at first (omega arith) (λ i l. h i (omega arith) (omega (arith, size, l))) in
    let whole : at + run (drop at text) ≡ run text = sym (inert_run text at (omega arith) inert) in
    let zero_after : at + 0 ≡ at = omega arith in
    let here : get_or (drop at text) 0 0 ≡ 96 = get_or-drop at text 0 0 ∙ ap (λ (k : ℕ). get_or text k 0) zero_after ∙ eqb-true (get_or text at 0) 96 first.1 in
    running-point text Plain at (token_of Plain (drop at text)) (record { inside = omega arith; same = whole }) inside refl (back_first (drop at text) here)

-- and else goes on at the first of these, as in a text that begins there
pub run_after : (text : List ℕ) (at near : ℕ) (marks : Option ℕ) → IsFirstByte (is_byte 96) text (Some at) → marks ≡ Some near
    → IsFirstByte (is_byte2 34 47) (take at text) marks → (near < length text) × (run_len [] (tokens_from Plain 0 text) text ≡ near + run_len [] (tokens_from Plain 0 (drop near text)) (drop near text))
unfolding run
run_after text at near None first e h = absurd (cc)
run_after text at near (Some k) first e h = grind (arith, length-take-le, inert_before, inert_run)
