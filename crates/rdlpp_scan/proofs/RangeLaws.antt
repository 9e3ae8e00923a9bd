-- The tokens of a range of a text, and of a text with more after it.
use Rattle.std.proofs.Common.{◌≡◌, ◌⊎◌, ℕ, suc, ◌+◌, ◌<◌, ◌≤◌, Bool, true, false, not, cond, ◌||◌, ◌&&◌, eqb, List, ◌∷◌, ◌++◌, length, get_or, take, drop, refl, sym, ap, ◌∙◌, subst, inl, inr, ⊎_elim, arith, eqb-true, ltb-false, lt-ltb, ltb-true, append-nil, length-append, length-drop, get_or-drop, drop-drop, length-take, take-append-drop, []}
use Rattle.std.specs.List.{prefix_len}
use Rattle.std.proofs.Math.Bool.{and-false}
use Rattle.std.proofs.lemmas.Bool.{and_parts, or_parts, cond_both, false≢true}
use Rattle.std.proofs.lemmas.List.{drop-append-le, get_or_past, get_or_append_left, drop-take, nil_from_length}
use Rattle.rdlpp_scan.specs.declared.token.Kind.{Kind}
use Rattle.rdlpp_scan.specs.declared.token.Kind.TheVariants.{Name, Word, Back, Blank, LineEnd, Str, LineComment, Opener, Closer, Comma, Other, Perl, BareBackquote}
use Rattle.rdlpp_scan.specs.declared.token.Mode.{Mode}
use Rattle.rdlpp_scan.specs.declared.token.Mode.TheVariants.{Plain, InStr, InBlock}
use Rattle.rdlpp_scan.specs.declared.token.Token.{Token}
use Rattle.rdlpp_scan.specs.Bytes.{is_blank, is_line_end, is_letter, is_digit, is_word, is_opener, is_closer, takes_word, begins_perl, begins_line_comment, begins_block_comment, ends_block_comment}
use Rattle.rdlpp_scan.specs.Tokens.{first_place, string_stop, whole, string_token, block_token, plain_token, token_of, tokens_from}
use Rattle.rdlpp_scan.specs.Pieces.{mode_after, tokens_len}
use Rattle.rdlpp_scan.proofs.TokenLens.{is_word-letter, token_of-part, begins_perl-two, ends_block_comment-two, inside_of, begins_block_comment-two, tokens_from-step}
use Rattle.rdlpp_scan.proofs.Seams.{Seam, Closed, BeforePerl, OpenString, OpenComment, token_of-seam, string_at, string_token-at, block_at, block_token-at}
use Rattle.rdlpp_scan.specs.CleanTexts.{IsCleanToken}
use Rattle.rdlpp_scan.specs.Comments.{is_line_comment}

-- A range of a text, cut at boundaries of its tokens, has exactly those tokens.

-- a run that ends in the front of a text
run-front : (p : ℕ → Bool) (xs ys : List ℕ) → prefix_len p (xs ++ ys) ≤ length xs → prefix_len p xs ≡ prefix_len p (xs ++ ys)
run-front p [] ys le = omega arith
run-front p (x ∷ xs) ys le =
    let n = prefix_len p (xs ++ ys) in
    let P : Bool → Type 0 = λ t. cond t (1 + n) 0 ≤ suc (length xs) → cond t (1 + prefix_len p xs) 0 ≡ cond t (1 + n) 0 in
    let at_true : P true = λ h. ap (λ k. 1 + k) (run-front p xs ys (omega arith)) in
    let at_false : P false = λ _. refl in
    elim (p x) as P [ true ↦ at_true | false ↦ at_false ] le

-- `<%` isn't found where it isn't in the whole text
no_perl-front : (b : ℕ) (xs ys : List ℕ) → begins_perl (b ∷ xs ++ ys) ≡ false → begins_perl (b ∷ xs) ≡ false
unfolding begins_perl
no_perl-front b [] ys h = and-false (eqb b 60)
no_perl-front b (c ∷ xs) ys h = h

pub perl-front : (b : ℕ) (xs ys : List ℕ) → 0 < length xs → begins_perl (b ∷ xs ++ ys) ≡ begins_perl (b ∷ xs)
unfolding begins_perl
perl-front b [] ys some = absurd (omega arith)
perl-front b (c ∷ xs) ys some = refl

-- where a string stops in a text, it stops in a front of it: at the front's end, at its quote, or before a whole `<%`
string_stop-front : (s : Bool) (xs ys : List ℕ) → string_stop s (xs ++ ys) ≤ length xs
    → (string_stop s (xs ++ ys) ≡ length xs) ⊎ ((eqb (get_or xs (string_stop s (xs ++ ys)) 0) 34 ≡ true) ⊎ (string_stop s (xs ++ ys) + 2 ≤ length xs)) → string_stop s xs ≡ string_stop s (xs ++ ys)
unfolding string_stop
string_stop-front s [] ys le at = omega arith
string_stop-front true (b ∷ xs) ys le at = ap suc (string_stop-front false xs ys (omega arith) (⊎_elim (λ e. inl (omega arith)) (λ r. ⊎_elim (λ q. inr (inl q)) (λ room. inr (inr (omega arith))) r) at))
string_stop-front false (b ∷ xs) ys le at =
    let n = string_stop (eqb b 92) (xs ++ ys) in
    let m = string_stop (eqb b 92) xs in
    let here = eqb b 34 || begins_perl (b ∷ xs) in
    let there = eqb b 34 || begins_perl (b ∷ xs ++ ys) in
    let stop : Bool → ℕ = λ t. cond t 0 (suc n) in
    let P : Bool → Type 0 = λ t. there ≡ t → stop t ≤ suc (length xs) → (stop t ≡ suc (length xs)) ⊎ ((eqb (get_or (b ∷ xs) (stop t) 0) 34 ≡ true) ⊎ (stop t + 2 ≤ suc (length xs))) → cond here 0 (suc m) ≡ stop t in
    let at_true : P true = λ e _ where_is.
    let same : 0 < length xs → here ≡ true = λ some. ap (λ t. eqb b 34 || t) (sym (perl-front b xs ys some)) ∙ e in
    let yes_here : here ≡ true = ⊎_elim (λ end. absurd (omega arith)) (λ r. ⊎_elim (λ q. ap (λ t. t || begins_perl (b ∷ xs)) q) (λ room. same (omega arith)) r) where_is in
    ap (λ t. cond t 0 (suc m)) yes_here in
    let at_false : P false = λ e fits where_is.
    let parts = or_parts (eqb b 34) (begins_perl (b ∷ xs ++ ys)) e in
    let no_here : here ≡ false = ap (λ t. t || begins_perl (b ∷ xs)) parts.0 ∙ no_perl-front b xs ys parts.1 in
    ap (λ t. cond t 0 (suc m)) no_here
    ∙ ap suc (string_stop-front (eqb b 92) xs ys (omega arith) (⊎_elim (λ end. inl (omega arith)) (λ r. ⊎_elim (λ q. inr (inl q)) (λ room. inr (inr (omega arith))) r) where_is)) in
    elim there as P [ true ↦ at_true | false ↦ at_false ] refl le at

pub ends-front : (b c : ℕ) (xs ys : List ℕ) → ends_block_comment (b ∷ c ∷ xs ++ ys) ≡ ends_block_comment (b ∷ c ∷ xs)
unfolding ends_block_comment
ends-front b c xs ys = refl

-- where a comment ends in a front of a text
comment_stop-front : (xs ys : List ℕ) → first_place ends_block_comment (xs ++ ys) + 2 ≤ length xs → first_place ends_block_comment xs ≡ first_place ends_block_comment (xs ++ ys)
unfolding first_place
comment_stop-front (b ∷ c ∷ xs) ys room =
    let n = first_place ends_block_comment (c ∷ xs ++ ys) in
    let P : Bool → Type 0 = λ t. cond t 0 (suc n) + 2 ≤ suc (suc (length xs)) → cond t 0 (suc (first_place ends_block_comment (c ∷ xs))) ≡ cond t 0 (suc n) in
    let at_true : P true = λ _. refl in
    let at_false : P false = λ h. ap suc (comment_stop-front (c ∷ xs) ys (omega arith)) in
    let same : ends_block_comment (b ∷ c ∷ xs ++ ys) ≡ ends_block_comment (b ∷ c ∷ xs) = ends-front b c xs ys in
    subst (λ t. cond t 0 (suc n) + 2 ≤ suc (suc (length xs)) → cond (ends_block_comment (b ∷ c ∷ xs)) 0 (suc (first_place ends_block_comment (c ∷ xs))) ≡ cond t 0 (suc n)) (sym same)
    (elim (ends_block_comment (b ∷ c ∷ xs)) as P [ true ↦ at_true | false ↦ at_false ]) room
comment_stop-front _ ys room = absurd (omega arith)

-- a token that ends in the front xs of a text: it is closed, covers xs, or stands before a whole `<%` in xs
pub record EndsIn (u : Token) (xs : List ℕ) : Type 0 where
  pub inside : u.len ≤ length xs
  pub last : (u.next_mode ≡ Plain) ⊎ ((u.len ≡ length xs) ⊎ (u.len + 2 ≤ length xs))

-- the token of a front of a text is that of the text, where that one ends in the front
abbrev Agrees : List ℕ → Token → Token → Type 0
Agrees xs t u = EndsIn u xs → t ≡ u

agrees-cond : (xs : List ℕ) (b c : Bool) (t t' u u' : Token) → c ≡ b → (b ≡ true → Agrees xs t u) → (b ≡ false → Agrees xs t' u') → Agrees xs (cond b t t') (cond c u u')
agrees-cond xs true c t t' u u' e left right = subst (λ d. Agrees xs t (cond d u u')) (sym e) (left refl)
agrees-cond xs false c t t' u u' e left right = subst (λ d. Agrees xs t' (cond d u u')) (sym e) (right refl)

-- a row that the front doesn't pass, since its second byte is after it
agrees-past : (xs : List ℕ) (b c : Bool) (t t' u u' : Token) → b ≡ false → (c ≡ true → EndsIn u xs → ⊥) → (c ≡ false → Agrees xs t' u') → Agrees xs (cond b t t') (cond c u u')
agrees-past xs b true t t' u u' e left right = λ h. absurd (left refl h)
agrees-past xs b false t t' u u' e left right = subst (λ d. Agrees xs (cond d t t') u') (sym e) (right refl)

agrees-whole : (xs : List ℕ) (k : Kind) (n m : ℕ) → (m ≤ length xs → n ≡ m) → Agrees xs (whole k n) (whole k m)
unfolding whole
agrees-whole xs k n m h fits = ap (whole k) (h fits.inside)

-- a string that ends in a front of a text
agrees-string : (from : ℕ) (xs ys : List ℕ) → from ≤ length xs → Agrees xs (string_token from xs) (string_token from (xs ++ ys))
unfolding string_at whole
agrees-string from xs ys fits ends = grind (arith, length-drop, string_at, string_token-at, drop-append-le, get_or_append_left, get_or-drop, string_stop-front, get_or_past)

-- a block comment that ends in a front of a text
agrees-block : (from : ℕ) (xs ys : List ℕ) → from ≤ length xs → Agrees xs (block_token from xs) (block_token from (xs ++ ys))
unfolding block_at whole
agrees-block from xs ys fits ends = grind (arith, length-drop, length-append, block_at, block_token-at, drop-append-le, comment_stop-front, lt-ltb, nil_from_length, ltb-false, append-nil)

line_comment-second : (b c : ℕ) (xs : List ℕ) → begins_line_comment (b ∷ c ∷ xs) ≡ true → 2 ≤ prefix_len (λ x. not (is_line_end x)) (b ∷ c ∷ xs)
unfolding begins_line_comment is_line_end
line_comment-second b c xs h = grind (arith, and_parts, eqb-true)

-- the first token of a text that has more bytes than one in its front
plain-front : (b c : ℕ) (w ys : List ℕ) → Agrees (b ∷ c ∷ w) (plain_token (b ∷ c ∷ w)) (plain_token (b ∷ c ∷ w ++ ys))
unfolding plain_token begins_perl begins_line_comment begins_block_comment
plain-front b c w ys =
    let xs = b ∷ c ∷ w in
    let bs = xs ++ ys in
    let one : (k : Kind) → Agrees xs (whole k 1) (whole k 1) = λ k. agrees-whole xs k 1 1 (λ _. refl) in
    let run : (k : Kind) (p : ℕ → Bool) → Agrees xs (whole k (prefix_len p xs)) (whole k (prefix_len p bs)) = λ k p. agrees-whole xs k _ _ (λ le. run-front p xs ys le) in
    let after_one : (k : Kind) → Agrees xs (whole k (suc (prefix_len is_word (c ∷ w)))) (whole k (suc (prefix_len is_word (c ∷ w ++ ys)))) = λ k. agrees-whole xs k _ _ (λ le. ap suc (run-front is_word (c ∷ w) ys (omega arith))) in
    agrees-cond xs (begins_perl xs) _ _ _ _ _ refl (λ _. agrees-whole xs Perl 2 2 (λ _. refl)) (λ _.
    agrees-cond xs (is_line_end b) _ _ _ _ _ refl (λ _. one LineEnd) (λ _.
    agrees-cond xs (is_blank b) _ _ _ _ _ refl (λ _. run Blank is_blank) (λ _.
    agrees-cond xs (begins_line_comment xs) _ _ _ _ _ refl (λ _. run LineComment (λ x. not (is_line_end x))) (λ _.
    agrees-cond xs (begins_block_comment xs) _ _ _ _ _ refl (λ _. agrees-block 2 xs ys (omega arith)) (λ _.
    agrees-cond xs (eqb b 34) _ _ _ _ _ refl (λ _. agrees-string 1 xs ys (omega arith)) (λ _.
    agrees-cond xs (is_letter b) _ _ _ _ _ refl (λ _. run Name is_word) (λ _.
    agrees-cond xs (is_digit b) _ _ _ _ _ refl (λ _. run Word is_word) (λ _.
    agrees-cond xs (takes_word b && is_word c) _ _ _ _ _ refl (λ _. after_one Word) (λ _.
    agrees-cond xs (eqb b 96 && is_letter c) _ _ _ _ _ refl (λ _. after_one Back) (λ _.
    agrees-cond xs (eqb b 96) _ _ _ _ _ refl (λ _. one BareBackquote) (λ _.
    agrees-cond xs (is_opener b) _ _ _ _ _ refl (λ _. one Opener) (λ _.
    agrees-cond xs (is_closer b) _ _ _ _ _ refl (λ _. one Closer) (λ _.
    agrees-cond xs (eqb b 44) _ _ _ _ _ refl (λ _. one Comma) (λ _. one Other))))))))))))))

block_token-long : (bs : List ℕ) → 2 ≤ (block_token 2 bs).len
unfolding block_token whole
block_token-long bs = grind (arith, cond_both)

word-long : (y : ℕ) (ys : List ℕ) → is_word y ≡ true → 1 ≤ prefix_len is_word (y ∷ ys)
word-long y ys h = let P : Bool → Type 0 = λ t. 1 ≤ cond t (1 + prefix_len is_word ys) 0 in subst P (sym h) (omega arith)

word_zero : is_word 0 ≡ false
unfolding is_word is_letter is_digit
word_zero = refl

letter_zero : is_letter 0 ≡ false
unfolding is_letter
letter_zero = refl

-- the first token of a text that has one byte in its front
plain-one : (b y : ℕ) (ys : List ℕ) → Agrees (b ∷ []) (plain_token (b ∷ [])) (plain_token (b ∷ y ∷ ys))
unfolding plain_token begins_perl begins_line_comment begins_block_comment whole
plain-one b y ys =
    let xs = b ∷ [] in
    let bs = b ∷ y ∷ ys in
    let one : (k : Kind) → Agrees xs (whole k 1) (whole k 1) = λ k. agrees-whole xs k 1 1 (λ _. refl) in
    let run : (k : Kind) (p : ℕ → Bool) → Agrees xs (whole k (prefix_len p xs)) (whole k (prefix_len p bs)) = λ k p. agrees-whole xs k _ _ (λ le. run-front p xs (y ∷ ys) le) in
    agrees-past xs (eqb b 60 && false) (begins_perl bs) _ _ (whole Perl 2) _ (and-false (eqb b 60)) (λ _ e. omega (arith, e.inside)) (λ _.
    agrees-cond xs (is_line_end b) _ _ _ _ _ refl (λ _. one LineEnd) (λ _.
    agrees-cond xs (is_blank b) _ _ _ _ _ refl (λ _. run Blank is_blank) (λ _.
    agrees-past xs (eqb b 47 && false) (begins_line_comment bs) _ _ _ _ (and-false (eqb b 47)) (λ h (e : EndsIn (whole LineComment (prefix_len (λ x. not (is_line_end x)) bs)) xs). let two = line_comment-second b y ys h in omega (arith, e.inside, two)) (λ _.
    agrees-past xs (eqb b 47 && false) (begins_block_comment bs) _ _ _ _ (and-false (eqb b 47)) (λ _ (e : EndsIn (block_token 2 bs) xs). omega (arith, e.inside, block_token-long bs)) (λ _.
    agrees-cond xs (eqb b 34) _ _ _ _ _ refl (λ _. agrees-string 1 xs (y ∷ ys) (omega arith)) (λ _.
    agrees-cond xs (is_letter b) _ _ _ _ _ refl (λ _. run Name is_word) (λ _.
    agrees-cond xs (is_digit b) _ _ _ _ _ refl (λ _. run Word is_word) (λ _.
    agrees-past xs (takes_word b && is_word 0) (takes_word b && is_word y) _ _ _ _ (ap (λ t. takes_word b && t) word_zero ∙ and-false (takes_word b)) (λ h (e : EndsIn (whole Word (suc (prefix_len is_word (y ∷ ys)))) xs). omega (arith, e.inside, word-long y ys (and_parts (takes_word b) (is_word y) h).1)) (λ _.
    agrees-past xs (eqb b 96 && is_letter 0) (eqb b 96 && is_letter y) _ _ _ _ (ap (λ t. eqb b 96 && t) letter_zero ∙ and-false (eqb b 96)) (λ h (e : EndsIn (whole Back (suc (prefix_len is_word (y ∷ ys)))) xs). omega (arith, e.inside, word-long y ys (is_word-letter y (and_parts (eqb b 96) (is_letter y) h).1))) (λ _.
    agrees-cond xs (eqb b 96) _ _ _ _ _ refl (λ _. one BareBackquote) (λ _.
    agrees-cond xs (is_opener b) _ _ _ _ _ refl (λ _. one Opener) (λ _.
    agrees-cond xs (is_closer b) _ _ _ _ _ refl (λ _. one Closer) (λ _.
    agrees-cond xs (eqb b 44) _ _ _ _ _ refl (λ _. one Comma) (λ _. one Other))))))))))))))

-- the first token of a text that ends in its front is that of the front
pub token_of-front : (m : Mode) (xs ys : List ℕ) → 0 < length xs → EndsIn (token_of m (xs ++ ys)) xs → token_of m xs ≡ token_of m (xs ++ ys)
unfolding token_of begins_perl whole
token_of-front m [] ys some = absurd (omega arith)
token_of-front Plain (b ∷ []) [] some = λ _. refl
token_of-front Plain (b ∷ []) (y ∷ ys) some = plain-one b y ys
token_of-front Plain (b ∷ c ∷ w) ys some = plain-front b c w ys
token_of-front InStr (b ∷ []) ys some =
    agrees-past (b ∷ []) (eqb b 60 && false) (begins_perl (b ∷ ys)) _ _ (whole Perl 2) _ (and-false (eqb b 60)) (λ _ e. omega (arith, e.inside)) (λ _. agrees-string 0 (b ∷ []) ys (omega arith))
token_of-front InStr (b ∷ c ∷ w) ys some =
    let xs = b ∷ c ∷ w in
    agrees-cond xs (begins_perl xs) _ _ _ _ _ refl (λ _. agrees-whole xs Perl 2 2 (λ _. refl)) (λ _. agrees-string 0 xs ys (omega arith))
token_of-front InBlock (b ∷ w) ys some = agrees-block 0 (b ∷ w) ys (omega arith)

-- a token that is open with more after it stands before `<%`
open_before_perl : (bs : List ℕ) (t u : Token) → Seam bs [] t u → t.len < length bs → (t.next_mode ≡ Plain) ⊎ ((t.next_mode ≡ InStr) × (begins_perl (drop t.len bs) ≡ true))
open_before_perl bs t u (Closed e closed) lt = inl closed
open_before_perl bs t u (BeforePerl e is inside perl) lt = inr (ap (λ (v : Token). v.next_mode) is, perl)
open_before_perl bs t u (OpenString is e) lt = let len = ap (λ (v : Token). v.len) is in absurd (omega (arith, len))
open_before_perl bs t u (OpenComment is e) lt = let len = ap (λ (v : Token). v.len) is in absurd (omega (arith, len))

-- the first of two lists of tokens, and the rest
first_is : (t u : Token) (ts us : List Token) → (t ∷ ts) ≡ (u ∷ us) → t ≡ u
first_is t u ts us e = cc

rest_is : (t u : Token) (ts us : List Token) → (t ∷ ts) ≡ (u ∷ us) → ts ≡ us
rest_is t u ts us e = cc

-- the tokens of a text, where a list of them begins with one
pub tokens_from-first : (m : Mode) (bs : List ℕ) (t : Token) (ts : List Token) → tokens_from m 0 bs ≡ t ∷ ts → (0 < length bs) × ((token_of m bs ≡ t) × (tokens_from t.next_mode 0 (drop t.len bs) ≡ ts))
unfolding tokens_from
tokens_from-first m [] t ts e = absurd (cc)
tokens_from-first m (b ∷ bs) t ts e =
    let T = token_of m (b ∷ bs) in
    let some : 0 < length (b ∷ bs) = omega arith in
    let step = sym (tokens_from-step m (b ∷ bs) some (token_of-part m (b ∷ bs) some).not_empty) ∙ e in
    let first = first_is T t (tokens_from T.next_mode 0 (drop T.len (b ∷ bs))) ts step in
    let rest = rest_is T t (tokens_from T.next_mode 0 (drop T.len (b ∷ bs))) ts step in
    (some, (first, ap (λ (u : Token). tokens_from u.next_mode 0 (drop u.len (b ∷ bs))) (sym first) ∙ rest))

-- a token that is open stands before a token of two bytes
next_long : (m : Mode) (bs : List ℕ) (t u : Token) (us : List Token) → 0 < length bs → token_of m bs ≡ t → tokens_from t.next_mode 0 (drop t.len bs) ≡ u ∷ us → (t.next_mode ≡ Plain) ⊎ ((2 ≤ u.len) × (t.len + u.len ≤ length bs))
unfolding token_of whole
next_long m bs t u us some is rest =
    let next = tokens_from-first t.next_mode (drop t.len bs) u us rest in
    let part = token_of-part t.next_mode (drop t.len bs) next.0 in
    let inside : u.len ≤ length (drop t.len bs) = subst (λ (v : Token). v.len ≤ length (drop t.len bs)) next.1.0 part.inside in
    let size = length-drop t.len bs in
    let seam : Seam bs [] t (token_of m (bs ++ [])) = subst (λ (v : Token). Seam bs [] v (token_of m (bs ++ []))) is (token_of-seam m bs [] some (inl refl)) in
    ⊎_elim (λ closed. inl closed) (λ p.
    let at_perl : (token_of InStr (drop t.len bs)).len ≡ 2 = ap (λ b. (cond b (whole Perl 2) (string_token 0 (drop t.len bs))).len) p.1 in
    let first : (token_of InStr (drop t.len bs)).len ≡ u.len = ap (λ (d : Mode). (token_of d (drop t.len bs)).len) (sym p.0) ∙ ap (λ (v : Token). v.len) next.1.0 in
    inr (omega arith, omega (arith, next.0, size))) (open_before_perl bs t (token_of m (bs ++ [])) seam (omega (arith, next.0, size)))

-- a token ends in the front that is cut after it and some more
ends_in : (m : Mode) (bs : List ℕ) (t : Token) (ts us : List Token) → 0 < length bs → token_of m bs ≡ t → tokens_from t.next_mode 0 (drop t.len bs) ≡ ts ++ us → EndsIn t (take (t.len + tokens_len ts) bs)
unfolding tokens_len
ends_in m bs t [] us some is rest = grind (arith, token_of-part, length-take)
ends_in m bs t (u ∷ ts) us some is rest = grind (arith, token_of-part, length-take, next_long)

-- a front of a text that is cut after some of its tokens has those tokens
pub tokens_from-front : (ts us : List Token) (m : Mode) (bs : List ℕ) → tokens_from m 0 bs ≡ ts ++ us → tokens_from m 0 (take (tokens_len ts) bs) ≡ ts
unfolding tokens_len tokens_from
tokens_from-front [] us m bs e = refl
tokens_from-front (t ∷ ts) us m bs e =
    let p = tokens_from-first m bs t (ts ++ us) e in
    let k = tokens_len ts in
    let xs = take (t.len + k) bs in
    let ys = drop (t.len + k) bs in
    let ends = ends_in m bs t ts us p.0 p.1.0 p.1.1 in
    let long : 0 < t.len = subst (λ (v : Token). 0 < v.len) p.1.0 (token_of-part m bs p.0).not_empty in
    let there : 0 < length xs = omega (arith, ends.inside) in
    let whole_text : token_of m (xs ++ ys) ≡ t = ap (token_of m) (take-append-drop (t.len + k) bs) ∙ p.1.0 in
    let first : token_of m xs ≡ t = token_of-front m xs ys there (subst (λ (v : Token). EndsIn v xs) (sym whole_text) ends) ∙ whole_text in
    tokens_from-step m xs there (token_of-part m xs there).not_empty
    ∙ ap (λ (u : Token). u ∷ tokens_from u.next_mode 0 (drop u.len xs)) first
    ∙ ap (λ z. t ∷ tokens_from t.next_mode 0 z) (drop-take t.len k bs)
    ∙ ap (λ us. t ∷ us) (tokens_from-front ts us t.next_mode (drop t.len bs) p.1.1)

-- the tokens after some are those of the text after their bytes
pub tokens_from-after_some : (ts us : List Token) (m : Mode) (bs : List ℕ) → tokens_from m 0 bs ≡ ts ++ us → tokens_from (mode_after m ts) 0 (drop (tokens_len ts) bs) ≡ us
unfolding tokens_len mode_after
tokens_from-after_some [] us m bs e = e
tokens_from-after_some (t ∷ ts) us m bs e =
    let p = tokens_from-first m bs t (ts ++ us) e in
    ap (tokens_from (mode_after t.next_mode ts) 0) (sym (drop-drop (tokens_len ts) t.len bs)) ∙ tokens_from-after_some ts us t.next_mode (drop t.len bs) p.1.1

-- A token that ends before the end of a text stays so with more after it.

-- a token that ends before the end of a text
record EndsBefore (t : Token) (xs : List ℕ) : Type 0 where
  lt : t.len < length xs

-- the token of a text with more after it is that of the text, where that one ends before the text's end
abbrev Stays : List ℕ → Token → Token → Type 0
Stays xs t u = EndsBefore t xs → u ≡ t

stays-cond : (xs : List ℕ) (b : Bool) (t t' u u' : Token) → (b ≡ true → Stays xs t u) → (b ≡ false → Stays xs t' u') → Stays xs (cond b t t') (cond b u u')
stays-cond xs true t t' u u' left right = left refl
stays-cond xs false t t' u u' left right = right refl

stays-whole : (xs : List ℕ) (k : Kind) (n m : ℕ) → (n < length xs → m ≡ n) → Stays xs (whole k n) (whole k m)
unfolding whole
stays-whole xs k n m h before = ap (whole k) (h before.lt)

-- a run that ends before a text's end
run-stays : (p : ℕ → Bool) (xs ys : List ℕ) → prefix_len p xs < length xs → prefix_len p (xs ++ ys) ≡ prefix_len p xs
run-stays p [] ys lt = absurd (omega arith)
run-stays p (x ∷ xs) ys lt =
    let n = prefix_len p xs in
    let P : Bool → Type 0 = λ t. cond t (1 + n) 0 < suc (length xs) → cond t (1 + prefix_len p (xs ++ ys)) 0 ≡ cond t (1 + n) 0 in
    let at_true : P true = λ h. ap (λ k. 1 + k) (run-stays p xs ys (omega arith)) in
    let at_false : P false = λ _. refl in
    elim (p x) as P [ true ↦ at_true | false ↦ at_false ] lt

-- a string that stops before a text's end
pub string_stop-stays : (s : Bool) (xs ys : List ℕ) → string_stop s xs < length xs → string_stop s (xs ++ ys) ≡ string_stop s xs
unfolding string_stop
string_stop-stays s [] ys lt = absurd (omega arith)
string_stop-stays true (b ∷ xs) ys lt = ap suc (string_stop-stays false xs ys (omega arith))
string_stop-stays false (b ∷ xs) ys lt =
    let n = string_stop (eqb b 92) xs in
    let m = string_stop (eqb b 92) (xs ++ ys) in
    let there = begins_perl (b ∷ xs ++ ys) in
    let same : 0 < length xs → there ≡ begins_perl (b ∷ xs) = perl-front b xs ys in
    let P : Bool → Type 0 = λ t. (eqb b 34 || begins_perl (b ∷ xs)) ≡ t → cond t 0 (suc n) < suc (length xs) → cond (eqb b 34 || there) 0 (suc m) ≡ cond t 0 (suc n) in
    let Q : Bool → Type 0 = λ q. (q || begins_perl (b ∷ xs)) ≡ true → cond (q || there) 0 (suc m) ≡ 0 in
    let perl : Q false = λ e. ap (λ t. cond t 0 (suc m)) (same (omega (arith, begins_perl-two (b ∷ xs) e)) ∙ e) in
    let at_true : P true = λ e _. elim (eqb b 34) as Q [ true ↦ λ _. refl | false ↦ perl ] e in
    let at_false : P false = λ e h. ap (λ t. cond (eqb b 34 || t) 0 (suc m)) (same (omega arith)) ∙ ap (λ t. cond t 0 (suc m)) e ∙ ap suc (string_stop-stays (eqb b 92) xs ys (omega arith)) in
    elim (eqb b 34 || begins_perl (b ∷ xs)) as P [ true ↦ at_true | false ↦ at_false ] refl lt

-- a comment that ends before a text's end
pub comment_stop-stays : (xs ys : List ℕ) → first_place ends_block_comment xs < length xs → first_place ends_block_comment (xs ++ ys) ≡ first_place ends_block_comment xs
unfolding first_place
comment_stop-stays [] ys lt = absurd (omega arith)
comment_stop-stays (b ∷ []) ys lt =
    let P : Bool → Type 0 = λ t. ends_block_comment (b ∷ []) ≡ t → cond t 0 1 < 1 → first_place ends_block_comment (b ∷ ys) ≡ cond t 0 1 in
    elim (ends_block_comment (b ∷ [])) as P [ true ↦ λ e _. absurd (omega (arith, ends_block_comment-two (b ∷ []) e)) | false ↦ λ _ h. absurd (omega arith) ] refl lt
comment_stop-stays (b ∷ c ∷ xs) ys lt =
    let n = first_place ends_block_comment (c ∷ xs) in
    let m = first_place ends_block_comment (c ∷ xs ++ ys) in
    let P : Bool → Type 0 = λ t. cond t 0 (suc n) < suc (suc (length xs)) → cond t 0 (suc m) ≡ cond t 0 (suc n) in
    let at_true : P true = λ _. refl in
    let at_false : P false = λ h. ap suc (comment_stop-stays (c ∷ xs) ys (omega arith)) in
    ap (λ t. cond t 0 (suc m)) (ends-front b c xs ys) ∙ elim (ends_block_comment (b ∷ c ∷ xs)) as P [ true ↦ at_true | false ↦ at_false ] lt

string_at-len : (stop b : ℕ) → stop ≤ (string_at stop b).len
unfolding string_at whole
string_at-len stop b = elim (eqb b 34) as (λ t. stop ≤ (cond t (whole Str (suc stop)) (record { kind = Str; len = stop; next_mode = InStr })).len) [ true ↦ omega arith | false ↦ omega arith ]

stays-string : (from : ℕ) (xs ys : List ℕ) → from ≤ length xs → Stays xs (string_token from xs) (string_token from (xs ++ ys))
stays-string from xs ys fits before = grind (arith, length-drop, string_at, string_token-at, string_at-len, string_stop-stays, drop-append-le, get_or_append_left)

stays-block : (from : ℕ) (xs ys : List ℕ) → from ≤ length xs → Stays xs (block_token from xs) (block_token from (xs ++ ys))
unfolding block_at
stays-block from xs ys fits before = grind (arith, length-drop, length-append, block_at, block_token-at, ltb-true, comment_stop-stays, drop-append-le, lt-ltb, ltb-false)

plain-stays : (b c : ℕ) (w ys : List ℕ) → Stays (b ∷ c ∷ w) (plain_token (b ∷ c ∷ w)) (plain_token (b ∷ c ∷ w ++ ys))
unfolding plain_token begins_perl begins_line_comment begins_block_comment
plain-stays b c w ys =
    let xs = b ∷ c ∷ w in
    let bs = xs ++ ys in
    let one : (k : Kind) → Stays xs (whole k 1) (whole k 1) = λ k. stays-whole xs k 1 1 (λ _. refl) in
    let run : (k : Kind) (p : ℕ → Bool) → Stays xs (whole k (prefix_len p xs)) (whole k (prefix_len p bs)) = λ k p. stays-whole xs k _ _ (run-stays p xs ys) in
    let after_one : (k : Kind) → Stays xs (whole k (suc (prefix_len is_word (c ∷ w)))) (whole k (suc (prefix_len is_word (c ∷ w ++ ys)))) = λ k. stays-whole xs k _ _ (λ lt. ap suc (run-stays is_word (c ∷ w) ys (omega arith))) in
    stays-cond xs (begins_perl xs) _ _ _ _ (λ _. stays-whole xs Perl 2 2 (λ _. refl)) (λ _.
    stays-cond xs (is_line_end b) _ _ _ _ (λ _. one LineEnd) (λ _.
    stays-cond xs (is_blank b) _ _ _ _ (λ _. run Blank is_blank) (λ _.
    stays-cond xs (begins_line_comment xs) _ _ _ _ (λ _. run LineComment (λ x. not (is_line_end x))) (λ _.
    stays-cond xs (begins_block_comment xs) _ _ _ _ (λ _. stays-block 2 xs ys (omega arith)) (λ _.
    stays-cond xs (eqb b 34) _ _ _ _ (λ _. stays-string 1 xs ys (omega arith)) (λ _.
    stays-cond xs (is_letter b) _ _ _ _ (λ _. run Name is_word) (λ _.
    stays-cond xs (is_digit b) _ _ _ _ (λ _. run Word is_word) (λ _.
    stays-cond xs (takes_word b && is_word c) _ _ _ _ (λ _. after_one Word) (λ _.
    stays-cond xs (eqb b 96 && is_letter c) _ _ _ _ (λ _. after_one Back) (λ _.
    stays-cond xs (eqb b 96) _ _ _ _ (λ _. one BareBackquote) (λ _.
    stays-cond xs (is_opener b) _ _ _ _ (λ _. one Opener) (λ _.
    stays-cond xs (is_closer b) _ _ _ _ (λ _. one Closer) (λ _.
    stays-cond xs (eqb b 44) _ _ _ _ (λ _. one Comma) (λ _. one Other))))))))))))))

-- the first token of a text, where it ends before the text's end, stays so with more after the text
pub token_of-stays : (m : Mode) (xs ys : List ℕ) → (token_of m xs).len < length xs → token_of m (xs ++ ys) ≡ token_of m xs
unfolding token_of begins_perl
token_of-stays m [] ys lt = absurd (omega arith)
token_of-stays m (b ∷ []) ys lt = absurd (omega (arith, (token_of-part m (b ∷ []) (omega arith)).not_empty))
token_of-stays Plain (b ∷ c ∷ w) ys lt = plain-stays b c w ys (record { lt = lt })
token_of-stays InStr (b ∷ c ∷ w) ys lt =
    let xs = b ∷ c ∷ w in
    stays-cond xs (begins_perl xs) _ _ _ _ (λ _. stays-whole xs Perl 2 2 (λ _. refl)) (λ _. stays-string 0 xs ys (omega arith)) (record { lt = lt })
token_of-stays InBlock (b ∷ c ∷ w) ys lt = stays-block 0 (b ∷ c ∷ w) ys (omega arith) (record { lt = lt })

-- A closed token that is no `//` comment stays so with a `,` after its text.

-- the token of a text with more after it is that of the text, where that one is clean
abbrev Holds : Token → Token → Type 0
Holds t u = IsCleanToken t → u ≡ t

holds-cond : (b c : Bool) (t t' u u' : Token) → c ≡ b → (b ≡ true → Holds t u) → (b ≡ false → Holds t' u') → Holds (cond b t t') (cond c u u')
holds-cond true c t t' u u' e left right = subst (λ d. Holds t (cond d u u')) (sym e) (left refl)
holds-cond false c t t' u u' e left right = subst (λ d. Holds t' (cond d u u')) (sym e) (right refl)

holds-whole : (k : Kind) (n m : ℕ) → m ≡ n → Holds (whole k n) (whole k m)
holds-whole k n m e clean = ap (whole k) e

-- a `//` comment isn't clean
holds-comment : (n m : ℕ) → Holds (whole LineComment n) (whole LineComment m)
unfolding whole is_line_comment
holds-comment n m clean = absurd (false≢true (sym clean.kept))

-- a string that is closed
holds-string : (from : ℕ) (xs ys : List ℕ) → from ≤ length xs → Holds (string_token from xs) (string_token from (xs ++ ys))
unfolding string_at whole
holds-string from xs ys fits clean = grind (arith, string_at, string_token-at, inside_of, eqb-true, string_stop-stays, length-drop, drop-append-le, get_or_append_left)

-- a block comment that is closed
holds-block : (from : ℕ) (xs ys : List ℕ) → from ≤ length xs → Holds (block_token from xs) (block_token from (xs ++ ys))
unfolding block_at whole
holds-block from xs ys fits clean = grind (arith, block_at, block_token-at, ltb-true, comment_stop-stays, length-drop, drop-append-le, lt-ltb, length-append)

-- a test of two bytes that a `,` passes as little as nothing does
pair-comma : (f g : ℕ → Bool) → g 44 ≡ g 0 → (b : ℕ) (w ys : List ℕ) → (f b && g (get_or (w ++ 44 ∷ ys) 0 0)) ≡ (f b && g (get_or w 0 0))
pair-comma f g e b [] ys = ap (λ t. f b && t) e
pair-comma f g e b (c ∷ w) ys = refl

-- a run that a `,` ends
run-comma : (p : ℕ → Bool) → p 44 ≡ false → (xs ys : List ℕ) → prefix_len p (xs ++ 44 ∷ ys) ≡ prefix_len p xs
run-comma p comma [] ys = ap (λ t. cond t (1 + prefix_len p ys) 0) comma
run-comma p comma (x ∷ xs) ys = ap (λ n. cond (p x) (1 + n) 0) (run-comma p comma xs ys)

word_comma : is_word 44 ≡ false
unfolding is_word is_letter is_digit
word_comma = refl

word_same : is_word 44 ≡ is_word 0
unfolding is_word is_letter is_digit
word_same = refl

letter_same : is_letter 44 ≡ is_letter 0
unfolding is_letter
letter_same = refl

blank_comma : is_blank 44 ≡ false
unfolding is_blank
blank_comma = refl

plain-comma : (b : ℕ) (w ys : List ℕ) → Holds (plain_token (b ∷ w)) (plain_token (b ∷ w ++ 44 ∷ ys))
unfolding plain_token begins_perl begins_line_comment begins_block_comment
plain-comma b w ys =
    let xs = b ∷ w in
    let pair : (x y : ℕ) → eqb 44 y ≡ eqb 0 y → (eqb b x && eqb (get_or (w ++ 44 ∷ ys) 0 0) y) ≡ (eqb b x && eqb (get_or w 0 0) y) = λ x y e. pair-comma (λ n. eqb n x) (λ n. eqb n y) e b w ys in
    let one : (k : Kind) → Holds (whole k 1) (whole k 1) = λ k. holds-whole k 1 1 refl in
    let word : prefix_len is_word (xs ++ 44 ∷ ys) ≡ prefix_len is_word xs = run-comma is_word word_comma xs ys in
    let following : suc (prefix_len is_word (w ++ 44 ∷ ys)) ≡ suc (prefix_len is_word w) = ap suc (run-comma is_word word_comma w ys) in
    let long : (eqb b 47 && eqb (get_or w 0 0) 42) ≡ true → 2 ≤ length xs = λ h. begins_block_comment-two xs h in
    holds-cond (begins_perl xs) _ _ _ _ _ (pair 60 37 refl) (λ _. holds-whole Perl 2 2 refl) (λ _.
    holds-cond (is_line_end b) _ _ _ _ _ refl (λ _. one LineEnd) (λ _.
    holds-cond (is_blank b) _ _ _ _ _ refl (λ _. holds-whole Blank _ _ (run-comma is_blank blank_comma xs ys)) (λ _.
    holds-cond (begins_line_comment xs) _ _ _ _ _ (pair 47 47 refl) (λ _. holds-comment _ _) (λ _.
    holds-cond (begins_block_comment xs) _ _ _ _ _ (pair 47 42 refl) (λ h. holds-block 2 xs (44 ∷ ys) (long h)) (λ _.
    holds-cond (eqb b 34) _ _ _ _ _ refl (λ _. holds-string 1 xs (44 ∷ ys) (omega arith)) (λ _.
    holds-cond (is_letter b) _ _ _ _ _ refl (λ _. holds-whole Name _ _ word) (λ _.
    holds-cond (is_digit b) _ _ _ _ _ refl (λ _. holds-whole Word _ _ word) (λ _.
    holds-cond (takes_word b && is_word (get_or w 0 0)) _ _ _ _ _ (pair-comma takes_word is_word word_same b w ys) (λ _. holds-whole Word _ _ following) (λ _.
    holds-cond (eqb b 96 && is_letter (get_or w 0 0)) _ _ _ _ _ (pair-comma (λ n. eqb n 96) is_letter letter_same b w ys) (λ _. holds-whole Back _ _ following) (λ _.
    holds-cond (eqb b 96) _ _ _ _ _ refl (λ _. one BareBackquote) (λ _.
    holds-cond (is_opener b) _ _ _ _ _ refl (λ _. one Opener) (λ _.
    holds-cond (is_closer b) _ _ _ _ _ refl (λ _. one Closer) (λ _.
    holds-cond (eqb b 44) _ _ _ _ _ refl (λ _. one Comma) (λ _. one Other))))))))))))))

-- the first token of a text, where it is clean, stays so with a `,` after the text
pub clean_before_comma : (xs ys : List ℕ) → 0 < length xs → IsCleanToken (token_of Plain xs) → token_of Plain (xs ++ 44 ∷ ys) ≡ token_of Plain xs
unfolding token_of
clean_before_comma [] ys some clean = absurd (omega arith)
clean_before_comma (b ∷ w) ys some clean = plain-comma b w ys clean
