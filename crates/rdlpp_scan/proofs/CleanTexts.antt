-- Texts without `//` comments, and without a lexical fault: their tokens, their fronts, and what is left of them.
use Rattle.std.proofs.Common.{◌≡◌, ◌⊎◌, ℕ, zero, suc, ◌+◌, ◌<◌, ◌≤◌, Bool, true, false, not, cond, List, ◌∷◌, ◌++◌, Option, Some, length, get_or, take, drop, refl, sym, ap, ◌∙◌, subst, inl, inr, ⊎_elim, arith, ◌-◌, None, filter, eqb-true, append_assoc, append-nil, length-append, length-drop, length-take-le, get_or-drop, take-take, take-add, []}
use Rattle.std.specs.List.{concat, prefix_len, AllByRecursion}
use Rattle.std.proofs.lemmas.Bool.{cond_both, false≢true, cases_Bool, cases_lt, or_cases, false_from_ne_true}
use Rattle.std.proofs.lemmas.List.{drop-take}
use Rattle.std.proofs.Math.Seq.{take-append_seam, drop-append_seam}
use Rattle.rdlpp_scan.specs.declared.token.Kind.TheVariants.{LineComment, Blank, LineEnd}
use Rattle.rdlpp_scan.specs.declared.token.Mode.{Mode}
use Rattle.rdlpp_scan.specs.declared.token.Mode.TheVariants.{Plain, InStr, InBlock}
use Rattle.rdlpp_scan.specs.declared.token.Token.{Token}
use Rattle.rdlpp_scan.specs.declared.token.LexFault.{LexFault}
use Rattle.rdlpp_scan.specs.declared.token.LexFault.TheVariants.{Perl as PerlFault}
use Rattle.rdlpp_scan.specs.Bytes.{is_blank, is_line_end, begins_perl}
use Rattle.rdlpp_scan.specs.Tokens.{whole, plain_token, token_of, tokens_from}
use Rattle.rdlpp_scan.specs.Pieces.{IsCut, tokens_len, mode_after}
use Rattle.rdlpp_scan.specs.LexFaults.{fault_of_tokens, is_perl, lex_fault_from, open_fault}
use Rattle.rdlpp_scan.specs.Comments.{is_line_comment, other_tokens, other_texts, token_texts, without_line_comments}
use Rattle.rdlpp_scan.proofs.StopKinds.{blank_token, block_token-kind, string_token-kind}
use Rattle.rdlpp_scan.proofs.TokenLens.{Ending, InBlanks, InLine, InOther, fault-end, fault-next, fault-perl, token-ends, token_of-part, tokens_from-step}
use Rattle.rdlpp_scan.proofs.Seams.{Seam, token_of-seam, line_end-ten, Closed, BeforePerl, OpenString, OpenComment, closed_seam}
use Rattle.rdlpp_scan.proofs.RangeLaws.{tokens_from-first, tokens_from-front, tokens_from-after_some, token_of-stays}
use Rattle.rdlpp_scan.specs.TokenKinds.{opens_mode}
use Rattle.rdlpp_scan.specs.CleanTexts.{IsCleanText, IsCleanToken, AreSpaces}

-- A text without its `//` comments has the other tokens.

-- a `//` comment: up to before the first LF
abbrev comment : List ℕ → Token
comment bs = whole LineComment (prefix_len (λ x. not (is_line_end x)) bs)

-- a token of that kind
record IsOne (t : Token) : Type 0 where
  kind : is_line_comment t.kind ≡ true

-- a token that is none
no_comment : (t u : Token) → is_line_comment t.kind ≡ false → IsOne t → t ≡ u
no_comment t u other one = absurd (false≢true (sym other ∙ one.kind))

plain-comment : (bs : List ℕ) → IsOne (plain_token bs) → plain_token bs ≡ comment bs
unfolding plain_token whole is_line_comment
plain-comment bs = grind (arith, cond_both, no_comment, block_token-kind, string_token-kind)

-- a `//` comment stands in plain text, and ends before an LF or with the text
record IsComment (m : Mode) (bs : List ℕ) (t : Token) : Type 0 where
  mode : m ≡ Plain
  token : t ≡ comment bs

comment_at : (m : Mode) (bs : List ℕ) → is_line_comment (token_of m bs).kind ≡ true → IsComment m bs (token_of m bs)
unfolding token_of whole is_line_comment
comment_at Plain bs is = record { mode = refl; token = plain-comment bs (record { kind = is }) }
comment_at InStr bs is = grind (arith, false≢true, cond_both, string_token-kind)
comment_at InBlock bs is = absurd (false≢true (sym (ap is_line_comment (block_token-kind 0 bs)) ∙ is))

-- nothing, or what begins with LF
NextIsLine : List ℕ → Type 0
NextIsLine bs = (bs ≡ []) ⊎ (get_or bs 0 0 ≡ 10)

comment-next : (bs : List ℕ) → NextIsLine (drop (prefix_len (λ x. not (is_line_end x)) bs) bs)
unfolding NextIsLine
comment-next [] = inl refl
comment-next (b ∷ bs) =
    let n = prefix_len (λ x. not (is_line_end x)) bs in
    let P : Bool → Type 0 = λ t. is_line_end b ≡ t → NextIsLine (drop (cond (not t) (1 + n) 0) (b ∷ bs)) in
    let at_true : P true = λ e. inr (line_end-ten b e) in
    let at_false : P false = λ _. let one : suc n ≡ 1 + n = omega arith in subst (λ i. NextIsLine (drop i (b ∷ bs))) one (comment-next bs) in
    elim (is_line_end b) as P [ true ↦ at_true | false ↦ at_false ] refl

-- the text that is left of a text from a mode on
abbrev left : Mode → List ℕ → List ℕ
left m bs = concat (other_texts (tokens_from m 0 bs) bs)

-- what is left of a text, by its first token
left-comment : (m : Mode) (bs : List ℕ) → 0 < length bs → is_line_comment (token_of m bs).kind ≡ true → left m bs ≡ left (token_of m bs).next_mode (drop (token_of m bs).len bs)
unfolding other_texts
left-comment m bs some is = grind (arith, tokens_from-step, token_of-part)

left-other : (m : Mode) (bs : List ℕ) → 0 < length bs → is_line_comment (token_of m bs).kind ≡ false
    → left m bs ≡ take (token_of m bs).len bs ++ left (token_of m bs).next_mode (drop (token_of m bs).len bs)
unfolding other_texts
left-other m bs some other = grind (arith, tokens_from-step, token_of-part)

line_end-token : (b : ℕ) (bs : List ℕ) → b ≡ 10 → is_line_comment (token_of Plain (b ∷ bs)).kind ≡ false
unfolding token_of plain_token begins_perl is_line_end is_line_comment whole
line_end-token b bs ten = subst (λ (n : ℕ). is_line_comment (token_of Plain (n ∷ bs)).kind ≡ false) (sym ten) refl

-- what is left of a text that is empty or begins with LF is so too
left-line : (bs : List ℕ) → NextIsLine bs → NextIsLine (left Plain bs)
unfolding NextIsLine tokens_from other_texts
left-line [] next = inl refl
left-line (b ∷ bs) next =
    let t = token_of Plain (b ∷ bs) in
    let ten : b ≡ 10 = ⊎_elim (λ none. absurd (cc)) (λ here. here) next in
    let part = token_of-part Plain (b ∷ bs) (omega arith) in
    let whole = left-other Plain (b ∷ bs) (omega arith) (line_end-token b bs ten) in
    let later = left t.next_mode (drop t.len (b ∷ bs)) in
    let front : (n : ℕ) → 0 < n → get_or (take n (b ∷ bs) ++ later) 0 0 ≡ b = λ n. elim n as (λ (k : ℕ). 0 < k → get_or (take k (b ∷ bs) ++ later) 0 0 ≡ b) [ zero ↦ λ h. absurd (omega arith) | suc k ↦ λ _. refl ] in
    inr (ap (λ xs. get_or xs 0 0) whole ∙ front t.len part.not_empty ∙ ten)

-- what is left after a `//` comment is empty or begins with LF
left-after_comment : (m : Mode) (bs : List ℕ) → 0 < length bs → is_line_comment (token_of m bs).kind ≡ true → NextIsLine (left m bs)
unfolding whole
left-after_comment m bs some is = grind (arith, comment_at, left-comment, left-line, comment-next)

-- a first token is that of its own bytes
own_token : (m : Mode) (bs : List ℕ) → 0 < length bs → token_of m (take (token_of m bs).len bs) ≡ token_of m bs
unfolding tokens_len
own_token m bs some =
    let t = token_of m bs in
    let ts = tokens_from t.next_mode 0 (drop t.len bs) in
    let one : t.len + 0 ≡ t.len = omega arith in
    let front = tokens_from-front (t ∷ []) ts m bs (tokens_from-step m bs some (token_of-part m bs some).not_empty) in
    ap (λ i. token_of m (take i bs)) (sym one) ∙ (tokens_from-first m (take (t.len + 0) bs) t [] front).1.0

-- a first token is that of its own bytes and of those of the next
next_token : (m : Mode) (bs : List ℕ) → 0 < length bs → 0 < length (drop (token_of m bs).len bs)
    → token_of m (take (token_of m bs).len bs ++ take (token_of (token_of m bs).next_mode (drop (token_of m bs).len bs)).len (drop (token_of m bs).len bs)) ≡ token_of m bs
unfolding tokens_len
next_token m bs some more =
    let t = token_of m bs in
    let rest = drop t.len bs in
    let u = token_of t.next_mode rest in
    let us = tokens_from u.next_mode 0 (drop u.len rest) in
    let two : tokens_from m 0 bs ≡ t ∷ u ∷ us =
    tokens_from-step m bs some (token_of-part m bs some).not_empty ∙ ap (λ ts. t ∷ ts) (tokens_from-step t.next_mode rest more (token_of-part t.next_mode rest more).not_empty) in
    let len : t.len + (u.len + 0) ≡ t.len + u.len = omega arith in
    let front = tokens_from-front (t ∷ u ∷ []) us m bs two in
    ap (token_of m) (sym (take-add t.len u.len bs)) ∙ ap (λ i. token_of m (take i bs)) (sym len) ∙ (tokens_from-first m (take (t.len + (u.len + 0)) bs) t (u ∷ []) front).1.0

-- the first token of a text stays so where what is after it loses its `//` comments
kept_at : (m : Mode) (bs : List ℕ) → 0 < length bs → (rest : List ℕ) → drop (token_of m bs).len bs ≡ rest → token_of m (take (token_of m bs).len bs ++ left (token_of m bs).next_mode rest) ≡ token_of m bs
unfolding tokens_from other_texts NextIsLine
kept_at m bs some [] e = ap (token_of m) (append-nil (take (token_of m bs).len bs)) ∙ own_token m bs some
kept_at m bs some (r ∷ rs) e =
    let rest = r ∷ rs in
    let t = token_of m bs in
    let d = t.next_mode in
    let u = token_of d rest in
    let own = take t.len bs in
    let part = token_of-part m bs some in
    let size : length own ≡ t.len = length-take-le t.len bs part.inside in
    let P : Bool → Type 0 = λ c. is_line_comment u.kind ≡ c → token_of m (own ++ left d rest) ≡ t in
    let at_comment : P true = λ is.
    let cut : IsCut own (left d rest) = ⊎_elim (λ none. inl none) (λ ten. inr (inl ten)) (left-after_comment d rest (omega arith) is) in
    let seam = token_of-seam m own (left d rest) (omega (arith, size, part.not_empty)) cut in
    closed_seam own (left d rest) t (token_of m (own ++ left d rest)) (comment_at d rest is).mode (subst (λ (v : Token). Seam own (left d rest) v (token_of m (own ++ left d rest))) (own_token m bs some) seam) in
    let at_other : P false = λ other.
    let following = token_of-part d rest (omega arith) in
    let front = take u.len rest in
    let later = left u.next_mode (drop u.len rest) in
    let next_size : length front ≡ u.len = length-take-le u.len rest following.inside in
    let more : 0 < length (drop t.len bs) = omega (arith, ap length e) in
    let first : token_of m (own ++ front) ≡ t = subst (λ (z : List ℕ). token_of m (own ++ take (token_of d z).len z) ≡ t) e (next_token m bs some more) in
    let before : (token_of m (own ++ front)).len < length (own ++ front) = omega (arith, ap (λ (v : Token). v.len) first, length-append own front, size, next_size, following.not_empty) in
    ap (token_of m) (ap (λ z. own ++ z) (left-other d rest (omega arith) other) ∙ sym (append_assoc own front later)) ∙ token_of-stays m (own ++ front) later before ∙ first in
    elim (is_line_comment u.kind) as P [ true ↦ at_comment | false ↦ at_other ] refl

-- a `//` comment leaves the mode as it was
pub comment-mode : (m : Mode) (bs : List ℕ) → is_line_comment (token_of m bs).kind ≡ true → m ≡ (token_of m bs).next_mode
unfolding whole
comment-mode m bs is = let at = comment_at m bs is in at.mode ∙ sym (ap (λ (t : Token). t.next_mode) at.token)

-- what the first token leaves in front of what is left
own_size : (m : Mode) (bs rest : List ℕ) → 0 < length bs → drop (token_of m bs).len (take (token_of m bs).len bs ++ rest) ≡ rest
own_size m bs rest some =
    let own = take (token_of m bs).len bs in
    let size : length own ≡ (token_of m bs).len = length-take-le (token_of m bs).len bs (token_of-part m bs some).inside in
    ap (λ i. drop i (own ++ rest)) (sym size) ∙ drop-append_seam own rest

own_text : (m : Mode) (bs rest : List ℕ) → 0 < length bs → take (token_of m bs).len (take (token_of m bs).len bs ++ rest) ≡ take (token_of m bs).len bs
own_text m bs rest some =
    let own = take (token_of m bs).len bs in
    let size : length own ≡ (token_of m bs).len = length-take-le (token_of m bs).len bs (token_of-part m bs some).inside in
    ap (λ i. take i (own ++ rest)) (sym size) ∙ take-append_seam own rest

is_other : Token → Bool
is_other t = not (is_line_comment t.kind)

left_tokens : (k : ℕ) (m : Mode) (bs : List ℕ) → length bs ≤ k → tokens_from m 0 (left m bs) ≡ filter is_other (tokens_from m 0 bs)
unfolding tokens_from other_texts is_other
left_tokens k m [] fuel = refl
left_tokens zero m (b ∷ bs) fuel = absurd (omega arith)
left_tokens (suc k) m (b ∷ bs) fuel =
    let T = b ∷ bs in
    let t = token_of m T in
    let d = t.next_mode in
    let some : 0 < length T = omega arith in
    let part = token_of-part m T some in
    let rest = drop t.len T in
    let kept = filter is_other (tokens_from d 0 rest) in
    let later : tokens_from d 0 (left d rest) ≡ kept = left_tokens k d rest (omega (arith, length-drop t.len T, part.not_empty)) in
    let P : Bool → Type 0 = λ c. is_line_comment t.kind ≡ c → tokens_from m 0 (left m T) ≡ cond (not c) (t ∷ kept) kept in
    let at_comment : P true = λ is. ap (tokens_from m 0) (left-comment m T some is) ∙ ap (λ (v : Mode). tokens_from v 0 (left d rest)) (comment-mode m T is) ∙ later in
    let at_other : P false = λ other.
    let whole_text = take t.len T ++ left d rest in
    let longer : 0 < length whole_text = omega (arith, length-append (take t.len T) (left d rest), length-take-le t.len T part.inside, part.not_empty) in
    ap (tokens_from m 0) (left-other m T some other)
    ∙ tokens_from-step m whole_text longer (token_of-part m whole_text longer).not_empty
    ∙ ap (λ (v : Token). v ∷ tokens_from v.next_mode 0 (drop v.len whole_text)) (kept_at m T some rest refl)
    ∙ ap (λ z. t ∷ tokens_from d 0 z) (own_size m T (left d rest) some) ∙ ap (λ us. t ∷ us) later in
    elim (is_line_comment t.kind) as P [ true ↦ at_comment | false ↦ at_other ] refl ∙ ap (filter is_other) (sym (tokens_from-step m T some part.not_empty))

left_texts : (k : ℕ) (m : Mode) (bs : List ℕ) → length bs ≤ k → token_texts (filter is_other (tokens_from m 0 bs)) (left m bs) ≡ other_texts (tokens_from m 0 bs) bs
unfolding tokens_from other_texts token_texts is_other
left_texts k m [] fuel = refl
left_texts zero m (b ∷ bs) fuel = absurd (omega arith)
left_texts (suc k) m (b ∷ bs) fuel =
    let T = b ∷ bs in
    let t = token_of m T in
    let d = t.next_mode in
    let some : 0 < length T = omega arith in
    let part = token_of-part m T some in
    let rest = drop t.len T in
    let own = take t.len T in
    let ts = tokens_from d 0 rest in
    let kept = filter is_other ts in
    let texts = other_texts ts rest in
    let step : tokens_from m 0 T ≡ t ∷ ts = tokens_from-step m T some part.not_empty in
    let later : token_texts kept (left d rest) ≡ texts = left_texts k d rest (omega (arith, length-drop t.len T, part.not_empty)) in
    let P : Bool → Type 0 = λ c. is_line_comment t.kind ≡ c → token_texts (cond (not c) (t ∷ kept) kept) (left m T) ≡ cond c texts (own ∷ texts) in
    let at_comment : P true = λ is. ap (token_texts kept) (left-comment m T some is) ∙ later in
    let at_other : P false = λ other.
    ap (token_texts (t ∷ kept)) (left-other m T some other)
    ∙ ap (λ z. z ∷ token_texts kept (drop t.len (own ++ left d rest))) (own_text m T (left d rest) some)
    ∙ ap (λ z. own ∷ token_texts kept z) (own_size m T (left d rest) some) ∙ ap (λ us. own ∷ us) later in
    ap (λ us. token_texts (filter is_other us) (left m T)) step ∙ elim (is_line_comment t.kind) as P [ true ↦ at_comment | false ↦ at_other ] refl ∙ ap (λ us. other_texts us T) (sym step)

comment-perl : (m : Mode) (bs : List ℕ) → is_line_comment (token_of m bs).kind ≡ true → is_perl (token_of m bs).kind ≡ false
unfolding whole is_perl
comment-perl m bs is = ap (λ (t : Token). is_perl t.kind) (comment_at m bs is).token

left_fault : (k : ℕ) (m : Mode) (bs : List ℕ) → length bs ≤ k → fault_of_tokens m (filter is_other (tokens_from m 0 bs)) ≡ fault_of_tokens m (tokens_from m 0 bs)
unfolding tokens_from fault_of_tokens is_other
left_fault k m [] fuel = refl
left_fault zero m (b ∷ bs) fuel = absurd (omega arith)
left_fault (suc k) m (b ∷ bs) fuel =
    let T = b ∷ bs in
    let t = token_of m T in
    let d = t.next_mode in
    let some : 0 < length T = omega arith in
    let part = token_of-part m T some in
    let rest = drop t.len T in
    let ts = tokens_from d 0 rest in
    let kept = filter is_other ts in
    let step : tokens_from m 0 T ≡ t ∷ ts = tokens_from-step m T some part.not_empty in
    let later : fault_of_tokens d kept ≡ fault_of_tokens d ts = left_fault k d rest (omega (arith, length-drop t.len T, part.not_empty)) in
    let first : Option LexFault → Option LexFault = λ o. cond (is_perl t.kind) (Some PerlFault) o in
    let P : Bool → Type 0 = λ c. is_line_comment t.kind ≡ c → fault_of_tokens m (cond (not c) (t ∷ kept) kept) ≡ first (fault_of_tokens d ts) in
    let at_comment : P true = λ is.
    ap (λ (v : Mode). fault_of_tokens v kept) (comment-mode m T is) ∙ later ∙ sym (ap (λ c. cond c (Some PerlFault) (fault_of_tokens d ts)) (comment-perl m T is)) in
    let at_other : P false = λ _. ap first later in
    ap (λ us. fault_of_tokens m (filter is_other us)) step ∙ elim (is_line_comment t.kind) as P [ true ↦ at_comment | false ↦ at_other ] refl ∙ ap (fault_of_tokens m) (sym step)

-- the tokens of a text without its `//` comments are its other tokens
pub without-tokens : (m : Mode) (bs : List ℕ) → tokens_from m 0 (without_line_comments m bs) ≡ other_tokens (tokens_from m 0 bs)
unfolding without_line_comments other_tokens is_other
without-tokens m bs = left_tokens (length bs) m bs (omega arith)

-- with the same bytes
pub without-texts : (m : Mode) (bs : List ℕ) → token_texts (tokens_from m 0 (without_line_comments m bs)) (without_line_comments m bs) ≡ other_texts (tokens_from m 0 bs) bs
unfolding without_line_comments is_other
without-texts m bs = ap (λ ts. token_texts ts (left m bs)) (left_tokens (length bs) m bs (omega arith)) ∙ left_texts (length bs) m bs (omega arith)

-- and with the same fault
pub without-fault : (m : Mode) (bs : List ℕ) → lex_fault_from m (without_line_comments m bs) ≡ lex_fault_from m bs
unfolding without_line_comments lex_fault_from is_other
without-fault m bs = ap (fault_of_tokens m) (left_tokens (length bs) m bs (omega arith)) ∙ left_fault (length bs) m bs (omega arith)

-- Texts without a lexical fault and without `//` comments: their tokens, their fronts, and what is left of them without spaces at

-- the fault of what stands after a token
abbrev fault_after : Token → List ℕ → Option LexFault
fault_after t bs = fault_of_tokens t.next_mode (tokens_from t.next_mode 0 (drop t.len bs))

-- an open string or comment is a fault
open_is_fault : (m : Mode) (bs : List ℕ) (at : ℕ) → at ≡ length bs → fault_of_tokens m (tokens_from m 0 (drop at bs)) ≡ None → m ≡ Plain
unfolding open_fault
open_is_fault Plain bs at e ok = refl
open_is_fault InStr bs at e ok = let bad = fault-end InStr bs at (omega arith) in absurd (cc)
open_is_fault InBlock bs at e ok = let bad = fault-end InBlock bs at (omega arith) in absurd (cc)

-- a token with no fault after it leaves plain text after it
closed_by_seam : (bs : List ℕ) (t u : Token) → Seam bs [] t u → fault_after t bs ≡ None → t.next_mode ≡ Plain
unfolding token_of is_perl whole
closed_by_seam bs t u (Closed e h) ok = h
closed_by_seam bs t u (BeforePerl e is lt perl) ok = grind (arith, fault-perl, length-drop)
closed_by_seam bs t u (OpenString is e) ok = open_is_fault t.next_mode bs t.len (ap (λ (v : Token). v.len) is) ok
closed_by_seam bs t u (OpenComment is e) ok = open_is_fault t.next_mode bs t.len (ap (λ (v : Token). v.len) is) ok

-- tokens that aren't `//` comments
abbrev AreKept : List Token → Type 0
AreKept ts = AllByRecursion (λ t. is_line_comment t.kind ≡ false) ts

-- clean tokens
abbrev AreClean : List Token → Type 0
AreClean ts = AllByRecursion IsCleanToken ts

clean_from : (k : ℕ) (bs : List ℕ) → length bs ≤ k → fault_of_tokens Plain (tokens_from Plain 0 bs) ≡ None → AreKept (tokens_from Plain 0 bs) → AreClean (tokens_from Plain 0 bs)
unfolding tokens_from
clean_from k [] fuel ok kept = tt
clean_from zero (b ∷ bs) fuel ok kept = absurd (omega arith)
clean_from (suc k) (b ∷ bs) fuel ok kept =
    let T = b ∷ bs in
    let t = token_of Plain T in
    let some : 0 < length T = omega arith in
    let part = token_of-part Plain T some in
    let rest = drop t.len T in
    let step : tokens_from Plain 0 T ≡ t ∷ tokens_from t.next_mode 0 rest = tokens_from-step Plain T some part.not_empty in
    let perl : is_perl t.kind ≡ false = false_from_ne_true (is_perl t.kind) (λ h. let bad = fault-perl Plain T some h in absurd (cc)) in
    let later : fault_after t T ≡ None = sym (fault-next Plain T some perl) ∙ ok in
    let next : t.next_mode ≡ Plain = closed_by_seam T t (token_of Plain (T ++ [])) (token_of-seam Plain T [] some (inl refl)) later in
    let K : List Token → Type 0 = λ ts. AreKept ts in
    let C : List Token → Type 0 = λ ts. AreClean ts in
    let kept_all : K (t ∷ tokens_from t.next_mode 0 rest) = subst K step kept in
    let kept_rest : K (tokens_from Plain 0 rest) = subst (λ (m : Mode). K (tokens_from m 0 rest)) next kept_all.1 in
    let fault_rest : fault_of_tokens Plain (tokens_from Plain 0 rest) ≡ None = subst (λ (m : Mode). fault_of_tokens m (tokens_from m 0 rest) ≡ None) next later in
    let clean_rest : C (tokens_from Plain 0 rest) = clean_from k rest (omega (arith, length-drop t.len T, part.not_empty)) fault_rest kept_rest in
    let there : C (tokens_from t.next_mode 0 rest) = subst (λ (m : Mode). C (tokens_from m 0 rest)) (sym next) clean_rest in
    subst C (sym step) (record { next = next; sound = perl; kept = kept_all.0 }, there)

-- each token of a clean text is clean
pub clean_tokens : (text : List ℕ) → IsCleanText text → AllByRecursion IsCleanToken (tokens_from Plain 0 text)
unfolding lex_fault_from
clean_tokens text clean = clean_from (length text) text (omega arith) clean.faultless clean.uncommented

clean-fault : (ts : List Token) → AreClean ts → fault_of_tokens Plain ts ≡ None
unfolding fault_of_tokens open_fault
clean-fault [] all = refl
clean-fault (t ∷ ts) all =
    ap (λ b. cond b (Some PerlFault) (fault_of_tokens t.next_mode ts)) all.0.sound ∙ ap (λ (m : Mode). fault_of_tokens m ts) all.0.next ∙ clean-fault ts all.1

clean-kept : (ts : List Token) → AreClean ts → AreKept ts
clean-kept [] all = tt
clean-kept (t ∷ ts) all = (all.0.kept, clean-kept ts all.1)

-- a text of clean tokens is clean
pub clean_of_tokens : (text : List ℕ) → AllByRecursion IsCleanToken (tokens_from Plain 0 text) → IsCleanText text
unfolding lex_fault_from
clean_of_tokens text all = record { faultless = clean-fault (tokens_from Plain 0 text) all; uncommented = clean-kept (tokens_from Plain 0 text) all }

-- nothing is clean
pub clean_nothing : IsCleanText []
unfolding tokens_from
clean_nothing = clean_of_tokens [] tt

-- a text that is cut after clean tokens is clean
pub clean_front : (ts us : List Token) (text : List ℕ) → tokens_from Plain 0 text ≡ ts ++ us → AllByRecursion IsCleanToken ts → IsCleanText (take (tokens_len ts) text)
clean_front ts us text e all = grind (arith, clean_of_tokens, tokens_from-front)

clean_part : (ts us : List Token) → AreClean (ts ++ us) → AreClean ts
clean_part [] us all = tt
clean_part (t ∷ ts) us all = (all.0, clean_part ts us all.1)

others_kept : (ts : List Token) → AreKept (filter (λ t. not (is_line_comment t.kind)) ts)
others_kept [] = tt
others_kept (t ∷ ts) = grind (arith, (others_kept ts))

-- a text without a lexical fault is clean without its `//` comments
pub clean_without : (text : List ℕ) → lex_fault_from Plain text ≡ None → IsCleanText (without_line_comments Plain text)
unfolding other_tokens
clean_without text ok = grind (arith, without-fault, without-tokens, others_kept)

pub blank-step : (b : ℕ) (bs : List ℕ) → is_blank b ≡ true → tokens_from Plain 0 (b ∷ bs) ≡ whole Blank (prefix_len is_blank (b ∷ bs)) ∷ tokens_from Plain 0 (drop (prefix_len is_blank (b ∷ bs)) (b ∷ bs))
unfolding whole
blank-step b bs h = grind (arith, tokens_from-step, token_of-part, blank_token)

-- an LF is one token
pub line-step : (b : ℕ) (bs : List ℕ) → is_line_end b ≡ true → tokens_from Plain 0 (b ∷ bs) ≡ whole LineEnd 1 ∷ tokens_from Plain 0 bs
unfolding token_of plain_token begins_perl is_line_end whole
line-step b bs h = grind (arith, eqb-true, tokens_from-step, token_of-part)

clean_blank : (n : ℕ) → IsCleanToken (whole Blank n)
unfolding whole is_perl is_line_comment
clean_blank n = record { next = refl; sound = refl; kept = refl }

-- blanks in front of clean tokens are clean
clean_before : (bs : List ℕ) → AreClean (tokens_from Plain 0 (drop (prefix_len is_blank bs) bs)) → AreClean (tokens_from Plain 0 bs)
clean_before [] all = all
clean_before (b ∷ bs) all = grind (arith, blank-step, clean_blank, cases_Bool)

-- a clean text without a first byte that is a space
clean_after : (class : ℕ → Bool) → AreSpaces class → (b : ℕ) (bs : List ℕ) → class b ≡ true → IsCleanText (b ∷ bs) → IsCleanText bs
clean_after class spaces b bs is clean =
    let C : List Token → Type 0 = λ ts. AreClean ts in
    let all = clean_tokens (b ∷ bs) clean in
    let n = prefix_len is_blank bs in
    let one : 1 + n ≡ suc n = omega arith in
    clean_of_tokens bs (⊎_elim
    (λ h.
    let rest : C (tokens_from Plain 0 (drop (prefix_len is_blank (b ∷ bs)) (b ∷ bs))) = (subst C (blank-step b bs h) all).1 in
    let same : prefix_len is_blank (b ∷ bs) ≡ suc n = ap (λ t. cond t (1 + n) 0) h ∙ one in
    clean_before bs (subst (λ (i : ℕ). C (tokens_from Plain 0 (drop i (b ∷ bs)))) same rest))
    (λ h. (subst C (line-step b bs h) all).1) (or_cases (is_blank b) (is_line_end b) (spaces.alone b is)))

-- a clean text without the spaces with which it begins
pub clean_after_spaces : (class : ℕ → Bool) → AreSpaces class → (text : List ℕ) → IsCleanText text → IsCleanText (drop (prefix_len class text) text)
clean_after_spaces class spaces [] clean = clean
clean_after_spaces class spaces (b ∷ bs) clean =
    let n = prefix_len class bs in
    let one : suc n ≡ 1 + n = omega arith in
    let P : Bool → Type 0 = λ t. class b ≡ t → IsCleanText (drop (cond t (1 + n) 0) (b ∷ bs)) in
    let at_true : P true = λ h. subst (λ (i : ℕ). IsCleanText (drop i (b ∷ bs))) one (clean_after_spaces class spaces bs (clean_after class spaces b bs h clean)) in
    elim (class b) as P [ true ↦ at_true | false ↦ λ _. clean ] refl

-- a place of a text before which nothing stands, or a byte that is no space
data EndsAt (class : ℕ → Bool) (bs : List ℕ) (n : ℕ) : Type 0 where
  AtFront : n ≡ 0 → EndsAt class bs n
  AtOther : (k : ℕ) → n ≡ suc k → class (get_or bs k 0) ≡ false → EndsAt class bs n

-- the tokens of a text, cut where spaces alone follow
record Cut (class : ℕ → Bool) (bs : List ℕ) : Type 0 where
  front : List Token
  back : List Token
  is : tokens_from Plain 0 bs ≡ front ++ back
  inside : tokens_len front ≤ length bs
  spaces : (k : ℕ) → tokens_len front ≤ k → k < length bs → class (get_or bs k 0) ≡ true
  ends : EndsAt class bs (tokens_len front)

-- what a text has after some bytes
following-get : (class : ℕ → Bool) (n k : ℕ) (bs : List ℕ) → n ≤ k → class (get_or (drop n bs) (k - n) 0) ≡ true → class (get_or bs k 0) ≡ true
following-get class n k bs le h = sym (ap class (get_or-drop n bs (k - n) 0 ∙ ap (λ i. get_or bs i 0) (omega arith))) ∙ h

-- a first token before spaces alone
module _ (class : ℕ → Bool) (are : AreSpaces class) (bs : List ℕ) (t : Token) (later : List Token) (step : tokens_from Plain 0 bs ≡ t ∷ later) (fits : t.len ≤ length bs) (following : (k : ℕ) → k < length (drop t.len bs) → class (get_or (drop t.len bs) k 0) ≡ true) where
  all_after : (k : ℕ) → t.len ≤ k → k < length bs → class (get_or bs k 0) ≡ true
  all_after k le lt = following-get class t.len k bs le (following (k - t.len) (omega (arith, length-drop t.len bs)))

  cut_before : ((k : ℕ) → k < t.len → class (get_or bs k 0) ≡ true) → Cut class bs
  unfolding tokens_len
  cut_before own = grind (arith, all_after, cases_lt)

  cut_after : (k : ℕ) → t.len ≡ suc k → class (get_or bs k 0) ≡ false → Cut class bs
  unfolding tokens_len
  cut_after k len other = record {
    front = t ∷ [];
    back = later;
    is = step;
    inside = omega arith;
    spaces = λ j le lt. all_after j (omega arith) lt;
    ends = AtOther k (omega arith) other;
  }

  cut_by : Ending bs t → Cut class bs
  cut_by (InBlanks all) = cut_before (λ k lt. are.blanks (get_or bs k 0) (all k lt))
  cut_by (InLine len line) = grind (arith, cut_before, cut_after, cases_Bool)
  cut_by (InOther k len other) = cut_after k len (false_from_ne_true (class (get_or bs k 0)) (λ h. absurd (false≢true (sym other ∙ are.alone (get_or bs k 0) h))))

-- a first token before others
cut_right_after : (class : ℕ → Bool) (bs : List ℕ) (t : Token) → tokens_from Plain 0 bs ≡ t ∷ tokens_from Plain 0 (drop t.len bs) → t.len ≤ length bs → (c : Cut class (drop t.len bs)) → (k : ℕ) → tokens_len c.front ≡ suc k → class (get_or (drop t.len bs) k 0) ≡ false → Cut class bs
unfolding tokens_len
cut_right_after class bs t step fits c k len other =
    let size = length-drop t.len bs in
    record {
      front = t ∷ c.front;
      back = c.back;
      is = step ∙ ap (λ us. t ∷ us) c.is;
      inside = omega (arith, c.inside);
      spaces = λ j le lt. following-get class t.len j bs (omega arith) (c.spaces (j - t.len) (omega arith) (omega arith));
      ends = AtOther (t.len + k) (omega arith) (sym (ap class (get_or-drop t.len bs k 0 ∙ ap (λ i. get_or bs i 0) (omega arith))) ∙ other);
    }

cut_clean : (class : ℕ → Bool) → AreSpaces class → (fuel : ℕ) (bs : List ℕ) → length bs ≤ fuel → AreClean (tokens_from Plain 0 bs) → Cut class bs
unfolding tokens_from tokens_len
cut_clean class are fuel [] le all = record { front = []; back = []; is = refl; inside = omega arith; spaces = λ k _ lt. absurd (omega arith); ends = AtFront refl }
cut_clean class are zero (b ∷ bs) le all = absurd (omega arith)
cut_clean class are (suc fuel) (b ∷ bs) le all =
    let T = b ∷ bs in
    let t = token_of Plain T in
    let some : 0 < length T = omega arith in
    let part = token_of-part Plain T some in
    let rest = drop t.len T in
    let C : List Token → Type 0 = λ ts. AreClean ts in
    let step : tokens_from Plain 0 T ≡ t ∷ tokens_from t.next_mode 0 rest = tokens_from-step Plain T some part.not_empty in
    let each : C (t ∷ tokens_from t.next_mode 0 rest) = subst C step all in
    let step_plain : tokens_from Plain 0 T ≡ t ∷ tokens_from Plain 0 rest = step ∙ ap (λ (m : Mode). t ∷ tokens_from m 0 rest) each.0.next in
    let each_rest : C (tokens_from Plain 0 rest) = subst (λ (m : Mode). C (tokens_from m 0 rest)) each.0.next each.1 in
    let c : Cut class rest = cut_clean class are fuel rest (omega (arith, length-drop t.len T, part.not_empty)) each_rest in
    elim c.ends [
      | AtFront none ↦ cut_by class are T t (tokens_from Plain 0 rest) step_plain part.inside (λ k lt. c.spaces k (omega arith) lt) (token-ends T some each.0.next each.0.kept)
      | AtOther k len other ↦ cut_right_after class T t step_plain part.inside c k len other
    ]

-- a place of a text up to which it is clean, after which spaces alone stand, and before which none does; it stands after some of
-- the text's tokens
pub record IsCleanTo (class : ℕ → Bool) (text : List ℕ) (n : ℕ) : Type 0 where
  pub front : List Token
  pub back : List Token
  pub is : tokens_from Plain 0 text ≡ front ++ back
  pub len : n ≡ tokens_len front
  pub clean : IsCleanText (take n text)
  pub inside : n ≤ length text
  pub spaces : (k : ℕ) → n ≤ k → k < length text → class (get_or text k 0) ≡ true
  pub last : (k : ℕ) → n ≡ suc k → class (get_or text k 0) ≡ false

ends-last : (class : ℕ → Bool) (bs : List ℕ) (n : ℕ) → EndsAt class bs n → (k : ℕ) → n ≡ suc k → class (get_or bs k 0) ≡ false
ends-last class bs n (AtFront none) k e = absurd (omega arith)
ends-last class bs n (AtOther j is other) k e = let same : k ≡ j = omega arith in ap (λ i. class (get_or bs i 0)) same ∙ other

-- a clean text without the spaces at its end is clean
pub clean_to : (class : ℕ → Bool) → AreSpaces class → (text : List ℕ) → IsCleanText text → (n : ℕ) × IsCleanTo class text n
clean_to class are text clean =
    let all = clean_tokens text clean in
    let c = cut_clean class are (length text) text (omega arith) all in
    let C : List Token → Type 0 = λ ts. AreClean ts in (
      tokens_len c.front,
      record {
        front = c.front;
        back = c.back;
        is = c.is;
        len = refl;
        clean = clean_front c.front c.back text c.is (clean_part c.front c.back (subst C c.is all));
        inside = c.inside;
        spaces = c.spaces;
        last = ends-last class text (tokens_len c.front) c.ends;
      },
    )

-- a token that is neither a string, a comment nor `<%` stands in plain text
plain_before : (m : Mode) (bs : List ℕ) → opens_mode (token_of m bs).kind ≡ false → is_perl (token_of m bs).kind ≡ false → m ≡ Plain
unfolding token_of opens_mode is_perl whole
plain_before Plain bs shut sound = refl
plain_before InStr bs shut sound = grind (arith, cond_both, false≢true, string_token-kind)
plain_before InBlock bs shut sound = absurd (false≢true (sym shut ∙ ap opens_mode (block_token-kind 0 bs)))

-- tokens without `<%` have no fault but that of what is open after them
soundly_open : (m : Mode) (ts : List Token) → AllByRecursion (λ t. is_perl t.kind ≡ false) ts → fault_of_tokens m ts ≡ open_fault (mode_after m ts)
unfolding fault_of_tokens mode_after
soundly_open m [] all = refl
soundly_open m (t ∷ ts) all = ap (λ b. cond b (Some PerlFault) (fault_of_tokens t.next_mode ts)) all.0 ∙ soundly_open t.next_mode ts all.1

-- the bytes of tokens are those of the front in which they stand
texts-front : (ts : List Token) (n : ℕ) (text : List ℕ) → tokens_len ts ≤ n → other_texts ts (take n text) ≡ other_texts ts text
unfolding other_texts tokens_len
texts-front [] n text le = refl
texts-front (t ∷ ts) n text le =
    let split : t.len + (n - t.len) ≡ n = omega arith in
    let following : drop t.len (take n text) ≡ take (n - t.len) (drop t.len text) = ap (λ i. drop t.len (take i text)) (sym split) ∙ drop-take t.len (n - t.len) text in
    let own : take t.len (take n text) ≡ take t.len text = take-take t.len n text (omega arith) in
    let later : other_texts ts (drop t.len (take n text)) ≡ other_texts ts (drop t.len text) = ap (other_texts ts) following ∙ texts-front ts (n - t.len) (drop t.len text) (omega arith) in
    ap (λ z. cond (is_line_comment t.kind) z (take t.len (take n text) ∷ z)) later ∙ ap (λ x. cond (is_line_comment t.kind) (other_texts ts (drop t.len text)) (x ∷ other_texts ts (drop t.len text))) own

-- what is left of some tokens of a text without `//` comments has the other ones, with their bytes
pub record IsLeftOf (ts : List Token) (text left : List ℕ) : Type 0 where
  pub tokens : tokens_from Plain 0 left ≡ other_tokens ts
  pub texts : token_texts (other_tokens ts) left ≡ other_texts ts text

pub left_of : (ts us : List Token) (text : List ℕ) → tokens_from Plain 0 text ≡ ts ++ us → IsLeftOf ts text (concat (other_texts ts text))
unfolding without_line_comments
left_of ts us text e =
    let front = take (tokens_len ts) text in
    let left = concat (other_texts ts text) in
    let own : tokens_from Plain 0 front ≡ ts = tokens_from-front ts us Plain text e in
    let texts : other_texts (tokens_from Plain 0 front) front ≡ other_texts ts text = ap (λ us. other_texts us front) own ∙ texts-front ts (tokens_len ts) text (omega arith) in
    let same : without_line_comments Plain front ≡ left = ap concat texts in
    let tokens : tokens_from Plain 0 left ≡ other_tokens ts = ap (tokens_from Plain 0) (sym same) ∙ (without-tokens Plain front ∙ ap other_tokens own) in
    record {
      tokens = tokens;
      texts = ap (λ us. token_texts us left) (sym tokens) ∙ (ap (λ x. token_texts (tokens_from Plain 0 x) x) (sym same) ∙ (without-texts Plain front ∙ texts));
    }

-- the tokens of a text before one that is neither a string, a comment nor `<%` are, without `//` comments, a clean text, where
-- none of them is `<%`
pub clean_before_token : (ts us : List Token) (u : Token) (text : List ℕ) → tokens_from Plain 0 text ≡ ts ++ u ∷ us
    → AllByRecursion (λ t. is_perl t.kind ≡ false) ts → opens_mode u.kind ≡ false → is_perl u.kind ≡ false → IsCleanText (concat (other_texts ts text))
unfolding lex_fault_from without_line_comments open_fault
clean_before_token ts us u text e sound shut whole_u =
    let front = take (tokens_len ts) text in
    let following = tokens_from-first (mode_after Plain ts) (drop (tokens_len ts) text) u us (tokens_from-after_some ts (u ∷ us) Plain text e) in
    let k : (token_of (mode_after Plain ts) (drop (tokens_len ts) text)).kind ≡ u.kind = ap (λ (t : Token). t.kind) following.1.0 in
    let mode : mode_after Plain ts ≡ Plain = plain_before (mode_after Plain ts) (drop (tokens_len ts) text) (ap opens_mode k ∙ shut) (ap is_perl k ∙ whole_u) in
    let own : tokens_from Plain 0 front ≡ ts = tokens_from-front ts (u ∷ us) Plain text e in
    let ok : lex_fault_from Plain front ≡ None = ap (fault_of_tokens Plain) own ∙ (soundly_open Plain ts sound ∙ ap open_fault mode) in
    let same : without_line_comments Plain front ≡ concat (other_texts ts text) = ap (λ us. concat (other_texts us front)) own ∙ ap concat (texts-front ts (tokens_len ts) text (omega arith)) in
    subst IsCleanText same (clean_without front ok)
