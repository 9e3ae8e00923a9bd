-- The tokens of a text that is cut at a line end, beside those of the whole text.
use Rattle.std.proofs.Common.{◌≡◌, ℕ, suc, ◌+◌, ◌-◌, ◌<◌, ◌≤◌, Bool, true, false, not, cond, ◌||◌, ◌&&◌, eqb, ltb, List, ◌∷◌, ◌++◌, length, get_or, drop, refl, sym, ap, ◌∙◌, subst, inl, inr, ⊎_elim, arith, zero, eqb-true, lt-ltb, le-ltb, length-append, length-drop, get_or-drop, drop-drop, []}
use Rattle.std.specs.List.{prefix_len, concat}
use Rattle.std.proofs.lemmas.Bool.{and_parts, cases_lt, false≢true, cases_Bool}
use Rattle.std.proofs.lemmas.List.{drop-append-le, get_or_past, get_or_append_left, drop_all}
use Rattle.std.proofs.Math.Seq.{get_or-append_right, drop-append-add}
use Rattle.std.proofs.Math.Bool.{and-false, or-true}
use Rattle.rdlpp_scan.specs.declared.token.Kind.{Kind}
use Rattle.rdlpp_scan.specs.declared.token.Kind.TheVariants.{Name, Word, Back, Blank, LineEnd, Str, LineComment, BlockComment, Opener, Closer, Comma, Other, Perl, BareBackquote}
use Rattle.rdlpp_scan.specs.declared.token.Mode.{Mode}
use Rattle.rdlpp_scan.specs.declared.token.Mode.TheVariants.{Plain, InStr, InBlock}
use Rattle.rdlpp_scan.specs.declared.token.Token.{Token}
use Rattle.rdlpp_scan.specs.Bytes.{is_blank, is_line_end, is_letter, is_digit, is_word, is_opener, is_closer, takes_word, begins_perl, begins_line_comment, begins_block_comment, ends_block_comment}
use Rattle.rdlpp_scan.specs.Tokens.{first_place, string_stop, whole, string_token, block_token, plain_token, token_of, stops_plain_text, tokens_from}
use Rattle.rdlpp_scan.specs.Lines.{IsWholeLines, EndsLine}
use Rattle.rdlpp_scan.specs.Pieces.{IsCut, AreCuts, mode_after, tokens_of_pieces, is_open, join_onto, join_all, joined}
use Rattle.rdlpp_scan.proofs.TokenLens.{IsPart, begins_block_comment-two, first_place-le, is_word-letter, string_stop-le, string_stop-stop, token_of-part, tokens_from-step}
use Rattle.rdlpp_scan.proofs.SourceLaws.{IsWholeLines-rest, IsWholeLines-one, IsWholeLines-drop}
use Rattle.rdlpp_scan.specs.LexFaults.{is_perl}
use Rattle.rdlpp_scan.proofs.StopKinds.{string_token-kind, block_token-kind}

-- The first token of a text that is cut at a line end, beside that of the whole text.

-- a cut stays one without the first bytes
pub IsCut-drop : (n : ℕ) (xs ys : List ℕ) → IsCut xs ys → IsCut (drop n xs) ys
IsCut-drop n xs ys = ⊎_elim (λ none. inl none) (λ rest. ⊎_elim (λ here. inr (inl here)) (λ whole. inr (inr (IsWholeLines-drop n xs whole))) rest)

-- without the first byte
pub IsCut-rest : (b : ℕ) (xs ys : List ℕ) → IsCut (b ∷ xs) ys → IsCut xs ys
IsCut-rest b xs ys = ⊎_elim (λ none. inl none) (λ rest. ⊎_elim (λ here. inr (inl here)) (λ whole. inr (inr (IsWholeLines-rest b xs whole))) rest)

-- LF is the byte 10
pub line_end-ten : (b : ℕ) → is_line_end b ≡ true → b ≡ 10
unfolding is_line_end
line_end-ten b h = eqb-true b 10 h

-- a test of two bytes, which LF doesn't pass, isn't changed by what is after a cut
pub pair-append : (f g : ℕ → Bool) → f 10 ≡ false → g 10 ≡ g 0 → (xs ys : List ℕ) → 0 < length xs → IsCut xs ys → (f (get_or (xs ++ ys) 0 0) && g (get_or (xs ++ ys) 1 0)) ≡ (f (get_or xs 0 0) && g (get_or xs 1 0))
pair-append f g first second [] ys some cut = absurd (omega arith)
pair-append f g first second (b ∷ c ∷ xs) ys some cut = refl
pair-append f g first second (b ∷ []) ys some cut =
    ⊎_elim (λ (none : ys ≡ []). ap (λ (zs : List ℕ). f b && g (get_or zs 0 0)) none) (λ rest. ⊎_elim
    (λ here. ap (λ n. f b && g n) here ∙ ap (λ t. f b && t) second)
    (λ whole.
    let no : f b ≡ false = ap f (line_end-ten b (IsWholeLines-one b whole)) ∙ first in
    ap (λ t. t && g (get_or ys 0 0)) no ∙ sym (ap (λ t. t && g 0) no)) rest) cut

pub begins_perl-append : (xs ys : List ℕ) → 0 < length xs → IsCut xs ys → begins_perl (xs ++ ys) ≡ begins_perl xs
unfolding begins_perl
begins_perl-append xs ys some cut = pair-append (λ n. eqb n 60) (λ n. eqb n 37) refl refl xs ys some cut

pub begins_line_comment-append : (xs ys : List ℕ) → 0 < length xs → IsCut xs ys → begins_line_comment (xs ++ ys) ≡ begins_line_comment xs
unfolding begins_line_comment
begins_line_comment-append xs ys some cut = pair-append (λ n. eqb n 47) (λ n. eqb n 47) refl refl xs ys some cut

pub begins_block_comment-append : (xs ys : List ℕ) → 0 < length xs → IsCut xs ys → begins_block_comment (xs ++ ys) ≡ begins_block_comment xs
unfolding begins_block_comment
begins_block_comment-append xs ys some cut = pair-append (λ n. eqb n 47) (λ n. eqb n 42) refl refl xs ys some cut

ends_block_comment-append : (xs ys : List ℕ) → 0 < length xs → IsCut xs ys → ends_block_comment (xs ++ ys) ≡ ends_block_comment xs
unfolding ends_block_comment
ends_block_comment-append xs ys some cut = pair-append (λ n. eqb n 42) (λ n. eqb n 47) refl refl xs ys some cut

pub run_none : (p : ℕ → Bool) (xs : List ℕ) → p (get_or xs 0 0) ≡ false → prefix_len p xs ≡ 0
run_none p [] h = refl
run_none p (x ∷ xs) h = ap (λ t. cond t (1 + prefix_len p xs) 0) h

-- a run without LF ends at a cut
pub run-append : (p : ℕ → Bool) → p 10 ≡ false → (xs ys : List ℕ) → 0 < length xs → IsCut xs ys → prefix_len p (xs ++ ys) ≡ prefix_len p xs
run-append p ten [] ys some cut = absurd (omega arith)
run-append p ten (b ∷ c ∷ xs) ys some cut = ap (λ n. cond (p b) (1 + n) 0) (run-append p ten (c ∷ xs) ys (omega arith) (IsCut-rest b (c ∷ xs) ys cut))
run-append p ten (b ∷ []) ys some cut =
    let stopped : p (get_or ys 0 0) ≡ false → prefix_len p ys ≡ 0 = run_none p ys in
    ⊎_elim (λ (none : ys ≡ []). ap (λ (zs : List ℕ). cond (p b) (1 + prefix_len p zs) 0) none) (λ rest. ⊎_elim
    (λ here. ap (λ n. cond (p b) (1 + n) 0) (stopped (ap p here ∙ ten)))
    (λ whole.
    let no : p b ≡ false = ap p (line_end-ten b (IsWholeLines-one b whole)) ∙ ten in
    ap (λ t. cond t (1 + prefix_len p ys) 0) no ∙ sym (ap (λ t. cond t 1 0) no)) rest) cut

-- whether a backslash at the end of a text takes the next byte along
still_taken : Bool → List ℕ → Bool
still_taken taken [] = taken
still_taken true (b ∷ bs) = still_taken false bs
still_taken false (b ∷ bs) = still_taken (eqb b 92) bs

still_taken-whole : (taken : Bool) (xs : List ℕ) → 0 < length xs → IsWholeLines xs → still_taken taken xs ≡ false
unfolding still_taken
still_taken-whole taken [] some whole = absurd (omega arith)
still_taken-whole true (b ∷ []) some whole = refl
still_taken-whole false (b ∷ []) some whole = ap (λ n. eqb n 92) (line_end-ten b (IsWholeLines-one b whole))
still_taken-whole true (b ∷ c ∷ xs) some whole = still_taken-whole false (c ∷ xs) (omega arith) (IsWholeLines-rest b (c ∷ xs) whole)
still_taken-whole false (b ∷ c ∷ xs) some whole = still_taken-whole (eqb b 92) (c ∷ xs) (omega arith) (IsWholeLines-rest b (c ∷ xs) whole)

-- an LF is taken along or not with no difference
string_stop-ten : (taken : Bool) (ys : List ℕ) → get_or ys 0 0 ≡ 10 → string_stop taken ys ≡ string_stop false ys
unfolding string_stop begins_perl
string_stop-ten true (y ∷ ys) ten = grind arith
string_stop-ten _ ys ten = refl

-- after a cut a string goes on as at its beginning
string_stop-following : (xs ys : List ℕ) → IsCut xs ys → string_stop (still_taken false xs) ys ≡ string_stop false ys
unfolding still_taken string_stop
string_stop-following [] ys cut = refl
string_stop-following (b ∷ xs) ys cut =
    let s = still_taken false (b ∷ xs) in
    ⊎_elim (λ (none : ys ≡ []). subst (λ (zs : List ℕ). string_stop s zs ≡ string_stop false zs) (sym none) refl) (λ rest. ⊎_elim
    (λ here. string_stop-ten s ys here)
    (λ whole. ap (λ t. string_stop t ys) (still_taken-whole false (b ∷ xs) (omega arith) whole)) rest) cut

-- a string that stops before a cut
string_stop-inside : (s : Bool) (xs ys : List ℕ) → IsCut xs ys → string_stop s xs < length xs → string_stop s (xs ++ ys) ≡ string_stop s xs
unfolding string_stop
string_stop-inside s [] ys cut lt = absurd (omega arith)
string_stop-inside true (b ∷ xs) ys cut lt = ap suc (string_stop-inside false xs ys (IsCut-rest b xs ys cut) (omega arith))
string_stop-inside false (b ∷ xs) ys cut lt =
    let same = begins_perl-append (b ∷ xs) ys (omega arith) cut in
    let n = string_stop (eqb b 92) xs in
    let m = string_stop (eqb b 92) (xs ++ ys) in
    let P : Bool → Type 0 = λ t. cond t 0 (suc n) < suc (length xs) → cond t 0 (suc m) ≡ cond t 0 (suc n) in
    let at_true : P true = λ _. refl in
    let at_false : P false = λ h. ap suc (string_stop-inside (eqb b 92) xs ys (IsCut-rest b xs ys cut) (omega arith)) in
    ap (λ t. cond (eqb b 34 || t) 0 (suc m)) same ∙ elim (eqb b 34 || begins_perl (b ∷ xs)) as P [ true ↦ at_true | false ↦ at_false ] lt

-- a string that goes over a cut
string_stop-over : (s : Bool) (xs ys : List ℕ) → IsCut xs ys → string_stop s xs ≡ length xs → string_stop s (xs ++ ys) ≡ length xs + string_stop (still_taken s xs) ys
unfolding string_stop still_taken
string_stop-over s [] ys cut e = omega arith
string_stop-over true (b ∷ xs) ys cut e = omega (arith, string_stop-over false xs ys (IsCut-rest b xs ys cut) (omega arith))
string_stop-over false (b ∷ xs) ys cut e =
    let same = begins_perl-append (b ∷ xs) ys (omega arith) cut in
    let n = string_stop (eqb b 92) xs in
    let m = string_stop (eqb b 92) (xs ++ ys) in
    let k = string_stop (still_taken (eqb b 92) xs) ys in
    let P : Bool → Type 0 = λ t. cond t 0 (suc n) ≡ suc (length xs) → cond t 0 (suc m) ≡ suc (length xs) + k in
    let at_true : P true = λ h. absurd (omega arith) in
    let at_false : P false = λ h. omega (arith, string_stop-over (eqb b 92) xs ys (IsCut-rest b xs ys cut) (omega arith)) in
    ap (λ t. cond (eqb b 34 || t) 0 (suc m)) same ∙ elim (eqb b 34 || begins_perl (b ∷ xs)) as P [ true ↦ at_true | false ↦ at_false ] e

-- a comment that ends before a cut
comment_stop-inside : (xs ys : List ℕ) → IsCut xs ys → first_place ends_block_comment xs < length xs → first_place ends_block_comment (xs ++ ys) ≡ first_place ends_block_comment xs
unfolding first_place
comment_stop-inside [] ys cut lt = absurd (omega arith)
comment_stop-inside (b ∷ xs) ys cut lt =
    let same = ends_block_comment-append (b ∷ xs) ys (omega arith) cut in
    let n = first_place ends_block_comment xs in
    let m = first_place ends_block_comment (xs ++ ys) in
    let P : Bool → Type 0 = λ t. cond t 0 (suc n) < suc (length xs) → cond t 0 (suc m) ≡ cond t 0 (suc n) in
    let at_true : P true = λ _. refl in
    let at_false : P false = λ h. ap suc (comment_stop-inside xs ys (IsCut-rest b xs ys cut) (omega arith)) in
    ap (λ t. cond t 0 (suc m)) same ∙ elim (ends_block_comment (b ∷ xs)) as P [ true ↦ at_true | false ↦ at_false ] lt

-- a comment that goes over a cut
comment_stop-over : (xs ys : List ℕ) → IsCut xs ys → first_place ends_block_comment xs ≡ length xs → first_place ends_block_comment (xs ++ ys) ≡ length xs + first_place ends_block_comment ys
unfolding first_place
comment_stop-over [] ys cut e = omega arith
comment_stop-over (b ∷ xs) ys cut e =
    let same = ends_block_comment-append (b ∷ xs) ys (omega arith) cut in
    let n = first_place ends_block_comment xs in
    let m = first_place ends_block_comment (xs ++ ys) in
    let k = first_place ends_block_comment ys in
    let P : Bool → Type 0 = λ t. cond t 0 (suc n) ≡ suc (length xs) → cond t 0 (suc m) ≡ suc (length xs) + k in
    let at_true : P true = λ h. absurd (omega arith) in
    let at_false : P false = λ h. omega (arith, comment_stop-over xs ys (IsCut-rest b xs ys cut) (omega arith)) in
    ap (λ t. cond t 0 (suc m)) same ∙ elim (ends_block_comment (b ∷ xs)) as P [ true ↦ at_true | false ↦ at_false ] e

-- a token of which so many more bytes stand in front
abbrev pub longer : ℕ → Token → Token
longer n t = record { kind = t.kind; len = n + t.len; next_mode = t.next_mode }

-- the first token of a cut text, and that of the whole text: the same, which is closed or stands before `<%`,
-- or a string, or a block comment, that goes on after the cut
pub data Seam (xs ys : List ℕ) (t u : Token) : Type 0 where
  Closed : u ≡ t → t.next_mode ≡ Plain → Seam xs ys t u
  BeforePerl : u ≡ t → t ≡ record { kind = Str; len = t.len; next_mode = InStr } → t.len < length xs → begins_perl (drop t.len xs) ≡ true → Seam xs ys t u
  OpenString : t ≡ record { kind = Str; len = length xs; next_mode = InStr } → u ≡ longer (length xs) (string_token 0 ys) → Seam xs ys t u
  OpenComment : t ≡ record { kind = BlockComment; len = length xs; next_mode = InBlock } → u ≡ longer (length xs) (block_token 0 ys) → Seam xs ys t u

seam-cond : (xs ys : List ℕ) (b c : Bool) (t t' u u' : Token) → c ≡ b → (b ≡ true → Seam xs ys t u) → (b ≡ false → Seam xs ys t' u') → Seam xs ys (cond b t t') (cond c u u')
seam-cond xs ys true c t t' u u' e left right = subst (λ d. Seam xs ys t (cond d u u')) (sym e) (left refl)
seam-cond xs ys false c t t' u u' e left right = subst (λ d. Seam xs ys t' (cond d u u')) (sym e) (right refl)

whole-seam : (xs ys : List ℕ) (k : Kind) (n m : ℕ) → m ≡ n → Seam xs ys (whole k n) (whole k m)
unfolding whole
whole-seam xs ys k n m e = Closed (ap (whole k) e) refl

-- a string that stops at a place, before a byte
unfoldable pub string_at : ℕ → ℕ → Token
string_at stop b = cond (eqb b 34) (whole Str (suc stop)) (record { kind = Str; len = stop; next_mode = InStr })

string_at-seam : (xs ys : List ℕ) (stop b : ℕ) (u : Token) → stop < length xs → (eqb b 34 ≡ false → begins_perl (drop stop xs) ≡ true) → u ≡ string_at stop b → Seam xs ys (string_at stop b) u
unfolding string_at whole
string_at-seam xs ys stop b u lt perl e = grind arith

-- a string stops at its quote or at `<%`
string_stop-at : (s : Bool) (bs : List ℕ) → string_stop s bs < length bs → (eqb (get_or bs (string_stop s bs) 0) 34 || begins_perl (drop (string_stop s bs) bs)) ≡ true
unfolding string_stop
string_stop-at s [] lt = absurd (omega arith)
string_stop-at true (b ∷ bs) lt = string_stop-at false bs (omega arith)
string_stop-at false (b ∷ bs) lt =
    let n = string_stop (eqb b 92) bs in
    let at : Bool → ℕ = λ t. cond t 0 (suc n) in
    let P : Bool → Type 0 = λ t. (eqb b 34 || begins_perl (b ∷ bs)) ≡ t → at t < suc (length bs) → (eqb (get_or (b ∷ bs) (at t) 0) 34 || begins_perl (drop (at t) (b ∷ bs))) ≡ true in
    let at_true : P true = λ e _. e in
    let at_false : P false = λ _ h. string_stop-at (eqb b 92) bs (omega arith) in
    elim (eqb b 34 || begins_perl (b ∷ bs)) as P [ true ↦ at_true | false ↦ at_false ] refl lt

string_at-longer : (n s b : ℕ) → string_at (n + s) b ≡ longer n (string_at s b)
unfolding string_at whole
string_at-longer n s b = grind arith

-- a string, by where it stops
pub string_token-at : (from : ℕ) (bs : List ℕ) (stop : ℕ) → from + string_stop false (drop from bs) ≡ stop → string_token from bs ≡ string_at stop (get_or bs stop 0)
unfolding string_token string_at
string_token-at from bs stop e = ap (λ i. string_at i (get_or bs i 0)) e

string_at-open : (n b : ℕ) → b ≡ 0 → string_at n b ≡ record { kind = Str; len = n; next_mode = InStr }
unfolding string_at
string_at-open n b e = ap (string_at n) e

ap_byte : (ys : List ℕ) (i j : ℕ) → i ≡ j → get_or ys i 0 ≡ get_or ys j 0
ap_byte ys i j e = ap (λ k. get_or ys k 0) e

-- a test moved by what stands in front
pub ltb-moved : (n s m k : ℕ) → k ≡ n + m → ltb (n + s) k ≡ ltb s m
ltb-moved n s m k e =
    ⊎_elim (λ lt. lt-ltb (n + s) k (omega arith) ∙ sym (lt-ltb s m lt)) (λ ge. le-ltb (n + s) k (omega arith) ∙ sym (le-ltb s m ge)) (cases_lt s m)

-- a string at a cut
string-seam : (from : ℕ) (xs ys : List ℕ) → from ≤ length xs → IsCut xs ys → Seam xs ys (string_token from xs) (string_token from (xs ++ ys))
string-seam from xs ys fits cut =
    let X = drop from xs in
    let n = length xs in
    let size = length-drop from xs in
    let cutX = IsCut-drop from xs ys cut in
    let k = string_stop false X in
    let split : string_stop false (drop from (xs ++ ys)) ≡ string_stop false (X ++ ys) = ap (string_stop false) (drop-append-le from xs ys fits) in
    let inside : k < length X → Seam xs ys (string_token from xs) (string_token from (xs ++ ys)) = λ lt.
    let same = string_stop-inside false X ys cutX lt in
    let t : string_token from xs ≡ string_at (from + k) (get_or xs (from + k) 0) = string_token-at from xs (from + k) refl in
    let u : string_token from (xs ++ ys) ≡ string_at (from + k) (get_or xs (from + k) 0) =
    string_token-at from (xs ++ ys) (from + k) (ap (λ i. from + i) (split ∙ same)) ∙ ap (string_at (from + k)) (get_or_append_left xs ys 0 (from + k) (omega (arith, size))) in
    let stops : (eqb (get_or xs (from + k) 0) 34 || begins_perl (drop (from + k) xs)) ≡ true =
    ap (λ n. eqb n 34 || begins_perl (drop (from + k) xs)) (sym (get_or-drop from xs k 0))
    ∙ ap (λ z. eqb (get_or X k 0) 34 || begins_perl z) (sym (drop-drop k from xs))
    ∙ string_stop-at false X lt in
    let perl : eqb (get_or xs (from + k) 0) 34 ≡ false → begins_perl (drop (from + k) xs) ≡ true = λ q. sym (ap (λ t. t || begins_perl (drop (from + k) xs)) q) ∙ stops in
    subst (λ v. Seam xs ys v (string_token from (xs ++ ys))) (sym t) (string_at-seam xs ys (from + k) (get_or xs (from + k) 0) _ (omega (arith, size)) perl u) in
    let over : length X ≤ k → Seam xs ys (string_token from xs) (string_token from (xs ++ ys)) = λ ge.
    let all : k ≡ length X = omega (arith, string_stop-le false X) in
    let s = string_stop false ys in
    let stop : from + string_stop false (drop from (xs ++ ys)) ≡ n + s =
    omega (arith, split, string_stop-over false X ys cutX all, string_stop-following X ys cutX, size) in
    let none : get_or xs n 0 ≡ 0 = get_or_past xs n 0 (omega arith) in
    let there : get_or (xs ++ ys) (n + s) 0 ≡ get_or ys s 0 = get_or-append_right xs ys (n + s) 0 (omega arith) ∙ ap_byte ys (n + s - n) s (omega arith) in
    let t : string_token from xs ≡ record { kind = Str; len = n; next_mode = InStr } = string_token-at from xs n (omega (arith, all, size)) ∙ string_at-open n (get_or xs n 0) none in
    let u : string_token from (xs ++ ys) ≡ longer n (string_token 0 ys) =
    string_token-at from (xs ++ ys) (n + s) stop ∙ ap (string_at (n + s)) there ∙ string_at-longer n s (get_or ys s 0) ∙ ap (longer n) (sym (string_token-at 0 ys s (omega arith))) in
    OpenString t u in
    ⊎_elim inside over (cases_lt k (length X))

-- a block comment that stops at a place, before its end or not
unfoldable pub block_at : ℕ → Bool → Token
block_at stop b = cond b (whole BlockComment (stop + 2)) (record { kind = BlockComment; len = stop; next_mode = InBlock })

block_at-longer : (n s : ℕ) (b : Bool) → block_at (n + s) b ≡ longer n (block_at s b)
unfolding block_at whole
block_at-longer n s true = let e : n + s + 2 ≡ n + (s + 2) = omega arith in ap (whole BlockComment) e
block_at-longer n s false = refl

-- a block comment, by where it stops
pub block_token-at : (from : ℕ) (bs : List ℕ) (stop : ℕ) (b : Bool) → from + first_place ends_block_comment (drop from bs) ≡ stop → ltb stop (length bs) ≡ b → block_token from bs ≡ block_at stop b
unfolding block_token block_at
block_token-at from bs stop b e f = ap (λ i. block_at i (ltb i (length bs))) e ∙ ap (block_at stop) f

-- a block comment at a cut
block-seam : (from : ℕ) (xs ys : List ℕ) → from ≤ length xs → IsCut xs ys → Seam xs ys (block_token from xs) (block_token from (xs ++ ys))
unfolding block_at whole
block-seam from xs ys fits cut =
    let X = drop from xs in
    let n = length xs in
    let size = length-drop from xs in
    let both = length-append xs ys in
    let cutX = IsCut-drop from xs ys cut in
    let k = first_place ends_block_comment X in
    let split : first_place ends_block_comment (drop from (xs ++ ys)) ≡ first_place ends_block_comment (X ++ ys) = ap (first_place ends_block_comment) (drop-append-le from xs ys fits) in
    let inside : k < length X → Seam xs ys (block_token from xs) (block_token from (xs ++ ys)) = λ lt.
    let same = comment_stop-inside X ys cutX lt in
    let t : block_token from xs ≡ block_at (from + k) true = block_token-at from xs (from + k) true refl (lt-ltb (from + k) n (omega (arith, size))) in
    let u : block_token from (xs ++ ys) ≡ block_at (from + k) true = block_token-at from (xs ++ ys) (from + k) true (ap (λ i. from + i) (split ∙ same)) (lt-ltb (from + k) (length (xs ++ ys)) (omega (arith, size, both))) in
    subst (λ v. Seam xs ys v (block_token from (xs ++ ys))) (sym t) (Closed u refl) in
    let over : length X ≤ k → Seam xs ys (block_token from xs) (block_token from (xs ++ ys)) = λ ge.
    let all : k ≡ length X = omega (arith, first_place-le ends_block_comment X) in
    let s = first_place ends_block_comment ys in
    let stop : from + first_place ends_block_comment (drop from (xs ++ ys)) ≡ n + s = omega (arith, split, comment_stop-over X ys cutX all, size) in
    let b = ltb s (length ys) in
    let moved : ltb (n + s) (length (xs ++ ys)) ≡ b = ltb-moved n s (length ys) (length (xs ++ ys)) both in
    let t : block_token from xs ≡ block_at n false = block_token-at from xs n false (omega (arith, all, size)) (le-ltb n n (omega arith)) in
    let u : block_token from (xs ++ ys) ≡ longer n (block_token 0 ys) =
    block_token-at from (xs ++ ys) (n + s) b stop moved ∙ block_at-longer n s b ∙ ap (longer n) (sym (block_token-at 0 ys s b (omega arith) refl)) in
    OpenComment t u in
    ⊎_elim inside over (cases_lt k (length X))

word-append : (b : ℕ) (w ys : List ℕ) → is_word (get_or (b ∷ w) 1 0) ≡ true → IsCut (b ∷ w) ys → suc (prefix_len is_word (w ++ ys)) ≡ suc (prefix_len is_word w)
unfolding is_word is_letter is_digit
word-append b [] ys h cut = absurd (false≢true h)
word-append b (c ∷ w) ys h cut = ap suc (run-append is_word refl (c ∷ w) ys (omega arith) (IsCut-rest b (c ∷ w) ys cut))

-- an LF is no blank
pub blank_ten : is_blank 10 ≡ false
unfolding is_blank
blank_ten = refl

-- nor is it a byte of a name
pub word_ten : is_word 10 ≡ false
unfolding is_word is_letter is_digit
word_ten = refl

line_ten : not (is_line_end 10) ≡ false
unfolding is_line_end
line_ten = refl

takes-append : (b : ℕ) (w ys : List ℕ) → IsCut (b ∷ w) ys → (takes_word b && is_word (get_or (b ∷ w ++ ys) 1 0)) ≡ (takes_word b && is_word (get_or (b ∷ w) 1 0))
unfolding takes_word is_word is_letter is_digit
takes-append b w ys cut = pair-append takes_word is_word refl refl (b ∷ w) ys (omega arith) cut

back-append : (b : ℕ) (w ys : List ℕ) → IsCut (b ∷ w) ys → (eqb b 96 && is_letter (get_or (b ∷ w ++ ys) 1 0)) ≡ (eqb b 96 && is_letter (get_or (b ∷ w) 1 0))
unfolding is_letter
back-append b w ys cut = pair-append (λ n. eqb n 96) is_letter refl refl (b ∷ w) ys (omega arith) cut

plain-seam : (b : ℕ) (w ys : List ℕ) → IsCut (b ∷ w) ys → Seam (b ∷ w) ys (plain_token (b ∷ w)) (plain_token (b ∷ w ++ ys))
unfolding plain_token
plain-seam b w ys cut =
    let xs = b ∷ w in
    let some : 0 < length xs = omega arith in
    let c = get_or xs 1 0 in
    let one : (k : Kind) → Seam xs ys (whole k 1) (whole k 1) = λ k. whole-seam xs ys k 1 1 refl in
    seam-cond xs ys _ _ _ _ _ _ (begins_perl-append xs ys some cut) (λ _. whole-seam xs ys Perl 2 2 refl) (λ _.
    seam-cond xs ys (is_line_end b) _ _ _ _ _ refl (λ _. one LineEnd) (λ _.
    seam-cond xs ys (is_blank b) _ _ _ _ _ refl (λ _. whole-seam xs ys Blank _ _ (run-append is_blank blank_ten xs ys some cut)) (λ _.
    seam-cond xs ys _ _ _ _ _ _ (begins_line_comment-append xs ys some cut) (λ _. whole-seam xs ys LineComment _ _ (run-append (λ x. not (is_line_end x)) line_ten xs ys some cut)) (λ _.
    seam-cond xs ys _ _ _ _ _ _ (begins_block_comment-append xs ys some cut) (λ h. block-seam 2 xs ys (begins_block_comment-two xs h) cut) (λ _.
    seam-cond xs ys (eqb b 34) _ _ _ _ _ refl (λ _. string-seam 1 xs ys (omega arith) cut) (λ _.
    seam-cond xs ys (is_letter b) _ _ _ _ _ refl (λ _. whole-seam xs ys Name _ _ (run-append is_word word_ten xs ys some cut)) (λ _.
    seam-cond xs ys (is_digit b) _ _ _ _ _ refl (λ _. whole-seam xs ys Word _ _ (run-append is_word word_ten xs ys some cut)) (λ _.
    seam-cond xs ys _ _ _ _ _ _ (takes-append b w ys cut) (λ h. whole-seam xs ys Word _ _ (word-append b w ys (and_parts (takes_word b) (is_word c) h).1 cut)) (λ _.
    seam-cond xs ys _ _ _ _ _ _ (back-append b w ys cut) (λ h. whole-seam xs ys Back _ _ (word-append b w ys (is_word-letter c (and_parts (eqb b 96) (is_letter c) h).1) cut)) (λ _.
    seam-cond xs ys (eqb b 96) _ _ _ _ _ refl (λ _. one BareBackquote) (λ _.
    seam-cond xs ys (is_opener b) _ _ _ _ _ refl (λ _. one Opener) (λ _.
    seam-cond xs ys (is_closer b) _ _ _ _ _ refl (λ _. one Closer) (λ _.
    seam-cond xs ys (eqb b 44) _ _ _ _ _ refl (λ _. one Comma) (λ _. one Other))))))))))))))

-- the first token of a text that is cut, and that of the whole text
pub token_of-seam : (m : Mode) (xs ys : List ℕ) → 0 < length xs → IsCut xs ys → Seam xs ys (token_of m xs) (token_of m (xs ++ ys))
unfolding token_of
token_of-seam m [] ys some cut = absurd (omega arith)
token_of-seam Plain (b ∷ w) ys some cut = plain-seam b w ys cut
token_of-seam InStr (b ∷ w) ys some cut =
    let xs = b ∷ w in
    seam-cond xs ys _ _ _ _ _ _ (begins_perl-append xs ys some cut) (λ _. whole-seam xs ys Perl 2 2 refl) (λ _. string-seam 0 xs ys (omega arith) cut)
token_of-seam InBlock (b ∷ w) ys some cut = block-seam 0 (b ∷ w) ys (omega arith) cut

-- What a text that ends at a line end tells of itself stays so with more after it.

-- a text that ends at a line end is cut there
pub IsCut-from_line : (held more : List ℕ) → EndsLine held more → IsCut held more
IsCut-from_line held more = ⊎_elim (λ whole. inr (inr whole)) (λ none. inl none)

-- a place of a line stops ordinary text, or doesn't, whatever follows the line
pub stops-append : (held more : List ℕ) → 0 < length held → IsCut held more → stops_plain_text (held ++ more) ≡ stops_plain_text held
unfolding stops_plain_text
stops-append [] more some cut = absurd (omega arith)
stops-append (b ∷ w) more some cut =
    let q = eqb b 96 || eqb b 34 in
    ap (λ t. q || t || begins_block_comment (b ∷ w ++ more) || begins_perl (b ∷ w ++ more)) (begins_line_comment-append (b ∷ w) more some cut)
    ∙ ap (λ t. q || begins_line_comment (b ∷ w) || t || begins_perl (b ∷ w ++ more)) (begins_block_comment-append (b ∷ w) more some cut)
    ∙ ap (λ t. q || begins_line_comment (b ∷ w) || begins_block_comment (b ∷ w) || t) (begins_perl-append (b ∷ w) more some cut)

pub closed_seam : (xs ys : List ℕ) (t u : Token) → t.next_mode ≡ Plain → Seam xs ys t u → u ≡ t
closed_seam xs ys t u closed (Closed e h) = e
closed_seam xs ys t u closed (BeforePerl e is lt perl) = e
closed_seam xs ys t u closed (OpenString is e) = let open_mode = ap (λ (v : Token). v.next_mode) is in absurd (cc)
closed_seam xs ys t u closed (OpenComment is e) = let open_mode = ap (λ (v : Token). v.next_mode) is in absurd (cc)

-- a token that is closed is the same with more after the line
pub token_of-append : (held more : List ℕ) → 0 < length held → EndsLine held more → (token_of Plain held).next_mode ≡ Plain → token_of Plain (held ++ more) ≡ token_of Plain held
token_of-append held more some ends closed =
    closed_seam held more (token_of Plain held) (token_of Plain (held ++ more)) closed (token_of-seam Plain held more some (IsCut-from_line held more ends))

-- The tokens of a text that is cut at line ends.

join_all-append : (xs ys us : List Token) → join_all (xs ++ ys) us ≡ join_all xs (join_all ys us)
unfolding join_all
join_all-append [] ys us = refl
join_all-append (x ∷ xs) ys us = ap (join_onto x) (join_all-append xs ys us)

-- a closed token is joined with nothing
join_onto-closed : (t : Token) (us : List Token) → t.next_mode ≡ Plain → join_onto t us ≡ t ∷ us
unfolding join_onto is_open
join_onto-closed t [] closed = refl
join_onto-closed t (u ∷ us) closed =
    ap (λ (m : Mode). cond (is_open m && not (is_perl u.kind)) (record { kind = u.kind; len = t.len + u.len; next_mode = u.next_mode } ∷ us) (t ∷ u ∷ us)) closed

-- `<%` is joined with nothing
join_onto-perl : (t u : Token) (us : List Token) → u.kind ≡ Perl → join_onto t (u ∷ us) ≡ t ∷ u ∷ us
unfolding join_onto is_perl
join_onto-perl t u us is = grind (arith, and-false)

-- an open token is joined with the part that follows
join_onto-open : (t u : Token) (us : List Token) → is_open t.next_mode ≡ true → is_perl u.kind ≡ false → join_onto t (u ∷ us) ≡ longer t.len u ∷ us
unfolding join_onto
join_onto-open t u us is_so other = grind arith

-- the tokens after one that covers its text
tokens_from-covered : (m : Mode) (n : ℕ) (xs : List ℕ) → length xs ≤ n → tokens_from m 0 (drop n xs) ≡ []
unfolding tokens_from
tokens_from-covered m n xs le = ap (tokens_from m 0) (drop_all n xs le)

-- a string's part before `<%` stays a token of its own
join_before_perl : (t : Token) (zs : List ℕ) → 0 < length zs → begins_perl zs ≡ true → join_onto t (tokens_from InStr 0 zs) ≡ t ∷ tokens_from InStr 0 zs
unfolding token_of whole
join_before_perl t zs some perl = grind (arith, tokens_from-step, token_of-part, join_onto-perl)

-- the tokens of the whole text, where its first token goes over a cut
after_cut : (m : Mode) (xs ys : List ℕ) (v : Token) → 0 < length xs → token_of m (xs ++ ys) ≡ longer (length xs) v → tokens_from m 0 (xs ++ ys) ≡ longer (length xs) v ∷ tokens_from v.next_mode 0 (drop v.len ys)
after_cut m xs ys v some is = grind (arith, length-append, tokens_from-step, token_of-part, drop-append-add)

-- `<%` at the front of the rest of a string
pub perl_rest : (ys : List ℕ) → begins_perl ys ≡ true → string_token 0 ys ≡ record { kind = Str; len = 0; next_mode = InStr }
unfolding string_token begins_perl
perl_rest ys perl = grind (arith, eqb-true, and_parts, string_stop-stop, or-true)

open_string_some : (m : Mode) (xs : List ℕ) (y : ℕ) (ys : List ℕ) → 0 < length xs → token_of m (xs ++ y ∷ ys) ≡ longer (length xs) (string_token 0 (y ∷ ys))
    → join_onto (record { kind = Str; len = length xs; next_mode = InStr }) (tokens_from InStr 0 (y ∷ ys)) ≡ tokens_from m 0 (xs ++ y ∷ ys)
unfolding token_of is_open is_perl
open_string_some m xs y ys some is =
    let zs = y ∷ ys in
    let n = length xs in
    let T : Token = record { kind = Str; len = n; next_mode = InStr } in
    let v = string_token 0 zs in
    let whole_text = after_cut m xs zs v some is in
    let at_perl : begins_perl zs ≡ true → join_onto T (tokens_from InStr 0 zs) ≡ tokens_from m 0 (xs ++ zs) = λ h.
    let e : n + 0 ≡ n = omega arith in
    join_before_perl T zs (omega arith) h
    ∙ sym (whole_text ∙ ap (λ (w : Token). longer n w ∷ tokens_from w.next_mode 0 (drop w.len zs)) (perl_rest zs h) ∙ ap (λ i. record { kind = Str; len = i; next_mode = InStr } ∷ tokens_from InStr 0 zs) e) in
    let at_other : begins_perl zs ≡ false → join_onto T (tokens_from InStr 0 zs) ≡ tokens_from m 0 (xs ++ zs) = λ h.
    let first : token_of InStr zs ≡ v = ap (λ b. cond b (whole Perl 2) v) h in
    let step = tokens_from-step InStr zs (omega arith) (token_of-part InStr zs (omega arith)).not_empty in
    ap (join_onto T) (step ∙ ap (λ (w : Token). w ∷ tokens_from w.next_mode 0 (drop w.len zs)) first)
    ∙ join_onto-open T v (tokens_from v.next_mode 0 (drop v.len zs)) refl (ap is_perl (string_token-kind 0 zs)) ∙ sym whole_text in
    ⊎_elim at_perl at_other (cases_Bool (begins_perl zs))

open_comment_some : (m : Mode) (xs : List ℕ) (y : ℕ) (ys : List ℕ) → 0 < length xs → token_of m (xs ++ y ∷ ys) ≡ longer (length xs) (block_token 0 (y ∷ ys))
    → join_onto (record { kind = BlockComment; len = length xs; next_mode = InBlock }) (tokens_from InBlock 0 (y ∷ ys)) ≡ tokens_from m 0 (xs ++ y ∷ ys)
unfolding token_of is_open is_perl
open_comment_some m xs y ys some is =
    let zs = y ∷ ys in
    let n = length xs in
    let T : Token = record { kind = BlockComment; len = n; next_mode = InBlock } in
    let v = block_token 0 zs in
    let step = tokens_from-step InBlock zs (omega arith) (token_of-part InBlock zs (omega arith)).not_empty in
    ap (join_onto T) step ∙ join_onto-open T v (tokens_from v.next_mode 0 (drop v.len zs)) refl (ap is_perl (block_token-kind 0 zs)) ∙ sym (after_cut m xs zs v some is)

-- a string that goes over a cut
open_string : (m : Mode) (xs ys : List ℕ) → 0 < length xs → token_of m (xs ++ ys) ≡ longer (length xs) (string_token 0 ys)
    → join_onto (record { kind = Str; len = length xs; next_mode = InStr }) (tokens_from InStr 0 ys) ≡ tokens_from m 0 (xs ++ ys)
unfolding string_token string_stop tokens_from join_onto
open_string m xs [] some is =
    let e : length xs + 0 ≡ length xs = omega arith in
    sym (after_cut m xs [] (string_token 0 []) some is ∙ ap (λ n. record { kind = Str; len = n; next_mode = InStr } ∷ []) e)
open_string m xs (y ∷ ys) some is = open_string_some m xs y ys some is

-- a comment that goes over a cut
open_comment : (m : Mode) (xs ys : List ℕ) → 0 < length xs → token_of m (xs ++ ys) ≡ longer (length xs) (block_token 0 ys)
    → join_onto (record { kind = BlockComment; len = length xs; next_mode = InBlock }) (tokens_from InBlock 0 ys) ≡ tokens_from m 0 (xs ++ ys)
unfolding block_token first_place tokens_from join_onto
open_comment m xs [] some is =
    let e : length xs + 0 ≡ length xs = omega arith in
    sym (after_cut m xs [] (block_token 0 []) some is ∙ ap (λ n. record { kind = BlockComment; len = n; next_mode = InBlock } ∷ []) e)
open_comment m xs (y ∷ ys) some is = open_comment_some m xs y ys some is

-- the tokens of the whole text, where its first token is that of the text in front of a cut
same_first : (m : Mode) (xs ys : List ℕ) (t : Token) → 0 < length xs → token_of m (xs ++ ys) ≡ t → t.len ≤ length xs → tokens_from m 0 (xs ++ ys) ≡ t ∷ tokens_from t.next_mode 0 (drop t.len xs ++ ys)
same_first m xs ys t some is inside = grind (arith, length-append, tokens_from-step, token_of-part, drop-append-le)

-- the tokens in front of a cut, by the first of them
cut_by : (k : ℕ) (m : Mode) (xs ys : List ℕ) → 0 < length xs → length xs ≤ suc k → IsCut xs ys
    → ((e : Mode) (vs : List ℕ) → length vs ≤ k → IsCut vs ys → join_all (tokens_from e 0 vs) (tokens_from (mode_after e (tokens_from e 0 vs)) 0 ys) ≡ tokens_from e 0 (vs ++ ys))
    → (t : Token) → t ≡ token_of m xs → Seam xs ys t (token_of m (xs ++ ys))
    → join_onto t (join_all (tokens_from t.next_mode 0 (drop t.len xs)) (tokens_from (mode_after t.next_mode (tokens_from t.next_mode 0 (drop t.len xs))) 0 ys)) ≡ tokens_from m 0 (xs ++ ys)
unfolding join_all mode_after
cut_by k m xs ys some fuel cut later t is (Closed e closed) = grind (arith, token_of-part, length-drop, IsCut-drop, join_onto-closed, same_first)
cut_by k m xs ys some fuel cut later t is (BeforePerl e open_is lt perl) =
    let part = subst (λ (u : Token). IsPart u xs) (sym is) (token_of-part m xs some) in
    let rest = drop t.len xs in
    let Z = rest ++ ys in
    let size = length-drop t.len xs in
    let both = length-append rest ys in
    let following = later t.next_mode rest (omega (arith, size, part.not_empty)) (IsCut-drop t.len xs ys cut) in
    let mode : t.next_mode ≡ InStr = ap (λ (u : Token). u.next_mode) open_is in
    let first : begins_perl Z ≡ true = begins_perl-append rest ys (omega (arith, size)) (IsCut-drop t.len xs ys cut) ∙ perl in
    let kept : join_onto t (tokens_from t.next_mode 0 Z) ≡ t ∷ tokens_from t.next_mode 0 Z =
    subst (λ (d : Mode). join_onto t (tokens_from d 0 Z) ≡ t ∷ tokens_from d 0 Z) (sym mode) (join_before_perl t Z (omega (arith, size, both)) first) in
    ap (join_onto t) following ∙ kept ∙ sym (same_first m xs ys t some e part.inside)
cut_by k m xs ys some fuel cut later t is (OpenString open_is e) = grind (arith, tokens_from-covered, open_string)
cut_by k m xs ys some fuel cut later t is (OpenComment open_is e) = grind (arith, tokens_from-covered, open_comment)

-- one cut: the tokens in front of it, joined with those of the rest
cut_once : (k : ℕ) (m : Mode) (xs ys : List ℕ) → length xs ≤ k → IsCut xs ys → join_all (tokens_from m 0 xs) (tokens_from (mode_after m (tokens_from m 0 xs)) 0 ys) ≡ tokens_from m 0 (xs ++ ys)
unfolding tokens_from mode_after join_all
cut_once k m [] ys fuel cut = refl
cut_once zero m (x ∷ xs) ys fuel cut = absurd (omega arith)
cut_once (suc k) m (x ∷ xs) ys fuel cut =
    let X = x ∷ xs in
    let t = token_of m X in
    let step = tokens_from-step m X (omega arith) (token_of-part m X (omega arith)).not_empty in
    ap (λ ts. join_all ts (tokens_from (mode_after m ts) 0 ys)) step
    ∙ cut_by k m X ys (omega arith) fuel cut (λ e vs short c. cut_once k e vs ys short c) t refl (token_of-seam m X ys (omega arith) cut)

-- however a text is cut at line ends, its tokens are those of the pieces, with the parts of strings and comments joined
pub tokens_of_cuts : (from : Mode) (pieces : List (List ℕ)) → AreCuts pieces → joined (tokens_of_pieces from pieces) ≡ tokens_from from 0 (concat pieces)
unfolding joined tokens_of_pieces AreCuts tokens_from join_all
tokens_of_cuts from [] cuts = refl
tokens_of_cuts from (p ∷ ps) cuts =
    let ts = tokens_from from 0 p in
    let later = tokens_of_cuts (mode_after from ts) ps cuts.1 in
    join_all-append ts (tokens_of_pieces (mode_after from ts) ps) [] ∙ ap (join_all ts) later ∙ cut_once (length p) from p (concat ps) (omega arith) cuts.0
