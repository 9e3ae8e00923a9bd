-- Steps of a source's tokens, those at a `define` and at a `line` among them.
use Rattle.std.proofs.Common.{◌≡◌, ◌⊎◌, ℕ, suc, ◌+◌, ◌<◌, ◌≤◌, Bool, true, false, cond, eqb, ltb, List, ◌∷◌, ◌++◌, Option, Some, None, length, take, drop, get_or, refl, sym, ap, ◌∙◌, subst, inl, inr, ⊎_elim, arith, not, ◌&&◌, option_map, bytes_eq, codes, eqb-true, le-ltb, lt-ltb, append-nil, length-append, length-take-le, []}
use Rattle.std.specs.List.{prefix_len}
use Rattle.std.proofs.Math.Seq.{drop-append-add, take-append-add, take-length}
use Rattle.std.proofs.lemmas.Bool.{cases_Bool, cond_both, false_from_ne_true, false≢true}
use Rattle.std.proofs.lemmas.List.{drop-append-le, drop_all, take-append-le}
use Rattle.rdlpp_scan.specs.Bytes.{is_digit, is_letter, is_line_end, is_word}
use Rattle.rdlpp_scan.specs.Defines.{HoldsDefine}
use Rattle.rdlpp_scan.specs.Front.{Breach, Break, CommentOpen, DefineCut, DefineLong, PerlFound, StringOpen}
use Rattle.rdlpp_scan.specs.Lines.{EndsLine, IsWholeLines}
use Rattle.rdlpp_scan.specs.Ordinary.{is_plain_kind}
use Rattle.rdlpp_scan.specs.Pieces.{IsCut}
use Rattle.rdlpp_scan.specs.Resumed.{line_with, onto_step, onto_tokens, opening, with_part}
use Rattle.rdlpp_scan.specs.SourceTokens.{Broken, Course, Definition, Last, Next, Ordinary, Renumbering, SourceToken, Step, back_step, broken, comment_step, define_step, is_continued, line_ends, line_len, line_step, logical_len, open_end, source_end, source_step, source_tokens, step_by, string_step}
use Rattle.rdlpp_scan.specs.Tokens.{block_token, first_place, string_stop, string_token, token_of, whole}
use Rattle.rdlpp_scan.specs.declared.token.Kind.{Kind}
use Rattle.rdlpp_scan.specs.declared.token.Kind.TheVariants.{Back, BareBackquote, BlockComment, Perl, Str}
use Rattle.rdlpp_scan.specs.declared.token.Mode.{Mode}
use Rattle.rdlpp_scan.specs.declared.token.Mode.TheVariants.{InBlock, InStr, Plain}
use Rattle.rdlpp_scan.specs.declared.token.Token.{Token}
use Rattle.rdlpp_scan.proofs.SourceLaws.{IsWholeLines-append, IsWholeLines-one, IsWholeLines-rest, line_ends-append, line_ends-cons, line_len-append, line_len-le, line_len-some, logical_len-after, logical_len-append, logical_len-start, none_suc, option_map-twice, some_suc, source_tokens-last, source_tokens-next, source_tokens-opened}
use Rattle.rdlpp_scan.proofs.OrdinaryLaws.{source_step-plain}
use Rattle.rdlpp_scan.proofs.Seams.{BeforePerl, Closed, OpenComment, OpenString, Seam, line_end-ten, longer, ltb-moved, perl_rest, token_of-append, token_of-seam}
use Rattle.rdlpp_scan.proofs.StopKinds.{AtBack, AtBare, AtBlockComment, AtLineComment, AtPerl, AtPlain, AtString, Row, block_token-kind, string_token-kind, token_of-row}
use Rattle.rdlpp_scan.proofs.TokenLens.{inside_of, token_of-part}

-- One step of a source's tokens, at a text that ends at a line end.

-- a token of these kinds is closed
pub closed_kind : (bs : List ℕ) (t : Token) → Row bs t → (t.kind ≡ Perl) ⊎ ((t.kind ≡ Back) ⊎ (t.kind ≡ BareBackquote)) → t.next_mode ≡ Plain
unfolding whole is_plain_kind
closed_kind bs t (AtPerl h e) k = ap (λ (u : Token). u.next_mode) e
closed_kind bs t (AtLineComment h e) k = absurd (⊎_elim (λ i. cc) (λ r. ⊎_elim (λ i. cc) (λ i. cc) r) k)
closed_kind bs t (AtBlockComment h e) k = absurd (⊎_elim (λ i. cc) (λ r. ⊎_elim (λ i. cc) (λ i. cc) r) k)
closed_kind bs t (AtString h e) k = absurd (⊎_elim (λ i. cc) (λ r. ⊎_elim (λ i. cc) (λ i. cc) r) k)
closed_kind bs t (AtBack h e) k = ap (λ (u : Token). u.next_mode) e
closed_kind bs t (AtBare h g e) k = ap (λ (u : Token). u.next_mode) e
closed_kind bs t (AtPlain h q) k =
    absurd (false≢true (⊎_elim (λ i. sym (ap is_plain_kind i) ∙ h) (λ r. ⊎_elim (λ i. sym (ap is_plain_kind i) ∙ h) (λ i. sym (ap is_plain_kind i) ∙ h) r) k))

bare_len : (bs : List ℕ) (t : Token) → Row bs t → t.kind ≡ BareBackquote → t.len ≡ 1
unfolding whole is_plain_kind
bare_len bs t (AtPerl h e) k = let i = ap (λ (u : Token). u.kind) e in absurd (cc)
bare_len bs t (AtLineComment h e) k = absurd (cc)
bare_len bs t (AtBlockComment h e) k = absurd (cc)
bare_len bs t (AtString h e) k = absurd (cc)
bare_len bs t (AtBack h e) k = let i = ap (λ (u : Token). u.kind) e in absurd (cc)
bare_len bs t (AtBare h g e) k = ap (λ (u : Token). u.len) e
bare_len bs t (AtPlain h q) k = absurd (false≢true (sym (ap is_plain_kind k) ∙ h))

-- a step at a token by its kind
step_by-perl : (c : Course) (o l : ℕ) (t : Token) (bs : List ℕ) → t.kind ≡ Perl → step_by c o l t bs ≡ Last (record { sort = Broken PerlFound; bytes = []; line = l })
unfolding step_by broken
step_by-perl c o l t bs is =
    subst (λ (k : Kind). step_by c o l (record { kind = k; len = t.len; next_mode = t.next_mode }) bs ≡ Last (record { sort = Broken PerlFound; bytes = []; line = l })) (sym is) refl

step_by-bare : (c : Course) (o l : ℕ) (t : Token) (bs : List ℕ) → t.kind ≡ BareBackquote → step_by c o l t bs ≡ Next (record { sort = Ordinary BareBackquote; bytes = take t.len bs; line = l })
unfolding step_by
step_by-bare c o l t bs is =
    subst (λ (k : Kind). step_by c o l (record { kind = k; len = t.len; next_mode = t.next_mode }) bs ≡ Next (record { sort = Ordinary BareBackquote; bytes = take t.len bs; line = l })) (sym is) refl

step_by-back : (c : Course) (o l : ℕ) (t : Token) (bs : List ℕ) → t.kind ≡ Back → step_by c o l t bs ≡ back_step c l (record { kind = Back; len = t.len; next_mode = t.next_mode }) bs
unfolding step_by
step_by-back c o l t bs is =
    subst (λ (k : Kind). step_by c o l (record { kind = k; len = t.len; next_mode = t.next_mode }) bs ≡ back_step c l (record { kind = Back; len = t.len; next_mode = t.next_mode }) bs) (sym is) refl

-- a step at a text that ends at a line end, by the token of that text
step_held : (c : Course) (o l : ℕ) (held more : List ℕ) → 0 < length held → EndsLine held more → (t : Token) → t ≡ token_of Plain held → (t.kind ≡ Perl) ⊎ ((t.kind ≡ Back) ⊎ (t.kind ≡ BareBackquote)) → source_step c Plain o l (held ++ more) ≡ step_by c l l t (held ++ more)
step_held c o l held more some ends t is kinds =
    let closed = closed_kind held t (subst (Row held) (sym is) (token_of-row held)) kinds in
    source_step-plain c o l (held ++ more)
    ∙ ap (λ u. step_by c l l u (held ++ more)) (token_of-append held more some ends (ap (λ (u : Token). u.next_mode) (sym is) ∙ closed) ∙ sym is)

-- what a step takes from the text that is held
pub next_held : (c : Course) (o l : ℕ) (held more : List ℕ) (t : SourceToken) (n : ℕ) → 0 < n → n ≤ length held → t.bytes ≡ take n held → source_step c Plain o l (held ++ more) ≡ Next t
    → source_tokens c Plain o l 0 (held ++ more) ≡ t ∷ source_tokens c Plain l (l + line_ends (take n held)) 0 (drop n held ++ more)
next_held c o l held more t n some fits bytes step =
    let size : length t.bytes ≡ n = ap length bytes ∙ length-take-le n held fits in
    let whole_size = length-append held more in
    source_tokens-next c Plain o l (held ++ more) t (omega arith) step (omega arith)
    ∙ ap (λ i. t ∷ source_tokens c Plain l (l + line_ends (take i (held ++ more))) 0 (drop i (held ++ more))) size
    ∙ ap (λ z. t ∷ source_tokens c Plain l (l + line_ends z) 0 (drop n (held ++ more))) (take-append-le n held more fits)
    ∙ ap (λ z. t ∷ source_tokens c Plain l (l + line_ends (take n held)) 0 z) (drop-append-le n held more fits)

-- `<%` ends the list
pub step-perl : (c : Course) (o l : ℕ) (held more : List ℕ) → 0 < length held → EndsLine held more → (token_of Plain held).kind ≡ Perl
    → source_tokens c Plain o l 0 (held ++ more) ≡ record { sort = Broken PerlFound; bytes = []; line = l } ∷ []
step-perl c o l held more some ends is =
    let t = token_of Plain held in
    let size = length-append held more in
    source_tokens-last c Plain o l (held ++ more) (record { sort = Broken PerlFound; bytes = []; line = l }) (omega arith)
    (step_held c o l held more some ends t refl (inl is) ∙ step_by-perl c l l t (held ++ more) is)

-- a byte of a name is no LF
pub word-line_end : (b : ℕ) → is_word b ≡ true → is_line_end b ≡ false
unfolding is_word is_letter is_digit
word-line_end b h = false_from_ne_true (is_line_end b) (λ e. false≢true (sym (ap is_word (line_end-ten b e)) ∙ h))

abbrev one_if : Bool → ℕ
one_if t = cond t 1 0

-- a run of word bytes has no LF
word-line_ends : (xs : List ℕ) → line_ends (take (prefix_len is_word xs) xs) ≡ 0
unfolding line_ends
word-line_ends [] = refl
word-line_ends (x ∷ xs) =
    let p = prefix_len is_word xs in
    let P : Bool → Type 0 = λ t. is_word x ≡ t → line_ends (take (cond t (1 + p) 0) (x ∷ xs)) ≡ 0 in
    let at_true : P true = λ h.
    let one : 1 + p ≡ suc p = omega arith in
    let none : one_if (is_line_end x) ≡ 0 = ap one_if (word-line_end x h) in
    ap (λ n. line_ends (take n (x ∷ xs))) one ∙ line_ends-cons x (take p xs) ∙ omega (arith, none, word-line_ends xs) in
    let at_false : P false = λ h. refl in
    elim (is_word x) as P [ true ↦ at_true | false ↦ at_false ] refl

-- a backquote and a name have no LF
back-line_ends : (held : List ℕ) (n : ℕ) → eqb (get_or held 0 0) 96 ≡ true → n ≡ suc (prefix_len is_word (drop 1 held)) → line_ends (take n held) ≡ 0
unfolding line_ends is_line_end
back-line_ends [] n h e = ap (λ (i : ℕ). line_ends (take i [])) e
back-line_ends (b ∷ w) n h e = grind (arith, eqb-true, line_ends-cons, word-line_ends)

bare-line_ends : (held : List ℕ) → eqb (get_or held 0 0) 96 ≡ true → line_ends (take 1 held) ≡ 0
unfolding line_ends is_line_end
bare-line_ends [] h = refl
bare-line_ends (b ∷ w) h = grind (arith, eqb-true, line_ends-cons)

bare_byte : (bs : List ℕ) (t : Token) → Row bs t → t.kind ≡ BareBackquote → eqb (get_or bs 0 0) 96 ≡ true
unfolding whole is_plain_kind
bare_byte bs t (AtPerl h e) k = let i = ap (λ (u : Token). u.kind) e in absurd (cc)
bare_byte bs t (AtLineComment h e) k = absurd (cc)
bare_byte bs t (AtBlockComment h e) k = absurd (cc)
bare_byte bs t (AtString h e) k = absurd (cc)
bare_byte bs t (AtBack h e) k = h
bare_byte bs t (AtBare h g e) k = h
bare_byte bs t (AtPlain h q) k = absurd (false≢true (sym (ap is_plain_kind k) ∙ h))

-- a backquote without a name
pub step-bare : (c : Course) (o l : ℕ) (held more : List ℕ) → 0 < length held → EndsLine held more → (token_of Plain held).kind ≡ BareBackquote
    → source_tokens c Plain o l 0 (held ++ more) ≡ record { sort = Ordinary BareBackquote; bytes = take 1 held; line = l } ∷ source_tokens c Plain l l 0 (drop 1 held ++ more)
step-bare c o l held more some ends is =
    let t = token_of Plain held in
    let row = token_of-row held in
    let tok : SourceToken = record { sort = Ordinary BareBackquote; bytes = take 1 held; line = l } in
    let own : take t.len (held ++ more) ≡ take 1 held = ap (λ n. take n (held ++ more)) (bare_len held t row is) ∙ take-append-le 1 held more (omega arith) in
    let step : source_step c Plain o l (held ++ more) ≡ Next tok =
    step_held c o l held more some ends t refl (inr (inr is)) ∙ step_by-bare c l l t (held ++ more) is ∙ ap (λ z. Next (record { sort = Ordinary BareBackquote; bytes = z; line = l })) own in
    let lines : l + line_ends (take 1 held) ≡ l = omega (arith, bare-line_ends held (bare_byte held t row is)) in
    next_held c o l held more tok 1 (omega arith) (omega arith) refl step ∙ ap (λ k. tok ∷ source_tokens c Plain l k 0 (drop 1 held ++ more)) lines

-- what a backquote with a name is
record IsBack (bs : List ℕ) (t : Token) : Type 0 where
  byte : eqb (get_or bs 0 0) 96 ≡ true
  len : t.len ≡ suc (prefix_len is_word (drop 1 bs))

back_row : (bs : List ℕ) (t : Token) → Row bs t → t.kind ≡ Back → IsBack bs t
unfolding whole is_plain_kind
back_row bs t (AtPerl h e) k = let i = ap (λ (u : Token). u.kind) e in absurd (cc)
back_row bs t (AtLineComment h e) k = absurd (cc)
back_row bs t (AtBlockComment h e) k = absurd (cc)
back_row bs t (AtString h e) k = absurd (cc)
back_row bs t (AtBack h e) k = record { byte = h; len = ap (λ (u : Token). u.len) e }
back_row bs t (AtBare h g e) k = let i = ap (λ (u : Token). u.kind) e in absurd (cc)
back_row bs t (AtPlain h q) k = absurd (false≢true (sym (ap is_plain_kind k) ∙ h))

-- a step at a backquote with a name, by that name
pub back_held : (c : Course) (o l : ℕ) (held more : List ℕ) → 0 < length held → EndsLine held more → (token_of Plain held).kind ≡ Back
    → source_step c Plain o l (held ++ more)
    ≡ cond (bytes_eq (take (token_of Plain held).len held) (codes "`define")) (define_step c l (held ++ more))
    (cond (bytes_eq (take (token_of Plain held).len held) (codes "`line")) (line_step l (held ++ more)) (Next (record { sort = Ordinary Back; bytes = take (token_of Plain held).len held; line = l })))
unfolding back_step
back_held c o l held more some ends is = grind (arith, take-append-le, token_of-part, step_held, step_by-back)

-- a backquote with a name that is neither `define` nor `line`
pub step-back : (c : Course) (o l : ℕ) (held more : List ℕ) → 0 < length held → EndsLine held more → (token_of Plain held).kind ≡ Back
    → bytes_eq (take (token_of Plain held).len held) (codes "`define") ≡ false → bytes_eq (take (token_of Plain held).len held) (codes "`line") ≡ false
    → source_tokens c Plain o l 0 (held ++ more)
    ≡ record { sort = Ordinary Back; bytes = take (token_of Plain held).len held; line = l } ∷ source_tokens c Plain l l 0 (drop (token_of Plain held).len held ++ more)
step-back c o l held more some ends is other also =
    let t = token_of Plain held in
    let bs = held ++ more in
    let part = token_of-part Plain held some in
    let row = back_row held t (token_of-row held) is in
    let tok : SourceToken = record { sort = Ordinary Back; bytes = take t.len held; line = l } in
    let line = bytes_eq (take t.len held) (codes "`line") in
    let step : source_step c Plain o l bs ≡ Next tok =
    back_held c o l held more some ends is ∙ ap (λ b. cond b (define_step c l bs) (cond line (line_step l bs) (Next tok))) other ∙ ap (λ b. cond b (line_step l bs) (Next tok)) also in
    let lines : l + line_ends (take t.len held) ≡ l = omega (arith, back-line_ends held t.len row.byte row.len) in
    next_held c o l held more tok t.len part.not_empty part.inside refl step ∙ ap (λ k. tok ∷ source_tokens c Plain l k 0 (drop t.len held ++ more)) lines

-- a `define` whose logical line ends
pub define_step-some : (c : Course) (l : ℕ) (bs : List ℕ) (n : ℕ) → logical_len 0 0 bs ≡ Some n → n ≤ c.most → define_step c l bs ≡ Next (record { sort = Definition; bytes = take n bs; line = l })
unfolding define_step
define_step-some c l bs n is fits = grind (arith, le-ltb)

-- a `define` whose text ends
pub define_step-none : (c : Course) (l : ℕ) (bs : List ℕ) → logical_len 0 0 bs ≡ None → c.break ≡ None → length bs ≤ c.most → define_step c l bs ≡ Next (record { sort = Definition; bytes = bs; line = l })
unfolding define_step
define_step-none c l bs is last fits = grind (arith, le-ltb)

-- A step at a string, at a comment, and at any token that is closed.

-- a step is by the first token
pub source_step-by : (c : Course) (m : Mode) (o l : ℕ) (bs : List ℕ) → source_step c m o l bs ≡ step_by c (opening m o l) l (token_of m bs) bs
unfolding source_step opening
source_step-by c Plain o l bs = refl
source_step-by c _ o l bs = refl

-- a kind whose tokens stand in the list as they are, where they are closed
unfoldable pub is_kept_kind : Kind → Bool
is_kept_kind Perl = false
is_kept_kind Back = false
is_kept_kind _ = true

step_by-kept : (c : Course) (o l : ℕ) (k : Kind) (n : ℕ) (bs : List ℕ) → is_kept_kind k ≡ true → step_by c o l (record { kind = k; len = n; next_mode = Plain }) bs ≡ Next (record { sort = Ordinary k; bytes = take n bs; line = l })
unfolding step_by string_step comment_step is_kept_kind
step_by-kept c o l Perl n bs h = absurd (false≢true h)
step_by-kept c o l Back n bs h = absurd (false≢true h)
step_by-kept c o l _ n bs h = refl

-- a closed token
step_by-closed : (c : Course) (o l : ℕ) (t : Token) (bs : List ℕ) → is_kept_kind t.kind ≡ true → t.next_mode ≡ Plain → step_by c o l t bs ≡ Next (record { sort = Ordinary t.kind; bytes = take t.len bs; line = l })
step_by-closed c o l t bs h closed =
    subst (λ (m : Mode). step_by c o l (record { kind = t.kind; len = t.len; next_mode = m }) bs ≡ Next (record { sort = Ordinary t.kind; bytes = take t.len bs; line = l })) (sym closed) (step_by-kept c o l t.kind t.len bs h)

-- the first token of the text in front of a cut is that of the whole text, where it doesn't go over the cut
seam_same : (xs ys : List ℕ) (t u : Token) → (t.next_mode ≡ Plain) ⊎ (t.len < length xs) → Seam xs ys t u → u ≡ t
seam_same xs ys t u h (Closed e closed) = e
seam_same xs ys t u h (BeforePerl e is lt perl) = e
seam_same xs ys t u h (OpenString is e) = grind arith
seam_same xs ys t u h (OpenComment is e) = grind arith

-- a token that is closed in what is held
pub step-closed : (c : Course) (m : Mode) (o l : ℕ) (held more : List ℕ) → 0 < length held → IsCut held more → is_kept_kind (token_of m held).kind ≡ true → (token_of m held).next_mode ≡ Plain
    → source_tokens c m o l 0 (held ++ more)
    ≡ record { sort = Ordinary (token_of m held).kind; bytes = take (token_of m held).len held; line = l }
    ∷ source_tokens c Plain l (l + line_ends (take (token_of m held).len held)) 0 (drop (token_of m held).len held ++ more)
step-closed c m o l held more some cut kept closed =
    let t = token_of m held in
    let bs = held ++ more in
    let part = token_of-part m held some in
    let both = length-append held more in
    let same = seam_same held more t (token_of m bs) (inl closed) (token_of-seam m held more some cut) in
    let tok : SourceToken = record { sort = Ordinary t.kind; bytes = take t.len held; line = l } in
    let step : source_step c m o l bs ≡ Next tok =
    source_step-by c m o l bs ∙ ap (λ u. step_by c (opening m o l) l u bs) same ∙ step_by-closed c (opening m o l) l t bs kept closed
    ∙ ap (λ z. Next (record { sort = Ordinary t.kind; bytes = z; line = l })) (take-append-le t.len held more part.inside) in
    let size : length (take t.len held) ≡ t.len = length-take-le t.len held part.inside in
    source_tokens-next c m o l bs tok (omega arith) step (omega (arith, size, part.not_empty))
    ∙ ap (λ i. tok ∷ source_tokens c Plain l (l + line_ends (take i bs)) 0 (drop i bs)) size
    ∙ ap (λ z. tok ∷ source_tokens c Plain l (l + line_ends z) 0 (drop t.len bs)) (take-append-le t.len held more part.inside)
    ∙ ap (λ z. tok ∷ source_tokens c Plain l (l + line_ends (take t.len held)) 0 z) (drop-append-le t.len held more part.inside)

open_end-with : (c : Course) (k : Breach) (o l : ℕ) (p own : List ℕ) → open_end c k o l (p ++ own) ≡ onto_step p l (open_end c k o (l + line_ends p) own)
unfolding open_end onto_step with_part line_with broken
open_end-with c k o l p own = grind (arith, line_ends-append)

string_open-by : (c : Course) (o l : ℕ) (p more : List ℕ) (n : ℕ)
    → cond (ltb (length p + n) (length (p ++ more))) (broken PerlFound (take (length p + n) (p ++ more)) (l + line_ends (take (length p + n) (p ++ more)))) (open_end c StringOpen o l (take (length p + n) (p ++ more)))
    ≡ onto_step p l (cond (ltb n (length more)) (broken PerlFound (take n more) (l + line_ends p + line_ends (take n more))) (open_end c StringOpen o (l + line_ends p) (take n more)))
unfolding onto_step with_part line_with broken
string_open-by c o l p more n =
    let own = take n more in
    let lines : l + line_ends (p ++ own) ≡ l + line_ends p + line_ends own = omega (arith, line_ends-append p own) in
    ap (λ b. cond b (broken PerlFound (take (length p + n) (p ++ more)) (l + line_ends (take (length p + n) (p ++ more)))) (open_end c StringOpen o l (take (length p + n) (p ++ more))))
    (ltb-moved (length p) n (length more) (length (p ++ more)) (length-append p more))
    ∙ ap (λ z. cond (ltb n (length more)) (broken PerlFound z (l + line_ends z)) (open_end c StringOpen o l z)) (take-append-add p more n)
    ∙ elim (ltb n (length more)) as (λ b. cond b (broken PerlFound (p ++ own) (l + line_ends (p ++ own))) (open_end c StringOpen o l (p ++ own))
    ≡ onto_step p l (cond b (broken PerlFound own (l + line_ends p + line_ends own)) (open_end c StringOpen o (l + line_ends p) own))) [
      | true ↦ ap (broken PerlFound (p ++ own)) lines
      | false ↦ open_end-with c StringOpen o l p own
    ]

-- the rest of a string, and the string with the part in front of it
string_step-by : (c : Course) (o l : ℕ) (p more : List ℕ) (k : Kind) (n : ℕ) (m : Mode)
    → string_step c o l (record { kind = k; len = length p + n; next_mode = m }) (p ++ more) ≡ onto_step p l (string_step c o (l + line_ends p) (record { kind = k; len = n; next_mode = m }) more)
unfolding string_step onto_step with_part line_with broken
string_step-by c o l p more k n Plain = ap (λ z. Next (record { sort = Ordinary k; bytes = z; line = l })) (take-append-add p more n)
string_step-by c o l p more k n _ = string_open-by c o l p more n

string_step-with : (c : Course) (o l : ℕ) (p more : List ℕ) (v : Token) → string_step c o l (longer (length p) v) (p ++ more) ≡ onto_step p l (string_step c o (l + line_ends p) v more)
string_step-with c o l p more v = string_step-by c o l p more v.kind v.len v.next_mode

-- the same of a block comment
comment_step-by : (c : Course) (o l : ℕ) (p more : List ℕ) (k : Kind) (n : ℕ) (m : Mode)
    → comment_step c o l (record { kind = k; len = length p + n; next_mode = m }) (p ++ more) ≡ onto_step p l (comment_step c o (l + line_ends p) (record { kind = k; len = n; next_mode = m }) more)
unfolding comment_step onto_step with_part line_with
comment_step-by c o l p more k n Plain = ap (λ z. Next (record { sort = Ordinary k; bytes = z; line = l })) (take-append-add p more n)
comment_step-by c o l p more k n _ = ap (open_end c CommentOpen o l) (take-append-add p more n) ∙ open_end-with c CommentOpen o l p (take n more)

comment_step-with : (c : Course) (o l : ℕ) (p more : List ℕ) (v : Token) → comment_step c o l (longer (length p) v) (p ++ more) ≡ onto_step p l (comment_step c o (l + line_ends p) v more)
comment_step-with c o l p more v = comment_step-by c o l p more v.kind v.len v.next_mode

step_by-string : (c : Course) (o l : ℕ) (t : Token) (bs : List ℕ) → t.kind ≡ Str → step_by c o l t bs ≡ string_step c o l t bs
unfolding step_by
step_by-string c o l t bs is = subst (λ (k : Kind). step_by c o l (record { kind = k; len = t.len; next_mode = t.next_mode }) bs ≡ string_step c o l (record { kind = k; len = t.len; next_mode = t.next_mode }) bs) (sym is) refl

step_by-comment : (c : Course) (o l : ℕ) (t : Token) (bs : List ℕ) → t.kind ≡ BlockComment → step_by c o l t bs ≡ comment_step c o l t bs
unfolding step_by
step_by-comment c o l t bs is = subst (λ (k : Kind). step_by c o l (record { kind = k; len = t.len; next_mode = t.next_mode }) bs ≡ comment_step c o l (record { kind = k; len = t.len; next_mode = t.next_mode }) bs) (sym is) refl

-- what a step at the rest of a string or of a comment is: the last, or one with bytes
pub data IsStep (more : List ℕ) (s : Step) : Type 0 where
  IsLast : (t : SourceToken) → s ≡ Last t → IsStep more s
  IsNext : (t : SourceToken) → s ≡ Next t → 0 < length t.bytes → 0 < length more → IsStep more s

-- what stands at the end of a text where a step is the last
unfoldable pub end_of : Step → List SourceToken
end_of (Last t) = t ∷ []
end_of (Next t) = []

-- a part, and the rest of its token after it
module _ (c : Course) (m e : Mode) (o l : ℕ) (held more : List ℕ) (s : Step) (some : 0 < length held)
    (step : source_step c m o l (held ++ more) ≡ onto_step held l s)
    (rest : 0 < length more → source_step c e (opening m o l) (l + line_ends held) more ≡ s)
    (ended : ((more ≡ []) × (source_end c e (opening m o l) (l + line_ends held) ≡ end_of s)) ⊎ (0 < length more)) where
  resumed_last : (t : SourceToken) → s ≡ Last t → source_tokens c e (opening m o l) (l + line_ends held) 0 more ≡ t ∷ []
  unfolding source_tokens end_of
  resumed_last t is = grind (arith, end_of, source_tokens-last)

  resumed_next : (t : SourceToken) → s ≡ Next t → 0 < length t.bytes → 0 < length more
      → source_tokens c m o l 0 (held ++ more) ≡ with_part held l t ∷ source_tokens c Plain (l + line_ends held) (l + line_ends held + line_ends (take (length t.bytes) more)) 0 (drop (length t.bytes) more)
  unfolding onto_step with_part
  resumed_next t is long there =
      let bs = held ++ more in
      let j = length t.bytes in
      let next = l + line_ends held in
      let W = with_part held l t in
      let both = length-append held more in
      let size : length (held ++ t.bytes) ≡ length held + j = length-append held t.bytes in
      let lines : l + line_ends (held ++ take j more) ≡ next + line_ends (take j more) = omega (arith, line_ends-append held (take j more)) in
      source_tokens-next c m o l bs W (omega arith) (step ∙ ap (onto_step held l) is) (omega (arith, size))
      ∙ ap (λ i. W ∷ source_tokens c Plain l (l + line_ends (take i bs)) 0 (drop i bs)) size
      ∙ ap (λ z. W ∷ source_tokens c Plain l (l + line_ends z) 0 (drop (length held + j) bs)) (take-append-add held more j)
      ∙ ap (λ z. W ∷ source_tokens c Plain l (l + line_ends (held ++ take j more)) 0 z) (drop-append-add held more j)
      ∙ ap (λ k. W ∷ source_tokens c Plain l k 0 (drop j more)) lines
      ∙ ap (λ ts. W ∷ ts) (source_tokens-opened c l next (next + line_ends (take j more)) 0 (drop j more))

  -- the tokens of both, by the step at the rest
  pub resumed : IsStep more s → source_tokens c m o l 0 (held ++ more) ≡ onto_tokens held l (source_tokens c e (opening m o l) (l + line_ends held) 0 more)
  unfolding onto_tokens onto_step
  resumed (IsLast t is) = grind (arith, length-append, source_tokens-last, resumed_last)
  resumed (IsNext t is long there) = grind (arith, resumed_next, source_tokens-next)

-- a step at the rest of a string, where something stands
pub string_rest : (c : Course) (o l : ℕ) (more : List ℕ) → 0 < length more → source_step c InStr o l more ≡ string_step c o l (string_token 0 more) more
unfolding source_step token_of step_by whole string_step broken line_ends
string_rest c o l more there = grind (arith, perl_rest, lt-ltb, step_by-string, string_token-kind, cases_Bool)

-- where a text ends in a string
string_end : (c : Course) (o l : ℕ) → source_end c InStr o l ≡ end_of (string_step c o l (string_token 0 []) [])
unfolding source_end string_step string_token string_stop open_end broken end_of line_ends
string_end c o l = refl

open_end-last : (c : Course) (k : Breach) (o l : ℕ) (own more : List ℕ) → IsStep more (open_end c k o l own)
unfolding open_end broken
open_end-last c k o l own more = elim c.break as (λ b. IsStep more (elim b [ None ↦ broken k own o | Some d ↦ broken d.breach own (l + line_ends own) ])) [ None ↦ IsLast _ refl | Some d ↦ IsLast _ refl ]

string_open-last : (c : Course) (o l : ℕ) (k : Kind) (n : ℕ) (more : List ℕ) → IsStep more (string_step c o l (record { kind = k; len = n; next_mode = InStr }) more)
unfolding string_step broken
string_open-last c o l k n more =
    let own = take n more in
    elim (ltb n (length more)) as (λ b. IsStep more (cond b (broken PerlFound own (l + line_ends own)) (open_end c StringOpen o l own))) [ true ↦ IsLast _ refl | false ↦ open_end-last c StringOpen o l own more ]

string_closed-next : (c : Course) (o l : ℕ) (k : Kind) (n : ℕ) (more : List ℕ) → 0 < n → n ≤ length more → IsStep more (string_step c o l (record { kind = k; len = n; next_mode = Plain }) more)
unfolding string_step
string_closed-next c o l k n more some fits = let size = length-take-le n more fits in IsNext _ refl (omega (arith, size)) (omega arith)

-- a string goes on or is closed
string_token-mode : (from : ℕ) (bs : List ℕ) → ((string_token from bs).next_mode ≡ Plain) ⊎ ((string_token from bs).next_mode ≡ InStr)
unfolding string_token whole
string_token-mode from bs = cond_both (eqb (get_or bs (from + string_stop false (drop from bs)) 0) 34) _ _ (λ (t : Token). (t.next_mode ≡ Plain) ⊎ (t.next_mode ≡ InStr)) (λ _. inl refl) (λ _. inr refl)

closed_string-fits : (more : List ℕ) → (string_token 0 more).next_mode ≡ Plain → (0 < (string_token 0 more).len) × ((string_token 0 more).len ≤ length more)
unfolding string_token whole
closed_string-fits more h = grind (arith, inside_of, eqb-true)

-- a step at the rest of a string is one of the two
string_is_step : (c : Course) (o l : ℕ) (more : List ℕ) → IsStep more (string_step c o l (string_token 0 more) more)
unfolding token_of
string_is_step c o l more =
    let v = string_token 0 more in
    let P : Mode → Type 0 = λ m. IsStep more (string_step c o l (record { kind = v.kind; len = v.len; next_mode = m }) more) in
    let goes_on : v.next_mode ≡ InStr → P v.next_mode = λ h. subst P (sym h) (string_open-last c o l v.kind v.len more) in
    let closed : v.next_mode ≡ Plain → P v.next_mode = λ h. let fits = closed_string-fits more h in subst P (sym h) (string_closed-next c o l v.kind v.len more fits.0 fits.1) in
    ⊎_elim closed goes_on (string_token-mode 0 more)

-- a string that goes over a cut
open_seam-string : (xs ys : List ℕ) (t u : Token) → t.next_mode ≡ InStr → t.len ≡ length xs → Seam xs ys t u → u ≡ longer (length xs) (string_token 0 ys)
open_seam-string xs ys t u mode len (Closed e closed) = absurd (cc)
open_seam-string xs ys t u mode len (BeforePerl e is lt perl) = absurd (omega arith)
open_seam-string xs ys t u mode len (OpenString is e) = e
open_seam-string xs ys t u mode len (OpenComment is e) = let other = ap (λ (v : Token). v.next_mode) is in absurd (cc)

-- a string that is open in what is held: what is held of it, in front of the tokens of the rest
pub step-open_string : (c : Course) (m : Mode) (o l : ℕ) (held more : List ℕ) → 0 < length held → IsCut held more → (token_of m held).next_mode ≡ InStr → (token_of m held).len ≡ length held
    → source_tokens c m o l 0 (held ++ more) ≡ onto_tokens held l (source_tokens c InStr (opening m o l) (l + line_ends held) 0 more)
step-open_string c m o l held more some cut mode len =
    let bs = held ++ more in
    let O = opening m o l in
    let next = l + line_ends held in
    let v = string_token 0 more in
    let u = open_seam-string held more (token_of m held) (token_of m bs) mode len (token_of-seam m held more some cut) in
    let step : source_step c m o l bs ≡ onto_step held l (string_step c O next v more) =
    source_step-by c m o l bs ∙ ap (λ w. step_by c O l w bs) u ∙ step_by-string c O l (longer (length held) v) bs (string_token-kind 0 more) ∙ string_step-with c O l held more v in
    let P : List ℕ → Type 0 = λ z. ((z ≡ []) × (source_end c InStr O next ≡ end_of (string_step c O next (string_token 0 z) z))) ⊎ (0 < length z) in
    let ended : P more = elim more as P [ [] ↦ inl (refl, string_end c O next) | z ∷ zs ↦ inr (omega arith) ] in
    resumed c m InStr o l held more (string_step c O next v more) some step (λ there. string_rest c O next more there) ended (string_is_step c O next more)

-- the same of a block comment
comment_end : (c : Course) (o l : ℕ) → source_end c InBlock o l ≡ end_of (comment_step c o l (block_token 0 []) [])
unfolding source_end comment_step block_token first_place open_end broken end_of line_ends
comment_end c o l = refl

comment_by_mode : (c : Course) (o l : ℕ) (k : Kind) (n : ℕ) (m : Mode) (more : List ℕ) → (m ≡ Plain → (0 < n) × (n ≤ length more)) → IsStep more (comment_step c o l (record { kind = k; len = n; next_mode = m }) more)
unfolding comment_step
comment_by_mode c o l k n Plain more fits =
    let p = fits refl in let size = length-take-le n more p.1 in IsNext _ refl (omega (arith, size, p.0)) (omega (arith, p.0, p.1))
comment_by_mode c o l k n _ more fits = open_end-last c CommentOpen o l (take n more) more

closed_comment-fits : (more : List ℕ) → (block_token 0 more).next_mode ≡ Plain → (0 < (block_token 0 more).len) × ((block_token 0 more).len ≤ length more)
unfolding token_of block_token first_place
closed_comment-fits [] closed = absurd (cc)
closed_comment-fits (z ∷ zs) closed = let part = token_of-part InBlock (z ∷ zs) (omega arith) in (part.not_empty, part.inside)

pub comment_rest : (c : Course) (o l : ℕ) (more : List ℕ) → source_step c InBlock o l more ≡ comment_step c o l (block_token 0 more) more
unfolding source_step token_of
comment_rest c o l more = step_by-comment c o l (block_token 0 more) more (block_token-kind 0 more)

open_seam-comment : (xs ys : List ℕ) (t u : Token) → t.next_mode ≡ InBlock → Seam xs ys t u → u ≡ longer (length xs) (block_token 0 ys)
open_seam-comment xs ys t u mode (Closed e closed) = absurd (cc)
open_seam-comment xs ys t u mode (BeforePerl e is lt perl) = let other = ap (λ (v : Token). v.next_mode) is in absurd (cc)
open_seam-comment xs ys t u mode (OpenString is e) = let other = ap (λ (v : Token). v.next_mode) is in absurd (cc)
open_seam-comment xs ys t u mode (OpenComment is e) = e

-- a block comment that is open in what is held: what is held of it, in front of the tokens of the rest
pub step-open_comment : (c : Course) (m : Mode) (o l : ℕ) (held more : List ℕ) → 0 < length held → IsCut held more → (token_of m held).next_mode ≡ InBlock
    → source_tokens c m o l 0 (held ++ more) ≡ onto_tokens held l (source_tokens c InBlock (opening m o l) (l + line_ends held) 0 more)
step-open_comment c m o l held more some cut mode =
    let bs = held ++ more in
    let O = opening m o l in
    let next = l + line_ends held in
    let v = block_token 0 more in
    let u = open_seam-comment held more (token_of m held) (token_of m bs) mode (token_of-seam m held more some cut) in
    let step : source_step c m o l bs ≡ onto_step held l (comment_step c O next v more) =
    source_step-by c m o l bs ∙ ap (λ w. step_by c O l w bs) u ∙ step_by-comment c O l (longer (length held) v) bs (block_token-kind 0 more) ∙ comment_step-with c O l held more v in
    let P : List ℕ → Type 0 = λ z. ((z ≡ []) × (source_end c InBlock O next ≡ end_of (comment_step c O next (block_token 0 z) z))) ⊎ (0 < length z) in
    let ended : P more = elim more as P [ [] ↦ inl (refl, comment_end c O next) | z ∷ zs ↦ inr (omega arith) ] in
    resumed c m InBlock o l held more (comment_step c O next v more) some step (λ there. comment_rest c O next more) ended
    (comment_by_mode c O next v.kind v.len v.next_mode more (closed_comment-fits more))

-- a string that `<%` cuts in what is held
pub step-cut_string : (c : Course) (m : Mode) (o l : ℕ) (held more : List ℕ) → 0 < length held → IsCut held more → (token_of m held).kind ≡ Str → (token_of m held).next_mode ≡ InStr → (token_of m held).len < length held
    → source_tokens c m o l 0 (held ++ more)
    ≡ record { sort = Broken PerlFound; bytes = take (token_of m held).len held; line = l + line_ends (take (token_of m held).len held) } ∷ []
unfolding string_step broken
step-cut_string c m o l held more some cut kind mode lt =
    let t = token_of m held in
    let bs = held ++ more in
    let O = opening m o l in
    let both = length-append held more in
    let own = take t.len bs in
    let same = seam_same held more t (token_of m bs) (inr lt) (token_of-seam m held more some cut) in
    let S : Mode → Step = λ d. string_step c O l (record { kind = t.kind; len = t.len; next_mode = d }) bs in
    let step : source_step c m o l bs ≡ broken PerlFound own (l + line_ends own) =
    source_step-by c m o l bs ∙ ap (λ u. step_by c O l u bs) same ∙ step_by-string c O l t bs kind ∙ ap S mode
    ∙ ap (λ b. cond b (broken PerlFound own (l + line_ends own)) (open_end c StringOpen O l own)) (lt-ltb t.len (length bs) (omega arith)) in
    source_tokens-last c m o l bs _ (omega arith) step
    ∙ ap (λ z. record { sort = Broken PerlFound; bytes = z; line = l + line_ends z } ∷ []) (take-append-le t.len held more (omega arith))

-- A step at a `define` with its logical line, and at a `line` with its line.

-- a logical line has a byte, and lies in its text
pub logical_len-within : (x y : ℕ) (bs : List ℕ) (n : ℕ) → logical_len x y bs ≡ Some n → (0 < n) × (n ≤ length bs)
unfolding logical_len
logical_len-within x y [] n h = absurd (cc)
logical_len-within x y (b ∷ bs) n h =
    let P : Bool → Type 0 = λ t. cond t (Some 1) (option_map suc (logical_len y b bs)) ≡ Some n → (0 < n) × (n ≤ suc (length bs)) in
    let at_true : P true = λ e. let one : 1 ≡ n = cc in (omega arith, omega arith) in
    let at_false : P false = λ e. let p = some_suc (logical_len y b bs) n e in let rest = logical_len-within y b bs p.0 p.1.0 in (omega (arith, p.1.1), omega (arith, p.1.1, rest.1)) in
    elim (is_line_end b && not (is_continued x y)) as P [ true ↦ at_true | false ↦ at_false ] h

-- a logical line has at least the first line
pub logical_len-line_le : (x y : ℕ) (bs : List ℕ) (n : ℕ) → logical_len x y bs ≡ Some n → line_len bs ≤ n
unfolding logical_len line_len
logical_len-line_le x y [] n h = absurd (cc)
logical_len-line_le x y (b ∷ bs) n h =
    let L = logical_len y b bs in
    let P : Bool → Type 0 = λ t. cond (t && not (is_continued x y)) (Some 1) (option_map suc L) ≡ Some n → 0 < n → cond t 1 (suc (line_len bs)) ≤ n in
    let at_true : P true = λ _ some. omega arith in
    let at_false : P false = λ e some. let p = some_suc L n e in omega (arith, p.1.1, logical_len-line_le y b bs p.0 p.1.0) in
    elim (is_line_end b) as P [ true ↦ at_true | false ↦ at_false ] h (logical_len-within x y (b ∷ bs) n h).0

-- a logical line that isn't ended in front of a text has at least the first line of that text
pub logical_len-beyond : (x y : ℕ) (xs ys : List ℕ) (n : ℕ) → logical_len x y xs ≡ None → logical_len x y (xs ++ ys) ≡ Some n → length xs + line_len ys ≤ n
unfolding logical_len
logical_len-beyond x y [] ys n none h = omega (arith, logical_len-line_le x y ys n h)
logical_len-beyond x y (b ∷ xs) ys n none h =
    let P : Bool → Type 0 = λ t. cond t (Some 1) (option_map suc (logical_len y b xs)) ≡ None → cond t (Some 1) (option_map suc (logical_len y b (xs ++ ys))) ≡ Some n → suc (length xs) + line_len ys ≤ n in
    let at_true : P true = λ e _. absurd (cc) in
    let at_false : P false = λ e f. let p = some_suc (logical_len y b (xs ++ ys)) n f in omega (arith, p.1.1, logical_len-beyond y b xs ys p.0 (none_suc (logical_len y b xs) e) p.1.0) in
    elim (is_line_end b && not (is_continued x y)) as P [ true ↦ at_true | false ↦ at_false ] none h

-- where a text begins with the word `define`
pub record BeginsDefine (c : Course) (held more : List ℕ) : Type 0 where
  pub some : 0 < length held
  pub ends : EndsLine held more
  pub kind : (token_of Plain held).kind ≡ Back
  pub word : bytes_eq (take (token_of Plain held).len held) (codes "`define") ≡ true

define_here : (c : Course) (o l : ℕ) (held more : List ℕ) → BeginsDefine c held more → source_step c Plain o l (held ++ more) ≡ define_step c l (held ++ more)
define_here c o l held more d = grind (arith, back_held)

define_long : (c : Course) (l : ℕ) (bs : List ℕ) (n : ℕ) → logical_len 0 0 bs ≡ Some n → c.most < n → define_step c l bs ≡ broken DefineLong [] l
unfolding define_step
define_long c l bs n is long = grind (arith, lt-ltb)

-- what a `define` gives whose logical line doesn't end in the text, by what breaks the source after it
at_break : Course → ℕ → List ℕ → Option Break → Step
at_break c l bs None = cond (ltb c.most (length bs)) (broken DefineLong [] l) (Next (record { sort = Definition; bytes = bs; line = l }))
at_break c l bs (Some k) = cond (ltb c.most (length bs + k.len)) (broken DefineLong [] l) (broken DefineCut [] l)

define_open : (c : Course) (l : ℕ) (bs : List ℕ) → logical_len 0 0 bs ≡ None → define_step c l bs ≡ at_break c l bs c.break
unfolding define_step at_break
define_open c l bs is = grind arith

broken_here : (c : Course) (o l : ℕ) (held more : List ℕ) (k : Breach) → 0 < length held → source_step c Plain o l (held ++ more) ≡ broken k [] l → source_tokens c Plain o l 0 (held ++ more) ≡ record { sort = Broken k; bytes = []; line = l } ∷ []
unfolding broken
broken_here c o l held more k some is = source_tokens-last c Plain o l (held ++ more) (record { sort = Broken k; bytes = []; line = l }) (omega (arith, length-append held more)) is

-- a `define` whose logical line ends in what is held
pub step-logical : (c : Course) (o l : ℕ) (held more : List ℕ) (n : ℕ) → BeginsDefine c held more → logical_len 0 0 held ≡ Some n → n ≤ c.most
    → source_tokens c Plain o l 0 (held ++ more)
    ≡ record { sort = Definition; bytes = take n held; line = l } ∷ source_tokens c Plain l (l + line_ends (take n held)) 0 (drop n held ++ more)
step-logical c o l held more n d is fits =
    let within = logical_len-within 0 0 held n is in
    let made : List ℕ → Step = λ z. Next (record { sort = Definition; bytes = z; line = l }) in
    next_held c o l held more (record { sort = Definition; bytes = take n held; line = l }) n within.0 within.1 refl
    (define_here c o l held more d ∙ define_step-some c l (held ++ more) n (logical_len-append 0 0 held more n is) fits ∙ ap made (take-append-le n held more within.1))

-- a `define` whose logical line goes on, and is too long with the next line
pub step-logical_full : (c : Course) (o l : ℕ) (held more : List ℕ) → BeginsDefine c held more → logical_len 0 0 held ≡ None → 0 < length more → c.most < length held + line_len more
    → source_tokens c Plain o l 0 (held ++ more) ≡ record { sort = Broken DefineLong; bytes = []; line = l } ∷ []
unfolding at_break
step-logical_full c o l held more d is some long =
    let bs = held ++ more in
    let size = length-append held more in
    let line = line_len-le more in
    let P : Option ℕ → Type 0 = λ r. logical_len 0 0 bs ≡ r → define_step c l bs ≡ broken DefineLong [] l in
    let ended : (n : ℕ) → P (Some n) = λ n e. define_long c l bs n e (omega (arith, logical_len-beyond 0 0 held more n is e)) in
    let goes : P None = λ e. define_open c l bs e ∙ elim c.break as (λ b. at_break c l bs b ≡ broken DefineLong [] l) [
      | None ↦ ap (λ t. cond t (broken DefineLong [] l) (Next (record { sort = Definition; bytes = bs; line = l }))) (lt-ltb c.most (length bs) (omega arith))
      | Some k ↦ ap (λ t. cond t (broken DefineLong [] l) (broken DefineCut [] l)) (lt-ltb c.most (length bs + k.len) (omega arith))
    ] in
    broken_here c o l held more DefineLong d.some (define_here c o l held more d ∙ elim (logical_len 0 0 bs) as P [ Some n ↦ ended n | None ↦ goes ] refl)

-- a `define` at the end of a source
pub step-logical_last : (c : Course) (o l : ℕ) (held : List ℕ) → BeginsDefine c held [] → logical_len 0 0 held ≡ None → c.break ≡ None → length held ≤ c.most
    → source_tokens c Plain o l 0 held ≡ record { sort = Definition; bytes = held; line = l } ∷ source_tokens c Plain l (l + line_ends held) 0 []
step-logical_last c o l held d is last fits =
    let tok : SourceToken = record { sort = Definition; bytes = held; line = l } in
    let bare = append-nil held in
    let all : take (length held) held ≡ held = take-length held in
    let gone : drop (length held) held ++ [] ≡ [] = ap (λ z. z ++ []) (drop_all (length held) held (omega arith)) in
    let step : source_step c Plain o l (held ++ []) ≡ Next tok =
    define_here c o l held [] d ∙ ap (define_step c l) bare ∙ define_step-none c l held is last fits in
    ap (source_tokens c Plain o l 0) (sym bare) ∙ next_held c o l held [] tok (length held) d.some (omega arith) (sym all) step
    ∙ ap (λ z. tok ∷ source_tokens c Plain l (l + line_ends z) 0 (drop (length held) held ++ [])) all ∙ ap (λ z. tok ∷ source_tokens c Plain l (l + line_ends held) 0 z) gone

-- a `define` in whose logical line a source breaks
pub step-logical_broken : (c : Course) (o l : ℕ) (held : List ℕ) (k : Break) → BeginsDefine c held [] → logical_len 0 0 held ≡ None → c.break ≡ Some k
    → source_tokens c Plain o l 0 held ≡ record { sort = Broken (cond (ltb c.most (length held + k.len)) DefineLong DefineCut); bytes = []; line = l } ∷ []
unfolding at_break
step-logical_broken c o l held k d is breaks =
    let bare = append-nil held in
    let long = ltb c.most (length held + k.len) in
    let picked : cond long (broken DefineLong [] l) (broken DefineCut [] l) ≡ broken (cond long DefineLong DefineCut) [] l =
    elim long as (λ t. cond t (broken DefineLong [] l) (broken DefineCut [] l) ≡ broken (cond t DefineLong DefineCut) [] l) [ true ↦ refl | false ↦ refl ] in
    ap (source_tokens c Plain o l 0) (sym bare)
    ∙ broken_here c o l held [] (cond long DefineLong DefineCut) d.some
    (define_here c o l held [] d ∙ ap (define_step c l) bare ∙ define_open c l held is ∙ ap (at_break c l held) breaks ∙ picked)

-- a `line` with its line
pub step-line : (c : Course) (o l : ℕ) (held more : List ℕ) → 0 < length held → EndsLine held more → (token_of Plain held).kind ≡ Back
    → bytes_eq (take (token_of Plain held).len held) (codes "`define") ≡ false → bytes_eq (take (token_of Plain held).len held) (codes "`line") ≡ true
    → source_tokens c Plain o l 0 (held ++ more)
    ≡ record { sort = Renumbering; bytes = take (line_len held) held; line = l } ∷ source_tokens c Plain l (l + line_ends (take (line_len held) held)) 0 (drop (line_len held) held ++ more)
unfolding line_step
step-line c o l held more some ends is other also =
    let t = token_of Plain held in
    let bs = held ++ more in
    let n = line_len held in
    let tok : SourceToken = record { sort = Renumbering; bytes = take n held; line = l } in
    let ordinary : Step = Next (record { sort = Ordinary Back; bytes = take t.len held; line = l }) in
    let line = bytes_eq (take t.len held) (codes "`line") in
    let own : take (line_len bs) bs ≡ take n held = ap (λ i. take i bs) (line_len-append held more some ends) ∙ take-append-le n held more (line_len-le held) in
    let step : source_step c Plain o l bs ≡ Next tok =
    back_held c o l held more some ends is
    ∙ ap (λ b. cond b (define_step c l bs) (cond line (line_step l bs) ordinary)) other ∙ ap (λ b. cond b (line_step l bs) ordinary) also
    ∙ ap (λ z. Next (record { sort = Renumbering; bytes = z; line = l })) own in
    next_held c o l held more tok n (line_len-some held some) (line_len-le held) refl step

-- Logical lines over several physical lines.

-- a logical line that doesn't end in the front of a text goes on after it
pub logical_len-goes_after : (x y : ℕ) (xs ys : List ℕ) → logical_len x y xs ≡ None
    → logical_len x y (xs ++ ys) ≡ option_map (λ n. length xs + n) (logical_len (get_or (x ∷ y ∷ xs) (length xs) 0) (get_or (x ∷ y ∷ xs) (suc (length xs)) 0) ys)
unfolding logical_len
logical_len-goes_after x y [] ys none = elim (logical_len x y ys) as (λ (o : Option ℕ). o ≡ option_map (λ n. 0 + n) o) [ None ↦ refl | Some n ↦ ap Some (omega arith) ]
logical_len-goes_after x y (b ∷ xs) ys none =
    let there = logical_len (get_or (y ∷ b ∷ xs) (length xs) 0) (get_or (y ∷ b ∷ xs) (suc (length xs)) 0) ys in
    let P : Bool → Type 0 = λ t. cond t (Some 1) (option_map suc (logical_len y b xs)) ≡ None → cond t (Some 1) (option_map suc (logical_len y b (xs ++ ys))) ≡ option_map (λ n. suc (length xs) + n) there in
    let at_true : P true = λ e. absurd (cc) in
    let at_false : P false = λ e. ap (option_map suc) (logical_len-goes_after y b xs ys (none_suc (logical_len y b xs) e)) ∙ option_map-twice (length xs) there in
    elim (is_line_end b && not (is_continued x y)) as P [ true ↦ at_true | false ↦ at_false ] none

-- the last byte of whole lines
whole_lines-last : (x y : ℕ) (xs : List ℕ) → 0 < length xs → IsWholeLines xs → get_or (x ∷ y ∷ xs) (suc (length xs)) 0 ≡ 10
whole_lines-last x y [] some whole = absurd (omega arith)
whole_lines-last x y (b ∷ []) some whole = line_end-ten b (IsWholeLines-one b whole)
whole_lines-last x y (b ∷ c ∷ xs) some whole = whole_lines-last y b (c ∷ xs) (omega arith) (IsWholeLines-rest b (c ∷ xs) whole)

-- after whole lines it goes on as at its beginning
pub logical_len-after_lines : (xs ys : List ℕ) → IsWholeLines xs → logical_len 0 0 xs ≡ None → logical_len 0 0 (xs ++ ys) ≡ option_map (λ n. length xs + n) (logical_len 0 0 ys)
logical_len-after_lines [] ys whole none = logical_len-start ys
logical_len-after_lines (b ∷ xs) ys whole none =
    let held = b ∷ xs in
    let x = get_or (0 ∷ 0 ∷ held) (length held) 0 in
    let ten = whole_lines-last 0 0 held (omega arith) whole in
    logical_len-goes_after 0 0 held ys none ∙ ap (λ y. option_map (λ n. length held + n) (logical_len x y ys)) ten ∙ ap (option_map (λ n. length held + n)) (logical_len-after x ys)

-- a `define` whose logical line goes on, with a further line taken in
pub HoldsDefine-more : (held w rest : List ℕ) → HoldsDefine held (w ++ rest) → 0 < length w → EndsLine w rest → HoldsDefine (held ++ w) rest
HoldsDefine-more held w rest h some ends =
    let t = token_of Plain held in
    let size = length-append held w in
    let left = length-append w rest in
    let whole : IsWholeLines held = ⊎_elim (λ whole. whole) (λ (none : (w ++ rest) ≡ []). let no : length (w ++ rest) ≡ 0 = ap length none in absurd (omega arith)) h.ends in
    let closed : t.next_mode ≡ Plain = closed_kind held t (token_of-row held) (inr (inl h.kind)) in
    let same : token_of Plain (held ++ w) ≡ t = token_of-append held w h.some (inl whole) closed in
    let own : take (token_of Plain (held ++ w)).len (held ++ w) ≡ take t.len held =
    ap (λ (v : Token). take v.len (held ++ w)) same ∙ take-append-le t.len held w (token_of-part Plain held h.some).inside in
    record {
      some = omega (arith, h.some);
      ends = ⊎_elim (λ line. inl (IsWholeLines-append held w whole line)) (λ none. inr none) ends;
      kind = ap (λ (v : Token). v.kind) same ∙ h.kind;
      word = ap (λ own. bytes_eq own (codes "`define")) own ∙ h.word;
    }
