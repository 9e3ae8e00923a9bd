-- Which token stands at the front of a text: by its first bytes, by its parts, and after plain argument bytes.
use Rattle.std.proofs.Common.{◌≡◌, ℕ, suc, ◌+◌, ◌<◌, ◌≤◌, Bool, true, false, cond, ◌||◌, ◌&&◌, eqb, List, ◌∷◌, ◌++◌, length, get_or, refl, sym, ap, ◌∙◌, subst, inl, inr, ⊎_elim, arith, ltb, drop, Option, eqb-true, append-nil, [], slice_index, ◌==◌}
use Rattle.std.specs.List.{prefix_len}
use Rattle.std.proofs.lemmas.Bool.{and_parts, cases_Bool, cond_both, false_from_ne_true, false≢true, or_cases, or_from, or_parts}
use Rattle.std.proofs.lemmas.List.Sums.{prefix_len-le-length}
use Rattle.rdlpp_scan.specs.Bytes.{begins_block_comment, begins_line_comment, begins_perl, ends_block_comment, is_blank, is_closer, is_digit, is_letter, is_line_end, is_opener, is_word, takes_word}
use Rattle.rdlpp_scan.specs.LexFaults.{plain_argument_len, fault_of_tokens, is_plain_argument, is_perl}
use Rattle.rdlpp_scan.specs.Lines.{IsWholeLines}
use Rattle.rdlpp_scan.specs.Ordinary.{IsEdge, is_plain_kind}
use Rattle.rdlpp_scan.specs.TokenKinds.{is_one_byte, opens_mode}
use Rattle.rdlpp_scan.specs.TokenParts.{kind_of, len_of, mark_kind, mode_after, opened, plain_kind, stop_of}
use Rattle.rdlpp_scan.specs.Tokens.{block_token, first_place, plain_token, stops_plain_text, string_stop, string_token, token_of, tokens_from, whole}
use Rattle.rdlpp_scan.specs.declared.token.Kind.{Kind}
use Rattle.rdlpp_scan.specs.declared.token.Kind.TheVariants.{Back, BareBackquote, Blank, BlockComment, Closer, Comma, LineComment, LineEnd, Name, Opener, Other, Perl, Str, Word}
use Rattle.rdlpp_scan.specs.declared.token.LexFault.{LexFault}
use Rattle.rdlpp_scan.specs.declared.token.Mode.{Mode}
use Rattle.rdlpp_scan.specs.declared.token.Mode.TheVariants.{InBlock, InStr, Plain}
use Rattle.rdlpp_scan.specs.declared.token.Token.{Token}
use Rattle.rdlpp_scan.proofs.SourceLaws.{IsWholeLines-one, IsWholeLines-rest}
use Rattle.rdlpp_scan.proofs.TokenLens.{fault-next, is_word-digit, is_word-letter, token_of-part}

-- The tokens of ordinary text: they are plain, and don't go over its end.

-- what it says that ordinary text doesn't stop at the front of a text
pub record GoesOn (bs : List ℕ) : Type 0 where
  pub no_backquote : eqb (get_or bs 0 0) 96 ≡ false
  pub no_quote : eqb (get_or bs 0 0) 34 ≡ false
  pub no_line_comment : begins_line_comment bs ≡ false
  pub no_block_comment : begins_block_comment bs ≡ false
  pub no_perl : begins_perl bs ≡ false

pub goes_on : (bs : List ℕ) → stops_plain_text bs ≡ false → GoesOn bs
unfolding stops_plain_text
goes_on bs h = grind (arith, or_parts)

-- where ordinary text stops, one of four bytes stands
pub at_stop : (p : ℕ → Bool) (bs : List ℕ) → p 96 ≡ false → p 34 ≡ false → p 47 ≡ false → p 60 ≡ false → stops_plain_text bs ≡ true → p (get_or bs 0 0) ≡ false
unfolding stops_plain_text begins_perl begins_line_comment begins_block_comment
at_stop p bs backquote quote slash less h = grind (arith, eqb-true, or_cases, and_parts)

run-stop : (p : ℕ → Bool) (w x : List ℕ) → p (get_or x 0 0) ≡ false → prefix_len p (w ++ x) ≤ length w
run-stop p [] [] h = omega arith
run-stop p [] (y ∷ x) h = let P : Bool → Type 0 = λ t. cond t (1 + prefix_len p x) 0 ≤ 0 in subst P (sym h) (omega arith)
run-stop p (b ∷ w) x h = cond_both (p b) (1 + prefix_len p (w ++ x)) 0 (λ n. n ≤ suc (length w)) (λ _. omega (arith, run-stop p w x h)) (λ _. omega arith)

run-none : (p : ℕ → Bool) (w x : List ℕ) → x ≡ [] → prefix_len p (w ++ x) ≤ length w
run-none p w x none = grind (arith, append-nil, prefix_len-le-length)

run-whole : (p : ℕ → Bool) (w x : List ℕ) → p 10 ≡ false → 0 < length w → IsWholeLines w → prefix_len p (w ++ x) ≤ length w
unfolding is_line_end
run-whole p [] x ten some whole = absurd (omega arith)
run-whole p (b ∷ []) x ten some whole =
    let e : b ≡ 10 = eqb-true b 10 (IsWholeLines-one b whole) in
    let P : Bool → Type 0 = λ t. cond t (1 + prefix_len p x) 0 ≤ 1 in
    subst P (sym (ap p e ∙ ten)) (omega arith)
run-whole p (b ∷ c ∷ w) x ten some whole =
    cond_both (p b) (1 + prefix_len p (c ∷ w ++ x)) 0 (λ n. n ≤ suc (suc (length w))) (λ _. omega (arith, run-whole p (c ∷ w) x ten (omega arith) (IsWholeLines-rest b (c ∷ w) whole))) (λ _. omega arith)

-- bytes of a run: neither LF nor a byte where ordinary text stops
pub record IsRunTest (p : ℕ → Bool) : Type 0 where
  pub line_end : p 10 ≡ false
  pub backquote : p 96 ≡ false
  pub quote : p 34 ≡ false
  pub slash : p 47 ≡ false
  pub less : p 60 ≡ false

blank_test : IsRunTest is_blank
unfolding is_blank
blank_test = record { line_end = refl; backquote = refl; quote = refl; slash = refl; less = refl }

word_test : IsRunTest is_word
unfolding is_word is_letter is_digit
word_test = record { line_end = refl; backquote = refl; quote = refl; slash = refl; less = refl }

-- a run doesn't go over an edge
run-inside : (p : ℕ → Bool) → IsRunTest p → (w x : List ℕ) → 0 < length w → IsEdge w x → prefix_len p (w ++ x) ≤ length w
run-inside p t w x some =
    ⊎_elim (λ none. run-none p w x none) (λ rest. ⊎_elim (λ h. run-whole p w x t.line_end some h) (λ stop. run-stop p w x (at_stop p x t.backquote t.quote t.slash t.less stop)) rest)

-- a word after a first byte doesn't either
word-inside : (b : ℕ) (w x : List ℕ) → IsEdge (b ∷ w) x → is_line_end b ≡ false → is_word (get_or (w ++ x) 0 0) ≡ true → prefix_len is_word (w ++ x) ≤ length w
unfolding is_word is_letter is_digit
word-inside b [] x edge line here =
    let stopped : is_word (get_or x 0 0) ≡ false → prefix_len is_word x ≤ 0 = λ h. absurd (false≢true (sym h ∙ here)) in
    ⊎_elim (λ (none : x ≡ []). stopped (ap (λ (y : List ℕ). is_word (get_or y 0 0)) none)) (λ rest. ⊎_elim
    (λ whole. absurd (false≢true (sym line ∙ IsWholeLines-one b whole)))
    (λ stop. stopped (at_stop is_word x word_test.backquote word_test.quote word_test.slash word_test.less stop)) rest) edge
word-inside b (c ∷ w) x edge line here =
    run-inside is_word word_test (c ∷ w) x (omega arith) (⊎_elim (λ none. inl none) (λ rest. ⊎_elim (λ whole. inr (inl (IsWholeLines-rest b (c ∷ w) whole))) (λ stop. inr (inr stop)) rest) edge)

-- a token that is plain and lies in a text
pub record IsPlainPart (t : Token) (w : List ℕ) : Type 0 where
  pub plain : is_plain_kind t.kind ≡ true
  pub inside : t.len ≤ length w

takes-line : (b : ℕ) → takes_word b ≡ true → is_line_end b ≡ false
unfolding takes_word is_line_end
takes-line b h = ⊎_elim (λ e. ap (λ n. eqb n 10) (eqb-true b 39 e)) (λ e. ap (λ n. eqb n 10) (eqb-true b 92 e)) (or_cases (eqb b 39) (eqb b 92) h)

-- the first token of ordinary text is plain, and doesn't go over its end
pub plain_token-plain : (b : ℕ) (w x : List ℕ) → stops_plain_text (b ∷ w ++ x) ≡ false → IsEdge (b ∷ w) x → IsPlainPart (plain_token (b ∷ w ++ x)) (b ∷ w)
unfolding plain_token whole is_plain_kind
plain_token-plain b w x inert edge =
    let bs = b ∷ w ++ x in
    let c = get_or bs 1 0 in
    let g = goes_on bs inert in
    let P : Token → Type 0 = λ t. IsPlainPart t (b ∷ w) in
    let one : (k : Kind) → is_plain_kind k ≡ true → P (whole k 1) = λ k h. record { plain = h; inside = omega arith } in
    let run : (k : Kind) (p : ℕ → Bool) → IsRunTest p → is_plain_kind k ≡ true → P (whole k (prefix_len p bs)) = λ k p t h. record { plain = h; inside = run-inside p t (b ∷ w) x (omega arith) edge } in
    let not_so : (t : Bool) (u : Token) → t ≡ false → t ≡ true → P u = λ t u f h. absurd (false≢true (sym f ∙ h)) in
    cond_both (begins_perl bs) _ _ P (not_so _ _ g.no_perl) (λ _.
    cond_both (is_line_end b) _ _ P (λ _. one LineEnd refl) (λ _.
    cond_both (is_blank b) _ _ P (λ _. run Blank is_blank blank_test refl) (λ _.
    cond_both (begins_line_comment bs) _ _ P (not_so _ _ g.no_line_comment) (λ _.
    cond_both (begins_block_comment bs) _ _ P (not_so _ _ g.no_block_comment) (λ _.
    cond_both (eqb b 34) _ _ P (not_so _ _ g.no_quote) (λ _.
    cond_both (is_letter b) _ _ P (λ _. run Name is_word word_test refl) (λ _.
    cond_both (is_digit b) _ _ P (λ _. run Word is_word word_test refl) (λ _.
    cond_both (takes_word b && is_word c) _ _ P (λ h.
    let both = and_parts (takes_word b) (is_word c) h in
    record { plain = refl; inside = omega (arith, word-inside b w x edge (takes-line b both.0) both.1) }) (λ _.
    cond_both (eqb b 96 && is_letter c) _ _ P (λ h. not_so _ _ g.no_backquote (and_parts (eqb b 96) (is_letter c) h).0) (λ _.
    cond_both (eqb b 96) _ _ P (not_so _ _ g.no_backquote) (λ _.
    cond_both (is_opener b) _ _ P (λ _. one Opener refl) (λ _.
    cond_both (is_closer b) _ _ P (λ _. one Closer refl) (λ _.
    cond_both (eqb b 44) _ _ P (λ _. one Comma refl) (λ _. one Other refl))))))))))))))

-- Which token stands at the front of a text, by its first bytes.

-- which row of the token table gives the first token: one where ordinary text stops, or another
pub data Row (bs : List ℕ) (t : Token) : Type 0 where
  AtPerl : begins_perl bs ≡ true → t ≡ whole Perl 2 → Row bs t
  AtLineComment : begins_line_comment bs ≡ true → t.kind ≡ LineComment → Row bs t
  AtBlockComment : begins_block_comment bs ≡ true → t.kind ≡ BlockComment → Row bs t
  AtString : eqb (get_or bs 0 0) 34 ≡ true → t.kind ≡ Str → Row bs t
  AtBack : eqb (get_or bs 0 0) 96 ≡ true → t ≡ whole Back (suc (prefix_len is_word (drop 1 bs))) → Row bs t
  AtBare : eqb (get_or bs 0 0) 96 ≡ true → is_letter (get_or bs 1 0) ≡ false → t ≡ whole BareBackquote 1 → Row bs t
  AtPlain : is_plain_kind t.kind ≡ true → stops_plain_text bs ≡ false → Row bs t

-- a byte of a class that has none of the four bytes where ordinary text stops
pub inert_byte : (p : ℕ → Bool) (bs : List ℕ) → p 96 ≡ false → p 34 ≡ false → p 47 ≡ false → p 60 ≡ false → p (get_or bs 0 0) ≡ true → stops_plain_text bs ≡ false
inert_byte p bs backquote quote slash less h = false_from_ne_true (stops_plain_text bs) (λ s. false≢true (sym (at_stop p bs backquote quote slash less s) ∙ h))

inert_line : (bs : List ℕ) → is_line_end (get_or bs 0 0) ≡ true → stops_plain_text bs ≡ false
unfolding is_line_end
inert_line bs h = inert_byte is_line_end bs refl refl refl refl h

inert_blank : (bs : List ℕ) → is_blank (get_or bs 0 0) ≡ true → stops_plain_text bs ≡ false
unfolding is_blank
inert_blank bs h = inert_byte is_blank bs refl refl refl refl h

inert_letter : (bs : List ℕ) → is_letter (get_or bs 0 0) ≡ true → stops_plain_text bs ≡ false
unfolding is_letter
inert_letter bs h = inert_byte is_letter bs refl refl refl refl h

inert_digit : (bs : List ℕ) → is_digit (get_or bs 0 0) ≡ true → stops_plain_text bs ≡ false
unfolding is_digit
inert_digit bs h = inert_byte is_digit bs refl refl refl refl h

inert_takes : (bs : List ℕ) → takes_word (get_or bs 0 0) ≡ true → stops_plain_text bs ≡ false
unfolding takes_word
inert_takes bs h = inert_byte takes_word bs refl refl refl refl h

inert_opener : (bs : List ℕ) → is_opener (get_or bs 0 0) ≡ true → stops_plain_text bs ≡ false
unfolding is_opener
inert_opener bs h = inert_byte is_opener bs refl refl refl refl h

inert_closer : (bs : List ℕ) → is_closer (get_or bs 0 0) ≡ true → stops_plain_text bs ≡ false
unfolding is_closer
inert_closer bs h = inert_byte is_closer bs refl refl refl refl h

inert_other : (bs : List ℕ) → begins_perl bs ≡ false → begins_line_comment bs ≡ false → begins_block_comment bs ≡ false → eqb (get_or bs 0 0) 34 ≡ false → eqb (get_or bs 0 0) 96 ≡ false → stops_plain_text bs ≡ false
unfolding stops_plain_text
inert_other bs perl line block quote back = or_from _ _ (or_from _ _ (or_from _ _ (or_from _ _ back quote) line) block) perl

-- a string is a string
pub string_token-kind : (from : ℕ) (bs : List ℕ) → (string_token from bs).kind ≡ Str
unfolding string_token whole
string_token-kind from bs = cond_both (eqb (get_or bs (from + string_stop false (drop from bs)) 0) 34) _ _ (λ (t : Token). t.kind ≡ Str) (λ _. refl) (λ _. refl)

-- a block comment is a block comment
pub block_token-kind : (from : ℕ) (bs : List ℕ) → (block_token from bs).kind ≡ BlockComment
unfolding block_token whole
block_token-kind from bs = cond_both (ltb (from + first_place ends_block_comment (drop from bs)) (length bs)) _ _ (λ (t : Token). t.kind ≡ BlockComment) (λ _. refl) (λ _. refl)

-- a backquote that begins no usage has no letter after it
pub back_letter : (b c : ℕ) → eqb b 96 ≡ true → (eqb b 96 && is_letter c) ≡ false → is_letter c ≡ false
back_letter b c h k = sym (ap (λ t. t && is_letter c) h) ∙ k

-- the row that gives the first token of a text in plain text
pub plain_token-row : (bs : List ℕ) → Row bs (plain_token bs)
unfolding plain_token whole is_plain_kind
plain_token-row bs =
    let b = get_or bs 0 0 in
    let c = get_or bs 1 0 in
    let P : Token → Type 0 = λ t. Row bs t in
    cond_both (begins_perl bs) _ _ P (λ h. AtPerl h refl) (λ perl.
    cond_both (is_line_end b) _ _ P (λ h. AtPlain refl (inert_line bs h)) (λ _.
    cond_both (is_blank b) _ _ P (λ h. AtPlain refl (inert_blank bs h)) (λ _.
    cond_both (begins_line_comment bs) _ _ P (λ h. AtLineComment h refl) (λ line.
    cond_both (begins_block_comment bs) _ _ P (λ h. AtBlockComment h (block_token-kind 2 bs)) (λ block.
    cond_both (eqb b 34) _ _ P (λ h. AtString h (string_token-kind 1 bs)) (λ quote.
    cond_both (is_letter b) _ _ P (λ h. AtPlain refl (inert_letter bs h)) (λ _.
    cond_both (is_digit b) _ _ P (λ h. AtPlain refl (inert_digit bs h)) (λ _.
    cond_both (takes_word b && is_word c) _ _ P (λ h. AtPlain refl (inert_takes bs (and_parts (takes_word b) (is_word c) h).0)) (λ _.
    cond_both (eqb b 96 && is_letter c) _ _ P (λ h. AtBack (and_parts (eqb b 96) (is_letter c) h).0 refl) (λ named.
    cond_both (eqb b 96) _ _ P (λ h. AtBare h (back_letter b c h named) refl) (λ back.
    cond_both (is_opener b) _ _ P (λ h. AtPlain refl (inert_opener bs h)) (λ _.
    cond_both (is_closer b) _ _ P (λ h. AtPlain refl (inert_closer bs h)) (λ _.
    cond_both (eqb b 44) _ _ P (λ _. AtPlain refl (inert_other bs perl line block quote back)) (λ _. AtPlain refl (inert_other bs perl line block quote back)))))))))))))))

-- the same of the first token in plain text
pub token_of-row : (bs : List ℕ) → Row bs (token_of Plain bs)
unfolding token_of
token_of-row bs = plain_token-row bs

-- Every first token but a string or a block comment leaves plain text after it, and an opener, a closer and a comma are one byte.

-- a token of a kind that opens no mode leaves plain text after it
ClosesPlain : Token → Type 0
ClosesPlain t = opens_mode t.kind ≡ false → t.next_mode ≡ Plain

-- a whole token leaves plain text after it
whole_plain : (k : Kind) (n : ℕ) → ClosesPlain (whole k n)
unfolding ClosesPlain whole
whole_plain k n h = refl

-- a string opens a mode
string_plain : (from : ℕ) (bs : List ℕ) → ClosesPlain (string_token from bs)
unfolding ClosesPlain opens_mode
string_plain from bs h = absurd (false≢true (sym h ∙ ap opens_mode (string_token-kind from bs)))

-- a block comment opens a mode
block_plain : (from : ℕ) (bs : List ℕ) → ClosesPlain (block_token from bs)
unfolding ClosesPlain opens_mode
block_plain from bs h = absurd (false≢true (sym h ∙ ap opens_mode (block_token-kind from bs)))

-- what holds of whole tokens, strings and comments holds of the first token in plain text: a kind of one byte has one
plain_rows : (P : Token → Type 0) → ((k : Kind) (n : ℕ) → is_one_byte k ≡ false → P (whole k n)) → ((k : Kind) → P (whole k 1))
    → ((from : ℕ) (bs : List ℕ) → P (block_token from bs)) → ((from : ℕ) (bs : List ℕ) → P (string_token from bs)) → (bs : List ℕ) → P (plain_token bs)
unfolding plain_token is_one_byte
plain_rows P run one block string bs = grind (arith, cond_both)

-- what holds of whole tokens, strings and comments holds of the first token in each mode
rows : (P : Token → Type 0) → ((k : Kind) (n : ℕ) → is_one_byte k ≡ false → P (whole k n)) → ((k : Kind) → P (whole k 1))
    → ((from : ℕ) (bs : List ℕ) → P (block_token from bs)) → ((from : ℕ) (bs : List ℕ) → P (string_token from bs))
    → (m : Mode) (bs : List ℕ) → P (token_of m bs)
unfolding token_of is_one_byte
rows P run one block string Plain bs = plain_rows P run one block string bs
rows P run one block string InStr bs = cond_both (begins_perl bs) _ _ P (λ _. run _ _ refl) (λ _. string 0 bs)
rows P run one block string InBlock bs = block 0 bs

-- a first token of a kind that opens no mode leaves plain text after it
pub closed_kind_plain : (m : Mode) (bs : List ℕ) → opens_mode (token_of m bs).kind ≡ false → (token_of m bs).next_mode ≡ Plain
unfolding ClosesPlain
closed_kind_plain m bs = rows ClosesPlain (λ k n _. whole_plain k n) (λ k. whole_plain k 1) block_plain string_plain m bs

-- a token of a kind of one byte has one
HasOneByte : Token → Type 0
HasOneByte t = is_one_byte t.kind ≡ true → t.len ≡ 1

-- a whole token of another kind
longer_one : (k : Kind) (n : ℕ) → is_one_byte k ≡ false → HasOneByte (whole k n)
unfolding HasOneByte whole
longer_one k n other h = absurd (false≢true (sym other ∙ h))

-- one of one byte
single_one : (k : Kind) → HasOneByte (whole k 1)
unfolding HasOneByte whole
single_one k h = refl

-- a string is of another kind
string_one : (from : ℕ) (bs : List ℕ) → HasOneByte (string_token from bs)
unfolding HasOneByte is_one_byte
string_one from bs h = absurd (false≢true (sym (ap is_one_byte (string_token-kind from bs)) ∙ h))

-- a block comment is too
block_one : (from : ℕ) (bs : List ℕ) → HasOneByte (block_token from bs)
unfolding HasOneByte is_one_byte
block_one from bs h = absurd (false≢true (sym (ap is_one_byte (block_token-kind from bs)) ∙ h))

-- a first token of a kind of one byte has one
pub one_byte_len : (m : Mode) (bs : List ℕ) → is_one_byte (token_of m bs).kind ≡ true → (token_of m bs).len ≡ 1
unfolding HasOneByte
one_byte_len m bs = rows HasOneByte longer_one single_one block_one string_one m bs

-- The first token of a text is the token of its parts.

-- the token of a kind, by its parts
unfoldable pub parts : Mode → Kind → List ℕ → Token
parts mode kind bs =
    let stop = stop_of mode kind bs in
    let following = mode_after kind stop bs in
    record { kind = kind; len = len_of kind following stop; next_mode = following }

when : (t : Bool) (x y : Kind) → t ≡ true → cond t x y ≡ x
when t x y h = ap (λ s. cond s x y) h

unless : (t : Bool) (x y : Kind) → t ≡ false → cond t x y ≡ y
unless t x y h = ap (λ s. cond s x y) h

string_cases : (t : Bool) (stop : ℕ) → cond t (whole Str (suc stop)) (record { kind = Str; len = stop; next_mode = InStr }) ≡ record { kind = Str; len = len_of Str (cond t Plain InStr) stop; next_mode = cond t Plain InStr }
unfolding whole len_of
string_cases true stop = refl
string_cases false stop = refl

block_cases : (t : Bool) (stop : ℕ) → cond t (whole BlockComment (stop + 2)) (record { kind = BlockComment; len = stop; next_mode = InBlock }) ≡ record { kind = BlockComment; len = len_of BlockComment (cond t Plain InBlock) stop; next_mode = cond t Plain InBlock }
unfolding whole len_of
block_cases true stop = refl
block_cases false stop = refl

string_parts : (mode : Mode) (bs : List ℕ) → string_token (opened mode 1) bs ≡ parts mode Str bs
unfolding string_token stop_of mode_after parts
string_parts mode bs = string_cases (eqb (get_or bs (opened mode 1 + string_stop false (drop (opened mode 1) bs)) 0) 34) (opened mode 1 + string_stop false (drop (opened mode 1) bs))

block_parts : (mode : Mode) (bs : List ℕ) → block_token (opened mode 2) bs ≡ parts mode BlockComment bs
unfolding block_token stop_of mode_after parts
block_parts mode bs = block_cases (ltb (opened mode 2 + first_place ends_block_comment (drop (opened mode 2) bs)) (length bs)) (opened mode 2 + first_place ends_block_comment (drop (opened mode 2) bs))

plain_string_parts : (bs : List ℕ) → string_token 1 bs ≡ parts Plain Str bs
unfolding opened
plain_string_parts bs = string_parts Plain bs

plain_block_parts : (bs : List ℕ) → block_token 2 bs ≡ parts Plain BlockComment bs
unfolding opened
plain_block_parts bs = block_parts Plain bs

string_open : (bs : List ℕ) → string_token 0 bs ≡ parts InStr Str bs
unfolding opened
string_open bs = string_parts InStr bs

block_open : (bs : List ℕ) → block_token 0 bs ≡ parts InBlock BlockComment bs
unfolding opened
block_open bs = block_parts InBlock bs

-- a byte that is known
by_value : (n b c : ℕ) (k : Kind) → plain_kind n c ≡ k → eqb b n ≡ true → plain_kind b c ≡ k
by_value n b c k h e = ap (λ x. plain_kind x c) (eqb-true b n e) ∙ h

by_values : (n m b c : ℕ) (k : Kind) → plain_kind n m ≡ k → (eqb b n && eqb c m) ≡ true → plain_kind b c ≡ k
by_values n m b c k h e = grind (arith, and_parts, by_value, eqb-true)

blank_kind : (b c : ℕ) → is_blank b ≡ true → plain_kind b c ≡ Blank
unfolding is_blank plain_kind mark_kind is_letter is_digit
blank_kind b c h =
    ⊎_elim (λ h1.
    ⊎_elim (λ h2.
    ⊎_elim (λ h3.
    ⊎_elim (by_value 32 b c Blank refl) (by_value 9 b c Blank refl) (or_cases (eqb b 32) (eqb b 9) h3))
    (by_value 13 b c Blank refl) (or_cases (eqb b 32 || eqb b 9) (eqb b 13) h2))
    (by_value 11 b c Blank refl) (or_cases (eqb b 32 || eqb b 9 || eqb b 13) (eqb b 11) h1))
    (by_value 12 b c Blank refl) (or_cases (eqb b 32 || eqb b 9 || eqb b 13 || eqb b 11) (eqb b 12) h)

opener_kind : (b c : ℕ) → is_opener b ≡ true → plain_kind b c ≡ Opener
unfolding is_opener plain_kind mark_kind is_blank is_letter is_digit
opener_kind b c h =
    ⊎_elim (λ h1. ⊎_elim (by_value 40 b c Opener refl) (by_value 91 b c Opener refl) (or_cases (eqb b 40) (eqb b 91) h1))
    (by_value 123 b c Opener refl) (or_cases (eqb b 40 || eqb b 91) (eqb b 123) h)

closer_kind : (b c : ℕ) → is_closer b ≡ true → plain_kind b c ≡ Closer
unfolding is_closer plain_kind mark_kind is_opener is_blank is_letter is_digit
closer_kind b c h =
    ⊎_elim (λ h1. ⊎_elim (by_value 41 b c Closer refl) (by_value 93 b c Closer refl) (or_cases (eqb b 41) (eqb b 93) h1))
    (by_value 125 b c Closer refl) (or_cases (eqb b 41 || eqb b 93) (eqb b 125) h)

taken_kind : (b c : ℕ) → takes_word b ≡ true → is_word c ≡ true → plain_kind b c ≡ Word
unfolding takes_word plain_kind mark_kind is_opener is_closer is_line_end is_blank is_letter is_digit
taken_kind b c h w =
    ⊎_elim (by_value 39 b c Word (when _ _ _ w)) (by_value 92 b c Word (when _ _ _ w)) (or_cases (eqb b 39) (eqb b 92) h)

back_kind : (b c : ℕ) → eqb b 96 ≡ true → is_letter c ≡ true → plain_kind b c ≡ Back
unfolding plain_kind mark_kind is_opener is_closer is_line_end is_blank is_letter is_digit
back_kind b c h w = by_value 96 b c Back (when _ _ _ w) h

bare_kind : (b c : ℕ) → eqb b 96 ≡ true → is_letter c ≡ false → plain_kind b c ≡ BareBackquote
unfolding plain_kind mark_kind is_opener is_closer is_line_end is_blank is_letter is_digit
bare_kind b c h w = by_value 96 b c BareBackquote (unless _ _ _ w) h

perl_kind : (bs : List ℕ) → begins_perl bs ≡ true → plain_kind (get_or bs 0 0) (get_or bs 1 0) ≡ Perl
unfolding begins_perl plain_kind mark_kind takes_word is_opener is_closer is_line_end is_blank is_letter is_digit
perl_kind bs h = by_values 60 37 (get_or bs 0 0) (get_or bs 1 0) Perl refl h

line_comment_kind : (bs : List ℕ) → begins_line_comment bs ≡ true → plain_kind (get_or bs 0 0) (get_or bs 1 0) ≡ LineComment
unfolding begins_line_comment plain_kind mark_kind takes_word is_opener is_closer is_line_end is_blank is_letter is_digit
line_comment_kind bs h = by_values 47 47 (get_or bs 0 0) (get_or bs 1 0) LineComment refl h

block_comment_kind : (bs : List ℕ) → begins_block_comment bs ≡ true → plain_kind (get_or bs 0 0) (get_or bs 1 0) ≡ BlockComment
unfolding begins_block_comment plain_kind mark_kind takes_word is_opener is_closer is_line_end is_blank is_letter is_digit
block_comment_kind bs h = by_values 47 42 (get_or bs 0 0) (get_or bs 1 0) BlockComment refl h

line_end_kind : (b c : ℕ) → is_line_end b ≡ true → plain_kind b c ≡ LineEnd
unfolding plain_kind mark_kind is_opener is_closer is_line_end is_blank is_letter is_digit
line_end_kind b c h = by_value 10 b c LineEnd refl h

quote_kind : (b c : ℕ) → eqb b 34 ≡ true → plain_kind b c ≡ Str
unfolding plain_kind mark_kind is_opener is_closer is_line_end is_blank is_letter is_digit
quote_kind b c h = by_value 34 b c Str refl h

comma_kind : (b c : ℕ) → eqb b 44 ≡ true → plain_kind b c ≡ Comma
unfolding plain_kind mark_kind is_opener is_closer is_line_end is_blank is_letter is_digit
comma_kind b c h = by_value 44 b c Comma refl h

letter_kind : (b c : ℕ) → is_letter b ≡ true → plain_kind b c ≡ Name
unfolding plain_kind
letter_kind b c h = when _ _ _ h

digit_kind : (b c : ℕ) → is_letter b ≡ false → is_blank b ≡ false → is_digit b ≡ true → plain_kind b c ≡ Word
unfolding plain_kind
digit_kind b c l k h = unless _ _ _ l ∙ (unless _ _ _ k ∙ when _ _ _ h)

-- a mark of no other kind
other_mark : (bs : List ℕ) → let b = get_or bs 0 0 in let c = get_or bs 1 0 in eqb b 44 ≡ false → is_opener b ≡ false → is_closer b ≡ false → is_line_end b ≡ false → (eqb b 96 && is_letter c) ≡ false → eqb b 96 ≡ false → eqb b 34 ≡ false → begins_line_comment bs ≡ false → begins_block_comment bs ≡ false → begins_perl bs ≡ false → (takes_word b && is_word c) ≡ false → mark_kind b c ≡ Other
unfolding mark_kind begins_line_comment begins_block_comment begins_perl
other_mark bs h1 h2 h3 h4 h5 h6 h7 h8 h9 h10 h11 =
    unless _ _ _ h1 ∙ (unless _ _ _ h2 ∙ (unless _ _ _ h3 ∙ (unless _ _ _ h4 ∙ (unless _ _ _ h5 ∙ (unless _ _ _ h6 ∙ (unless _ _ _ h7 ∙ (unless _ _ _ h8 ∙ (unless _ _ _ h9 ∙ (unless _ _ _ h10 ∙ unless _ _ _ h11)))))))))

other_kind : (b c : ℕ) → is_letter b ≡ false → is_blank b ≡ false → is_digit b ≡ false → mark_kind b c ≡ Other → plain_kind b c ≡ Other
unfolding plain_kind
other_kind b c l k d h = unless _ _ _ l ∙ (unless _ _ _ k ∙ (unless _ _ _ d ∙ h))

pub plain_parts : (bs : List ℕ) → plain_token bs ≡ parts Plain (plain_kind (get_or bs 0 0) (get_or bs 1 0)) bs
unfolding plain_token whole parts stop_of mode_after len_of
plain_parts bs =
    let b = get_or bs 0 0 in
    let c = get_or bs 1 0 in
    let kind : Kind = plain_kind b c in
    let P : Token → Type 0 = λ t. t ≡ parts Plain kind bs in
    let is : (k : Kind) (t : Token) → t ≡ parts Plain k bs → kind ≡ k → P t = λ k t h e. h ∙ sym (ap (λ (x : Kind). parts Plain x bs) e) in
    let run : ℕ = prefix_len is_word bs in
    let after : ℕ = suc (prefix_len is_word (drop 1 bs)) in
    cond_both (begins_perl bs) _ _ P (λ h. is Perl _ refl (perl_kind bs h)) (λ perl.
    cond_both (is_line_end b) _ _ P (λ h. is LineEnd _ refl (line_end_kind b c h)) (λ line.
    cond_both (is_blank b) _ _ P (λ h. is Blank _ refl (blank_kind b c h)) (λ blank.
    cond_both (begins_line_comment bs) _ _ P (λ h. is LineComment _ refl (line_comment_kind bs h)) (λ comment.
    cond_both (begins_block_comment bs) _ _ P (λ h. is BlockComment _ (plain_block_parts bs) (block_comment_kind bs h)) (λ block.
    cond_both (eqb b 34) _ _ P (λ h. is Str _ (plain_string_parts bs) (quote_kind b c h)) (λ quote.
    cond_both (is_letter b) _ _ P (λ h. is Name _ refl (letter_kind b c h)) (λ letter.
    cond_both (is_digit b) _ _ P (λ h. is Word _ (sym (ap (λ t. whole Word (cond t run after)) h)) (digit_kind b c letter blank h)) (λ digit.
    cond_both (takes_word b && is_word c) _ _ P (λ h.
    let both = and_parts (takes_word b) (is_word c) h in
    is Word _ (sym (ap (λ t. whole Word (cond t run after)) digit)) (taken_kind b c both.0 both.1)) (λ taken.
    cond_both (eqb b 96 && is_letter c) _ _ P (λ h.
    let both = and_parts (eqb b 96) (is_letter c) h in
    is Back _ refl (back_kind b c both.0 both.1)) (λ back.
    cond_both (eqb b 96) _ _ P (λ h. is BareBackquote _ refl (bare_kind b c h (back_letter b c h back))) (λ bare.
    cond_both (is_opener b) _ _ P (λ h. is Opener _ refl (opener_kind b c h)) (λ opener.
    cond_both (is_closer b) _ _ P (λ h. is Closer _ refl (closer_kind b c h)) (λ closer.
    cond_both (eqb b 44) _ _ P (λ h. is Comma _ refl (comma_kind b c h)) (λ comma.
    is Other _ refl (other_kind b c letter blank digit (other_mark bs comma opener closer line back bare quote comment block perl taken))))))))))))))))

perl_or_string : (t : Bool) (bs : List ℕ) → cond t (whole Perl 2) (string_token 0 bs) ≡ parts InStr (cond t Perl Str) bs
unfolding whole parts stop_of mode_after len_of
perl_or_string true bs = refl
perl_or_string false bs = string_open bs

-- the first token of a text, by its parts
pub token_parts : (mode : Mode) (bs : List ℕ) → token_of mode bs ≡ parts mode (kind_of mode bs) bs
unfolding token_of kind_of
token_parts Plain bs = plain_parts bs
token_parts InStr bs = perl_or_string (begins_perl bs) bs
token_parts InBlock bs = block_open bs

-- a token is at least as long as where it stops
len_of-least : (kind : Kind) (following : Mode) (stop : ℕ) → stop ≤ len_of kind following stop
unfolding len_of
len_of-least Str Plain stop = omega arith
len_of-least BlockComment Plain stop = omega arith
len_of-least kind Plain stop = omega arith
len_of-least kind InStr stop = omega arith
len_of-least kind InBlock stop = omega arith

-- the first token of a text lies in it
pub stop_room : (mode : Mode) (bs : List ℕ) → 0 < length bs → stop_of mode (kind_of mode bs) bs ≤ length bs
unfolding parts
stop_room mode bs some =
    let kind = kind_of mode bs in
    let stop = stop_of mode kind bs in
    let room : len_of kind (mode_after kind stop bs) stop ≤ length bs = subst (λ (t : Token). t.len ≤ length bs) (token_parts mode bs) (token_of-part mode bs some).inside in
    let least = len_of-least kind (mode_after kind stop bs) stop in
    omega arith

-- and so does what opens a block comment
pub block_room : (mode : Mode) (bs : List ℕ) → 0 < length bs → kind_of mode bs ≡ BlockComment → opened mode 2 ≤ length bs
unfolding stop_of
block_room mode bs some is =
    let room : stop_of mode BlockComment bs ≤ length bs = subst (λ (k : Kind). stop_of mode k bs ≤ length bs) is (stop_room mode bs some) in
    omega arith

-- no more bytes open a token than do in plain text
pub opened-most : (mode : Mode) (n : ℕ) → opened mode n ≤ n
unfolding opened
opened-most Plain n = omega arith
opened-most _ n = omega arith

-- a token that is built of its parts
pub built_token : (mode : Mode) (bs : List ℕ) (kind : Kind) (stop : ℕ) (following : Mode) (len : ℕ) → kind ≡ kind_of mode bs → stop ≡ stop_of mode kind bs
    → following ≡ mode_after kind stop bs → len ≡ len_of kind following stop → token_of mode bs ≡ record { kind = kind; len = len; next_mode = following }
unfolding parts
built_token mode bs kind stop following len a b c d = rw (d, c, b, a) (token_parts mode bs)

-- Calm bytes at the front of a text have no fault.

-- the first fault of plain text
fault : List ℕ → Option LexFault
fault bs = fault_of_tokens Plain (tokens_from Plain 0 bs)

-- a whole token that isn't `<%` is passed
turn : (bs : List ℕ) (k : Kind) (n : ℕ) → 0 < length bs → token_of Plain bs ≡ whole k n → is_perl k ≡ false → fault bs ≡ fault (drop n bs)
unfolding fault whole
turn bs k n some is still = grind (arith, fault-next)

-- the token of a word that begins with a letter
pub letter_token : (b : ℕ) (bs : List ℕ) → is_letter b ≡ true → token_of Plain (b ∷ bs) ≡ whole Name (prefix_len is_word (b ∷ bs))
unfolding kind_of parts stop_of mode_after len_of plain_kind whole
letter_token b bs e = grind (arith, token_parts, parts)

-- no letter and no digit is a blank
pub digit_dark : (b : ℕ) → is_digit b ≡ true → is_blank b ≡ true → ⊥
unfolding is_digit is_blank
digit_dark b d h = grind (arith, false≢true, eqb-true, or_cases)

pub letter_dark : (b : ℕ) → is_letter b ≡ true → is_blank b ≡ true → ⊥
unfolding is_letter is_blank
letter_dark b d h = grind (arith, false≢true, eqb-true, or_cases)

-- the token of a word that begins with a digit
pub digit_token : (b : ℕ) (bs : List ℕ) → is_letter b ≡ false → is_digit b ≡ true → token_of Plain (b ∷ bs) ≡ whole Word (prefix_len is_word (b ∷ bs))
unfolding kind_of parts stop_of mode_after len_of plain_kind whole
digit_token b bs l d = grind (arith, false_from_ne_true, digit_dark, token_parts, parts)

-- the token of blanks
pub blank_token : (b : ℕ) (bs : List ℕ) → is_blank b ≡ true → token_of Plain (b ∷ bs) ≡ whole Blank (prefix_len is_blank (b ∷ bs))
unfolding kind_of parts stop_of mode_after len_of plain_kind whole
blank_token b bs d = grind (arith, false_from_ne_true, letter_dark, token_parts, parts)

-- the word at the front of a text is passed, if there is one
word_passed : (bs : List ℕ) → fault bs ≡ fault (drop (prefix_len is_word bs) bs)
unfolding is_word is_perl
word_passed [] = refl
word_passed (b ∷ bs) = elim (cases_Bool (is_letter b)) [
  | inl l ↦ turn (b ∷ bs) Name _ (omega arith) (letter_token b bs l) refl
  | inr l ↦ elim (cases_Bool (is_digit b)) [
    | inl d ↦ turn (b ∷ bs) Word _ (omega arith) (digit_token b bs l d) refl
    | inr d ↦
        let none : prefix_len is_word (b ∷ bs) ≡ 0 = rw (l, d) refl in
        ap (λ (k : ℕ). fault (drop k (b ∷ bs))) (sym none)
  ]
]

-- so are blanks
blanks_passed : (bs : List ℕ) → fault bs ≡ fault (drop (prefix_len is_blank bs) bs)
unfolding is_perl
blanks_passed [] = refl
blanks_passed (b ∷ bs) = elim (cases_Bool (is_blank b)) [
  | inl d ↦ turn (b ∷ bs) Blank _ (omega arith) (blank_token b bs d) refl
  | inr d ↦
      let none : prefix_len is_blank (b ∷ bs) ≡ 0 = ap (λ (t : Bool). cond t (1 + prefix_len is_blank bs) 0) d in
      ap (λ (k : ℕ). fault (drop k (b ∷ bs))) (sym none)
]

-- what stands after the bytes of a class, by the first of them
pub run_one : (class : ℕ → Bool) (b : ℕ) (bs : List ℕ) → class b ≡ true → drop (prefix_len class (b ∷ bs)) (b ∷ bs) ≡ drop (prefix_len class bs) bs
run_one class b bs h = grind arith

-- the first byte of a run is passed where the run is
first_passed : (class : ℕ → Bool) → ((bs : List ℕ) → fault bs ≡ fault (drop (prefix_len class bs) bs)) → (b : ℕ) (bs : List ℕ) → class b ≡ true → fault (b ∷ bs) ≡ fault bs
first_passed class passed b bs h = passed (b ∷ bs) ∙ ap fault (run_one class b bs h) ∙ sym (passed bs)

-- a byte that isn't plain argument
pub no_plain_argument : (b n : ℕ) → is_plain_argument b ≡ true → is_plain_argument n ≡ false → eqb b n ≡ true → ⊥
no_plain_argument b n s f e = false≢true (sym f ∙ subst (λ (k : ℕ). is_plain_argument k ≡ true) (eqb-true b n e) s)

pub both_first : (p q : Bool) → (p && q) ≡ true → p ≡ true
both_first true q h = refl
both_first false q h = absurd (false≢true h)

-- a plain argument byte is passed
byte_passed : (b : ℕ) (bs : List ℕ) → is_plain_argument b ≡ true → fault (b ∷ bs) ≡ fault bs
unfolding token_of plain_token whole is_perl begins_perl begins_line_comment begins_block_comment is_plain_argument
byte_passed b bs s =
    let T = b ∷ bs in
    let c = get_or T 1 0 in
    let P : Token → Type 0 = λ t. token_of Plain T ≡ t → fault T ≡ fault bs in
    let one : (k : Kind) → is_perl k ≡ false → P (whole k 1) = λ k still e. turn T k 1 (omega arith) e still in
    let taken : (k : Kind) → is_perl k ≡ false → P (whole k (suc (prefix_len is_word bs))) = λ k still e. turn T k _ (omega arith) e still ∙ sym (word_passed bs) in
    let by : P (token_of Plain T) =
    cond_both (begins_perl T) _ _ P (λ h. absurd (no_plain_argument b 60 s refl (both_first _ _ h))) (λ _.
    cond_both (is_line_end b) _ _ P (λ _. one LineEnd refl) (λ _.
    cond_both (is_blank b) _ _ P (λ h _. first_passed is_blank blanks_passed b bs h) (λ _.
    cond_both (begins_line_comment T) _ _ P (λ h. absurd (no_plain_argument b 47 s refl (both_first _ _ h))) (λ _.
    cond_both (begins_block_comment T) _ _ P (λ h. absurd (no_plain_argument b 47 s refl (both_first _ _ h))) (λ _.
    cond_both (eqb b 34) _ _ P (λ h. absurd (no_plain_argument b 34 s refl h)) (λ _.
    cond_both (is_letter b) _ _ P (λ h _. first_passed is_word word_passed b bs (is_word-letter b h)) (λ _.
    cond_both (is_digit b) _ _ P (λ h _. first_passed is_word word_passed b bs (is_word-digit b h)) (λ _.
    cond_both (takes_word b && is_word c) _ _ P (λ _. taken Word refl) (λ _.
    cond_both (eqb b 96 && is_letter c) _ _ P (λ _. taken Back refl) (λ _.
    cond_both (eqb b 96) _ _ P (λ _. one BareBackquote refl) (λ _.
    cond_both (is_opener b) _ _ P (λ _. one Opener refl) (λ _.
    cond_both (is_closer b) _ _ P (λ _. one Closer refl) (λ _.
    cond_both (eqb b 44) _ _ P (λ _. one Comma refl) (λ _. one Other refl)))))))))))))) in
    by refl

-- plain argument bytes are passed
plain_argument_run : (bs : List ℕ) → fault bs ≡ fault (drop (prefix_len is_plain_argument bs) bs)
plain_argument_run [] = refl
plain_argument_run (b ∷ bs) = grind (arith, cases_Bool, byte_passed, fault, run_one, (plain_argument_run bs))

-- in each mode the first fault of a text is that after its plain argument bytes
pub plain_argument_passed : (mode : Mode) (bs : List ℕ) → fault_of_tokens mode (tokens_from mode 0 bs) ≡ fault_of_tokens mode (tokens_from mode 0 (drop (plain_argument_len mode bs) bs))
unfolding plain_argument_len fault
plain_argument_passed Plain bs = plain_argument_run bs
plain_argument_passed _ bs = refl

-- a string begins with a quote
pub row-string : (bs : List ℕ) (t : Token) → Row bs t → t.kind ≡ Str → (slice_index bs 0 == 34) ≡ true
unfolding whole is_plain_kind
row-string bs t (AtPerl h e) k = let i = ap (λ (u : Token). u.kind) e in absurd (cc)
row-string bs t (AtLineComment h e) k = absurd (cc)
row-string bs t (AtBlockComment h e) k = absurd (cc)
row-string bs t (AtString h e) k = h
row-string bs t (AtBack h e) k = let i = ap (λ (u : Token). u.kind) e in absurd (cc)
row-string bs t (AtBare h g e) k = let i = ap (λ (u : Token). u.kind) e in absurd (cc)
row-string bs t (AtPlain h q) k = absurd (false≢true (sym (ap is_plain_kind k) ∙ h))
