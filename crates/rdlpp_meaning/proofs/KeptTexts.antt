-- The tokens of ranges of a text, and those of the text that a call or a table keeps.
use Rattle.std.proofs.Common.{◌≡◌, ◌≤◌, ◌<◌, ℕ, ◌+◌, Bool, true, false, List, [], ◌∷◌, ◌++◌, length, take, drop, refl, sym, ap, ◌∙◌, subst, arith, ◌-◌, map, All, Option, None, Some, not, cond, filter, append_assoc, take-add, drop-drop, length-append, length-drop, length-take, take-take}
use Rattle.std.specs.List.{AllByRecursion, concat}
use Rattle.std.proofs.lemmas.Bool.{false≢true}
use Rattle.std.proofs.lemmas.Grind.{common_steps}
use Rattle.std.proofs.lemmas.List.{drop-take}
use Rattle.std.proofs.lemmas.List.Elements.{All-append, All-cons, All-head, All-map, All-nil, All-tail, All-weaker, filter_passes, recursion_from_All}
use Rattle.rdlpp_scan.specs.CleanTexts.{IsCleanText, IsCleanToken}
use Rattle.rdlpp_scan.specs.Comments.{is_line_comment, other_texts, other_tokens, token_texts, without_line_comments}
use Rattle.rdlpp_scan.specs.Front.{Breach, Break, CommentOpen, DefineCut, DefineLong, StringOpen}
use Rattle.rdlpp_scan.specs.Pieces.{tokens_len}
use Rattle.rdlpp_scan.specs.SourceTokens.{Broken, Course, Definition, Last, Next, Ordinary, Renumbering, Sort, SourceToken, Step, broken, line_after, line_ends, open_end, source_end, source_step, source_tokens}
use Rattle.rdlpp_scan.specs.TokenKinds.{is_one_byte, is_ordinary, opens_mode}
use Rattle.rdlpp_scan.specs.Tokens.{token_of, tokens_from}
use Rattle.rdlpp_scan.specs.declared.token.Kind.{Kind}
use Rattle.rdlpp_scan.specs.declared.token.Kind.TheVariants.{BlockComment, Closer, Comma, LineComment, Opener, Str}
use Rattle.rdlpp_scan.specs.declared.token.Mode.{Mode}
use Rattle.rdlpp_scan.specs.declared.token.Mode.TheVariants.{InBlock, InStr, Plain}
use Rattle.rdlpp_scan.specs.declared.token.Token.{Token}
use Rattle.rdlpp_scan.proofs.CleanTexts.{clean_tokens, without-texts, without-tokens}
use Rattle.rdlpp_scan.proofs.OrdinaryLaws.{Gives, IsTokenOf, source_step_gives}
use Rattle.rdlpp_scan.proofs.RangeLaws.{tokens_from-after_some, tokens_from-first, tokens_from-front}
use Rattle.rdlpp_scan.proofs.SourceLaws.{source_tokens-last, source_tokens-next}
use Rattle.rdlpp_scan.proofs.StopKinds.{closed_kind_plain, one_byte_len}
use Rattle.rdlpp_scan.proofs.TokenLens.{token_of-part, tokens_from-step}
use Rattle.rdlpp_define.specs.Macros.{Macro, IsSoundMacro, formals_of}
use Rattle.rdlpp_define.specs.Table.{IsSound, TableView}
use Rattle.rdlpp_meaning.specs.Actuals.{Cut, Down, End, Ends, KeptComment, Role, Start, Stops, Text, Up, broken_role, kind_role, token_role}
use Rattle.rdlpp_meaning.specs.CallScan.{IsClosed, is_call_text, is_kept, source_role}
use Rattle.rdlpp_meaning.specs.Expansion.{bytes_of}
use Rattle.rdlpp_meaning.specs.Items.{broken_line, unlined}
use Rattle.rdlpp_meaning.specs.Parts.{directive_of}
use Rattle.rdlpp_meaning.specs.State.{breach_kind}
use Rattle.rdlpp_meaning.specs.Substitution.{body_tokens, spelled}
use Rattle.rdlpp_meaning.specs.TextTokens.{text_tokens}
use Rattle.rdlpp_meaning.proofs.SourceCalls.{kept-map, source_kept, unlined_bytes, unlined_role}

-- A text that is cut at a boundary of its tokens has the tokens before the cut in front of it and the others after it.

-- the tokens of a body are those of its text from plain text on
pub body_text : (bs : List ℕ) → body_tokens bs ≡ text_tokens Plain bs
unfolding body_tokens text_tokens
body_text bs = refl

-- the first of two lists of tokens
pub first_is : (x y : SourceToken) (xs ys : List SourceToken) → x ∷ xs ≡ y ∷ ys → x ≡ y
first_is x y xs ys h = cc

-- the rest of two lists of tokens
pub rest_is : (x y : SourceToken) (xs ys : List SourceToken) → x ∷ xs ≡ y ∷ ys → xs ≡ ys
rest_is x y xs ys h = cc

-- the token that stands in front of a text, with its bytes
unfoldable pub first_spelled : Mode → List ℕ → SourceToken
first_spelled m bs = record { sort = Ordinary (token_of m bs).kind; bytes = take (token_of m bs).len bs; line = 0 }

-- the tokens of a text that isn't empty: its first token, and those of the rest
pub text_step : (m : Mode) (bs : List ℕ) → 0 < length bs
    → text_tokens m bs ≡ first_spelled m bs ∷ text_tokens (token_of m bs).next_mode (drop (token_of m bs).len bs)
unfolding text_tokens spelled first_spelled
text_step m bs some = ap (λ (ts : List Token). spelled ts bs) (tokens_from-step m bs some (token_of-part m bs some).not_empty)

-- an empty text has no tokens
pub text_nil : (m : Mode) → text_tokens m [] ≡ []
unfolding text_tokens tokens_from spelled
text_nil m = refl

-- how many bytes the first token has
pub first_size : (m : Mode) (bs : List ℕ) → 0 < length bs → length (first_spelled m bs).bytes ≡ (token_of m bs).len
unfolding first_spelled
first_size m bs some = let n = length-take (token_of m bs).len bs in let part = token_of-part m bs some in omega (arith, part.inside)

-- the bytes of tokens of a text
spelled_bytes : (ts : List Token) (bs : List ℕ) → bytes_of (spelled ts bs) ≡ take (tokens_len ts) bs
unfolding spelled tokens_len
spelled_bytes [] bs = refl
spelled_bytes (t ∷ ts) bs =
    ap (λ (x : List ℕ). take t.len bs ++ x) (spelled_bytes ts (drop t.len bs)) ∙ sym (take-add t.len (tokens_len ts) bs)

-- tokens have the same bytes in the front of a text that they fill
spelled_front : (ts : List Token) (bs : List ℕ) → spelled ts (take (tokens_len ts) bs) ≡ spelled ts bs
unfolding spelled tokens_len
spelled_front [] bs = refl
spelled_front (t ∷ ts) bs = grind (arith, take-take, drop-take, (spelled_front ts (drop t.len bs)))

-- tokens of a text fit in it
tokens_fit : (ts us : List Token) (m : Mode) (bs : List ℕ) → tokens_from m 0 bs ≡ ts ++ us → tokens_len ts ≤ length bs
unfolding tokens_len
tokens_fit [] us m bs e = omega arith
tokens_fit (t ∷ ts) us m bs e =
    let p = tokens_from-first m bs t (ts ++ us) e in
    let inside : t.len ≤ length bs = subst (λ (v : Token). v.len ≤ length bs) p.1.0 (token_of-part m bs p.0).inside in
    let rest = tokens_fit ts us t.next_mode (drop t.len bs) p.1.1 in
    let size = length-drop t.len bs in
    omega arith

-- how tokens of a text are cut: those before the cut, and the others
record IsSpelledCut (ts : List Token) (bs : List ℕ) (us vs : List SourceToken) : Type 0 where
  before : List Token
  following : List Token
  whole : ts ≡ before ++ following
  front : spelled before bs ≡ us
  back : spelled following (drop (tokens_len before) bs) ≡ vs

-- tokens with their bytes are cut where the tokens are
spelled_cut : (us vs : List SourceToken) (ts : List Token) (bs : List ℕ) → spelled ts bs ≡ us ++ vs → IsSpelledCut ts bs us vs
unfolding spelled tokens_len
spelled_cut [] vs ts bs e = record { before = []; following = ts; whole = refl; front = refl; back = e }
spelled_cut (u ∷ us) vs [] bs e = absurd (cc)
spelled_cut (u ∷ us) vs (t ∷ ts) bs e =
    let own : SourceToken = record { sort = Ordinary t.kind; bytes = take t.len bs; line = 0 } in
    let h : spelled ts (drop t.len bs) ≡ us ++ vs = rest_is own u (spelled ts (drop t.len bs)) (us ++ vs) e in
    let c = spelled_cut us vs ts (drop t.len bs) h in
    record {
      before = t ∷ c.before;
      following = c.following;
      whole = ap (λ (xs : List Token). t ∷ xs) c.whole;
      front = ap (λ (xs : List SourceToken). own ∷ xs) c.front ∙ ap (λ (x : SourceToken). x ∷ us) (first_is own u (spelled ts (drop t.len bs)) (us ++ vs) e);
      back = ap (λ (x : List ℕ). spelled c.following x) (sym (drop-drop (tokens_len c.before) t.len bs)) ∙ c.back;
    }

-- how a text is cut at a boundary of its tokens: the bytes before the cut, the tokens that they have, and those of what is
-- after it, from some mode on
pub record IsTextCut (m : Mode) (bs : List ℕ) (us vs : List SourceToken) : Type 0 where
  pub bytes : bytes_of us ≡ take (length (bytes_of us)) bs
  pub inside : length (bytes_of us) ≤ length bs
  pub front : text_tokens m (bytes_of us) ≡ us
  pub mode : Mode
  pub back : text_tokens mode (drop (length (bytes_of us)) bs) ≡ vs

-- a text is cut so between any of its tokens
pub text_cut : (m : Mode) (bs : List ℕ) (us vs : List SourceToken) → text_tokens m bs ≡ us ++ vs → IsTextCut m bs us vs
unfolding text_tokens
text_cut m bs us vs e =
    let c = spelled_cut us vs (tokens_from m 0 bs) bs e in
    let k = tokens_len c.before in
    let fits = tokens_fit c.before c.following m bs c.whole in
    let own : bytes_of us ≡ take k bs = sym (ap (λ (xs : List SourceToken). bytes_of xs) c.front) ∙ spelled_bytes c.before bs in
    let size : length (bytes_of us) ≡ k = let n = length-take k bs in let l = ap length own in omega arith in
    let following = tokens_from-after_some c.before c.following m bs c.whole in
    grind (arith, tokens_from-front, spelled_front)

-- whether a token of a role leaves plain text after it, wherever it stands
unfoldable pub closes_text : Role → Bool
closes_text Text = false
closes_text KeptComment = false
closes_text r = true

-- such a token isn't open
closed_role : (k : Kind) (bytes : List ℕ) → closes_text (kind_role k bytes) ≡ true → opens_mode k ≡ false
unfolding closes_text kind_role opens_mode
closed_role Str bytes e = absurd (false≢true e)
closed_role BlockComment bytes e = absurd (false≢true e)
closed_role k bytes e = refl

-- what is after such a first token begins in plain text
first_closed : (m : Mode) (bs : List ℕ) → closes_text (token_role (first_spelled m bs)) ≡ true → (token_of m bs).next_mode ≡ Plain
unfolding first_spelled token_role
first_closed m bs e = closed_kind_plain m bs (closed_role (token_of m bs).kind (take (token_of m bs).len bs) e)

-- no list is empty and begins with a token
nil_cons : (ts : List SourceToken) (x : SourceToken) (xs : List SourceToken) → ts ≡ [] → ts ≡ x ∷ xs → ⊥
nil_cons ts x xs e h = cc

-- the first token of a text whose tokens begin with one, and the tokens after it
record BeginsWith (m : Mode) (bs : List ℕ) (u : SourceToken) (vs : List SourceToken) : Type 0 where
  some : 0 < length bs
  first : first_spelled m bs ≡ u
  following : text_tokens (token_of m bs).next_mode (drop (token_of m bs).len bs) ≡ vs

-- they are those
begins : (m : Mode) (bs : List ℕ) (u : SourceToken) (vs : List SourceToken) → text_tokens m bs ≡ u ∷ vs → BeginsWith m bs u vs
begins m [] u vs e = absurd (nil_cons (text_tokens m []) u vs (text_nil m) e)
begins m (b ∷ bs) u vs e = grind (arith, text_step, first_is, rest_is)

-- after a first token that leaves plain text, a text has the tokens that follow
pub first_after : (m : Mode) (bs : List ℕ) (u : SourceToken) (vs : List SourceToken) → text_tokens m bs ≡ u ∷ vs → closes_text (token_role u) ≡ true
    → (text_tokens Plain (drop (length u.bytes) bs) ≡ vs) × (length u.bytes ≤ length bs)
first_after m bs u vs e closed = grind (arith, begins, first_size, first_closed, token_of-part)

-- whether each token of a role is one byte
unfoldable pub is_one_role : Role → Bool
is_one_role Start = true
is_one_role Up = true
is_one_role End = true
is_one_role Down = true
is_one_role Cut = true
is_one_role r = false

-- such a role is that of a kind of one byte
one_role : (k : Kind) (bytes : List ℕ) → is_one_role (kind_role k bytes) ≡ true → is_one_byte k ≡ true
unfolding is_one_role kind_role is_one_byte
one_role Opener bytes e = refl
one_role Closer bytes e = refl
one_role Comma bytes e = refl
one_role k bytes e = absurd (false≢true e)

-- such a first token is one byte
first_one : (m : Mode) (bs : List ℕ) → is_one_role (token_role (first_spelled m bs)) ≡ true → (token_of m bs).len ≡ 1
unfolding first_spelled token_role
first_one m bs e = one_byte_len m bs (one_role (token_of m bs).kind (take (token_of m bs).len bs) e)

-- a token of such a role in a text is one byte
pub text_one : (m : Mode) (bs : List ℕ) (us : List SourceToken) (u : SourceToken) (vs : List SourceToken)
    → text_tokens m bs ≡ us ++ u ∷ vs → is_one_role (token_role u) ≡ true → length u.bytes ≡ 1
text_one m bs us u vs e one =
    let c = text_cut m bs us (u ∷ vs) e in
    grind (arith, begins, first_size, first_one)

-- after a token that leaves plain text, a text has the tokens that follow
pub text_after : (m : Mode) (bs : List ℕ) (us : List SourceToken) (u : SourceToken) (vs : List SourceToken)
    → text_tokens m bs ≡ us ++ u ∷ vs → closes_text (token_role u) ≡ true
    → (text_tokens Plain (drop (length (bytes_of us) + length u.bytes) bs) ≡ vs) × (length (bytes_of us) + length u.bytes ≤ length bs)
text_after m bs us u vs e closed =
    let c = text_cut m bs us (u ∷ vs) e in
    grind (arith, first_after, length-drop, drop-drop)

-- The bytes that a call keeps have exactly the tokens that it keeps, but for their lines.

-- where a text stands after a row of tokens of the token table: in plain text, where there is one
unfoldable pub mode_after_row : Mode → List SourceToken → Mode
mode_after_row m [] = m
mode_after_row m (u ∷ us) = Plain

-- after a row in plain text there is plain text
pub mode_after_plain : (us : List SourceToken) → mode_after_row Plain us ≡ Plain
unfolding mode_after_row
mode_after_plain [] = refl
mode_after_plain (u ∷ us) = refl

-- after a last token there is plain text
pub mode_after_last : (m : Mode) (us : List SourceToken) (u : SourceToken) → mode_after_row m (us ++ u ∷ []) ≡ Plain
unfolding mode_after_row
mode_after_last m [] u = refl
mode_after_last m (v ∷ us) u = refl

-- tokens of a source in a row: they are those of the text but for their lines, with others after them, and what is after
-- them is the source after their bytes
pub record IsSourceRow (c : Course) (m : Mode) (bs : List ℕ) (us rest : List SourceToken) : Type 0 where
  pub others : List SourceToken
  pub row : text_tokens m bs ≡ map unlined us ++ others
  pub opened : ℕ
  pub line : ℕ
  pub following : source_tokens c (mode_after_row m us) opened line 0 (drop (length (bytes_of us)) bs) ≡ rest

-- a broken token is none of the token table
not_broken : (b : Breach) (bytes : List ℕ) (line : ℕ) (u : SourceToken) (us ts : List SourceToken)
    → record { sort = Broken b; bytes = bytes; line = line } ∷ ts ≡ u ∷ us → is_ordinary u ≡ true → ⊥
unfolding is_ordinary
not_broken b bytes line u us ts e h = grind (arith, false≢true, first_is)

-- what is open at the end of a text is broken
open_broken : (b : Breach) (opened line : ℕ) (break : Option Break) (u : SourceToken) (us : List SourceToken)
    → (let s : Step = elim break [ None ↦ broken b [] opened | Some k ↦ broken k.breach [] (line + line_ends []) ] in
    let ts : List SourceToken = elim s [ Last t ↦ t ∷ [] | Next t ↦ [] ] in ts) ≡ u ∷ us
    → is_ordinary u ≡ true → ⊥
unfolding broken
open_broken b opened line None u us e h = not_broken b [] opened u us [] e h
open_broken b opened line (Some k) u us e h = not_broken k.breach [] (line + line_ends []) u us [] e h

-- at the end of a text there is a broken token or none
plain_end : (line : ℕ) (break : Option Break) (u : SourceToken) (us : List SourceToken)
    → (let ts : List SourceToken = elim break [ None ↦ [] | Some k ↦ record { sort = Broken k.breach; bytes = []; line = line } ∷ [] ] in ts) ≡ u ∷ us
    → is_ordinary u ≡ true → ⊥
plain_end line None u us e h = cc
plain_end line (Some k) u us e h = not_broken k.breach [] line u us [] e h

-- where nothing is left of a text, no token of the token table follows
none_at_end : (c : Course) (m : Mode) (opened line : ℕ) (u : SourceToken) (us : List SourceToken)
    → source_tokens c m opened line 0 [] ≡ u ∷ us → is_ordinary u ≡ true → ⊥
unfolding source_tokens source_end open_end
none_at_end c Plain opened line u us e h = plain_end line c.break u us e h
none_at_end c InStr opened line u us e h = open_broken StringOpen opened line c.break u us e h
none_at_end c InBlock opened line u us e h = open_broken CommentOpen opened line c.break u us e h

-- a token of the token table without its line is the first of its text
unlined_is : (m : Mode) (bs : List ℕ) (u : SourceToken) → IsTokenOf (token_of m bs) bs u → first_spelled m bs ≡ unlined u
unfolding first_spelled unlined broken_line
unlined_is m bs u f = grind arith

-- it has its bytes
own_size : (m : Mode) (bs : List ℕ) (u : SourceToken) → 0 < length bs → IsTokenOf (token_of m bs) bs u → length u.bytes ≡ (token_of m bs).len
unfolding first_spelled
own_size m bs u some f = ap length f.bytes ∙ first_size m bs some

-- a step that goes on gives the first token
next_first : (c : Course) (m : Mode) (opened line b : ℕ) (bs : List ℕ) (t : SourceToken) → source_step c m opened line (b ∷ bs) ≡ Next t
    → source_tokens c m opened line 0 (b ∷ bs) ≡ t ∷ source_tokens c Plain line (line_after b line) (length t.bytes - 1) bs
unfolding source_tokens
next_first c m opened line b bs t is =
    ap (λ s. elim s [ Last u ↦ u ∷ [] | Next u ↦ u ∷ source_tokens c Plain line (line_after b line) (length u.bytes - 1) bs ]) is

-- a first token of the token table in front of a row
row_first : (c : Course) (m : Mode) (bs : List ℕ) (u : SourceToken) (us rest : List SourceToken) → 0 < length bs → IsTokenOf (token_of m bs) bs u
    → IsSourceRow c Plain (drop (length u.bytes) bs) us rest → IsSourceRow c m bs (u ∷ us) rest
unfolding mode_after_row
row_first c m bs u us rest some f r =
    grind (arith, common_steps, own_size, text_step, unlined_is, length-append, drop-drop, mode_after_plain)

-- a row by its first step
row_by : (c : Course) (m : Mode) (opened line b : ℕ) (bs : List ℕ) (u : SourceToken) (us rest : List SourceToken) (s : Step)
    → source_step c m opened line (b ∷ bs) ≡ s → Gives (token_of m (b ∷ bs)) (b ∷ bs) s → source_tokens c m opened line 0 (b ∷ bs) ≡ u ∷ us ++ rest
    → is_ordinary u ≡ true
    → ((o l : ℕ) → source_tokens c Plain o l 0 (drop (length u.bytes) (b ∷ bs)) ≡ us ++ rest → IsSourceRow c Plain (drop (length u.bytes) (b ∷ bs)) us rest)
    → IsSourceRow c m (b ∷ bs) (u ∷ us) rest
unfolding Gives
row_by c m opened line b bs u us rest (Last t) is gives e h more = grind (arith, first_is, source_tokens-last)
row_by c m opened line b bs u us rest (Next t) is gives e h more =
    let later = source_tokens c Plain line (line_after b line) (length t.bytes - 1) bs in
    let some : 0 < length (b ∷ bs) = omega arith in
    let same : t ≡ u = first_is t u later (us ++ rest) (sym (next_first c m opened line b bs t is) ∙ e) in
    let f : IsTokenOf (token_of m (b ∷ bs)) (b ∷ bs) u =
    subst (λ (v : SourceToken). IsTokenOf (token_of m (b ∷ bs)) (b ∷ bs) v) same (gives (ap is_ordinary same ∙ h)) in
    let size = own_size m (b ∷ bs) u some f in
    let long : 0 < length u.bytes = omega (arith, size, (token_of-part m (b ∷ bs) some).not_empty) in
    let n = length u.bytes in
    let at = line + line_ends (take n (b ∷ bs)) in
    let step = source_tokens-next c m opened line (b ∷ bs) u some (is ∙ ap (λ (v : SourceToken). Next v) same) long in
    let rests = rest_is u u (source_tokens c Plain line at 0 (drop n (b ∷ bs))) (us ++ rest) (sym step ∙ e) in
    row_first c m (b ∷ bs) u us rest some f (more line at rests)

-- tokens in a row that are those of the token table are the tokens of their text but for their lines
pub source_row : (us rest : List SourceToken) (c : Course) (m : Mode) (opened line : ℕ) (bs : List ℕ)
    → source_tokens c m opened line 0 bs ≡ us ++ rest → All (λ t. is_ordinary t ≡ true) us → IsSourceRow c m bs us rest
unfolding mode_after_row
source_row [] rest c m opened line bs e all =
    record { others = text_tokens m bs; row = refl; opened = opened; line = line; following = e }
source_row (u ∷ us) rest c m opened line [] e all =
    absurd (none_at_end c m opened line u (us ++ rest) e (All-head (λ (t : SourceToken). is_ordinary t ≡ true) u us all))
source_row (u ∷ us) rest c m opened line (b ∷ bs) e all =
    row_by c m opened line b bs u us rest (source_step c m opened line (b ∷ bs)) refl (source_step_gives c m opened line (b ∷ bs)) e
    (All-head (λ (t : SourceToken). is_ordinary t ≡ true) u us all)
    (λ o l h. source_row us rest c Plain o l (drop (length u.bytes) (b ∷ bs)) h (All-tail (λ (t : SourceToken). is_ordinary t ≡ true) u us all))

-- whether a token is kept by a call, by its role
unfoldable pub stays : SourceToken → Bool
stays t = is_kept (token_role t)

-- tokens with given bytes
unfoldable named : List Token → List (List ℕ) → List SourceToken
named (t ∷ ts) (x ∷ texts) = record { sort = Ordinary t.kind; bytes = x; line = 0 } ∷ named ts texts
named _ texts = []

-- tokens of a text are those with the bytes that they have in it
spelled_named : (ts : List Token) (bs : List ℕ) → spelled ts bs ≡ named ts (token_texts ts bs)
unfolding spelled named token_texts
spelled_named [] bs = refl
spelled_named (t ∷ ts) bs =
    ap (λ (us : List SourceToken). record { sort = Ordinary t.kind; bytes = take t.len bs; line = 0 } ∷ us) (spelled_named ts (drop t.len bs))

-- a choice of two roles that are kept is kept
pub either_kept : (c : Bool) (r q : Role) → is_kept r ≡ true → is_kept q ≡ true → is_kept (cond c r q) ≡ true
either_kept true r q h k = h
either_kept false r q h k = k

-- a token of the token table is kept where it is no `//` comment
pub comment_stays : (k : Kind) (bytes : List ℕ) (line : ℕ) → stays (record { sort = Ordinary k; bytes = bytes; line = line }) ≡ not (is_line_comment k)
unfolding stays token_role kind_role is_kept is_line_comment
comment_stays LineComment bytes line = refl
comment_stays Opener bytes line = either_kept _ Start Up refl refl
comment_stays Closer bytes line = either_kept _ End Down refl refl
comment_stays k bytes line = refl

-- the tokens of a text that stay are its other tokens with their bytes
named_others : (ts : List Token) (bs : List ℕ) → named (other_tokens ts) (other_texts ts bs) ≡ filter stays (spelled ts bs)
unfolding named other_tokens other_texts spelled
named_others [] bs = refl
named_others (t ∷ ts) bs = grind (arith, comment_stays, (named_others ts (drop t.len bs)))

-- a token in front of those that stay, and its bytes in front of what is left of a text
other_front : (own : List ℕ) (kind : Kind) (more : List SourceToken) (texts : List (List ℕ)) (b : Bool) → bytes_of more ≡ concat texts
    → bytes_of (cond (not b) (record { sort = Ordinary kind; bytes = own; line = 0 } ∷ more) more) ≡ concat (cond b texts (own ∷ texts))
other_front own kind more texts true e = e
other_front own kind more texts false e = ap (λ (x : List ℕ). own ++ x) e

-- and their bytes are what is left of the text
others_bytes : (ts : List Token) (bs : List ℕ) → bytes_of (filter stays (spelled ts bs)) ≡ concat (other_texts ts bs)
unfolding other_texts spelled
others_bytes [] bs = refl
others_bytes (t ∷ ts) bs = grind (arith, comment_stays, other_front, (others_bytes ts (drop t.len bs)))

-- the bytes of a text without those of its `//` comments have the other tokens
text_without : (m : Mode) (bs : List ℕ) → text_tokens m (without_line_comments m bs) ≡ filter stays (text_tokens m bs)
unfolding text_tokens
text_without m bs = grind (arith, spelled_named, without-texts, without-tokens, named_others)

-- the bytes of the tokens of a text that stay are what is left of it
stay_bytes : (m : Mode) (bs : List ℕ) → bytes_of (filter stays (text_tokens m bs)) ≡ without_line_comments m bs
unfolding text_tokens without_line_comments
stay_bytes m bs = others_bytes (tokens_from m 0 bs) bs

-- the bytes of the tokens of a text that stay have these tokens
pub kept_text : (m : Mode) (bs : List ℕ) (us : List SourceToken) → text_tokens m bs ≡ us
    → text_tokens m (bytes_of (filter (λ t. is_kept (token_role t)) us)) ≡ filter (λ t. is_kept (token_role t)) us
unfolding stays
kept_text m bs us e = grind (arith, stay_bytes, text_without)

-- a broken token is no text of a call
either_broken : (c : Bool) (f : Role) (g : Role) → is_call_text f ≡ false → is_call_text g ≡ false → is_call_text (cond c f g) ≡ true → ⊥
either_broken true f g h k e = false≢true (sym h ∙ e)
either_broken false f g h k e = false≢true (sym k ∙ e)

-- text of a call is of the token table, by the sort
call_text_by : (sort : Sort) (bytes : List ℕ) (line : ℕ) → is_call_text (source_role (record { sort = sort; bytes = bytes; line = line })) ≡ true
    → is_ordinary (record { sort = sort; bytes = bytes; line = line }) ≡ true
unfolding is_call_text source_role directive_of token_role broken_role is_ordinary
call_text_by (Ordinary k) bytes line e = refl
call_text_by Definition bytes line e = absurd (false≢true e)
call_text_by Renumbering bytes line e = absurd (false≢true e)
call_text_by (Broken DefineLong) bytes line e = absurd (false≢true e)
call_text_by (Broken DefineCut) bytes line e = absurd (false≢true e)
call_text_by (Broken b) bytes line e = absurd (either_broken _ (Ends (breach_kind b) line) (Stops (breach_kind b) line) refl refl e)

-- text of a call is of the token table
pub call_text_ordinary : (t : SourceToken) → is_call_text (source_role t) ≡ true → is_ordinary t ≡ true
call_text_ordinary t e = call_text_by t.sort t.bytes t.line e

-- so are the things of a list of such text
all_ordinary : (ts : List SourceToken) → All (λ t. is_call_text (source_role t) ≡ true) ts → All (λ t. is_ordinary t ≡ true) ts
all_ordinary ts all =
    All-weaker (λ (t : SourceToken). is_call_text (source_role t) ≡ true) (λ (t : SourceToken). is_ordinary t ≡ true) call_text_ordinary ts all

-- the `(` is too
opener_ordinary : (t : SourceToken) → source_role t ≡ Start → is_ordinary t ≡ true
unfolding is_call_text
opener_ordinary t e = call_text_ordinary t (ap is_call_text e)

-- what a source keeps of tokens doesn't hang on directives
kept_same : (ts : List SourceToken) → filter (λ t. is_kept (source_role t)) ts ≡ filter (λ t. is_kept (token_role t)) ts
kept_same [] = refl
kept_same (t ∷ ts) = grind (arith, source_kept, (kept_same ts))

-- what a call in a source keeps are the tokens of the kept bytes, but for their lines
pub kept_call_text : (c : Course) (m : Mode) (opened line : ℕ) (bs : List ℕ) (ts ks : List SourceToken) (used : ℕ)
    → source_tokens c m opened line 0 bs ≡ ts → IsClosed source_role ts ks used → body_tokens (bytes_of ks) ≡ map unlined ks
kept_call_text c m opened line bs ts ks used e closed =
    let front : List SourceToken = closed.lead ++ closed.opener ∷ [] in
    let rest : List SourceToken = closed.closer ∷ closed.following in
    let P : SourceToken → Type 0 = λ t. is_ordinary t ≡ true in
    let whole : source_tokens c m opened line 0 bs ≡ front ++ (closed.inner ++ rest) =
    e ∙ closed.whole ∙ sym (append_assoc closed.lead (closed.opener ∷ []) (closed.inner ++ rest)) in
    let fronts : All P front =
    All-append P closed.lead (closed.opener ∷ []) (all_ordinary closed.lead closed.leads)
    (All-cons P closed.opener [] (opener_ordinary closed.opener closed.opens) (All-nil P)) in
    let r = source_row front (closed.inner ++ rest) c m opened line bs whole fronts in
    let text : List ℕ = drop (length (bytes_of front)) bs in
    let inner : source_tokens c Plain r.opened r.line 0 text ≡ closed.inner ++ rest =
    ap (λ (mode : Mode). source_tokens c mode r.opened r.line 0 text) (sym (mode_after_last m closed.lead closed.opener)) ∙ r.following in
    let q = source_row closed.inner rest c Plain r.opened r.line text inner (all_ordinary closed.inner closed.text) in
    let us : List SourceToken = map unlined closed.inner in
    let cut = text_cut Plain text us q.others q.row in
    let same : filter (λ t. is_kept (token_role t)) us ≡ map unlined ks =
    kept-map token_role token_role unlined unlined_role closed.inner ∙ ap (map unlined) (sym (closed.keeps ∙ kept_same closed.inner)) in
    grind (arith, body_text, unlined_bytes, kept_text)

-- and each of them is kept
pub kept_call_keeps : (ts ks : List SourceToken) (used : ℕ) → IsClosed source_role ts ks used → All (λ t. is_kept (token_role t) ≡ true) (map unlined ks)
kept_call_keeps ts ks used closed =
    let P : SourceToken → Type 0 = λ t. is_kept (token_role t) ≡ true in
    let all : All P ks = subst (All P) (sym (closed.keeps ∙ kept_same closed.inner)) (filter_passes (λ (t : SourceToken). is_kept (token_role t)) closed.inner) in
    All-map P unlined ks (All-weaker P (λ t. P (unlined t)) (λ t e. ap is_kept (unlined_role t) ∙ e) ks all)

-- The texts of a table's macros: the tokens of a clean text are all kept.

-- a macro whose body and default texts are read whole, without `//` comments
pub record HasCleanTexts (m : Macro) : Type 0 where
  pub body : IsCleanText m.body
  pub defaults : AllByRecursion (λ f. IsCleanText f.text) (formals_of m)

clean_each : (ms : List Macro) → AllByRecursion IsSoundMacro ms → AllByRecursion HasCleanTexts ms
clean_each [] all = tt
clean_each (m ∷ ms) all = grind (arith, recursion_from_All, (clean_each ms all.1))

-- the macros of a table have clean texts
pub clean_table : (table : TableView) → IsSound table → AllByRecursion HasCleanTexts table.macros
clean_table table sound = clean_each table.macros (recursion_from_All IsSoundMacro table.macros sound.each)

clean_spelled : (ts : List Token) (bs : List ℕ) → AllByRecursion IsCleanToken ts → filter (λ t. is_kept (token_role t)) (spelled ts bs) ≡ spelled ts bs
unfolding spelled stays
clean_spelled [] bs all = refl
clean_spelled (t ∷ ts) bs all = grind (arith, comment_stays, (clean_spelled ts (drop t.len bs) all.1))

-- a call keeps all tokens of a clean text
pub clean_keeps_all : (text : List ℕ) → IsCleanText text → filter (λ t. is_kept (token_role t)) (body_tokens text) ≡ body_tokens text
unfolding body_tokens
clean_keeps_all text clean = clean_spelled (tokens_from Plain 0 text) text (clean_tokens text clean)
