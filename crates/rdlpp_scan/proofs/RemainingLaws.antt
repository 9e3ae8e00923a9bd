-- What remains of a source, step by step, and what stands first in it.
use Rattle.std.proofs.Common.{◌≡◌, ◌⊎◌, ℕ, ◌+◌, ◌-◌, ◌<◌, ◌≤◌, false, List, ◌∷◌, ◌++◌, Option, None, length, take, drop, sym, ap, ◌∙◌, inl, inr, ⊎_elim, suc, Bool, true, cond, ltb, Some, refl, arith, eqb, subst, ◌&&◌, get_or, All, flat_map, bytes_eq, codes, le-ltb, lt-ltb, append-nil, append_assoc, length-append, length-take-le, take-append-drop, []}
use Rattle.std.specs.List.{prefix_len}
use Rattle.std.proofs.Math.Bool.{and-false}
use Rattle.std.proofs.lemmas.Bool.{cases_lt, cond_both, false_from_ne_true, false≢true}
use Rattle.rdlpp_scan.specs.Bytes.{begins_block_comment, begins_line_comment, begins_perl, is_blank, is_closer, is_digit, is_letter, is_line_end, is_opener, is_word, takes_word}
use Rattle.rdlpp_scan.specs.Defines.{HoldsDefine}
use Rattle.rdlpp_scan.specs.Front.{Breach, Break, CommentOpen, DefineCut, DefineLong, Front, LineLong, PerlFound, SourceLong, StringOpen, front, onto_front}
use Rattle.rdlpp_scan.specs.Lines.{EndsLine, IsWholeLines, onto_whole_lines, whole_lines_len}
use Rattle.rdlpp_scan.specs.Ordinary.{IsOrdinary, IsPlainToken}
use Rattle.rdlpp_scan.specs.Resumed.{onto_tokens, opening}
use Rattle.rdlpp_scan.specs.SourceTokens.{Broken, Course, Definition, Last, Next, Ordinary, Renumbering, SourceToken, Step, back_step, broken, comment_step, define_step, line_after, line_ends, line_len, line_step, logical_len, open_end, remaining_tokens, source_end, source_step, source_tokens, step_by, string_step}
use Rattle.rdlpp_scan.specs.TokenKinds.{is_ordinary}
use Rattle.rdlpp_scan.specs.Tokens.{block_token, plain_len, plain_token, string_token, token_of, whole}
use Rattle.rdlpp_scan.specs.declared.token.Kind.{Kind}
use Rattle.rdlpp_scan.specs.declared.token.Kind.TheVariants.{Back, BareBackquote, Blank, BlockComment, Name, Perl, Str}
use Rattle.rdlpp_scan.specs.declared.token.Mode.{Mode}
use Rattle.rdlpp_scan.specs.declared.token.Mode.TheVariants.{InBlock, InStr, Plain}
use Rattle.rdlpp_scan.specs.declared.token.Token.{Token}
use Rattle.rdlpp_scan.proofs.TokenSteps.{BeginsDefine, comment_rest, end_of, is_kept_kind, step-back, step-bare, step-closed, step-cut_string, step-line, step-logical, step-logical_broken, step-logical_full, step-logical_last, step-open_comment, step-open_string, step-perl, string_rest}
use Rattle.rdlpp_scan.proofs.SourceLaws.{IsWholeLines-one, IsWholeLines-rest, front-accept, front-line_long, front-none, front-source_long, line_ends-cons, line_len-le, line_len-some, source_tokens-last, source_tokens-opened, whole_one}
use Rattle.rdlpp_scan.proofs.OrdinaryLaws.{ordinary_front}
use Rattle.rdlpp_scan.proofs.Seams.{BeforePerl, Closed, IsCut-from_line, OpenComment, OpenString, Seam, blank_ten, line_end-ten, token_of-seam, word_ten}
use Rattle.rdlpp_scan.proofs.StopKinds.{block_token-kind, string_token-kind}

-- What remains of a source, step by step, as the engine takes it: `held` ends at a line end or at the text's end.

-- what breaks or ends a source after the text that is held
pub record IsAfter (held rest more : List ℕ) (break : Option Break) : Type 0 where
  pub ends : EndsLine held more
  pub last : IsWholeLines held ⊎ ((more ≡ []) × (break ≡ None))

-- the same of every front
pub following : (most room : ℕ) (held rest : List ℕ) → EndsLine held rest → IsAfter held rest (front most room rest).text (front most room rest).break
following most room held rest = grind (arith, front-none)

-- the course of a source with this after it
abbrev pub course : ℕ → ℕ → List ℕ → Course
course most room rest = record { most = most; break = (front most room rest).break }

-- of what is held, ordinary text w goes through, and what is after it remains
pub record GoesThrough (most l : ℕ) (held w following : List ℕ) (room : ℕ) (rest : List ℕ) : Type 0 where
  pub tokens : List SourceToken
  pub steps : (o p : ℕ) → remaining_tokens most Plain o l held room rest ≡ tokens ++ remaining_tokens most Plain p (l + line_ends w) following room rest
  pub plain : All IsPlainToken tokens
  pub spelled : flat_map (λ t. t.bytes) tokens ≡ w

-- in plain text it is of no account where something opened
pub remaining-opened : (most o p l : ℕ) (held : List ℕ) (room : ℕ) (rest : List ℕ) → remaining_tokens most Plain o l held room rest ≡ remaining_tokens most Plain p l held room rest
unfolding remaining_tokens
remaining-opened most o p l held room rest = source_tokens-opened (course most room rest) o p l 0 (held ++ (front most room rest).text)

goes_through : (most l : ℕ) (held w following : List ℕ) (room : ℕ) (rest : List ℕ) → held ≡ w ++ following → IsOrdinary (course most room rest) l w (following ++ (front most room rest).text) → GoesThrough most l held w following room rest
unfolding remaining_tokens
goes_through most l held w following room rest split ordinary = grind (arith, following, append_assoc, source_tokens-opened)

-- the ordinary text with which what is held begins
pub remaining-ordinary : (most l : ℕ) (held : List ℕ) (room : ℕ) (rest : List ℕ) → EndsLine held rest
    → GoesThrough most l held (take (plain_len held) held) (drop (plain_len held) held) room rest
remaining-ordinary most l held room rest ends = grind (arith, goes_through, take-append-drop, ordinary_front, following)

-- lines that are taken in
pub remaining-accept : (most : ℕ) (m : Mode) (o l : ℕ) (held : List ℕ) (room : ℕ) (w r : List ℕ) → EndsLine w r → length w ≤ most → length w ≤ room
    → remaining_tokens most m o l held room (w ++ r) ≡ remaining_tokens most m o l (held ++ w) (room - length w) r
unfolding remaining_tokens onto_front
remaining-accept most m o l held room w r ends line source =
    let f = front most (room - length w) r in
    let of_front : Front → List SourceToken = λ g. source_tokens (record { most = most; break = g.break }) m o l 0 (held ++ g.text) in
    ap of_front (front-accept most room w r ends line source)
    ∙ ap (λ z. source_tokens (record { most = most; break = f.break }) m o l 0 z) (sym (append_assoc held w f.text))

-- what remains of a source whose front is known
remaining-front : (most o l room : ℕ) (r : List ℕ) (k : Option Break) → front most room r ≡ record { text = []; break = k } → remaining_tokens most Plain o l [] room r ≡ source_end (record { most = most; break = k }) Plain o l
unfolding remaining_tokens source_tokens
remaining-front most o l room r k is = ap (λ (g : Front). source_tokens (record { most = most; break = g.break }) Plain o l 0 g.text) is

-- the end
pub remaining-end : (most o l room : ℕ) → remaining_tokens most Plain o l [] room [] ≡ []
unfolding source_end
remaining-end most o l room = remaining-front most o l room [] None (front-none most room)

-- `<%` ends the list
pub remaining-perl : (most o l : ℕ) (held : List ℕ) (room : ℕ) (rest : List ℕ) → 0 < length held → EndsLine held rest → (token_of Plain held).kind ≡ Perl
    → remaining_tokens most Plain o l held room rest ≡ record { sort = Broken PerlFound; bytes = []; line = l } ∷ []
unfolding remaining_tokens
remaining-perl most o l held room rest some ends is = grind (arith, following, step-perl)

-- a backquote without a name
pub remaining-bare : (most o l : ℕ) (held : List ℕ) (room : ℕ) (rest : List ℕ) → 0 < length held → EndsLine held rest → (token_of Plain held).kind ≡ BareBackquote
    → remaining_tokens most Plain o l held room rest ≡ record { sort = Ordinary BareBackquote; bytes = take 1 held; line = l } ∷ remaining_tokens most Plain l l (drop 1 held) room rest
unfolding remaining_tokens
remaining-bare most o l held room rest some ends is = grind (arith, following, step-bare)

-- a backquote with a name that is neither `define` nor `line`
pub remaining-back : (most o l : ℕ) (held : List ℕ) (room : ℕ) (rest : List ℕ) → 0 < length held → EndsLine held rest → (token_of Plain held).kind ≡ Back
    → bytes_eq (take (token_of Plain held).len held) (codes "`define") ≡ false → bytes_eq (take (token_of Plain held).len held) (codes "`line") ≡ false
    → remaining_tokens most Plain o l held room rest
    ≡ record { sort = Ordinary Back; bytes = take (token_of Plain held).len held; line = l } ∷ remaining_tokens most Plain l l (drop (token_of Plain held).len held) room rest
unfolding remaining_tokens
remaining-back most o l held room rest some ends is other also = grind (arith, following, step-back)

-- What remains of a source at a string, a comment, a logical line or a `line`: `held` ends at a line end or at the text's end.

-- a token that is closed in what is held
pub remaining-closed : (most : ℕ) (m : Mode) (o l : ℕ) (held : List ℕ) (room : ℕ) (rest : List ℕ) → 0 < length held → EndsLine held rest → is_kept_kind (token_of m held).kind ≡ true → (token_of m held).next_mode ≡ Plain
    → remaining_tokens most m o l held room rest
    ≡ record { sort = Ordinary (token_of m held).kind; bytes = take (token_of m held).len held; line = l }
    ∷ remaining_tokens most Plain l (l + line_ends (take (token_of m held).len held)) (drop (token_of m held).len held) room rest
unfolding remaining_tokens
remaining-closed most m o l held room rest some ends kept closed = grind (arith, following, step-closed, IsCut-from_line)

-- a string that is open in what is held: what is held of it, in front of what remains of its rest
pub remaining-open_string : (most : ℕ) (m : Mode) (o l : ℕ) (held : List ℕ) (room : ℕ) (rest : List ℕ) → 0 < length held → EndsLine held rest → (token_of m held).next_mode ≡ InStr → (token_of m held).len ≡ length held
    → remaining_tokens most m o l held room rest ≡ onto_tokens held l (remaining_tokens most InStr (opening m o l) (l + line_ends held) [] room rest)
unfolding remaining_tokens
remaining-open_string most m o l held room rest some ends mode len = grind (arith, following, step-open_string, IsCut-from_line)

-- a block comment that is open in what is held
pub remaining-open_comment : (most : ℕ) (m : Mode) (o l : ℕ) (held : List ℕ) (room : ℕ) (rest : List ℕ) → 0 < length held → EndsLine held rest → (token_of m held).next_mode ≡ InBlock
    → remaining_tokens most m o l held room rest ≡ onto_tokens held l (remaining_tokens most InBlock (opening m o l) (l + line_ends held) [] room rest)
unfolding remaining_tokens
remaining-open_comment most m o l held room rest some ends mode = grind (arith, following, step-open_comment, IsCut-from_line)

-- a string that `<%` cuts in what is held
pub remaining-cut_string : (most : ℕ) (m : Mode) (o l : ℕ) (held : List ℕ) (room : ℕ) (rest : List ℕ) → 0 < length held → EndsLine held rest → (token_of m held).kind ≡ Str → (token_of m held).next_mode ≡ InStr → (token_of m held).len < length held
    → remaining_tokens most m o l held room rest
    ≡ record { sort = Broken PerlFound; bytes = take (token_of m held).len held; line = l + line_ends (take (token_of m held).len held) } ∷ []
unfolding remaining_tokens
remaining-cut_string most m o l held room rest some ends kind mode lt = grind (arith, following, step-cut_string, IsCut-from_line)

begins : (most : ℕ) (held : List ℕ) (room : ℕ) (rest : List ℕ) → HoldsDefine held rest → BeginsDefine (course most room rest) held (front most room rest).text
begins most held room rest h = grind (arith, following)

-- a `define` whose logical line ends in what is held
pub remaining-logical : (most o l : ℕ) (held : List ℕ) (room : ℕ) (rest : List ℕ) (n : ℕ) → HoldsDefine held rest → logical_len 0 0 held ≡ Some n → n ≤ most
    → remaining_tokens most Plain o l held room rest
    ≡ record { sort = Definition; bytes = take n held; line = l } ∷ remaining_tokens most Plain l (l + line_ends (take n held)) (drop n held) room rest
unfolding remaining_tokens
remaining-logical most o l held room rest n h is fits =
    step-logical (course most room rest) o l held (front most room rest).text n (begins most held room rest h) is fits

-- a first line is as long with anything after it
first_line-within : (bs more : List ℕ) → line_len bs ≤ line_len (take (line_len bs) bs ++ more)
unfolding line_len
first_line-within [] more = omega arith
first_line-within (b ∷ bs) more = grind (arith, (first_line-within bs more))

-- a first line ends at a line end or at the text's end
first_line-ends : (bs : List ℕ) → EndsLine (take (line_len bs) bs) (drop (line_len bs) bs)
unfolding line_len whole_lines_len onto_whole_lines
first_line-ends [] = inr refl
first_line-ends (b ∷ []) = grind arith
first_line-ends (b ∷ c ∷ cs) = grind (arith, line_len-some, length-take-le, line_len-le, whole_one, (first_line-ends (c ∷ cs)))

-- tokens by the front that is after what is held
of_front : ℕ → ℕ → ℕ → List ℕ → Front → List SourceToken
of_front most o l held f = source_tokens (record { most = most; break = f.break }) Plain o l 0 (held ++ f.text)

-- a `define` in front of a broken line
define_broken : (most o l : ℕ) (held rest : List ℕ) (k : Break) → HoldsDefine held rest → logical_len 0 0 held ≡ None
    → of_front most o l held (record { text = []; break = Some k }) ≡ record { sort = Broken (cond (ltb most (length held + k.len)) DefineLong DefineCut); bytes = []; line = l } ∷ []
unfolding of_front
define_broken most o l held rest k h is =
    let c : Course = record { most = most; break = Some k } in
    let none : EndsLine held [] = inr refl in
    ap (source_tokens c Plain o l 0) (append-nil held)
    ∙ step-logical_broken c o l held k (record { some = h.some; ends = none; kind = h.kind; word = h.word }) is refl

-- a `define` whose logical line goes on, and is too long with the next physical line
pub remaining-logical_full : (most o l : ℕ) (held : List ℕ) (room : ℕ) (rest : List ℕ) → HoldsDefine held rest → logical_len 0 0 held ≡ None → 0 < length rest → most < length held + line_len rest
    → remaining_tokens most Plain o l held room rest ≡ record { sort = Broken DefineLong; bytes = []; line = l } ∷ []
unfolding remaining_tokens of_front onto_front
remaining-logical_full most o l held room rest h is some long =
    let n = line_len rest in
    let F = front most room rest in
    let broken_line : Breach → List SourceToken = λ k. record { sort = Broken k; bytes = []; line = l } ∷ [] in
    let picked = ap (λ t. broken_line (cond t DefineLong DefineCut)) (lt-ltb most (length held + n) long) in
    let at_line : most < n → of_front most o l held F ≡ broken_line DefineLong = λ more.
    ap (of_front most o l held) (front-line_long most room rest more) ∙ define_broken most o l held rest (record { breach = LineLong; len = n }) h is ∙ picked in
    let at_source : n ≤ most → room < n → of_front most o l held F ≡ broken_line DefineLong = λ fits much.
    ap (of_front most o l held) (front-source_long most room rest fits much) ∙ define_broken most o l held rest (record { breach = SourceLong; len = n }) h is ∙ picked in
    let accepted : n ≤ most → n ≤ room → of_front most o l held F ≡ broken_line DefineLong = λ fits within.
    let w = take n rest in
    let r = drop n rest in
    let size : length w ≡ n = length-take-le n rest (line_len-le rest) in
    let g = front most (room - length w) r in
    let text : F.text ≡ w ++ g.text =
    ap (λ (z : List ℕ). (front most room z).text) (sym (take-append-drop n rest)) ∙ ap (λ (f : Front). f.text) (front-accept most room w r (first_line-ends rest) (omega arith) (omega arith)) in
    let line : n ≤ line_len F.text = omega (arith, first_line-within rest g.text, ap line_len text) in
    let some_line = line_len-some rest some in
    step-logical_full (course most room rest) o l held F.text (begins most held room rest h) is (omega (arith, line_len-le F.text)) (omega arith) in
    ⊎_elim at_line (λ fits. ⊎_elim (at_source fits) (accepted fits) (cases_lt room n)) (cases_lt most n)

-- a `define` in whose logical line a line is too much for the source
pub remaining-logical_source : (most o l : ℕ) (held : List ℕ) (room : ℕ) (rest : List ℕ) → HoldsDefine held rest → logical_len 0 0 held ≡ None → length held + line_len rest ≤ most → room < line_len rest
    → remaining_tokens most Plain o l held room rest ≡ record { sort = Broken DefineCut; bytes = []; line = l } ∷ []
unfolding remaining_tokens of_front
remaining-logical_source most o l held room rest h is fits much =
    let n = line_len rest in
    ap (of_front most o l held) (front-source_long most room rest (omega arith) much) ∙ define_broken most o l held rest (record { breach = SourceLong; len = n }) h is
    ∙ ap (λ t. record { sort = Broken (cond t DefineLong DefineCut); bytes = []; line = l } ∷ []) (le-ltb most (length held + n) fits)

-- a `define` at the end of a source
pub remaining-logical_last : (most o l : ℕ) (held : List ℕ) (room : ℕ) → HoldsDefine held [] → logical_len 0 0 held ≡ None → length held ≤ most
    → remaining_tokens most Plain o l held room [] ≡ record { sort = Definition; bytes = held; line = l } ∷ []
unfolding remaining_tokens of_front source_tokens source_end
remaining-logical_last most o l held room h is fits = grind (arith, of_front, front-none, append-nil, step-logical_last)

-- a `line` with its line
pub remaining-line : (most o l : ℕ) (held : List ℕ) (room : ℕ) (rest : List ℕ) → 0 < length held → EndsLine held rest → (token_of Plain held).kind ≡ Back
    → bytes_eq (take (token_of Plain held).len held) (codes "`define") ≡ false → bytes_eq (take (token_of Plain held).len held) (codes "`line") ≡ true
    → remaining_tokens most Plain o l held room rest
    ≡ record { sort = Renumbering; bytes = take (line_len held) held; line = l } ∷ remaining_tokens most Plain l (l + line_ends (take (line_len held) held)) (drop (line_len held) held) room rest
unfolding remaining_tokens
remaining-line most o l held room rest some ends is other also = grind (arith, following, step-line)

-- What remains of a source in a string or in a block comment begins with the rest of it.

-- a kind of token that may be open at the end of a text
abbrev pub IsOpenKind : Kind → Type 0
IsOpenKind k = (k ≡ Str) ⊎ (k ≡ BlockComment)

-- a string, a block comment or a broken token, in front of whatever follows
pub data Resumes (ts : List SourceToken) : Type 0 where
  Copies : (k : Kind) (bytes : List ℕ) (line : ℕ) (more : List SourceToken) → IsOpenKind k → ts ≡ record { sort = Ordinary k; bytes = bytes; line = line } ∷ more → Resumes ts
  Breaks : (b : Breach) (bytes : List ℕ) (line : ℕ) → ts ≡ record { sort = Broken b; bytes = bytes; line = line } ∷ [] → Resumes ts

-- the same of a step
data ResumesStep (s : Step) : Type 0 where
  NextText : (k : Kind) (bytes : List ℕ) (line : ℕ) → IsOpenKind k → s ≡ Next (record { sort = Ordinary k; bytes = bytes; line = line }) → ResumesStep s
  LastBroken : (b : Breach) (bytes : List ℕ) (line : ℕ) → s ≡ Last (record { sort = Broken b; bytes = bytes; line = line }) → ResumesStep s

-- an open end is a broken token
open_end-last : (c : Course) (k : Breach) (o l : ℕ) (own : List ℕ) → (b : Breach) × (line : ℕ) × (open_end c k o l own ≡ Last (record { sort = Broken b; bytes = own; line = line }))
unfolding open_end broken
open_end-last c k o l own =
    elim c.break as (λ d. (b : Breach) × (line : ℕ) × ((elim d [ None ↦ broken k own o | Some d ↦ broken d.breach own (l + line_ends own) ]) ≡ Last (record { sort = Broken b; bytes = own; line = line }))) [
      | None ↦ (k, o, refl)
      | Some d ↦ (d.breach, l + line_ends own, refl)
    ]

open_end-breaks : (c : Course) (k : Breach) (o l : ℕ) (own : List ℕ) → ResumesStep (open_end c k o l own)
open_end-breaks c k o l own = let p = open_end-last c k o l own in LastBroken p.0 own p.1 p.2

string_open-resumes : (c : Course) (o l n : ℕ) (bs : List ℕ)
    → ResumesStep (cond (ltb n (length bs)) (broken PerlFound (take n bs) (l + line_ends (take n bs))) (open_end c StringOpen o l (take n bs)))
unfolding broken
string_open-resumes c o l n bs =
    elim (ltb n (length bs)) as (λ t. ResumesStep (cond t (broken PerlFound (take n bs) (l + line_ends (take n bs))) (open_end c StringOpen o l (take n bs)))) [
      | true ↦ LastBroken PerlFound (take n bs) (l + line_ends (take n bs)) refl
      | false ↦ open_end-breaks c StringOpen o l (take n bs)
    ]

string_by_mode : (c : Course) (o l : ℕ) (k : Kind) (n : ℕ) (m : Mode) (bs : List ℕ) → k ≡ Str → ResumesStep (string_step c o l (record { kind = k; len = n; next_mode = m }) bs)
unfolding string_step
string_by_mode c o l k n Plain bs is = NextText k (take n bs) l (inl is) refl
string_by_mode c o l k n _ bs is = string_open-resumes c o l n bs

comment_by_mode : (c : Course) (o l : ℕ) (k : Kind) (n : ℕ) (m : Mode) (bs : List ℕ) → k ≡ BlockComment → ResumesStep (comment_step c o l (record { kind = k; len = n; next_mode = m }) bs)
unfolding comment_step
comment_by_mode c o l k n Plain bs is = NextText k (take n bs) l (inr is) refl
comment_by_mode c o l k n _ bs is = open_end-breaks c CommentOpen o l (take n bs)

-- the tokens after a step
unfoldable pub after_step : (c : Course) (l b : ℕ) (bs : List ℕ) → Step → List SourceToken
after_step c l b bs (Last t) = t ∷ []
after_step c l b bs (Next t) = t ∷ source_tokens c Plain l (line_after b l) (length t.bytes - 1) bs

pub tokens_step : (c : Course) (m : Mode) (o l b : ℕ) (bs : List ℕ) → source_tokens c m o l 0 (b ∷ bs) ≡ after_step c l b bs (source_step c m o l (b ∷ bs))
unfolding source_tokens after_step
tokens_step c m o l b bs = grind (arith, after_step)

step_resumes : (c : Course) (m : Mode) (o l b : ℕ) (bs : List ℕ) → ResumesStep (source_step c m o l (b ∷ bs)) → Resumes (source_tokens c m o l 0 (b ∷ bs))
unfolding after_step
step_resumes c m o l b bs (NextText k bytes line open_ is) = Copies k bytes line _ open_ (tokens_step c m o l b bs ∙ ap (after_step c l b bs) is)
step_resumes c m o l b bs (LastBroken k bytes line is) = Breaks k bytes line (tokens_step c m o l b bs ∙ ap (after_step c l b bs) is)

pub step-end_of : (s : Step) → (elim s as (λ _. List SourceToken) [ Last t ↦ t ∷ [] | Next t ↦ [] ]) ≡ end_of s
unfolding end_of
step-end_of (Last t) = refl
step-end_of (Next t) = refl

string_ends : (c : Course) (o l : ℕ) → source_tokens c InStr o l 0 [] ≡ end_of (open_end c StringOpen o l [])
unfolding source_tokens source_end
string_ends c o l = step-end_of (open_end c StringOpen o l [])

comment_ends : (c : Course) (o l : ℕ) → source_tokens c InBlock o l 0 [] ≡ end_of (open_end c CommentOpen o l [])
unfolding source_tokens source_end
comment_ends c o l = step-end_of (open_end c CommentOpen o l [])

string_tokens-resume : (c : Course) (o l : ℕ) (bs : List ℕ) → Resumes (source_tokens c InStr o l 0 bs)
unfolding end_of
string_tokens-resume c o l [] = let p = open_end-last c StringOpen o l [] in Breaks p.0 [] p.1 (string_ends c o l ∙ ap end_of p.2)
string_tokens-resume c o l (b ∷ bs) =
    let v = string_token 0 (b ∷ bs) in
    step_resumes c InStr o l b bs (subst (λ (s : Step). ResumesStep s) (sym (string_rest c o l (b ∷ bs) (omega arith))) (string_by_mode c o l v.kind v.len v.next_mode (b ∷ bs) (string_token-kind 0 (b ∷ bs))))

comment_tokens-resume : (c : Course) (o l : ℕ) (bs : List ℕ) → Resumes (source_tokens c InBlock o l 0 bs)
unfolding end_of
comment_tokens-resume c o l [] = let p = open_end-last c CommentOpen o l [] in Breaks p.0 [] p.1 (comment_ends c o l ∙ ap end_of p.2)
comment_tokens-resume c o l (b ∷ bs) =
    let v = block_token 0 (b ∷ bs) in
    step_resumes c InBlock o l b bs (subst (λ (s : Step). ResumesStep s) (sym (comment_rest c o l (b ∷ bs))) (comment_by_mode c o l v.kind v.len v.next_mode (b ∷ bs) (block_token-kind 0 (b ∷ bs))))

-- what remains in a string
pub remaining-in_string : (most o l : ℕ) (held : List ℕ) (room : ℕ) (rest : List ℕ) → Resumes (remaining_tokens most InStr o l held room rest)
unfolding remaining_tokens
remaining-in_string most o l held room rest = string_tokens-resume (course most room rest) o l (held ++ (front most room rest).text)

-- what remains in a block comment
pub remaining-in_comment : (most o l : ℕ) (held : List ℕ) (room : ℕ) (rest : List ℕ) → Resumes (remaining_tokens most InBlock o l held room rest)
unfolding remaining_tokens
remaining-in_comment most o l held room rest = comment_tokens-resume (course most room rest) o l (held ++ (front most room rest).text)

-- `<%` is told by two bytes
perl-append : (bs more : List ℕ) → begins_perl bs ≡ true → begins_perl (bs ++ more) ≡ true
unfolding begins_perl
perl-append [] more h = absurd (false≢true h)
perl-append (b ∷ []) more h = absurd (false≢true (sym (and-false (eqb b 60)) ∙ h))
perl-append (b ∷ c ∷ bs) more h = h

string_perl : (c : Course) (o l : ℕ) (bs : List ℕ) → 0 < length bs → begins_perl bs ≡ true → source_tokens c InStr o l 0 bs ≡ record { sort = Broken PerlFound; bytes = []; line = l } ∷ []
unfolding source_step token_of step_by whole broken
string_perl c o l bs some h =
    source_tokens-last c InStr o l bs (record { sort = Broken PerlFound; bytes = []; line = l }) some
    (ap (λ t. step_by c o l (cond t (whole Perl 2) (string_token 0 bs)) bs) h)

-- `<%` in a string ends the list
pub remaining-perl_in_string : (most o l : ℕ) (held : List ℕ) (room : ℕ) (rest : List ℕ) → 0 < length held → begins_perl held ≡ true
    → remaining_tokens most InStr o l held room rest ≡ record { sort = Broken PerlFound; bytes = []; line = l } ∷ []
unfolding remaining_tokens
remaining-perl_in_string most o l held room rest some h = grind (arith, string_perl, length-append, perl-append)

-- a token in a string is `<%` only where its bytes are
pub perl_in_string : (bs : List ℕ) → (token_of InStr bs).kind ≡ Perl → begins_perl bs ≡ true
unfolding token_of
perl_in_string bs is = grind (arith, string_token-kind)

-- What stands first in what remains of a source in plain text, by the token of what is held.

-- blanks and names are runs of their bytes
pub record IsRun (bs : List ℕ) (t : Token) : Type 0 where
  pub blanks : t.kind ≡ Blank → (t.len ≡ prefix_len is_blank bs) × (t.next_mode ≡ Plain)
  pub name : t.kind ≡ Name → (t.len ≡ prefix_len is_word bs) × (t.next_mode ≡ Plain)

other_run : (bs : List ℕ) (t : Token) → (t.kind ≡ Blank → ⊥) → (t.kind ≡ Name → ⊥) → IsRun bs t
other_run bs t a b = record { blanks = λ e. absurd (a e); name = λ e. absurd (b e) }

string_run : (from : ℕ) (bs : List ℕ) → IsRun bs (string_token from bs)
string_run from bs = let k = string_token-kind from bs in other_run bs (string_token from bs) (λ e. let no : Str ≡ Blank = sym k ∙ e in cc) (λ e. let no : Str ≡ Name = sym k ∙ e in cc)

block_run : (from : ℕ) (bs : List ℕ) → IsRun bs (block_token from bs)
block_run from bs = let k = block_token-kind from bs in other_run bs (block_token from bs) (λ e. let no : BlockComment ≡ Blank = sym k ∙ e in cc) (λ e. let no : BlockComment ≡ Name = sym k ∙ e in cc)

-- the first token, where it is blanks or a name
pub plain_token-run : (bs : List ℕ) → IsRun bs (token_of Plain bs)
unfolding token_of plain_token whole
plain_token-run bs =
    let b = get_or bs 0 0 in
    let c = get_or bs 1 0 in
    let P : Token → Type 0 = λ t. IsRun bs t in
    cond_both (begins_perl bs) _ _ P (λ _. other_run bs _ (λ e. cc) (λ e. cc)) (λ _.
    cond_both (is_line_end b) _ _ P (λ _. other_run bs _ (λ e. cc) (λ e. cc)) (λ _.
    cond_both (is_blank b) _ _ P (λ _. record { blanks = λ e. (refl, refl); name = λ e. absurd (cc) }) (λ _.
    cond_both (begins_line_comment bs) _ _ P (λ _. other_run bs _ (λ e. cc) (λ e. cc)) (λ _.
    cond_both (begins_block_comment bs) _ _ P (λ _. block_run 2 bs) (λ _.
    cond_both (eqb b 34) _ _ P (λ _. string_run 1 bs) (λ _.
    cond_both (is_letter b) _ _ P (λ _. record { blanks = λ e. absurd (cc); name = λ e. (refl, refl) }) (λ _.
    cond_both (is_digit b) _ _ P (λ _. other_run bs _ (λ e. cc) (λ e. cc)) (λ _.
    cond_both (takes_word b && is_word c) _ _ P (λ _. other_run bs _ (λ e. cc) (λ e. cc)) (λ _.
    cond_both (eqb b 96 && is_letter c) _ _ P (λ _. other_run bs _ (λ e. cc) (λ e. cc)) (λ _.
    cond_both (eqb b 96) _ _ P (λ _. other_run bs _ (λ e. cc) (λ e. cc)) (λ _.
    cond_both (is_opener b) _ _ P (λ _. other_run bs _ (λ e. cc) (λ e. cc)) (λ _.
    cond_both (is_closer b) _ _ P (λ _. other_run bs _ (λ e. cc) (λ e. cc)) (λ _.
    cond_both (eqb b 44) _ _ P (λ _. other_run bs _ (λ e. cc) (λ e. cc)) (λ _. other_run bs _ (λ e. cc) (λ e. cc)))))))))))))))

abbrev one_if : Bool → ℕ
one_if t = cond t 1 0

-- a run of bytes of which none is an LF has none
run-line_ends : (p : ℕ → Bool) → p 10 ≡ false → (xs : List ℕ) → line_ends (take (prefix_len p xs) xs) ≡ 0
unfolding line_ends
run-line_ends p none [] = refl
run-line_ends p none (x ∷ xs) =
    let n = prefix_len p xs in
    let P : Bool → Type 0 = λ t. p x ≡ t → line_ends (take (cond t (1 + n) 0) (x ∷ xs)) ≡ 0 in
    let at_true : P true = λ h.
    let one : 1 + n ≡ suc n = omega arith in
    let other : is_line_end x ≡ false = false_from_ne_true (is_line_end x) (λ e. false≢true (sym none ∙ ap p (sym (line_end-ten x e)) ∙ h)) in
    let zero_is : one_if (is_line_end x) ≡ 0 = ap one_if other in
    ap (λ i. line_ends (take i (x ∷ xs))) one ∙ line_ends-cons x (take n xs) ∙ omega (arith, zero_is, run-line_ends p none xs) in
    let at_false : P false = λ h. refl in
    elim (p x) as P [ true ↦ at_true | false ↦ at_false ] refl

-- blanks have no LF
pub blanks-line_ends : (bs : List ℕ) → (token_of Plain bs).kind ≡ Blank → line_ends (take (token_of Plain bs).len bs) ≡ 0
blanks-line_ends bs is = ap (λ n. line_ends (take n bs)) ((plain_token-run bs).blanks is).0 ∙ run-line_ends is_blank blank_ten bs

-- nor has a name
pub name-line_ends : (bs : List ℕ) → (token_of Plain bs).kind ≡ Name → line_ends (take (token_of Plain bs).len bs) ≡ 0
name-line_ends bs is = ap (λ n. line_ends (take n bs)) ((plain_token-run bs).name is).0 ∙ run-line_ends is_word word_ten bs

-- whole lines have an LF
pub whole-line_ends : (bs : List ℕ) → 0 < length bs → IsWholeLines bs → 0 < line_ends bs
unfolding line_ends
whole-line_ends [] some whole = absurd (omega arith)
whole-line_ends (b ∷ []) some whole = grind (arith, IsWholeLines-one, line_ends-cons)
whole-line_ends (b ∷ c ∷ cs) some whole =
    omega (arith, line_ends-cons b (c ∷ cs), whole-line_ends (c ∷ cs) (omega arith) (IsWholeLines-rest b (c ∷ cs) whole))

-- what follows a line doesn't change the kind of a token
seam_kind : (xs ys : List ℕ) (t u : Token) → Seam xs ys t u → u.kind ≡ t.kind
seam_kind xs ys t u (Closed e h) = ap (λ (v : Token). v.kind) e
seam_kind xs ys t u (BeforePerl e is lt perl) = ap (λ (v : Token). v.kind) e
seam_kind xs ys t u (OpenString is e) = ap (λ (v : Token). v.kind) e ∙ string_token-kind 0 ys ∙ sym (ap (λ (v : Token). v.kind) is)
seam_kind xs ys t u (OpenComment is e) = ap (λ (v : Token). v.kind) e ∙ block_token-kind 0 ys ∙ sym (ap (λ (v : Token). v.kind) is)

pub kind-append : (xs ys : List ℕ) → 0 < length xs → EndsLine xs ys → (token_of Plain (xs ++ ys)).kind ≡ (token_of Plain xs).kind
kind-append xs ys some ends = seam_kind xs ys (token_of Plain xs) (token_of Plain (xs ++ ys)) (token_of-seam Plain xs ys some (IsCut-from_line xs ys ends))

-- a token of this kind, or one that isn't of the token table
abbrev pub HasKind : Kind → SourceToken → Type 0
HasKind k t = (t.sort ≡ Ordinary k) ⊎ (is_ordinary t ≡ false)

-- the same of a step
StepKind : Kind → Step → Type 0
StepKind k (Last t) = HasKind k t
StepKind k (Next t) = HasKind k t

either_kind : (k : Kind) (t : Bool) (x y : Step) → StepKind k x → StepKind k y → StepKind k (cond t x y)
either_kind k true x y h g = h
either_kind k false x y h g = g

broken-kind : (k : Kind) (b : Breach) (bytes : List ℕ) (l : ℕ) → StepKind k (broken b bytes l)
unfolding broken StepKind is_ordinary
broken-kind k b bytes l = inr refl

open_end-kind : (c : Course) (b : Breach) (k : Kind) (o l : ℕ) (own : List ℕ) → StepKind k (open_end c b o l own)
unfolding open_end
open_end-kind c b k o l own = grind (arith, broken-kind)

string_open-kind : (c : Course) (k : Kind) (o l n : ℕ) (bs : List ℕ)
    → StepKind k (cond (ltb n (length bs)) (broken PerlFound (take n bs) (l + line_ends (take n bs))) (open_end c StringOpen o l (take n bs)))
string_open-kind c k o l n bs =
    either_kind k (ltb n (length bs)) _ _ (broken-kind k PerlFound (take n bs) (l + line_ends (take n bs))) (open_end-kind c StringOpen k o l (take n bs))

string-kind : (c : Course) (o l : ℕ) (k : Kind) (n : ℕ) (m : Mode) (bs : List ℕ) → StepKind k (string_step c o l (record { kind = k; len = n; next_mode = m }) bs)
unfolding string_step StepKind
string-kind c o l k n Plain bs = inl refl
string-kind c o l k n _ bs = string_open-kind c k o l n bs

comment-kind : (c : Course) (o l : ℕ) (k : Kind) (n : ℕ) (m : Mode) (bs : List ℕ) → StepKind k (comment_step c o l (record { kind = k; len = n; next_mode = m }) bs)
unfolding comment_step StepKind
comment-kind c o l k n Plain bs = inl refl
comment-kind c o l k n _ bs = open_end-kind c CommentOpen k o l (take n bs)

definition-kind : (k : Kind) (bytes : List ℕ) (l : ℕ) → StepKind k (Next (record { sort = Definition; bytes = bytes; line = l }))
unfolding StepKind is_ordinary
definition-kind k bytes l = inr refl

define-kind : (c : Course) (k : Kind) (l : ℕ) (bs : List ℕ) → StepKind k (define_step c l bs)
unfolding define_step
define-kind c k l bs = grind (arith, broken-kind, either_kind, definition-kind)

back-kind : (c : Course) (l : ℕ) (k : Kind) (n : ℕ) (m : Mode) (bs : List ℕ) → StepKind k (back_step c l (record { kind = k; len = n; next_mode = m }) bs)
unfolding back_step line_step StepKind is_ordinary
back-kind c l k n m bs =
    either_kind k (bytes_eq (take n bs) (codes "`define")) _ _ (define-kind c k l bs)
    (either_kind k (bytes_eq (take n bs) (codes "`line")) _ _ (inr refl) (inl refl))

step_by-kind_of : (c : Course) (o l : ℕ) (k : Kind) (n : ℕ) (m : Mode) (bs : List ℕ) → StepKind k (step_by c o l (record { kind = k; len = n; next_mode = m }) bs)
unfolding step_by StepKind
step_by-kind_of c o l Perl n m bs = broken-kind Perl PerlFound [] l
step_by-kind_of c o l Str n m bs = string-kind c o l Str n m bs
step_by-kind_of c o l BlockComment n m bs = comment-kind c o l BlockComment n m bs
step_by-kind_of c o l Back n m bs = back-kind c l Back n m bs
step_by-kind_of c o l k n m bs = inl refl

source_step-kind : (c : Course) (o l : ℕ) (bs : List ℕ) → StepKind (token_of Plain bs).kind (source_step c Plain o l bs)
unfolding source_step
source_step-kind c o l bs =
    let t = token_of Plain bs in step_by-kind_of c l l t.kind t.len t.next_mode bs

-- tokens, of which the first has this kind, or isn't one of the token table
pub record FirstToken (k : Kind) (us : List SourceToken) : Type 0 where
  pub first : SourceToken
  pub more : List SourceToken
  pub is : us ≡ first ∷ more
  pub kind : HasKind k first

first_of_step : (k : Kind) (c : Course) (l b : ℕ) (bs : List ℕ) (s : Step) → StepKind k s → FirstToken k (after_step c l b bs s)
unfolding after_step StepKind
first_of_step k c l b bs (Last t) h = record { first = t; more = _; is = refl; kind = h }
first_of_step k c l b bs (Next t) h = record { first = t; more = _; is = refl; kind = h }

-- the first token of what remains, where something is held
pub remaining-first : (most o l : ℕ) (held : List ℕ) (room : ℕ) (rest : List ℕ) → 0 < length held → EndsLine held rest
    → FirstToken (token_of Plain held).kind (remaining_tokens most Plain o l held room rest)
unfolding remaining_tokens
remaining-first most o l [] room rest some ends = absurd (omega arith)
remaining-first most o l (b ∷ w) room rest some ends =
    let c = course most room rest in
    let more = (front most room rest).text in
    let bs = w ++ more in
    let kind : (token_of Plain (b ∷ bs)).kind ≡ (token_of Plain (b ∷ w)).kind = kind-append (b ∷ w) more some (following most room (b ∷ w) rest ends).ends in
    let F = first_of_step (token_of Plain (b ∷ bs)).kind c l b bs (source_step c Plain o l (b ∷ bs)) (source_step-kind c o l (b ∷ bs)) in
    subst (λ (k : Kind). FirstToken k (source_tokens c Plain o l 0 (b ∷ bs))) kind
    (subst (λ (us : List SourceToken). FirstToken (token_of Plain (b ∷ bs)).kind us) (sym (tokens_step c Plain o l b bs)) F)
