-- The first expansion point of a text and of a range of it, and the first expansion points that an entry keeps.
use Rattle.std.proofs.Common.{◌≡◌, ℕ, zero, suc, ◌+◌, ◌-◌, ◌<◌, ◌≤◌, Bool, true, false, cond, List, [], ◌∷◌, ⊎_elim, length, take, drop, Option, Some, None, refl, ap, sym, ◌∙◌, arith, ◌++◌, slice_range, if◌then◌else◌, IfSome, get_or, set, append_assoc, replicate, ◌⊎◌, is_some, eqb, eqb-true, le-ltb, drop-set-lt, length-drop, take_all, drop-drop, length-take, take-append-drop}
use Rattle.std.specs.List.{prefix_len}
use Rattle.std.proofs.lemmas.Bool.{cases_Bool, false≢true, cond-false, cond-true, cond_both}
use Rattle.std.proofs.lemmas.Grind.{common_steps}
use Rattle.std.proofs.lemmas.List.{drop_more, take_more_set, drop-replicate, nil_from_length}
use Rattle.memchr.specs.Find.{IsFirstByte, is_byte}
use Rattle.rdlpp_scan.specs.Bytes.{begins_perl, is_blank, is_letter, is_inert, is_word}
use Rattle.rdlpp_scan.proofs.StopKinds.{AtBack, AtBare, AtBlockComment, AtLineComment, AtPerl, AtPlain, AtString, Row, block_token-kind, letter_token, string_token-kind, token_of-row}
use Rattle.rdlpp_scan.specs.declared.token.Kind.{Kind}
use Rattle.rdlpp_scan.specs.declared.token.Kind.TheVariants.{Name, Back, Str, LineComment, BlockComment, Perl, BareBackquote}
use Rattle.rdlpp_scan.specs.declared.token.Mode.{Mode}
use Rattle.rdlpp_scan.specs.declared.token.Mode.TheVariants.{InBlock, InStr, Plain}
use Rattle.rdlpp_scan.specs.declared.token.Token.{Token}
use Rattle.rdlpp_scan.specs.Tokens.{block_token, string_token, token_of, tokens_from, whole}
use Rattle.rdlpp_scan.proofs.CleanTexts.{blank-step}
use Rattle.rdlpp_scan.proofs.OrdinaryLaws.{is_still, inert_first, IsInertToken}
use Rattle.rdlpp_scan.proofs.TokenLens.{tokens_from-step, token_of-part}
use Rattle.rdlpp_table.specs.declared.point.ExpansionPoint.{ExpansionPoint}
use Rattle.rdlpp_define.specs.Macros.{Formal, Macro, formals_of}
use Rattle.rdlpp_table.specs.ExpansionPoints.{next_expansion_point, is_none, or_point, point_at, point_name, point_of, point_in}
use Rattle.rdlpp_define.specs.Table.{formal_named, TableView, macro_at}
use Rattle.rdlpp_scan.specs.Ordinary.{is_plain_kind}
use Rattle.rdlpp_scan.proofs.RemainingLaws.{plain_token-run, IsRun}
use Rattle.rdlpp_scan.proofs.RangeLaws.{token_of-front}
use Rattle.rdlpp_table.specs.PointCache.{point_end, endless, cached_points, kept_from, point_by, point_kept, points_after}
use Rattle.rdlpp_table.specs.declared.point_cache.PointCache.{PointCache}
use Rattle.rdlpp_table.specs.declared.point_cache.PackedPoint.{PackedPoint}
use Rattle.rdlpp_table.specs.declared.point_cache.PackedKind.{PackedKind}
use Rattle.rdlpp_table.specs.declared.entry.Entry.{Entry}
use Rattle.rdlpp_table.specs.Store.{formals_read, macro_in}
use Rattle.rdlpp_table.specs.Layout.{view_of}
use Rattle.rdlpp_table.proofs.Sizes.{macro_at_entry}
use Rattle.rdlpp_table.specs.declared.point.ExpansionPoint.TheVariants as point
use Rattle.rdlpp_table.specs.declared.point_cache.PackedKind.TheVariants as kept

-- The first expansion point of a text, token by token.

-- the first expansion point of a text is that of what is left of it
pub record IsStopping (formals : List Formal) (from : ℕ) (text : List ℕ) (mode : Mode) (at : ℕ) (rest : List ℕ) : Type 0 where
  pub same : next_expansion_point formals at (tokens_from mode 0 rest) rest ≡ point_of formals from text
  pub place : at + length rest ≡ from + length text

-- after what is no expansion point comes the other one
pub or_none : (s other : ExpansionPoint) → is_none s ≡ true → or_point s other ≡ other
unfolding is_none or_point
or_none point.None other h = refl
or_none s other h = absurd (cc)

-- and an expansion point is itself
pub or_some : (s other : ExpansionPoint) → is_none s ≡ false → or_point s other ≡ s
unfolding is_none or_point
or_some point.None other h = absurd (cc)
or_some s other h = refl

pub one_token : (formals : List Formal) (at : ℕ) (mode : Mode) (rest : List ℕ) → 0 < length rest → 0 < (token_of mode rest).len → next_expansion_point formals at (tokens_from mode 0 rest) rest ≡ or_point (point_at formals at (token_of mode rest) (take (token_of mode rest).len rest)) (next_expansion_point formals (at + (token_of mode rest).len) (tokens_from (token_of mode rest).next_mode 0 (drop (token_of mode rest).len rest)) (drop (token_of mode rest).len rest))
unfolding next_expansion_point
one_token formals at mode rest h l = ap (λ (ts : List Token). next_expansion_point formals at ts rest) (tokens_from-step mode rest h l)

-- the same by a token that was read
token_first : (formals : List Formal) (at : ℕ) (mode : Mode) (rest : List ℕ) (t : Token) → 0 < length rest → t ≡ token_of mode rest → 0 < t.len → next_expansion_point formals at (tokens_from mode 0 rest) rest ≡ or_point (point_at formals at t (take t.len rest)) (next_expansion_point formals (at + t.len) (tokens_from t.next_mode 0 (drop t.len rest)) (drop t.len rest))
token_first formals at mode rest t h e l = grind (arith, one_token)

pub stopping_start : (formals : List Formal) (from : ℕ) (text : List ℕ) → IsStopping formals from text Plain from text
unfolding point_of
stopping_start formals from text = record { same = refl; place = refl }

pub stopping_more : (formals : List Formal) (from : ℕ) (text : List ℕ) (mode : Mode) (at : ℕ) (rest : List ℕ) (t : Token) (here after : List ℕ) (s : ExpansionPoint) → IsStopping formals from text mode at rest → 0 < length rest → t ≡ token_of mode rest → 0 < t.len → t.len ≤ length rest → here ≡ take t.len rest → after ≡ drop t.len rest → s ≡ point_at formals at t here → is_none s ≡ true → IsStopping formals from text t.next_mode (at + t.len) after
stopping_more formals from text mode at rest t here after s i h e l le p q f n = grind (arith, token_first, or_none, length-drop)

pub stopping_found : (formals : List Formal) (from : ℕ) (text : List ℕ) (mode : Mode) (at : ℕ) (rest : List ℕ) (t : Token) (here : List ℕ) (s : ExpansionPoint) → IsStopping formals from text mode at rest → 0 < length rest → t ≡ token_of mode rest → 0 < t.len → here ≡ take t.len rest → s ≡ point_at formals at t here → is_none s ≡ false → s ≡ point_of formals from text
stopping_found formals from text mode at rest t here s i h e l p f n = grind (arith, token_first, or_some)

pub stopping_ended : (formals : List Formal) (from : ℕ) (text : List ℕ) (mode : Mode) (at : ℕ) (rest : List ℕ) → IsStopping formals from text mode at rest → length rest ≡ 0 → point.None ≡ point_of formals from text
unfolding next_expansion_point tokens_from
stopping_ended formals from text mode at rest i h =
    sym (ap (λ (r : List ℕ). next_expansion_point formals at (tokens_from mode 0 r) r) (nil_from_length rest h)) ∙ i.same

pub name_point : (formals : List Formal) (at : ℕ) (t : Token) (bytes : List ℕ) (o : Option ℕ) → t.kind ≡ Name → o ≡ formal_named formals bytes → point_name at t.len o ≡ point_at formals at t bytes
unfolding point_at
name_point formals at t bytes o e f = grind arith

pub some_point : (at len place : ℕ) → point_name at len (Some place) ≡ point.Formal at len place
unfolding point_name
some_point at len place = refl

pub none_point : (at len : ℕ) → point_name at len None ≡ point.None
unfolding point_name
none_point at len = refl

-- a kind that isn't an expansion point, whatever its bytes
still_passed : (formals : List Formal) (at len : ℕ) (k : Kind) (mode : Mode) (bytes : List ℕ) → is_still k ≡ true → is_none (point_at formals at (record { kind = k; next_mode = mode; len = len }) bytes) ≡ true
unfolding is_still point_at is_none
still_passed formals at len Name mode bytes h = absurd (false≢true h)
still_passed formals at len Back mode bytes h = absurd (false≢true h)
still_passed formals at len BareBackquote mode bytes h = absurd (false≢true h)
still_passed formals at len k mode bytes h = refl

-- without formals a token is an expansion point only where a backquote is its first byte, and so a text without one has none

plain_passed : (kind : Kind) (at len : ℕ) (mode : Mode) (bytes : List ℕ) → is_plain_kind kind ≡ true → is_none (point_at [] at (record { kind = kind; next_mode = mode; len = len }) bytes) ≡ true
unfolding is_plain_kind point_at point_name is_none
plain_passed Back at len mode bytes h = absurd (cc)
plain_passed BareBackquote at len mode bytes h = absurd (cc)
plain_passed kind at len mode bytes h = refl

kind_passed : (t : Token) (k : Kind) (at : ℕ) (bytes : List ℕ) → t.kind ≡ k → is_still k ≡ true → is_none (point_at [] at t bytes) ≡ true
kind_passed t k at bytes e h = still_passed [] at t.len t.kind t.next_mode bytes (ap is_still e ∙ h)

row_passed : (bs : List ℕ) (t : Token) (at : ℕ) (bytes : List ℕ) → Row bs t → (get_or bs 0 0 ≡ 96 → ⊥) → is_none (point_at [] at t bytes) ≡ true
unfolding is_still whole
row_passed bs t at bytes (AtPerl h e) none = kind_passed t Perl at bytes (ap (λ (u : Token). u.kind) e) refl
row_passed bs t at bytes (AtLineComment h e) none = kind_passed t LineComment at bytes e refl
row_passed bs t at bytes (AtBlockComment h e) none = kind_passed t BlockComment at bytes e refl
row_passed bs t at bytes (AtString h e) none = kind_passed t Str at bytes e refl
row_passed bs t at bytes (AtBack h e) none = absurd (none (eqb-true (get_or bs 0 0) 96 h))
row_passed bs t at bytes (AtBare h g e) none = absurd (none (eqb-true (get_or bs 0 0) 96 h))
row_passed bs t at bytes (AtPlain h q) none = plain_passed t.kind at t.len t.next_mode bytes h

pub token_passed : (mode : Mode) (bs : List ℕ) (at : ℕ) (bytes : List ℕ) → (get_or bs 0 0 ≡ 96 → ⊥) → is_none (point_at [] at (token_of mode bs) bytes) ≡ true
unfolding token_of is_still whole
token_passed Plain bs at bytes none = row_passed bs (token_of Plain bs) at bytes (token_of-row bs) none
token_passed InStr bs at bytes none =
    cond_both (begins_perl bs) (whole Perl 2) (string_token 0 bs) (λ (t : Token). is_none (point_at [] at t bytes) ≡ true) (λ _. kind_passed (whole Perl 2) Perl at bytes refl refl) (λ _. kind_passed (string_token 0 bs) Str at bytes (string_token-kind 0 bs) refl)
token_passed InBlock bs at bytes none = kind_passed (block_token 0 bs) BlockComment at bytes (block_token-kind 0 bs) refl

all_passed : (mode : Mode) (skip : ℕ) (text : List ℕ) (at : ℕ) (bytes : List ℕ) → ((i : ℕ) → i < length text → get_or text i 0 ≡ 96 → ⊥) → next_expansion_point [] at (tokens_from mode skip text) bytes ≡ point.None
unfolding next_expansion_point tokens_from
all_passed mode skip [] at bytes none = refl
all_passed mode zero (b ∷ bs) at bytes none =
    let t = token_of mode (b ∷ bs) in
    or_none (point_at [] at t (take t.len bytes)) _ (token_passed mode (b ∷ bs) at (take t.len bytes) (none 0 (omega arith)))
    ∙ all_passed t.next_mode (t.len - 1) bs (at + t.len) (drop t.len bytes) (λ i h. none (suc i) (omega (arith, h)))
all_passed mode (suc skip) (b ∷ bs) at bytes none = all_passed mode skip bs at bytes (λ i h. none (suc i) (omega (arith, h)))

pub none_searched : (count : ℕ) (list text : List ℕ) (from : ℕ) (found : Option ℕ) → count ≡ 0 → is_some found ≡ false → IsFirstByte (is_byte 96) text found → point.None ≡ point_of (formals_read count list) from text
unfolding point_of formals_read
none_searched count list text from (Some k) is e h = absurd (cc)
none_searched (suc n) list text from None is e h = absurd (omega (arith, is))
none_searched zero list text from None is e h =
    sym (all_passed Plain 0 text from text (λ i l b. h i (omega arith) l (ap (λ (n : ℕ). eqb n 96) b)))

prefix_more : (p : ℕ → Bool) (b : ℕ) (bs : List ℕ) → p b ≡ true → prefix_len p (b ∷ bs) ≡ suc (prefix_len p bs)
prefix_more p b bs h = ap (λ (t : Bool). cond t (1 + prefix_len p bs) 0) h ∙ omega arith

prefix_none : (p : ℕ → Bool) (b : ℕ) (bs : List ℕ) → p b ≡ false → prefix_len p (b ∷ bs) ≡ 0
prefix_none p b bs h = ap (λ (t : Bool). cond t (1 + prefix_len p bs) 0) h

-- a token of blanks is passed
blank_token : (formals : List Formal) (at b : ℕ) (bs : List ℕ) → is_blank b ≡ true
    → next_expansion_point formals at (tokens_from Plain 0 (b ∷ bs)) (b ∷ bs) ≡ next_expansion_point formals (at + prefix_len is_blank (b ∷ bs)) (tokens_from Plain 0 (drop (prefix_len is_blank (b ∷ bs)) (b ∷ bs))) (drop (prefix_len is_blank (b ∷ bs)) (b ∷ bs))
unfolding next_expansion_point point_at or_point whole
blank_token formals at b bs h = ap (λ (ts : List Token). next_expansion_point formals at ts (b ∷ bs)) (blank-step b bs h)

-- an inert byte that isn't a blank is passed
inert_mark : (formals : List Formal) (at b : ℕ) (bs : List ℕ) → IsInertToken (token_of Plain (b ∷ bs))
    → next_expansion_point formals at (tokens_from Plain 0 (b ∷ bs)) (b ∷ bs) ≡ next_expansion_point formals (at + 1) (tokens_from Plain 0 bs) bs
unfolding is_still
inert_mark formals at b bs q = grind (arith, still_passed, one_token, or_none)

-- a run of blanks is passed
blank_run : (formals : List Formal) (at : ℕ) (bs : List ℕ)
    → next_expansion_point formals at (tokens_from Plain 0 bs) bs ≡ next_expansion_point formals (at + prefix_len is_blank bs) (tokens_from Plain 0 (drop (prefix_len is_blank bs) bs)) (drop (prefix_len is_blank bs) bs)
blank_run formals at [] = ap (λ (n : ℕ). next_expansion_point formals n (tokens_from Plain 0 []) []) (omega arith)
blank_run formals at (b ∷ bs) = grind (arith, blank_token, prefix_none, cases_Bool)

-- an inert byte is passed
pub inert_one : (formals : List Formal) (at b : ℕ) (bs : List ℕ) → is_inert b ≡ true
    → next_expansion_point formals at (tokens_from Plain 0 (b ∷ bs)) (b ∷ bs) ≡ next_expansion_point formals (at + 1) (tokens_from Plain 0 bs) bs
inert_one formals at b bs q = grind (arith, blank_token, prefix_more, blank_run, inert_mark, inert_first, cases_Bool)

-- inert bytes are passed
inert_some : (formals : List Formal) (at n : ℕ) (bs : List ℕ) → n ≤ prefix_len is_inert bs
    → next_expansion_point formals (at + n) (tokens_from Plain 0 (drop n bs)) (drop n bs) ≡ next_expansion_point formals at (tokens_from Plain 0 bs) bs
inert_some formals at zero bs h = ap (λ (m : ℕ). next_expansion_point formals m (tokens_from Plain 0 bs) bs) (omega arith)
inert_some formals at (suc n) [] h = absurd (omega arith)
inert_some formals at (suc n) (b ∷ bs) h =
    ⊎_elim
    (λ q. ap (λ (m : ℕ). next_expansion_point formals m (tokens_from Plain 0 (drop n bs)) (drop n bs)) (omega arith)
    ∙ (inert_some formals (at + 1) n bs (omega (arith, prefix_more is_inert b bs q)) ∙ sym (inert_one formals at b bs q)))
    (λ q. absurd (omega (arith, prefix_none is_inert b bs q)))
    (cases_Bool (is_inert b))

pub stopping_inert : (formals : List Formal) (from : ℕ) (text : List ℕ) (mode : Mode) (at n : ℕ) (rest : List ℕ) → IsStopping formals from text mode at rest → mode ≡ Plain → n ≤ prefix_len is_inert rest → n ≤ length rest
    → IsStopping formals from text mode (at + n) (take (length rest - n) (drop n rest))
stopping_inert formals from text mode at n rest i plain h le = grind (arith, common_steps, length-drop, inert_some)

-- a name is told by its first byte
pub letter_first : (text : List ℕ) (n : ℕ) → 0 < length text → is_letter (get_or text 0 0) ≡ true → n ≡ prefix_len is_word text
    → (let t : Token = record { kind = Name; next_mode = Plain; len = n } in t) ≡ token_of Plain text
unfolding whole
letter_first [] n some h e = absurd (omega (arith, some))
letter_first (b ∷ bs) n some h e = ap (λ (k : ℕ). let t : Token = record { kind = Name; next_mode = Plain; len = k } in t) e ∙ sym (letter_token b bs h)

pub letter_some : (text : List ℕ) → 0 < length text → is_letter (get_or text 0 0) ≡ true → 0 < prefix_len is_word text
unfolding is_word
letter_some [] some h = absurd (omega (arith, some))
letter_some (b ∷ bs) some h = grind (arith, prefix_more)

-- what stands after a place, as a range up to the end
pub after_place : (n : ℕ) (xs : List ℕ) → take (length xs - n) (drop n xs) ≡ drop n xs
after_place n xs = take_all (length xs - n) (drop n xs) (omega (arith, length-drop n xs))

-- The first expansion point of a range of a text, beside that of the text from a place on.

-- where an expansion point begins, and 0 where there is none
unfoldable pub begins : ExpansionPoint → ℕ
begins point.None = 0
begins (point.Formal at len place) = at
begins (point.Usage at len) = at
begins (point.Bare at) = at

-- an expansion point ends no nearer than it begins
pub begins_end : (s : ExpansionPoint) → is_none s ≡ false → begins s ≤ point_end s
unfolding begins point_end
begins_end point.None h = omega arith
begins_end s h = omega arith

-- an expansion point that is none, or begins no nearer than at a place
unfoldable pub IsFrom : ℕ → ExpansionPoint → Type 0
IsFrom at s = is_none s ≡ false → at ≤ begins s

name_from : (at len : ℕ) (o : Option ℕ) → IsFrom at (point_name at len o)
unfolding point_name begins is_none IsFrom
name_from at len (Some place) h = omega arith
name_from at len None h = absurd (cc)

kind_from : (formals : List Formal) (at len : ℕ) (k : Kind) (mode : Mode) (bytes : List ℕ) → IsFrom at (point_at formals at (record { kind = k; next_mode = mode; len = len }) bytes)
unfolding point_at begins is_none IsFrom
kind_from formals at len Name mode bytes h = name_from at len (formal_named formals bytes) h
kind_from formals at len Back mode bytes h = omega arith
kind_from formals at len BareBackquote mode bytes h = omega arith
kind_from formals at len k mode bytes h = absurd (cc)

or_from : (at : ℕ) (s other : ExpansionPoint) → IsFrom at s → IsFrom at other → IsFrom at (or_point s other)
unfolding or_point
or_from at point.None other a b = b
or_from at (point.Formal x len place) other a b = a
or_from at (point.Usage x len) other a b = a
or_from at (point.Bare x) other a b = a

-- the first expansion point of a text stands in it
pub tokens_within : (formals : List Formal) (at : ℕ) (ts : List Token) (text : List ℕ) → IsFrom at (next_expansion_point formals at ts text)
unfolding next_expansion_point is_none IsFrom
tokens_within formals at [] text h = absurd (cc)
tokens_within formals at (t ∷ ts) text h =
    or_from at (point_at formals at t (take t.len text)) _ (kind_from formals at t.len t.kind t.next_mode (take t.len text)) (λ g. omega (arith, tokens_within formals (at + t.len) ts (drop t.len text) g)) h

-- a token that is an expansion point is closed, and ends where the expansion point does
record IsPointToken (t : Token) (at : ℕ) (s : ExpansionPoint) : Type 0 where
  closed : t.next_mode ≡ Plain
  end : point_end s ≡ at + t.len

name_token : (at len : ℕ) (o : Option ℕ) → is_none (point_name at len o) ≡ false → point_end (point_name at len o) ≡ at + len
unfolding point_name is_none point_end
name_token at len (Some place) h = refl
name_token at len None h = absurd (cc)

-- how long a lone backquote is, by the row of the token table
bare_row : (bs : List ℕ) (t : Token) → Row bs t → t.kind ≡ BareBackquote → (t.len ≡ 1) × (t.next_mode ≡ Plain)
unfolding whole is_plain_kind
bare_row bs t (AtPerl h e) is = absurd (let k : Perl ≡ BareBackquote = sym (ap (λ (u : Token). u.kind) e) ∙ is in cc)
bare_row bs t (AtLineComment h e) is = absurd (let k : LineComment ≡ BareBackquote = sym e ∙ is in cc)
bare_row bs t (AtBlockComment h e) is = absurd (let k : BlockComment ≡ BareBackquote = sym e ∙ is in cc)
bare_row bs t (AtString h e) is = absurd (let k : Str ≡ BareBackquote = sym e ∙ is in cc)
bare_row bs t (AtBack h e) is = absurd (let k : Back ≡ BareBackquote = sym (ap (λ (u : Token). u.kind) e) ∙ is in cc)
bare_row bs t (AtBare h g e) is = (ap (λ (u : Token). u.len) e, ap (λ (u : Token). u.next_mode) e)
bare_row bs t (AtPlain h q) is = absurd (false≢true (sym (ap is_plain_kind is) ∙ h))

-- after a usage stands plain text
back_row : (bs : List ℕ) (t : Token) → Row bs t → t.kind ≡ Back → t.next_mode ≡ Plain
unfolding whole is_plain_kind
back_row bs t (AtPerl h e) is = absurd (let k : Perl ≡ Back = sym (ap (λ (u : Token). u.kind) e) ∙ is in cc)
back_row bs t (AtLineComment h e) is = absurd (let k : LineComment ≡ Back = sym e ∙ is in cc)
back_row bs t (AtBlockComment h e) is = absurd (let k : BlockComment ≡ Back = sym e ∙ is in cc)
back_row bs t (AtString h e) is = absurd (let k : Str ≡ Back = sym e ∙ is in cc)
back_row bs t (AtBack h e) is = ap (λ (u : Token). u.next_mode) e
back_row bs t (AtBare h g e) is = absurd (let k : BareBackquote ≡ Back = sym (ap (λ (u : Token). u.kind) e) ∙ is in cc)
back_row bs t (AtPlain h q) is = absurd (false≢true (sym (ap is_plain_kind is) ∙ h))

point_kind : (formals : List Formal) (at len : ℕ) (k : Kind) (mode : Mode) (bs bytes : List ℕ) → (let t : Token = record { kind = k; next_mode = mode; len = len } in Row bs t × IsRun bs t → is_none (point_at formals at t bytes) ≡ false → IsPointToken t at (point_at formals at t bytes))
unfolding point_at is_none point_end
point_kind formals at len Name mode bs bytes r h = record { closed = (r.1.name refl).1; end = name_token at len (formal_named formals bytes) h }
point_kind formals at len Back mode bs bytes r h = record { closed = back_row bs _ r.0 refl; end = refl }
point_kind formals at len BareBackquote mode bs bytes r h = let b = bare_row bs _ r.0 refl in record { closed = b.1; end = omega (arith, b.0) }
point_kind formals at len k mode bs bytes r h = absurd (cc)

-- the first token of a text, where it is an expansion point
point_token : (formals : List Formal) (at : ℕ) (bs bytes : List ℕ) → (let t = token_of Plain bs in is_none (point_at formals at t bytes) ≡ false → IsPointToken t at (point_at formals at t bytes))
point_token formals at bs bytes h =
    let t = token_of Plain bs in
    point_kind formals at t.len t.kind t.next_mode bs bytes (token_of-row bs, plain_token-run bs) h

-- the first token of a text stays so where the text is cut after it
pub cut_token : (k : ℕ) (bs : List ℕ) → (let t = token_of Plain bs in 0 < t.len → t.len ≤ k → t.len ≤ length bs → t.next_mode ≡ Plain → token_of Plain (take k bs) ≡ t)
cut_token k bs some le inside closed =
    let xs = take k bs in
    let e : xs ++ drop k bs ≡ bs = take-append-drop k bs in
    grind (arith, take-append-drop, length-take, token_of-front)

pub cut_more : (n k : ℕ) (bs : List ℕ) → n ≤ k → take n (take k bs) ≡ take n bs
cut_more zero k bs h = refl
cut_more (suc n) zero bs h = absurd (omega arith)
cut_more (suc n) (suc k) [] h = refl
cut_more (suc n) (suc k) (b ∷ bs) h = ap (λ (l : List ℕ). b ∷ l) (cut_more n k bs (omega arith))

-- the expansion point at the front of a text is that of the text which is cut after it
pub front_first : (formals : List Formal) (at k : ℕ) (bs : List ℕ) → (let t = token_of Plain bs in 0 < length bs → is_none (point_at formals at t (take t.len bs)) ≡ false → point_end (point_at formals at t (take t.len bs)) ≤ at + k → point_of formals at (take k bs) ≡ point_at formals at t (take t.len bs))
unfolding point_of
front_first formals at k bs some h inside = grind (arith, token_of-part, point_token, cut_token, length-take, cut_more, one_token, or_some)

pub run_drop : (p : ℕ → Bool) (n m : ℕ) (xs : List ℕ) → n + m ≤ prefix_len p xs → m ≤ prefix_len p (drop n xs)
run_drop p zero m xs h = omega arith
run_drop p (suc n) m [] h = absurd (omega arith)
run_drop p (suc n) m (x ∷ xs) h =
    ⊎_elim
    (λ q. run_drop p n m xs (omega (arith, cond-true (p x) (1 + prefix_len p xs) 0 q)))
    (λ q. absurd (omega (arith, cond-false (p x) (1 + prefix_len p xs) 0 q)))
    (cases_Bool (p x))

-- The first expansion points of a text, as they are kept.

-- an expansion point as it is kept by its numbers, where these are small enough
abbrev pub when : Bool → PackedKind → ℕ → ℕ → ℕ → ℕ → PackedPoint
when b kind at len place plain_argument = if b then record { end = at + len; len = len; place = place; plain_argument = plain_argument; kind = kind } else endless 1 0

pub back_when : (b : Bool) (kind : PackedKind) (at len place plain_argument : ℕ) (s : ExpansionPoint) → point_by kind at len place ≡ Some s → IfSome (point_kept (when b kind at len place plain_argument)) (λ x. x ≡ s)
unfolding point_kept point_by endless
back_when true kind at len place plain_argument s e = grind arith
back_when false kind at len place plain_argument s e = tt

pub none_end : point_end point.None ≡ 0
unfolding point_end
none_end = refl

name_end : (at len : ℕ) (o : Option ℕ) → point_end (point_name at len o) ≤ at + len
unfolding point_name point_end
name_end at len (Some place) = omega arith
name_end at len None = omega arith

-- a token that is an expansion point ends as one
kind_end : (formals : List Formal) (at len : ℕ) (k : Kind) (mode : Mode) (bytes : List ℕ) → 0 < len → point_end (point_at formals at (record { kind = k; next_mode = mode; len = len }) bytes) ≤ at + len
unfolding point_at point_end
kind_end formals at len Name mode bytes h = name_end at len (formal_named formals bytes)
kind_end formals at len k mode bytes h = omega arith

pub token_end : (formals : List Formal) (at : ℕ) (t : Token) (bytes : List ℕ) → 0 < t.len → point_end (point_at formals at t bytes) ≤ at + t.len
token_end formals at t bytes h = kind_end formals at t.len t.kind t.next_mode bytes h

-- The first expansion points of a text, one after another.

-- an expansion point that is found after others is one more of them
pub points_more : (formals : List Formal) (text : List ℕ) (all : List PackedPoint) (i from : ℕ) (k : PackedPoint) → i < length all → k ≡ kept_from formals text from → ((n : ℕ) → points_after (i + n) formals text 0 ≡ take i all ++ points_after n formals text from) → (n : ℕ) → points_after (i + 1 + n) formals text 0 ≡ take (i + 1) (set all i k) ++ points_after n formals text k.end
unfolding points_after
points_more formals text all i from k h e f n =
    let there : i + 1 + n ≡ i + suc n = omega arith in
    grind (arith, append_assoc, take_more_set)

-- what is kept where nothing is known
abbrev unknown : PackedPoint
unknown = endless 1 0

-- from a place that is too far on nothing is known
points_beyond : (formals : List Formal) (text : List ℕ) (n from : ℕ) → 65535 ≤ from → points_after n formals text from ≡ replicate n unknown
unfolding points_after kept_from endless
points_beyond formals text zero from h = refl
points_beyond formals text (suc n) from h = grind (arith, le-ltb, (points_beyond formals text n 65535 (omega arith)))

-- what is not written yet is unknown
pub rest_unknown : (all : List PackedPoint) (i : ℕ) (k : PackedPoint) → drop i all ≡ replicate (10 - i) unknown → drop (i + 1) (set all i k) ≡ replicate (10 - (i + 1)) unknown
rest_unknown all i k e =
    let less : 10 - i - 1 ≡ 10 - (i + 1) = omega arith in
    drop-set-lt (i + 1) all i k (omega arith)
    ∙ (sym (drop-drop 1 i all)
    ∙ (ap (λ (l : List PackedPoint). drop 1 l) e
    ∙ (drop-replicate 1 (10 - i) unknown ∙ ap (λ (m : ℕ). replicate m unknown) less)))

-- ten of them are the first expansion points, and fewer are where after them nothing is known
pub points_whole : (formals : List Formal) (text : List ℕ) (all : List PackedPoint) (i from : ℕ) → i ≤ 10 → (10 ≤ i) ⊎ (65535 ≤ from) → drop i all ≡ replicate (10 - i) unknown → ((n : ℕ) → points_after (i + n) formals text 0 ≡ take i all ++ points_after n formals text from) → (let s : PointCache = record { all = all } in s) ≡ cached_points formals text
unfolding cached_points points_after
points_whole formals text all i from l o e f =
    let none : 10 ≤ i → points_after (10 - i) formals text from ≡ replicate (10 - i) unknown =
    λ h. let z : 10 - i ≡ 0 = omega arith in ap (λ (m : ℕ). points_after m formals text from) z ∙ ap (λ (m : ℕ). replicate m unknown) (sym z) in
    grind (arith, points_beyond, take-append-drop)

pub all_points : (formals : List Formal) (text : List ℕ) (points : PointCache) → points ≡ cached_points formals text → points.all ≡ points_after 10 formals text 0
unfolding cached_points
all_points formals text points e = ap (λ (x : PointCache). x.all) e

-- an expansion point without anything
abbrev pub no_point : PackedPoint
no_point = record { end = 0; len = 0; place = 0; plain_argument = 0; kind = kept.None }

-- the expansion point at a place among them is the first one from the end of the one before, and those after it come from its own end on
pub point_next : (formals : List Formal) (text : List ℕ) (all : List PackedPoint) (d k : PackedPoint) (i start : ℕ) → length all ≡ 10 → i < 10 → drop i all ≡ points_after (10 - i) formals text start → k ≡ get_or all i d → (k ≡ kept_from formals text start) × (drop (i + 1) all ≡ points_after (10 - (i + 1)) formals text k.end)
unfolding points_after
point_next formals text all d k i start l h e q = grind (arith, drop_more)

-- The expansion points of the body of a macro in a table.

-- the macro of an entry that was read
pub macro_here : (bs bytes : List ℕ) (entries : List Entry) (a b : ℕ) (view : TableView) (i j : ℕ) (entry : Entry) → bs ≡ bytes → view_of bytes entries a b ≡ view → i ≡ j → i < length entries → entry ≡ get_or entries i entry → macro_in bs entry ≡ macro_at view.macros j
macro_here bs bytes entries a b view i j entry p e s h q =
    ap (λ (x : List ℕ). macro_in x entry) p ∙ (ap (macro_in bytes) q ∙ (sym (macro_at_entry bytes entries a b view i entry e h) ∙ ap (macro_at view.macros) s))

pub formals_here : (bs bytes : List ℕ) (entries : List Entry) (a b : ℕ) (view : TableView) (i j : ℕ) (entry : Entry) (formals : List Formal) → bs ≡ bytes → view_of bytes entries a b ≡ view → i ≡ j → i < length entries → entry ≡ get_or entries i entry → formals ≡ formals_of (macro_in bs entry) → formals ≡ formals_of (macro_at view.macros j)
formals_here bs bytes entries a b view i j entry formals p e s h q f =
    f ∙ ap (λ (m : Macro). formals_of m) (macro_here bs bytes entries a b view i j entry p e s h q)

-- an expansion point that was read of a body
pub some_kept : (m : Macro) (formals : List Formal) (body : List ℕ) (from to : ℕ) (s : ExpansionPoint) → formals ≡ formals_of m → body ≡ m.body → s ≡ point_of formals from (slice_range body from to) → s ≡ point_in m from to
unfolding point_in
some_kept m formals body from to s f b e =
    e ∙ (ap (λ (fs : List Formal). point_of fs from (slice_range body from to)) f ∙ ap (λ (l : List ℕ). point_of (formals_of m) from (slice_range l from to)) b)
