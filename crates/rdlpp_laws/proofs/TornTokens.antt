-- The steps of a source's text, and strings and block comments that are open at its end, with smaller and with larger limits: the
-- same, or torn by the smaller ones.
use Rattle.std.proofs.Common.{◌≡◌, ℕ, ◌+◌, ◌<◌, ◌≤◌, ◌⊎◌, inl, inr, Bool, true, false, List, [], ◌∷◌, ◌++◌, length, take, refl, sym, ap, subst, ◌∙◌, arith, le_trans, append-nil, Option, None, Some, suc, cond, true≢false, ◌&&◌, ◌||◌, if◌then◌else◌, nat_lt, ◌==◌, bytes_eq, codes, slice_index, ltb-false, le-ltb, eqb-true}
use Rattle.std.proofs.lemmas.Bool.{and_parts, or_right}
use Rattle.std.proofs.Math.Seq.{take-length}
use Rattle.std.proofs.lemmas.List.{take-append-le}
use Rattle.rdlpp_scan.specs.Front.{Breach, LineLong, SourceLong, DefineLong, DefineCut, Break, PerlFound, StringOpen, CommentOpen}
use Rattle.rdlpp_scan.specs.Lines.{IsWholeLines, EndsLine}
use Rattle.rdlpp_scan.specs.SourceTokens.{Sort, Definition, Broken, SourceToken, Course, Step, Last, Next, logical_len, broken, define_step, Ordinary, Renumbering, line_len, string_step, comment_step, line_step, back_step, step_by, line_ends, open_end}
use Rattle.rdlpp_scan.proofs.TokenSteps.{logical_len-within}
use Rattle.rdlpp_scan.proofs.SourceLaws.{logical_len-append, IsWholeLines-rest, IsWholeLines-one, line_len-append, line_len-some, line_len-le}
use Rattle.rdlpp_meaning.specs.State.{breach_kind}
use Rattle.rdlpp_meaning.specs.Actuals.{Role, Halt, broken_role, token_role, Ends as EndsString, Stops, kind_role}
use Rattle.rdlpp_meaning.specs.Parts.{directive_of, no_argument, name_in_front, string_in_front, past_blanks}
use Rattle.rdlpp_meaning.specs.Resumed.{leading}
use Rattle.rdlpp_laws.specs.LimitLaws.{is_limit}
use Rattle.rdlpp_laws.proofs.TornCalls.{FollowsHalt, FollowsString, GivesNothing, IsStringRole, TornBy, ends_line}
use Rattle.std.specs.List.{prefix_len, list_any}
use Rattle.rdlpp_scan.specs.declared.token.Kind.{Kind}
use Rattle.rdlpp_scan.specs.declared.token.Kind.TheVariants.{Name, Word, Back, LineEnd, Str, LineComment, BlockComment, Opener, Closer, Comma, Other, Perl, BareBackquote}
use Rattle.rdlpp_scan.specs.declared.token.Mode.TheVariants.{Plain}
use Rattle.rdlpp_scan.specs.declared.token.Token.{Token}
use Rattle.rdlpp_scan.specs.Bytes.{is_blank, is_line_end, is_letter, is_digit, is_word, is_opener, is_closer, takes_word, begins_perl, begins_line_comment, begins_block_comment}
use Rattle.rdlpp_scan.specs.Tokens.{whole, string_token, block_token, plain_token}
use Rattle.rdlpp_scan.proofs.Seams.{line_end-ten}
use Rattle.rdlpp_scan.specs.declared.token.Mode.{Mode}

-- the token of a step
unfoldable pub step_head : Step → SourceToken
step_head (Last t) = t
step_head (Next t) = t

-- a token that larger limits may have in the place of one of a role
pub record Suits (r : Role) (u : SourceToken) : Type 0 where
  pub torn : (rest : List SourceToken) → TornBy token_role r (leading (u ∷ rest))
  pub nothing : (rest : List SourceToken) → GivesNothing (u ∷ rest)

-- a step of a text and that of the text with more after it: the same token within the text, the same last token, or one that
-- a limit tears
pub data StepTorn (held : List ℕ) (s s' : Step) : Type 0 where
  Goes : (t : SourceToken) (n : ℕ) → s ≡ Next t → s' ≡ Next t → 0 < n → n ≤ length held → t.bytes ≡ take n held
      → (ends_line t.sort ≡ false → IsWholeLines held → n < length held) → StepTorn held s s'
  Stays : (t : SourceToken) → s ≡ Last t → s' ≡ Last t → StepTorn held s s'
  Tears : (t : SourceToken) (b : Breach) → s ≡ Last t → t.sort ≡ Broken b → is_limit (breach_kind b) ≡ true
      → Suits (token_role t) (step_head s') → StepTorn held s s'

-- a text and its break, and the text with more after it and its break: nothing more, or whole lines that a limit ends
unfoldable pub IsBreakOfLimit : Option Break → Type 0
IsBreakOfLimit None = ⊥
IsBreakOfLimit (Some k) = (k.breach ≡ LineLong) ⊎ (k.breach ≡ SourceLong)

abbrev pub Ends : List ℕ → List ℕ → Option Break → Option Break → Type 0
Ends held more k k' = ((more ≡ []) × (k ≡ None) × (k' ≡ None)) ⊎ (IsWholeLines held × IsBreakOfLimit k)

-- what holds where both texts end alike, and where a limit ends the first, holds where they end so
pub ends-by : (P : List ℕ → Option Break → Option Break → Type 0) (held more : List ℕ) (k k' : Option Break) → Ends held more k k' → P held None None
    → ((j : Break) → IsWholeLines held → (j.breach ≡ LineLong) ⊎ (j.breach ≡ SourceLong) → P (held ++ more) (Some j) k') → P (held ++ more) k k'
unfolding IsBreakOfLimit
ends-by P held more k k' (inl h) alike limit = grind (arith, append-nil)
ends-by P held more None k' (inr h) alike limit = absurd h.1
ends-by P held more (Some j) k' (inr h) alike limit = limit j h.0 h.1

-- the token of a `define`, whole or broken
IsDefineHead : SourceToken → Type 0
IsDefineHead t = (t.sort ≡ Definition) ⊎ ((t.sort ≡ Broken DefineLong) ⊎ (t.sort ≡ Broken DefineCut))

-- it may stand in the place of a broken `define`, by what it is
define-suits-by : (sort : Sort) (bytes : List ℕ) (line : ℕ) → (sort ≡ Definition) ⊎ ((sort ≡ Broken DefineLong) ⊎ (sort ≡ Broken DefineCut))
    → Suits Halt (record { sort = sort; bytes = bytes; line = line })
unfolding TornBy FollowsHalt leading directive_of token_role broken_role name_in_front string_in_front past_blanks no_argument
define-suits-by sort bytes line (inl e) = grind arith
define-suits-by sort bytes line (inr (inl e)) = grind arith
define-suits-by sort bytes line (inr (inr e)) = grind arith

-- a `define` by its break
unfoldable break_by : Course → ℕ → List ℕ → Option Break → Step
break_by c line bytes k = elim k [
  | None ↦ if nat_lt c.most (length bytes) then broken DefineLong [] line else Next (record { sort = Definition; bytes = bytes; line = line })
  | Some x ↦ if nat_lt c.most (length bytes + x.len) then broken DefineLong [] line else broken DefineCut [] line
]

-- a `define` by where its logical line ends
unfoldable define_by : Course → ℕ → List ℕ → Option ℕ → Step
define_by c line bytes o = elim o [
  | Some n ↦ if nat_lt c.most n then broken DefineLong [] line else Next (record { sort = Definition; bytes = take n bytes; line = line })
  | None ↦ break_by c line bytes c.break
]

-- the definition chooses so
define_is : (c : Course) (line : ℕ) (bytes : List ℕ) → define_step c line bytes ≡ define_by c line bytes (logical_len 0 0 bytes)
unfolding define_step define_by break_by
define_is c line bytes = refl

-- a choice of steps of a `define`
head-choice : (x : Bool) (line : ℕ) (s : Step) → IsDefineHead (step_head s) → IsDefineHead (step_head (if x then broken DefineLong [] line else s))
unfolding IsDefineHead step_head broken
head-choice true line s h = inr (inl refl)
head-choice false line s h = h

-- each step of a `define` has its token
break-head : (c : Course) (line : ℕ) (bytes : List ℕ) (k : Option Break) → IsDefineHead (step_head (break_by c line bytes k))
unfolding break_by IsDefineHead step_head broken
break-head c line bytes None = head-choice (nat_lt c.most (length bytes)) line (Next (record { sort = Definition; bytes = bytes; line = line })) (inl refl)
break-head c line bytes (Some k) = head-choice (nat_lt c.most (length bytes + k.len)) line (broken DefineCut [] line) (inr (inr refl))

define-head : (c : Course) (line : ℕ) (bytes : List ℕ) (o : Option ℕ) → IsDefineHead (step_head (define_by c line bytes o))
unfolding define_by IsDefineHead step_head broken
define-head c line bytes (Some n) = head-choice (nat_lt c.most n) line (Next (record { sort = Definition; bytes = take n bytes; line = line })) (inl refl)
define-head c line bytes None = break-head c line bytes c.break

-- each step of a `define` may stand in the place of a broken one
define-suits : (c : Course) (line : ℕ) (bytes : List ℕ) → Suits Halt (step_head (define_step c line bytes))
unfolding IsDefineHead
define-suits c line bytes =
    let s = define_by c line bytes (logical_len 0 0 bytes) in
    subst (λ (x : Step). Suits Halt (step_head x)) (sym (define_is c line bytes))
    (define-suits-by (step_head s).sort (step_head s).bytes (step_head s).line (define-head c line bytes (logical_len 0 0 bytes)))

-- a broken `define` is torn
define-tears : (held : List ℕ) (line : ℕ) (b : Breach) (s s' : Step) → (b ≡ DefineLong) ⊎ (b ≡ DefineCut) → s ≡ broken b [] line → Suits Halt (step_head s')
    → StepTorn held s s'
unfolding broken token_role broken_role breach_kind is_limit
define-tears held line b s s' (inl e) is suits =
    Tears (record { sort = Broken DefineLong; bytes = []; line = line }) DefineLong
    (is ∙ ap (λ (x : Breach). Last (record { sort = Broken x; bytes = []; line = line })) e) refl refl suits
define-tears held line b s s' (inr e) is suits =
    Tears (record { sort = Broken DefineCut; bytes = []; line = line }) DefineCut
    (is ∙ ap (λ (x : Breach). Last (record { sort = Broken x; bytes = []; line = line })) e) refl refl suits

-- what doesn't pass a smaller limit doesn't pass a larger one
pub unpassed : (small large n : ℕ) → small ≤ large → nat_lt small n ≡ false → nat_lt large n ≡ false
unpassed small large n h e = le-ltb large n (le_trans (ltb-false small n e) h)

-- a `define` whose logical line ends in the text
ended-torn : (most most' : ℕ) (k k' : Option Break) (line : ℕ) (held more : List ℕ) (n : ℕ) (x : Bool) → most ≤ most'
    → logical_len 0 0 held ≡ Some n → nat_lt most n ≡ x
    → StepTorn held (define_step (record { most = most; break = k }) line held)
    (define_step (record { most = most'; break = k' }) line (held ++ more))
unfolding define_by ends_line
ended-torn most most' k k' line held more n true le e passed =
    let c : Course = record { most = most; break = k } in
    let c' : Course = record { most = most'; break = k' } in
    define-tears held line DefineLong (define_step c line held) (define_step c' line (held ++ more)) (inl refl)
    (define_is c line held ∙ ap (define_by c line held) e
    ∙ ap (λ (b : Bool). if b then broken DefineLong [] line else Next (record { sort = Definition; bytes = take n held; line = line })) passed)
    (define-suits c' line (held ++ more))
ended-torn most most' k k' line held more n false le e passed =
    let c : Course = record { most = most; break = k } in
    let c' : Course = record { most = most'; break = k' } in
    let inside = logical_len-within 0 0 held n e in
    Goes (record { sort = Definition; bytes = take n held; line = line }) n
    (define_is c line held ∙ ap (define_by c line held) e
    ∙ ap (λ (b : Bool). if b then broken DefineLong [] line else Next (record { sort = Definition; bytes = take n held; line = line })) passed)
    (define_is c' line (held ++ more) ∙ ap (define_by c' line (held ++ more)) (logical_len-append 0 0 held more n e)
    ∙ ap (λ (b : Bool). if b then broken DefineLong [] line else Next (record { sort = Definition; bytes = take n (held ++ more); line = line }))
    (unpassed most most' n le passed)
    ∙ ap (λ (bs : List ℕ). Next (record { sort = Definition; bytes = bs; line = line })) (take-append-le n held more inside.1))
    inside.0 inside.1 refl (λ f. absurd (cc))

-- a `define` whose logical line doesn't end in the text, which a limit ends
cut-torn : (most most' : ℕ) (j : Break) (k' : Option Break) (line : ℕ) (held more : List ℕ) (x : Bool)
    → logical_len 0 0 held ≡ None → nat_lt most (length held + j.len) ≡ x
    → StepTorn held (define_step (record { most = most; break = Some j }) line held)
    (define_step (record { most = most'; break = k' }) line (held ++ more))
unfolding define_by break_by
cut-torn most most' j k' line held more true e passed =
    let c : Course = record { most = most; break = Some j } in
    let c' : Course = record { most = most'; break = k' } in
    define-tears held line DefineLong (define_step c line held) (define_step c' line (held ++ more)) (inl refl)
    (define_is c line held ∙ ap (define_by c line held) e
    ∙ ap (λ (b : Bool). if b then broken DefineLong [] line else broken DefineCut [] line) passed)
    (define-suits c' line (held ++ more))
cut-torn most most' j k' line held more false e passed =
    let c : Course = record { most = most; break = Some j } in
    let c' : Course = record { most = most'; break = k' } in
    define-tears held line DefineCut (define_step c line held) (define_step c' line (held ++ more)) (inr refl)
    (define_is c line held ∙ ap (define_by c line held) e
    ∙ ap (λ (b : Bool). if b then broken DefineLong [] line else broken DefineCut [] line) passed)
    (define-suits c' line (held ++ more))

-- a `define` that goes on to the end of all
last-torn : (most most' : ℕ) (line : ℕ) (held : List ℕ) (x : Bool) → 0 < length held → most ≤ most'
    → logical_len 0 0 held ≡ None → nat_lt most (length held) ≡ x
    → StepTorn held (define_step (record { most = most; break = None }) line held)
    (define_step (record { most = most'; break = None }) line held)
unfolding define_by break_by ends_line
last-torn most most' line held true some le e passed =
    let c : Course = record { most = most; break = None } in
    let c' : Course = record { most = most'; break = None } in
    define-tears held line DefineLong (define_step c line held) (define_step c' line held) (inl refl)
    (define_is c line held ∙ ap (define_by c line held) e
    ∙ ap (λ (b : Bool). if b then broken DefineLong [] line else Next (record { sort = Definition; bytes = held; line = line })) passed)
    (define-suits c' line held)
last-torn most most' line held false some le e passed =
    let c : Course = record { most = most; break = None } in
    let c' : Course = record { most = most'; break = None } in
    Goes (record { sort = Definition; bytes = held; line = line }) (length held)
    (define_is c line held ∙ ap (define_by c line held) e
    ∙ ap (λ (b : Bool). if b then broken DefineLong [] line else Next (record { sort = Definition; bytes = held; line = line })) passed)
    (define_is c' line held ∙ ap (define_by c' line held) e
    ∙ ap (λ (b : Bool). if b then broken DefineLong [] line else Next (record { sort = Definition; bytes = held; line = line }))
    (unpassed most most' (length held) le passed))
    some (omega arith) (sym (take-length held)) (λ f. absurd (cc))

-- a `define`, by where its logical line ends in the text
define-torn-by : (most most' : ℕ) (k k' : Option Break) (line : ℕ) (held more : List ℕ) (o : Option ℕ) → 0 < length held → most ≤ most'
    → Ends held more k k' → logical_len 0 0 held ≡ o
    → StepTorn held (define_step (record { most = most; break = k }) line held)
    (define_step (record { most = most'; break = k' }) line (held ++ more))
define-torn-by most most' k k' line held more (Some n) some le ends e =
    ended-torn most most' k k' line held more n (nat_lt most n) le e refl
define-torn-by most most' k k' line held more None some le ends e =
    ends-by (λ text x y. StepTorn held (define_step (record { most = most; break = x }) line held) (define_step (record { most = most'; break = y }) line text)) held more k k' ends
    (last-torn most most' line held (nat_lt most (length held)) some le e refl)
    (λ j w limit. cut-torn most most' j k' line held more (nat_lt most (length held + j.len)) e refl)

-- a `define`
pub define-torn : (most most' : ℕ) (k k' : Option Break) (line : ℕ) (held more : List ℕ) → 0 < length held → most ≤ most'
    → Ends held more k k'
    → StepTorn held (define_step (record { most = most; break = k }) line held)
    (define_step (record { most = most'; break = k' }) line (held ++ more))
define-torn most most' k k' line held more some le ends =
    define-torn-by most most' k k' line held more (logical_len 0 0 held) some le ends refl

-- a text ends at a line end, or nothing is after it
pub ends-line : (held more : List ℕ) (k k' : Option Break) → Ends held more k k' → EndsLine held more
ends-line held more k k' (inl h) = inr h.0
ends-line held more k k' (inr h) = inl h.0

-- one more than what is less
one-more : (x : Bool) (n m : ℕ) → n < m → cond x (1 + n) 0 < suc m
one-more true n m h = omega (arith, h)
one-more false n m h = omega (arith, h)

-- nothing passes
none-passes : (x : Bool) → x ≡ false → cond x (1 + 0) 0 < 1
none-passes x e = subst (λ (b : Bool). cond b (1 + 0) 0 < 1) (sym e) (omega arith)

-- a run of bytes that aren't LF doesn't have all of a text of whole lines
run-short : (p : ℕ → Bool) → p 10 ≡ false → (b : ℕ) (bs : List ℕ) → IsWholeLines (b ∷ bs) → prefix_len p (b ∷ bs) < length (b ∷ bs)
run-short p ten b [] h = none-passes (p b) (ap p (line_end-ten b (IsWholeLines-one b h)) ∙ ten)
run-short p ten b (c ∷ bs) h =
    one-more (p b) (prefix_len p (c ∷ bs)) (length (c ∷ bs)) (run-short p ten c bs (IsWholeLines-rest b (c ∷ bs) h))

-- a run after the first byte
following-short : (p : ℕ → Bool) → p 10 ≡ false → (b : ℕ) (bs : List ℕ) → (b ≡ 10 → ⊥) → IsWholeLines (b ∷ bs) → suc (prefix_len p bs) < length (b ∷ bs)
following-short p ten b [] other h = absurd (other (line_end-ten b (IsWholeLines-one b h)))
following-short p ten b (c ∷ bs) other h = let e = run-short p ten c bs (IsWholeLines-rest b (c ∷ bs) h) in omega (arith, e)

-- a token of blanks, or a backquoted name, doesn't have all of a text of whole lines
unfoldable pub IsShort : List ℕ → Token → Type 0
IsShort bs t = ends_line (Ordinary t.kind) ≡ false → IsWholeLines bs → t.len < length bs

-- a choice of tokens
choice-short : (bs : List ℕ) (test : Bool) (t u : Token) → (test ≡ true → IsShort bs t) → (test ≡ false → IsShort bs u)
    → IsShort bs (if test then t else u)
choice-short bs true t u h k = h refl
choice-short bs false t u h k = k refl

-- any other token
other-short : (bs : List ℕ) (t : Token) → ends_line (Ordinary t.kind) ≡ true → IsShort bs t
unfolding IsShort
other-short bs t e = λ f. absurd (true≢false (sym e ∙ f))

-- a string is another token
string-other : (from : ℕ) (bs : List ℕ) → ends_line (Ordinary (string_token from bs).kind) ≡ true
unfolding string_token whole ends_line
string-other from bs = grind arith

-- and so is a block comment
block-other : (from : ℕ) (bs : List ℕ) → ends_line (Ordinary (block_token from bs).kind) ≡ true
unfolding block_token whole ends_line
block-other from bs = grind (arith, nat_lt)

-- no byte is two
not-two : (b n m : ℕ) → (b == n) ≡ true → (n ≡ m → ⊥) → b ≡ m → ⊥
not-two b n m e other f = other (sym (eqb-true b n e) ∙ f)

-- the first token of a text of whole lines
pub plain-short : (b : ℕ) (bs : List ℕ) → IsShort (b ∷ bs) (plain_token (b ∷ bs))
unfolding plain_token IsShort whole ends_line is_blank is_word is_letter is_digit
plain-short b bs =
    let all = b ∷ bs in
    choice-short all (begins_perl all) _ _ (λ h. other-short all (whole Perl 2) refl) (λ _.
    choice-short all (is_line_end b) _ _ (λ h. other-short all (whole LineEnd 1) refl) (λ _.
    choice-short all (is_blank b) _ _ (λ h. λ f w. run-short is_blank refl b bs w) (λ _.
    choice-short all (begins_line_comment all) _ _ (λ h. other-short all (whole LineComment _) refl) (λ _.
    choice-short all (begins_block_comment all) _ _ (λ h. other-short all (block_token 2 all) (block-other 2 all)) (λ _.
    choice-short all (b == 34) _ _ (λ h. other-short all (string_token 1 all) (string-other 1 all)) (λ _.
    choice-short all (is_letter b) _ _ (λ h. other-short all (whole Name _) refl) (λ _.
    choice-short all (is_digit b) _ _ (λ h. other-short all (whole Word _) refl) (λ _.
    choice-short all (takes_word b && is_word (slice_index all 1)) _ _ (λ h. other-short all (whole Word _) refl) (λ _.
    choice-short all (b == 96 && is_letter (slice_index all 1)) _ _
    (λ h. λ f w. following-short is_word refl b bs (not-two b 96 10 (and_parts (b == 96) (is_letter (slice_index all 1)) h).0 (λ e. absurd (omega (arith, e)))) w) (λ _.
    choice-short all (b == 96) _ _ (λ h. other-short all (whole BareBackquote 1) refl) (λ _.
    choice-short all (is_opener b) _ _ (λ h. other-short all (whole Opener 1) refl) (λ _.
    choice-short all (is_closer b) _ _ (λ h. other-short all (whole Closer 1) refl) (λ _.
    choice-short all (b == 44) _ _ (λ h. other-short all (whole Comma 1) refl) (λ _.
    other-short all (whole Other 1) refl))))))))))))))

-- a token that is taken alike from a text and from one with more after it
goes-alike : (held more : List ℕ) (kind : Kind) (n line : ℕ) (s s' : Step) → 0 < n → n ≤ length held
    → (ends_line (Ordinary kind) ≡ false → IsWholeLines held → n < length held)
    → s ≡ Next (record { sort = Ordinary kind; bytes = take n held; line = line })
    → s' ≡ Next (record { sort = Ordinary kind; bytes = take n (held ++ more); line = line })
    → StepTorn held s s'
goes-alike held more kind n line s s' some inside short e f =
    Goes (record { sort = Ordinary kind; bytes = take n held; line = line }) n e
    (f ∙ ap (λ (bs : List ℕ). Next (record { sort = Ordinary kind; bytes = bs; line = line })) (take-append-le n held more inside))
    some inside refl short

-- a `line`
line-torn : (line : ℕ) (held more : List ℕ) → 0 < length held → EndsLine held more → StepTorn held (line_step line held) (line_step line (held ++ more))
unfolding line_step ends_line
line-torn line held more some ends =
    let e = line_len-append held more some ends in
    Goes (record { sort = Renumbering; bytes = take (line_len held) held; line = line }) (line_len held) refl
    (ap (λ (n : ℕ). Next (record { sort = Renumbering; bytes = take n (held ++ more); line = line })) e
    ∙ ap (λ (bs : List ℕ). Next (record { sort = Renumbering; bytes = bs; line = line })) (take-append-le (line_len held) held more (line_len-le held)))
    (line_len-some held some) (line_len-le held) refl (λ f. absurd (true≢false f))

-- a backquoted name, by which it is
back-by : (most most' : ℕ) (k k' : Option Break) (line n : ℕ) (held more : List ℕ) (own : List ℕ) (x y : Bool) → 0 < n → n ≤ length held
    → (ends_line (Ordinary Back) ≡ false → IsWholeLines held → n < length held)
    → most ≤ most' → Ends held more k k'
    → StepTorn held
    (if x then define_step (record { most = most; break = k }) line held
    else (if y then line_step line held
    else Next (record { sort = Ordinary Back; bytes = take n held; line = line })))
    (if x then define_step (record { most = most'; break = k' }) line (held ++ more)
    else (if y then line_step line (held ++ more)
    else Next (record { sort = Ordinary Back; bytes = take n (held ++ more); line = line })))
back-by most most' k k' line n held more own true y some inside short le ends =
    define-torn most most' k k' line held more (le_trans some inside) le ends
back-by most most' k k' line n held more own false true some inside short le ends =
    line-torn line held more (le_trans some inside) (ends-line held more k k' ends)
back-by most most' k k' line n held more own false false some inside short le ends =
    goes-alike held more Back n line _ _ some inside short refl refl

-- a backquoted name
back-torn : (most most' : ℕ) (k k' : Option Break) (line n : ℕ) (held more : List ℕ) → 0 < n → n ≤ length held
    → (ends_line (Ordinary Back) ≡ false → IsWholeLines held → n < length held)
    → most ≤ most' → Ends held more k k'
    → StepTorn held (back_step (record { most = most; break = k }) line (record { kind = Back; len = n; next_mode = Plain }) held)
    (back_step (record { most = most'; break = k' }) line (record { kind = Back; len = n; next_mode = Plain }) (held ++ more))
unfolding back_step
back-torn most most' k k' line n held more some inside short le ends =
    let small = back_step (record { most = most; break = k }) line (record { kind = Back; len = n; next_mode = Plain }) held in
    subst (λ (own : List ℕ). StepTorn held small
    (if bytes_eq own (codes "`define") then define_step (record { most = most'; break = k' }) line (held ++ more)
    else (if bytes_eq own (codes "`line") then line_step line (held ++ more)
    else Next (record { sort = Ordinary Back; bytes = own; line = line })))) (sym (take-append-le n held more inside))
    (subst (λ (own : List ℕ). StepTorn held small
    (if bytes_eq (take n held) (codes "`define") then define_step (record { most = most'; break = k' }) line (held ++ more)
    else (if bytes_eq (take n held) (codes "`line") then line_step line (held ++ more)
    else Next (record { sort = Ordinary Back; bytes = own; line = line })))) (take-append-le n held more inside)
    (back-by most most' k k' line n held more (take n held) (bytes_eq (take n held) (codes "`define")) (bytes_eq (take n held) (codes "`line"))
    some inside short le ends))

-- a token that is closed
pub closed-torn : (most most' : ℕ) (k k' : Option Break) (line : ℕ) (kind : Kind) (n : ℕ) (held more : List ℕ) → 0 < n → n ≤ length held
    → (ends_line (Ordinary kind) ≡ false → IsWholeLines held → n < length held)
    → most ≤ most' → Ends held more k k'
    → StepTorn held (step_by (record { most = most; break = k }) line line (record { kind = kind; len = n; next_mode = Plain }) held)
    (step_by (record { most = most'; break = k' }) line line (record { kind = kind; len = n; next_mode = Plain }) (held ++ more))
unfolding step_by string_step comment_step broken
closed-torn most most' k k' line Perl n held more some inside short le ends =
    Stays (record { sort = Broken PerlFound; bytes = []; line = line }) refl refl
closed-torn most most' k k' line Back n held more some inside short le ends =
    back-torn most most' k k' line n held more some inside short le ends
closed-torn most most' k k' line kind n held more some inside short le ends =
    goes-alike held more kind n line _ _ some inside short refl refl

-- a break is of a line's or a source's limit, if there is one
unfoldable pub IsOwnBreak : Option Break → Type 0
IsOwnBreak None = Unit
IsOwnBreak (Some k) = (k.breach ≡ LineLong) ⊎ (k.breach ≡ SourceLong)

-- whole lines have an LF, and so have their bytes with more after them
pub has_line_end : (b : ℕ) (bs more : List ℕ) → IsWholeLines (b ∷ bs) → list_any is_line_end ((b ∷ bs) ++ more) ≡ true
has_line_end b [] more h = ap (λ (x : Bool). x || list_any is_line_end more) (IsWholeLines-one b h)
has_line_end b (c ∷ bs) more h =
    ap (λ (x : Bool). is_line_end b || x) (has_line_end c bs more (IsWholeLines-rest b (c ∷ bs) h)) ∙ or_right (is_line_end b) true refl

-- a string as larger limits may have it: whole and over a line's end, or broken
unfoldable pub IsStringHead : Sort → List ℕ → ℕ → Type 0
IsStringHead sort bytes line =
    ((sort ≡ Ordinary Str) × (list_any is_line_end bytes ≡ true)) ⊎ ((b : Breach) × (sort ≡ Broken b) × IsStringRole (broken_role b bytes line))

-- a string over a line's end is given to no directive
split-nothing : (bytes : List ℕ) (line : ℕ) (rest : List SourceToken) → list_any is_line_end bytes ≡ true
    → GivesNothing (record { sort = Ordinary Str; bytes = bytes; line = line } ∷ rest)
unfolding name_in_front string_in_front past_blanks no_argument
split-nothing bytes line rest e = grind arith

-- a broken token is given to no directive
broken-nothing : (b : Breach) (bytes : List ℕ) (line : ℕ) (rest : List SourceToken)
    → GivesNothing (record { sort = Broken b; bytes = bytes; line = line } ∷ rest)
unfolding name_in_front string_in_front past_blanks no_argument
broken-nothing b bytes line rest = record { name = refl; string = refl; name_past = refl; string_past = refl }

-- such a string may stand in the place of a torn one
string-suits-by : (f : Breach) (own line : ℕ) (sort : Sort) (bytes : List ℕ) → is_limit (breach_kind f) ≡ true → IsStringHead sort bytes line
    → Suits (EndsString (breach_kind f) own) (record { sort = sort; bytes = bytes; line = line })
unfolding IsStringHead TornBy FollowsString IsStringRole leading directive_of token_role kind_role
string-suits-by f own line sort bytes limit (inl h) =
    subst (λ (x : Sort). Suits (EndsString (breach_kind f) own) (record { sort = x; bytes = bytes; line = line })) (sym h.0)
    (record { torn = λ rest. (limit, tt); nothing = λ rest. split-nothing bytes line rest h.1 })
string-suits-by f own line sort bytes limit (inr (b, e, role)) =
    subst (λ (x : Sort). Suits (EndsString (breach_kind f) own) (record { sort = x; bytes = bytes; line = line })) (sym e)
    (record { torn = λ rest. (limit, role); nothing = λ rest. broken-nothing b bytes line rest })

-- a choice of roles of a broken token that begins with a quote
quote-role : (x : Bool) (b : Breach) (line : ℕ) → x ≡ true
    → IsStringRole (if x then EndsString (breach_kind b) line else Stops (breach_kind b) line)
unfolding IsStringRole
quote-role true b line e = tt
quote-role false b line e = absurd (true≢false (sym e))

-- the role of a token that a limit of lines or sources breaks, by whether it begins with a quote
pub limit-broken : (b : Breach) (bytes : List ℕ) (line : ℕ) (q : Bool) → (b ≡ LineLong) ⊎ (b ≡ SourceLong) → (slice_index bytes 0 == 34) ≡ q
    → broken_role b bytes line ≡ (if q then EndsString (breach_kind b) line else Stops (breach_kind b) line)
unfolding broken_role
limit-broken b bytes line q (inl e) h = rw (e, h) refl
limit-broken b bytes line q (inr e) h = rw (e, h) refl

-- its fault is that of a limit
pub limit-breach : (b : Breach) → (b ≡ LineLong) ⊎ (b ≡ SourceLong) → is_limit (breach_kind b) ≡ true
unfolding breach_kind is_limit
limit-breach b (inl e) = ap (λ (x : Breach). is_limit (breach_kind x)) e
limit-breach b (inr e) = ap (λ (x : Breach). is_limit (breach_kind x)) e

-- the role of a broken string
limit-role : (b : Breach) (bytes : List ℕ) (line : ℕ) → (b ≡ LineLong) ⊎ (b ≡ SourceLong) → (slice_index bytes 0 == 34) ≡ true → IsStringRole (broken_role b bytes line)
unfolding IsStringRole
limit-role b bytes line limit q = subst (λ (r : Role). IsStringRole r) (sym (limit-broken b bytes line true limit q)) tt

-- the token of a step has what a string has
unfoldable pub HeadIsString : Step → Type 0
HeadIsString s = IsStringHead (step_head s).sort (step_head s).bytes (step_head s).line

-- a string that is open at the end
end-string : (c : Course) (opened line : ℕ) (bytes : List ℕ) (k : Option Break) → IsOwnBreak k → (slice_index bytes 0 == 34) ≡ true
    → HeadIsString (elim k [ None ↦ broken StringOpen bytes opened | Some x ↦ broken x.breach bytes (line + line_ends bytes) ])
unfolding HeadIsString IsStringHead step_head broken broken_role IsOwnBreak
end-string c opened line bytes None own q = inr (StringOpen, refl, quote-role (slice_index bytes 0 == 34) StringOpen opened q)
end-string c opened line bytes (Some k) own q =
    inr (k.breach, refl, limit-role k.breach bytes (line + line_ends bytes) own q)

-- a string that isn't closed, by whether `<%` stands after it
open-string : (c : Course) (opened line : ℕ) (bytes : List ℕ) (x : Bool) → IsOwnBreak c.break → (slice_index bytes 0 == 34) ≡ true
    → HeadIsString (if x then broken PerlFound bytes (line + line_ends bytes) else open_end c StringOpen opened line bytes)
unfolding HeadIsString IsStringHead step_head broken broken_role open_end
open-string c opened line bytes true own q =
    inr (PerlFound, refl, quote-role (slice_index bytes 0 == 34) PerlFound (line + line_ends bytes) q)
open-string c opened line bytes false own q = end-string c opened line bytes c.break own q

-- a string's step, by the mode after it
pub string-head : (c : Course) (opened line n : ℕ) (mode : Mode) (bytes : List ℕ) → IsOwnBreak c.break → (slice_index (take n bytes) 0 == 34) ≡ true
    → list_any is_line_end (take n bytes) ≡ true
    → HeadIsString (string_step c opened line (record { kind = Str; len = n; next_mode = mode }) bytes)
unfolding HeadIsString IsStringHead string_step step_head
string-head c opened line n Plain bytes own q e = inl (refl, e)
string-head c opened line n _ bytes own q e = open-string c opened line (take n bytes) (nat_lt n (length bytes)) own q

-- a comment as larger limits may have it: whole, or broken
unfoldable pub IsCommentHead : Sort → Type 0
IsCommentHead sort = (sort ≡ Ordinary BlockComment) ⊎ ((b : Breach) × (sort ≡ Broken b))

-- a comment is given to no directive
comment-nothing : (bytes : List ℕ) (line : ℕ) (rest : List SourceToken) → GivesNothing (record { sort = Ordinary BlockComment; bytes = bytes; line = line } ∷ rest)
unfolding name_in_front string_in_front past_blanks no_argument
comment-nothing bytes line rest = record { name = refl; string = refl; name_past = refl; string_past = refl }

-- such a comment may stand in the place of a torn one
comment-suits-by : (f : Breach) (own line : ℕ) (sort : Sort) (bytes : List ℕ) → is_limit (breach_kind f) ≡ true → IsCommentHead sort
    → Suits (Stops (breach_kind f) own) (record { sort = sort; bytes = bytes; line = line })
unfolding IsCommentHead TornBy
comment-suits-by f own line sort bytes limit (inl e) =
    subst (λ (x : Sort). Suits (Stops (breach_kind f) own) (record { sort = x; bytes = bytes; line = line })) (sym e)
    (record { torn = λ rest. limit; nothing = λ rest. comment-nothing bytes line rest })
comment-suits-by f own line sort bytes limit (inr (b, e)) =
    subst (λ (x : Sort). Suits (Stops (breach_kind f) own) (record { sort = x; bytes = bytes; line = line })) (sym e)
    (record { torn = λ rest. limit; nothing = λ rest. broken-nothing b bytes line rest })

-- a comment that is open at the end
end-comment : (c : Course) (opened line : ℕ) (bytes : List ℕ) (k : Option Break)
    → IsCommentHead (step_head (elim k [ None ↦ broken CommentOpen bytes opened | Some x ↦ broken x.breach bytes (line + line_ends bytes) ])).sort
unfolding IsCommentHead step_head broken
end-comment c opened line bytes None = inr (CommentOpen, refl)
end-comment c opened line bytes (Some k) = inr (k.breach, refl)

-- a comment's step, by the mode after it
pub comment-head : (c : Course) (opened line n : ℕ) (mode : Mode) (bytes : List ℕ)
    → IsCommentHead (step_head (comment_step c opened line (record { kind = BlockComment; len = n; next_mode = mode }) bytes)).sort
unfolding IsCommentHead comment_step step_head open_end
comment-head c opened line n Plain bytes = inl refl
comment-head c opened line n _ bytes = end-comment c opened line (take n bytes) c.break

-- a token that such a limit tears
tears : (held : List ℕ) (b : Breach) (own : List ℕ) (line : ℕ) (q : Bool) (s s' : Step) → (b ≡ LineLong) ⊎ (b ≡ SourceLong) → (slice_index own 0 == 34) ≡ q
    → s ≡ broken b own line → Suits (if q then EndsString (breach_kind b) line else Stops (breach_kind b) line) (step_head s') → StepTorn held s s'
unfolding broken token_role
tears held b own line q s s' limit quote is suits =
    Tears (record { sort = Broken b; bytes = own; line = line }) b is refl (limit-breach b limit)
    (subst (λ (r : Role). Suits r (step_head s')) (sym (limit-broken b own line q limit quote)) suits)

-- one that begins with a quote, and one that doesn't
pub tears-string : (held : List ℕ) (b : Breach) (own : List ℕ) (line : ℕ) (s s' : Step) → (b ≡ LineLong) ⊎ (b ≡ SourceLong) → (slice_index own 0 == 34) ≡ true
    → s ≡ broken b own line → HeadIsString s' → StepTorn held s s'
unfolding HeadIsString
tears-string held b own line s s' limit q is h =
    tears held b own line true s s' limit q is (string-suits-by b line (step_head s').line (step_head s').sort (step_head s').bytes (limit-breach b limit) h)

pub tears-comment : (held : List ℕ) (b : Breach) (own : List ℕ) (line : ℕ) (s s' : Step) → (b ≡ LineLong) ⊎ (b ≡ SourceLong) → (slice_index own 0 == 34) ≡ false
    → s ≡ broken b own line → IsCommentHead (step_head s').sort → StepTorn held s s'
tears-comment held b own line s s' limit q is h =
    tears held b own line false s s' limit q is (comment-suits-by b line (step_head s').line (step_head s').sort (step_head s').bytes (limit-breach b limit) h)
