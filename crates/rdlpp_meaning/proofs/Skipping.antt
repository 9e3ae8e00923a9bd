-- Laws of skipped text, of the words of directives and of the LF bytes that are owed.
use Rattle.std.proofs.Common.{◌≡◌, ℕ, Bool, List, [], ◌∷◌, refl, sym, ap, subst, ◌∙◌, None, true, false, Option, Some, length, replicate, ◌++◌, take, drop, take-append-drop, arith}
use Rattle.std.specs.List.{list_all}
use Rattle.std.proofs.lemmas.Bool.{and_from, and_parts}
use Rattle.std.proofs.lemmas.List.Sums.{length-filter}
use Rattle.rdlpp_scan.specs.Bytes.{is_blank, is_line_end}
use Rattle.rdlpp_scan.specs.Front.{Breach}
use Rattle.rdlpp_scan.specs.Reserved.{directive_word, is_reserved}
use Rattle.rdlpp_scan.specs.SourceTokens.{Broken, Definition, Ordinary, Renumbering, Sort, SourceToken, line_ends}
use Rattle.rdlpp_scan.specs.declared.token.Directive.{Directive}
use Rattle.rdlpp_scan.specs.declared.token.Directive.TheVariants.{Define, Include, Line, Undef}
use Rattle.rdlpp_scan.specs.declared.token.Kind.{Kind}
use Rattle.rdlpp_scan.specs.declared.token.Kind.TheVariants.{Back, BareBackquote}
use Rattle.rdlpp_scan.proofs.DirectiveNames.{among_is}
use Rattle.rdlpp_scan.proofs.Seams.{line_end-ten}
use Rattle.rdlpp_meaning.specs.Expansion.{bytes_of, is_copied, usage_token}
use Rattle.rdlpp_meaning.specs.Meaning.{IncludedMeaning, Passage, Progress, SkipsAs, after_bytes, goes_on, leaves, included_meaning_of, skipped_command, skipped_run, unclosed}
use Rattle.rdlpp_meaning.specs.Outcome.{Outcome, and_then, fails, gives}
use Rattle.rdlpp_meaning.specs.Parts.{Branching, Closing, Opening, Piece, Run, Single, argument_of, after_directive, command_in_front, command_of, directive_of, joined, line_ends_of, no_argument, one_argument, only_blanks, piece_of, pieces, tokenless, tokenless_worded}
use Rattle.rdlpp_meaning.specs.Resumed.{Live, Skipped, following, resume, resumed, skips}
use Rattle.rdlpp_meaning.specs.State.{Rules, State, breach_kind, fault_at}
use Rattle.rdlpp_meaning.proofs.Directives.{argument_by, argument_takes, directive_piece}
use Rattle.rdlpp_meaning.proofs.Outcomes.{and_then-assoc, and_then-fails, and_then-gives, and_then-nil, after_bytes-nil, after_bytes-twice, gives_fails-goes_on, goes_on-gives, leaves-and_then, on_leaves}
use Rattle.rdlpp_meaning.proofs.LiveText.{line_ends_of-append, only_blanks-append, pieces_text, usage_text}

-- Laws of skipped text, and of where a file ends.

-- a skipped run by itself of one token
skipped_alone : (rules : Rules) (included_meaning : IncludedMeaning) (n : ℕ) (p : Progress) (os : List Progress) (t : SourceToken) (o : Outcome) (ps : List Piece) (s : State)
    → SkipsAs s t o
    → resume rules included_meaning (Skipped n p os) (Run (t ∷ []) ∷ ps) s ≡ goes_on (leaves o s) (λ after. resume rules included_meaning (Skipped n p os) ps after)
unfolding resume SkipsAs skipped_run
skipped_alone rules included_meaning n p os t o ps s w =
    ap (λ (x : Outcome). goes_on (leaves x s) (λ after. resume rules included_meaning (Skipped n p os) ps after)) (w [] ∙ and_then-nil o)

-- a token that is skipped in front of pieces
skipped_joined : (rules : Rules) (included_meaning : IncludedMeaning) (n : ℕ) (p : Progress) (os : List Progress) (t : SourceToken) (o : Outcome) (ps : List Piece) (s : State)
    → SkipsAs s t o
    → resume rules included_meaning (Skipped n p os) (joined t ps) s ≡ goes_on (leaves o s) (λ after. resume rules included_meaning (Skipped n p os) ps after)
unfolding resume joined SkipsAs
skipped_joined rules included_meaning n p os t o [] s w = skipped_alone rules included_meaning n p os t o [] s w
skipped_joined rules included_meaning n p os t o (Run us ∷ ps) s w = grind (arith, leaves-and_then, on_leaves)
skipped_joined rules included_meaning n p os t o (Single c ∷ ps) s w = skipped_alone rules included_meaning n p os t o (Single c ∷ ps) s w
skipped_joined rules included_meaning n p os t o (Opening c ∷ ps) s w = skipped_alone rules included_meaning n p os t o (Opening c ∷ ps) s w
skipped_joined rules included_meaning n p os t o (Branching c ∷ ps) s w = skipped_alone rules included_meaning n p os t o (Branching c ∷ ps) s w
skipped_joined rules included_meaning n p os t o (Closing c ∷ ps) s w = skipped_alone rules included_meaning n p os t o (Closing c ∷ ps) s w

-- a token that is skipped, and then what remains after it
pub skipped_token : (rules : Rules) (n : ℕ) (p : Progress) (os : List Progress) (first : Bool) (t : SourceToken) (ts : List SourceToken) (s : State) (o : Outcome)
    → directive_of t ≡ None → SkipsAs s t o
    → resumed rules (Skipped n p os) first (t ∷ ts) s
    ≡ goes_on (leaves o s) (λ after. resumed rules (Skipped n p os) (only_blanks first t.bytes) ts after)
unfolding resumed
skipped_token rules n p os first t ts s o e w =
    let rest = pieces (only_blanks first t.bytes) 0 ts in
    let included_meaning = included_meaning_of rules s.sources_left in
    ap (λ (ps : List Piece). resume rules included_meaning (Skipped n p os) ps s) (pieces_text first t ts e)
    ∙ skipped_joined rules included_meaning n p os t o rest s w
    ∙ on_leaves o s (λ after. resume rules included_meaning (Skipped n p os) rest after)
    (λ after. resumed rules (Skipped n p os) (only_blanks first t.bytes) ts after) refl

-- a token that isn't broken is skipped to its LF bytes
pub ordinary_skips : (s : State) (k : Kind) (bytes : List ℕ) (line : ℕ)
    → SkipsAs s (record { sort = Ordinary k; bytes = bytes; line = line }) (gives (line_ends_of bytes))
unfolding SkipsAs skipped_run
ordinary_skips s k bytes line us = refl

-- a broken token is skipped to its LF bytes and its fault
pub broken_skips : (s : State) (b : Breach) (bytes : List ℕ) (line : ℕ)
    → SkipsAs s (record { sort = Broken b; bytes = bytes; line = line })
    (and_then (gives (line_ends_of bytes)) (fails (fault_at (breach_kind b) line [] s)))
unfolding SkipsAs skipped_run
broken_skips s b bytes line us = grind (arith, and_then-fails, and_then-assoc)

-- at the end of a file an open conditional isn't closed, in live text
pub live_unclosed : (rules : Rules) (o : Progress) (os : List Progress) (first : Bool) (s : State)
    → resumed rules (Live (o ∷ os)) first [] s ≡ unclosed o s
unfolding resumed resume pieces
live_unclosed rules o os first s = refl

-- nor in skipped text, where it is the one that skips
pub skipped_unclosed : (rules : Rules) (n : ℕ) (o : Progress) (os : List Progress) (first : Bool) (s : State)
    → resumed rules (Skipped n o os) first [] s ≡ unclosed o s
unfolding resumed resume pieces
skipped_unclosed rules n o os first s = refl

-- The words of the directives that have no token of their own: such a word has no LF, and after it more than blanks stand on its line.

-- a text that is no more than a word
pub record IsWord (bytes : List ℕ) : Type 0 where
  pub no_line_end : line_ends_of bytes ≡ []
  pub no_blanks : (first : Bool) → only_blanks first bytes ≡ false

-- the word of a directive is one
word_is : (d : Directive) → IsWord (directive_word d)
unfolding only_blanks line_ends_of is_blank is_line_end
word_is Define = record { no_line_end = refl; no_blanks = λ first. refl }
word_is _ = record { no_line_end = refl; no_blanks = λ first. refl }

-- so the bytes of a directive that has no token of its own are one
pub tokenless_word : (bytes : List ℕ) (d : Directive) → tokenless_worded bytes ≡ Some d → IsWord bytes
unfolding tokenless_worded
tokenless_word bytes d e = subst IsWord (sym (among_is directive_word tokenless bytes d e)) (word_is d)

-- whether a directive has a token of its own, with what it takes
unfoldable pub has_own_token : Directive → Bool
has_own_token Define = true
has_own_token Line = true
has_own_token d = false

-- a `define` is one that has
not_definition : (d : Directive) → Some Define ≡ Some d → has_own_token d ≡ false → ⊥
unfolding has_own_token
not_definition Define e h = cc
not_definition d e h = cc

-- and so is a `line`
not_renumbering : (d : Directive) → Some Line ≡ Some d → has_own_token d ≡ false → ⊥
unfolding has_own_token
not_renumbering Line e h = cc
not_renumbering d e h = cc

-- a token that begins such a directive is its word, by its sort
word_by : (sort : Sort) (bytes : List ℕ) (line : ℕ) (d : Directive) → directive_of (record { sort = sort; bytes = bytes; line = line }) ≡ Some d
    → has_own_token d ≡ false → IsWord bytes
unfolding directive_of
word_by (Ordinary Back) bytes line d e h = tokenless_word bytes d e
word_by (Ordinary k) bytes line d e h = cc
word_by Definition bytes line d e h = absurd (not_definition d e h)
word_by Renumbering bytes line d e h = absurd (not_renumbering d e h)
word_by (Broken b) bytes line d e h = cc

-- a token that begins such a directive is its word
pub begins_word : (t : SourceToken) (d : Directive) → directive_of t ≡ Some d → has_own_token d ≡ false → IsWord t.bytes
begins_word t d e h = word_by t.sort t.bytes t.line d e h

-- The LF bytes of a text, as so many that are owed.

-- the LF bytes of a text are LF each
all_line_ends : (bytes : List ℕ) → line_ends_of bytes ≡ replicate (length (line_ends_of bytes)) 10
unfolding line_ends_of
all_line_ends [] = refl
all_line_ends (b ∷ bs) = grind (arith, line_end-ten, (all_line_ends bs), (all_line_ends bs))

-- there are as many as LF bytes are counted
pub line_ends_of-length : (bytes : List ℕ) → length (line_ends_of bytes) ≡ line_ends bytes
unfolding line_ends_of line_ends
line_ends_of-length bytes = length-filter is_line_end bytes

-- the LF bytes of a text are so many LF
pub line_ends_of-owed : (bytes : List ℕ) → line_ends_of bytes ≡ replicate (line_ends bytes) 10
line_ends_of-owed bytes = all_line_ends bytes ∙ ap (λ (n : ℕ). replicate n 10) (line_ends_of-length bytes)

-- Skipped text in a nest of open sources: tokens, whole and in parts, of which the LF bytes are written, stretches of them between
-- the words of conditionals, these words, and broken tokens.

-- a skipped token comes to its LF bytes, and then what remains
skipped_one : (rules : Rules) (n : ℕ) (p : Progress) (os : List Progress) (first : Bool) (k : Kind) (x : List ℕ) (line : ℕ) (more : List SourceToken) (s : State)
    → directive_of (record { sort = Ordinary k; bytes = x; line = line }) ≡ None
    → resumed rules (Skipped n p os) first (record { sort = Ordinary k; bytes = x; line = line } ∷ more) s
    ≡ goes_on (leaves (gives (line_ends_of x)) s) (λ after. resumed rules (Skipped n p os) (only_blanks first x) more after)
skipped_one rules n p os first k x line more s e =
    skipped_token rules n p os first (record { sort = Ordinary k; bytes = x; line = line }) more s (gives (line_ends_of x)) e
    (ordinary_skips s k x line)

-- a skipped token may be read in two parts
pub skipped_by_parts : (rules : Rules) (n : ℕ) (p : Progress) (os : List Progress) (first : Bool) (k : Kind) (x y : List ℕ) (line : ℕ) (more : List SourceToken) (s : State)
    → directive_of (record { sort = Ordinary k; bytes = x ++ y; line = line }) ≡ None
    → directive_of (record { sort = Ordinary k; bytes = y; line = line }) ≡ None
    → resumed rules (Skipped n p os) first (record { sort = Ordinary k; bytes = x ++ y; line = line } ∷ more) s
    ≡ goes_on (leaves (gives (line_ends_of x)) s)
    (λ after. resumed rules (Skipped n p os) (only_blanks first x) (record { sort = Ordinary k; bytes = y; line = line } ∷ more) after)
skipped_by_parts rules n p os first k x y line more s e f =
    let flag = only_blanks first x in
    let next : State → Passage = λ after. resumed rules (Skipped n p os) (only_blanks flag y) more after in
    skipped_one rules n p os first k (x ++ y) line more s e
    ∙ ap (λ (z : List ℕ). goes_on (leaves (gives z) s) (λ after. resumed rules (Skipped n p os) (only_blanks first (x ++ y)) more after))
    (line_ends_of-append x y)
    ∙ ap (λ (g : Bool). goes_on (leaves (gives (line_ends_of x ++ line_ends_of y)) s) (λ after. resumed rules (Skipped n p os) g more after))
    (only_blanks-append first x y)
    ∙ ap (λ (o : Outcome). goes_on (leaves o s) next) (sym (and_then-gives (line_ends_of x) (line_ends_of y)))
    ∙ leaves-and_then (gives (line_ends_of x)) (gives (line_ends_of y)) s next
    ∙ on_leaves (gives (line_ends_of x)) s (λ after. goes_on (leaves (gives (line_ends_of y)) after) next)
    (λ after. resumed rules (Skipped n p os) flag (record { sort = Ordinary k; bytes = y; line = line } ∷ more) after)
    (sym (skipped_one rules n p os flag k y line more s f))

-- whether a token is ordinary and begins no directive
unfoldable pub is_text : SourceToken → Bool
is_text t = elim t.sort [
  | Ordinary k ↦ elim (directive_of t) [ None ↦ true | Some d ↦ false ]
  | _ ↦ false
]

-- no directive begins there, by what does
no_directive_by : (d : Option Directive) → (elim d [ None ↦ true | Some x ↦ false ]) ≡ true → d ≡ None
no_directive_by None e = refl
no_directive_by (Some x) e = cc

-- such a token is skipped to its LF bytes, by its sort
text_skipped_by : (rules : Rules) (n : ℕ) (p : Progress) (os : List Progress) (first : Bool) (sort : Sort) (bytes : List ℕ) (line : ℕ) (ts : List SourceToken) (s : State)
    → is_text (record { sort = sort; bytes = bytes; line = line }) ≡ true
    → resumed rules (Skipped n p os) first (record { sort = sort; bytes = bytes; line = line } ∷ ts) s
    ≡ after_bytes (line_ends_of bytes) (resumed rules (Skipped n p os) (only_blanks first bytes) ts s)
unfolding is_text
text_skipped_by rules n p os first (Ordinary k) bytes line ts s e =
    let t : SourceToken = record { sort = Ordinary k; bytes = bytes; line = line } in
    skipped_token rules n p os first t ts s (gives (line_ends_of bytes)) (no_directive_by (directive_of t) e) (ordinary_skips s k bytes line)
    ∙ goes_on-gives (line_ends_of bytes) s (λ after. resumed rules (Skipped n p os) (only_blanks first bytes) ts after)
text_skipped_by rules n p os first _ bytes line ts s e = cc

-- such a token is skipped to its LF bytes
pub skipped_text_token : (rules : Rules) (n : ℕ) (p : Progress) (os : List Progress) (first : Bool) (t : SourceToken) (ts : List SourceToken) (s : State)
    → is_text t ≡ true
    → resumed rules (Skipped n p os) first (t ∷ ts) s
    ≡ after_bytes (line_ends_of t.bytes) (resumed rules (Skipped n p os) (only_blanks first t.bytes) ts s)
skipped_text_token rules n p os first t ts s e = text_skipped_by rules n p os first t.sort t.bytes t.line ts s e

-- where one token is skipped and then others are, all are
unfoldable pub IsPassed : Rules → ℕ → Progress → List Progress → List SourceToken → List SourceToken → State → Type 0
IsPassed rules n p os ts more s = (first : Bool) → resumed rules (Skipped n p os) first (ts ++ more) s
    ≡ after_bytes (line_ends_of (bytes_of ts)) (resumed rules (Skipped n p os) (only_blanks first (bytes_of ts)) more s)

-- by one token
pub passed_one : (rules : Rules) (n : ℕ) (p : Progress) (os : List Progress) (t : SourceToken) (ts more : List SourceToken) (s : State)
    → ((first : Bool) → resumed rules (Skipped n p os) first (t ∷ (ts ++ more)) s
    ≡ after_bytes (line_ends_of t.bytes) (resumed rules (Skipped n p os) (only_blanks first t.bytes) (ts ++ more) s))
    → IsPassed rules n p os ts more s → IsPassed rules n p os (t ∷ ts) more s
unfolding IsPassed
passed_one rules n p os t ts more s one rest first = grind (arith, after_bytes-twice, line_ends_of-append, only_blanks-append)

-- no tokens are passed
pub passed_none : (rules : Rules) (n : ℕ) (p : Progress) (os : List Progress) (more : List SourceToken) (s : State) → IsPassed rules n p os [] more s
unfolding IsPassed only_blanks line_ends_of
passed_none rules n p os more s first = sym (after_bytes-nil (resumed rules (Skipped n p os) first more s))

-- tokens of text are passed
text_passed : (rules : Rules) (n : ℕ) (p : Progress) (os : List Progress) (ts more : List SourceToken) (s : State)
    → list_all is_text ts ≡ true → IsPassed rules n p os ts more s
text_passed rules n p os [] more s e = passed_none rules n p os more s
text_passed rules n p os (t ∷ ts) more s e =
    passed_one rules n p os t ts more s
    (λ first. skipped_text_token rules n p os first t (ts ++ more) s (and_parts (is_text t) (list_all is_text ts) e).0)
    (text_passed rules n p os ts more s (and_parts (is_text t) (list_all is_text ts) e).1)

-- the tokens that a directive takes are text
pub argument_text : (d : Directive) (ts : List SourceToken) → list_all is_text (take (argument_of d ts).used ts) ≡ true
unfolding no_argument one_argument is_text directive_of
argument_text d ts =
    argument_by (λ us a. list_all is_text (take a.used us) ≡ true) (λ us. refl) (λ bytes line us. refl) (λ bytes line us. refl)
    (λ bytes line us given text used e. e) d ts

-- what a directive would take is skipped as text is
argument_passed : (rules : Rules) (n : ℕ) (p : Progress) (os : List Progress) (d : Directive) (ts : List SourceToken) (s : State) (flag : Bool)
    → resumed rules (Skipped n p os) flag ts s
    ≡ after_bytes (line_ends_of (argument_of d ts).text)
    (resumed rules (Skipped n p os) (only_blanks flag (argument_of d ts).text) (after_directive d ts) s)
unfolding IsPassed
argument_passed rules n p os d ts s flag =
    let k = (argument_of d ts).used in
    ap (λ (us : List SourceToken). resumed rules (Skipped n p os) flag us s) (sym (take-append-drop k ts))
    ∙ text_passed rules n p os (take k ts) (drop k ts) s (argument_text d ts) flag
    ∙ ap (λ (x : List ℕ). after_bytes (line_ends_of x) (resumed rules (Skipped n p os) (only_blanks flag x) (drop k ts) s))
    (argument_takes d ts)

-- a directive that is skipped gives the LF bytes of its own token, and then comes what remains after that
pub skips_token : (rules : Rules) (n : ℕ) (p : Progress) (os : List Progress) (d : Directive) (first : Bool) (t : SourceToken) (ts : List SourceToken) (s : State)
    → skips rules (Skipped n p os) d first t ts s
    ≡ after_bytes (line_ends_of t.bytes) (resumed rules (Skipped n p os) (only_blanks first t.bytes) ts s)
unfolding skipped_command command_of
skips_token rules n p os d first t ts s =
    let x = t.bytes in
    let y = (argument_of d ts).text in
    let us = after_directive d ts in
    goes_on-gives (line_ends_of (x ++ y)) s (λ after. following rules (Skipped n p os) d first t ts after)
    ∙ ap (λ (z : List ℕ). after_bytes z (resumed rules (Skipped n p os) (only_blanks first (x ++ y)) us s)) (line_ends_of-append x y)
    ∙ ap (λ (f : Bool). after_bytes (line_ends_of x ++ line_ends_of y) (resumed rules (Skipped n p os) f us s)) (only_blanks-append first x y)
    ∙ sym (after_bytes-twice (line_ends_of x) (line_ends_of y) (resumed rules (Skipped n p os) (only_blanks (only_blanks first x) y) us s))
    ∙ ap (λ (q : Passage). after_bytes (line_ends_of x) q) (sym (argument_passed rules n p os d ts s (only_blanks first x)))

-- a directive in skipped text that is a piece which is skipped, and leaves so many conditionals open inside
skipped_piece : (rules : Rules) (n m : ℕ) (p : Progress) (os : List Progress) (d : Directive) (first : Bool) (t : SourceToken) (ts : List SourceToken) (s : State) (x : Piece)
    → directive_of t ≡ Some d → piece_of (command_in_front d first t ts) ≡ x
    → ((ps : List Piece) → resume rules (included_meaning_of rules s.sources_left) (Skipped n p os) (x ∷ ps) s
    ≡ goes_on (leaves (skipped_command (command_in_front d first t ts)) s) (λ after. resume rules (included_meaning_of rules s.sources_left) (Skipped m p os) ps after))
    → resumed rules (Skipped n p os) first (t ∷ ts) s
    ≡ after_bytes (line_ends_of t.bytes) (resumed rules (Skipped m p os) (only_blanks first t.bytes) ts s)
unfolding resumed
skipped_piece rules n m p os d first t ts s x e is skips_it =
    let c = command_in_front d first t ts in
    let rest = pieces (only_blanks first c.text) 0 (after_directive d ts) in
    directive_piece rules (Skipped n p os) d first t ts s x e is
    ∙ skips_it rest
    ∙ on_leaves (skipped_command c) s (λ after. resume rules (included_meaning_of rules s.sources_left) (Skipped m p os) rest after)
    (λ after. following rules (Skipped m p os) d first t ts after) refl
    ∙ skips_token rules m p os d first t ts s

-- whether a directive stands by itself: it belongs to no conditional
unfoldable pub stands_by_itself : Directive → Bool
stands_by_itself Define = true
stands_by_itself Undef = true
stands_by_itself Include = true
stands_by_itself Line = true
stands_by_itself d = false

-- whether a token of skipped text gives its LF bytes and changes nothing: it is neither broken nor the word of a conditional
unfoldable pub is_skipped : SourceToken → Bool
is_skipped t = elim t.sort [
  | Ordinary k ↦ elim (directive_of t) [ None ↦ true | Some d ↦ stands_by_itself d ]
  | Broken b ↦ false
  | _ ↦ true
]

-- a directive that stands by itself, in skipped text
pub skipped_directive : (rules : Rules) (n : ℕ) (p : Progress) (os : List Progress) (d : Directive) (first : Bool) (t : SourceToken) (ts : List SourceToken) (s : State)
    → directive_of t ≡ Some d → stands_by_itself d ≡ true
    → resumed rules (Skipped n p os) first (t ∷ ts) s
    ≡ after_bytes (line_ends_of t.bytes) (resumed rules (Skipped n p os) (only_blanks first t.bytes) ts s)
unfolding stands_by_itself piece_of command_of resume
skipped_directive rules n p os Define first t ts s e h = skipped_piece rules n n p os Define first t ts s _ e refl (λ ps. refl)
skipped_directive rules n p os Undef first t ts s e h = skipped_piece rules n n p os Undef first t ts s _ e refl (λ ps. refl)
skipped_directive rules n p os Include first t ts s e h = skipped_piece rules n n p os Include first t ts s _ e refl (λ ps. refl)
skipped_directive rules n p os Line first t ts s e h = skipped_piece rules n n p os Line first t ts s _ e refl (λ ps. refl)
skipped_directive rules n p os d first t ts s e h = cc

-- an ordinary token that is skipped, by the directive that it begins
ordinary_by : (rules : Rules) (n : ℕ) (p : Progress) (os : List Progress) (first : Bool) (k : Kind) (bytes : List ℕ) (line : ℕ) (ts : List SourceToken) (s : State) (d : Option Directive)
    → directive_of (record { sort = Ordinary k; bytes = bytes; line = line }) ≡ d
    → (elim d [ None ↦ true | Some x ↦ stands_by_itself x ]) ≡ true
    → resumed rules (Skipped n p os) first (record { sort = Ordinary k; bytes = bytes; line = line } ∷ ts) s
    ≡ after_bytes (line_ends_of bytes) (resumed rules (Skipped n p os) (only_blanks first bytes) ts s)
unfolding is_text
ordinary_by rules n p os first k bytes line ts s None e h = grind (arith, skipped_text_token)
ordinary_by rules n p os first k bytes line ts s (Some d) e h =
    skipped_directive rules n p os d first (record { sort = Ordinary k; bytes = bytes; line = line }) ts s e h

-- a token that is skipped, by its sort
one_skipped_by : (rules : Rules) (n : ℕ) (p : Progress) (os : List Progress) (first : Bool) (sort : Sort) (bytes : List ℕ) (line : ℕ) (ts : List SourceToken) (s : State)
    → is_skipped (record { sort = sort; bytes = bytes; line = line }) ≡ true
    → resumed rules (Skipped n p os) first (record { sort = sort; bytes = bytes; line = line } ∷ ts) s
    ≡ after_bytes (line_ends_of bytes) (resumed rules (Skipped n p os) (only_blanks first bytes) ts s)
unfolding is_skipped stands_by_itself directive_of
one_skipped_by rules n p os first (Ordinary k) bytes line ts s e = grind (arith, ordinary_by)
one_skipped_by rules n p os first Definition bytes line ts s e =
    skipped_directive rules n p os Define first (record { sort = Definition; bytes = bytes; line = line }) ts s refl refl
one_skipped_by rules n p os first Renumbering bytes line ts s e =
    skipped_directive rules n p os Line first (record { sort = Renumbering; bytes = bytes; line = line }) ts s refl refl
one_skipped_by rules n p os first (Broken b) bytes line ts s e = cc

-- a token that is skipped gives its LF bytes, and then comes what remains after it
pub resumed_skipped_one : (rules : Rules) (n : ℕ) (p : Progress) (os : List Progress) (first : Bool) (t : SourceToken) (ts : List SourceToken) (s : State)
    → is_skipped t ≡ true
    → resumed rules (Skipped n p os) first (t ∷ ts) s
    ≡ after_bytes (line_ends_of t.bytes) (resumed rules (Skipped n p os) (only_blanks first t.bytes) ts s)
resumed_skipped_one rules n p os first t ts s e = one_skipped_by rules n p os first t.sort t.bytes t.line ts s e

-- a stretch is passed
stretch_passed : (rules : Rules) (n : ℕ) (p : Progress) (os : List Progress) (ts more : List SourceToken) (s : State)
    → list_all is_skipped ts ≡ true → IsPassed rules n p os ts more s
stretch_passed rules n p os [] more s e = passed_none rules n p os more s
stretch_passed rules n p os (t ∷ ts) more s e =
    passed_one rules n p os t ts more s
    (λ first. resumed_skipped_one rules n p os first t (ts ++ more) s (and_parts (is_skipped t) (list_all is_skipped ts) e).0)
    (stretch_passed rules n p os ts more s (and_parts (is_skipped t) (list_all is_skipped ts) e).1)

-- a stretch of skipped text gives its LF bytes, and then comes what remains after it, in as many open conditionals
pub resumed_skipped : (rules : Rules) (n : ℕ) (p : Progress) (os : List Progress) (first : Bool) (ts more : List SourceToken) (s : State)
    → list_all is_skipped ts ≡ true
    → resumed rules (Skipped n p os) first (ts ++ more) s
    ≡ after_bytes (line_ends_of (bytes_of ts)) (resumed rules (Skipped n p os) (only_blanks first (bytes_of ts)) more s)
unfolding IsPassed
resumed_skipped rules n p os first ts more s e = stretch_passed rules n p os ts more s e first

-- a broken token gives its LF bytes, and then ends its source
pub resumed_skipped_broken : (rules : Rules) (n : ℕ) (p : Progress) (os : List Progress) (first : Bool) (b : Breach) (bytes : List ℕ) (line : ℕ) (more : List SourceToken) (s : State)
    → resumed rules (Skipped n p os) first (record { sort = Broken b; bytes = bytes; line = line } ∷ more) s
    ≡ after_bytes (line_ends_of bytes) (leaves (fails (fault_at (breach_kind b) line [] s)) s)
unfolding directive_of
resumed_skipped_broken rules n p os first b bytes line more s =
    let f = fault_at (breach_kind b) line [] s in
    skipped_token rules n p os first (record { sort = Broken b; bytes = bytes; line = line }) more s
    (and_then (gives (line_ends_of bytes)) (fails f)) refl (broken_skips s b bytes line)
    ∙ gives_fails-goes_on (line_ends_of bytes) f s (λ after. resumed rules (Skipped n p os) (only_blanks first bytes) more after)

-- a broken token may be read in two parts
pub resumed_skipped_broken_parts : (rules : Rules) (n : ℕ) (p : Progress) (os : List Progress) (first : Bool) (b : Breach) (x y : List ℕ) (line : ℕ) (more : List SourceToken) (s : State)
    → resumed rules (Skipped n p os) first (record { sort = Broken b; bytes = x ++ y; line = line } ∷ more) s
    ≡ after_bytes (line_ends_of x) (resumed rules (Skipped n p os) (only_blanks first x) (record { sort = Broken b; bytes = y; line = line } ∷ more) s)
resumed_skipped_broken_parts rules n p os first b x y line more s = grind (arith, resumed_skipped_broken, line_ends_of-append, after_bytes-twice)

-- an ordinary token may be read in two parts
pub resumed_skipped_parts : (rules : Rules) (n : ℕ) (p : Progress) (os : List Progress) (first : Bool) (k : Kind) (x y : List ℕ) (line : ℕ) (more : List SourceToken) (s : State)
    → directive_of (record { sort = Ordinary k; bytes = x ++ y; line = line }) ≡ None
    → directive_of (record { sort = Ordinary k; bytes = y; line = line }) ≡ None
    → resumed rules (Skipped n p os) first (record { sort = Ordinary k; bytes = x ++ y; line = line } ∷ more) s
    ≡ after_bytes (line_ends_of x) (resumed rules (Skipped n p os) (only_blanks first x) (record { sort = Ordinary k; bytes = y; line = line } ∷ more) s)
resumed_skipped_parts rules n p os first k x y line more s e f = grind (arith, skipped_by_parts, goes_on-gives)

-- a token that would be copied is skipped, by its sort
copied_skipped_by : (sort : Sort) (bytes : List ℕ) (line : ℕ) → is_copied (record { sort = sort; bytes = bytes; line = line }) ≡ true
    → is_skipped (record { sort = sort; bytes = bytes; line = line }) ≡ true
unfolding is_copied is_skipped directive_of
copied_skipped_by (Ordinary Back) bytes line e = cc
copied_skipped_by (Ordinary k) bytes line e = refl
copied_skipped_by Definition bytes line e = cc
copied_skipped_by Renumbering bytes line e = cc
copied_skipped_by (Broken b) bytes line e = e

-- a token that would be copied in live text is skipped
pub copied_skipped : (t : SourceToken) → is_copied t ≡ true → is_skipped t ≡ true
copied_skipped t e = copied_skipped_by t.sort t.bytes t.line e

-- and so are tokens
pub all_copied_skipped : (ts : List SourceToken) → list_all is_copied ts ≡ true → list_all is_skipped ts ≡ true
all_copied_skipped [] e = refl
all_copied_skipped (t ∷ ts) e =
    and_from (is_skipped t) (list_all is_skipped ts)
    (copied_skipped t (and_parts (is_copied t) (list_all is_copied ts) e).0)
    (all_copied_skipped ts (and_parts (is_copied t) (list_all is_copied ts) e).1)

-- a usage is skipped, defined or not
pub usage_skipped : (name : List ℕ) (line : ℕ) → is_reserved name ≡ false → is_skipped (usage_token name line) ≡ true
unfolding is_skipped
usage_skipped name line e =
    ap (λ (d : Option Directive). elim d [ None ↦ true | Some x ↦ stands_by_itself x ]) (usage_text name line e)

-- a lone backquote is skipped
pub bare_skipped : (bytes : List ℕ) (line : ℕ) → is_skipped (record { sort = Ordinary BareBackquote; bytes = bytes; line = line }) ≡ true
unfolding is_skipped directive_of
bare_skipped bytes line = refl
