-- A directive that wants a name in front of what remains: its token, its name, what it does to what remains; and so an `undef`.
use Rattle.std.proofs.Common.{◌≡◌, ◌⊎◌, ℕ, ◌+◌, ◌-◌, ◌≤◌, ◌<◌, Bool, true, false, List, [], ◌∷◌, ◌++◌, Option, None, Some, length, take, drop, refl, sym, ap, ◌∙◌, subst, inl, inr, ⊎_elim, arith, bytes_eq, codes, take-add, append-nil, drop-drop, take-append-drop}
use Rattle.rdlpp_scan.specs.Bytes.{is_line_end}
use Rattle.rdlpp_scan.specs.Lines.{EndsLine}
use Rattle.rdlpp_scan.specs.Ordinary.{is_plain_kind}
use Rattle.rdlpp_scan.specs.Reserved.{directive_word}
use Rattle.rdlpp_scan.specs.SourceTokens.{Sort, SourceToken, Ordinary, Definition, Renumbering, Broken, line_ends, remaining_tokens}
use Rattle.rdlpp_scan.specs.Tokens.{token_of}
use Rattle.rdlpp_scan.specs.TokenKinds.{is_ordinary}
use Rattle.rdlpp_scan.specs.declared.token.Kind.{Kind}
use Rattle.rdlpp_scan.specs.declared.token.Kind.TheVariants.{Name, Blank, Back}
use Rattle.rdlpp_scan.specs.declared.token.Directive.{Directive}
use Rattle.rdlpp_scan.specs.declared.token.Directive.TheVariants.{Define, Undef, Ifdef, Ifndef, Elsif, Else, Endif, Line}
use Rattle.rdlpp_scan.specs.declared.token.Mode.TheVariants.{Plain}
use Rattle.rdlpp_scan.proofs.RemainingLaws.{FirstToken, blanks-line_ends, name-line_ends, plain_token-run, remaining-closed, remaining-end, remaining-first, whole-line_ends}
use Rattle.rdlpp_scan.proofs.SourceLaws.{EndsLine-drop, line_ends-append}
use Rattle.rdlpp_scan.proofs.TokenLens.{token_of-part}
use Rattle.rdlpp_scan.proofs.TokenSteps.{is_kept_kind}
use Rattle.rdlpp_meaning.specs.State.{Rules, State}
use Rattle.rdlpp_meaning.specs.Parts.{Argument, Command, argument_of, after_blanks, after_directive, command_of, tokenless_worded, directive_of, name_in_front, no_argument, only_blanks, past_blanks}
use Rattle.rdlpp_meaning.specs.Resumed.{Place}
use Rattle.rdlpp_meaning.specs.Opened.{Waiting, all_resumed}
use Rattle.rdlpp_meaning.specs.Moves.{move_of, nest_moves}
use Rattle.rdlpp_meaning.specs.Meaning.{Passage}
use Rattle.rdlpp_meaning.proofs.Skipping.{has_own_token}
use Rattle.rdlpp_meaning.proofs.Moves.{directive_moves}
use Rattle.rdlpp_meaning.proofs.Directives.{blank_token, name_token, takes_name, takes_name_at_once, takes_name_after_blanks, wants_name}
use Rattle.rdlpp_read.specs.Buffer.{BufferView, held_of, rest_of, tokens_left}
use Rattle.rdlpp_read.specs.Files.{consumed_file}
use Rattle.rdlpp_read.specs.declared.files.File.{File}
use Rattle.rdlpp_read.proofs.BufferTokens.{ends_line}
use Rattle.rdlpp_front.specs.Arguments.{IsLead, Leads, Lacks}
use Rattle.rdlpp_front.specs.SourceItems.{HasArgument, IsDirective, IsNamed, LacksArgument, argument_name, given_by, given_len}
use Rattle.rdlpp_front.specs.SourceLeft.{HoldsFront, source_left}
use Rattle.rdlpp_front.specs.declared.arguments.Argument.{Argument as Given}
use Rattle.rdlpp_front.proofs.Insides.{name_inside, tokens_used, used_buffer, word_len}
use Rattle.rdlpp_front.proofs.TextLeft.{back_tokens, file_moves}

-- A directive that wants a name in front of what remains: its token, the name that it is given, and what remains after that.

-- the word of a directive as a token
abbrev pub word_token : Directive → ℕ → SourceToken
word_token d line = record { sort = Ordinary Back; bytes = directive_word d; line = line }

-- a directive of which the word is a token
record IsWordToken (d : Directive) : Type 0 where
  pub other : bytes_eq (directive_word d) (codes "`define") ≡ false
  pub also : bytes_eq (directive_word d) (codes "`line") ≡ false
  pub directive : (line : ℕ) → directive_of (word_token d line) ≡ Some d

-- all are but `define` and `line`
word_alone : (d : Directive) → has_own_token d ≡ false → IsWordToken d
unfolding has_own_token directive_of tokenless_worded
word_alone Define e = absurd (cc)
word_alone Line e = absurd (cc)
word_alone _ e = record { other = refl; also = refl; directive = λ line. refl }

-- the word of a directive begins it
pub word_directive : (d : Directive) (line : ℕ) → has_own_token d ≡ false → directive_of (word_token d line) ≡ Some d
word_directive d line e = (word_alone d e).directive line

-- a directive that wants a name is a word
pub wants_word : (d : Directive) → wants_name d ≡ true → has_own_token d ≡ false
unfolding wants_name has_own_token
wants_word Undef e = refl
wants_word Ifdef e = refl
wants_word Ifndef e = refl
wants_word Elsif e = refl
wants_word d e = cc

-- a word has no LF
pub word_line_ends : (d : Directive) → line_ends (directive_word d) ≡ 0
unfolding line_ends is_line_end
word_line_ends Define = refl
word_line_ends _ = refl

-- the tokens at a directive whose word is a token
pub word_tokens : {R : Type 0} (d : Directive) (unread : R → List ℕ) (b : BufferView R) → has_own_token d ≡ false
    → HoldsFront b → b.mode ≡ Plain → IsDirective d (held_of b) → tokens_left unread b ≡ word_token d b.line ∷ tokens_left unread (used_buffer b (length (directive_word d)) 0)
word_tokens d unread b word holds mode is = grind (arith, word_alone, back_tokens, word_len)

-- a token of such a kind isn't a name
no_name_by : (sort : Sort) (bytes : List ℕ) (line : ℕ) (ts : List SourceToken) → (k : Kind) → (sort ≡ Ordinary k) ⊎ (is_ordinary (record { sort = sort; bytes = bytes; line = line }) ≡ false) → (k ≡ Name → ⊥)
    → name_in_front (record { sort = sort; bytes = bytes; line = line } ∷ ts) ≡ no_argument
unfolding name_in_front is_ordinary
no_name_by (Ordinary Name) bytes line ts k (inl e) other = absurd (other (let same : Ordinary Name ≡ Ordinary k = e in cc))
no_name_by (Ordinary Name) bytes line ts k (inr e) other = cc
no_name_by (Ordinary n) bytes line ts k h other = refl
no_name_by Definition bytes line ts k h other = refl
no_name_by Renumbering bytes line ts k h other = refl
no_name_by (Broken b) bytes line ts k h other = refl

-- nor are blanks and a name
no_blank_by : (sort : Sort) (bytes : List ℕ) (line : ℕ) (ts : List SourceToken) → (k : Kind) → (sort ≡ Ordinary k) ⊎ (is_ordinary (record { sort = sort; bytes = bytes; line = line }) ≡ false) → (k ≡ Blank → ⊥)
    → past_blanks name_in_front (record { sort = sort; bytes = bytes; line = line } ∷ ts) ≡ name_in_front (record { sort = sort; bytes = bytes; line = line } ∷ ts)
unfolding past_blanks name_in_front is_ordinary
no_blank_by (Ordinary Blank) bytes line ts k (inl e) other = absurd (other (let same : Ordinary Blank ≡ Ordinary k = e in cc))
no_blank_by (Ordinary Blank) bytes line ts k (inr e) other = cc
no_blank_by (Ordinary n) bytes line ts k h other = refl
no_blank_by Definition bytes line ts k h other = refl
no_blank_by Renumbering bytes line ts k h other = refl
no_blank_by (Broken b) bytes line ts k h other = refl

no_name : (k : Kind) (us : List SourceToken) → FirstToken k us → (k ≡ Name → ⊥) → name_in_front us ≡ no_argument
no_name k us f other = ap name_in_front f.is ∙ no_name_by f.first.sort f.first.bytes f.first.line f.more k f.kind other

no_blank : (k : Kind) (us : List SourceToken) → FirstToken k us → (k ≡ Blank → ⊥) → past_blanks name_in_front us ≡ name_in_front us
no_blank k us f other = ap (past_blanks name_in_front) f.is ∙ no_blank_by f.first.sort f.first.bytes f.first.line f.more k f.kind other ∙ sym (ap name_in_front f.is)

-- what a directive is given, and what is after that
pub record IsGiven (d : Directive) (ts : List SourceToken) (name text : List ℕ) (following : List SourceToken) : Type 0 where
  pub given : (argument_of d ts).given ≡ Some name
  pub taken : (argument_of d ts).text ≡ text
  pub rest : after_directive d ts ≡ following

pub given_of : (d : Directive) (ts : List SourceToken) (name text : List ℕ) (following : List SourceToken) (used : ℕ)
    → argument_of d ts ≡ record { given = Some name; text = text; used = used } → drop used ts ≡ following → IsGiven d ts name text following
given_of d ts name text following used e h = grind arith

module _ (most l room : ℕ) (rest : List ℕ) where
  -- the tokens of what is held and after it, on the line of the directive
  abbrev tokens_of : List ℕ → List SourceToken
  tokens_of z = remaining_tokens most Plain l l z room rest

  -- blanks or a name in front
  lead_tokens : (z : List ℕ) (k : Kind) (n : ℕ) → EndsLine z rest → 0 < length z → (token_of Plain z).kind ≡ k → n ≡ (token_of Plain z).len
      → is_plain_kind k ≡ true → is_kept_kind k ≡ true → (token_of Plain z).next_mode ≡ Plain → line_ends (take (token_of Plain z).len z) ≡ 0
      → tokens_of z ≡ record { sort = Ordinary k; bytes = take n z; line = l } ∷ tokens_of (drop n z)
  lead_tokens z k n ends some is len plain kept closed none = grind (arith, remaining-closed)

  pub blank_lead : (z : List ℕ) (n : ℕ) → EndsLine z rest → 0 < length z → (token_of Plain z).kind ≡ Blank → n ≡ (token_of Plain z).len
      → tokens_of z ≡ blank_token (take n z) l ∷ tokens_of (drop n z)
  unfolding is_plain_kind is_kept_kind
  blank_lead z n ends some is len = lead_tokens z Blank n ends some is len refl refl ((plain_token-run z).blanks is).1 (blanks-line_ends z is)

  name_lead : (z : List ℕ) (n : ℕ) → EndsLine z rest → 0 < length z → (token_of Plain z).kind ≡ Name → n ≡ (token_of Plain z).len
      → tokens_of z ≡ name_token (take n z) l ∷ tokens_of (drop n z)
  unfolding is_plain_kind is_kept_kind
  name_lead z n ends some is len = lead_tokens z Name n ends some is len refl refl ((plain_token-run z).name is).1 (name-line_ends z is)

  -- where nothing is held
  pub nothing_tokens : rest ≡ [] → tokens_of [] ≡ []
  nothing_tokens none = ap (λ (r : List ℕ). remaining_tokens most Plain l l [] room r) none ∙ remaining-end most l l room

  -- no name in front
  lacks_name : (z : List ℕ) → EndsLine z rest → (z ≡ [] → rest ≡ []) → (0 < length z → (token_of Plain z).kind ≡ Name → ⊥) → name_in_front (tokens_of z) ≡ no_argument
  unfolding name_in_front
  lacks_name [] ends none other = ap name_in_front (nothing_tokens (none refl))
  lacks_name (b ∷ w) ends none other =
      no_name (token_of Plain (b ∷ w)).kind (tokens_of (b ∷ w)) (remaining-first most l l (b ∷ w) room rest (omega arith) ends) (other (omega arith))

  -- no blanks in front
  lacks_blank : (z : List ℕ) → EndsLine z rest → (z ≡ [] → rest ≡ []) → (0 < length z → (token_of Plain z).kind ≡ Blank → ⊥) → past_blanks name_in_front (tokens_of z) ≡ name_in_front (tokens_of z)
  unfolding name_in_front past_blanks
  lacks_blank [] ends none other = let e = nothing_tokens (none refl) in ap (past_blanks name_in_front) e ∙ sym (ap name_in_front e)
  lacks_blank (b ∷ w) ends none other =
      no_blank (token_of Plain (b ∷ w)).kind (tokens_of (b ∷ w)) (remaining-first most l l (b ∷ w) room rest (omega arith) ends) (other (omega arith))

  -- after the word: blanks, and then a name
  after_given : (d : Directive) → wants_name d ≡ true → (r : List ℕ) (bl n : ℕ) → EndsLine r rest → (r ≡ [] → rest ≡ []) → IsLead Blank r bl
      → 0 < length (drop bl r) → (token_of Plain (drop bl r)).kind ≡ Name → n ≡ (token_of Plain (drop bl r)).len
      → IsGiven d (tokens_of r) (take n (drop bl r)) (take bl r ++ take n (drop bl r)) (tokens_of (drop n (drop bl r)))
  after_given d wants r bl n ends none (Leads some is len) has name whole =
      let z = drop bl r in
      let e : tokens_of r ≡ blank_token (take bl r) l ∷ name_token (take n z) l ∷ tokens_of (drop n z) =
      blank_lead r bl ends some is len ∙ ap (λ (ts : List SourceToken). blank_token (take bl r) l ∷ ts) (name_lead z n (EndsLine-drop bl r rest ends) has name whole) in
      subst (λ (ts : List SourceToken). IsGiven d ts (take n z) (take bl r ++ take n z) (tokens_of (drop n z))) (sym e)
      (given_of d _ (take n z) (take bl r ++ take n z) (tokens_of (drop n z)) 2 (takes_name_after_blanks d (take bl r) (take n z) l l (tokens_of (drop n z)) wants) refl)
  after_given d wants r bl n ends none (Lacks other zero_is) has name whole =
      let P : ℕ → Type 0 = λ m. 0 < length (drop m r) → (token_of Plain (drop m r)).kind ≡ Name → n ≡ (token_of Plain (drop m r)).len → IsGiven d (tokens_of r) (take n (drop m r)) (take m r ++ take n (drop m r)) (tokens_of (drop n (drop m r))) in
      let at_zero : P 0 = λ some is len.
      subst (λ (ts : List SourceToken). IsGiven d ts (take n r) (take n r) (tokens_of (drop n r))) (sym (name_lead r n ends some is len))
      (given_of d _ (take n r) (take n r) (tokens_of (drop n r)) 1 (takes_name_at_once d (take n r) l (tokens_of (drop n r)) wants) refl) in
      subst P (sym zero_is) at_zero has name whole

  -- or no name
  after_missing : (d : Directive) → wants_name d ≡ true → (r : List ℕ) (bl : ℕ) → EndsLine r rest → (r ≡ [] → rest ≡ []) → (drop bl r ≡ [] → rest ≡ []) → IsLead Blank r bl
      → (0 < length (drop bl r) → (token_of Plain (drop bl r)).kind ≡ Name → ⊥) → argument_of d (tokens_of r) ≡ no_argument
  unfolding past_blanks after_blanks no_argument
  after_missing d wants r bl ends none gone (Leads some is len) other =
      let z = drop bl r in
      let blank = blank_token (take bl r) l in
      takes_name d (tokens_of r) wants
      ∙ ap (past_blanks name_in_front) (blank_lead r bl ends some is len)
      ∙ ap (after_blanks blank) (lacks_name z (EndsLine-drop bl r rest ends) gone other)
  after_missing d wants r bl ends none gone (Lacks lacks zero_is) other = grind (arith, takes_name, lacks_blank, lacks_name)

-- a name has a byte
pub lead_name : (bytes : List ℕ) (n : ℕ) → IsLead Name bytes n → 0 < n → (0 < length bytes) × ((token_of Plain bytes).kind ≡ Name) × (n ≡ (token_of Plain bytes).len)
lead_name bytes n (Leads some is len) h = (some, is, len)
lead_name bytes n (Lacks other zero_is) h = absurd (omega arith)

-- no name stands there
lead_none : (bytes : List ℕ) (n : ℕ) → IsLead Name bytes n → n ≡ 0 → 0 < length bytes → (token_of Plain bytes).kind ≡ Name → ⊥
lead_none bytes n (Leads some is len) h has name = omega (arith, (token_of-part Plain bytes some).not_empty)
lead_none bytes n (Lacks other zero_is) h has name = other has name

-- blanks have no LF
pub lead_line_ends : (bytes : List ℕ) (n : ℕ) → IsLead Blank bytes n → line_ends (take n bytes) ≡ 0
unfolding line_ends
lead_line_ends bytes n (Leads some is len) = ap (λ (m : ℕ). line_ends (take m bytes)) len ∙ blanks-line_ends bytes is
lead_line_ends bytes n (Lacks other zero_is) = ap (λ (m : ℕ). line_ends (take m bytes)) zero_is

-- where nothing is held after bytes without an LF, the text has ended
ended_after : (held rest : List ℕ) (m : ℕ) → 0 < length held → EndsLine held rest → line_ends (take m held) ≡ 0 → drop m held ≡ [] → rest ≡ []
ended_after held rest m some ends none gone =
    let all : take m held ≡ held = sym (append-nil (take m held)) ∙ ap (λ (z : List ℕ). take m held ++ z) (sym gone) ∙ take-append-drop m held in
    let free : line_ends held ≡ 0 = ap line_ends (sym all) ∙ none in
    ⊎_elim (λ whole. absurd (omega (arith, free, whole-line_ends held some whole))) (λ h. h) ends

-- what is held of a directive, after its word and after blanks
module _ (d : Directive) (held rest : List ℕ) (some : 0 < length held) (ends : EndsLine held rest) (is : IsDirective d held) where
  -- the first bytes are the word
  pub word_at : take (length (directive_word d)) held ≡ directive_word d
  word_at = ap (λ (n : ℕ). take n held) (sym (word_len d held some is)) ∙ is.word

  -- they have no LF
  pub word_at_line_ends : line_ends (take (length (directive_word d)) held) ≡ 0
  word_at_line_ends = ap line_ends word_at ∙ word_line_ends d

  -- where nothing is held after them
  pub gone_word : drop (length (directive_word d)) held ≡ [] → rest ≡ []
  gone_word gone = ended_after held rest (length (directive_word d)) some ends word_at_line_ends gone

  -- nor after blanks there
  pub gone_blanks : (bl : ℕ) → IsLead Blank (drop (length (directive_word d)) held) bl → drop bl (drop (length (directive_word d)) held) ≡ [] → rest ≡ []
  gone_blanks bl space gone =
      let n = length (directive_word d) in
      let none : line_ends (take (n + bl) held) ≡ 0 =
      omega (arith, ap line_ends (take-add n bl held), line_ends-append (take n held) (take bl (drop n held)), word_at_line_ends, lead_line_ends (drop n held) bl space) in
      ended_after held rest (n + bl) some ends none (sym (drop-drop bl n held) ∙ gone)

-- a directive that takes nothing but its word
unfoldable pub stands_bare : Directive → Bool
stands_bare Else = true
stands_bare Endif = true
stands_bare d = false

-- such a directive takes nothing
bare_takes : (d : Directive) (ts : List SourceToken) → stands_bare d ≡ true → argument_of d ts ≡ no_argument
unfolding stands_bare argument_of
bare_takes Else ts e = refl
bare_takes Endif ts e = refl
bare_takes d ts e = cc

-- and is a token
bare_word : (d : Directive) → stands_bare d ≡ true → has_own_token d ≡ false
unfolding stands_bare has_own_token
bare_word Else e = refl
bare_word Endif e = refl
bare_word d e = cc

-- the held bytes begin with a directive: what it is given, and how many bytes it has with that
pub data Begins (d : Directive) (held : List ℕ) : Option (List ℕ) → ℕ → Type 0 where
  Named : (start stop : ℕ) → wants_name d ≡ true → HasArgument (IsLead Name) d held start stop → Begins d held (Some (argument_name held start stop)) stop
  Nameless : wants_name d ≡ true → LacksArgument (IsLead Name) d held → Begins d held None (length (directive_word d))
  Bare : stands_bare d ≡ true → IsDirective d held → Begins d held None (length (directive_word d))

-- where it wants a name
pub named_begins : (d : Directive) (held : List ℕ) (a : Option Given) → wants_name d ≡ true → IsNamed d held a → Begins d held (given_by held a) (given_len d a)
named_begins d held None wants lacks = Nameless wants lacks
named_begins d held (Some a) wants has = Named a.start a.stop wants has

-- its word
pub begins_word : (d : Directive) (held : List ℕ) (given : Option (List ℕ)) (len : ℕ) → Begins d held given len → IsDirective d held
begins_word d held _ _ (Named start stop wants has) = has.word
begins_word d held _ _ (Nameless wants lacks) = lacks.word
begins_word d held _ _ (Bare bare is) = is

-- the word of a directive lies in what is held
pub word_within : (d : Directive) (held : List ℕ) → IsDirective d held → 0 < length held → (0 < length (directive_word d)) × (length (directive_word d) ≤ length held)
word_within d held is some = grind (arith, word_len, token_of-part)

-- and so does what it is given
pub begins_within : (d : Directive) (held : List ℕ) (given : Option (List ℕ)) (len : ℕ) → Begins d held given len → 0 < length held → (0 < len) × (len ≤ length held)
begins_within d held _ _ (Named start stop wants has) some = let within = name_inside d held start stop has in (omega (arith, within.0, within.1), within.2)
begins_within d held _ _ (Nameless wants lacks) some = word_within d held lacks.word some
begins_within d held _ _ (Bare bare is) some = word_within d held is some

-- a directive with what it is given in front: the tokens after its word, what it takes of them, and what remains after that
pub record GivenInFront {R : Type 0} (d : Directive) (unread : R → List ℕ) (b : BufferView R) (name : Option (List ℕ)) (len : ℕ) : Type 0 where
  pub tokens : List SourceToken
  pub all : tokens_left unread b ≡ word_token d b.line ∷ tokens
  pub given : (argument_of d tokens).given ≡ name
  pub text : directive_word d ++ (argument_of d tokens).text ≡ take len (held_of b)
  pub following : after_directive d tokens ≡ tokens_left unread (used_buffer b len 0)

module _ {R : Type 0} (d : Directive) (unread : R → List ℕ) (b : BufferView R) (holds : HoldsFront b) (mode : b.mode ≡ Plain) where
  -- the tokens after a place, on the line of the directive
  abbrev tokens_at : ℕ → List SourceToken
  tokens_at n = remaining_tokens b.line_bytes Plain b.line b.line (drop n (held_of b)) b.bytes_left (rest_of unread b)

  -- they are those that remain where so many bytes are used
  at_used : (n : ℕ) → tokens_at n ≡ tokens_left unread (used_buffer b n 0)
  at_used n =
      let line : b.line ≡ b.line + 0 = omega arith in
      ap (λ (k : ℕ). remaining_tokens b.line_bytes Plain b.line k (drop n (held_of b)) b.bytes_left (rest_of unread b)) line
      ∙ tokens_used unread b n 0 b.line mode

  -- the word in front
  at_word : has_own_token d ≡ false → IsDirective d (held_of b) → tokens_left unread b ≡ word_token d b.line ∷ tokens_at (length (directive_word d))
  at_word word is = word_tokens d unread b word holds mode is ∙ ap (λ (ts : List SourceToken). word_token d b.line ∷ ts) (sym (at_used (length (directive_word d))))

  -- a directive with what it takes, from a place after its word up to another
  pub given_in_front_of : has_own_token d ≡ false → IsDirective d (held_of b) → (from to start stop : ℕ) → from < to → start ≡ length (directive_word d) + from → stop ≡ length (directive_word d) + to
      → (let z = drop from (drop (length (directive_word d)) (held_of b)) in
      IsGiven d (tokens_at (length (directive_word d))) (take (to - from) z) (take from (drop (length (directive_word d)) (held_of b)) ++ take (to - from) z)
      (remaining_tokens b.line_bytes Plain b.line b.line (drop (to - from) z) b.bytes_left (rest_of unread b)))
      → GivenInFront d unread b (Some (argument_name (held_of b) start stop)) stop
  given_in_front_of word is from to start stop some starts stops a =
      let held = held_of b in
      let rest = rest_of unread b in
      let n = length (directive_word d) in
      let r = drop n held in
      let k = to - from in
      let at : drop from r ≡ drop start held = drop-drop from n held ∙ ap (λ (i : ℕ). drop i held) (sym starts) in
      let size : k ≡ stop - start = omega arith in
      let more : from + k ≡ to = omega arith in
      let taken : take from r ++ take k (drop from r) ≡ take to r = sym (take-add from k r) ∙ ap (λ (i : ℕ). take i r) more in
      let whole : directive_word d ++ take to r ≡ take stop held =
      ap (λ (z : List ℕ). z ++ take to r) (sym (word_at d held rest holds.some (ends_line unread b holds.ends) is))
      ∙ sym (take-add n to held) ∙ ap (λ (i : ℕ). take i held) (sym stops) in
      let end : start + k ≡ stop = omega arith in
      record {
        tokens = tokens_at n;
        all = at_word word is;
        given = a.given ∙ ap Some (ap (take k) at ∙ ap (λ (i : ℕ). take i (drop start held)) size);
        text = ap (λ (z : List ℕ). directive_word d ++ z) (a.taken ∙ taken) ∙ whole;
        following =
            a.rest
            ∙ ap (λ (z : List ℕ). remaining_tokens b.line_bytes Plain b.line b.line z b.bytes_left rest)
            (ap (drop k) at ∙ drop-drop k start held ∙ ap (λ (i : ℕ). drop i held) end)
            ∙ at_used stop;
      }

  -- a directive that takes nothing but its word
  pub nothing_in_front_of : has_own_token d ≡ false → IsDirective d (held_of b) → argument_of d (tokens_at (length (directive_word d))) ≡ no_argument → GivenInFront d unread b None (length (directive_word d))
  unfolding no_argument
  nothing_in_front_of word is none =
      let ts = tokens_at (length (directive_word d)) in
      record {
        tokens = ts;
        all = at_word word is;
        given = ap (λ (a : Argument). a.given) none;
        text =
            ap (λ (a : Argument). directive_word d ++ a.text) none ∙ append-nil (directive_word d)
            ∙ sym (word_at d (held_of b) (rest_of unread b) holds.some (ends_line unread b holds.ends) is);
        following = ap (λ (a : Argument). drop a.used ts) none ∙ at_used (length (directive_word d));
      }

  -- a directive with what it is given
  pub in_front_of : (given : Option (List ℕ)) (len : ℕ) → Begins d (held_of b) given len → GivenInFront d unread b given len
  in_front_of _ _ (Named start stop wants has) =
      let held = held_of b in
      let rest = rest_of unread b in
      let r = drop (length (directive_word d)) held in
      let from = has.argument.from in
      let g = has.argument.given in
      let ends = ends_line unread b holds.ends in
      let lead = lead_name (drop from r) (has.argument.to - from) g.found (omega (arith, g.some)) in
      given_in_front_of (wants_word d wants) has.word from has.argument.to start stop g.some has.argument.starts has.argument.stops
      (after_given b.line_bytes b.line b.bytes_left rest d wants r from (has.argument.to - from) (EndsLine-drop (length (directive_word d)) held rest ends)
      (gone_word d held rest holds.some ends has.word) g.space lead.0 lead.1 lead.2)
  in_front_of _ _ (Nameless wants lacks) =
      let held = held_of b in
      let rest = rest_of unread b in
      let n = length (directive_word d) in
      let r = drop n held in
      let ends = ends_line unread b holds.ends in
      nothing_in_front_of (wants_word d wants) lacks.word
      (after_missing b.line_bytes b.line b.bytes_left rest d wants r lacks.none.start (EndsLine-drop n held rest ends)
      (gone_word d held rest holds.some ends lacks.word) (gone_blanks d held rest holds.some ends lacks.word lacks.none.start lacks.none.space)
      lacks.none.space (lead_none (drop lacks.none.start r) 0 lacks.none.none refl))
  in_front_of _ _ (Bare bare is) = nothing_in_front_of (bare_word d bare) is (bare_takes d (tokens_at (length (directive_word d))) bare)

-- an `undef` wants a name
pub undef_wants : wants_name Undef ≡ true
unfolding wants_name
undef_wants = refl

-- The directive at the front of what is held, as a command, and what remains at it.

-- one that begins what is held is a token
pub begins_token : (d : Directive) (held : List ℕ) (given : Option (List ℕ)) (len : ℕ) → Begins d held given len → has_own_token d ≡ false
begins_token d held _ _ (Named start stop wants has) = wants_word d wants
begins_token d held _ _ (Nameless wants lacks) = wants_word d wants
begins_token d held _ _ (Bare bare is) = bare_word d bare

-- the directive at the front of what is held, as a command
abbrev pub held_command : {R : Type 0} → Directive → Option (List ℕ) → ℕ → File R → Command
held_command d given len f = record { word = d; given = given; text = take len (held_of f.buffer); line = f.buffer.line; first = f.blanks }

-- what remains at it is what it comes to, and then what remains after it
pub held_moves : {R : Type 0} (rules : Rules) (unread : R → List ℕ) (ws : List Waiting) (f : File R) (s : State) (d : Directive) (given : Option (List ℕ)) (len : ℕ)
    → has_own_token d ≡ false → GivenInFront d unread f.buffer given len → (place : Place)
    → source_left rules unread ws place f s ≡ file_moves rules unread ws (move_of rules (held_command d given len f) place s) f.buffer.line s (consumed_file len 0 f)
unfolding source_left command_of
held_moves rules unread ws f s d given len word i place =
    let tok = word_token d f.buffer.line in
    let a = argument_of d i.tokens in
    let by : Option (List ℕ) → List ℕ → Command = λ name text. record { word = d; given = name; text = text; line = f.buffer.line; first = f.blanks } in
    let at : Command → List SourceToken → Passage = λ c ts. nest_moves rules ws (move_of rules c place s) f.buffer.line s (only_blanks f.blanks c.text) ts in
    ap (λ (ts : List SourceToken). all_resumed rules ws place f.blanks ts s) i.all
    ∙ directive_moves rules ws place d f.blanks tok i.tokens s (word_directive d f.buffer.line word)
    ∙ ap (λ (name : Option (List ℕ)). at (by name (directive_word d ++ a.text)) (after_directive d i.tokens)) i.given
    ∙ ap (λ (text : List ℕ). at (by given text) (after_directive d i.tokens)) i.text
    ∙ ap (at (by given (take len (held_of f.buffer)))) i.following
