-- What the bytes at the front of a text tell, and what remains of open sources for each kind of token there.
use Rattle.std.proofs.Common.{◌≡◌, ◌≢◌, ℕ, suc, ◌-◌, ◌<◌, Bool, true, false, cond, List, [], ◌∷◌, length, take, drop, slice_index, refl, sym, ap, ◌∙◌, arith, Option, Some, None, subst, ◌+◌, ◌≤◌, not, ◌++◌, append-nil, inl, inr, eqb-true, drop-drop, length-drop, length-take-le}
use Rattle.std.specs.List.{list_all, prefix_len}
use Rattle.std.proofs.lemmas.Bool.{and_parts, cond_both, false≢true}
use Rattle.std.proofs.lemmas.List.{take_rest}
use Rattle.rdlpp_scan.specs.Bytes.{begins_block_comment, begins_line_comment, begins_perl, is_blank, is_digit, is_letter, is_line_end, is_word, takes_word}
use Rattle.rdlpp_scan.specs.Front.{Breach}
use Rattle.rdlpp_scan.specs.Names.{IsWordBytes}
use Rattle.rdlpp_scan.specs.Reserved.{directive_named, directive_word, is_reserved}
use Rattle.rdlpp_scan.specs.Resumed.{opening}
use Rattle.rdlpp_scan.specs.SourceTokens.{Broken, Ordinary, SourceToken, line_ends, remaining_tokens}
use Rattle.rdlpp_scan.specs.Tokens.{first_place, plain_len, plain_token, stops_plain_text, token_of, whole}
use Rattle.rdlpp_scan.specs.declared.token.Directive.{Directive}
use Rattle.rdlpp_scan.specs.declared.token.Directive.TheVariants.{Define}
use Rattle.rdlpp_scan.specs.declared.token.Kind.{Kind}
use Rattle.rdlpp_scan.specs.declared.token.Kind.TheVariants.{Back, BareBackquote, Blank, LineComment, Name, Perl}
use Rattle.rdlpp_scan.specs.declared.token.Mode.{Mode}
use Rattle.rdlpp_scan.specs.declared.token.Mode.TheVariants.{InBlock, InStr, Plain}
use Rattle.rdlpp_scan.specs.declared.token.Token.{Token}
use Rattle.rdlpp_scan.proofs.RemainingLaws.{IsOpenKind, plain_token-run, remaining-opened}
use Rattle.rdlpp_scan.proofs.DirectiveNames.{named_is}
use Rattle.rdlpp_scan.proofs.TokenLens.{first_place-le, list_all-prefix, plain_len-found, token_of-part}
use Rattle.rdlpp_scan.proofs.SourceLaws.{line_ends-cons}
use Rattle.rdlpp_scan.proofs.StopKinds.{AtBack, AtBare, AtBlockComment, AtLineComment, AtPerl, AtPlain, AtString, Row, block_token-kind, string_token-kind, token_of-row}
use Rattle.rdlpp_define.specs.Table.{macro_named}
use Rattle.rdlpp_meaning.specs.Expansion.{bytes_of, is_copied, usage_token}
use Rattle.rdlpp_meaning.specs.Meaning.{Progress, after_bytes, goes_on, leaves}
use Rattle.rdlpp_meaning.specs.Opened.{Waiting, all_resumed}
use Rattle.rdlpp_meaning.specs.Outcome.{Report, fails}
use Rattle.rdlpp_meaning.specs.Parts.{directive_of, line_ends_of, only_blanks}
use Rattle.rdlpp_meaning.specs.Resumed.{Live, Place, Skipped, resumed}
use Rattle.rdlpp_meaning.specs.State.{Rules, State, breach_kind, fault_at}
use Rattle.rdlpp_meaning.specs.declared.fault.FaultKind.TheVariants.{BareBackquote as LoneBackquote, UndefinedMacro}
use Rattle.rdlpp_meaning.proofs.Directives.{all_resumed_after, all_resumed_fails, after_bytes-goes_on}
use Rattle.rdlpp_meaning.proofs.LiveText.{resumed_bare, resumed_broken, resumed_broken_parts, resumed_copied, resumed_copied_parts, resumed_undefined}
use Rattle.rdlpp_meaning.proofs.Outcomes.{after_bytes-nil, fails-goes_on}
use Rattle.rdlpp_meaning.proofs.Skipping.{all_copied_skipped, resumed_skipped, resumed_skipped_broken, resumed_skipped_broken_parts, resumed_skipped_parts}
use Rattle.rdlpp_read.specs.Buffer.{BufferView, ahead_of, entered_mode, held_of, rest_of, tokens_left}
use Rattle.rdlpp_front.specs.Arguments.{IsLead, Lacks, LeadingPart, Leads, NothingAfterBlanks}
use Rattle.rdlpp_front.specs.SourceItems.{AtOrdinary, AtToken, HasArgument, IsAfter, IsArgumentOf, IsDirective, IsText, IsUsage, StandsAfter, argument_name, is_text_kind, usage_name}
use Rattle.rdlpp_front.specs.declared.arguments.Argument.{Argument}

-- What the bytes at the front of a text tell of its first token.

-- a text without ordinary text at its front stops there
pub stops_at_front : (bs : List ℕ) → 0 < length bs → plain_len bs ≡ 0 → stops_plain_text bs ≡ true
unfolding plain_len first_place
stops_at_front [] some none = absurd (omega arith)
stops_at_front (b ∷ bs) some none = grind arith

-- what begins where ordinary text stops, at no backquote, is `<%`, or a string or a comment
text_by_row : (bs : List ℕ) (t : Token) → Row bs t → stops_plain_text bs ≡ true → slice_index bs 0 ≢ 96
    → (t.kind ≡ Perl → ⊥) → is_text_kind t.kind ≡ true
unfolding is_text_kind whole
text_by_row bs t (AtPerl h e) stop back other = absurd (other (ap (λ (u : Token). u.kind) e))
text_by_row bs t (AtLineComment h e) stop back other = ap is_text_kind e
text_by_row bs t (AtBlockComment h e) stop back other = ap is_text_kind e
text_by_row bs t (AtString h e) stop back other = ap is_text_kind e
text_by_row bs t (AtBack h e) stop back other = absurd (back (eqb-true (slice_index bs 0) 96 h))
text_by_row bs t (AtBare h g e) stop back other = absurd (back (eqb-true (slice_index bs 0) 96 h))
text_by_row bs t (AtPlain h q) stop back other = absurd (let no : false ≡ true = sym q ∙ stop in cc)

-- the rest of a string
string_text : (bs : List ℕ) → ((token_of InStr bs).kind ≡ Perl → ⊥) → is_text_kind (token_of InStr bs).kind ≡ true
unfolding token_of is_text_kind whole
string_text bs other = grind (arith, string_token-kind)

-- the rest of a block comment
comment_text : (bs : List ℕ) → is_text_kind (token_of InBlock bs).kind ≡ true
unfolding token_of is_text_kind
comment_text bs = ap is_text_kind (block_token-kind 0 bs)

-- what begins with a string or a comment, or with the rest of one
pub text_at_front : (m : Mode) (bs : List ℕ) → (m ≡ Plain → (stops_plain_text bs ≡ true) × (slice_index bs 0 ≢ 96))
    → ((token_of m bs).kind ≡ Perl → ⊥) → is_text_kind (token_of m bs).kind ≡ true
text_at_front Plain bs stops other = let h = stops refl in text_by_row bs (token_of Plain bs) (token_of-row bs) h.0 h.1 other
text_at_front InStr bs stops other = string_text bs other
text_at_front InBlock bs stops other = comment_text bs

-- the token at a backquote
abbrev pub back_token : List ℕ → Token
back_token bs = cond (is_letter (slice_index bs 1)) (whole Back (suc (prefix_len is_word (drop 1 bs)))) (whole BareBackquote 1)

-- a backquote begins a name or stands alone
pub token_at_backquote : (bs : List ℕ) → slice_index bs 0 ≡ 96 → token_of Plain bs ≡ back_token bs
unfolding token_of plain_token begins_perl is_line_end is_blank begins_line_comment begins_block_comment is_letter is_digit takes_word
token_at_backquote bs e = rw e refl

-- a letter after a backquote begins a name
pub back_at_letter : (bs : List ℕ) → slice_index bs 0 ≡ 96 → is_letter (slice_index bs 1) ≡ true → (token_of Plain bs).kind ≡ Back
unfolding whole
back_at_letter bs e letter =
    ap (λ (t : Token). t.kind) (token_at_backquote bs e ∙ ap (λ t. cond t (whole Back (suc (prefix_len is_word (drop 1 bs)))) (whole BareBackquote 1)) letter)

-- without a letter after it a backquote is alone
pub bare_at_other : (bs : List ℕ) → slice_index bs 0 ≡ 96 → is_letter (slice_index bs 1) ≡ false → (token_of Plain bs).kind ≡ BareBackquote
unfolding whole
bare_at_other bs e other =
    ap (λ (t : Token). t.kind) (token_at_backquote bs e ∙ ap (λ t. cond t (whole Back (suc (prefix_len is_word (drop 1 bs)))) (whole BareBackquote 1)) other)

-- a token at a backquote without a name, by its kind
bare_by : (t : Bool) (n : ℕ) → (cond t (whole Back n) (whole BareBackquote 1)).kind ≢ Back → (cond t (whole Back n) (whole BareBackquote 1)).kind ≡ BareBackquote
unfolding whole
bare_by true n h = absurd (h refl)
bare_by false n h = refl

-- a token at a backquote that has no name is a lone backquote
pub bare_at_front : (bs : List ℕ) → slice_index bs 0 ≡ 96 → (token_of Plain bs).kind ≢ Back → (token_of Plain bs).kind ≡ BareBackquote
bare_at_front bs e h =
    rw (token_at_backquote bs e) (bare_by (is_letter (slice_index bs 1)) (suc (prefix_len is_word (drop 1 bs))) (rw (token_at_backquote bs e) at h))

-- how long a token at a backquote with a name is, by its kind
back_by : (t : Bool) (n : ℕ) → (cond t (whole Back n) (whole BareBackquote 1)).kind ≡ Back → (cond t (whole Back n) (whole BareBackquote 1)).len ≡ n
unfolding whole
back_by true n h = refl
back_by false n h = cc

-- how long a token at a backquote with a name is
pub back_len : (bs : List ℕ) → slice_index bs 0 ≡ 96 → (token_of Plain bs).kind ≡ Back → (token_of Plain bs).len ≡ suc (prefix_len is_word (drop 1 bs))
back_len bs e h =
    rw (token_at_backquote bs e) (back_by (is_letter (slice_index bs 1)) (suc (prefix_len is_word (drop 1 bs))) (rw (token_at_backquote bs e) at h))

-- a text that begins with a byte
pub front_byte : (bs : List ℕ) (b : ℕ) → 0 < b → slice_index bs 0 ≡ b → bs ≡ b ∷ drop 1 bs
front_byte [] b some e = absurd (omega arith)
front_byte (x ∷ xs) b some e = ap (λ (y : ℕ). y ∷ xs) e

-- a token at a backquote with a name is that backquote and its name
pub back_text : (bs : List ℕ) → slice_index bs 0 ≡ 96 → (token_of Plain bs).kind ≡ Back
    → take (token_of Plain bs).len bs ≡ 96 ∷ take ((token_of Plain bs).len - 1) (drop 1 bs)
back_text bs e h = grind (arith, back_len, front_byte)

-- a token with a backquote's name begins with the backquote
pub back_front : (bs : List ℕ) → (token_of Plain bs).kind ≡ Back → slice_index bs 0 ≡ 96
unfolding token_of plain_token whole
back_front bs h = grind (arith, block_token-kind, string_token-kind, eqb-true, and_parts)

-- What the word of a directive at the front of held bytes tells: which directive it is.

-- the name of a directive, after a backquote, is its word
pub named_word : (name : List ℕ) (d : Directive) → directive_named name ≡ Some d → 96 ∷ name ≡ directive_word d
named_word name d e = ap (λ (x : List ℕ). 96 ∷ x) (named_is name d e)

-- the first token of a directive is its word
pub word_len : (d : Directive) (held : List ℕ) → 0 < length held → IsDirective d held → (token_of Plain held).len ≡ length (directive_word d)
word_len d held some is =
    sym (length-take-le (token_of Plain held).len held (token_of-part Plain held some).inside) ∙ ap length is.word

-- what stands after the word of a directive is what it is given
pub given_here : (is : LeadingPart) (own d : Directive) (held : List ℕ) (len : ℕ) (a : Option Argument) → own ≡ d → 0 < length held → IsDirective own held
    → len ≡ (token_of Plain held).len → IsAfter is len held a → IsArgumentOf is d held a
given_here is own d held len None same some word whole h =
    let at : IsDirective d held = subst (λ (x : Directive). IsDirective x held) same word in
    record { word = at; none = subst (λ (n : ℕ). NothingAfterBlanks is (drop n held)) (whole ∙ word_len d held some at) h }
given_here is own d held len (Some a) same some word whole h =
    let at : IsDirective d held = subst (λ (x : Directive). IsDirective x held) same word in
    record { word = at; argument = subst (λ (n : ℕ). StandsAfter is n held a.start a.stop) (whole ∙ word_len d held some at) h }

-- what is found after blanks after a word
pub stands_there : (is : LeadingPart) (held : List ℕ) (word_len space len : ℕ) → word_len ≤ length held
    → IsLead Blank (take (length held - word_len) (drop word_len held)) space → (len ≡ 0 → ⊥)
    → is (take (length held - (word_len + space)) (drop (word_len + space) held)) len → word_len + space + len ≤ length held
    → StandsAfter is word_len held (word_len + space) (word_len + space + len)
stands_there is held word_len space len fits lead some found inside =
    let size : len ≡ space + len - space = omega arith in
    record {
      from = space;
      to = space + len;
      given = record {
        space = subst (λ (l : List ℕ). IsLead Blank l space) (take_rest held word_len) lead;
        some = omega (arith, some);
        found = subst (λ (l : List ℕ). is l (space + len - space)) (take_rest held (word_len + space) ∙ sym (drop-drop space word_len held)) (subst (is _) size found);
        inside = omega (arith, length-drop word_len held);
      };
      starts = refl;
      stops = omega arith;
    }

-- Where fronts lie in what is held: their bounds, their line ends, and the bytes of their names.

-- text that is copied at the front of what is held
pub text_inside : (mode : Mode) (held : List ℕ) (len : ℕ) (next : Mode) → 0 < length held → IsText mode held len next → (0 < len) × (len ≤ length held)
unfolding plain_len
text_inside mode held len next some (AtOrdinary plain following has whole) = (has, omega (arith, whole, first_place-le stops_plain_text held))
text_inside mode held len next some (AtToken kind following whole) = grind (arith, token_of-part)

-- a usage at the front of what is held
pub usage_inside : (held : List ℕ) (len : ℕ) → 0 < length held → IsUsage held len → (0 < len) × (len ≤ length held)
usage_inside held len some usage = grind (arith, token_of-part)

-- a word has bytes
word_some : (d : Directive) → 0 < length (directive_word d)
word_some Define = omega arith
word_some _ = omega arith

-- a directive with its name
pub name_inside : (d : Directive) (held : List ℕ) (start stop : ℕ) → HasArgument (IsLead Name) d held start stop → (0 < start) × (start < stop) × (stop ≤ length held)
name_inside d held start stop has = grind (arith, length-drop, word_some)

-- the name of a usage is a word
pub usage_word : (held : List ℕ) (len : ℕ) → IsUsage held len → IsWordBytes (usage_name held len)
usage_word held len usage =
    let at = back_front held usage.kind in
    let whole : len ≡ suc (prefix_len is_word (drop 1 held)) = usage.whole ∙ back_len held at usage.kind in
    let same : len - 1 ≡ prefix_len is_word (drop 1 held) = omega arith in
    rw same (list_all-prefix is_word (drop 1 held))

-- a name in front is a word
lead_word : (bytes : List ℕ) (n : ℕ) → IsLead Name bytes n → IsWordBytes (take n bytes)
lead_word bytes n (Leads some is len) =
    let run : n ≡ prefix_len is_word bytes = len ∙ ((plain_token-run bytes).name is).0 in
    rw run (list_all-prefix is_word bytes)
lead_word bytes n (Lacks other zero_is) = rw zero_is refl

-- the name of a directive is a word
pub name_word : (d : Directive) (held : List ℕ) (start stop : ℕ) → HasArgument (IsLead Name) d held start stop → IsWordBytes (argument_name held start stop)
name_word d held start stop has = grind (arith, drop-drop, lead_word)

-- Fronts where no text is copied.

-- where ordinary text stops at the front, there is none
stopped_front : (held : List ℕ) → 0 < length held → stops_plain_text held ≡ true → 0 ≡ plain_len held
stopped_front held some stop = plain_len-found held 0 some (λ j lt. absurd (omega arith)) stop

-- where ordinary text doesn't stop at the front, there is some
pub plain_some : (held : List ℕ) → 0 < length held → stops_plain_text held ≡ false → 0 < plain_len held
unfolding plain_len first_place
plain_some [] some goes_on = absurd (omega arith)
plain_some (b ∷ bs) some goes_on = rw goes_on (omega arith)

-- `<%` is no text
pub perl_kind : is_text_kind Perl ≡ false
unfolding is_text_kind
perl_kind = refl

-- no text is copied where a token of another kind stops ordinary text
pub no_text : (mode : Mode) (held : List ℕ) → 0 < length held → (mode ≡ Plain → stops_plain_text held ≡ true) → is_text_kind (token_of mode held).kind ≡ false
    → (len : ℕ) (next : Mode) → IsText mode held len next → ⊥
no_text mode held some stops other len next (AtOrdinary plain following has long) =
    let none = stopped_front held some (stops plain) in absurd (omega (arith, none, has, long))
no_text mode held some stops other len next (AtToken kind following long) = absurd (false≢true (sym other ∙ kind))

-- ordinary text stops at a backquote
backquote_stops : (held : List ℕ) → slice_index held 0 ≡ 96 → stops_plain_text held ≡ true
unfolding stops_plain_text
backquote_stops held e = rw e refl

-- a token at a backquote is no text
back_kind : (t : Bool) (n : ℕ) → is_text_kind (cond t (whole Back n) (whole BareBackquote 1)).kind ≡ false
unfolding whole is_text_kind
back_kind true n = refl
back_kind false n = refl

-- no text is copied at a backquote
pub no_text_at_backquote : (held : List ℕ) → 0 < length held → slice_index held 0 ≡ 96 → (len : ℕ) (next : Mode) → IsText Plain held len next → ⊥
no_text_at_backquote held some e =
    no_text Plain held some (λ _. backquote_stops held e)
    (ap (λ (t : Token). is_text_kind t.kind) (token_at_backquote held e) ∙ back_kind (is_letter (slice_index held 1)) _)

-- a part without LF has no line ends
part_without_ends : (bs : List ℕ) → line_ends (take (prefix_len (λ x. not (is_line_end x)) bs) bs) ≡ 0
unfolding line_ends
part_without_ends [] = refl
part_without_ends (b ∷ bs) =
    let n = prefix_len (λ x. not (is_line_end x)) bs in
    let P : Bool → Type 0 = λ t. is_line_end b ≡ t → line_ends (take (cond (not t) (1 + n) 0) (b ∷ bs)) ≡ 0 in
    let at_true : P true = λ e. refl in
    let at_false : P false = λ e.
    let one : 1 + n ≡ suc n = omega arith in
    let own : Bool → ℕ = λ t. cond t 1 0 in
    let first : own (is_line_end b) ≡ own false = ap own e in
    rw one (omega (arith, line_ends-cons b (take n bs), first, part_without_ends bs)) in
    elim (is_line_end b) as P [ true ↦ at_true | false ↦ at_false ] refl

-- a comment up to its line's end has no line ends
pub comment_without_ends : (mode : Mode) (bs : List ℕ) → (token_of mode bs).kind ≡ LineComment → line_ends (take (token_of mode bs).len bs) ≡ 0
unfolding token_of plain_token whole
comment_without_ends Plain bs = grind (arith, cond_both, part_without_ends, block_token-kind, string_token-kind)
comment_without_ends InStr bs = grind (arith, cond_both, string_token-kind)
comment_without_ends InBlock bs = λ e. absurd (cc (block_token-kind 0 bs))

-- An open source where its next bytes are used: what is held, what stands after it, and the tokens that remain.

-- a buffer of which so many more held bytes are used, with so many line ends
abbrev pub used_buffer : {R : Type 0} → BufferView R → ℕ → ℕ → BufferView R
used_buffer b len lines = record b { at = b.at + len; line = b.line + lines }

-- what is held after bytes that are used
pub held_used : {R : Type 0} (b : BufferView R) (n l : ℕ) → held_of (used_buffer b n l) ≡ drop n (held_of b)
unfolding held_of
held_used b n l = sym (drop-drop n b.at (take b.accepted b.window))

-- what is held is the same in each mode
pub held_entered : {R : Type 0} (b : BufferView R) (next : Mode) → held_of (entered_mode b next) ≡ held_of b
unfolding held_of entered_mode
held_entered b next = refl

-- the tokens in plain text, wherever something opened before
pub tokens_plain : {R : Type 0} (unread : R → List ℕ) (b : BufferView R) → b.mode ≡ Plain
    → tokens_left unread b ≡ remaining_tokens b.line_bytes Plain b.line b.line (held_of b) b.bytes_left (rest_of unread b)
unfolding tokens_left
tokens_plain unread b mode = grind (arith, remaining-opened)

-- the tokens after bytes that are used
pub tokens_used : {R : Type 0} (unread : R → List ℕ) (b : BufferView R) (n l o : ℕ) → b.mode ≡ Plain
    → remaining_tokens b.line_bytes Plain o (b.line + l) (drop n (held_of b)) b.bytes_left (rest_of unread b) ≡ tokens_left unread (used_buffer b n l)
unfolding rest_of ahead_of
tokens_used unread b n l o mode = grind (arith, remaining-opened, held_used, tokens_plain)

-- the tokens after bytes that are used, in the mode that stands there
pub tokens_entered : {R : Type 0} (unread : R → List ℕ) (b : BufferView R) (n l : ℕ) (next : Mode)
    → remaining_tokens b.line_bytes next (opening b.mode b.open_token_line b.line) (b.line + l) (drop n (held_of b)) b.bytes_left (rest_of unread b)
    ≡ tokens_left unread (used_buffer (entered_mode b next) n l)
unfolding tokens_left entered_mode rest_of ahead_of
tokens_entered unread b n l next =
    ap (λ (held : List ℕ). remaining_tokens b.line_bytes next (opening b.mode b.open_token_line b.line) (b.line + l) held b.bytes_left (rest_of unread b))
    (sym (held_used (entered_mode b next) n l ∙ ap (drop n) (held_entered b next)))

-- What remains of an include stack of open sources in live text, with the state after it, for each kind of token in front of the innermost.

-- bytes and then a fault of the innermost source end the include stack
pub all_resumed_after_fails : (rules : Rules) (ws : List Waiting) (place : Place) (first : Bool) (ts : List SourceToken) (s t : State) (x : List ℕ) (f : Report)
    → resumed rules place first ts s ≡ after_bytes x (leaves (fails f) t)
    → all_resumed rules ws place first ts s ≡ after_bytes x (leaves (fails f) t)
unfolding all_resumed
all_resumed_after_fails rules ws place first ts s t x f e = grind (arith, after_bytes-goes_on, fails-goes_on)

module _ (rules : Rules) (ws : List Waiting) (os : List Progress) (first : Bool) where
  -- tokens that are copied give their bytes
  pub all_resumed_copied : (ts more : List SourceToken) (s : State) → list_all is_copied ts ≡ true
      → all_resumed rules ws (Live os) first (ts ++ more) s
      ≡ after_bytes (bytes_of ts) (all_resumed rules ws (Live os) (only_blanks first (bytes_of ts)) more s)
  all_resumed_copied ts more s e = grind (arith, all_resumed_after, resumed_copied)

  -- a token that is copied may be written in two parts
  pub all_resumed_copied_parts : (k : Kind) (x y : List ℕ) (line : ℕ) (more : List SourceToken) (s : State)
      → is_copied (record { sort = Ordinary k; bytes = x ++ y; line = line }) ≡ true
      → all_resumed rules ws (Live os) first (record { sort = Ordinary k; bytes = x ++ y; line = line } ∷ more) s
      ≡ after_bytes x (all_resumed rules ws (Live os) (only_blanks first x) (record { sort = Ordinary k; bytes = y; line = line } ∷ more) s)
  all_resumed_copied_parts k x y line more s e = grind (arith, all_resumed_after, resumed_copied_parts)

  -- a broken token may be written in two parts
  pub all_resumed_broken_parts : (b : Breach) (x y : List ℕ) (line : ℕ) (more : List SourceToken) (s : State)
      → all_resumed rules ws (Live os) first (record { sort = Broken b; bytes = x ++ y; line = line } ∷ more) s
      ≡ after_bytes x (all_resumed rules ws (Live os) (only_blanks first x) (record { sort = Broken b; bytes = y; line = line } ∷ more) s)
  all_resumed_broken_parts b x y line more s = grind (arith, all_resumed_after, resumed_broken_parts)

  -- a broken token gives its bytes and its fault
  pub all_resumed_broken : (b : Breach) (bytes : List ℕ) (line : ℕ) (more : List SourceToken) (s : State)
      → all_resumed rules ws (Live os) first (record { sort = Broken b; bytes = bytes; line = line } ∷ more) s
      ≡ after_bytes bytes (leaves (fails (fault_at (breach_kind b) line [] s)) s)
  all_resumed_broken b bytes line more s = grind (arith, all_resumed_after_fails, resumed_broken)

  -- a broken token without bytes gives its fault alone
  pub all_resumed_only_broken : (b : Breach) (line : ℕ) (more : List SourceToken) (s : State)
      → all_resumed rules ws (Live os) first (record { sort = Broken b; bytes = []; line = line } ∷ more) s
      ≡ leaves (fails (fault_at (breach_kind b) line [] s)) s
  all_resumed_only_broken b line more s =
      all_resumed_broken b [] line more s ∙ after_bytes-nil (leaves (fails (fault_at (breach_kind b) line [] s)) s)

  -- a lone backquote is a fault
  pub all_resumed_bare : (bytes : List ℕ) (line : ℕ) (more : List SourceToken) (s : State)
      → all_resumed rules ws (Live os) first (record { sort = Ordinary BareBackquote; bytes = bytes; line = line } ∷ more) s
      ≡ leaves (fails (fault_at LoneBackquote line [] s)) s
  all_resumed_bare bytes line more s = grind (arith, all_resumed_fails, resumed_bare)

  -- a usage of a name that isn't defined is a fault
  pub all_resumed_undefined : (name : List ℕ) (line : ℕ) (more : List SourceToken) (s : State)
      → is_reserved name ≡ false → macro_named s.macros name ≡ None
      → all_resumed rules ws (Live os) first (usage_token name line ∷ more) s ≡ leaves (fails (fault_at UndefinedMacro line name s)) s
  all_resumed_undefined name line more s r e = grind (arith, all_resumed_fails, resumed_undefined)

-- What a place among conditionals writes of text that is copied in live text: there its bytes, and in skipped text their LF bytes.

-- what is written of text that is copied, of its parts, and of a broken token, from a state that stays
pub record Writes (rules : Rules) (ws : List Waiting) (place : Place) (writes : List ℕ → List ℕ) (s : State) : Type 0 where
  pub nothing : writes [] ≡ []
  pub copied : (first : Bool) (ts more : List SourceToken) → list_all is_copied ts ≡ true
      → all_resumed rules ws place first (ts ++ more) s
      ≡ after_bytes (writes (bytes_of ts)) (all_resumed rules ws place (only_blanks first (bytes_of ts)) more s)
  pub parts : (first : Bool) (k : Kind) (x y : List ℕ) (line : ℕ) (more : List SourceToken) → IsOpenKind k
      → all_resumed rules ws place first (record { sort = Ordinary k; bytes = x ++ y; line = line } ∷ more) s
      ≡ after_bytes (writes x) (all_resumed rules ws place (only_blanks first x) (record { sort = Ordinary k; bytes = y; line = line } ∷ more) s)
  pub broken_parts : (first : Bool) (b : Breach) (x y : List ℕ) (line : ℕ) (more : List SourceToken)
      → all_resumed rules ws place first (record { sort = Broken b; bytes = x ++ y; line = line } ∷ more) s
      ≡ after_bytes (writes x) (all_resumed rules ws place (only_blanks first x) (record { sort = Broken b; bytes = y; line = line } ∷ more) s)
  pub broken : (first : Bool) (b : Breach) (bytes : List ℕ) (line : ℕ) (more : List SourceToken)
      → all_resumed rules ws place first (record { sort = Broken b; bytes = bytes; line = line } ∷ more) s
      ≡ after_bytes (writes bytes) (leaves (fails (fault_at (breach_kind b) line [] s)) s)

-- what may be open is copied
pub open_copied : (k : Kind) (bytes : List ℕ) (line : ℕ) → IsOpenKind k → is_copied (record { sort = Ordinary k; bytes = bytes; line = line }) ≡ true
unfolding is_copied
open_copied k bytes line (inl is) = rw is refl
open_copied k bytes line (inr is) = rw is refl

-- and begins no directive
open_text : (k : Kind) (bytes : List ℕ) (line : ℕ) → IsOpenKind k → directive_of (record { sort = Ordinary k; bytes = bytes; line = line }) ≡ None
unfolding directive_of
open_text k bytes line (inl is) = rw is refl
open_text k bytes line (inr is) = rw is refl

-- live text is written as it is
pub live_writes : (rules : Rules) (ws : List Waiting) (os : List Progress) (s : State) → Writes rules ws (Live os) (λ x. x) s
live_writes rules ws os s = grind (arith, all_resumed_copied, all_resumed_copied_parts, open_copied, all_resumed_broken_parts, all_resumed_broken)

-- of skipped text the LF bytes are
pub skipped_writes : (rules : Rules) (ws : List Waiting) (n : ℕ) (p : Progress) (os : List Progress) (s : State) → Writes rules ws (Skipped n p os) line_ends_of s
unfolding line_ends_of
skipped_writes rules ws n p os s = grind (arith, all_resumed_after, resumed_skipped, all_copied_skipped, resumed_skipped_parts, open_text, resumed_skipped_broken_parts, all_resumed_after_fails, resumed_skipped_broken)

-- one token that is copied
pub writes_one : (rules : Rules) (ws : List Waiting) (place : Place) (writes : List ℕ → List ℕ) (s : State) → Writes rules ws place writes s
    → (first : Bool) (t : SourceToken) (more : List SourceToken) → is_copied t ≡ true
    → all_resumed rules ws place first (t ∷ more) s ≡ after_bytes (writes t.bytes) (all_resumed rules ws place (only_blanks first t.bytes) more s)
writes_one rules ws place writes s w first t more e =
    w.copied first (t ∷ []) more (rw e refl)
    ∙ ap (λ (x : List ℕ). after_bytes (writes x) (all_resumed rules ws place (only_blanks first x) more s)) (append-nil t.bytes)
