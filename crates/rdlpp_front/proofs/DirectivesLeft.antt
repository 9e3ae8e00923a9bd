-- What an `include`, the directives of conditionals, and skipped text in front do to what remains.
use Rattle.std.proofs.Common.{◌≡◌, ℕ, Bool, true, false, List, [], ◌∷◌, length, Option, None, refl, ap, ◌∙◌, ◌+◌, ◌++◌, take, drop, Some, append-nil, sym, arith, suc, ◌-◌, ◌<◌, cond, subst, ◌⊎◌, inl, inr, ⊎_elim, option_map}
use Rattle.std.specs.List.{list_any}
use Rattle.rdlpp_scan.specs.Bytes.{is_line_end}
use Rattle.rdlpp_scan.specs.Front.{Breach, Front, StringOpen}
use Rattle.rdlpp_scan.specs.Lines.{EndsLine, ended_line_len}
use Rattle.rdlpp_scan.specs.Reserved.{directive_word}
use Rattle.rdlpp_scan.specs.Resumed.{line_with, onto_tokens, opening as opening_token, with_part}
use Rattle.rdlpp_scan.specs.SourceTokens.{Broken, Definition, Ordinary, Renumbering, Sort, SourceToken, broken, line_ends, open_end, remaining_tokens, source_end, source_tokens}
use Rattle.rdlpp_scan.specs.TokenKinds.{is_ordinary}
use Rattle.rdlpp_scan.specs.Tokens.{token_of}
use Rattle.rdlpp_scan.specs.declared.token.Directive.{Directive}
use Rattle.rdlpp_scan.specs.declared.token.Directive.TheVariants.{Endif, Ifdef, Ifndef, Include}
use Rattle.rdlpp_scan.specs.declared.token.Kind.{Kind}
use Rattle.rdlpp_scan.specs.declared.token.Kind.TheVariants.{BareBackquote, Blank, Str}
use Rattle.rdlpp_scan.specs.declared.token.Mode.{Mode}
use Rattle.rdlpp_scan.specs.declared.token.Mode.TheVariants.{InStr, Plain}
use Rattle.rdlpp_scan.specs.declared.token.Token.{Token}
use Rattle.rdlpp_scan.proofs.RemainingLaws.{Breaks, Copies, FirstToken, Resumes, remaining-bare, remaining-closed, remaining-cut_string, remaining-first, remaining-in_string, remaining-open_string, whole-line_ends}
use Rattle.rdlpp_scan.proofs.SourceLaws.{EndsLine-drop, front-none, line_ends-append, line_ends-cons, none_suc, some_suc}
use Rattle.rdlpp_scan.proofs.Seams.{BeforePerl, Closed, OpenComment, OpenString, Seam, token_of-seam}
use Rattle.rdlpp_scan.proofs.TokenLens.{token_of-part}
use Rattle.rdlpp_scan.proofs.TokenSteps.{is_kept_kind}
use Rattle.rdlpp_meaning.specs.Expansion.{usage_token}
use Rattle.rdlpp_meaning.specs.Moves.{Passes}
use Rattle.rdlpp_meaning.specs.Meaning.{Passage, Progress, after_bytes, leaves, unclosed}
use Rattle.rdlpp_meaning.specs.Opened.{Waiting, all_resumed}
use Rattle.rdlpp_meaning.specs.Outcome.{fails}
use Rattle.rdlpp_meaning.specs.Parts.{argument_of, after_blanks, line_ends_of, no_argument, only_blanks, past_blanks, string_in_front}
use Rattle.rdlpp_meaning.specs.Resumed.{Skipped}
use Rattle.rdlpp_meaning.specs.State.{Rules, State, breach_kind, fault_at}
use Rattle.rdlpp_meaning.specs.declared.fault.FaultKind.TheVariants.{OpenConditional}
use Rattle.rdlpp_meaning.proofs.Directives.{all_resumed_after, all_resumed_fails, blank_token, opens_conditional, string_token, takes_string_at_once, takes_string_after_blanks, wants_name}
use Rattle.rdlpp_meaning.proofs.Skipping.{bare_skipped, begins_word, has_own_token, is_skipped, resumed_skipped, resumed_skipped_broken, skipped_unclosed, stands_by_itself, usage_skipped}
use Rattle.rdlpp_meaning.proofs.Moves.{word_moves}
use Rattle.rdlpp_meaning.proofs.Outcomes.{after_bytes-nil}
use Rattle.rdlpp_read.specs.Buffer.{BufferView, held_of, rest_of, tokens_left}
use Rattle.rdlpp_read.specs.Files.{consumed_file}
use Rattle.rdlpp_read.specs.Filling.{Fills, ended_tokens, only_broken}
use Rattle.rdlpp_front.specs.Arguments.{Closes, ClosesString, IsClosedString, IsLead, Lacks, Leads, Opens as OpensString}
use Rattle.rdlpp_read.specs.declared.buffer.filling.Fill.TheVariants as fill
use Rattle.rdlpp_read.specs.declared.files.File.{File}
use Rattle.rdlpp_read.proofs.BufferTokens.{ends_line}
use Rattle.rdlpp_front.specs.SourceItems.{HasString, IsDirective, IsUsage, LacksArgument, argument_name, usage_name}
use Rattle.rdlpp_front.specs.SourceLeft.{HoldsFront, source_left}
use Rattle.rdlpp_front.proofs.TextLeft.{counted, not_counted, usage_text, usage_tokens}
use Rattle.rdlpp_front.proofs.NamedDirectives.{GivenInFront, IsGiven, blank_lead, given_in_front_of, given_of, gone_blanks, gone_word, nothing_in_front_of, nothing_tokens, stands_bare, word_at, word_directive, word_token, word_tokens}
use Rattle.rdlpp_front.proofs.Insides.{all_resumed_after_fails, tokens_plain, tokens_used, used_buffer}

-- a directive that opens a conditional wants a name
pub opening_wants : (d : Directive) → opens_conditional d ≡ true → wants_name d ≡ true
unfolding opens_conditional wants_name
opening_wants Ifdef e = refl
opening_wants Ifndef e = refl
opening_wants d e = cc

pub end_bare : stands_bare Endif ≡ true
unfolding stands_bare
end_bare = refl

-- What usages, lone backquotes, and directives that belong to no conditional do in skipped text: of each its LF bytes are written.

-- the word of a directive that belongs to no conditional is skipped
word_skipped : (d : Directive) (line : ℕ) → has_own_token d ≡ false → stands_by_itself d ≡ true → is_skipped (word_token d line) ≡ true
unfolding is_skipped
word_skipped d line word alone =
    ap (λ (x : Option Directive). elim x [ None ↦ true | Some e ↦ stands_by_itself e ]) (word_directive d line word) ∙ alone

module _ {R : Type 0} (rules : Rules) (unread : R → List ℕ) (ws : List Waiting) (n : ℕ) (p : Progress) (os : List Progress) (f : File R) (s : State) where
  -- what remains of a buffer in skipped text
  abbrev left_of : Bool → BufferView R → Passage
  left_of first b = all_resumed rules ws (Skipped n p os) first (tokens_left unread b) s

  -- one token that is skipped gives its LF bytes
  one_skipped : (t : SourceToken) (b : BufferView R) → tokens_left unread f.buffer ≡ t ∷ tokens_left unread b → is_skipped t ≡ true
      → source_left rules unread ws (Skipped n p os) f s ≡ after_bytes (line_ends_of t.bytes) (left_of (only_blanks f.blanks t.bytes) b)
  unfolding source_left
  one_skipped t b all e =
      let ts = tokens_left unread b in
      let here = Skipped n p os in
      ap (λ (us : List SourceToken). all_resumed rules ws here f.blanks us s) all
      ∙ all_resumed_after rules ws here here f.blanks (only_blanks f.blanks (t.bytes ++ [])) (t ∷ ts) ts s s (line_ends_of (t.bytes ++ []))
      (resumed_skipped rules n p os f.blanks (t ∷ []) ts s (rw e refl))
      ∙ ap (λ (x : List ℕ). after_bytes (line_ends_of x) (left_of (only_blanks f.blanks x) b)) (append-nil t.bytes)

  -- a usage is skipped, defined or not
  pub skipped_usage_left : (len : ℕ) → HoldsFront f.buffer → f.buffer.mode ≡ Plain → IsUsage (held_of f.buffer) len
      → source_left rules unread ws (Skipped n p os) f s
      ≡ after_bytes (line_ends_of (take len (held_of f.buffer))) (source_left rules unread ws (Skipped n p os) (consumed_file len 0 f) s)
  unfolding source_left
  skipped_usage_left len holds mode usage =
      let name = usage_name (held_of f.buffer) len in
      let b = used_buffer f.buffer len 0 in
      one_skipped (usage_token name f.buffer.line) b (usage_tokens unread f len holds mode usage) (usage_skipped name f.buffer.line usage.free)
      ∙ ap (λ (x : List ℕ). after_bytes (line_ends_of x) (left_of (only_blanks f.blanks x) b)) (sym (usage_text (held_of f.buffer) len usage))

  -- a lone backquote is skipped
  pub skipped_bare_left : HoldsFront f.buffer → f.buffer.mode ≡ Plain → (token_of Plain (held_of f.buffer)).kind ≡ BareBackquote
      → source_left rules unread ws (Skipped n p os) f s
      ≡ after_bytes (line_ends_of (take 1 (held_of f.buffer))) (source_left rules unread ws (Skipped n p os) (consumed_file 1 0 f) s)
  unfolding source_left
  skipped_bare_left holds mode is =
      let b = f.buffer in
      let held = held_of b in
      let rest = rest_of unread b in
      let line : b.line ≡ b.line + 0 = omega arith in
      let all : tokens_left unread b ≡ record { sort = Ordinary BareBackquote; bytes = take 1 held; line = b.line } ∷ tokens_left unread (used_buffer b 1 0) =
      tokens_plain unread b mode
      ∙ remaining-bare b.line_bytes b.line b.line held b.bytes_left rest holds.some (ends_line unread b holds.ends)
      is
      ∙ ap (λ (ts : List SourceToken). record { sort = Ordinary BareBackquote; bytes = take 1 held; line = b.line } ∷ ts)
      (ap (λ (k : ℕ). remaining_tokens b.line_bytes Plain b.line k (drop 1 held) b.bytes_left rest) line ∙ tokens_used unread b 1 0 b.line mode) in
      one_skipped (record { sort = Ordinary BareBackquote; bytes = take 1 held; line = b.line }) (used_buffer b 1 0) all (bare_skipped (take 1 held) b.line)

  -- the word of an `undef` or of an `include` is skipped, and what it would take is text
  pub skipped_word_left : (d : Directive) → has_own_token d ≡ false → stands_by_itself d ≡ true
      → HoldsFront f.buffer → f.buffer.mode ≡ Plain → IsDirective d (held_of f.buffer) → source_left rules unread ws (Skipped n p os) f s
      ≡ after_bytes (line_ends_of (take (length (directive_word d)) (held_of f.buffer)))
      (source_left rules unread ws (Skipped n p os) (consumed_file (length (directive_word d)) 0 f) s)
  unfolding source_left
  skipped_word_left d word alone holds mode is =
      let b = used_buffer f.buffer (length (directive_word d)) 0 in
      one_skipped (word_token d f.buffer.line) b (word_tokens d unread f.buffer word holds mode is) (word_skipped d f.buffer.line word alone)
      ∙ ap (λ (x : List ℕ). after_bytes (line_ends_of x) (left_of (only_blanks f.blanks x) b))
      (sym (word_at d (held_of f.buffer) (rest_of unread f.buffer) holds.some (ends_line unread f.buffer holds.ends) is))

-- What the words of conditionals in front do in skipped text, where they open or branch a conditional that is skipped whole,
-- and what broken tokens and its end do there.

module _ {R : Type 0} (rules : Rules) (unread : R → List ℕ) (ws : List Waiting) (p : Progress) (os : List Progress) (f : File R) (s : State) where
  -- the word of a directive that leaves the text skipped writes nothing, and changes at most how many conditionals opened there
  pub word_left : (d : Directive) (n m : ℕ) → has_own_token d ≡ false → Passes rules d n m p os
      → HoldsFront f.buffer → f.buffer.mode ≡ Plain → IsDirective d (held_of f.buffer) → source_left rules unread ws (Skipped n p os) f s
      ≡ source_left rules unread ws (Skipped m p os) (consumed_file (length (directive_word d)) 0 f) s
  unfolding source_left
  word_left d n m word passes holds mode is =
      let b = f.buffer in
      let tok = word_token d b.line in
      let ts = tokens_left unread (consumed_file (length (directive_word d)) 0 f).buffer in
      let text : directive_word d ≡ take (length (directive_word d)) (held_of b) =
      sym (word_at d (held_of b) (rest_of unread b) holds.some (ends_line unread b holds.ends) is) in
      let left = all_resumed rules ws (Skipped m p os) (only_blanks f.blanks (directive_word d)) ts s in
      ap (λ (us : List SourceToken). all_resumed rules ws (Skipped n p os) f.blanks us s) (word_tokens d unread b word holds mode is)
      ∙ word_moves rules ws n m p os d f.blanks tok ts s (word_directive d b.line word) passes
      ∙ ap (λ (x : List ℕ). after_bytes x left) (begins_word tok d (word_directive d b.line word) word).no_line_end
      ∙ after_bytes-nil left
      ∙ ap (λ (x : List ℕ). all_resumed rules ws (Skipped m p os) (only_blanks f.blanks x) ts s) text

  -- a broken token without bytes is a fault in skipped text too
  pub skipped_broken_left : (n : ℕ) (b : Breach) (line : ℕ) → tokens_left unread f.buffer ≡ only_broken b line
      → source_left rules unread ws (Skipped n p os) f s ≡ leaves (fails (fault_at (breach_kind b) line [] s)) s
  unfolding source_left line_ends_of
  skipped_broken_left n b line e =
      let fault = leaves (fails (fault_at (breach_kind b) line [] s)) s in
      ap (λ (ts : List SourceToken). all_resumed rules ws (Skipped n p os) f.blanks ts s) e
      ∙ all_resumed_after_fails rules ws (Skipped n p os) f.blanks (only_broken b line) s s [] (fault_at (breach_kind b) line [] s)
      (resumed_skipped_broken rules n p os f.blanks b [] line [] s)
      ∙ after_bytes-nil fault

  -- a conditional that is open at the end of its source is a fault, where its branch is skipped
  pub skipped_unclosed_left : (n : ℕ) (has_known_texts : Type 0) (new : BufferView R) → Fills has_known_texts unread fill.End f.buffer new → has_known_texts → f.buffer.mode ≡ Plain
      → source_left rules unread ws (Skipped n p os) f s
      ≡ leaves (fails (record { kind = OpenConditional; name = s.name; line = p.line; word = [] })) s
  unfolding source_left unclosed
  skipped_unclosed_left n has_known_texts new fills t mode =
      ap (λ (ts : List SourceToken). all_resumed rules ws (Skipped n p os) f.blanks ts s)
      (fills.tokens t ∙ ap (λ (m : Mode). ended_tokens m f.buffer.open_token_line) mode)
      ∙ all_resumed_fails rules ws (Skipped n p os) f.blanks [] s s (record { kind = OpenConditional; name = s.name; line = p.line; word = [] })
      (skipped_unclosed rules n p os f.blanks s)

-- An `include` with its string in front.

-- a text whose first line doesn't end has no LF
no_line_end : (bytes : List ℕ) → ended_line_len bytes ≡ None → (line_ends bytes ≡ 0) × (list_any is_line_end bytes ≡ false)
unfolding ended_line_len line_ends
no_line_end [] h = (refl, refl)
no_line_end (b ∷ bs) h =
    let P : Bool → Type 0 = λ t. is_line_end b ≡ t → cond t (Some 1) (option_map suc (ended_line_len bs)) ≡ None
    → (line_ends (b ∷ bs) ≡ 0) × (list_any is_line_end (b ∷ bs) ≡ false) in
    let at_true : P true = λ e k. absurd (cc) in
    let at_false : P false = λ e k.
    let rest = no_line_end bs (none_suc (ended_line_len bs) k) in
    let count : line_ends (b ∷ bs) ≡ line_ends bs = not_counted (is_line_end b) (line_ends (b ∷ bs)) (line_ends bs) e (line_ends-cons b bs) in
    (count ∙ rest.0, rw e rest.1) in
    elim (is_line_end b) as P [ true ↦ at_true | false ↦ at_false ] refl h

-- a string that has a byte closes
closed_string : (bytes : List ℕ) (n : ℕ) → IsClosedString bytes n → 0 < n → ClosesString bytes n
closed_string bytes n (Closes c) some = c
closed_string bytes n (OpensString none zero_is) some = absurd (omega arith)

-- an `include` is a word
pub include_word : has_own_token Include ≡ false
unfolding has_own_token
include_word = refl

module _ (most l room : ℕ) (rest : List ℕ) where
  -- the tokens of what is held and after it, on the line of the directive
  abbrev tokens_of : List ℕ → List SourceToken
  tokens_of z = remaining_tokens most Plain l l z room rest

  -- a string in front that closes on its line
  string_lead : (z : List ℕ) (n : ℕ) → EndsLine z rest → ClosesString z n → tokens_of z ≡ string_token (take n z) l ∷ tokens_of (drop n z)
  unfolding is_kept_kind
  string_lead z n ends c =
      let t = token_of Plain z in
      let none : line_ends (take t.len z) ≡ 0 = ap (λ (k : ℕ). line_ends (take k z)) (sym c.whole) ∙ (no_line_end (take n z) c.line).0 in
      let line : l + line_ends (take t.len z) ≡ l = omega (arith, none) in
      remaining-closed most Plain l l z room rest c.some ends (ap is_kept_kind c.kind) c.closed
      ∙ ap (λ (m : ℕ). record { sort = Ordinary t.kind; bytes = take t.len z; line = l } ∷ remaining_tokens most Plain l m (drop t.len z) room rest) line
      ∙ ap (λ (m : Kind). record { sort = Ordinary m; bytes = take t.len z; line = l } ∷ tokens_of (drop t.len z)) c.kind
      ∙ ap (λ (m : ℕ). string_token (take m z) l ∷ tokens_of (drop m z)) (sym c.whole)

  -- after the word: blanks, and then a string
  string_given : (r : List ℕ) (bl n : ℕ) → EndsLine r rest → IsLead Blank r bl → ClosesString (drop bl r) n
      → IsGiven Include (tokens_of r) (take n (drop bl r)) (take bl r ++ take n (drop bl r)) (tokens_of (drop n (drop bl r)))
  string_given r bl n ends (Leads some is len) c =
      let z = drop bl r in
      let e : tokens_of r ≡ blank_token (take bl r) l ∷ string_token (take n z) l ∷ tokens_of (drop n z) =
      blank_lead most l room rest r bl ends some is len ∙ ap (λ (ts : List SourceToken). blank_token (take bl r) l ∷ ts) (string_lead z n (EndsLine-drop bl r rest ends) c) in
      subst (λ (ts : List SourceToken). IsGiven Include ts (take n z) (take bl r ++ take n z) (tokens_of (drop n z))) (sym e)
      (given_of Include _ (take n z) (take bl r ++ take n z) (tokens_of (drop n z)) 2
      (takes_string_after_blanks (take bl r) (take n z) l l (tokens_of (drop n z)) (no_line_end (take n z) c.line).1) refl)
  string_given r bl n ends (Lacks other zero_is) c =
      let P : ℕ → Type 0 = λ m. ClosesString (drop m r) n → IsGiven Include (tokens_of r) (take n (drop m r)) (take m r ++ take n (drop m r)) (tokens_of (drop n (drop m r))) in
      let at_zero : P 0 = λ own.
      subst (λ (ts : List SourceToken). IsGiven Include ts (take n r) (take n r) (tokens_of (drop n r))) (sym (string_lead r n ends own))
      (given_of Include _ (take n r) (take n r) (tokens_of (drop n r)) 1 (takes_string_at_once (take n r) l (tokens_of (drop n r)) (no_line_end (take n r) own.line).1) refl) in
      subst P (sym zero_is) at_zero c

-- an `include` with its string in front
pub string_in_front_of : {R : Type 0} (unread : R → List ℕ) (b : BufferView R) → HoldsFront b → b.mode ≡ Plain → (start stop : ℕ) → HasString (held_of b) start stop → GivenInFront Include unread b (Some (argument_name (held_of b) start stop)) stop
string_in_front_of unread b holds mode start stop has =
    let held = held_of b in
    let r = drop (length (directive_word Include)) held in
    let k = has.argument.to - has.argument.from in
    let g = has.argument.given in
    given_in_front_of Include unread b holds mode include_word has.word has.argument.from has.argument.to start stop g.some has.argument.starts has.argument.stops
    (string_given b.line_bytes b.line b.bytes_left (rest_of unread b) r has.argument.from k (EndsLine-drop (length (directive_word Include)) held (rest_of unread b) (ends_line unread b holds.ends)) g.space
    (closed_string (drop has.argument.from r) k g.found (omega (arith, g.some))))

-- An `include` in front after which no string stands that closes on its line.

-- a text with LF bytes has one
any_line_end : (bytes : List ℕ) → 0 < line_ends bytes → list_any is_line_end bytes ≡ true
unfolding line_ends
any_line_end [] some = absurd (omega arith)
any_line_end (b ∷ bs) some =
    let P : Bool → Type 0 = λ t. is_line_end b ≡ t → list_any is_line_end (b ∷ bs) ≡ true in
    let at_true : P true = λ e. rw e refl in
    let at_false : P false = λ e.
    let count : line_ends (b ∷ bs) ≡ line_ends bs = not_counted (is_line_end b) (line_ends (b ∷ bs)) (line_ends bs) e (line_ends-cons b bs) in
    rw e (any_line_end bs (omega arith)) in
    elim (is_line_end b) as P [ true ↦ at_true | false ↦ at_false ] refl

-- a text whose first line ends has an LF
ended_some : (bytes : List ℕ) (n : ℕ) → ended_line_len bytes ≡ Some n → 0 < line_ends bytes
unfolding ended_line_len
ended_some [] n h = cc
ended_some (b ∷ bs) n h =
    let P : Bool → Type 0 = λ t. is_line_end b ≡ t → cond t (Some 1) (option_map suc (ended_line_len bs)) ≡ Some n → 0 < line_ends (b ∷ bs) in
    let at_true : P true = λ e k.
    let count : line_ends (b ∷ bs) ≡ suc (line_ends bs) = counted (is_line_end b) (line_ends (b ∷ bs)) (line_ends bs) e (line_ends-cons b bs) in omega arith in
    let at_false : P false = λ e k.
    let count : line_ends (b ∷ bs) ≡ line_ends bs = not_counted (is_line_end b) (line_ends (b ∷ bs)) (line_ends bs) e (line_ends-cons b bs) in
    let p = some_suc (ended_line_len bs) n k in
    let rest = ended_some bs p.0 p.1.0 in omega arith in
    elim (is_line_end b) as P [ true ↦ at_true | false ↦ at_false ] refl h

-- a string is a string or it isn't
kind_case : (k : Kind) → (k ≡ Str) ⊎ (k ≡ Str → ⊥)
kind_case Str = inl refl
kind_case k = inr (λ e. cc)

-- a token of such a kind isn't a string
no_string_by : (sort : Sort) (bytes : List ℕ) (line : ℕ) (ts : List SourceToken) → (k : Kind) → (sort ≡ Ordinary k) ⊎ (is_ordinary (record { sort = sort; bytes = bytes; line = line }) ≡ false) → (k ≡ Str → ⊥)
    → string_in_front (record { sort = sort; bytes = bytes; line = line } ∷ ts) ≡ no_argument
unfolding string_in_front is_ordinary
no_string_by (Ordinary Str) bytes line ts k (inl e) other = absurd (other (let same : Ordinary Str ≡ Ordinary k = e in cc))
no_string_by (Ordinary Str) bytes line ts k (inr e) other = cc
no_string_by (Ordinary n) bytes line ts k h other = refl
no_string_by Definition bytes line ts k h other = refl
no_string_by Renumbering bytes line ts k h other = refl
no_string_by (Broken b) bytes line ts k h other = refl

-- nor are blanks in front of one
no_blank_by : (sort : Sort) (bytes : List ℕ) (line : ℕ) (ts : List SourceToken) → (k : Kind) → (sort ≡ Ordinary k) ⊎ (is_ordinary (record { sort = sort; bytes = bytes; line = line }) ≡ false) → (k ≡ Blank → ⊥)
    → past_blanks string_in_front (record { sort = sort; bytes = bytes; line = line } ∷ ts) ≡ string_in_front (record { sort = sort; bytes = bytes; line = line } ∷ ts)
unfolding past_blanks string_in_front is_ordinary
no_blank_by (Ordinary Blank) bytes line ts k (inl e) other = absurd (other (let same : Ordinary Blank ≡ Ordinary k = e in cc))
no_blank_by (Ordinary Blank) bytes line ts k (inr e) other = cc
no_blank_by (Ordinary n) bytes line ts k h other = refl
no_blank_by Definition bytes line ts k h other = refl
no_blank_by Renumbering bytes line ts k h other = refl
no_blank_by (Broken b) bytes line ts k h other = refl

-- a string with an LF is none
long_string : (bytes : List ℕ) (line : ℕ) (ts : List SourceToken) → 0 < line_ends bytes → string_in_front (record { sort = Ordinary Str; bytes = bytes; line = line } ∷ ts) ≡ no_argument
unfolding string_in_front
long_string bytes line ts some = rw (any_line_end bytes some) refl

-- a string that is open where the text ends
open_at_end : (most o l room : ℕ) → remaining_tokens most InStr o l [] room [] ≡ only_broken StringOpen o
unfolding remaining_tokens source_tokens source_end open_end broken
open_at_end most o l room =
    ap (λ (g : Front). source_tokens (record { most = most; break = g.break }) InStr o l 0 g.text) (front-none most room)

-- the rest of a string after a part of it that has an LF, or after which the text ends
resumed_string : (part : List ℕ) (l : ℕ) (ts : List SourceToken) (o : ℕ) → (0 < line_ends part) ⊎ (ts ≡ only_broken StringOpen o) → Resumes ts
    → string_in_front (onto_tokens part l ts) ≡ no_argument
unfolding onto_tokens with_part line_with string_in_front
resumed_string part l ts o (inl some) (Copies k bytes line more (inl str) is) =
    ap (λ (us : List SourceToken). string_in_front (onto_tokens part l us)) is
    ∙ ap (λ (m : Kind). string_in_front (record { sort = Ordinary m; bytes = part ++ bytes; line = l } ∷ more)) str
    ∙ long_string (part ++ bytes) l more (omega (arith, line_ends-append part bytes))
resumed_string part l ts o (inl some) (Copies k bytes line more (inr block) is) = grind arith
resumed_string part l ts o (inr ended) (Copies k bytes line more open_ is) =
    ap (λ (us : List SourceToken). string_in_front (onto_tokens part l us)) ended
resumed_string part l ts o h (Breaks k bytes line is) =
    ap (λ (us : List SourceToken). string_in_front (onto_tokens part l us)) is

module _ (most l room : ℕ) (rest : List ℕ) where
  -- the tokens of what is held and after it, on the line of the directive
  abbrev tokens_after : List ℕ → List SourceToken
  tokens_after z = remaining_tokens most Plain l l z room rest

  -- a string that closes, but not on its line
  closed_long : (z : List ℕ) → EndsLine z rest → 0 < length z → (token_of Plain z).kind ≡ Str → (token_of Plain z).next_mode ≡ Plain
      → ((n : ℕ) → ClosesString z n → ⊥) → string_in_front (tokens_after z) ≡ no_argument
  unfolding is_kept_kind
  closed_long z ends some is closed none =
      let t = token_of Plain z in
      let w = take t.len z in
      let P : Option ℕ → Type 0 = λ o. ended_line_len w ≡ o → 0 < line_ends w in
      let at_none : P None = λ e. absurd (none t.len (record { some = some; kind = is; closed = closed; whole = refl; line = e })) in
      let at_some : (n : ℕ) → P (Some n) = λ n e. ended_some w n e in
      let has : 0 < line_ends w = elim (ended_line_len w) as P [ None ↦ at_none | Some n ↦ at_some n ] refl in
      let following = remaining_tokens most Plain l (l + line_ends w) (drop t.len z) room rest in
      ap string_in_front (remaining-closed most Plain l l z room rest some ends (ap is_kept_kind is) closed)
      ∙ ap (λ (k : Kind). string_in_front (record { sort = Ordinary k; bytes = w; line = l } ∷ following)) is
      ∙ long_string w l following has

  -- a string that doesn't close on its line, by what is held of it
  string_by_seam : (z : List ℕ) (v : Token) → Seam z [] (token_of Plain z) v → EndsLine z rest → 0 < length z → (token_of Plain z).kind ≡ Str
      → ((n : ℕ) → ClosesString z n → ⊥) → string_in_front (tokens_after z) ≡ no_argument
  unfolding string_in_front opening_token
  string_by_seam z v (Closed e closed) ends some is none = closed_long z ends some is closed none
  string_by_seam z v (BeforePerl e at lt perl) ends some is none =
      ap string_in_front (remaining-cut_string most Plain l l z room rest some ends is (ap (λ (t : Token). t.next_mode) at) lt)
  string_by_seam z v (OpenString at e) ends some is none =
      let ts = remaining_tokens most InStr l (l + line_ends z) [] room rest in
      let ended : (0 < line_ends z) ⊎ (ts ≡ only_broken StringOpen l) =
      ⊎_elim (λ whole. inl (whole-line_ends z some whole))
      (λ gone. inr (ap (λ (r : List ℕ). remaining_tokens most InStr l (l + line_ends z) [] room r) gone ∙ open_at_end most l (l + line_ends z) room)) ends in
      ap string_in_front (remaining-open_string most Plain l l z room rest some ends (ap (λ (t : Token). t.next_mode) at) (ap (λ (t : Token). t.len) at))
      ∙ resumed_string z l ts l ended (remaining-in_string most l (l + line_ends z) [] room rest)
  string_by_seam z v (OpenComment at e) ends some is none = absurd (let block = ap (λ (t : Token). t.kind) at in cc)

  -- no string in front that closes on its line
  no_string : (z : List ℕ) → EndsLine z rest → (z ≡ [] → rest ≡ []) → ((n : ℕ) → ClosesString z n → ⊥) → string_in_front (tokens_after z) ≡ no_argument
  unfolding string_in_front
  no_string [] ends gone none = ap string_in_front (nothing_tokens most l room rest (gone refl))
  no_string (b ∷ w) ends gone none =
      let z = b ∷ w in
      let some : 0 < length z = omega arith in
      let f : FirstToken (token_of Plain z).kind (tokens_after z) = remaining-first most l l z room rest some ends in
      ⊎_elim (λ is. string_by_seam z (token_of Plain (z ++ [])) (token_of-seam Plain z [] some (inl refl)) ends some is none)
      (λ other. ap string_in_front f.is ∙ no_string_by f.first.sort f.first.bytes f.first.line f.more (token_of Plain z).kind f.kind other)
      (kind_case (token_of Plain z).kind)

  -- so it is where none closes
  lacks_string : (z : List ℕ) → EndsLine z rest → (z ≡ [] → rest ≡ []) → IsClosedString z 0 → string_in_front (tokens_after z) ≡ no_argument
  lacks_string z ends gone (Closes c) = absurd (omega (arith, c.whole, (token_of-part Plain z c.some).not_empty))
  lacks_string z ends gone (OpensString none zero_is) = no_string z ends gone none

  -- no blanks in front
  lacks_blank : (z : List ℕ) → EndsLine z rest → (z ≡ [] → rest ≡ []) → (0 < length z → (token_of Plain z).kind ≡ Blank → ⊥) → past_blanks string_in_front (tokens_after z) ≡ string_in_front (tokens_after z)
  unfolding string_in_front past_blanks
  lacks_blank [] ends none other = let e = nothing_tokens most l room rest (none refl) in ap (past_blanks string_in_front) e ∙ sym (ap string_in_front e)
  lacks_blank (b ∷ w) ends none other =
      let f : FirstToken (token_of Plain (b ∷ w)).kind (tokens_after (b ∷ w)) = remaining-first most l l (b ∷ w) room rest (omega arith) ends in
      ap (past_blanks string_in_front) f.is ∙ no_blank_by f.first.sort f.first.bytes f.first.line f.more (token_of Plain (b ∷ w)).kind f.kind (other (omega arith)) ∙ sym (ap string_in_front f.is)

  -- after the word: no string
  string_missing : (r : List ℕ) (bl : ℕ) → EndsLine r rest → (r ≡ [] → rest ≡ []) → (drop bl r ≡ [] → rest ≡ []) → IsLead Blank r bl → IsClosedString (drop bl r) 0
      → argument_of Include (tokens_after r) ≡ no_argument
  unfolding argument_of past_blanks after_blanks no_argument
  string_missing r bl ends none gone (Leads some is len) closed =
      ap (past_blanks string_in_front) (blank_lead most l room rest r bl ends some is len)
      ∙ ap (after_blanks (blank_token (take bl r) l)) (lacks_string (drop bl r) (EndsLine-drop bl r rest ends) gone closed)
  string_missing r bl ends none gone (Lacks lacks zero_is) closed =
      let at_zero : IsClosedString r 0 = subst (λ (m : ℕ). IsClosedString (drop m r) 0) zero_is closed in
      lacks_blank r ends none lacks ∙ lacks_string r ends none at_zero

-- an `include` without a string on its line in front
pub no_string_in_front_of : {R : Type 0} (unread : R → List ℕ) (b : BufferView R) → HoldsFront b → b.mode ≡ Plain → LacksArgument IsClosedString Include (held_of b) → GivenInFront Include unread b None (length (directive_word Include))
no_string_in_front_of unread b holds mode lacks =
    let held = held_of b in
    let rest = rest_of unread b in
    let n = length (directive_word Include) in
    let r = drop n held in
    let ends = ends_line unread b holds.ends in
    let bl = lacks.none.start in
    nothing_in_front_of Include unread b holds mode include_word lacks.word
    (string_missing b.line_bytes b.line b.bytes_left rest r bl (EndsLine-drop n held rest ends)
    (gone_word Include held rest holds.some ends lacks.word) (gone_blanks Include held rest holds.some ends lacks.word bl lacks.none.space)
    lacks.none.space lacks.none.none)
