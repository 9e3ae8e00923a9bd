-- What remains of the open sources after skipped text that is passed.
use Rattle.std.proofs.Common.{◌≡◌, ℕ, ◌+◌, ◌-◌, ◌<◌, Bool, true, false, cond, List, [], ◌∷◌, ◌++◌, length, take, drop, Option, None, Some, refl, sym, ap, subst, ◌∙◌, arith, ◌≤◌, slice_index, take-add, eqb-true, length-drop}
use Rattle.std.specs.List.{list_all}
use Rattle.std.proofs.lemmas.Bool.{and_parts}
use Rattle.rdlpp_scan.specs.Bytes.{is_line_end, is_word}
use Rattle.rdlpp_scan.specs.Front as breach
use Rattle.rdlpp_scan.specs.Front.{PerlFound}
use Rattle.rdlpp_scan.specs.Ordinary.{is_plain_kind}
use Rattle.rdlpp_scan.specs.Reserved.{directive_named, directive_word, is_reserved}
use Rattle.rdlpp_scan.specs.Resumed.{opening}
use Rattle.rdlpp_scan.specs.SourceTokens.{SourceToken, line_ends, line_len}
use Rattle.rdlpp_scan.specs.Tokens.{plain_len, token_of, whole}
use Rattle.rdlpp_scan.specs.declared.token.Directive.{Directive}
use Rattle.rdlpp_scan.specs.declared.token.Directive.TheVariants.{Define, Include, Line, Undef}
use Rattle.rdlpp_scan.specs.declared.token.Kind.{Kind}
use Rattle.rdlpp_scan.specs.declared.token.Kind.TheVariants.{Back, BareBackquote, Perl}
use Rattle.rdlpp_scan.specs.declared.token.Mode.{Mode}
use Rattle.rdlpp_scan.specs.declared.token.Mode.TheVariants.{InBlock, InStr, Plain}
use Rattle.rdlpp_scan.specs.declared.token.Token.{Token}
use Rattle.rdlpp_scan.proofs.DirectiveNames.{unreserved}
use Rattle.rdlpp_scan.proofs.SourceLaws.{line_ends-append, line_ends-cons}
use Rattle.rdlpp_scan.proofs.StopKinds.{AtBack, AtBare, AtBlockComment, AtLineComment, AtPerl, AtPlain, AtString, Row, token_of-row}
use Rattle.rdlpp_scan.proofs.TokenSteps.{word-line_end}
use Rattle.rdlpp_define.specs.Macros.{Macro}
use Rattle.rdlpp_define.specs.declared.limits.Limits.{Limits}
use Rattle.rdlpp_meaning.specs.Moves.{in_branch, move_of, moves_on, single_move, skipped_move}
use Rattle.rdlpp_meaning.specs.Meaning.{Passage, Progress, after_bytes, leaves}
use Rattle.rdlpp_meaning.specs.Opened.{Waiting, all_resumed}
use Rattle.rdlpp_meaning.specs.Outcome.{Report, fails}
use Rattle.rdlpp_meaning.specs.Parts.{line_ends_of, only_blanks}
use Rattle.rdlpp_meaning.specs.Resumed.{Place, Skipped}
use Rattle.rdlpp_meaning.specs.State.{Rules, State, breach_kind, fault_at}
use Rattle.rdlpp_meaning.specs.declared.fault.FaultKind.TheVariants as fault
use Rattle.rdlpp_meaning.specs.declared.fault.FaultKind.TheVariants.{OpenConditional}
use Rattle.rdlpp_meaning.proofs.Skipping.{has_own_token, stands_by_itself}
use Rattle.rdlpp_meaning.proofs.Outcomes.{after_bytes-twice}
use Rattle.rdlpp_meaning.proofs.LiveText.{line_ends_of-append, only_blanks-append}
use Rattle.rdlpp_read.specs.Conditions.{ConditionsView, place_of}
use Rattle.rdlpp_read.specs.ConditionMoves.{skipped_by}
use Rattle.rdlpp_read.specs.Buffer.{BufferView, EndsHeld, ahead_of, entered_mode, held_of, rest_of, text_left, tokens_left}
use Rattle.rdlpp_read.specs.Files.{consumed_file, inner_buffer, ends_mid_line_after, with_buffer, with_inner}
use Rattle.rdlpp_read.specs.Filling.{Fills}
use Rattle.rdlpp_read.specs.LogicalLines.{HoldsLine}
use Rattle.rdlpp_front.specs.SkippedText.{Begins, IsPassed, IsPassedOnce, OneToken, Onward, Stretch, counts, counts_skipped, stops_at, stops_closed, stops_skipping}
use Rattle.rdlpp_read.specs.declared.buffer.extending.LogicalLine.TheVariants as line
use Rattle.rdlpp_read.specs.declared.buffer.filling.Fill.TheVariants as fill
use Rattle.rdlpp_read.specs.declared.files.File.{File}
use Rattle.rdlpp_read.proofs.BufferTokens.{consumed_ends}
use Rattle.rdlpp_front.specs.SourceItems.{AtOrdinary, IsDirective, IsText, IsUsage, is_text_kind}
use Rattle.rdlpp_front.specs.SourceLeft.{HoldsFront, source_left, with_file_buffer}
use Rattle.rdlpp_front.proofs.TextLeft.{holds_define, perl_tokens, skipped_text_left, unclosed_left, define_moves, line_moves}
use Rattle.rdlpp_front.proofs.Insides.{back_front, back_text, bare_at_front, held_used, named_word, stops_at_front, text_at_front, tokens_entered, tokens_plain, tokens_used, usage_word, used_buffer, word_len}
use Rattle.rdlpp_front.proofs.NamedDirectives.{word_line_ends}
use Rattle.rdlpp_front.proofs.DirectivesLeft.{skipped_bare_left, skipped_unclosed_left, skipped_usage_left, skipped_word_left}
use Rattle.rdlpp_state.specs.Conditionals.{AnyUsage, IsSkippedWord, LoneBackquote, PassedWord, unclosed_fault}
use Rattle.rdlpp_state.specs.OpenConditionals.{inner_below, outer_open}
use Rattle.rdlpp_state.specs.Remaining.{file_state, include_stack_left, include_stack_state, waiting_around}
use Rattle.rdlpp_state.proofs.IncludeStackLeft.{fails_include_stack, moved, include_stack_broken, none_held, place_inside, place_skipped, text_entered, ends_mid_line_consumed, waiting_same}

-- What remains after a stretch of skipped text that is passed: its LF bytes come before.

-- a directive that doesn't count stands by itself, and is a word
uncounted : (d : Directive) → counts d ≡ false → (stands_by_itself d ≡ true) × (has_own_token d ≡ false)
unfolding counts stands_by_itself has_own_token
uncounted Undef e = (refl, refl)
uncounted Include e = (refl, refl)
uncounted _ e = cc

-- whether its word counts
word_counts : (d : Directive) → counts_skipped (directive_word d) ≡ counts d
unfolding counts_skipped counts directive_named
word_counts Undef = refl
word_counts _ = refl

word_ends : (bs : List ℕ) → list_all is_word bs ≡ true → line_ends bs ≡ 0
unfolding line_ends
word_ends [] e = refl
word_ends (b ∷ bs) e =
    let parts = and_parts (is_word b) (list_all is_word bs) e in
    line_ends-cons b bs ∙ rw (word-line_end b parts.0, word_ends bs parts.1) refl

-- a backquote is no line end
backquote_ends : (name : List ℕ) → line_ends name ≡ 0 → line_ends (96 ∷ name) ≡ 0
unfolding is_line_end
backquote_ends name none = line_ends-cons 96 name ∙ ap (λ (k : ℕ). cond (is_line_end 96) 1 0 + k) none

-- what a token that doesn't stop is
record Goes (kind : Kind) (next : Mode) (word : List ℕ) : Type 0 where
  closed : next ≡ Plain
  perl : kind ≡ Perl → ⊥
  back : kind ≡ Back → counts_skipped word ≡ false

goes_by : (kind : Kind) (next : Mode) (word : List ℕ) → (elim next [ Plain ↦ stops_closed kind word | _ ↦ true ]) ≡ false → Goes kind next word
unfolding stops_closed
goes_by kind Plain word e = grind arith
goes_by kind InStr word e = cc
goes_by kind InBlock word e = cc

-- a lone backquote is one byte
bare_is : (bs : List ℕ) (t : Token) → Row bs t → t.kind ≡ BareBackquote → (t.len ≡ 1) × (slice_index bs 0 ≡ 96)
unfolding whole is_plain_kind
bare_is bs t (AtPerl h e) k = let i = ap (λ (u : Token). u.kind) e in absurd (cc)
bare_is bs t (AtLineComment h e) k = absurd (cc)
bare_is bs t (AtBlockComment h e) k = absurd (cc)
bare_is bs t (AtString h e) k = absurd (cc)
bare_is bs t (AtBack h e) k = let i = ap (λ (u : Token). u.kind) e in absurd (cc)
bare_is bs t (AtBare h g e) k = (ap (λ (u : Token). u.len) e, eqb-true (slice_index bs 0) 96 h)
bare_is bs t (AtPlain h q) k = absurd (let no : false ≡ true = sym (ap is_plain_kind k) ∙ h in cc)

-- a backquote is no line end
one_byte : (bs : List ℕ) → slice_index bs 0 ≡ 96 → line_ends (take 1 bs) ≡ 0
unfolding line_ends is_line_end
one_byte [] e = refl
one_byte (b ∷ bs) e = let is : b ≡ 96 = e in ap (λ (x : ℕ). line_ends (x ∷ [])) is

-- words in front have no line ends: a lone backquote
pub bare_ends : (held : List ℕ) → (token_of Plain held).kind ≡ BareBackquote → line_ends (take 1 held) ≡ 0
bare_ends held kind = one_byte held (bare_is held (token_of Plain held) (token_of-row held) kind).1

-- a usage
front_ends : (held : List ℕ) → (token_of Plain held).kind ≡ Back → is_reserved (take ((token_of Plain held).len - 1) (drop 1 held)) ≡ false → line_ends (take (token_of Plain held).len held) ≡ 0
front_ends held kind free = grind (arith, back_text, back_front, backquote_ends, word_ends, usage_word)

pub usage_ends : (held : List ℕ) (len : ℕ) → IsUsage held len → line_ends (take len held) ≡ 0
usage_ends held len usage = grind (arith, front_ends)

-- the word of a directive
pub directive_ends : (d : Directive) (held : List ℕ) → 0 < length held → IsDirective d held → line_ends (take (length (directive_word d)) held) ≡ 0
directive_ends d held some is =
    ap (λ (k : ℕ). line_ends (take k held)) (sym (word_len d held some is)) ∙ ap line_ends is.word ∙ word_line_ends d

-- what is held ends as before in each mode
same_ends : {R : Type 0} (b : BufferView R) → EndsHeld b → EndsHeld (entered_mode b Plain)
unfolding held_of entered_mode ahead_of
same_ends b ends = ends

-- the kinds of what may stand in front
data Case (kind : Kind) : Type 0 where
  IsBack : kind ≡ Back → Case kind
  IsBare : kind ≡ BareBackquote → Case kind
  IsOther : (kind ≡ Back → ⊥) → (kind ≡ BareBackquote → ⊥) → Case kind

case_of : (kind : Kind) → Case kind
case_of Back = IsBack refl
case_of BareBackquote = IsBare refl
case_of kind = IsOther (λ e. cc) (λ e. cc)

module _ {R : Type 0} (rules : Rules) (unread : R → List ℕ) (ws : List Waiting) (n : ℕ) (p : Progress) (os : List Progress) (s : State)
  where
    -- what remains of a source in skipped text
    abbrev left : File R → Passage
    left f = source_left rules unread ws (Skipped n p os) f s

    -- a source of which so many bytes are passed, after which plain text stands
    abbrev pub passed : File R → ℕ → File R
    passed f len = consumed_file len (line_ends (take len (held_of f.buffer))) (with_file_buffer (entered_mode f.buffer Plain) f)

    -- the LF bytes of what is passed, and then what remains
    abbrev pub Passes : File R → ℕ → Type 0
    Passes f len = left f ≡ after_bytes (line_ends_of (take len (held_of f.buffer))) (left (passed f len))

    -- a word without line ends
    word_passes : (f : File R) (len : ℕ) → f.buffer.mode ≡ Plain → line_ends (take len (held_of f.buffer)) ≡ 0
        → left f ≡ after_bytes (line_ends_of (take len (held_of f.buffer))) (left (consumed_file len 0 f)) → Passes f len
    unfolding source_left entered_mode held_of
    word_passes f len mode none law =
        let b = f.buffer in
        let w = take len (held_of b) in
        let at : BufferView R → Passage = λ x. all_resumed rules ws (Skipped n p os) (only_blanks f.blanks w) (tokens_left unread x) s in
        let same : tokens_left unread (used_buffer b len 0) ≡ tokens_left unread (used_buffer (entered_mode b Plain) len 0) =
        sym (tokens_used unread b len 0 (opening b.mode b.open_token_line b.line) mode) ∙ tokens_entered unread b len 0 Plain in
        law
        ∙ ap (λ (ts : List SourceToken). after_bytes (line_ends_of w) (all_resumed rules ws (Skipped n p os) (only_blanks f.blanks w) ts s)) same
        ∙ ap (λ (k : ℕ). after_bytes (line_ends_of w) (at (used_buffer (entered_mode b Plain) len k))) (sym none)

    -- a usage, or the word of a directive that doesn't count
    back_passes : (f : File R) → HoldsFront f.buffer → f.buffer.mode ≡ Plain → (token_of Plain (held_of f.buffer)).kind ≡ Back
        → counts_skipped (take (token_of Plain (held_of f.buffer)).len (held_of f.buffer)) ≡ false
        → (named : Option Directive) → directive_named (take ((token_of Plain (held_of f.buffer)).len - 1) (drop 1 (held_of f.buffer))) ≡ named
        → Passes f (token_of Plain (held_of f.buffer)).len
    back_passes f holds mode kind passed None named = grind (arith, unreserved, back_text, back_front, word_passes, backquote_ends, word_ends, usage_word, skipped_usage_left)
    back_passes f holds mode kind passed (Some d) named =
        let held = held_of f.buffer in
        let len = (token_of Plain held).len in
        let name = take (len - 1) (drop 1 held) in
        let text : take len held ≡ directive_word d = back_text held (back_front held kind) kind ∙ named_word name d named in
        let is : IsDirective d held = record { kind = kind; word = text } in
        let own = uncounted d (sym (word_counts d) ∙ (ap counts_skipped (sym text) ∙ passed)) in
        subst (λ (k : ℕ). Passes f k) (sym (word_len d held holds.some is))
        (word_passes f (length (directive_word d)) mode
        (ap (λ (k : ℕ). line_ends (take k held)) (sym (word_len d held holds.some is)) ∙ ap line_ends text ∙ word_line_ends d)
        (skipped_word_left rules unread ws n p os f s d own.1 own.0 holds mode is))

    -- a lone backquote
    bare_passes : (f : File R) → HoldsFront f.buffer → f.buffer.mode ≡ Plain → (token_of Plain (held_of f.buffer)).kind ≡ BareBackquote → Passes f (token_of Plain (held_of f.buffer)).len
    bare_passes f holds mode kind =
        let held = held_of f.buffer in
        let is = bare_is held (token_of Plain held) (token_of-row held) kind in
        subst (λ (k : ℕ). Passes f k) (sym is.0)
        (word_passes f 1 mode (one_byte held is.1) (skipped_bare_left rules unread ws n p os f s holds mode kind))

    -- a string or a comment
    text_passes : (f : File R) → HoldsFront f.buffer → let t = token_of f.buffer.mode (held_of f.buffer) in
        is_text_kind t.kind ≡ true → t.next_mode ≡ Plain → Passes f t.len
    text_passes f holds text closed = grind (arith, skipped_text_left)

    -- what stands in front, in a mode
    abbrev FrontPasses : File R → Mode → Type 0
    FrontPasses f m = let t = token_of m (held_of f.buffer) in Goes t.kind t.next_mode (take t.len (held_of f.buffer))

    -- one token of plain text that doesn't stop, where no ordinary text stands in front
    plain_passes : (f : File R) → f.buffer.mode ≡ Plain → HoldsFront f.buffer → plain_len (held_of f.buffer) ≡ 0 → FrontPasses f Plain
        → Case (token_of Plain (held_of f.buffer)).kind → Passes f (token_of Plain (held_of f.buffer)).len
    plain_passes f mode holds none goes (IsBack kind) = back_passes f holds mode kind (goes.back kind) _ refl
    plain_passes f mode holds none goes (IsBare kind) = bare_passes f holds mode kind
    plain_passes f mode holds none goes (IsOther back bare) = grind (arith, text_at_front, stops_at_front, bare_at_front, text_passes)

    -- one token that doesn't stop, by the mode
    token_passes : (f : File R) (m : Mode) → f.buffer.mode ≡ m → HoldsFront f.buffer → (m ≡ Plain → plain_len (held_of f.buffer) ≡ 0) → FrontPasses f m → Passes f (token_of m (held_of f.buffer)).len
    token_passes f Plain mode holds none goes = plain_passes f mode holds (none refl) goes (case_of (token_of Plain (held_of f.buffer)).kind)
    token_passes f InStr mode holds none goes = grind (arith, text_passes, text_at_front)
    token_passes f InBlock mode holds none goes = grind (arith, text_passes, text_at_front)

    -- one step
    once_passes : (f : File R) (m : Mode) (held : List ℕ) (len : ℕ) (next : Mode) → f.buffer.mode ≡ m → held_of f.buffer ≡ held → HoldsFront f.buffer → IsPassedOnce m held len next
        → Passes f len × (next ≡ Plain)
    unfolding stops_at stops_skipping
    once_passes f m held len next mode is holds (Stretch plain some whole following) =
        (skipped_text_left rules unread ws n p os f s len (line_ends (take len (held_of f.buffer))) Plain holds (AtOrdinary (mode ∙ plain) refl some (whole ∙ ap plain_len (sym is))) refl, following)
    once_passes f m held len next mode is holds (OneToken none goes whole following) =
        let t = token_of m held in
        let front : Goes t.kind t.next_mode (take t.len held) = goes_by t.kind t.next_mode (take t.len held) goes in (
          subst (λ (k : ℕ). Passes f k) (ap (λ (h : List ℕ). (token_of m h).len) is ∙ sym whole)
              (token_passes f m mode holds (λ e. ap plain_len is ∙ none e) (subst (λ (h : List ℕ). Goes (token_of m h).kind (token_of m h).next_mode (take (token_of m h).len h)) (sym is) front)),
          following ∙ front.closed,
        )

    -- a part and then one more are one
    passed_twice : (f : File R) (from len : ℕ) → left (passed (passed f from) len) ≡ left (passed f (from + len))
    unfolding source_left entered_mode held_of rest_of ahead_of
    passed_twice f from len =
        let b = f.buffer in
        let held = held_of b in
        let one = passed f from in
        let two = passed one len in
        let both = passed f (from + len) in
        let rest : held_of one.buffer ≡ drop from held = held_used (entered_mode b Plain) from (line_ends (take from held)) in
        let text : take from held ++ take len (held_of one.buffer) ≡ take (from + len) held = ap (λ (h : List ℕ). take from held ++ take len h) rest ∙ sym (take-add from len held) in
        let blanks : two.blanks ≡ both.blanks = sym (only_blanks-append f.blanks (take from held) (take len (held_of one.buffer))) ∙ ap (only_blanks f.blanks) text in
        let lines : b.line + line_ends (take from held) + line_ends (take len (held_of one.buffer)) ≡ b.line + line_ends (take (from + len) held) =
        omega (arith, line_ends-append (take from held) (take len (held_of one.buffer)), ap line_ends text) in
        let at : b.at + from + len ≡ b.at + (from + len) = omega arith in
        let makes : ℕ → ℕ → BufferView R = λ k l. record (entered_mode b Plain) { at = k; line = l } in
        let tokens : tokens_left unread two.buffer ≡ tokens_left unread both.buffer =
        tokens_plain unread two.buffer refl
        ∙ sym (tokens_plain unread (makes (b.at + from + len) (b.line + line_ends (take from held) + line_ends (take len (held_of one.buffer)))) refl)
        ∙ ap (λ (k : ℕ). tokens_left unread (makes k (b.line + line_ends (take from held) + line_ends (take len (held_of one.buffer))))) at
        ∙ ap (λ (l : ℕ). tokens_left unread (makes (b.at + (from + len)) l)) lines in
        ap (λ (first : Bool). all_resumed rules ws (Skipped n p os) first (tokens_left unread two.buffer) s) blanks
        ∙ ap (λ (ts : List SourceToken). all_resumed rules ws (Skipped n p os) both.blanks ts s) tokens

    -- bytes are held after what is passed
    holds_after : (f : File R) (from : ℕ) → HoldsFront f.buffer → from < length (held_of f.buffer) → HoldsFront (passed f from).buffer
    unfolding entered_mode held_of
    holds_after f from holds inside =
        let b = f.buffer in
        let lines = line_ends (take from (held_of b)) in
        let rest : held_of (passed f from).buffer ≡ drop from (held_of b) = held_used (entered_mode b Plain) from lines in
        record {
          some = omega (arith, ap length rest, length-drop from (held_of b));
          ends = consumed_ends (entered_mode b Plain) (used_buffer (entered_mode b Plain) from lines) from (b.line + lines) refl (same_ends b holds.ends);
        }

    -- a part, and one step more
    one_more : (f : File R) (from len : ℕ) (mid next : Mode) → HoldsFront f.buffer → Passes f from × (mid ≡ Plain) → from < length (held_of f.buffer)
        → IsPassedOnce mid (drop from (held_of f.buffer)) len next → Passes f (from + len) × (next ≡ Plain)
    unfolding entered_mode held_of
    one_more f from len mid next holds so_far inside once =
        let b = f.buffer in
        let held = held_of b in
        let g = passed f from in
        let rest : held_of g.buffer ≡ drop from held = held_used (entered_mode b Plain) from (line_ends (take from held)) in
        let then_ = once_passes g mid (drop from held) len next (sym so_far.1) rest (holds_after f from holds inside) once in
        let text : take from held ++ take len (held_of g.buffer) ≡ take (from + len) held = ap (λ (h : List ℕ). take from held ++ take len h) rest ∙ sym (take-add from len held) in
        let all : line_ends_of (take from held) ++ line_ends_of (take len (held_of g.buffer)) ≡ line_ends_of (take (from + len) held) =
        sym (line_ends_of-append (take from held) (take len (held_of g.buffer))) ∙ ap line_ends_of text in (
          so_far.0
              ∙ ap (after_bytes (line_ends_of (take from held))) (then_.0 ∙ ap (after_bytes (line_ends_of (take len (held_of g.buffer)))) (passed_twice f from len))
              ∙ after_bytes-twice (line_ends_of (take from held)) (line_ends_of (take len (held_of g.buffer))) (left (passed f (from + len)))
              ∙ ap (λ (x : List ℕ). after_bytes x (left (passed f (from + len)))) all,
          then_.1,
        )

    -- a stretch after which one step more is passed
    stretch_by : (f : File R) (from len : ℕ) (mid next : Mode) → HoldsFront f.buffer → IsPassed f.buffer.mode (held_of f.buffer) from mid → from < length (held_of f.buffer)
        → IsPassedOnce mid (drop from (held_of f.buffer)) len next → Passes f (from + len) × (next ≡ Plain)
    stretch_by f from len mid next holds Begins inside once =
        let same : len ≡ 0 + len = omega arith in
        subst (λ (k : ℕ). Passes f k × (next ≡ Plain)) same (once_passes f f.buffer.mode (held_of f.buffer) len next refl refl holds once)
    stretch_by f from len mid next holds (Onward at more m following before within step) inside once =
        one_more f from len mid next holds (stretch_by f at more m following holds before within step) inside once

    -- a stretch
    pub stretch_passes : (f : File R) (len : ℕ) (next : Mode) → HoldsFront f.buffer → IsPassed f.buffer.mode (held_of f.buffer) len next → 0 < len → Passes f len × (next ≡ Plain)
    stretch_passes f len next holds Begins some = absurd (omega arith)
    stretch_passes f len next holds (Onward from more mid following before inside once) some = stretch_by f from more mid following holds before inside once

-- What remains of the open sources, as skipped text of the innermost one is passed, and where it ends with a conditional open.

module _ {R : Type 0} (limits : Limits) (rules : Rules) (unread : R → List ℕ) (macros : List Macro) (outer : List (File R)) (v : ConditionsView) (f : File R) where
  -- the state that the meaning goes on from
  abbrev here : State
  here = include_stack_state limits macros v (f ∷ outer)

  -- the sources that wait
  abbrev waiting : List Waiting
  waiting = waiting_around limits rules unread (outer_open f.conditions_below v.open_now) f outer

  -- the fault of a conditional that is open where its source ends, at the line that it showed
  abbrev pub fault_of_unclosed : Progress → Report
  fault_of_unclosed o = record { kind = OpenConditional; name = here.name; line = o.line; word = [] }

  module _ (o : Progress) (os : List Progress) (is_open : v.open_now ≡ o ∷ os) (below : f.conditions_below ≤ length os) where
    -- its own conditionals around the innermost
    abbrev own_conditionals : List Progress
    own_conditionals = take (length os - f.conditions_below) os

    -- a stretch of skipped text is passed, and its LF bytes are written
    pub include_stack_stretch : (n len : ℕ) (next : Mode) → v.skipped ≡ Some n → HoldsFront f.buffer
        → IsPassed f.buffer.mode (held_of f.buffer) len next → 0 < len
        → include_stack_left limits rules unread macros v (f ∷ outer)
        ≡ after_bytes (line_ends_of (take len (held_of f.buffer)))
        (include_stack_left limits rules unread macros v (consumed_file len (line_ends (take len (held_of f.buffer))) (with_file_buffer (entered_mode f.buffer Plain) f) ∷ outer))
    unfolding include_stack_left include_stack_state file_state
    include_stack_stretch n len next skips holds passes some =
        let w = take len (held_of f.buffer) in
        let entered = with_file_buffer (entered_mode f.buffer Plain) f in
        let g = consumed_file len (line_ends w) entered in
        let place = place_skipped f.conditions_below v n o os is_open below skips in
        let left : Place → List Waiting → File R → Passage = λ p ws x. source_left rules unread ws p x here in
        ap (λ (p : Place). left p waiting f) place
        ∙ (stretch_passes rules unread waiting n o own_conditionals here f len next holds passes some).0
        ∙ ap (λ (p : Place). after_bytes (line_ends_of w) (left p waiting g)) (sym place)
        ∙ ap (λ (ws : List Waiting). after_bytes (line_ends_of w) (left (place_of f.conditions_below v) ws g))
        (sym (waiting_same limits rules unread (outer_open f.conditions_below v.open_now) f g outer
        (ends_mid_line_consumed unread entered len (line_ends w) ∙ ap (ends_mid_line_after f.ends_mid_line) (text_entered unread f.buffer Plain)) refl))

    module _ (has_known_texts : Type 0) (t : has_known_texts) (new : BufferView R) (fills : Fills has_known_texts unread fill.End f.buffer new) (plain : f.buffer.mode ≡ Plain) where
      -- the source ends in a branch of a conditional of its own
      pub include_stack_unclosed : (live : Bool) → v.skipped ≡ skipped_by live
          → include_stack_left limits rules unread macros v (f ∷ outer) ≡ leaves (fails (fault_of_unclosed o)) here
      unfolding in_branch
      include_stack_unclosed true skips =
          fails_include_stack limits rules unread macros outer v f (in_branch true o own_conditionals) _ (place_inside f.conditions_below v true o os is_open below skips)
          (unclosed_left rules unread waiting own_conditionals f here o has_known_texts new fills t plain)
      include_stack_unclosed false skips =
          fails_include_stack limits rules unread macros outer v f (in_branch false o own_conditionals) _ (place_inside f.conditions_below v false o os is_open below skips)
          (skipped_unclosed_left rules unread waiting o own_conditionals f here 0 has_known_texts new fills t plain)

      -- and so it is where more conditionals opened in skipped text
      pub include_stack_unclosed_inner : (n : ℕ) → v.skipped ≡ Some n
          → include_stack_left limits rules unread macros v (f ∷ outer) ≡ leaves (fails (fault_of_unclosed o)) here
      include_stack_unclosed_inner n skips =
          fails_include_stack limits rules unread macros outer v f (Skipped n o own_conditionals) _ (place_skipped f.conditions_below v n o os is_open below skips)
          (skipped_unclosed_left rules unread waiting o own_conditionals f here n has_known_texts new fills t plain)

-- What remains of the open sources after skipped text that is passed in the innermost one, and where a conditional of its own is open
-- at its end.

-- bytes are held of the innermost source
pub record IsHeldFront {R : Type 0} (include_stack : List (File R)) : Type 0 where
  pub some : 0 < length (held_of (inner_buffer include_stack))
  pub ends : EndsHeld (inner_buffer include_stack)

holds_front : {R : Type 0} (f : File R) (outer : List (File R)) → IsHeldFront (f ∷ outer) → HoldsFront f.buffer
holds_front f outer h = record { some = h.some; ends = h.ends }

module _ {R : Type 0} (limits : Limits) (rules : Rules) (unread : R → List ℕ) (macros : List Macro) (v : ConditionsView) (n : ℕ) (o : Progress) (os : List Progress) (is_open : v.open_now ≡ o ∷ os)
    (skips : v.skipped ≡ Some n) where
  -- the LF bytes of what is passed, and then what remains
  abbrev pub IncludeStackPasses : List (File R) → List ℕ → List (File R) → Type 0
  IncludeStackPasses include_stack w new = include_stack_left limits rules unread macros v include_stack ≡ after_bytes (line_ends_of w) (include_stack_left limits rules unread macros v new)

  -- the sources that wait
  abbrev around : File R → List (File R) → List Waiting
  around f outer = waiting_around limits rules unread (outer_open f.conditions_below v.open_now) f outer

  -- its own conditionals around the innermost
  abbrev own : File R → List Progress
  own f = take (length os - f.conditions_below) os

  -- what remains of the innermost source in skipped text
  abbrev include_stack_rest : File R → List (File R) → File R → Passage
  include_stack_rest f outer g = source_left rules unread (around f outer) (Skipped n o (own f)) g (include_stack_state limits macros v (f ∷ outer))

  -- a move in skipped text
  moved_skipped : (f g : File R) (outer : List (File R)) (x : List ℕ) → f.conditions_below ≤ length os
      → include_stack_state limits macros v (g ∷ outer) ≡ include_stack_state limits macros v (f ∷ outer)
      → include_stack_rest f outer f ≡ after_bytes x (include_stack_rest f outer g)
      → ends_mid_line_after g.ends_mid_line (text_left unread g.buffer) ≡ ends_mid_line_after f.ends_mid_line (text_left unread f.buffer) → g.include_line ≡ f.include_line → g.conditions_below ≡ f.conditions_below
      → include_stack_left limits rules unread macros v (f ∷ outer) ≡ after_bytes x (include_stack_left limits rules unread macros v (g ∷ outer))
  moved_skipped f g outer x below same law ends_mid_line line around_same =
      let place = place_skipped f.conditions_below v n o os is_open below skips in
      moved limits rules unread macros v f g outer macros x
      (subst (λ (s : State). source_left rules unread (around f outer) (place_of f.conditions_below v) f (include_stack_state limits macros v (f ∷ outer))
      ≡ after_bytes x (source_left rules unread (around f outer) (place_of f.conditions_below v) g s)) (sym same)
      (subst (λ (p : Place). source_left rules unread (around f outer) p f (include_stack_state limits macros v (f ∷ outer))
      ≡ after_bytes x (source_left rules unread (around f outer) p g (include_stack_state limits macros v (f ∷ outer)))) (sym place) law))
      ends_mid_line line around_same

  -- a stretch of it in which nothing counts
  pub passes_stretch : (include_stack : List (File R)) (len : ℕ) (next : Mode) → IsHeldFront include_stack → inner_below include_stack ≤ length os → IsPassed (inner_buffer include_stack).mode (held_of (inner_buffer include_stack)) len next → 0 < len
      → (next ≡ Plain) × IncludeStackPasses include_stack (take len (held_of (inner_buffer include_stack)))
      (with_inner (consumed_file len (line_ends (take len (held_of (inner_buffer include_stack))))) (with_buffer (entered_mode (inner_buffer include_stack) Plain) include_stack))
  passes_stretch [] len next h below passed some = absurd (none_held R h.some)
  passes_stretch (f ∷ outer) len next h below passed some =
      let s = include_stack_state limits macros v (f ∷ outer) in (
        (stretch_passes rules unread (around f outer) n o (own f) s f len next (holds_front f outer h) passed some).1,
        include_stack_stretch limits rules unread macros outer v f o os is_open below n len next skips (holds_front f outer h) passed some,
      )

  -- a part of a text
  pub passes_part : (include_stack : List (File R)) (len lines : ℕ) (next : Mode) → IsHeldFront include_stack → inner_below include_stack ≤ length os → IsText (inner_buffer include_stack).mode (held_of (inner_buffer include_stack)) len next
      → lines ≡ line_ends (take len (held_of (inner_buffer include_stack)))
      → IncludeStackPasses include_stack (take len (held_of (inner_buffer include_stack))) (with_inner (consumed_file len lines) (with_buffer (entered_mode (inner_buffer include_stack) next) include_stack))
  unfolding include_stack_state file_state
  passes_part [] len lines next h below text counted = absurd (none_held R h.some)
  passes_part (f ∷ outer) len lines next h below text counted =
      let entered = with_file_buffer (entered_mode f.buffer next) f in
      moved_skipped f (consumed_file len lines entered) outer (line_ends_of (take len (held_of f.buffer))) below refl
      (skipped_text_left rules unread (around f outer) n o (own f) f (include_stack_state limits macros v (f ∷ outer)) len lines next (holds_front f outer h) text counted)
      (ends_mid_line_consumed unread entered len lines ∙ ap (ends_mid_line_after f.ends_mid_line) (text_entered unread f.buffer next)) refl refl

  -- a word that doesn't count
  include_stack_word_passes : (f : File R) (outer : List (File R)) (len : ℕ) → f.conditions_below ≤ length os
      → include_stack_rest f outer f ≡ after_bytes (line_ends_of (take len (held_of f.buffer))) (include_stack_rest f outer (consumed_file len 0 f))
      → IncludeStackPasses (f ∷ outer) (take len (held_of f.buffer)) (consumed_file len 0 f ∷ outer)
  unfolding include_stack_state file_state
  include_stack_word_passes f outer len below law =
      moved_skipped f (consumed_file len 0 f) outer (line_ends_of (take len (held_of f.buffer))) below refl law (ends_mid_line_consumed unread f len 0) refl refl

  pub passes_word : (include_stack : List (File R)) (len : ℕ) → IsHeldFront include_stack → (inner_buffer include_stack).mode ≡ Plain → inner_below include_stack ≤ length os → IsSkippedWord (held_of (inner_buffer include_stack)) len
      → IncludeStackPasses include_stack (take len (held_of (inner_buffer include_stack))) (with_inner (consumed_file len 0) include_stack)
  passes_word [] len h plain below word = absurd (none_held R h.some)
  passes_word (f ∷ outer) len h plain below (LoneBackquote kind one) = grind (arith, include_stack_word_passes, skipped_bare_left, holds_front)
  passes_word (f ∷ outer) len h plain below (AnyUsage usage) =
      include_stack_word_passes f outer len below (skipped_usage_left rules unread (around f outer) n o (own f) f (include_stack_state limits macros v (f ∷ outer)) len (holds_front f outer h) plain usage)
  passes_word (f ∷ outer) len h plain below (PassedWord d passed is whole) =
      let alone = uncounted d passed in
      subst (λ (k : ℕ). IncludeStackPasses (f ∷ outer) (take k (held_of f.buffer)) (consumed_file k 0 f ∷ outer)) (sym whole)
      (include_stack_word_passes f outer (length (directive_word d)) below
      (skipped_word_left rules unread (around f outer) n o (own f) f (include_stack_state limits macros v (f ∷ outer)) d alone.1 alone.0 (holds_front f outer h) plain is))

  -- a `line`
  pub passes_line : (include_stack : List (File R)) (len lines : ℕ) → IsHeldFront include_stack → (inner_buffer include_stack).mode ≡ Plain → inner_below include_stack ≤ length os → IsDirective Line (held_of (inner_buffer include_stack))
      → len ≡ line_len (held_of (inner_buffer include_stack)) → lines ≡ line_ends (take len (held_of (inner_buffer include_stack)))
      → IncludeStackPasses include_stack (take len (held_of (inner_buffer include_stack))) (with_inner (consumed_file len lines) include_stack)
  unfolding include_stack_state file_state source_left move_of single_move skipped_move moves_on
  passes_line [] len lines h plain below is whole counted = absurd (none_held R h.some)
  passes_line (f ∷ outer) len lines h plain below is whole counted = grind (arith, moved_skipped, line_moves, holds_front, ends_mid_line_consumed)

  -- a `define`
  module _ (has_known_texts : Type 0) (t : has_known_texts) where
    pub passes_define : (include_stack : List (File R)) (new : BufferView R) (len lines : ℕ) → IsHeldFront include_stack → (inner_buffer include_stack).mode ≡ Plain → inner_below include_stack ≤ length os
        → IsDirective Define (held_of (inner_buffer include_stack)) → HoldsLine has_known_texts unread (line.Whole len) (inner_buffer include_stack) new → lines ≡ line_ends (take len (held_of new))
        → IncludeStackPasses include_stack (take len (held_of new)) (with_inner (consumed_file len lines) (with_buffer new include_stack))
    unfolding include_stack_state file_state source_left move_of single_move skipped_move moves_on
    passes_define [] new len lines h plain below is holds counted = absurd (none_held R h.some)
    passes_define (f ∷ outer) new len lines h plain below is holds counted =
        let held = with_file_buffer new f in
        moved_skipped f (consumed_file len lines held) outer (line_ends_of (take len (held_of new))) below refl
        (define_moves rules unread (around f outer) (Skipped n o (own f)) f (include_stack_state limits macros v (f ∷ outer)) has_known_texts new len lines holds t plain
        (holds_define unread f (holds_front f outer h) is) counted)
        (ends_mid_line_consumed unread held len lines ∙ ap (ends_mid_line_after f.ends_mid_line) (holds.text (λ e. cc) t)) refl refl

-- what ends the output, wherever the innermost source stands
module _ {R : Type 0} (limits : Limits) (rules : Rules) (unread : R → List ℕ) (macros : List Macro) (v : ConditionsView) where
  -- `<%`
  pub perl_at : (include_stack : List (File R)) → IsHeldFront include_stack → (token_of (inner_buffer include_stack).mode (held_of (inner_buffer include_stack))).kind ≡ Perl
      → include_stack_left limits rules unread macros v include_stack ≡ leaves (fails (fault_at fault.EmbeddedPerl (inner_buffer include_stack).line [] (include_stack_state limits macros v include_stack))) (include_stack_state limits macros v include_stack)
  unfolding breach_kind
  perl_at [] h is = absurd (none_held R h.some)
  perl_at (f ∷ outer) h is =
      include_stack_broken limits rules unread macros v (f ∷ outer) PerlFound f.buffer.line (omega arith) (perl_tokens unread f.buffer (holds_front f outer h) is)

  -- a `define` that is too long, or that its source's limit cuts
  module _ (has_known_texts : Type 0) (t : has_known_texts) where
    pub long_at : (include_stack : List (File R)) (new : BufferView R) → IsHeldFront include_stack → (inner_buffer include_stack).mode ≡ Plain → IsDirective Define (held_of (inner_buffer include_stack)) → HoldsLine has_known_texts unread line.TooLong (inner_buffer include_stack) new
        → include_stack_left limits rules unread macros v include_stack ≡ leaves (fails (fault_at fault.LineTooLong (inner_buffer include_stack).line [] (include_stack_state limits macros v include_stack))) (include_stack_state limits macros v include_stack)
    unfolding breach_kind
    long_at [] new h plain is holds = absurd (none_held R h.some)
    long_at (f ∷ outer) new h plain is holds =
        include_stack_broken limits rules unread macros v (f ∷ outer) breach.DefineLong f.buffer.line (omega arith)
        (holds.define t plain (holds_define unread f (holds_front f outer h) is))

    pub cut_at : (include_stack : List (File R)) (new : BufferView R) → IsHeldFront include_stack → (inner_buffer include_stack).mode ≡ Plain → IsDirective Define (held_of (inner_buffer include_stack)) → HoldsLine has_known_texts unread line.SourceLong (inner_buffer include_stack) new
        → include_stack_left limits rules unread macros v include_stack ≡ leaves (fails (fault_at fault.SourceTooLong (inner_buffer include_stack).line [] (include_stack_state limits macros v include_stack))) (include_stack_state limits macros v include_stack)
    unfolding breach_kind
    cut_at [] new h plain is holds = absurd (none_held R h.some)
    cut_at (f ∷ outer) new h plain is holds =
        include_stack_broken limits rules unread macros v (f ∷ outer) breach.DefineCut f.buffer.line (omega arith)
        (holds.define t plain (holds_define unread f (holds_front f outer h) is))

    -- the end of a source in which a conditional of its own is open
    unclosed_by : (f : File R) (outer : List (File R)) (new : BufferView R) (skipped : Option ℕ) (o : Progress) (os : List Progress) → v.skipped ≡ skipped → v.open_now ≡ o ∷ os → f.conditions_below ≤ length os
        → Fills has_known_texts unread fill.End f.buffer new → f.buffer.mode ≡ Plain
        → include_stack_left limits rules unread macros v (f ∷ outer) ≡ leaves (fails (unclosed_fault o.line (include_stack_state limits macros v (f ∷ outer)))) (include_stack_state limits macros v (f ∷ outer))
    unfolding skipped_by
    unclosed_by f outer new None o os skips is_open below fills plain = include_stack_unclosed limits rules unread macros outer v f o os is_open below has_known_texts t new fills plain true skips
    unclosed_by f outer new (Some n) o os skips is_open below fills plain = include_stack_unclosed_inner limits rules unread macros outer v f o os is_open below has_known_texts t new fills plain n skips

    pub unclosed_at : (include_stack : List (File R)) (new : BufferView R) (o : Progress) (os : List Progress) → 0 < length include_stack → v.open_now ≡ o ∷ os → inner_below include_stack ≤ length os
        → Fills has_known_texts unread fill.End (inner_buffer include_stack) new → (inner_buffer include_stack).mode ≡ Plain
        → include_stack_left limits rules unread macros v include_stack ≡ leaves (fails (unclosed_fault o.line (include_stack_state limits macros v include_stack))) (include_stack_state limits macros v include_stack)
    unclosed_at [] new o os some is_open below fills plain = absurd (omega arith)
    unclosed_at (f ∷ outer) new o os some is_open below fills plain = unclosed_by f outer new v.skipped o os refl is_open below fills plain
