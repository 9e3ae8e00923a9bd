-- What text, a usage, a `define`, a `line` and an end in front do to what remains.
use Rattle.std.proofs.Common.{◌≡◌, ℕ, ◌+◌, ◌<◌, Bool, true, false, List, [], ◌∷◌, ◌++◌, length, take, drop, refl, sym, ap, ◌∙◌, subst, inl, arith, None, suc, ◌≤◌, ◌==◌, not, cond, ◌&&◌, Option, Some, inr, ◌⊎◌, option_map, IfSome, bytes_eq, codes, append_assoc, length-append, length-drop, length-take-le, take-append-drop}
use Rattle.std.proofs.Math.Seq.{take-length}
use Rattle.std.proofs.lemmas.Bool.{false≢true}
use Rattle.std.proofs.lemmas.List.{drop-take, drop_all}
use Rattle.rdlpp_scan.specs.Bytes.{begins_perl, is_line_end}
use Rattle.rdlpp_scan.specs.Defines.{HoldsDefine}
use Rattle.rdlpp_scan.specs.Front.{Breach, PerlFound}
use Rattle.rdlpp_scan.specs.Lines.{EndsLine, ended_line_len}
use Rattle.rdlpp_scan.specs.Reserved.{directive_word, is_reserved, reserved_names}
use Rattle.rdlpp_scan.specs.Resumed.{line_with, onto_tokens, opening, with_part}
use Rattle.rdlpp_scan.specs.SourceTokens.{Broken, Ordinary, SourceToken, is_continued, line_ends, line_len, logical_len, remaining_tokens, Definition, Renumbering}
use Rattle.rdlpp_scan.specs.Tokens.{plain_len, token_of}
use Rattle.rdlpp_scan.specs.declared.token.Directive.TheVariants.{Define, Line}
use Rattle.rdlpp_scan.specs.declared.token.Kind.{Kind}
use Rattle.rdlpp_scan.specs.declared.token.Kind.TheVariants.{Back, BlockComment, LineComment, Perl, Str}
use Rattle.rdlpp_scan.specs.declared.token.Mode.{Mode}
use Rattle.rdlpp_scan.specs.declared.token.Mode.TheVariants.{InBlock, InStr, Plain}
use Rattle.rdlpp_scan.specs.declared.token.Token.{Token}
use Rattle.rdlpp_scan.proofs.TokenSteps.{is_kept_kind, logical_len-within}
use Rattle.rdlpp_scan.proofs.SourceLaws.{line_len-le, line_len-open, line_len-some, some_suc}
use Rattle.rdlpp_scan.proofs.RemainingLaws.{Breaks, Copies, GoesThrough, Resumes, perl_in_string, remaining-back, remaining-bare, remaining-closed, remaining-cut_string, remaining-in_comment, remaining-in_string, remaining-line, remaining-open_comment, remaining-open_string, remaining-opened, remaining-ordinary, remaining-perl, remaining-perl_in_string}
use Rattle.rdlpp_scan.proofs.Seams.{BeforePerl, Closed, OpenComment, OpenString, Seam, token_of-seam}
use Rattle.rdlpp_scan.proofs.StopKinds.{block_token-kind}
use Rattle.rdlpp_define.specs.Table.{macro_named}
use Rattle.rdlpp_meaning.specs.Expansion.{is_copied, usage_token}
use Rattle.rdlpp_meaning.specs.Meaning.{Passage, Progress, after_bytes, leaves, unclosed}
use Rattle.rdlpp_meaning.specs.Opened.{Waiting, all_resumed, unwound}
use Rattle.rdlpp_meaning.specs.Moves.{Move, move_of, nest_moves}
use Rattle.rdlpp_meaning.specs.Outcome.{fails}
use Rattle.rdlpp_meaning.specs.Parts.{line_ends_of, only_blanks, pieces, Command, argument_of, directive_of}
use Rattle.rdlpp_meaning.specs.Resumed.{Live, Place, Skipped, resume, resumed}
use Rattle.rdlpp_meaning.specs.State.{Rules, State, breach_kind, fault_at}
use Rattle.rdlpp_meaning.specs.declared.fault.FaultKind.{FaultKind}
use Rattle.rdlpp_meaning.specs.declared.fault.FaultKind.TheVariants.{LineTooLong, OpenConditional, SourceTooLong, UndefinedMacro}
use Rattle.rdlpp_meaning.proofs.Moves.{whole_moves}
use Rattle.rdlpp_meaning.proofs.Directives.{all_resumed_fails, line_token}
use Rattle.rdlpp_meaning.proofs.Outcomes.{all_plain_copied, after_bytes-nil, goes_on-nil}
use Rattle.rdlpp_meaning.proofs.Skipping.{live_unclosed}
use Rattle.rdlpp_meaning.proofs.LiveText.{none_of_words}
use Rattle.rdlpp_read.specs.Buffer.{BufferView, consumed, entered_mode, held_of, rest_of, tokens_left}
use Rattle.rdlpp_read.specs.Files.{consumed_file}
use Rattle.rdlpp_read.specs.Filling.{Fills, ended_tokens, only_broken as breaks_alone}
use Rattle.rdlpp_read.specs.LogicalLines.{HoldsLine, IsLogical}
use Rattle.rdlpp_read.specs.declared.buffer.extending.LogicalLine.{LogicalLine}
use Rattle.rdlpp_read.specs.declared.buffer.extending.LogicalLine.TheVariants as line
use Rattle.rdlpp_read.specs.declared.buffer.extending.LogicalLine.TheVariants.{SourceLong, TooLong, Whole}
use Rattle.rdlpp_read.specs.declared.buffer.filling.Fill.{Fill}
use Rattle.rdlpp_read.specs.declared.buffer.filling.Fill.TheVariants as fill
use Rattle.rdlpp_read.specs.declared.files.File.{File}
use Rattle.rdlpp_read.proofs.BufferTokens.{ends_line}
use Rattle.rdlpp_front.specs.SourceItems.{AtBare, AtOrdinary, AtPerl, AtToken, IsDirective, IsRefused, IsText, IsUsage, is_text_kind, usage_name}
use Rattle.rdlpp_front.specs.SourceLeft.{HoldsFront, source_left, with_file_buffer}
use Rattle.rdlpp_front.proofs.Insides.{Writes, all_resumed_bare, all_resumed_only_broken, all_resumed_undefined, back_front, back_text, live_writes, open_copied, skipped_writes, tokens_entered, tokens_plain, tokens_used, used_buffer, word_len, writes_one}

-- What text that is copied does to what remains: ordinary text, and a string or a comment, or the part of one that is held.

-- they stand in the list as they are
text_kept : (k : Kind) → is_text_kind k ≡ true → is_kept_kind k ≡ true
unfolding is_text_kind is_kept_kind
text_kept Back h = absurd (false≢true h)
text_kept Perl h = absurd (false≢true h)
text_kept _ h = refl

-- they are copied
text_copied : (k : Kind) (bytes : List ℕ) (line : ℕ) → is_text_kind k ≡ true → is_copied (record { sort = Ordinary k; bytes = bytes; line = line }) ≡ true
unfolding is_text_kind is_copied
text_copied Str bytes line h = refl
text_copied LineComment bytes line h = refl
text_copied BlockComment bytes line h = refl
text_copied _ bytes line h = absurd (false≢true h)

-- what is held begins with a string or a comment, or the rest of one, as a token
record TextHeld (m : Mode) (held rest : List ℕ) : Type 0 where
  pub some : 0 < length held
  pub ends : EndsLine held rest
  pub kind : is_text_kind (token_of m held).kind ≡ true

-- a part in front of the rest of a string or of a comment is written before that
part_move : (rules : Rules) (ws : List Waiting) (place : Place) (writes : List ℕ → List ℕ) (s : State) → Writes rules ws place writes s
    → (b : Bool) (held : List ℕ) (l : ℕ) (ts : List SourceToken) → Resumes ts
    → all_resumed rules ws place b (onto_tokens held l ts) s
    ≡ after_bytes (writes held) (all_resumed rules ws place (only_blanks b held) ts s)
unfolding onto_tokens with_part line_with
part_move rules ws place writes s w b held l ts (Copies k bytes line more open_ is) =
    let first = only_blanks b held in
    let rest = all_resumed rules ws place (only_blanks first bytes) more s in
    let one : (n : ℕ) → all_resumed rules ws place first (record { sort = Ordinary k; bytes = bytes; line = n } ∷ more) s ≡ after_bytes (writes bytes) rest =
    λ n. writes_one rules ws place writes s w first (record { sort = Ordinary k; bytes = bytes; line = n }) more (open_copied k bytes n open_) in
    ap (λ (us : List SourceToken). all_resumed rules ws place b (onto_tokens held l us) s) is
    ∙ w.parts b k held bytes l more open_
    ∙ ap (λ (o : Passage). after_bytes (writes held) o) (one l ∙ sym (one line))
    ∙ sym (ap (λ (us : List SourceToken). after_bytes (writes held) (all_resumed rules ws place first us s)) is)
part_move rules ws place writes s w b held l ts (Breaks k bytes line is) = grind arith

module _ (rules : Rules) (ws : List Waiting) (place : Place) (writes : List ℕ → List ℕ) (s : State) (written : Writes rules ws place writes s) (b : Bool) (most : ℕ) (m : Mode) (o l : ℕ) (held : List ℕ) (room : ℕ) (rest : List ℕ) (h : TextHeld m held rest) where
  -- what remains in a mode, from a line on where a token opened, after so many bytes
  abbrev left_in : Mode → ℕ → ℕ → Bool → Passage
  left_in next opened n first = all_resumed rules ws place first (remaining_tokens most next opened (l + line_ends (take n held)) (drop n held) room rest) s

  -- what remains at the token
  abbrev left_here : Passage
  left_here = all_resumed rules ws place b (remaining_tokens most m o l held room rest) s

  -- the token, or the part of it, is given, and then comes what remains after it
  abbrev Moves : Token → Type 0
  Moves t = left_here ≡ after_bytes (writes (take t.len held)) (left_in t.next_mode (opening m o l) t.len (only_blanks b (take t.len held)))

  -- a token that is closed
  move_closed : (token_of m held).next_mode ≡ Plain → Moves (token_of m held)
  move_closed closed =
      let t = token_of m held in
      let w = take t.len held in
      let following = remaining_tokens most Plain l (l + line_ends w) (drop t.len held) room rest in
      let same : following ≡ remaining_tokens most t.next_mode (opening m o l) (l + line_ends w) (drop t.len held) room rest =
      remaining-opened most l (opening m o l) (l + line_ends w) (drop t.len held) room rest
      ∙ ap (λ (n : Mode). remaining_tokens most n (opening m o l) (l + line_ends w) (drop t.len held) room rest) (sym closed) in
      ap (λ (ts : List SourceToken). all_resumed rules ws place b ts s)
      (remaining-closed most m o l held room rest h.some h.ends (text_kept t.kind h.kind) closed)
      ∙ writes_one rules ws place writes s written b (record { sort = Ordinary t.kind; bytes = w; line = l }) following (text_copied t.kind w l h.kind)
      ∙ ap (λ (ts : List SourceToken). after_bytes (writes w) (all_resumed rules ws place (only_blanks b w) ts s)) same

  -- a token of which all that is held is a part
  move_part : (next : Mode) → (token_of m held).next_mode ≡ next → (token_of m held).len ≡ length held
      → Resumes (remaining_tokens most next (opening m o l) (l + line_ends held) [] room rest)
      → remaining_tokens most m o l held room rest ≡ onto_tokens held l (remaining_tokens most next (opening m o l) (l + line_ends held) [] room rest)
      → Moves (token_of m held)
  move_part next is len resumes step =
      let t = token_of m held in
      let all : take t.len held ≡ held = ap (λ (n : ℕ). take n held) len ∙ take-length held in
      let gone : drop t.len held ≡ [] = drop_all t.len held (omega arith) in
      let to : Mode → List ℕ → List ℕ → Passage = λ n w z. after_bytes (writes w) (all_resumed rules ws place (only_blanks b w) (remaining_tokens most n (opening m o l) (l + line_ends w) z room rest) s) in
      ap (λ (ts : List SourceToken). all_resumed rules ws place b ts s) step
      ∙ part_move rules ws place writes s written b held l (remaining_tokens most next (opening m o l) (l + line_ends held) [] room rest) resumes
      ∙ ap (λ (n : Mode). to n held []) (sym is)
      ∙ ap (λ (w : List ℕ). to t.next_mode w []) (sym all)
      ∙ ap (λ (z : List ℕ). to t.next_mode (take t.len held) z) (sym gone)

  -- `<%` is a fault
  only_broken : (first : Bool) (line : ℕ)
      → all_resumed rules ws place first (record { sort = Broken PerlFound; bytes = []; line = line } ∷ []) s ≡ leaves (fails (fault_at (breach_kind PerlFound) line [] s)) s
  only_broken first line = grind (arith, after_bytes-nil)

  -- a string that `<%` cuts
  move_cut : (token_of m held).kind ≡ Str → (token_of m held).next_mode ≡ InStr → (token_of m held).len < length held → begins_perl (drop (token_of m held).len held) ≡ true → Moves (token_of m held)
  move_cut kind mode lt perl = grind (arith, length-drop, remaining-perl_in_string, remaining-cut_string, only_broken)

  by_seam : (v : Token) → Seam held [] (token_of m held) v → Moves (token_of m held)
  by_seam v (Closed e closed) = move_closed closed
  by_seam v (BeforePerl e is lt perl) = move_cut (ap (λ (t : Token). t.kind) is) (ap (λ (t : Token). t.next_mode) is) lt perl
  by_seam v (OpenString is e) =
      let mode = ap (λ (t : Token). t.next_mode) is in
      let len = ap (λ (t : Token). t.len) is in
      move_part InStr mode len (remaining-in_string most (opening m o l) (l + line_ends held) [] room rest)
      (remaining-open_string most m o l held room rest h.some h.ends mode len)
  by_seam v (OpenComment is e) =
      let mode = ap (λ (t : Token). t.next_mode) is in
      let len = ap (λ (t : Token). t.len) is in
      move_part InBlock mode len (remaining-in_comment most (opening m o l) (l + line_ends held) [] room rest)
      (remaining-open_comment most m o l held room rest h.some h.ends mode)

  -- the token at the front of what is held
  move_token : Moves (token_of m held)
  move_token = by_seam (token_of m (held ++ [])) (token_of-seam m held [] h.some (inl refl))

module _ {R : Type 0} (rules : Rules) (unread : R → List ℕ) (ws : List Waiting) (place : Place) (writes : List ℕ → List ℕ) (s : State)
    (written : Writes rules ws place writes s) where
  -- what remains of a buffer, where only blanks stand before it on its line or don't
  abbrev left_of : Bool → BufferView R → Passage
  left_of first b = all_resumed rules ws place first (tokens_left unread b) s

  -- ordinary text goes through as it is
  ordinary_left : (first : Bool) (b : BufferView R) → b.mode ≡ Plain → EndsLine (held_of b) (rest_of unread b)
      → let w = take (plain_len (held_of b)) (held_of b) in
      left_of first b ≡ after_bytes (writes w) (left_of (only_blanks first w) (used_buffer (entered_mode b Plain) (plain_len (held_of b)) (line_ends w)))
  ordinary_left first b mode ends =
      let held = held_of b in
      let rest = rest_of unread b in
      let n = plain_len held in
      let w = take n held in
      let g : GoesThrough b.line_bytes b.line held w (drop n held) b.bytes_left rest =
      remaining-ordinary b.line_bytes b.line held b.bytes_left rest ends in
      let o = opening b.mode b.open_token_line b.line in
      let following = remaining_tokens b.line_bytes Plain o (b.line + line_ends w) (drop n held) b.bytes_left rest in
      ap (λ (ts : List SourceToken). all_resumed rules ws place first ts s) (tokens_plain unread b mode ∙ g.steps b.line o)
      ∙ written.copied first g.tokens following (all_plain_copied g.tokens g.plain)
      ∙ ap (λ (xs : List ℕ). after_bytes (writes xs) (all_resumed rules ws place (only_blanks first xs) following s)) g.spelled
      ∙ ap (λ (ts : List SourceToken). after_bytes (writes w) (all_resumed rules ws place (only_blanks first w) ts s)) (tokens_entered unread b n (line_ends w) Plain)

  -- a string or a comment, or the part of one, over what is held
  token_here : (first : Bool) (b : BufferView R) → TextHeld b.mode (held_of b) (rest_of unread b)
      → let t = token_of b.mode (held_of b) in
      let w = take t.len (held_of b) in
      left_of first b ≡ after_bytes (writes w) (all_resumed rules ws place (only_blanks first w)
      (remaining_tokens b.line_bytes t.next_mode (opening b.mode b.open_token_line b.line) (b.line + line_ends w) (drop t.len (held_of b)) b.bytes_left (rest_of unread b)) s)
  unfolding tokens_left
  token_here first b text =
      move_token rules ws place writes s written first b.line_bytes b.mode b.open_token_line b.line (held_of b) b.bytes_left (rest_of unread b) text

  -- and so it goes through as it is
  token_left : (first : Bool) (b : BufferView R) → TextHeld b.mode (held_of b) (rest_of unread b)
      → let t = token_of b.mode (held_of b) in
      let w = take t.len (held_of b) in
      left_of first b ≡ after_bytes (writes w) (left_of (only_blanks first w) (used_buffer (entered_mode b t.next_mode) t.len (line_ends w)))
  token_left first b text = grind (arith, token_here, tokens_entered)

  -- what text that is copied comes to, by its length and the mode after it
  abbrev Copied : Bool → BufferView R → ℕ → Mode → Type 0
  Copied first b n next = let w = take n (held_of b) in
      left_of first b ≡ after_bytes (writes w) (left_of (only_blanks first w) (used_buffer (entered_mode b next) n (line_ends w)))

  -- text that is copied, in either form
  copied_left : (first : Bool) (b : BufferView R) (n : ℕ) (next : Mode) → HoldsFront b → IsText b.mode (held_of b) n next → Copied first b n next
  copied_left first b n next holds (AtOrdinary plain following has whole) = grind (arith, ordinary_left, ends_line)
  copied_left first b n next holds (AtToken kind following whole) = grind (arith, token_left, ends_line)

  -- text that is copied in live text is written as the place writes it
  written_left : (f : File R) (len lines : ℕ) (next : Mode)
      → HoldsFront f.buffer → IsText f.buffer.mode (held_of f.buffer) len next → lines ≡ line_ends (take len (held_of f.buffer))
      → source_left rules unread ws place f s
      ≡ after_bytes (writes (take len (held_of f.buffer)))
      (source_left rules unread ws place (consumed_file len lines (with_file_buffer (entered_mode f.buffer next) f)) s)
  unfolding source_left held_of entered_mode
  written_left f len lines next holds text e = grind (arith, copied_left)

-- text that is copied is written as it is
pub text_left : {R : Type 0} (rules : Rules) (unread : R → List ℕ) (ws : List Waiting) (os : List Progress) (f : File R) (s : State) (len lines : ℕ) (next : Mode)
    → HoldsFront f.buffer → IsText f.buffer.mode (held_of f.buffer) len next → lines ≡ line_ends (take len (held_of f.buffer))
    → source_left rules unread ws (Live os) f s
    ≡ after_bytes (take len (held_of f.buffer))
    (source_left rules unread ws (Live os) (consumed_file len lines (with_file_buffer (entered_mode f.buffer next) f)) s)
text_left rules unread ws os f s len lines next holds text e =
    written_left rules unread ws (Live os) (λ (x : List ℕ). x) s (live_writes rules ws os s) f len lines next holds text e

-- of such text its LF bytes are written where it is skipped
pub skipped_text_left : {R : Type 0} (rules : Rules) (unread : R → List ℕ) (ws : List Waiting) (n : ℕ) (p : Progress) (os : List Progress) (f : File R) (s : State) (len lines : ℕ) (next : Mode)
    → HoldsFront f.buffer → IsText f.buffer.mode (held_of f.buffer) len next → lines ≡ line_ends (take len (held_of f.buffer))
    → source_left rules unread ws (Skipped n p os) f s
    ≡ after_bytes (line_ends_of (take len (held_of f.buffer)))
    (source_left rules unread ws (Skipped n p os) (consumed_file len lines (with_file_buffer (entered_mode f.buffer next) f)) s)
skipped_text_left rules unread ws n p os f s len lines next holds text e =
    written_left rules unread ws (Skipped n p os) line_ends_of s (skipped_writes rules ws n p os s) f len lines next holds text e

-- What a usage in front does to what remains: its token, and what it comes to where its macro isn't defined, or stands for its

-- the tokens at a backquote with a name that is neither `define` nor `line`
pub back_tokens : {R : Type 0} (unread : R → List ℕ) (b : BufferView R)
    → HoldsFront b → b.mode ≡ Plain → (token_of Plain (held_of b)).kind ≡ Back
    → bytes_eq (take (token_of Plain (held_of b)).len (held_of b)) (codes "`define") ≡ false
    → bytes_eq (take (token_of Plain (held_of b)).len (held_of b)) (codes "`line") ≡ false
    → tokens_left unread b
    ≡ record { sort = Ordinary Back; bytes = take (token_of Plain (held_of b)).len (held_of b); line = b.line }
    ∷ tokens_left unread (used_buffer b (token_of Plain (held_of b)).len 0)
back_tokens unread b holds mode kind other also = grind (arith, tokens_used, tokens_plain, remaining-back, ends_line)

-- a name that isn't reserved isn't `define`
not_define : (name : List ℕ) → is_reserved name ≡ false → bytes_eq name (codes "define") ≡ false
unfolding is_reserved reserved_names
not_define name e = grind (arith, none_of_words)

-- nor is it `line`
not_line : (name : List ℕ) → is_reserved name ≡ false → bytes_eq name (codes "line") ≡ false
unfolding is_reserved reserved_names
not_line name e = grind (arith, none_of_words)

-- the text of a usage
pub usage_text : (held : List ℕ) (len : ℕ) → IsUsage held len → take len held ≡ 96 ∷ usage_name held len
usage_text held len usage = grind (arith, back_text, back_front)

-- the tokens at a usage
usage_buffer : {R : Type 0} (unread : R → List ℕ) (b : BufferView R) (len : ℕ)
    → HoldsFront b → b.mode ≡ Plain → IsUsage (held_of b) len
    → tokens_left unread b ≡ usage_token (usage_name (held_of b) len) b.line ∷ tokens_left unread (used_buffer b len 0)
usage_buffer unread b len holds mode usage = grind (arith, usage_text, not_define, not_line, back_tokens)

module _ {R : Type 0} (unread : R → List ℕ) (f : File R) (len : ℕ) where
  -- the tokens at a usage, and after it
  pub usage_tokens : HoldsFront f.buffer → f.buffer.mode ≡ Plain → IsUsage (held_of f.buffer) len
      → tokens_left unread f.buffer
      ≡ usage_token (usage_name (held_of f.buffer) len) f.buffer.line ∷ tokens_left unread (consumed_file len 0 f).buffer
  usage_tokens holds mode usage = usage_buffer unread f.buffer len holds mode usage

module _ {R : Type 0} (rules : Rules) (unread : R → List ℕ) (ws : List Waiting) (os : List Progress) (f : File R) (s : State) where
  -- what remains at a usage is what the run gives for its token in front of the tokens after it
  pub usage_left : (len : ℕ) → HoldsFront f.buffer → f.buffer.mode ≡ Plain → IsUsage (held_of f.buffer) len
      → source_left rules unread ws (Live os) f s
      ≡ all_resumed rules ws (Live os) f.blanks (usage_token (usage_name (held_of f.buffer) len) f.buffer.line ∷ tokens_left unread (consumed_file len 0 f).buffer) s
  unfolding source_left
  usage_left len holds mode usage =
      ap (λ (ts : List SourceToken). all_resumed rules ws (Live os) f.blanks ts s) (usage_tokens unread f len holds mode usage)

  -- a usage of a name that isn't defined is a fault
  pub undefined_left : (len : ℕ) → HoldsFront f.buffer → f.buffer.mode ≡ Plain → IsUsage (held_of f.buffer) len
      → macro_named s.macros (usage_name (held_of f.buffer) len) ≡ None
      → source_left rules unread ws (Live os) f s
      ≡ leaves (fails (fault_at UndefinedMacro f.buffer.line (usage_name (held_of f.buffer) len) s)) s
  undefined_left len holds mode usage none =
      usage_left len holds mode usage
      ∙ all_resumed_undefined rules ws os f.blanks (usage_name (held_of f.buffer) len) f.buffer.line (tokens_left unread (consumed_file len 0 f).buffer) s usage.free none

-- What a `define` in front does to what remains, once its logical line is held or broken; and what stands after its word.

-- a `define` directive in front of a source is one in its held bytes
pub holds_define : {R : Type 0} (unread : R → List ℕ) (f : File R)
    → HoldsFront f.buffer → IsDirective Define (held_of f.buffer) → HoldsDefine (held_of f.buffer) (rest_of unread f.buffer)
holds_define unread f holds is = grind (arith, ends_line)

-- the same buffer, by what its line counts
pub consumed_used : {R : Type 0} (b : BufferView R) (len lines : ℕ) → lines ≡ line_ends (take len (held_of b)) → consumed b len ≡ used_buffer b len lines
unfolding consumed
consumed_used b len lines e = ap (λ (n : ℕ). used_buffer b len n) (sym e)

-- what remains where a construct in front of the innermost source comes to this, by that source after it
abbrev pub file_moves : {R : Type 0} → Rules → (R → List ℕ) → List Waiting → Move → ℕ → State → File R → Passage
file_moves rules unread ws m line s g = nest_moves rules ws m line s g.blanks (tokens_left unread g.buffer)

-- a `define` whose logical line is held comes to what that does
pub define_moves : {R : Type 0} (rules : Rules) (unread : R → List ℕ) (ws : List Waiting) (place : Place) (f : File R) (s : State) (has_known_texts : Type 0) (new : BufferView R) (len lines : ℕ)
    → HoldsLine has_known_texts unread (Whole len) f.buffer new → has_known_texts → f.buffer.mode ≡ Plain → HoldsDefine (held_of f.buffer) (rest_of unread f.buffer) → lines ≡ line_ends (take len (held_of new))
    → let c : Command = record { word = Define; given = None; text = take len (held_of new); line = f.buffer.line; first = f.blanks } in
    source_left rules unread ws place f s ≡ file_moves rules unread ws (move_of rules c place s) f.buffer.line s (consumed_file len lines (with_file_buffer new f))
unfolding source_left directive_of argument_of
define_moves rules unread ws place f s has_known_texts new len lines line t mode holds count =
    let w = take len (held_of new) in
    let c : Command = record { word = Define; given = None; text = w; line = f.buffer.line; first = f.blanks } in
    ap (λ (ts : List SourceToken). all_resumed rules ws place f.blanks ts s) (line.define t mode holds)
    ∙ whole_moves rules ws place Define f.blanks Definition w f.buffer.line (tokens_left unread (consumed new len)) s refl refl
    ∙ ap (λ (b : BufferView _). nest_moves rules ws (move_of rules c place s) f.buffer.line s (only_blanks f.blanks w) (tokens_left unread b)) (consumed_used new len lines count)

module _ {R : Type 0} (rules : Rules) (unread : R → List ℕ) (ws : List Waiting) (os : List Progress) (f : File R) (s : State)
    (has_known_texts : Type 0) (new : BufferView R) where
  -- a `define` whose logical line has too many bytes is a fault
  pub define_long_left : HoldsLine has_known_texts unread TooLong f.buffer new → has_known_texts → f.buffer.mode ≡ Plain
      → HoldsDefine (held_of f.buffer) (rest_of unread f.buffer)
      → source_left rules unread ws (Live os) f s ≡ leaves (fails (fault_at LineTooLong f.buffer.line [] s)) s
  unfolding source_left breach_kind
  define_long_left line t mode holds = grind (arith, all_resumed_only_broken)

  -- a `define` that the limit of its source cuts is a fault
  pub define_cut_left : HoldsLine has_known_texts unread SourceLong f.buffer new → has_known_texts → f.buffer.mode ≡ Plain
      → HoldsDefine (held_of f.buffer) (rest_of unread f.buffer)
      → source_left rules unread ws (Live os) f s ≡ leaves (fails (fault_at SourceTooLong f.buffer.line [] s)) s
  unfolding source_left breach_kind
  define_cut_left line t mode holds = grind (arith, all_resumed_only_broken)

-- a logical line is that of its own bytes
logical_len-take : (x y : ℕ) (bs : List ℕ) (n : ℕ) → logical_len x y bs ≡ Some n → logical_len x y (take n bs) ≡ Some n
unfolding logical_len
logical_len-take x y [] n h = absurd (cc)
logical_len-take x y (b ∷ bs) n h =
    let ends = is_line_end b && not (is_continued x y) in
    let P : Bool → Type 0 = λ t. ends ≡ t → cond t (Some 1) (option_map suc (logical_len y b bs)) ≡ Some n → logical_len x y (take n (b ∷ bs)) ≡ Some n in
    let at_true : P true = λ is e.
    let one : 1 ≡ n = cc in
    subst (λ (k : ℕ). logical_len x y (take k (b ∷ bs)) ≡ Some k) one (rw is refl) in
    let at_false : P false = λ is e.
    let p = some_suc (logical_len y b bs) n e in
    subst (λ (k : ℕ). logical_len x y (take k (b ∷ bs)) ≡ Some k) (sym p.1.1) (rw is (ap (option_map suc) (logical_len-take y b bs p.0 p.1.0))) in
    elim ends as P [ true ↦ at_true | false ↦ at_false ] refl h

-- two bytes that continue no line don't change where a logical line ends
logical_len-following : (x y : ℕ) (bs : List ℕ) → (x == 92) ≡ false → (y == 92) ≡ false → logical_len x y bs ≡ logical_len 0 0 bs
unfolding logical_len is_continued
logical_len-following x y [] p q = refl
logical_len-following x y (b ∷ []) p q = rw (p, q) refl
logical_len-following x y (b ∷ c ∷ cs) p q = rw (p, q) refl

-- seven more
unfoldable seven_more : Option ℕ → Option ℕ
seven_more o = option_map suc (option_map suc (option_map suc (option_map suc (option_map suc (option_map suc (option_map suc o))))))

-- the logical line of a `define` is the word and the logical line of what stands after it
define_logical : (rest : List ℕ) → logical_len 0 0 (codes "`define" ++ rest) ≡ seven_more (logical_len 0 0 rest)
unfolding logical_len is_line_end is_continued seven_more
define_logical rest = ap seven_more (logical_len-following 110 101 rest refl refl)

-- a `define` begins with that word
pub define_begins : (held : List ℕ) → 0 < length held → IsDirective Define held → held ≡ codes "`define" ++ drop 7 held
define_begins held some is =
    let seven = word_len Define held some is in
    sym (take-append-drop 7 held) ∙ ap (λ (xs : List ℕ). xs ++ drop 7 held) (ap (λ (i : ℕ). take i held) (sym seven) ∙ is.word)

-- what stands after the word of a `define`, of the first bytes of its text
define_rest : (rest : List ℕ) (n : ℕ) → drop 7 (take (7 + n) (codes "`define" ++ rest)) ≡ take n rest
define_rest rest n = drop-take 7 n (codes "`define" ++ rest)

-- a text that is one logical line, or has no end of one
abbrev IsLine : List ℕ → Type 0
IsLine bytes = IfSome (logical_len 0 0 bytes) (λ k. k ≡ length bytes)

-- a logical line of a `define` has its word and what stands after it, which is a whole logical line
record WholeRest (bytes : List ℕ) (len : ℕ) : Type 0 where
  pub wide : 7 ≤ len
  pub whole : IsLine (drop 7 (take len bytes))

-- by where it ends after the word
rest_by : (rest : List ℕ) (len n : ℕ) → 7 + n ≡ len → IsLine (take n rest) → WholeRest (codes "`define" ++ rest) len
rest_by rest len n same line = grind (arith, define_rest)

-- where it ends
rest_ended : (rest : List ℕ) (len : ℕ) (o : Option ℕ) → logical_len 0 0 rest ≡ o → seven_more o ≡ Some len → WholeRest (codes "`define" ++ rest) len
unfolding seven_more
rest_ended rest len None e h = cc
rest_ended rest len (Some n) e h = grind (arith, logical_len-within, length-take-le, rest_by, logical_len-take)

-- where the text ends first
rest_open : (rest : List ℕ) (len : ℕ) (o : Option ℕ) → logical_len 0 0 rest ≡ o → seven_more o ≡ None → len ≡ length (codes "`define" ++ rest) → WholeRest (codes "`define" ++ rest) len
unfolding seven_more
rest_open rest len (Some n) e h size = cc
rest_open rest len None e h size = grind (arith, rest_by, length-append, take-length)

-- the logical line of a `define`, which may go on after what was held of it
whole_rest : {R : Type 0} (has_known_texts : Type 0) (unread : R → List ℕ) (held more : List ℕ) (new : BufferView R) (len : ℕ) → 0 < length held → IsDirective Define held
    → held_of new ≡ held ++ more → IsLogical has_known_texts unread new len → WholeRest (held_of new) len
whole_rest has_known_texts unread held more new len some is e logical =
    let rest = drop 7 held ++ more in
    let text : held_of new ≡ codes "`define" ++ rest =
    e ∙ ap (λ (xs : List ℕ). xs ++ more) (define_begins held some is) ∙ append_assoc (codes "`define") (drop 7 held) more in
    let line : logical_len 0 0 (held_of new) ≡ seven_more (logical_len 0 0 rest) = ap (logical_len 0 0) text ∙ define_logical rest in
    subst (λ (xs : List ℕ). WholeRest xs len) (sym text) (elim logical [
      | inl ended ↦ rest_ended rest len (logical_len 0 0 rest) refl (sym line ∙ ended)
      | inr open_ ↦ rest_open rest len (logical_len 0 0 rest) refl (sym line ∙ open_.0) (open_.1 ∙ ap length text)
    ])

-- what stands after the word of a `define` is a logical line
pub define_rest_whole : {R : Type 0} (has_known_texts : Type 0) (unread : R → List ℕ) (held more : List ℕ) (new : BufferView R) (len : ℕ) → 0 < length held → IsDirective Define held
    → held_of new ≡ held ++ more → IsLogical has_known_texts unread new len
    → IfSome (logical_len 0 0 (drop 7 (take len (held_of new)))) (λ k. k ≡ length (drop 7 (take len (held_of new))))
define_rest_whole has_known_texts unread held more new len some is e logical = (whole_rest has_known_texts unread held more new len some is e logical).whole

-- its logical line has at least the word
pub define_inside : {R : Type 0} (has_known_texts : Type 0) (unread : R → List ℕ) (held more : List ℕ) (new : BufferView R) (len : ℕ) → 0 < length held → IsDirective Define held
    → held_of new ≡ held ++ more → IsLogical has_known_texts unread new len → 7 ≤ len
define_inside has_known_texts unread held more new len some is e logical = (whole_rest has_known_texts unread held more new len some is e logical).wide

-- a byte that is counted
pub counted : (t : Bool) (k n : ℕ) → t ≡ true → k ≡ cond t 1 0 + n → k ≡ suc n
counted true k n e h = omega arith
counted false k n e h = cc

-- and one that isn't
pub not_counted : (t : Bool) (k n : ℕ) → t ≡ false → k ≡ cond t 1 0 + n → k ≡ n
not_counted true k n e h = cc
not_counted false k n e h = omega arith

-- What a `line` in front does to what remains.

-- the bytes of a `line` with its physical line
abbrev pub line_text : List ℕ → List ℕ
line_text held = take (line_len held) held

-- a `line` lies in what is held
pub line_inside : (held : List ℕ) → 0 < length held → (0 < line_len held) × (line_len held ≤ length held)
line_inside held some = (line_len-some held some, line_len-le held)

-- the tokens at a `line`
pub line_buffer : {R : Type 0} (unread : R → List ℕ) (b : BufferView R)
    → HoldsFront b → b.mode ≡ Plain → IsDirective Line (held_of b) → tokens_left unread b ≡ line_token (line_text (held_of b)) b.line ∷ tokens_left unread (used_buffer b (line_len (held_of b)) (line_ends (line_text (held_of b))))
line_buffer unread b holds mode is = grind (arith, tokens_plain, remaining-line, ends_line, tokens_used)

-- a `line` comes to what its line gives
pub line_moves : {R : Type 0} (rules : Rules) (unread : R → List ℕ) (ws : List Waiting) (place : Place) (f : File R) (s : State) → HoldsFront f.buffer → f.buffer.mode ≡ Plain → IsDirective Line (held_of f.buffer)
    → let c : Command = record { word = Line; given = None; text = line_text (held_of f.buffer); line = f.buffer.line; first = f.blanks } in
    source_left rules unread ws place f s ≡ file_moves rules unread ws (move_of rules c place s) f.buffer.line s (consumed_file (line_len (held_of f.buffer)) (line_ends (line_text (held_of f.buffer))) f)
unfolding source_left directive_of argument_of
line_moves rules unread ws place f s holds mode is =
    let w = line_text (held_of f.buffer) in
    ap (λ (ts : List SourceToken). all_resumed rules ws place f.blanks ts s) (line_buffer unread f.buffer holds mode is)
    ∙ whole_moves rules ws place Line f.blanks Renumbering w f.buffer.line (tokens_left unread (used_buffer f.buffer (line_len (held_of f.buffer)) (line_ends w))) s refl refl

-- What a `line` is given, by what stands after its word.

module _ (held : List ℕ) (some : 0 < length held) (is : IsDirective Line held) where
  -- a `line` is its word and what stands after it
  word_apart : held ≡ directive_word Line ++ drop 5 held
  word_apart =
      let len : (token_of Plain held).len ≡ 5 = word_len Line held some is in
      sym (take-append-drop 5 held) ∙ ap (λ (x : List ℕ). x ++ drop 5 held) (ap (λ (n : ℕ). take n held) (sym len) ∙ is.word)

  -- its word is held
  pub word_held : length held ≡ 5 + length (drop 5 held)
  word_held = ap length word_apart ∙ length-append (directive_word Line) (drop 5 held)

  -- its physical line has its word and what stands after that on the line
  pub line_right_after : line_len held ≡ 5 + line_len (drop 5 held)
  unfolding ended_line_len is_line_end
  line_right_after = ap line_len word_apart ∙ line_len-open (directive_word Line) (drop 5 held) refl

  -- what it is given
  pub given_text : drop 5 (line_text held) ≡ take (line_len (drop 5 held)) (drop 5 held)
  given_text = ap (λ (n : ℕ). drop 5 (take n held)) line_right_after ∙ drop-take 5 (line_len (drop 5 held)) held

-- What ends a source, or the output: what is refused in front, a line that breaks the source, its end, and an open string or
-- comment there; and a buffer that was filled, in which nothing is lost.

-- nor is a comment
no_perl_in_comment : (held : List ℕ) → (token_of InBlock held).kind ≡ Perl → ⊥
unfolding token_of
no_perl_in_comment held is = cc (block_token-kind 0 held)

-- `<%` is all that remains, by the mode
perl_by_mode : (most : ℕ) (m : Mode) (o l : ℕ) (held : List ℕ) (room : ℕ) (rest : List ℕ) → 0 < length held → EndsLine held rest → (token_of m held).kind ≡ Perl
    → remaining_tokens most m o l held room rest ≡ breaks_alone PerlFound l
perl_by_mode most Plain o l held room rest some ends is =
    remaining-perl most o l held room rest some ends is
perl_by_mode most InStr o l held room rest some ends is = remaining-perl_in_string most o l held room rest some (perl_in_string held is)
perl_by_mode most InBlock o l held room rest some ends is = absurd (no_perl_in_comment held is)

-- `<%` is all that remains
pub perl_tokens : {R : Type 0} (unread : R → List ℕ) (b : BufferView R) → HoldsFront b → (token_of b.mode (held_of b)).kind ≡ Perl
    → tokens_left unread b ≡ breaks_alone PerlFound b.line
unfolding tokens_left
perl_tokens unread b holds is =
    perl_by_mode b.line_bytes b.mode b.open_token_line b.line (held_of b) b.bytes_left (rest_of unread b) holds.some (ends_line unread b holds.ends) is

module _ {R : Type 0} (rules : Rules) (unread : R → List ℕ) (ws : List Waiting) (os : List Progress) (f : File R) (s : State) where
  -- one broken token without bytes is a fault
  pub broken_left : (b : Breach) (line : ℕ) → tokens_left unread f.buffer ≡ breaks_alone b line
      → source_left rules unread ws (Live os) f s ≡ leaves (fails (fault_at (breach_kind b) line [] s)) s
  unfolding source_left
  broken_left b line e = grind (arith, all_resumed_only_broken)

  -- the end of a text is told by its mode
  ended_by : (has_known_texts : Type 0) (new : BufferView R) (m : Mode) → Fills has_known_texts unread fill.End f.buffer new → has_known_texts → f.buffer.mode ≡ m
      → tokens_left unread f.buffer ≡ ended_tokens m f.buffer.open_token_line
  ended_by has_known_texts new m fills t mode = fills.tokens t ∙ ap (λ (n : Mode). ended_tokens n f.buffer.open_token_line) mode

  -- an open conditional at the end of its source is a fault
  pub unclosed_left : (o : Progress) (has_known_texts : Type 0) (new : BufferView R) → Fills has_known_texts unread fill.End f.buffer new → has_known_texts → f.buffer.mode ≡ Plain
      → source_left rules unread ws (Live (o ∷ os)) f s
      ≡ leaves (fails (record { kind = OpenConditional; name = s.name; line = o.line; word = [] })) s
  unfolding source_left unclosed
  unclosed_left o has_known_texts new fills t mode = grind (arith, ended_by, all_resumed_fails, live_unclosed)

-- where no token remains of the innermost source, the next goes on
nothing_left : (rules : Rules) (ws : List Waiting) (first : Bool) (s : State) → all_resumed rules ws (Live []) first [] s ≡ unwound rules ws s
unfolding all_resumed resumed resume pieces
nothing_left rules ws first s = goes_on-nil s (λ after. unwound rules ws after)

module _ {R : Type 0} (rules : Rules) (unread : R → List ℕ) (ws : List Waiting) (f : File R) (s : State) where
  -- at the end of the innermost source, the next goes on
  pub ended_left : (has_known_texts : Type 0) (new : BufferView R) → Fills has_known_texts unread fill.End f.buffer new → has_known_texts → f.buffer.mode ≡ Plain
      → source_left rules unread ws (Live []) f s ≡ unwound rules ws s
  unfolding source_left
  ended_left has_known_texts new fills t mode = grind (arith, nothing_left)

  -- with the same tokens the same remains
  pub same_left : (place : Place) (new : BufferView R) → tokens_left unread new ≡ tokens_left unread f.buffer
      → source_left rules unread ws place (with_file_buffer new f) s ≡ source_left rules unread ws place f s
  unfolding source_left
  same_left place new e = ap (λ (ts : List SourceToken). all_resumed rules ws place f.blanks ts s) e

  -- a buffer that was filled, or where a read failed
  pub filled_left : (has_known_texts : Type 0) (place : Place) (new : BufferView R) (answer : Fill) → Fills has_known_texts unread answer f.buffer new → has_known_texts
      → (answer ≡ fill.Held) ⊎ (answer ≡ fill.Failed)
      → source_left rules unread ws place (with_file_buffer new f) s ≡ source_left rules unread ws place f s
  filled_left has_known_texts place new fill.Held fills t which = same_left place new (fills.tokens t)
  filled_left has_known_texts place new fill.Failed fills t which = same_left place new (fills.tokens t)
  filled_left has_known_texts place new fill.End fills t (inl e) = cc
  filled_left has_known_texts place new fill.End fills t (inr e) = cc
  filled_left has_known_texts place new fill.SourceLong fills t (inl e) = cc
  filled_left has_known_texts place new fill.SourceLong fills t (inr e) = cc
  filled_left has_known_texts place new fill.LineLong fills t (inl e) = cc
  filled_left has_known_texts place new fill.LineLong fills t (inr e) = cc

  -- a buffer in which a logical line was sought, and the source is too long or a read failed
  pub held_left : (has_known_texts : Type 0) (place : Place) (new : BufferView R) (answer : LogicalLine) → HoldsLine has_known_texts unread answer f.buffer new → has_known_texts
      → (answer ≡ line.SourceLong) ⊎ (answer ≡ line.Failed)
      → source_left rules unread ws place (with_file_buffer new f) s ≡ source_left rules unread ws place f s
  held_left has_known_texts place new line.SourceLong holds t which = same_left place new (holds.has t)
  held_left has_known_texts place new line.Failed holds t which = same_left place new (holds.has t)
  held_left has_known_texts place new (line.Whole len) holds t (inl e) = cc
  held_left has_known_texts place new (line.Whole len) holds t (inr e) = cc
  held_left has_known_texts place new line.TooLong holds t (inl e) = cc
  held_left has_known_texts place new line.TooLong holds t (inr e) = cc

module _ {R : Type 0} (rules : Rules) (unread : R → List ℕ) (ws : List Waiting) (os : List Progress) (f : File R) (s : State) where
  -- what is refused in front is a fault
  pub refused_left : (kind : FaultKind) → HoldsFront f.buffer → IsRefused f.buffer.mode (held_of f.buffer) kind
      → source_left rules unread ws (Live os) f s ≡ leaves (fails (fault_at kind f.buffer.line [] s)) s
  unfolding source_left breach_kind
  refused_left kind holds (AtPerl is) =
      broken_left rules unread ws os f s PerlFound f.buffer.line (perl_tokens unread f.buffer holds is)
  refused_left kind holds (AtBare mode is) = grind (arith, tokens_plain, remaining-bare, ends_line, all_resumed_bare)
