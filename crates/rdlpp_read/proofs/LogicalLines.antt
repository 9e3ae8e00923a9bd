-- Logical lines that are taken in over several lines.
use Rattle.std.proofs.Common.{◌≡◌, ℕ, ◌+◌, ◌-◌, ◌≤◌, ◌<◌, false, List, [], ◌∷◌, ◌++◌, length, take, drop, None, Some, refl, sym, ap, subst, ◌∙◌, arith, inl, inr, ◌≢◌, suc, Bool, true, ◌&&◌, ◌||◌, get_or, option_map, take-suc, append-nil, append_assoc, drop-drop, length-append, length-drop, length-take-le, take-append-drop}
use Rattle.std.proofs.Math.Seq.{drop-length, take-append_seam, take-length}
use Rattle.std.proofs.lemmas.Bool.Decides.{eqb_tells}
use Rattle.rdlpp_scan.specs.Bytes.{is_blank, is_line_end}
use Rattle.rdlpp_scan.specs.Defines.{HoldsDefine}
use Rattle.rdlpp_scan.specs.Front.{DefineCut, DefineLong}
use Rattle.rdlpp_scan.specs.Lines.{IsWholeLines, whole_lines_len}
use Rattle.rdlpp_scan.specs.SourceTokens.{Definition, line_ends, logical_len, remaining_tokens}
use Rattle.rdlpp_scan.specs.declared.token.Mode.TheVariants.{Plain}
use Rattle.rdlpp_scan.proofs.TokenSteps.{HoldsDefine-more, logical_len-after_lines, logical_len-within}
use Rattle.rdlpp_scan.proofs.RemainingLaws.{remaining-end, remaining-logical, remaining-logical_full, remaining-logical_last, remaining-logical_source, remaining-opened}
use Rattle.rdlpp_meaning.specs.Parts.{only_blanks}
use Rattle.rdlpp_meaning.proofs.LiveText.{only_blanks-append}
use Rattle.rdlpp_source.specs.declared.sources.Sources.{Ghosts}
use Rattle.rdlpp_read.specs.Buffer.{BufferView, EndsHeld, IsBuffer, Slides, ahead_of, consumed, held_of, rest_of, tokens_left}
use Rattle.rdlpp_read.specs.Calls.{SourcesRead}
use Rattle.rdlpp_read.specs.Filling.{Grows, IsExact, Stays, only_broken}
use Rattle.rdlpp_read.specs.LogicalLines.{Continues, Extends, HoldsLine, IsExactLine, SameTokens}
use Rattle.rdlpp_read.specs.declared.buffer.extending.LogicalLine.{LogicalLine}
use Rattle.rdlpp_read.specs.declared.buffer.extending.LogicalLine.TheVariants.{Failed as LineFailed, SourceLong as LineCut, TooLong, Whole}
use Rattle.rdlpp_read.specs.declared.buffer.filling.Fill.{Fill}
use Rattle.rdlpp_read.specs.declared.buffer.filling.Fill.TheVariants.{End, Failed, Held, LineLong, SourceLong}
use Rattle.rdlpp_read.proofs.BufferTokens.{grows-text, lengthens-tokens, slides-on, slides-same, tokens-same}
use Rattle.rdlpp_read.proofs.Growing.{calls-on, held-le}

-- How a logical line is taken in over several lines, and what its tokens are.

-- before the first line is taken in
pub continues-starts : {S R : Type 0} (g : Ghosts S R) (sources : S) (f : BufferView R) → EndsHeld f → Continues g sources sources f f 0
unfolding whole_lines_len logical_len
continues-starts g sources f ends = grind (arith, append-nil, slides-same)

-- the search goes on after the first bytes, which are whole lines
logical-from : (h : List ℕ) (seen : ℕ) → seen ≤ length h → IsWholeLines (take seen h) → logical_len 0 0 (take seen h) ≡ None →
    logical_len 0 0 h ≡ option_map (λ n. seen + n) (logical_len 0 0 (take (length h - seen) (drop seen h)))
logical-from h seen inside whole none = grind (arith, logical_len-after_lines (take seen h) (drop seen h) whole none, length-drop seen h, take-length (drop seen h), length-take-le seen h inside, take-append-drop seen h)

-- the end of the logical line was found after the first bytes
found-at : (h : List ℕ) (seen len : ℕ) → seen ≤ length h → IsWholeLines (take seen h) → logical_len 0 0 (take seen h) ≡ None →
    logical_len 0 0 (take (length h - seen) (drop seen h)) ≡ Some len → logical_len 0 0 h ≡ Some (seen + len)
found-at h seen len inside whole none found = logical-from h seen inside whole none ∙ ap (option_map (λ n. seen + n)) found

-- no end was found after them
pub none-at : (h : List ℕ) (seen : ℕ) → seen ≤ length h → IsWholeLines (take seen h) → logical_len 0 0 (take seen h) ≡ None →
    logical_len 0 0 (take (length h - seen) (drop seen h)) ≡ None → logical_len 0 0 h ≡ None
none-at h seen inside whole none found = logical-from h seen inside whole none ∙ ap (option_map (λ n. seen + n)) found

-- what isn't used after what is consumed
consumed-held : {R : Type 0} (f : BufferView R) (n : ℕ) → held_of (consumed f n) ≡ drop n (held_of f)
unfolding held_of consumed
consumed-held f n = sym (drop-drop n f.at (take f.accepted f.window))

-- the tokens after what is consumed of plain text
consumed-tokens : {R : Type 0} (unread : R → List ℕ) (f : BufferView R) (n : ℕ) → f.mode ≡ Plain →
    tokens_left unread (consumed f n) ≡ remaining_tokens f.line_bytes Plain f.line (f.line + line_ends (take n (held_of f))) (drop n (held_of f)) f.bytes_left (rest_of unread f)
unfolding tokens_left consumed rest_of held_of ahead_of
consumed-tokens unread f n plain =
    rw (consumed-held f n, plain) (remaining-opened f.line_bytes f.open_token_line f.line (f.line + line_ends (take n (held_of f))) (drop n (held_of f)) f.bytes_left (rest_of unread f))

-- the tokens of a `define` whose logical line is held
define-whole : {R : Type 0} (unread : R → List ℕ) (f : BufferView R) (n : ℕ) → f.mode ≡ Plain → HoldsDefine (held_of f) (rest_of unread f) → logical_len 0 0 (held_of f) ≡ Some n →
    length (held_of f) ≤ f.line_bytes → tokens_left unread f ≡ record { sort = Definition; bytes = take n (held_of f); line = f.line } ∷ tokens_left unread (consumed f n)
unfolding tokens_left held_of rest_of ahead_of
define-whole unread f n plain holds found short =
    let within = logical_len-within 0 0 (held_of f) n found in
    rw (consumed-tokens unread f n plain, plain)
    (remaining-logical f.line_bytes f.open_token_line f.line (held_of f) f.bytes_left (rest_of unread f) n holds found (omega arith))

-- the tokens of a `define` that goes on up to the end of the text
define-last : {R : Type 0} (unread : R → List ℕ) (f : BufferView R) → f.mode ≡ Plain → HoldsDefine (held_of f) (rest_of unread f) → logical_len 0 0 (held_of f) ≡ None →
    rest_of unread f ≡ [] → length (held_of f) ≤ f.line_bytes →
    tokens_left unread f ≡ record { sort = Definition; bytes = take (length (held_of f)) (held_of f); line = f.line } ∷ tokens_left unread (consumed f (length (held_of f)))
unfolding tokens_left remaining_tokens held_of line_ends rest_of ahead_of
define-last unread f plain holds none ended short = grind (arith, remaining-logical_last, consumed-tokens, take-length, drop-length, remaining-end)

-- no more is held than a line may have
held-short : {R : Type 0} (f : BufferView R) → IsBuffer f → length (held_of f) ≤ f.line_bytes
held-short f sound = let within = sound.within in omega (arith, held-le f)

-- the window moved on, and then once more after the last reading
slides-following : {S R : Type 0} (g : Ghosts S R) (first now : S) (fill : Fill) (answer : LogicalLine) (old mid new : BufferView R) (seen : ℕ) → Continues g first now old mid seen →
    (IsExactLine answer → IsExact fill) → Grows (g.has_known_texts now) g.unread fill mid new → Slides (g.has_known_texts first) (IsExactLine answer) g.unread old new
slides-following g first now fill answer old mid new seen c exact grows =
    slides-on (g.has_known_texts first) (g.has_known_texts first) (g.has_known_texts now) (IsExactLine answer) (IsExact fill) g.unread old mid new (λ t. t) c.call.has_known_texts exact c.slides grows.slides

-- the logical line was found
pub found-line : {S R : Type 0} (g : Ghosts S R) (first now : S) (old mid : BufferView R) (seen len : ℕ) → Continues g first now old mid seen → IsBuffer mid →
    logical_len 0 0 (take (length (held_of mid) - seen) (drop seen (held_of mid))) ≡ Some len → HoldsLine (g.has_known_texts first) g.unread (Whole (seen + len)) old mid
found-line g first now old mid seen len c sound some = grind (arith, found-at, logical_len-within, slides-on, slides-same, define-whole, held-short)

-- nothing came
extends-stays : {R : Type 0} (has_known_texts : Type 0) (unread : R → List ℕ) (fill : Fill) (old mid new : BufferView R) → Extends old mid → Grows has_known_texts unread fill mid new → Stays mid new → Extends old new
extends-stays has_known_texts unread fill old mid new e grows stays = grind arith

-- the tokens stay where nothing came and nothing was lost
stays-tokens : {S R : Type 0} (g : Ghosts S R) (first now : S) (fill : Fill) (old mid new : BufferView R) (seen : ℕ) → Continues g first now old mid seen → Grows (g.has_known_texts now) g.unread fill mid new → Stays mid new →
    (g.has_known_texts now → rest_of g.unread new ≡ rest_of g.unread mid) → SameTokens (g.has_known_texts first) g.unread old new
stays-tokens g first now fill old mid new seen c grows stays rest t =
    tokens-same g.unread mid new grows.line grows.line_bytes grows.mode grows.open_token_line stays.bytes_left stays.held (rest (c.call.has_known_texts t)) ∙ c.tokens t

-- the logical line goes on up to the end of the text
pub last-line : {S R : Type 0} (g : Ghosts S R) (first now : S) (old mid new : BufferView R) (seen len : ℕ) → Continues g first now old mid seen → IsBuffer mid → logical_len 0 0 (held_of mid) ≡ None → len ≡ length (held_of mid) →
    Grows (g.has_known_texts now) g.unread End mid new → HoldsLine (g.has_known_texts first) g.unread (Whole len) old new
last-line g first now old mid new seen len c sound none all grows =
    let stays = grows.by.0 in
    let held = stays.held in
    let none_now : logical_len 0 0 (held_of new) ≡ None = ap (logical_len 0 0) held ∙ none in
    let size : len ≡ length (held_of new) = all ∙ ap length (sym held) in
    let tokens = stays-tokens g first now End old mid new seen c grows stays (λ t. grows.by.2 ∙ sym (grows.by.1 t)) in
    let e = extends-stays (g.has_known_texts now) g.unread End old mid new c.extends grows stays in
    let short : length (held_of new) ≤ new.line_bytes = (let s = held-short mid sound in let most = grows.line_bytes in omega arith) in
    record {
      extends = e;
      has = (omega arith, inr (none_now, size, λ t. grows.by.2), tokens);
      slides = slides-following g first now End (Whole len) old mid new seen c (λ x e. cc) grows;
      text = λ other t. grows-text (g.has_known_texts now) g.unread End mid new grows.by (λ e. cc) (c.call.has_known_texts t) ∙ c.text t;
      define = λ t plain holds.
          let here : HoldsDefine (held_of new) (rest_of g.unread new) = rw (held, grows.by.2) (rw (grows.by.1 (c.call.has_known_texts t)) at (c.define t holds)) in
          sym (tokens t) ∙ (define-last g.unread new (e.mode ∙ plain) here none_now grows.by.2 short
          ∙ rw (size, e.line) refl);
    }

-- with its next line the logical line is too long
pub long-line : {S R : Type 0} (g : Ghosts S R) (first now : S) (old mid new : BufferView R) (seen : ℕ) → Continues g first now old mid seen → logical_len 0 0 (held_of mid) ≡ None →
    Grows (g.has_known_texts now) g.unread LineLong mid new → HoldsLine (g.has_known_texts first) g.unread TooLong old new
unfolding tokens_left
long-line g first now old mid new seen c none grows = record {
  extends = extends-stays (g.has_known_texts now) g.unread LineLong old mid new c.extends grows grows.by.0;
  has = tt;
  slides = slides-following g first now LineLong TooLong old mid new seen c (λ x. absurd (x refl)) grows;
  text = λ other t. absurd (other refl);
  define = λ t plain holds.
      sym (c.tokens t) ∙ (ap (λ m. remaining_tokens mid.line_bytes m mid.open_token_line mid.line (held_of mid) mid.bytes_left (rest_of g.unread mid)) (c.extends.mode ∙ plain)
      ∙ (remaining-logical_full mid.line_bytes mid.open_token_line mid.line (held_of mid) mid.bytes_left (rest_of g.unread mid) (c.define t holds) none (grows.by.2 (c.call.has_known_texts t)) (grows.by.1 (c.call.has_known_texts t))
      ∙ ap (only_broken DefineLong) c.extends.line));
}

-- the next line is beyond what the source may still have
pub cut-line : {S R : Type 0} (g : Ghosts S R) (first now : S) (old mid new : BufferView R) (seen : ℕ) → Continues g first now old mid seen → logical_len 0 0 (held_of mid) ≡ None →
    Grows (g.has_known_texts now) g.unread SourceLong mid new → HoldsLine (g.has_known_texts first) g.unread LineCut old new
unfolding tokens_left
cut-line g first now old mid new seen c none grows = record {
  extends = extends-stays (g.has_known_texts now) g.unread SourceLong old mid new c.extends grows grows.by.0;
  has = stays-tokens g first now SourceLong old mid new seen c grows grows.by.0 grows.by.3;
  slides = slides-following g first now SourceLong LineCut old mid new seen c (λ x e. cc) grows;
  text = λ other t. grows-text (g.has_known_texts now) g.unread SourceLong mid new grows.by (λ e. cc) (c.call.has_known_texts t) ∙ c.text t;
  define = λ t plain holds.
      sym (c.tokens t) ∙ (ap (λ m. remaining_tokens mid.line_bytes m mid.open_token_line mid.line (held_of mid) mid.bytes_left (rest_of g.unread mid)) (c.extends.mode ∙ plain)
      ∙ (remaining-logical_source mid.line_bytes mid.open_token_line mid.line (held_of mid) mid.bytes_left (rest_of g.unread mid) (c.define t holds) none (grows.by.1 (c.call.has_known_texts t)) (grows.by.2 (c.call.has_known_texts t))
      ∙ ap (only_broken DefineCut) c.extends.line));
}

-- a read failed
pub failed-line : {S R : Type 0} (g : Ghosts S R) (first now : S) (old mid new : BufferView R) (seen : ℕ) → Continues g first now old mid seen →
    Grows (g.has_known_texts now) g.unread Failed mid new → HoldsLine (g.has_known_texts first) g.unread LineFailed old new
failed-line g first now old mid new seen c grows = record {
  extends = extends-stays (g.has_known_texts now) g.unread Failed old mid new c.extends grows grows.by.0;
  has = stays-tokens g first now Failed old mid new seen c grows grows.by.0 grows.by.1;
  slides = slides-following g first now Failed LineFailed old mid new seen c (λ x e. cc) grows;
  text = λ other t. grows-text (g.has_known_texts now) g.unread Failed mid new grows.by (λ e. cc) (c.call.has_known_texts t) ∙ c.text t;
  define = λ t plain holds. tt;
}

-- more lines came
pub continues-on : {S R : Type 0} (g : Ghosts S R) (first now after : S) (old mid new : BufferView R) (seen len : ℕ) → Continues g first now old mid seen → logical_len 0 0 (held_of mid) ≡ None → len ≡ length (held_of mid) →
    EndsHeld new → Grows (g.has_known_texts now) g.unread Held mid new → SourcesRead g false now after → Continues g first after old new len
continues-on g first now after old mid new seen len c none all ends grows call =
    let l = grows.by in
    let e = c.extends in
    let size : length (held_of new) ≡ length (held_of mid) + length l.lines = ap length l.held ∙ length-append (held_of mid) l.lines in
    let front_part : take len (held_of new) ≡ held_of mid = rw (all, l.held) (take-append_seam (held_of mid) l.lines) in
    record {
      extends = record {
        line = grows.line ∙ e.line;
        line_bytes = grows.line_bytes ∙ e.line_bytes;
        mode = grows.mode ∙ e.mode;
        open_token_line = grows.open_token_line ∙ e.open_token_line;
        unused = grows.unused ∙ e.unused;
        more = e.more ++ l.lines;
        held = l.held ∙ (ap (λ h. h ++ l.lines) e.held ∙ append_assoc (held_of old) e.more l.lines);
      };
      slides = slides-on (g.has_known_texts first) (g.has_known_texts first) (g.has_known_texts now) Unit (IsExact Held) g.unread old mid new (λ t. t) c.call.has_known_texts (λ _ e. cc) c.slides grows.slides;
      tokens = λ t. lengthens-tokens (g.has_known_texts now) g.unread mid new grows.line grows.line_bytes grows.mode grows.open_token_line l (c.call.has_known_texts t) ∙ c.tokens t;
      text = λ t. grows-text (g.has_known_texts now) g.unread Held mid new grows.by (λ e. cc) (c.call.has_known_texts t) ∙ c.text t;
      define = λ t holds.
          let here : HoldsDefine (held_of mid) (l.lines ++ rest_of g.unread new) = rw (l.rest (c.call.has_known_texts t)) at (c.define t holds) in
          rw l.held (HoldsDefine-more (held_of mid) l.lines (rest_of g.unread new) here l.some l.ends);
      place = omega arith;
      whole = subst IsWholeLines (sym front_part) l.before;
      none = ap (logical_len 0 0) front_part ∙ none;
      ends = ends;
      call = calls-on g false first now after c.call call;
    }

-- more is held
pub fewer-lines : {R : Type 0} (has_known_texts : Type 0) (unread : R → List ℕ) (mid new : BufferView R) → Grows has_known_texts unread Held mid new → new.line_bytes - length (held_of new) < mid.line_bytes - length (held_of mid)
fewer-lines has_known_texts unread mid new grows = grind (arith, length-append)

-- Whether only blanks stand after bytes, by their last one.

-- by the last byte
blanks_last : (first : Bool) (at : ℕ) (bs : List ℕ) → 0 < at → at ≤ length bs
    → only_blanks first (take at bs) ≡ (is_line_end (get_or bs (at - 1) 0) || is_blank (get_or bs (at - 1) 0) && only_blanks first (take (at - 1) bs))
unfolding only_blanks
blanks_last first at bs some within =
    let n = at - 1 in
    let same : at ≡ suc n = omega arith in
    let inside : n < length bs = omega arith in
    ap (λ (k : ℕ). only_blanks first (take k bs)) same
    ∙ ap (only_blanks first) (take-suc bs n 0 inside) ∙ only_blanks-append first (take n bs) (get_or bs n 0 ∷ [])

-- after an LF only blanks stand
pub blanks_line_end : (first : Bool) (at : ℕ) (bs : List ℕ) → 0 < at → at ≤ length bs → get_or bs (at - 1) 0 ≡ 10
    → only_blanks first (take at bs) ≡ true
unfolding is_line_end
blanks_line_end first at bs some within e = blanks_last first at bs some within ∙ rw e refl

-- a byte that isn't LF
not_line_end : (b : ℕ) → b ≢ 10 → is_line_end b ≡ false
unfolding is_line_end
not_line_end b ne = elim (eqb_tells b 10) [ inl h ↦ absurd (ne h.1) | inr h ↦ h.0 ]

-- after another byte that is no blank they don't
pub blanks_other : (first : Bool) (at : ℕ) (bs : List ℕ) → 0 < at → at ≤ length bs → get_or bs (at - 1) 0 ≢ 10 → is_blank (get_or bs (at - 1) 0) ≡ false
    → only_blanks first (take at bs) ≡ false
blanks_other first at bs some within ne e = blanks_last first at bs some within ∙ rw (not_line_end (get_or bs (at - 1) 0) ne, e) refl

-- after a blank it is as before it
pub blanks_blank : (first : Bool) (at : ℕ) (bs : List ℕ) → 0 < at → at ≤ length bs → get_or bs (at - 1) 0 ≢ 10 → is_blank (get_or bs (at - 1) 0) ≡ true
    → only_blanks first (take at bs) ≡ only_blanks first (take (at - 1) bs)
blanks_blank first at bs some within ne e = blanks_last first at bs some within ∙ rw (not_line_end (get_or bs (at - 1) 0) ne, e) refl
