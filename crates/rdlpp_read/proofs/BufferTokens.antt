-- The tokens that remain of an open source, as its window moves, and as sources open and close.
use Rattle.std.proofs.Common.{◌≡◌, ◌==◌, true, ℕ, ◌+◌, List, [], ◌++◌, length, take, drop, refl, sym, ap, ◌∙◌, append_assoc, arith, ◌-◌, ◌≤◌, ◌<◌, None, Some, subst, inl, inr, suc, ◌*◌, ◌^◌, Bool, not, ◌∷◌, map, reverse, sum_by, get_or, add-one, All, length-set, set, mul-le-mul_right, append-nil, drop-drop, length-append, length-drop, length-take-le, take-append-drop, take-take}
use Rattle.std.proofs.Math.Seq.{drop-cons, drop-nil}
use Rattle.std.proofs.lemmas.List.{drop-set, drop-set-lt, drop-take, get_or-drop, reverse-append, take-set, take_more_set}
use Rattle.std.proofs.lemmas.List.Elements.{All-append, All-cons, All-drop, All-get_or, All-head, All-nil, All-same, All-set, All-tail, All-take}
use Rattle.std.proofs.lemmas.List.Sums.{sum_by-append, sum_by-cons, sum_by_more, sum_by_more_le}
use Rattle.rdlpp_scan.specs.Bytes.{is_line_end}
use Rattle.rdlpp_scan.specs.Front.{Break, front}
use Rattle.rdlpp_scan.specs.Lines.{EndsLine, whole_lines_len}
use Rattle.rdlpp_scan.specs.SourceTokens.{broken, line_ends, open_end, remaining_tokens, source_end, source_tokens}
use Rattle.rdlpp_scan.specs.declared.token.Mode.{Mode}
use Rattle.rdlpp_scan.specs.declared.token.Mode.TheVariants.{Plain}
use Rattle.rdlpp_scan.proofs.SourceLaws.{IsWholeLines-drop, front-line_long, front-none, front-source_long}
use Rattle.rdlpp_scan.proofs.RemainingLaws.{remaining-accept}
use Rattle.rdlpp_source.specs.declared.sources.Found.{Found}
use Rattle.rdlpp_read.specs.Buffer.{BufferView, EndsHeld, Gains, MovesOver, Slides, ahead_of, closed_buffer, entered_mode, held_of, opened_buffer, rest_of, text_left, tokens_left, unread_of, unused_of}
use Rattle.rdlpp_read.specs.Files.{AreOpen, AreSlots, FilesView, IsClosed, IsSlot, entered_file, held_bytes, held_windows, inner_buffer, source_digits, ends_mid_line_after, with_buffer, with_inner}
use Rattle.rdlpp_read.specs.Filling.{Fills, Grows, GrowsBy, HasBytes, IsExact, Lengthens, Stays, TellsTokens, ended_tokens, only_broken}
use Rattle.rdlpp_read.specs.declared.buffer.filling.Fill.{Fill}
use Rattle.rdlpp_read.specs.declared.buffer.filling.Fill.TheVariants.{End, Failed, Held, LineLong, SourceLong}
use Rattle.rdlpp_read.specs.declared.files.File.{File}

-- How the window of a source moves on over its text.

-- nothing was gained and nothing was lost
gains-none : (exact : Type 0) (old new : List ℕ) → old ≡ new → Gains exact [] old new
gains-none exact old new same = record { rest = old; whole = refl; same = λ e. same }

-- two gains are one, where the first lost nothing
gains-on : (one two exact : Type 0) (a b old mid new : List ℕ) → one → (exact → two) → Gains one a old mid → Gains two b mid new → Gains exact (a ++ b) old new
gains-on one two exact a b old mid new first exactly g h = grind (arith, append_assoc)

-- a gain of which less is asked
gains-told : (exact own : Type 0) (gained old new : List ℕ) → (exact → own) → Gains own gained old new → Gains exact gained old new
gains-told exact own gained old new exactly g = record { rest = g.rest; whole = g.whole; same = λ e. g.same (exactly e) }

-- a window that stays
pub slides-same : {R : Type 0} (has_known_texts exact : Type 0) (unread : R → List ℕ) (f : BufferView R) → Slides has_known_texts exact unread f f
slides-same has_known_texts exact unread f = record { dropped = []; gained = []; window = append-nil f.window; used = omega arith; text = λ t. gains-none exact _ _ refl }

-- a window that stays, where another thing changed
pub slides-kept : {R : Type 0} (has_known_texts exact : Type 0) (unread : R → List ℕ) (old new : BufferView R) → new.window ≡ old.window → new.at ≡ old.at →
    (exact → has_known_texts → unread_of unread old.reader ≡ unread_of unread new.reader) → Slides has_known_texts exact unread old new
slides-kept has_known_texts exact unread old new window at text = record {
  dropped = [];
  gained = [];
  window = append-nil old.window ∙ sym window;
  used = omega arith;
  text = λ t. record { rest = unread_of unread old.reader; whole = refl; same = λ e. text e t };
}

-- the lists of two moves
joined : (w x y a b c d : List ℕ) → w ++ a ≡ b ++ x → x ++ c ≡ d ++ y → w ++ (a ++ c) ≡ (b ++ d) ++ y
joined w x y a b c d e f = sym (append_assoc w a c) ∙ (ap (λ v. v ++ c) e ∙ (append_assoc b x c ∙ (ap (λ v. b ++ v) f ∙ sym (append_assoc b d y))))

-- two moves are one, of which the first is exact
pub slides-on : {R : Type 0} (has_known_texts one two exact then_exact : Type 0) (unread : R → List ℕ) (old mid new : BufferView R) → (has_known_texts → one) → (has_known_texts → two) → (exact → then_exact)
    → Slides one Unit unread old mid → Slides two then_exact unread mid new → Slides has_known_texts exact unread old new
slides-on has_known_texts one two exact then_exact unread old mid new t u exactly first then_ =
    let used = first.used in
    let more = then_.used in
    record {
      dropped = first.dropped ++ then_.dropped;
      gained = first.gained ++ then_.gained;
      window = joined old.window mid.window new.window first.gained first.dropped then_.gained then_.dropped first.window then_.window;
      used = omega (arith, length-append first.dropped then_.dropped);
      text = λ x. gains-on Unit then_exact exact first.gained then_.gained _ _ _ tt exactly (first.text (t x)) (then_.text (u x));
    }

-- the window lost used bytes in front
pub slides-compact : {R : Type 0} (has_known_texts exact : Type 0) (unread : R → List ℕ) (old new : BufferView R) (dropped : List ℕ) → old.window ≡ dropped ++ new.window → length dropped + new.at ≡ old.at →
    new.reader ≡ old.reader → Slides has_known_texts exact unread old new
slides-compact has_known_texts exact unread old new dropped window used reader = grind (arith, append-nil, gains-none)

-- such a move where more is known, or less is asked
pub slides-told : {R : Type 0} (has_known_texts own exact own_exact : Type 0) (unread : R → List ℕ) (old new : BufferView R) → (has_known_texts → own) → (exact → own_exact)
    → Slides own own_exact unread old new → Slides has_known_texts exact unread old new
slides-told has_known_texts own exact own_exact unread old new t exactly slides = grind (arith, gains-told)

-- a window that slid, and of which nothing was used
pub moves-slid : {R : Type 0} (has_known_texts exact : Type 0) (unread : R → List ℕ) (old new : BufferView R) → Slides has_known_texts exact unread old new → MovesOver has_known_texts exact unread [] old new
moves-slid has_known_texts exact unread old new slides = grind arith

-- a window of which bytes were used
pub moves-past : {R : Type 0} (has_known_texts exact : Type 0) (unread : R → List ℕ) (uses : List ℕ) (old new : BufferView R) → new.window ≡ old.window → new.at ≡ old.at + length uses → new.reader ≡ old.reader
    → MovesOver has_known_texts exact unread uses old new
moves-past has_known_texts exact unread uses old new window at reader =
    record { dropped = []; gained = []; window = append-nil old.window ∙ sym window; used = omega (arith, at); text = λ t. gains-none exact _ _ (ap (unread_of unread) (sym reader)) }

-- such a move where more is known, or less is asked
pub moves-told : {R : Type 0} (has_known_texts own exact own_exact : Type 0) (unread : R → List ℕ) (uses : List ℕ) (old new : BufferView R) → (has_known_texts → own) → (exact → own_exact)
    → MovesOver own own_exact unread uses old new → MovesOver has_known_texts exact unread uses old new
moves-told has_known_texts own exact own_exact unread uses old new t exactly moves = grind (arith, gains-told)

-- two such moves are one, of which the first is exact
pub moves-on : {R : Type 0} (has_known_texts one two exact then_exact : Type 0) (unread : R → List ℕ) (x y : List ℕ) (old mid new : BufferView R) → (has_known_texts → one) → (has_known_texts → two) → (exact → then_exact)
    → MovesOver one Unit unread x old mid → MovesOver two then_exact unread y mid new → MovesOver has_known_texts exact unread (x ++ y) old new
moves-on has_known_texts one two exact then_exact unread x y old mid new t u exactly first then_ =
    let used = first.used in
    let more = then_.used in
    record {
      dropped = first.dropped ++ then_.dropped;
      gained = first.gained ++ then_.gained;
      window = joined old.window mid.window new.window first.gained first.dropped then_.gained then_.dropped first.window then_.window;
      used = omega (arith, length-append first.dropped then_.dropped, length-append x y);
      text = λ z. gains-on Unit then_exact exact first.gained then_.gained _ _ _ tt exactly (first.text (t z)) (then_.text (u z));
    }

-- the text that isn't used, where the first held bytes were used
pub text-past : {R : Type 0} (unread : R → List ℕ) (old new : BufferView R) (len : ℕ) → held_of new ≡ drop len (held_of old) → rest_of unread new ≡ rest_of unread old →
    text_left unread old ≡ take len (held_of old) ++ text_left unread new
unfolding text_left
text-past unread old new len held rest = grind (arith, take-append-drop len (held_of old), append_assoc (take len (held_of old)) (drop len (held_of old)) (rest_of unread old))

-- and where more were used after
pub text-on : (x y : List ℕ) (old mid new : List ℕ) → old ≡ x ++ mid → mid ≡ y ++ new → old ≡ (x ++ y) ++ new
text-on x y old mid new first then_ = first ∙ (ap (λ v. x ++ v) then_ ∙ sym (append_assoc x y new))

-- The tokens that remain of an open source, as lines are read, accepted and used.

-- what is held ends at a line end, or where the text ends
pub ends_line : {R : Type 0} (unread : R → List ℕ) (b : BufferView R) → EndsHeld b → EndsLine (held_of b) (rest_of unread b)
unfolding rest_of unread_of ahead_of
ends_line unread b (inl whole) = inl whole
ends_line unread b (inr none) = inr (rw (none.0, none.1) refl)

-- the tokens that remain go by what is held, by what stands after it, and by the numbers and the mode
pub tokens-same : {R : Type 0} (unread : R → List ℕ) (old new : BufferView R) → new.line ≡ old.line → new.line_bytes ≡ old.line_bytes → new.mode ≡ old.mode →
    new.open_token_line ≡ old.open_token_line → new.bytes_left ≡ old.bytes_left → held_of new ≡ held_of old → rest_of unread new ≡ rest_of unread old → tokens_left unread new ≡ tokens_left unread old
unfolding tokens_left
tokens-same unread old new line line_bytes mode open_token_line bytes_left held rest = cc

-- lines that come after what is held change no token
pub lengthens-tokens : {R : Type 0} (has_known_texts : Type 0) (unread : R → List ℕ) (old new : BufferView R) → new.line ≡ old.line → new.line_bytes ≡ old.line_bytes → new.mode ≡ old.mode →
    new.open_token_line ≡ old.open_token_line → Lengthens has_known_texts unread old new → has_known_texts → tokens_left unread new ≡ tokens_left unread old
unfolding tokens_left
lengthens-tokens has_known_texts unread old new line line_bytes mode open_token_line l t = grind (arith, length-append, remaining-accept)

-- what stands at the end of a text that isn't broken
ended_by : (most : ℕ) (m : Mode) (opened line : ℕ) → source_end (record { most = most; break = None }) m opened line ≡ ended_tokens m opened
unfolding source_end open_end broken
ended_by most Plain opened line = refl
ended_by most _ opened line = refl

-- what remains where the text has ended
end-tokens : {R : Type 0} (unread : R → List ℕ) (f : BufferView R) → held_of f ≡ [] → rest_of unread f ≡ [] → tokens_left unread f ≡ ended_tokens f.mode f.open_token_line
unfolding tokens_left remaining_tokens source_tokens
end-tokens unread f none ended = rw (none, ended, front-none) (ended_by f.line_bytes f.mode f.open_token_line f.line)

-- what stands before a line that breaks a text
broken_by : (most : ℕ) (k : Break) (m : Mode) (opened line : ℕ) → source_end (record { most = most; break = Some k }) m opened line ≡ only_broken k.breach line
unfolding source_end open_end broken line_ends
broken_by most k Plain opened line = refl
broken_by most k _ opened line = ap (only_broken k.breach) (omega arith)

-- a line that breaks the text is all that remains
break-tokens : {R : Type 0} (unread : R → List ℕ) (f : BufferView R) (k : Break) → held_of f ≡ [] →
    front f.line_bytes f.bytes_left (rest_of unread f) ≡ record { text = []; break = Some k } → tokens_left unread f ≡ only_broken k.breach f.line
unfolding tokens_left remaining_tokens source_tokens
break-tokens unread f k none broken = rw (none, broken) (broken_by f.line_bytes k f.mode f.open_token_line f.line)

-- what was found says what the tokens are, where nothing was held
grows-tokens : {R : Type 0} (has_known_texts : Type 0) (unread : R → List ℕ) (fill : Fill) (old new : BufferView R) → held_of old ≡ [] → Grows has_known_texts unread fill old new →
    has_known_texts → TellsTokens fill old (tokens_left unread old) (tokens_left unread new)
grows-tokens has_known_texts unread Held old new none g t = lengthens-tokens has_known_texts unread old new g.line g.line_bytes g.mode g.open_token_line g.by t
grows-tokens has_known_texts unread End old new none g t = end-tokens unread old none (g.by.1 t)
grows-tokens has_known_texts unread SourceLong old new none g t =
    let short = g.by.1 t in
    break-tokens unread old _ none (front-source_long old.line_bytes old.bytes_left (rest_of unread old) (omega arith) (g.by.2 t))
grows-tokens has_known_texts unread LineLong old new none g t =
    let long = g.by.1 t in
    let size : length (held_of old) ≡ 0 = ap length none in
    break-tokens unread old _ none (front-line_long old.line_bytes old.bytes_left (rest_of unread old) (omega arith))
grows-tokens has_known_texts unread Failed old new none g t =
    tokens-same unread old new g.line g.line_bytes g.mode g.open_token_line g.by.0.bytes_left g.by.0.held (g.by.1 t)

-- bytes came, where nothing was held
grows-bytes : {R : Type 0} (has_known_texts : Type 0) (unread : R → List ℕ) (fill : Fill) (old new : BufferView R) → held_of old ≡ [] → GrowsBy has_known_texts unread fill old new → HasBytes fill new
grows-bytes has_known_texts unread Held old new none by = grind (arith, length-append)
grows-bytes has_known_texts unread End old new none by = by.0.held ∙ none
grows-bytes has_known_texts unread SourceLong old new none by = by.0.held ∙ none
grows-bytes has_known_texts unread LineLong old new none by = by.0.held ∙ none
grows-bytes has_known_texts unread Failed old new none by = by.0.held ∙ none

-- what a source was before what isn't used of it moved to the front
pub record Compacts {R : Type 0} (old new : BufferView R) : Type 0 where
  pub line : new.line ≡ old.line
  pub line_bytes : new.line_bytes ≡ old.line_bytes
  pub mode : new.mode ≡ old.mode
  pub open_token_line : new.open_token_line ≡ old.open_token_line
  pub bytes_left : new.bytes_left ≡ old.bytes_left
  pub unused : unused_of new ≡ unused_of old
  pub reader : new.reader ≡ old.reader
  pub held : held_of new ≡ held_of old
  pub ahead : ahead_of new ≡ ahead_of old
  pub dropped : List ℕ
  pub window : old.window ≡ dropped ++ new.window
  pub used : length dropped + new.at ≡ old.at

-- what isn't used was moved to the front
pub compacts : {R : Type 0} (old new : BufferView R) → old.at ≤ old.accepted → old.accepted ≤ length old.window → new ≡ record old { window = drop old.at old.window; at = 0; accepted = old.accepted - old.at } → Compacts old new
unfolding unused_of held_of ahead_of
compacts old new order inside becomes =
    let n = old.accepted - old.at in
    grind (arith, drop-take old.at n old.window, drop-drop n old.at old.window, take-append-drop old.at old.window, length-take-le old.at old.window (omega arith))

-- the text after what is held stays
pub compacts-rest : {R : Type 0} (unread : R → List ℕ) (old new : BufferView R) → Compacts old new → rest_of unread new ≡ rest_of unread old
unfolding rest_of
compacts-rest unread old new c = let ahead = c.ahead in let reader = c.reader in cc

-- what is held still ends at a line end, or where the text ends
pub compacts-ends : {R : Type 0} (old new : BufferView R) → Compacts old new → EndsHeld old → EndsHeld new
compacts-ends old new c ends = grind arith

-- what stays after a move
stays-from : {R : Type 0} (old mid new : BufferView R) → Compacts old mid → Stays mid new → Stays old new
stays-from old mid new c s = record { held = s.held ∙ c.held; bytes_left = s.bytes_left ∙ c.bytes_left }

-- what was found after a move
compacts-by : {R : Type 0} (has_known_texts : Type 0) (unread : R → List ℕ) (fill : Fill) (old mid new : BufferView R) → Compacts old mid → GrowsBy has_known_texts unread fill mid new → GrowsBy has_known_texts unread fill old new
compacts-by has_known_texts unread Held old mid new c by = grind (arith, compacts-rest)
compacts-by has_known_texts unread End old mid new c by = (stays-from old mid new c by.0, λ t. sym (compacts-rest unread old mid c) ∙ by.1 t, by.2)
compacts-by has_known_texts unread SourceLong old mid new c by = grind (arith, compacts-rest, stays-from)
compacts-by has_known_texts unread LineLong old mid new c by = grind (arith, compacts-rest, stays-from)
compacts-by has_known_texts unread Failed old mid new c by = (stays-from old mid new c by.0, λ t. by.1 t ∙ compacts-rest unread old mid c, by.2)

-- the same with all that goes with it
pub compacts-grows : {R : Type 0} (has_known_texts : Type 0) (unread : R → List ℕ) (fill : Fill) (old mid new : BufferView R) → Compacts old mid → Grows has_known_texts unread fill mid new → Grows has_known_texts unread fill old new
compacts-grows has_known_texts unread fill old mid new c g = record {
  line = g.line ∙ c.line;
  line_bytes = g.line_bytes ∙ c.line_bytes;
  mode = g.mode ∙ c.mode;
  open_token_line = g.open_token_line ∙ c.open_token_line;
  unused = g.unused ∙ c.unused;
  slides = slides-on has_known_texts has_known_texts has_known_texts (IsExact fill) (IsExact fill) unread old mid new (λ t. t) (λ t. t) (λ e. e) (slides-compact has_known_texts Unit unread old mid c.dropped c.window c.used c.reader) g.slides;
  waits = elim g.waits [
    | inl same ↦ inl (let window = ap length c.window in let used = c.used in omega (arith, length-append c.dropped mid.window))
    | inr none ↦ inr (ap whole_lines_len (sym c.ahead) ∙ none)
  ];
  by = compacts-by has_known_texts unread fill old mid new c g.by;
}

-- the text that isn't used stays, but where a byte too many was read
pub grows-text : {R : Type 0} (has_known_texts : Type 0) (unread : R → List ℕ) (fill : Fill) (old new : BufferView R) → GrowsBy has_known_texts unread fill old new → IsExact fill → has_known_texts → text_left unread new ≡ text_left unread old
unfolding text_left
grows-text has_known_texts unread Held old new by other t = let held = by.held in let rest = by.rest t in let join = append_assoc (held_of old) by.lines (rest_of unread new) in cc
grows-text has_known_texts unread End old new by other t = let held = by.0.held in let rest = by.1 t in let none = by.2 in cc
grows-text has_known_texts unread SourceLong old new by other t = let held = by.0.held in let rest = by.3 t in cc
grows-text has_known_texts unread LineLong old new by other t = absurd (other refl)
grows-text has_known_texts unread Failed old new by other t = let held = by.0.held in let rest = by.1 t in cc

-- where the end of a text was met, nothing is left of it
grows-ended : {R : Type 0} (has_known_texts : Type 0) (unread : R → List ℕ) (fill : Fill) (old new : BufferView R) → held_of old ≡ [] → GrowsBy has_known_texts unread fill old new → fill ≡ End → text_left unread new ≡ []
unfolding text_left
grows-ended has_known_texts unread End old new none by is = let held = by.0.held in let rest = by.2 in cc
grows-ended has_known_texts unread _ old new none by is = cc

-- where a read failed, no whole line is ahead
grows-short : {R : Type 0} (has_known_texts : Type 0) (unread : R → List ℕ) (fill : Fill) (old new : BufferView R) → GrowsBy has_known_texts unread fill old new → fill ≡ Failed → whole_lines_len (ahead_of new) ≡ 0
grows-short has_known_texts unread Failed old new by is = by.2
grows-short has_known_texts unread _ old new by is = cc is

-- what a source has before its next byte, by what stood there
pub grows-fills : {R : Type 0} (has_known_texts : Type 0) (unread : R → List ℕ) (fill : Fill) (old new : BufferView R) → held_of old ≡ [] → Grows has_known_texts unread fill old new → Fills has_known_texts unread fill old new
grows-fills has_known_texts unread fill old new none g = search (arith, grows-bytes, grows-short, grows-text, grows-ended, grows-tokens)

-- bytes of accepted lines are held
pub held-fills : {R : Type 0} (has_known_texts : Type 0) (unread : R → List ℕ) (f : BufferView R) → 0 < length (held_of f) → Fills has_known_texts unread Held f f
held-fills has_known_texts unread f some = grind (arith, slides-same)

-- where the end of a text was met, nothing was left of it before
pub ended-text : {R : Type 0} (has_known_texts : Type 0) (unread : R → List ℕ) (old new : BufferView R) → Fills has_known_texts unread End old new → has_known_texts → text_left unread old ≡ []
ended-text has_known_texts unread old new fills t = let text = fills.text (λ is. cc) t in let ended = fills.ended refl in cc

-- where no line is accepted, nothing is held
pub none_ends : {R : Type 0} (f : BufferView R) → f.accepted ≡ 0 → EndsHeld f
unfolding held_of whole_lines_len
none_ends f accepted = inl (rw accepted (rw drop-nil refl))

-- what is held still ends so where some of it is used
pub consumed_ends : {R : Type 0} (old new : BufferView R) (len line : ℕ) → new ≡ record old { at = old.at + len; line = line } → EndsHeld old → EndsHeld new
unfolding held_of ahead_of
consumed_ends old new len line becomes ends = elim ends [
  | inl whole ↦ inl (rw (becomes, ← drop-drop len old.at (take old.accepted old.window)) (IsWholeLines-drop len (drop old.at (take old.accepted old.window)) whole))
  | inr none ↦ inr (rw becomes none.0, rw becomes none.1)
]

-- The slots of the open sources, as one of them changes, opens or closes.

-- an open slot changed
pub slots-kept : {R : Type 0} (size first : ℕ) (slots : List (File R)) (f : File R) → AreSlots size first slots → IsSlot size f → AreSlots size first (set slots first f)
slots-kept size first slots f s slot = record {
  inside = (let inside = s.inside in omega (arith, length-set slots first f));
  each = All-set (IsSlot size) slots first f slot s.each;
  closed = All-same IsClosed (take first (set slots first f)) (take first slots) (take-set slots first f) s.closed;
}

-- one more slot was opened
pub slots-entered : {R : Type 0} (size first : ℕ) (slots : List (File R)) (f : File R) → AreSlots size first slots → IsSlot size f → AreSlots size (first - 1) (set slots (first - 1) f)
slots-entered size first slots f s slot = record {
  inside = (let inside = s.inside in omega (arith, length-set slots (first - 1) f));
  each = All-set (IsSlot size) slots (first - 1) f slot s.each;
  closed = All-same IsClosed (take (first - 1) (set slots (first - 1) f)) (take (first - 1) (take first slots))
      (take-set slots (first - 1) f ∙ sym (take-take (first - 1) first slots (omega arith))) (All-take IsClosed (first - 1) (take first slots) s.closed);
}

-- the innermost slot was closed
pub slots-left : {R : Type 0} (size first : ℕ) (slots : List (File R)) (f : File R) → first < length slots → AreSlots size first slots → IsSlot size f → IsClosed f → AreSlots size (first + 1) (set slots first f)
slots-left size first slots f more s slot closed = record {
  inside = omega (arith, length-set slots first f);
  each = All-set (IsSlot size) slots first f slot s.each;
  closed = All-same IsClosed (take (first + 1) (set slots first f)) (take first slots ++ (f ∷ [])) (take_more_set slots first f more)
      (All-append IsClosed (take first slots) (f ∷ []) s.closed (All-cons IsClosed f [] closed (All-nil IsClosed)));
}

-- some slot is open
pub some-open : {R : Type 0} (first : ℕ) (slots : List (File R)) → 0 < length (drop first slots) → first < length slots
some-open first slots some = omega (arith, length-drop first slots)

-- bytes of which there are none
pub none-held : (bytes : List ℕ) → (length bytes == 0) ≡ true → bytes ≡ []
none-held [] none = refl
none-held (b ∷ bytes) none = grind arith

-- the buffer of the innermost source, by its slot
inner-first : {R : Type 0} (include_stack : List (File R)) (f : File R) → 0 < length include_stack → f ≡ get_or include_stack 0 f → inner_buffer include_stack ≡ f.buffer
inner-first [] f some is = absurd (omega (arith, some))
inner-first (x ∷ outer) f some is = sym (ap (λ f. f.buffer) is)

-- the same, where it stands among others
pub inner-slot : {R : Type 0} (first : ℕ) (slots : List (File R)) (f : File R) → 0 < length (drop first slots) → f ≡ get_or slots first f → inner_buffer (drop first slots) ≡ f.buffer
inner-slot first slots f some is = inner-first (drop first slots) f some (grind (arith, get_or-drop first slots 0 f))

-- the same, where another source was put in the slot
pub inner-set : {R : Type 0} (first : ℕ) (slots : List (File R)) (f : File R) → 0 < length (drop first slots) → inner_buffer (drop first (set slots first f)) ≡ f.buffer
inner-set first slots f some = ap inner_buffer (drop-set slots first f (some-open first slots some))

-- the open sources, where the innermost one changed
pub inner-changed : {R : Type 0} (first : ℕ) (slots : List (File R)) (change : File R → File R) (old new : File R) → 0 < length (drop first slots) → old ≡ get_or slots first old → new ≡ change old →
    drop first (set slots first new) ≡ with_inner change (drop first slots)
inner-changed first slots change old new some is becomes =
    let more = some-open first slots some in
    let next : first + 1 ≡ suc first = omega arith in
    let cut : drop first slots ≡ old ∷ drop (first + 1) slots = drop-cons slots first old more ∙ (ap (λ f. f ∷ drop (suc first) slots) (sym is) ∙ ap (λ n. old ∷ drop n slots) (sym next)) in
    drop-set slots first new more ∙ (ap (λ f. f ∷ drop (first + 1) slots) becomes ∙ sym (ap (with_inner change) cut))

-- the same, where its buffer alone changed
pub inner-buffered : {R : Type 0} (first : ℕ) (slots : List (File R)) (old : File R) (left right : BufferView R) → 0 < length (drop first slots) → old ≡ get_or slots first old → left ≡ right →
    drop first (set slots first (record old { buffer = left })) ≡ with_buffer right (drop first slots)
inner-buffered first slots old left right some is same =
    inner-changed first slots (λ f. record f { buffer = right }) old (record old { buffer = left }) some is (ap (λ b. record old { buffer = b }) same)

-- the open sources without the innermost one, whose slot changed
pub inner-left : {R : Type 0} (first : ℕ) (slots : List (File R)) (new : File R) → drop (first + 1) (set slots first new) ≡ drop 1 (drop first slots)
inner-left first slots new = drop-set-lt (first + 1) slots first new (omega arith) ∙ sym (drop-drop 1 first slots)

-- the same open sources, in the same room
pub same-files : {R : Type 0} (left right : List (File R)) (slots line_bytes : ℕ) → left ≡ right →
    ◌≡◌ {A = FilesView R} (record { include_stack = left; slots = slots; line_bytes = line_bytes }) (record { include_stack = right; slots = slots; line_bytes = line_bytes })
same-files left right slots line_bytes same = ap (λ s. record { include_stack = s; slots = slots; line_bytes = line_bytes }) same

-- the innermost slot
pub slot-inner : {R : Type 0} (size first : ℕ) (slots : List (File R)) (f : File R) → AreSlots size first slots → 0 < length (drop first slots) → f ≡ get_or slots first f → IsSlot size f
slot-inner size first slots f s some is = subst (IsSlot size) (sym is) (All-get_or (IsSlot size) slots first f (some-open first slots some) s.each)

-- the open slots with one more
pub entered-include_stack : {R : Type 0} (first : ℕ) (slots : List (File R)) (f : File R) → 0 < first → first ≤ length slots → drop (first - 1) (set slots (first - 1) f) ≡ f ∷ drop first slots
entered-include_stack first slots f some inside = grind (arith, drop-set)

-- a source whose buffer was opened
pub entered-file : {R : Type 0} (found : Found R) (source_bytes size line_bytes conditions_below include_line : ℕ) (buffer : BufferView R) → buffer ≡ opened_buffer found.reader source_bytes size → size ≡ line_bytes →
    record (entered_file found source_bytes line_bytes conditions_below include_line) { buffer = buffer } ≡ entered_file found source_bytes line_bytes conditions_below include_line
entered-file {R} found source_bytes size line_bytes conditions_below include_line buffer opened same =
    ap (λ (b : BufferView R). record (entered_file found source_bytes line_bytes conditions_below include_line) { buffer = b }) (opened ∙ ap (opened_buffer found.reader source_bytes) same)

-- the last byte says whether bytes end in LF
pub ends_mid_line-last : (ends_mid_line : Bool) (bytes : List ℕ) (last : ℕ) → 0 < length bytes → last ≡ get_or bytes (length bytes - 1) 0 → ends_mid_line_after ends_mid_line bytes ≡ not (is_line_end last)
unfolding ends_mid_line_after
ends_mid_line-last ends_mid_line [] last some is = absurd (omega arith)
ends_mid_line-last ends_mid_line (b ∷ []) last some is = ap (λ x. not (is_line_end x)) (sym is)
ends_mid_line-last ends_mid_line (b ∷ x ∷ bs) last some is =
    let n = length bs in
    let here : suc (suc n) - 1 ≡ suc n = omega arith in
    let back : n ≡ suc n - 1 = omega arith in
    ends_mid_line-last (not (is_line_end b)) (x ∷ bs) last (omega arith) (is ∙ (ap (λ k. get_or (b ∷ x ∷ bs) k 0) here ∙ ap (λ k. get_or (x ∷ bs) k 0) back))

-- one of the slots
pub slot-at : {R : Type 0} (size at : ℕ) (slots : List (File R)) (f : File R) → All (IsSlot size) slots → at < length slots → f ≡ get_or slots at f → IsSlot size f
slot-at size at slots f each more is = subst (IsSlot size) (sym is) (All-get_or (IsSlot size) slots at f more each)

-- a slot that was just made
pub closed-slot : {R : Type 0} (size : ℕ) (f : File R) → f.buffer ≡ closed_buffer 0 size → f.shift.number ≡ 0 → IsSlot size f
unfolding closed_buffer
closed-slot size f closed number = grind (arith, none_ends)

-- slots of which none is open
pub slots-made : {R : Type 0} (size first : ℕ) (slots : List (File R)) → length slots ≡ first → All (IsSlot size) slots → All IsClosed slots → AreSlots size first slots
slots-made size first slots all each closed = record {
  inside = omega arith;
  each = each;
  closed = All-take IsClosed first slots closed;
}

-- the mode changes nothing of what is held
pub moded-ends : {R : Type 0} (old new : BufferView R) (next : Mode) → new ≡ entered_mode old next → EndsHeld old → EndsHeld new
unfolding entered_mode held_of ahead_of
moded-ends old new next becomes ends = rw becomes ends

-- what is held of all slots is at most so much of each
held-within : {R : Type 0} (size : ℕ) (slots : List (File R)) → All (IsSlot size) slots → held_bytes slots ≤ length slots * size
held-within size [] each = omega arith
held-within {R} size (f ∷ fs) each =
    let slot : IsSlot size f = All-head (IsSlot size) f fs each in
    let rest = held-within size fs (All-tail (IsSlot size) f fs each) in
    let within = slot.buffer.within in
    let same = slot.size in
    let cut : held_bytes (f ∷ fs) ≡ length f.buffer.window + held_bytes fs = sum_by-cons (λ (g : File R). length g.buffer.window) f fs in
    omega (arith, add-one)

-- and so of the open ones
pub held-bound : {R : Type 0} (files : FilesView R) → AreOpen files → held_bytes files.include_stack ≤ files.slots * files.line_bytes
held-bound files open_ = grind (arith, held-within files.line_bytes files.include_stack open_.each, mul-le-mul_right)

-- a part of what is held
pub held-part : {R : Type 0} (files : FilesView R) (items : List (File R)) (i : ℕ) (f : File R) → items ≡ files.include_stack → AreOpen files → i < length items → f ≡ get_or items i f → held_bytes (take i items) + length f.buffer.window ≤ files.slots * files.line_bytes
held-part {R} files items i f same open_ more is = grind (arith, sum_by_more_le, held-bound)

-- what is held of one source more
pub held-more : {R : Type 0} (items : List (File R)) (i : ℕ) (f : File R) → i < length items → f ≡ get_or items i f → held_bytes (take (i + 1) items) ≡ held_bytes (take i items) + length f.buffer.window
held-more {R} items i f more is =
    sum_by_more (λ (g : File R). length g.buffer.window) items i f more ∙ ap (λ (g : File R). held_bytes (take i items) + length g.buffer.window) (sym is)

-- what an open source may still give, and one more, is a digit
digits-below : {R : Type 0} (size : ℕ) (include_stack : List (File R)) → All (IsSlot size) include_stack → All (λ (d : ℕ). d < 2 ^ 31) (source_digits include_stack)
unfolding source_digits unused_of
digits-below size [] each = All-nil (λ (d : ℕ). d < 2 ^ 31)
digits-below {R} size (f ∷ outer) each =
    let P : ℕ → Type 0 = λ d. d < 2 ^ 31 in
    let digit : File R → ℕ = λ g. unused_of g.buffer + 1 in
    let slot : IsSlot size f = All-head (IsSlot size) f outer each in
    let counts = slot.buffer.counts in
    let here : P (digit f) = omega arith in
    let rest : All P (source_digits outer) = digits-below size outer (All-tail (IsSlot size) f outer each) in
    let cut : source_digits (f ∷ outer) ≡ source_digits outer ++ digit f ∷ [] = reverse-append (digit f ∷ []) (map digit outer) in
    All-same P (source_digits (f ∷ outer)) (source_digits outer ++ digit f ∷ []) cut
    (All-append P (source_digits outer) (digit f ∷ []) rest (All-cons P (digit f) [] here (All-nil P)))

-- the open ones of the slots
pub slots-open : {R : Type 0} (size first : ℕ) (slots : List (File R)) → (n : ℕ) → n ≡ length slots → AreSlots size first slots → AreOpen (record { include_stack = drop first slots; slots = n; line_bytes = size })
slots-open size first slots n all s = record {
  few = omega (arith, length-drop first slots);
  each = All-drop (IsSlot size) first slots s.each;
  digits = digits-below size (drop first slots) (All-drop (IsSlot size) first slots s.each);
}

-- all that is held, by the parts of it, the outermost first
pub held_windows-len : {R : Type 0} (include_stack : List (File R)) → sum_by length (held_windows include_stack) ≡ held_bytes include_stack
unfolding held_windows
held_windows-len [] = refl
held_windows-len {R} (f ∷ fs) =
    let windows = map (λ (g : File R). g.buffer.window) fs in
    let rest : sum_by length (reverse windows) ≡ held_bytes fs = held_windows-len fs in
    let cut : reverse (f.buffer.window ∷ windows) ≡ reverse windows ++ f.buffer.window ∷ [] = reverse-append (f.buffer.window ∷ []) windows in
    let parts : sum_by length (reverse windows ++ f.buffer.window ∷ []) ≡ sum_by length (reverse windows) + sum_by length (f.buffer.window ∷ []) = sum_by-append length (reverse windows) (f.buffer.window ∷ []) in
    let one : sum_by length (f.buffer.window ∷ []) ≡ length f.buffer.window + 0 = sum_by-cons length f.buffer.window [] in
    let whole : held_bytes (f ∷ fs) ≡ length f.buffer.window + held_bytes fs = sum_by-cons (λ (g : File R). length g.buffer.window) f fs in
    ap (sum_by length) cut ∙ parts ∙ omega arith

-- after bytes and then bytes
pub ends_mid_line_after-append : (ends_mid_line : Bool) (x y : List ℕ) → ends_mid_line_after ends_mid_line (x ++ y) ≡ ends_mid_line_after (ends_mid_line_after ends_mid_line x) y
unfolding ends_mid_line_after
ends_mid_line_after-append ends_mid_line [] y = refl
ends_mid_line_after-append ends_mid_line (b ∷ x) y = ends_mid_line_after-append (not (is_line_end b)) x y

-- no byte changes nothing
pub ends_mid_line-none : (ends_mid_line : Bool) (bytes : List ℕ) → length bytes ≡ 0 → ends_mid_line ≡ ends_mid_line_after ends_mid_line bytes
unfolding ends_mid_line_after
ends_mid_line-none ends_mid_line [] none = refl
ends_mid_line-none ends_mid_line (b ∷ bs) none = absurd (omega arith)
