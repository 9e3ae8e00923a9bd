-- How what is held of a source grows by reading on: its lines, and what stands after it.
use Rattle.std.proofs.Common.{◌≡◌, ℕ, ◌+◌, ◌-◌, ◌≤◌, List, length, take, drop, sym, ap, ◌∙◌, arith, zero, suc, ◌<◌, [], ◌∷◌, ◌++◌, refl, subst, Bool, true, false, cond, length-append, min, inl, inr, None, Some, Option, ◌⊎◌, IsSome, is_none, take-add, append-nil, append_assoc, drop-drop, length-drop, length-take, length-take-le, take-append-drop, take-take}
use Rattle.std.specs.List.{copy_within}
use Rattle.std.proofs.Math.Seq.{take-append_seam, take-length}
use Rattle.std.proofs.lemmas.Bool.{cases_lt}
use Rattle.std.proofs.lemmas.List.{drop-append-le, drop-take, drop_all, take-append-le}
use Rattle.std.proofs.lemmas.List.Sums.{count_by-le-length}
use Rattle.rdlpp_scan.specs.Bytes.{is_line_end}
use Rattle.rdlpp_scan.specs.Lines.{EndsLine, IsWholeLines, onto_whole_lines, whole_lines_len}
use Rattle.rdlpp_scan.specs.SourceTokens.{line_ends, line_len}
use Rattle.rdlpp_scan.proofs.SourceLaws.{IsWholeLines-append, IsWholeLines-take, line_len-le, whole_lines_len-le}
use Rattle.rdlpp_source.specs.declared.sources.Sources.{Ghosts}
use Rattle.rdlpp_read.specs.Ahead.{IsPast}
use Rattle.rdlpp_read.specs.Buffer.{BufferView, EndsHeld, IsBuffer, Slides, ahead_of, held_of, rest_of, unread_of, unused_of}
use Rattle.rdlpp_read.specs.Calls.{SourcesRead}
use Rattle.rdlpp_read.specs.Filling.{Accepts, Finds, Grows, GrowsBy, IsExact, Lengthens, ReadsOn, Searches, Seeks, Stays, Stops, WaitsForLines, turns_left}
use Rattle.rdlpp_read.specs.declared.buffer.filling.Fill.{Fill}
use Rattle.rdlpp_read.specs.declared.buffer.filling.Fill.TheVariants.{End, Failed, Held, LineLong, SourceLong}
use Rattle.rdlpp_read.proofs.BufferTokens.{slides-kept, slides-on, slides-same}

-- Parts of a buffer of which the first bytes are held.

-- what is held up to a place
pub held_slice : (s a n : ℕ) (xs : List ℕ) → s ≤ a → a ≤ n → take (a - s) (drop s xs) ≡ drop s (take a (take n xs))
held_slice s a n xs h k =
    let m = a - s in
    let f : s + m ≡ a = omega arith in
    let first : drop s (take (s + m) xs) ≡ take m (drop s xs) = drop-take s m xs in
    sym first ∙ (ap (λ j. drop s (take j xs)) f ∙ ap (drop s) (sym (take-take a n xs k)))

-- what isn't used, moved to the front
pub shifted : (s n : ℕ) (xs : List ℕ) → s ≤ n → n ≤ length xs → take (n - s) (copy_within xs s n 0) ≡ drop s (take n xs)
shifted s n xs h k =
    let m = n - s in
    let f : s + m ≡ n = omega arith in
    let first : drop s (take (s + m) xs) ≡ take m (drop s xs) = drop-take s m xs in
    let whole : take m (copy_within xs s n 0) ≡ take m (drop s xs) =
    take-append-le m (take m (drop s xs)) (drop (0 + m) xs) (omega (arith, length-take m (drop s xs), length-drop s xs)) ∙ take-take m m (drop s xs) (omega arith) in
    whole ∙ (sym first ∙ ap (λ j. drop s (take j xs)) f)

-- no more is held than the places say
pub held_le : (s a n : ℕ) (xs : List ℕ) → length (drop s (take a (take n xs))) ≤ a - s
held_le s a n xs = omega (arith, length-drop s (take a (take n xs)), length-take a (take n xs))

-- what stands after a place, of the first bytes
pub ahead_slice : (s n : ℕ) (xs : List ℕ) → s ≤ n → take (n - s) (drop s xs) ≡ drop s (take n xs)
ahead_slice s n xs h =
    let m = n - s in
    let f : s + m ≡ n = omega arith in
    sym (drop-take s m xs) ∙ ap (λ j. drop s (take j xs)) f

-- a text has no more line ends than bytes
pub line_ends_le : (bytes : List ℕ) → line_ends bytes ≤ length bytes
unfolding line_ends
line_ends_le bytes = count_by-le-length is_line_end bytes

-- How long the whole lines of a text are, by its parts.

-- a byte in front of whole lines
onto_some : (b n : ℕ) → 0 < n → onto_whole_lines b n ≡ suc n
unfolding onto_whole_lines
onto_some b zero h = absurd (omega arith)
onto_some b (suc n) h = refl

-- whole lines at the end count all before them
pub whole-append-some : (xs ys : List ℕ) → 0 < whole_lines_len ys → whole_lines_len (xs ++ ys) ≡ length xs + whole_lines_len ys
unfolding whole_lines_len
whole-append-some [] ys h = omega arith
whole-append-some (x ∷ xs) ys h = grind (arith, onto_some, (whole-append-some xs ys h))

-- a tail without a line end counts nothing
pub whole-append-none : (xs ys : List ℕ) → whole_lines_len ys ≡ 0 → whole_lines_len (xs ++ ys) ≡ whole_lines_len xs
unfolding whole_lines_len
whole-append-none [] ys h = h
whole-append-none (x ∷ xs) ys h = ap (onto_whole_lines x) (whole-append-none xs ys h)

-- from a place to the end
pub to_end : (seen : ℕ) (bytes : List ℕ) → take (length bytes - seen) (drop seen bytes) ≡ drop seen bytes
to_end seen bytes = rw (← length-drop seen bytes) (take-length (drop seen bytes))

-- whole lines after the first `seen` bytes are seen in the whole text
pub found_after : (seen : ℕ) (bytes : List ℕ) → 0 < whole_lines_len (take (length bytes - seen) (drop seen bytes)) → 0 < whole_lines_len bytes
found_after seen bytes some =
    let all = whole-append-some (take seen bytes) (drop seen bytes) (rw to_end at some) in
    let whole = rw (take-append-drop seen bytes) at all in
    let more = rw to_end at some in
    omega arith

-- no line end in the first `seen` bytes and none after them
pub none_after : (seen : ℕ) (bytes : List ℕ) → whole_lines_len (take seen bytes) ≡ 0 → whole_lines_len (take (length bytes - seen) (drop seen bytes)) ≡ 0 → whole_lines_len bytes ≡ 0
none_after seen bytes before none =
    let all = whole-append-none (take seen bytes) (drop seen bytes) (rw to_end at none) in
    let whole = rw (take-append-drop seen bytes) at all in
    whole ∙ before

-- the whole lines within the first bytes are whole lines of the text
pub whole_within : (room : ℕ) (bytes : List ℕ) → IsWholeLines (take (whole_lines_len (take room bytes)) bytes)
whole_within room bytes =
    let n = whole_lines_len (take room bytes) in
    let less : n ≤ room = omega (arith, whole_lines_len-le (take room bytes), length-take room bytes) in
    subst IsWholeLines (take-take n room bytes less) (IsWholeLines-take (take room bytes))

-- The first line of a text, by its parts.

-- whole lines after a byte that is no line end
after-byte : (b n : ℕ) → is_line_end b ≡ false → 0 < onto_whole_lines b n → 0 < n
unfolding onto_whole_lines
after-byte b zero e some = let none = rw e at some in absurd (omega arith)
after-byte b (suc n) e some = omega arith

-- a choice of nothing was no
none-case : (v : Bool) → ◌≡◌ {A = ℕ} (cond v 1 0) 0 → v ≡ false
none-case true h = absurd (omega arith)
none-case false h = refl

-- a byte that is no line end, and what follows has none
none-byte : (b n : ℕ) → onto_whole_lines b n ≡ 0 → (is_line_end b ≡ false) × (n ≡ 0)
unfolding onto_whole_lines
none-byte b zero h = (none-case (is_line_end b) h, refl)
none-byte b (suc n) h = absurd (omega arith)

-- the first line goes on after bytes without a line end
pub line-more : (k : ℕ) (bytes : List ℕ) → whole_lines_len (take k bytes) ≡ 0 → k < length bytes → k < line_len bytes
unfolding whole_lines_len line_len
line-more k [] none more = absurd (omega arith)
line-more zero (b ∷ bs) none more = elim (is_line_end b) as (λ v. 0 < cond v 1 (suc (line_len bs))) [ true ↦ omega arith | false ↦ omega arith ]
line-more (suc k) (b ∷ bs) none more =
    let parts = none-byte b (whole_lines_len (take k bs)) none in
    let tail = line-more k bs parts.1 (omega arith) in
    rw parts.0 (omega arith)

-- the first line ends within whole lines
pub line-within : (w r : List ℕ) → 0 < whole_lines_len w → line_len (w ++ r) ≤ length w
unfolding whole_lines_len onto_whole_lines line_len
line-within [] r some = absurd (omega arith)
line-within (b ∷ bs) r some = elim (is_line_end b) as (λ v. is_line_end b ≡ v → cond v 1 (suc (line_len (bs ++ r))) ≤ suc (length bs)) [
  | true ↦ λ e. omega arith
  | false ↦ λ e. let tail = line-within bs r (after-byte b (whole_lines_len bs) e some) in omega arith
] refl

-- a text without line ends is one line
none-line : (w : List ℕ) → whole_lines_len w ≡ 0 → length w ≤ line_len w
unfolding whole_lines_len line_len
none-line [] none = omega arith
none-line (b ∷ bs) none =
    let parts = none-byte b (whole_lines_len bs) none in
    let tail = none-line bs parts.1 in
    rw parts.0 (omega arith)

-- the first line goes on after the room, where the window has a line end but not within the room
line-over : (room : ℕ) (w r : List ℕ) → whole_lines_len (take (min room (length w)) w) ≡ 0 → 0 < whole_lines_len w → room < line_len (w ++ r)
line-over room w r none some =
    let held : min room (length w) ≤ length w = omega arith in
    let part : take (min room (length w)) (w ++ r) ≡ take (min room (length w)) w = take-append-le (min room (length w)) w r held in
    elim (cases_lt room (length w)) [
      | inr le ↦ absurd (let all : min room (length w) ≡ length w = omega arith in let whole = rw (all, take-length) at none in omega arith)
      | inl lt ↦ (let less : min room (length w) ≡ room = omega arith in
          let near : room ≤ length w = omega arith in line-more room (w ++ r) (rw take-append-le (rw less at none)) (omega (arith, length-append w r)))
    ]

-- the first line is too long, where none ends within the bytes that are left
pub past-whole : (left : ℕ) (bytes : List ℕ) (ended : Bool) → whole_lines_len (take (min left (length bytes)) bytes) ≡ 0 → 0 < whole_lines_len bytes → IsPast bytes left ended
past-whole left bytes ended none some = grind (arith, line-within, line-over)

-- the last line is too long
pub past-last : (left : ℕ) (bytes : List ℕ) → whole_lines_len bytes ≡ 0 → left < length bytes → IsPast bytes left true
past-last left bytes none long = grind (arith, append-nil, line_len-le, none-line)

-- a text goes on after bytes without a line end
pub line-longer : (bytes more : List ℕ) → whole_lines_len bytes ≡ 0 → 0 < length more → length bytes < line_len (bytes ++ more)
line-longer bytes more none some = line-more (length bytes) (bytes ++ more) (rw take-append_seam none) (omega (arith, length-append bytes more))

-- What one turn of reading does to an open source.

-- the text has ended
pub ended_turn : {R : Type 0} (has_known_texts : Type 0) (unread : R → List ℕ) (old new : BufferView R) (reader : R) →
    old.reader ≡ Some reader → new ≡ record old { reader = None } → (has_known_texts → unread reader ≡ []) → length old.window ≤ old.line_bytes → ReadsOn has_known_texts unread old new
unfolding unread_of
ended_turn has_known_texts unread old new reader was becomes text within = grind (arith, append-nil)

-- bytes came
pub gained_turn : {R : Type 0} (has_known_texts : Type 0) (unread : R → List ℕ) (old new : BufferView R) (reader next : R) (bytes : List ℕ) →
    old.reader ≡ Some reader → new ≡ record old { window = old.window ++ bytes; reader = Some next } → 0 < length bytes →
    (has_known_texts → unread reader ≡ bytes ++ unread next) → length old.window + length bytes ≤ old.line_bytes → ReadsOn has_known_texts unread old new
unfolding unread_of
gained_turn has_known_texts unread old new reader next bytes was becomes some text within = grind (arith, length-append)

-- a read failed
pub failed_turn : {R : Type 0} (has_known_texts : Type 0) (unread : R → List ℕ) (old new : BufferView R) (reader next : R) →
    old.reader ≡ Some reader → new ≡ record old { reader = Some next } → (has_known_texts → unread next ≡ unread reader) → Stops has_known_texts unread Failed old new
unfolding unread_of
failed_turn has_known_texts unread old new reader next was becomes text = grind arith

-- a full window goes on
pub long_turn : {R : Type 0} (has_known_texts : Type 0) (unread : R → List ℕ) (old new : BufferView R) (reader next : R) →
    old.reader ≡ Some reader → new ≡ record old { reader = Some next } → length old.window ≡ old.line_bytes →
    (has_known_texts → 0 < length (unread reader)) → Stops has_known_texts unread LineLong old new
unfolding unread_of
long_turn has_known_texts unread old new reader next was becomes full text = grind arith

-- a read that gave nothing with room found nothing left
pub none_left : (xs ys to : List ℕ) (n : ℕ) → (xs ≡ take n to ++ ys) × (n ≡ 0 → 0 < length to → ys ≡ []) → n ≡ 0 → 0 < length to → xs ≡ []
none_left xs ys to n h e bytes_left = grind arith

-- a read that gave something found some left
pub some_left : (xs ys to : List ℕ) (n : ℕ) → (xs ≡ take n to ++ ys) × (n ≡ 0 → 0 < length to → ys ≡ []) → (n ≡ 0 → ⊥) → n ≤ length to → 0 < length xs
some_left xs ys to n h e bytes_left = grind (arith, length-take-le, length-append)

-- the window after a read
pub window_after : (filled n : ℕ) (old new : List ℕ) → take filled new ≡ take filled old → take (filled + n) new ≡ take filled old ++ take n (drop filled new)
window_after filled n old new kept = take-add filled n new ∙ ap (λ w. w ++ take n (drop filled new)) kept

-- How what is held of a source grows by reading on, and what then stands after it.

-- before the first turn
pub search-starts : {S R : Type 0} (g : Ghosts S R) (sources : S) (f : BufferView R) → f.accepted ≤ length f.window → EndsHeld f → Searches g sources sources f f 0
unfolding whole_lines_len
search-starts g sources f inside ends = grind (arith, slides-same)

-- what a turn adds stands after what was ahead
reads-ahead : {R : Type 0} (told : Type 0) (unread : R → List ℕ) (mid new : BufferView R) → mid.accepted ≤ length mid.window → (reads : ReadsOn told unread mid new) →
    ahead_of new ≡ ahead_of mid ++ reads.gained
unfolding ahead_of
reads-ahead told unread mid new inside reads = ap ahead_of reads.becomes ∙ drop-append-le mid.accepted mid.window reads.gained inside

-- what a turn adds changes nothing of what is held
reads-held : {R : Type 0} (told : Type 0) (unread : R → List ℕ) (mid new : BufferView R) → mid.accepted ≤ length mid.window → ReadsOn told unread mid new → held_of new ≡ held_of mid
unfolding held_of
reads-held told unread mid new inside reads = ap held_of reads.becomes ∙ ap (drop mid.at) (take-append-le mid.accepted mid.window reads.gained inside)

-- what a turn adds was unread
reads-text : {R : Type 0} (told : Type 0) (unread : R → List ℕ) (mid new : BufferView R) → mid.accepted ≤ length mid.window → ReadsOn told unread mid new → told → rest_of unread mid ≡ rest_of unread new
unfolding rest_of
reads-text told unread mid new inside reads t = grind (arith, reads-ahead told unread mid new inside reads, append_assoc)

-- what a turn adds came after the window
reads-slides : {R : Type 0} (told : Type 0) (unread : R → List ℕ) (mid new : BufferView R) → ReadsOn told unread mid new → Slides told Unit unread mid new
reads-slides told unread mid new reads = record {
  dropped = [];
  gained = reads.gained;
  window = sym (ap (λ f. f.window) reads.becomes);
  used = (let at = ap (λ f. f.at) reads.becomes in omega arith);
  text = λ t. record { rest = unread_of unread new.reader; whole = reads.text t; same = λ e. refl };
}

-- where no whole line is ahead after the turns so far, none was before them
none-before : {R : Type 0} (has_known_texts : Type 0) (unread : R → List ℕ) (old mid : BufferView R) → Seeks has_known_texts unread old mid → whole_lines_len (ahead_of mid) ≡ 0 → whole_lines_len (ahead_of old) ≡ 0
unfolding ahead_of
none-before has_known_texts unread old mid seeks none = grind arith

-- bytes were read only where no whole line was ahead, if what came then leaves the window
waits-on : {R : Type 0} (has_known_texts : Type 0) (unread : R → List ℕ) (old mid new : BufferView R) → Seeks has_known_texts unread old mid → new.window ≡ mid.window → new.at ≡ mid.at → WaitsForLines old new
waits-on has_known_texts unread old mid new seeks window at = grind arith

-- a turn that reads on keeps the text that remains
seeks-on : {R : Type 0} (has_known_texts told : Type 0) (unread : R → List ℕ) (old mid new : BufferView R) → Seeks has_known_texts unread old mid → whole_lines_len (ahead_of mid) ≡ 0 → (has_known_texts → told) → ReadsOn told unread mid new → Seeks has_known_texts unread old new
seeks-on has_known_texts told unread old mid new seeks none tell reads =
    let window : new.window ≡ mid.window ++ reads.gained = ap (λ f. f.window) reads.becomes in
    let accepted : new.accepted ≡ mid.accepted = ap (λ f. f.accepted) reads.becomes in
    let size : length new.window ≡ length mid.window + length reads.gained = ap length window ∙ length-append mid.window reads.gained in
    let inside = seeks.inside in
    record {
      at = ap (λ f. f.at) reads.becomes ∙ seeks.at;
      accepted = accepted ∙ seeks.accepted;
      inside = omega arith;
      bytes_left = ap (λ f. f.bytes_left) reads.becomes ∙ seeks.bytes_left;
      line = ap (λ f. f.line) reads.becomes ∙ seeks.line;
      line_bytes = ap (λ f. f.line_bytes) reads.becomes ∙ seeks.line_bytes;
      mode = ap (λ f. f.mode) reads.becomes ∙ seeks.mode;
      open_token_line = ap (λ f. f.open_token_line) reads.becomes ∙ seeks.open_token_line;
      held = reads-held told unread mid new inside reads ∙ seeks.held;
      text = λ t. seeks.text t ∙ reads-text told unread mid new inside reads (tell t);
      slides = slides-on has_known_texts has_known_texts told Unit Unit unread old mid new (λ t. t) tell (λ e. tt) seeks.slides (reads-slides told unread mid new reads);
      waits = inr (none-before has_known_texts unread old mid seeks none);
    }

-- two calls that read without a fault are one
pub calls-on : {S R : Type 0} (g : Ghosts S R) (failed : Bool) (first before after : S) → SourcesRead g false first before → SourcesRead g failed before after → SourcesRead g failed first after
calls-on g true first before after one two = grind arith
calls-on g false first before after one two = grind arith

-- what a text that is read on ends with
reads-ends : {R : Type 0} (told : Type 0) (unread : R → List ℕ) (mid new : BufferView R) → mid.accepted ≤ length mid.window → IsSome mid.reader → EndsHeld mid → ReadsOn told unread mid new → EndsHeld new
reads-ends told unread mid new inside some ends reads = grind (arith, reads-held told unread mid new inside reads)

-- a turn that reads on goes on with the search
pub search-goes-on : {S R : Type 0} (g : Ghosts S R) (first before after : S) (old mid new : BufferView R) (seen len : ℕ) →
    Searches g first before old mid seen → whole_lines_len (ahead_of mid) ≡ 0 → IsSome mid.reader → ReadsOn (g.has_known_texts before) g.unread mid new → SourcesRead g false before after →
    len ≡ length (ahead_of mid) → Searches g first after old new len
search-goes-on g first before after old mid new seen len searches none some reads call whole =
    let inside = searches.seeks.inside in
    let ahead = reads-ahead (g.has_known_texts before) g.unread mid new inside reads in
    let size : length (ahead_of new) ≡ length (ahead_of mid) + length reads.gained = ap length ahead ∙ length-append (ahead_of mid) reads.gained in
    let front_part : take len (ahead_of new) ≡ ahead_of mid = rw (whole, ahead) (take-append_seam (ahead_of mid) reads.gained) in
    search (arith, seeks-on, reads-ends, calls-on)

-- fewer turns remain, over the parts
fewer : {R : Type 0} (most len gained : ℕ) (r s : Option R) → IsSome r → len + gained ≤ most → (s ≡ None) ⊎ (0 < gained) →
    most - (len + gained) + elim s [ None ↦ 0 | Some reader ↦ 1 ] < most - len + elim r [ None ↦ 0 | Some reader ↦ 1 ]
fewer most len gained None s some within moves = absurd (cc)
fewer most len gained (Some r) None some within moves = omega arith
fewer most len gained (Some r) (Some s) some within (inl ended) = absurd (cc)
fewer most len gained (Some r) (Some s) some within (inr more) = omega arith

-- fewer turns remain
pub fewer-turns : {R : Type 0} (has_known_texts : Type 0) (unread : R → List ℕ) (old new : BufferView R) → ReadsOn has_known_texts unread old new → IsSome old.reader → turns_left new < turns_left old
unfolding turns_left
fewer-turns has_known_texts unread old new reads some = grind (arith, length-append, fewer)

-- nothing is unread after the end of a text
unread-ended : {R : Type 0} (unread : R → List ℕ) (r : Option R) → is_none r ≡ true → unread_of unread r ≡ []
unfolding unread_of
unread-ended unread None h = refl
unread-ended unread (Some reader) h = absurd (cc)

-- a reader that isn't there
none-reader : {R : Type 0} (r : Option R) → is_none r ≡ true → r ≡ None
none-reader None h = refl
none-reader (Some reader) h = absurd (cc)

-- what is held and what is ahead are the window
window-parts : {R : Type 0} (f : BufferView R) → f.at ≡ 0 → f.accepted ≤ length f.window → length (held_of f) + length (ahead_of f) ≡ length f.window
unfolding held_of ahead_of
window-parts f at inside = rw at (omega (arith, length-take-le f.accepted f.window inside, length-drop f.accepted f.window))

-- what was accepted stands after what is held
accepts-held : {R : Type 0} (mid new : BufferView R) → mid.at ≡ 0 → (a : Accepts mid new) → held_of new ≡ held_of mid ++ take a.len (ahead_of mid)
unfolding held_of ahead_of
accepts-held mid new at a = ap held_of a.becomes ∙ rw at (take-add mid.accepted a.len mid.window)

-- what is ahead of what was accepted
accepts-ahead : {R : Type 0} (mid new : BufferView R) → (a : Accepts mid new) → ahead_of new ≡ drop a.len (ahead_of mid)
unfolding ahead_of
accepts-ahead mid new a = ap ahead_of a.becomes ∙ sym (drop-drop a.len mid.accepted mid.window)

-- the text after what was accepted
accepts-rest : {R : Type 0} (unread : R → List ℕ) (mid new : BufferView R) → (a : Accepts mid new) → rest_of unread mid ≡ take a.len (ahead_of mid) ++ rest_of unread new
unfolding rest_of
accepts-rest unread mid new a = grind (arith, accepts-ahead mid new a, take-append-drop a.len (ahead_of mid), append_assoc)

-- what was accepted ends at a line end, or nothing follows
accepts-line : {R : Type 0} (unread : R → List ℕ) (mid new : BufferView R) → (a : Accepts mid new) → EndsLine (take a.len (ahead_of mid)) (rest_of unread new)
unfolding rest_of
accepts-line unread mid new a = grind (arith, accepts-ahead mid new a, drop_all, unread-ended)

-- where lines were accepted, what was held before them are whole lines
accepts-before : {R : Type 0} (mid new : BufferView R) → EndsHeld mid → Accepts mid new → IsWholeLines (held_of mid)
accepts-before mid new ends a = grind arith

-- no more is held than the window has
pub held-le : {R : Type 0} (f : BufferView R) → length (held_of f) ≤ length f.window
unfolding held_of
held-le f = omega (arith, length-drop f.at (take f.accepted f.window), length-take f.accepted f.window)

-- lines were accepted
accepts-grows : {R : Type 0} (has_known_texts : Type 0) (unread : R → List ℕ) (old mid new : BufferView R) → old.at ≡ 0 → Seeks has_known_texts unread old mid → EndsHeld mid → length mid.window ≤ mid.line_bytes →
    Accepts mid new → Lengthens has_known_texts unread old new
accepts-grows has_known_texts unread old mid new at seeks ends within a = grind (arith, accepts-before mid new ends a, accepts-held mid new (seeks.at ∙ at) a, held-le new, accepts-line unread mid new a, accepts-rest unread mid new a, length-take-le)

-- what stays where nothing was accepted
seeks-stays : {R : Type 0} (has_known_texts : Type 0) (unread : R → List ℕ) (old mid new : BufferView R) → Seeks has_known_texts unread old mid → held_of new ≡ held_of mid → new.bytes_left ≡ mid.bytes_left → Stays old new
seeks-stays has_known_texts unread old mid new seeks held left = record { held = held ∙ seeks.held; bytes_left = left ∙ seeks.bytes_left }

-- nothing was accepted: the text has ended
end-grows : {R : Type 0} (has_known_texts : Type 0) (unread : R → List ℕ) (old mid new : BufferView R) → Seeks has_known_texts unread old mid → new ≡ mid → ahead_of mid ≡ [] → mid.reader ≡ None → GrowsBy has_known_texts unread End old new
unfolding rest_of unread_of
end-grows has_known_texts unread old mid new seeks same none ended = grind (arith, seeks-stays)

-- nothing was accepted: the source is too long
source-grows : {R : Type 0} (has_known_texts : Type 0) (unread : R → List ℕ) (old mid new : BufferView R) → old.at ≡ 0 → Seeks has_known_texts unread old mid → length mid.window ≤ mid.line_bytes → new ≡ mid →
    IsPast (ahead_of mid) mid.bytes_left (is_none mid.reader) → GrowsBy has_known_texts unread SourceLong old new
unfolding rest_of
source-grows has_known_texts unread old mid new at seeks within same past = grind (arith, unread-ended, window-parts, seeks-stays)

-- what was found in the window
found-by : {R : Type 0} (has_known_texts : Type 0) (unread : R → List ℕ) (fill : Fill) (old mid new : BufferView R) → old.at ≡ 0 → Seeks has_known_texts unread old mid → EndsHeld mid → length mid.window ≤ mid.line_bytes →
    Finds fill mid new → GrowsBy has_known_texts unread fill old new
found-by has_known_texts unread Held old mid new at seeks ends within f = accepts-grows has_known_texts unread old mid new at seeks ends within f
found-by has_known_texts unread End old mid new at seeks ends within f = end-grows has_known_texts unread old mid new seeks f.0 f.1 f.2
found-by has_known_texts unread SourceLong old mid new at seeks ends within f = source-grows has_known_texts unread old mid new at seeks within f.0 f.1
found-by has_known_texts unread _ old mid new at seeks ends within f = absurd f

-- what isn't used, before the search and where it has come
seeks-unused : {R : Type 0} (has_known_texts : Type 0) (unread : R → List ℕ) (old mid : BufferView R) → Seeks has_known_texts unread old mid → unused_of mid ≡ unused_of old
unfolding unused_of
seeks-unused has_known_texts unread old mid seeks = rw (seeks.bytes_left, seeks.accepted, seeks.at) refl

-- what is found leaves all unused
finds-unused : {R : Type 0} (fill : Fill) (mid new : BufferView R) → mid.at ≤ mid.accepted → Finds fill mid new → unused_of new ≡ unused_of mid
unfolding unused_of
finds-unused Held mid new order f = grind arith
finds-unused End mid new order f = ap unused_of f.0
finds-unused SourceLong mid new order f = ap unused_of f.0
finds-unused LineLong mid new order f = absurd f
finds-unused Failed mid new order f = absurd f

-- what is found changes nothing else
record SameScalars {R : Type 0} (mid new : BufferView R) : Type 0 where
  pub line : new.line ≡ mid.line
  pub line_bytes : new.line_bytes ≡ mid.line_bytes
  pub mode : new.mode ≡ mid.mode
  pub open_token_line : new.open_token_line ≡ mid.open_token_line

-- nothing changed at all
same-scalars : {R : Type 0} (mid new : BufferView R) → new ≡ mid → SameScalars mid new
same-scalars mid new same = grind arith

-- what is found changes nothing else
finds-scalars : {R : Type 0} (fill : Fill) (mid new : BufferView R) → Finds fill mid new → SameScalars mid new
finds-scalars Held mid new f = grind arith
finds-scalars End mid new f = same-scalars mid new f.0
finds-scalars SourceLong mid new f = same-scalars mid new f.0
finds-scalars LineLong mid new f = absurd f
finds-scalars Failed mid new f = absurd f

-- what is found leaves the window and the place in it
finds-window : {R : Type 0} (fill : Fill) (mid new : BufferView R) → Finds fill mid new → (new.window ≡ mid.window) × (new.at ≡ mid.at)
finds-window Held mid new f = (ap (λ f. f.window) f.becomes, ap (λ f. f.at) f.becomes)
finds-window LineLong mid new f = absurd f
finds-window Failed mid new f = absurd f
finds-window _ mid new f = (ap (λ f. f.window) f.0, ap (λ f. f.at) f.0)

-- so the window slid
finds-slides : {R : Type 0} (has_known_texts : Type 0) (unread : R → List ℕ) (fill : Fill) (mid new : BufferView R) → Finds fill mid new → Slides has_known_texts (IsExact fill) unread mid new
finds-slides has_known_texts unread Held mid new f =
    slides-kept has_known_texts (IsExact Held) unread mid new (ap (λ f. f.window) f.becomes) (ap (λ f. f.at) f.becomes) (λ e t. ap (unread_of unread) (sym (ap (λ f. f.reader) f.becomes)))
finds-slides has_known_texts unread End mid new f = subst (Slides has_known_texts (IsExact End) unread mid) (sym f.0) (slides-same has_known_texts (IsExact End) unread mid)
finds-slides has_known_texts unread SourceLong mid new f = subst (Slides has_known_texts (IsExact SourceLong) unread mid) (sym f.0) (slides-same has_known_texts (IsExact SourceLong) unread mid)
finds-slides has_known_texts unread _ mid new f = absurd f

-- what stops a reading leaves the window, and a read that failed leaves what is unread
stops-slides : {R : Type 0} (told : Type 0) (unread : R → List ℕ) (fill : Fill) (mid new : BufferView R) → Stops told unread fill mid new → Slides told (IsExact fill) unread mid new
stops-slides told unread fill mid new stops = grind (arith, slides-kept)

-- the search came to an end in the window
pub found-grows : {R : Type 0} (has_known_texts : Type 0) (unread : R → List ℕ) (fill : Fill) (old mid new : BufferView R) → old.at ≡ 0 → Seeks has_known_texts unread old mid → EndsHeld mid → IsBuffer mid →
    Finds fill mid new → Grows has_known_texts unread fill old new
found-grows has_known_texts unread fill old mid new at seeks ends sound f =
    let same = finds-scalars fill mid new f in
    record {
      line = same.line ∙ seeks.line;
      line_bytes = same.line_bytes ∙ seeks.line_bytes;
      mode = same.mode ∙ seeks.mode;
      open_token_line = same.open_token_line ∙ seeks.open_token_line;
      unused = finds-unused fill mid new sound.used f ∙ seeks-unused has_known_texts unread old mid seeks;
      slides = slides-on has_known_texts has_known_texts has_known_texts (IsExact fill) (IsExact fill) unread old mid new (λ t. t) (λ t. t) (λ e. e) seeks.slides (finds-slides has_known_texts unread fill mid new f);
      waits = (let there = finds-window fill mid new f in waits-on has_known_texts unread old mid new seeks there.0 there.1);
      by = found-by has_known_texts unread fill old mid new at seeks ends sound.within f;
    }

-- what stops a reading leaves the window
stops-held : {R : Type 0} (told : Type 0) (unread : R → List ℕ) (fill : Fill) (mid new : BufferView R) → Stops told unread fill mid new → held_of new ≡ held_of mid
unfolding held_of
stops-held told unread fill mid new stops = ap held_of stops.becomes

-- a full window without a line end goes on
line-grows : {R : Type 0} (has_known_texts told : Type 0) (unread : R → List ℕ) (old mid new : BufferView R) → old.at ≡ 0 → Seeks has_known_texts unread old mid → (has_known_texts → told) →
    whole_lines_len (ahead_of mid) ≡ 0 → Stops told unread LineLong mid new → GrowsBy has_known_texts unread LineLong old new
unfolding rest_of
line-grows has_known_texts told unread old mid new at seeks tell none stops = grind (arith, window-parts mid (seeks.at ∙ at) seeks.inside, stops-held told unread LineLong mid new stops, seeks-stays, line-longer, length-append)

-- a read failed
failed-grows : {R : Type 0} (has_known_texts told : Type 0) (unread : R → List ℕ) (old mid new : BufferView R) → Seeks has_known_texts unread old mid → (has_known_texts → told) →
    whole_lines_len (ahead_of mid) ≡ 0 → Stops told unread Failed mid new → GrowsBy has_known_texts unread Failed old new
unfolding rest_of ahead_of
failed-grows has_known_texts told unread old mid new seeks tell none stops = grind (arith, stops-held told unread Failed mid new stops, seeks-stays)

-- what stopped a reading
stops-by : {R : Type 0} (has_known_texts told : Type 0) (unread : R → List ℕ) (fill : Fill) (old mid new : BufferView R) → old.at ≡ 0 → Seeks has_known_texts unread old mid → (has_known_texts → told) →
    whole_lines_len (ahead_of mid) ≡ 0 → Stops told unread fill mid new → GrowsBy has_known_texts unread fill old new
stops-by has_known_texts told unread LineLong old mid new at seeks tell none stops = line-grows has_known_texts told unread old mid new at seeks tell none stops
stops-by has_known_texts told unread Failed old mid new at seeks tell none stops = failed-grows has_known_texts told unread old mid new seeks tell none stops
stops-by has_known_texts told unread _ old mid new at seeks tell none stops = absurd (elim stops.kind [ inl e ↦ cc | inr e ↦ cc ])

-- reading came to an end
pub stops-grows : {R : Type 0} (has_known_texts told : Type 0) (unread : R → List ℕ) (fill : Fill) (old mid new : BufferView R) → old.at ≡ 0 → Seeks has_known_texts unread old mid → (has_known_texts → told) →
    whole_lines_len (ahead_of mid) ≡ 0 → Stops told unread fill mid new → Grows has_known_texts unread fill old new
unfolding unused_of
stops-grows has_known_texts told unread fill old mid new at seeks tell none stops = grind (arith, seeks-unused has_known_texts unread old mid seeks, stops-slides told unread fill mid new stops, stops-by has_known_texts told unread fill old mid new at seeks tell none stops, slides-on, waits-on)

-- where the search came to an end in the window, what is held ends at a line end or where the text ends
pub finds-ends : {R : Type 0} (fill : Fill) (mid new : BufferView R) → mid.at ≡ 0 → EndsHeld mid → Finds fill mid new → EndsHeld new
finds-ends Held mid new at ends f = elim f.lines.ends [
  | inl whole ↦ inl (subst IsWholeLines (sym (accepts-held mid new at f)) (IsWholeLines-append (held_of mid) (take f.len (ahead_of mid)) (accepts-before mid new ends f) whole))
  | inr last ↦ inr (ap (λ f. f.reader) f.becomes ∙ none-reader mid.reader last.0, accepts-ahead mid new f ∙ drop_all f.len (ahead_of mid) (omega (arith, last.1)))
]
finds-ends LineLong mid new at ends f = absurd f
finds-ends Failed mid new at ends f = absurd f
finds-ends _ mid new at ends f = subst EndsHeld (sym f.0) ends

-- the same where reading came to an end
pub stops-ends : {R : Type 0} (told : Type 0) (unread : R → List ℕ) (fill : Fill) (mid new : BufferView R) → IsSome mid.reader → EndsHeld mid → Stops told unread fill mid new → EndsHeld new
stops-ends told unread fill mid new some ends stops = grind (arith, stops-held told unread fill mid new stops)
