-- The reading of a call as it goes on over bytes that are used: what was read so far, and what each turn makes of it.
use Rattle.std.proofs.Common.{◌≡◌, ℕ, ◌+◌, ◌-◌, ◌≤◌, ◌<◌, List, [], ◌∷◌, ◌++◌, length, take, drop, refl, sym, ap, ◌∙◌, append_assoc, arith, ◌≢◌, Bool, true, false, subst, append-nil, drop-drop, length-append, length-drop, length-take, length-take-le}
use Rattle.rdlpp_scan.specs.declared.token.Mode.{Mode}
use Rattle.rdlpp_scan.specs.declared.token.Mode.TheVariants.{Plain, InStr, InBlock}
use Rattle.rdlpp_scan.specs.SourceTokens.{line_ends, SourceToken, remaining_tokens}
use Rattle.rdlpp_scan.specs.Pieces.{is_open}
use Rattle.rdlpp_meaning.specs.declared.fault.FaultKind.{FaultKind}
use Rattle.rdlpp_meaning.specs.CallReading.{ReadRefused, ReadStopped, ReadClosed, onto_kept, read, is_part_breach, Reading}
use Rattle.rdlpp_meaning.specs.CallScan.{CallState, Before, fault_at_end}
use Rattle.rdlpp_meaning.specs.Expansion.{bytes_of}
use Rattle.rdlpp_meaning.specs.Parts.{only_blanks}
use Rattle.rdlpp_meaning.proofs.ReadCalls.{onto_kept-append, onto_kept-nil, read_closed, read_refused, read_stopped}
use Rattle.rdlpp_meaning.proofs.LiveText.{only_blanks-append}
use Rattle.rdlpp_read.specs.Buffer.{BufferView, EndsHeld, MovesOver, ahead_of, entered_mode, held_of, rest_of, text_left, tokens_left, unused_of}
use Rattle.rdlpp_read.specs.Files.{FilesView, consumed_file, inner_buffer, ends_mid_line_after, with_buffer, with_inner}
use Rattle.rdlpp_read.specs.declared.files.File.{File}
use Rattle.rdlpp_read.proofs.BufferTokens.{ends_line, moves-on, moves-past, moves-told, text-on, text-past, ends_mid_line_after-append}
use Rattle.rdlpp_usages.specs.CallReads.{TellsCall, used_buffer, with_used, IsEndOfText, IsEnded, IsExactCall, IsTaken, ReadsCall, ReadsUpTo, is_failed_call, IsCallOf, MeansCall}
use Rattle.rdlpp_usages.specs.Reads.{Closes, GoesOn, reading}
use Rattle.rdlpp_usages.specs.CallActions.{Around, IsAround, IsClose, IsConsumed, kept_of, call_state_meant, tokens_at, tokens_after, IsAction, level_in}
use Rattle.rdlpp_usages.specs.declared.reading.CallRead.{CallRead}
use Rattle.rdlpp_usages.specs.declared.reading.CallRead.TheVariants.{Closed, Refused, Broken as BrokenCall, Failed, Broken}
use Rattle.rdlpp_usages.specs.declared.action.Consumed.{Consumed}
use Rattle.rdlpp_scan.specs.Front.{Breach, StringOpen, CommentOpen, front}
use Rattle.rdlpp_meaning.specs.declared.fault.FaultKind.TheVariants.{EmbeddedPerl}
use Rattle.rdlpp_meaning.specs.State.{breach_kind}
use Rattle.rdlpp_read.specs.Calls.{SourcesRead}
use Rattle.rdlpp_read.specs.Filling.{ended_tokens, only_broken}
use Rattle.rdlpp_read.proofs.Growing.{calls-on}
use Rattle.rdlpp_source.specs.declared.sources.Sources.{Ghosts}
use Rattle.rdlpp_usages.specs.Store.{StoreView}
use Rattle.rdlpp_usages.specs.declared.action.CallAction.TheVariants.{Refused as RefusedAction, Perl}
use Rattle.rdlpp_usages.proofs.Halts.{broken_reads}
use Rattle.rdlpp_scan.proofs.RemainingLaws.{course}

-- Reading a call goes on over bytes that are used, token by token and over refills.

-- what the held bytes of a source stand in
abbrev around_of : {R : Type 0} → (R → List ℕ) → BufferView R → Around
around_of unread f = record { most = f.line_bytes; opened = f.open_token_line; line = f.line; left = f.bytes_left; rest = rest_of unread f }

is_around : {R : Type 0} (unread : R → List ℕ) (f : BufferView R) → EndsHeld f → IsAround (held_of f) (around_of unread f)
is_around unread f ends = record { ends = ends_line unread f ends }

-- the tokens after used bytes
after_used : {R : Type 0} (unread : R → List ℕ) (f : BufferView R) (len : ℕ) (next : Mode)
    → tokens_after (around_of unread f) f.mode (held_of f) len next ≡ tokens_left unread (used_buffer f len next)
unfolding tokens_left rest_of ahead_of held_of entered_mode
after_used unread f len next = rw (drop-drop len f.at (take f.accepted f.window)) refl

-- what is held after used bytes
after_held : {R : Type 0} (f : BufferView R) (len : ℕ) (next : Mode) → held_of (used_buffer f len next) ≡ drop len (held_of f)
unfolding held_of entered_mode
after_held f len next = sym (drop-drop len f.at (take f.accepted f.window))

-- and what isn't held
after_rest : {R : Type 0} (unread : R → List ℕ) (f : BufferView R) (len : ℕ) (next : Mode) → rest_of unread (used_buffer f len next) ≡ rest_of unread f
unfolding rest_of ahead_of entered_mode
after_rest unread f len next = refl

-- what isn't used after used bytes
less_unused : {R : Type 0} (f : BufferView R) (len : ℕ) (next : Mode) → len ≤ length (held_of f)
    → unused_of (used_buffer f len next) + length (take len (held_of f)) ≡ unused_of f
unfolding unused_of entered_mode held_of
less_unused f len next inside = grind (arith, length-take-le, length-drop, length-take)

-- a window of which the first held bytes are used
pub used_moves : {R : Type 0} (has_known_texts exact : Type 0) (unread : R → List ℕ) (f : BufferView R) (len : ℕ) (next : Mode) → len ≤ length (held_of f) → MovesOver has_known_texts exact unread (take len (held_of f)) f (used_buffer f len next)
unfolding entered_mode
used_moves has_known_texts exact unread f len next inside =
    moves-past has_known_texts exact unread (take len (held_of f)) f (used_buffer f len next) refl (ap (λ n. f.at + n) (sym (length-take-le len (held_of f) inside))) refl

-- the text after them
pub used_text : {R : Type 0} (unread : R → List ℕ) (f : BufferView R) (len : ℕ) (next : Mode) → text_left unread f ≡ take len (held_of f) ++ text_left unread (used_buffer f len next)
used_text unread f len next = text-past unread f (used_buffer f len next) len (after_held f len next) (after_rest unread f len next)

-- a token that is used
pub token_goes_on : {R : Type 0} (unread : R → List ℕ) (at : CallState) (room : ℕ) (f : BufferView R) (u : Consumed) → EndsHeld f → IsConsumed at f.mode room (held_of f) u
    → GoesOn Unit unread at (call_state_meant u.call_state) room (kept_of u.is_kept (take u.len (held_of f))) (take u.len (held_of f)) f (used_buffer f u.len u.next_mode)
unfolding reading tokens_left entered_mode
token_goes_on unread at room f u ends how =
    let kept = kept_of u.is_kept (take u.len (held_of f)) in
    record {
      unused = less_unused f u.len u.next_mode how.inside;
      fits = how.fits;
      reads = λ _.
          how.reads (around_of unread f) (is_around unread f ends)
          ∙ ap (λ ts. onto_kept kept (read (call_state_meant u.call_state) (is_open u.next_mode) (room - length kept) ts)) (after_used unread f u.len u.next_mode);
      bytes = λ _.
          how.bytes (around_of unread f) (is_around unread f ends)
          ∙ ap (λ ts. take u.len (held_of f) ++ bytes_of ts) (after_used unread f u.len u.next_mode);
    }

-- the `)`
pub close_closes : {R : Type 0} (unread : R → List ℕ) (at : CallState) (room : ℕ) (f : BufferView R) → EndsHeld f → 0 < length (held_of f) → IsClose at f.mode room (held_of f)
    → Closes Unit unread at room [] (take 1 (held_of f)) f (used_buffer f 1 Plain)
unfolding reading tokens_left entered_mode
close_closes unread at room f ends some close =
    record {
      unused = less_unused f 1 Plain (omega arith);
      fits = omega arith;
      plain = refl;
      reads = λ _.
          close.reads (around_of unread f) (is_around unread f ends) ∙ ap (ReadClosed []) (after_used unread f 1 Plain);
      bytes = λ _.
          close.bytes (around_of unread f) (is_around unread f ends)
          ∙ ap (λ ts. take 1 (held_of f) ++ bytes_of ts) (after_used unread f 1 Plain);
    }

-- a refusal at a token
pub action_refused : {R : Type 0} (unread : R → List ℕ) (at : CallState) (room : ℕ) (f : BufferView R) (kind : FaultKind) → EndsHeld f
    → ((a : Around) → IsAround (held_of f) a → read at (is_open f.mode) room (tokens_at a f.mode (held_of f)) ≡ ReadRefused kind)
    → reading unread at room f ≡ ReadRefused kind
unfolding reading tokens_left
action_refused unread at room f kind ends law = law (around_of unread f) (is_around unread f ends)

-- a break at a token
pub action_broken : {R : Type 0} (unread : R → List ℕ) (at : CallState) (room : ℕ) (f : BufferView R) (kind : FaultKind) → EndsHeld f
    → ((a : Around) → IsAround (held_of f) a → read at (is_open f.mode) room (tokens_at a f.mode (held_of f)) ≡ ReadStopped kind a.line)
    → reading unread at room f ≡ ReadStopped kind f.line
unfolding reading tokens_left
action_broken unread at room f kind ends law = law (around_of unread f) (is_around unread f ends)

-- nothing was used, and the tokens stay
pub fill_goes_on : {R : Type 0} (has_known_texts : Type 0) (unread : R → List ℕ) (at : CallState) (room : ℕ) (old new : BufferView R)
    → unused_of new ≡ unused_of old → new.mode ≡ old.mode → (has_known_texts → tokens_left unread new ≡ tokens_left unread old)
    → GoesOn has_known_texts unread at at room [] [] old new
unfolding reading
fill_goes_on has_known_texts unread at room old new unused mode tokens = grind (arith, onto_kept-nil)

-- less room, twice
less_room : (room a b c : ℕ) → c ≡ a + b → (room - a) - b ≡ room - c
less_room room a b c e = omega (arith, e)

-- reading went on, and went on again
pub goes_on_twice : {R : Type 0} (has_known_texts : Type 0) (unread : R → List ℕ) (at to last : CallState) (room : ℕ) (k l u v : List ℕ) (f g h : BufferView R)
    → GoesOn has_known_texts unread at to room k u f g → GoesOn has_known_texts unread to last (room - length k) l v g h → GoesOn has_known_texts unread at last room (k ++ l) (u ++ v) f h
unfolding reading
goes_on_twice has_known_texts unread at to last room k l u v f g h a b = grind (arith, length-append, onto_kept-append, less_room, append_assoc)

-- reading went on, and then came to an answer
pub tells_after : {R : Type 0} (has_known_texts : Type 0) (unread : R → List ℕ) (at to : CallState) (room : ℕ) (k l u v : List ℕ) (f g h : BufferView R) (result : CallRead)
    → GoesOn has_known_texts unread at to room k u f g → TellsCall has_known_texts unread to (room - length k) l v g h result → TellsCall has_known_texts unread at room (k ++ l) (u ++ v) f h result
unfolding onto_kept
tells_after has_known_texts unread at to room k l u v f g h Closed a b = grind (arith, length-append, append_assoc)
tells_after has_known_texts unread at to room k l u v f g h (Refused kind) a b = λ t. a.reads t ∙ ap (onto_kept k) (b t)
tells_after has_known_texts unread at to room k l u v f g h (BrokenCall kind line) a b = λ t. a.reads t ∙ ap (onto_kept k) (b t)
tells_after has_known_texts unread at to room k l u v f g h Failed a b =
    record { to = b.to; goes_on = goes_on_twice has_known_texts unread at to b.to room k l u v f g h a b.goes_on }

-- what needs no word of the sources holds with it
pub goes_on_told : {R : Type 0} (has_known_texts : Type 0) (unread : R → List ℕ) (at to : CallState) (room : ℕ) (k u : List ℕ) (f g : BufferView R)
    → GoesOn Unit unread at to room k u f g → GoesOn has_known_texts unread at to room k u f g
goes_on_told has_known_texts unread at to room k u f g a =
    record { unused = a.unused; fits = a.fits; reads = λ t. a.reads tt; bytes = λ t. a.bytes tt }

pub tells_told : {R : Type 0} (has_known_texts : Type 0) (unread : R → List ℕ) (at : CallState) (room : ℕ) (k u : List ℕ) (f g : BufferView R) (result : CallRead)
    → TellsCall Unit unread at room k u f g result → TellsCall has_known_texts unread at room k u f g result
tells_told has_known_texts unread at room k u f g Closed a =
    record { unused = a.unused; fits = a.fits; plain = a.plain; reads = λ t. a.reads tt; bytes = λ t. a.bytes tt }
tells_told has_known_texts unread at room k u f g Failed a = record { to = a.to; goes_on = goes_on_told has_known_texts unread at a.to room k u f g a.goes_on }
tells_told has_known_texts unread at room k u f g _ a = λ t. a tt

-- bytes that were used, and bytes after them
pub used_twice : {R : Type 0} (f g : BufferView R) (x y : List ℕ) (include_stack : List (File R)) → with_used g y (with_used f x include_stack) ≡ with_used g (x ++ y) include_stack
used_twice f g x y [] = refl
used_twice f g x y (s ∷ outer) = rw (only_blanks-append s.blanks x y, ends_mid_line_after-append s.ends_mid_line x y) refl

-- another buffer, of which nothing more was used
pub used_none : {R : Type 0} (f : BufferView R) (include_stack : List (File R)) → with_buffer f include_stack ≡ with_used f [] include_stack
unfolding only_blanks ends_mid_line_after
used_none f [] = refl
used_none f (s ∷ outer) = refl

-- the innermost of sources of which bytes were used
pub used_inner : {R : Type 0} (f : BufferView R) (x : List ℕ) (include_stack : List (File R)) → 0 < length include_stack → inner_buffer (with_used f x include_stack) ≡ f
used_inner f x [] some = absurd (omega arith)
used_inner f x (s ∷ outer) some = refl

-- a mode that is entered changes nothing that is held
pub entered_held : {R : Type 0} (next : Mode) (include_stack : List (File R)) → held_of (inner_buffer (with_buffer (entered_mode (inner_buffer include_stack) next) include_stack)) ≡ held_of (inner_buffer include_stack)
unfolding held_of entered_mode
entered_held next [] = refl
entered_held next (s ∷ outer) = refl

-- a mode that is entered, and held bytes that are used
pub used_is : {R : Type 0} (len lines : ℕ) (next : Mode) (include_stack : List (File R)) → lines ≡ line_ends (take len (held_of (inner_buffer include_stack)))
    → with_inner (consumed_file len lines) (with_buffer (entered_mode (inner_buffer include_stack) next) include_stack)
    ≡ with_used (used_buffer (inner_buffer include_stack) len next) (take len (held_of (inner_buffer include_stack))) include_stack
unfolding held_of entered_mode
used_is len lines next [] e = refl
used_is len lines next (s ∷ outer) e = rw e refl

-- the same of the files
pub used_files : {R : Type 0} (len lines : ℕ) (next : Mode) (files mid new : FilesView R) → mid ≡ record files { include_stack = with_buffer (entered_mode (inner_buffer files.include_stack) next) files.include_stack }
    → new ≡ record mid { include_stack = with_inner (consumed_file len lines) mid.include_stack } → lines ≡ line_ends (take len (held_of (inner_buffer files.include_stack)))
    → new ≡ record files { include_stack = with_used (used_buffer (inner_buffer files.include_stack) len next) (take len (held_of (inner_buffer files.include_stack))) files.include_stack }
used_files {R = R} len lines next files mid new entered used counted = grind (arith, used_is)

-- The reading of a call as it goes on: what was read so far, and what each turn makes of it.

-- a call of which some was read: the store has what is kept of the used bytes, and reading goes on where it stands
pub record IsReading {S R : Type 0} (g : Ghosts S R) (failed : Bool) (first now : S) (old new : FilesView R) (most : ℕ) (store : StoreView) (at : CallState) : Type 0 where
  pub used : List ℕ
  pub only : new ≡ record old { include_stack = new.include_stack }
  pub inner : new.include_stack ≡ with_used (inner_buffer new.include_stack) used old.include_stack
  pub goes_on : GoesOn (g.has_known_texts first) g.unread Before at most store.bytes used (inner_buffer old.include_stack) (inner_buffer new.include_stack)
  pub room : store.most ≡ most
  pub level : level_in at ≤ length store.bytes
  pub lead : at ≡ Before → (inner_buffer new.include_stack).mode ≢ InStr
  pub moves : MovesOver (g.has_known_texts first) Unit g.unread used (inner_buffer old.include_stack) (inner_buffer new.include_stack)
  pub text : g.has_known_texts first → text_left g.unread (inner_buffer old.include_stack) ≡ used ++ text_left g.unread (inner_buffer new.include_stack)
  pub call : SourcesRead g failed first now

-- sources of which nothing was used
same_used : {R : Type 0} (include_stack : List (File R)) → include_stack ≡ with_used (inner_buffer include_stack) [] include_stack
unfolding only_blanks ends_mid_line_after
same_used [] = refl
same_used (f ∷ outer) = refl

-- a window that stays
same_moves : {R : Type 0} (has_known_texts exact : Type 0) (unread : R → List ℕ) (f : BufferView R) → MovesOver has_known_texts exact unread [] f f
same_moves has_known_texts exact unread f = moves-past has_known_texts exact unread [] f f refl (omega arith) refl

-- nothing was kept yet
reads_nothing : {R : Type 0} (has_known_texts : Type 0) (unread : R → List ℕ) (at : CallState) (room : ℕ) (f new : BufferView R) → unused_of f ≤ unused_of new + 1 → ReadsUpTo has_known_texts unread at room [] f new
reads_nothing has_known_texts unread at room f new most =
    record { to = at; used = []; there = f; goes_on = fill_goes_on has_known_texts unread at room f f refl refl (λ t. refl); whole = omega (arith, most) }

-- sources that weren't asked
not_asked : {S R : Type 0} (g : Ghosts S R) (s : S) → SourcesRead g false s s
not_asked g s = record { failures = refl; refusals = refl; has_known_texts = λ t. t; catalog = refl }

-- nothing was read yet
pub reading_starts : {S R : Type 0} (g : Ghosts S R) (s : S) (files : FilesView R) (most : ℕ) (store : StoreView) → store.bytes ≡ [] → store.most ≡ most
    → (inner_buffer files.include_stack).mode ≡ Plain → IsReading g false s s files files most store Before
unfolding level_in
reading_starts g s files most store none room plain =
    record {
      used = [];
      only = refl;
      inner = same_used files.include_stack;
      goes_on = subst (λ (k : List ℕ). GoesOn (g.has_known_texts s) g.unread Before Before most k [] (inner_buffer files.include_stack) (inner_buffer files.include_stack)) (sym none)
          (fill_goes_on (g.has_known_texts s) g.unread Before most (inner_buffer files.include_stack) (inner_buffer files.include_stack) refl refl (λ t. refl));
      room = room;
      level = omega arith;
      lead = λ _ open_. (let no : Plain ≡ InStr = sym plain ∙ open_ in cc);
      moves = same_moves (g.has_known_texts s) Unit g.unread (inner_buffer files.include_stack);
      text = λ t. refl;
      call = not_asked g s;
    }

-- bytes that are used one after the other
pub used_on : {R : Type 0} (old mid new : List (File R)) (x y : List ℕ) → mid ≡ with_used (inner_buffer mid) x old → new ≡ with_used (inner_buffer new) y mid
    → new ≡ with_used (inner_buffer new) (x ++ y) old
used_on {R = R} old mid new x y a b =
    b ∙ ap (λ (m : List (File R)). with_used (inner_buffer new) y m) a ∙ used_twice (inner_buffer mid) (inner_buffer new) x y old

-- a buffer was filled, and the tokens stay
pub filled : {S R : Type 0} (g : Ghosts S R) (failed : Bool) (first now after : S) (old mid new : FilesView R) (most : ℕ) (store : StoreView) (at : CallState)
    → IsReading g false first now old mid most store at
    → new ≡ record mid { include_stack = with_buffer (inner_buffer new.include_stack) mid.include_stack }
    → unused_of (inner_buffer new.include_stack) ≡ unused_of (inner_buffer mid.include_stack) → (inner_buffer new.include_stack).mode ≡ (inner_buffer mid.include_stack).mode
    → (g.has_known_texts now → tokens_left g.unread (inner_buffer new.include_stack) ≡ tokens_left g.unread (inner_buffer mid.include_stack))
    → MovesOver (g.has_known_texts now) Unit g.unread [] (inner_buffer mid.include_stack) (inner_buffer new.include_stack)
    → (g.has_known_texts now → text_left g.unread (inner_buffer new.include_stack) ≡ text_left g.unread (inner_buffer mid.include_stack))
    → SourcesRead g failed now after
    → IsReading g failed first after old new most store at
filled g failed first now after old mid new most store at r only unused mode tokens moves text call =
    let include_stack : new.include_stack ≡ with_used (inner_buffer new.include_stack) [] mid.include_stack = ap (λ f. f.include_stack) only ∙ used_none (inner_buffer new.include_stack) mid.include_stack in
    record {
      used = r.used ++ [];
      only = (let o = r.only in cc);
      inner = used_on old.include_stack mid.include_stack new.include_stack r.used [] r.inner include_stack;
      goes_on = subst (λ (k : List ℕ). GoesOn (g.has_known_texts first) g.unread Before at most k (r.used ++ []) (inner_buffer old.include_stack) (inner_buffer new.include_stack)) (append-nil store.bytes)
          (goes_on_twice (g.has_known_texts first) g.unread Before at at most store.bytes [] r.used [] (inner_buffer old.include_stack) (inner_buffer mid.include_stack) (inner_buffer new.include_stack) r.goes_on
          (fill_goes_on (g.has_known_texts first) g.unread at (most - length store.bytes) (inner_buffer mid.include_stack) (inner_buffer new.include_stack) unused mode (λ t. tokens (r.call.has_known_texts t))));
      room = r.room;
      level = r.level;
      lead = λ before open_. r.lead before (sym mode ∙ open_);
      moves = moves-on (g.has_known_texts first) (g.has_known_texts first) (g.has_known_texts now) Unit Unit g.unread r.used [] (inner_buffer old.include_stack) (inner_buffer mid.include_stack) (inner_buffer new.include_stack) (λ t. t) r.call.has_known_texts (λ e. e) r.moves moves;
      text = λ t.
          text-on r.used [] (text_left g.unread (inner_buffer old.include_stack)) (text_left g.unread (inner_buffer mid.include_stack)) (text_left g.unread (inner_buffer new.include_stack))
          (r.text t) (sym (text (r.call.has_known_texts t)));
      call = calls-on g failed first now after r.call call;
    }

-- a token was taken
pub taken : {S R : Type 0} (g : Ghosts S R) (first now : S) (old mid new : FilesView R) (most : ℕ) (store after : StoreView) (at to : CallState)
    → IsReading g false first now old mid most store at
    → new ≡ record mid { include_stack = new.include_stack } → after.most ≡ store.most
    → IsTaken at to (store.most - length store.bytes) store.bytes after.bytes mid.include_stack new.include_stack
    → IsReading g false first now old new most after to
taken {R = R} g first now old mid new most store after at to r only room t =
    let size : length after.bytes ≡ length store.bytes + length t.kept = ap length t.bytes ∙ length-append store.bytes t.kept in
    let level = t.level in
    let before = r.level in
    record {
      used = r.used ++ t.used;
      only = (let o = r.only in cc);
      inner = used_on old.include_stack mid.include_stack new.include_stack r.used t.used r.inner t.inner;
      goes_on = subst (λ (k : List ℕ). GoesOn (g.has_known_texts first) g.unread Before to most k (r.used ++ t.used) (inner_buffer old.include_stack) (inner_buffer new.include_stack)) (sym t.bytes)
          (goes_on_twice (g.has_known_texts first) g.unread Before at to most store.bytes t.kept r.used t.used (inner_buffer old.include_stack) (inner_buffer mid.include_stack) (inner_buffer new.include_stack) r.goes_on
          (goes_on_told (g.has_known_texts first) g.unread at to (most - length store.bytes) t.kept t.used (inner_buffer mid.include_stack) (inner_buffer new.include_stack)
          (subst (λ n. GoesOn Unit g.unread at to (n - length store.bytes) t.kept t.used (inner_buffer mid.include_stack) (inner_buffer new.include_stack)) r.room (t.goes_on g.unread))));
      room = room ∙ r.room;
      level = omega arith;
      lead = t.lead;
      moves = moves-on (g.has_known_texts first) (g.has_known_texts first) Unit Unit Unit g.unread r.used t.used (inner_buffer old.include_stack) (inner_buffer mid.include_stack) (inner_buffer new.include_stack) (λ t. t) (λ _. tt) (λ e. e) r.moves (t.moves g.unread);
      text = λ told.
          text-on r.used t.used (text_left g.unread (inner_buffer old.include_stack)) (text_left g.unread (inner_buffer mid.include_stack)) (text_left g.unread (inner_buffer new.include_stack))
          (r.text told) (t.text g.unread);
      call = r.call;
    }

-- an answer after what was read
pub answered : {S R : Type 0} (g : Ghosts S R) (first now : S) (old mid : FilesView R) (new : List (File R)) (most : ℕ) (store : StoreView) (at : CallState) (used : List ℕ) (result : CallRead)
    → IsReading g false first now old mid most store at
    → new ≡ with_used (inner_buffer new) used mid.include_stack → unused_of (inner_buffer new) + length used ≡ unused_of (inner_buffer mid.include_stack)
    → MovesOver (g.has_known_texts first) (IsExactCall result) g.unread used (inner_buffer mid.include_stack) (inner_buffer new)
    → (IsExactCall result → g.has_known_texts first → text_left g.unread (inner_buffer mid.include_stack) ≡ used ++ text_left g.unread (inner_buffer new))
    → TellsCall (g.has_known_texts first) g.unread at (most - length store.bytes) [] used (inner_buffer mid.include_stack) (inner_buffer new) result
    → ReadsUpTo (g.has_known_texts first) g.unread at (most - length store.bytes) [] (inner_buffer mid.include_stack) (inner_buffer new)
    → ReadsCall (g.has_known_texts first) g.unread Before most store.bytes result old.include_stack new
answered g first now old mid new most store at used result r inner unused moves text has_known_texts so =
    let on = r.goes_on.unused in
    record {
      used = r.used ++ used;
      inner = used_on old.include_stack mid.include_stack new r.used used r.inner inner;
      unused = omega (arith, length-append r.used used);
      moves = moves-on (g.has_known_texts first) (g.has_known_texts first) (g.has_known_texts first) (IsExactCall result) (IsExactCall result) g.unread r.used used (inner_buffer old.include_stack) (inner_buffer mid.include_stack) (inner_buffer new)
          (λ t. t) (λ t. t) (λ e. e) r.moves moves;
      so_far = record {
        to = so.to;
        used = r.used ++ so.used;
        there = so.there;
        goes_on = subst (λ (k : List ℕ). GoesOn (g.has_known_texts first) g.unread Before so.to most k (r.used ++ so.used) (inner_buffer old.include_stack) so.there) (append-nil store.bytes)
            (goes_on_twice (g.has_known_texts first) g.unread Before at so.to most store.bytes [] r.used so.used (inner_buffer old.include_stack) (inner_buffer mid.include_stack) so.there r.goes_on so.goes_on);
        whole = (let more = so.whole in omega (arith, length-append r.used so.used, on, more));
      };
      text = λ exact t.
          text-on r.used used (text_left g.unread (inner_buffer old.include_stack)) (text_left g.unread (inner_buffer mid.include_stack)) (text_left g.unread (inner_buffer new))
          (r.text t) (text exact t);
      answer = subst (λ (k : List ℕ). TellsCall (g.has_known_texts first) g.unread Before most k (r.used ++ used) (inner_buffer old.include_stack) (inner_buffer new) result) (append-nil store.bytes)
          (tells_after (g.has_known_texts first) g.unread Before at most store.bytes [] r.used used (inner_buffer old.include_stack) (inner_buffer mid.include_stack) (inner_buffer new) result r.goes_on has_known_texts);
    }

-- an answer at a token
pub answered_token : {S R : Type 0} (g : Ghosts S R) (first now : S) (old mid : FilesView R) (new : List (File R)) (most : ℕ) (store after : StoreView) (at : CallState) (result : CallRead)
    → IsReading g false first now old mid most store at
    → IsEnded at (store.most - length store.bytes) store.bytes after.bytes mid.include_stack new result
    → ReadsCall (g.has_known_texts first) g.unread Before most after.bytes result old.include_stack new
answered_token g first now old mid new most store after at result r e =
    let c = e.reads g.unread in
    subst (λ (k : List ℕ). ReadsCall (g.has_known_texts first) g.unread Before most k result old.include_stack new) (sym e.bytes)
    (answered g first now old mid new most store at c.used result r c.inner c.unused (moves-told (g.has_known_texts first) Unit (IsExactCall result) (IsExactCall result) g.unread c.used (inner_buffer mid.include_stack) (inner_buffer new) (λ t. tt) (λ e. e) c.moves)
    (λ exact t. c.text exact tt)
    (tells_told (g.has_known_texts first) g.unread at (most - length store.bytes) [] c.used (inner_buffer mid.include_stack) (inner_buffer new) result
    (subst (λ n. TellsCall Unit g.unread at (n - length store.bytes) [] c.used (inner_buffer mid.include_stack) (inner_buffer new) result) r.room c.answer))
    (let so = subst (λ n. ReadsUpTo Unit g.unread at (n - length store.bytes) [] (inner_buffer mid.include_stack) (inner_buffer new)) r.room c.so_far in record {
      to = so.to;
      used = so.used;
      there = so.there;
      goes_on = goes_on_told (g.has_known_texts first) g.unread at so.to (most - length store.bytes) [] so.used (inner_buffer mid.include_stack) so.there so.goes_on;
      whole = so.whole;
    }))

-- an answer where nothing more is held
pub answered_unfilled : {S R : Type 0} (g : Ghosts S R) (first now : S) (old mid new : FilesView R) (most : ℕ) (store : StoreView) (at : CallState) (result : CallRead)
    → IsReading g false first now old mid most store at
    → new ≡ record mid { include_stack = with_buffer (inner_buffer new.include_stack) mid.include_stack } → unused_of (inner_buffer new.include_stack) ≡ unused_of (inner_buffer mid.include_stack)
    → MovesOver (g.has_known_texts now) (IsExactCall result) g.unread [] (inner_buffer mid.include_stack) (inner_buffer new.include_stack)
    → (IsExactCall result → g.has_known_texts now → text_left g.unread (inner_buffer new.include_stack) ≡ text_left g.unread (inner_buffer mid.include_stack))
    → TellsCall (g.has_known_texts first) g.unread at (most - length store.bytes) [] [] (inner_buffer mid.include_stack) (inner_buffer new.include_stack) result
    → ReadsCall (g.has_known_texts first) g.unread Before most store.bytes result old.include_stack new.include_stack
answered_unfilled g first now old mid new most store at result r only unused moves text has_known_texts =
    answered g first now old mid new.include_stack most store at [] result r
    (ap (λ f. f.include_stack) only ∙ used_none (inner_buffer new.include_stack) mid.include_stack) (omega (arith, unused))
    (moves-told (g.has_known_texts first) (g.has_known_texts now) (IsExactCall result) (IsExactCall result) g.unread [] (inner_buffer mid.include_stack) (inner_buffer new.include_stack) r.call.has_known_texts (λ e. e) moves)
    (λ exact t. sym (text exact (r.call.has_known_texts t))) has_known_texts
    (reads_nothing (g.has_known_texts first) g.unread at (most - length store.bytes) (inner_buffer mid.include_stack) (inner_buffer new.include_stack) (omega (arith, unused)))

-- a read failed after what was read
pub answered_failed : {S R : Type 0} (g : Ghosts S R) (first now : S) (old new : FilesView R) (most : ℕ) (store : StoreView) (at : CallState)
    → IsReading g true first now old new most store at
    → ReadsCall (g.has_known_texts first) g.unread Before most store.bytes Failed old.include_stack new.include_stack
answered_failed g first now old new most store at r = grind (arith, moves-told)

-- what an answer at the end of a text tells
pub end_tells : {R : Type 0} (has_known_texts : Type 0) (unread : R → List ℕ) (at : CallState) (room : ℕ) (old new : BufferView R) (result : CallRead)
    → IsEndOfText at room new result → new.mode ≡ old.mode → new.open_token_line ≡ old.open_token_line
    → (has_known_texts → tokens_left unread old ≡ ended_tokens old.mode old.open_token_line)
    → TellsCall has_known_texts unread at room [] [] old new result
unfolding reading
end_tells has_known_texts unread at room old new Closed e mode opened tokens = absurd e
end_tells has_known_texts unread at room old new Failed e mode opened tokens = absurd e
end_tells has_known_texts unread at room old new _ e mode opened tokens =
    λ t. ap (read at (is_open old.mode) room) (tokens t)
    ∙ sym (ap (λ (m : Mode). read at (is_open m) room (ended_tokens m old.open_token_line)) mode)
    ∙ sym (ap (λ n. read at (is_open new.mode) room (ended_tokens new.mode n)) opened)
    ∙ e

pub end_read : {R : Type 0} (at : CallState) (room : ℕ) (f : BufferView R) (result : CallRead) → IsEndOfText at room f result → is_failed_call result ≡ false
end_read at room f Closed e = absurd e
end_read at room f Failed e = absurd e
end_read at room f _ e = refl

-- what a line that breaks the text tells
pub break_tells : {R : Type 0} (has_known_texts : Type 0) (unread : R → List ℕ) (at : CallState) (room : ℕ) (old new : BufferView R) (b : Breach) (line : ℕ)
    → is_part_breach b ≡ true → line ≡ old.line → (has_known_texts → tokens_left unread old ≡ only_broken b old.line)
    → TellsCall has_known_texts unread at room [] [] old new (Broken (breach_kind b) line)
unfolding reading
break_tells has_known_texts unread at room old new b line part same tokens t =
    ap (read at (is_open old.mode) room) (tokens t) ∙ broken_reads at (is_open old.mode) room b old.line part ∙ ap (ReadStopped (breach_kind b)) (sym same)

-- what stands at the end of a text, in plain text, in a string and in a comment
pub end_plain : {R : Type 0} (at : CallState) (room : ℕ) (f : BufferView R) → f.mode ≡ Plain → read at (is_open f.mode) room (ended_tokens f.mode f.open_token_line) ≡ ReadRefused (fault_at_end at)
unfolding read is_open
end_plain at room f is = ap (λ (m : Mode). read at (is_open m) room (ended_tokens m f.open_token_line)) is

pub end_string : {R : Type 0} (at : CallState) (room : ℕ) (f : BufferView R) → f.mode ≡ InStr
    → read at (is_open f.mode) room (ended_tokens f.mode f.open_token_line) ≡ ReadStopped (breach_kind StringOpen) f.open_token_line
unfolding is_part_breach
end_string at room f is = ap (λ (m : Mode). read at (is_open m) room (ended_tokens m f.open_token_line)) is ∙ broken_reads at (is_open InStr) room StringOpen f.open_token_line refl

pub end_comment : {R : Type 0} (at : CallState) (room : ℕ) (f : BufferView R) → f.mode ≡ InBlock
    → read at (is_open f.mode) room (ended_tokens f.mode f.open_token_line) ≡ ReadStopped (breach_kind CommentOpen) f.open_token_line
unfolding is_part_breach
end_comment at room f is = ap (λ (m : Mode). read at (is_open m) room (ended_tokens m f.open_token_line)) is ∙ broken_reads at (is_open InBlock) room CommentOpen f.open_token_line refl

-- a token that is used, by what is done with it
pub token_used : {R : Type 0} (at : CallState) (m : Mode) (room most : ℕ) (held kept bytes after : List ℕ) (old new : List (File R)) (u : Consumed)
    → 0 < length old → EndsHeld (inner_buffer old) → m ≡ (inner_buffer old).mode → held ≡ held_of (inner_buffer old) → room ≡ most - length bytes
    → IsConsumed at m room held u → kept ≡ kept_of u.is_kept (take u.len held) → after ≡ bytes ++ kept
    → new ≡ with_used (used_buffer (inner_buffer old) u.len u.next_mode) (take u.len (held_of (inner_buffer old))) old
    → IsTaken at (call_state_meant u.call_state) (most - length bytes) bytes after old new
unfolding entered_mode
token_used {R = R} at m room most held kept bytes after old new u some ends mode text left how keeps becomes uses =
    let f = inner_buffer old in
    let g = used_buffer f u.len u.next_mode in
    let used = take u.len (held_of f) in
    let own : IsConsumed at f.mode (most - length bytes) (held_of f) u =
    subst (λ (d : Mode). IsConsumed at d (most - length bytes) (held_of f) u) mode
    (subst (λ (xs : List ℕ). IsConsumed at m (most - length bytes) xs u) text (subst (λ n. IsConsumed at m n held u) left how)) in
    let inner : inner_buffer new ≡ g = ap inner_buffer uses ∙ used_inner g used old some in
    let size : length used ≡ u.len = length-take-le u.len (held_of f) own.inside in
    record {
      used = used;
      kept = kept_of u.is_kept used;
      some = omega (arith, size, own.some);
      bytes = becomes ∙ ap (λ z. bytes ++ z) (keeps ∙ ap (λ xs. kept_of u.is_kept (take u.len xs)) text);
      inner = uses ∙ ap (λ (b : BufferView R). with_used b used old) (sym inner);
      level = own.level;
      lead = λ before open_. own.lead before (sym (ap (λ (b : BufferView R). b.mode) inner) ∙ open_);
      moves = λ unread. subst (λ (b : BufferView R). MovesOver Unit Unit unread used f b) (sym inner) (used_moves Unit Unit unread f u.len u.next_mode own.inside);
      text = λ unread. used_text unread f u.len u.next_mode ∙ ap (λ (b : BufferView R). used ++ text_left unread b) (sym inner);
      goes_on = λ unread.
          subst (λ (b : BufferView R). GoesOn Unit unread at (call_state_meant u.call_state) (most - length bytes) (kept_of u.is_kept used) used f b) (sym inner)
          (token_goes_on unread at (most - length bytes) f u ends own);
    }

-- the `)`, by what is done with it
pub token_closed : {R : Type 0} (at : CallState) (m : Mode) (room most : ℕ) (held bytes : List ℕ) (old new : List (File R))
    → 0 < length old → EndsHeld (inner_buffer old) → 0 < length (held_of (inner_buffer old)) → m ≡ (inner_buffer old).mode → held ≡ held_of (inner_buffer old) → room ≡ most - length bytes
    → IsClose at m room held → new ≡ with_used (used_buffer (inner_buffer old) 1 Plain) (take 1 (held_of (inner_buffer old))) old
    → IsEnded at (most - length bytes) bytes bytes old new Closed
token_closed {R = R} at m room most held bytes old new some ends there mode text left close uses =
    let f = inner_buffer old in
    let g = used_buffer f 1 Plain in
    let used = take 1 (held_of f) in
    let own : IsClose at f.mode (most - length bytes) (held_of f) =
    subst (λ (d : Mode). IsClose at d (most - length bytes) (held_of f)) mode
    (subst (λ (xs : List ℕ). IsClose at m (most - length bytes) xs) text (subst (λ n. IsClose at m n held) left close)) in
    let inner : inner_buffer new ≡ g = ap inner_buffer uses ∙ used_inner g used old some in
    record {
      bytes = refl;
      answers = refl;
      reads = λ unread.
          let closes = close_closes unread at (most - length bytes) f ends there own in
          record {
            used = used;
            inner = uses ∙ ap (λ (b : BufferView R). with_used b used old) (sym inner);
            unused = ap (λ (b : BufferView R). unused_of b + length used) inner ∙ closes.unused;
            moves = subst (λ (b : BufferView R). MovesOver Unit (IsExactCall Closed) unread used f b) (sym inner) (used_moves Unit (IsExactCall Closed) unread f 1 Plain there);
            so_far = reads_nothing Unit unread at (most - length bytes) f (inner_buffer new) (let left = ap (λ (b : BufferView R). unused_of b) inner in let on = closes.unused in let size = length-take 1 (held_of f) in omega (arith, left, on, size));
            text = λ exact t. used_text unread f 1 Plain ∙ ap (λ (b : BufferView R). used ++ text_left unread b) (sym inner);
            answer = subst (λ (b : BufferView R). Closes Unit unread at (most - length bytes) [] used f b) (sym inner) closes;
          };
    }

-- nothing was used
nothing_used : {R : Type 0} (unread : R → List ℕ) (at : CallState) (room : ℕ) (include_stack : List (File R)) (result : CallRead)
    → TellsCall Unit unread at room [] [] (inner_buffer include_stack) (inner_buffer include_stack) result → ReadsCall Unit unread at room [] result include_stack include_stack
nothing_used unread at room include_stack result has_known_texts = record { used = []; inner = same_used include_stack; unused = omega arith; moves = same_moves Unit (IsExactCall result) unread (inner_buffer include_stack); so_far = reads_nothing Unit unread at room (inner_buffer include_stack) (inner_buffer include_stack) (omega arith); text = λ exact t. refl; answer = has_known_texts }

-- a call that is refused at a token
pub token_refused : {R : Type 0} (at : CallState) (m : Mode) (room most : ℕ) (held bytes : List ℕ) (include_stack : List (File R)) (kind : FaultKind)
    → EndsHeld (inner_buffer include_stack) → m ≡ (inner_buffer include_stack).mode → held ≡ held_of (inner_buffer include_stack) → room ≡ most - length bytes
    → IsAction at m room held (RefusedAction kind) → IsEnded at (most - length bytes) bytes bytes include_stack include_stack (Refused kind)
token_refused at m room most held bytes include_stack kind ends mode text left law =
    let f = inner_buffer include_stack in
    let own : IsAction at f.mode (most - length bytes) (held_of f) (RefusedAction kind) =
    subst (λ (d : Mode). IsAction at d (most - length bytes) (held_of f) (RefusedAction kind)) mode
    (subst (λ (xs : List ℕ). IsAction at m (most - length bytes) xs (RefusedAction kind)) text (subst (λ n. IsAction at m n held (RefusedAction kind)) left law)) in
    record {
      bytes = refl;
      answers = refl;
      reads = λ unread. nothing_used unread at (most - length bytes) include_stack (Refused kind) (λ _. action_refused unread at (most - length bytes) f kind ends own);
    }

-- a call that embedded Perl breaks
pub token_perl : {R : Type 0} (at : CallState) (m : Mode) (room most line : ℕ) (held bytes : List ℕ) (include_stack : List (File R))
    → EndsHeld (inner_buffer include_stack) → m ≡ (inner_buffer include_stack).mode → held ≡ held_of (inner_buffer include_stack) → room ≡ most - length bytes → line ≡ (inner_buffer include_stack).line
    → IsAction at m room held Perl → IsEnded at (most - length bytes) bytes bytes include_stack include_stack (Broken EmbeddedPerl line)
token_perl at m room most line held bytes include_stack ends mode text left where_ law =
    let f = inner_buffer include_stack in
    let own : IsAction at f.mode (most - length bytes) (held_of f) Perl =
    subst (λ (d : Mode). IsAction at d (most - length bytes) (held_of f) Perl) mode
    (subst (λ (xs : List ℕ). IsAction at m (most - length bytes) xs Perl) text (subst (λ n. IsAction at m n held Perl) left law)) in
    record {
      bytes = refl;
      answers = refl;
      reads = λ unread.
          nothing_used unread at (most - length bytes) include_stack (Broken EmbeddedPerl line)
          (λ _. action_broken unread at (most - length bytes) f EmbeddedPerl ends own ∙ ap (ReadStopped EmbeddedPerl) (sym where_));
    }

-- a token uses bytes
pub less_left : {R : Type 0} (unread : R → List ℕ) (at to : CallState) (room most : ℕ) (bytes after : List ℕ) (old mid new : List (File R))
    → IsTaken at to room bytes after mid new → unused_of (inner_buffer mid) ≡ unused_of (inner_buffer old) → unused_of (inner_buffer new) < unused_of (inner_buffer old)
less_left unread at to room most bytes after old mid new t same =
    let on = (t.goes_on unread).unused in
    let some = t.some in
    omega arith

-- A call that was read from a source is that of the definition.

-- reading in plain text
plain_reading : {R : Type 0} (unread : R → List ℕ) (room : ℕ) (f : BufferView R) (r : Reading) → f.mode ≡ Plain → reading unread Before room f ≡ r
    → read Before false room (tokens_left unread f) ≡ r
unfolding reading is_open
plain_reading unread room f r plain e = ap (λ b. read Before b room (tokens_left unread f)) (sym (ap is_open plain)) ∙ e

-- a call that was closed
closed_call : {R : Type 0} (unread : R → List ℕ) (room : ℕ) (f : BufferView R) (bytes : List ℕ) (following : List SourceToken)
    → read Before false room (tokens_left unread f) ≡ ReadClosed bytes following → IsCallOf room (tokens_left unread f) bytes following
unfolding tokens_left remaining_tokens
closed_call unread room f bytes following e =
    let c =
    read_closed (course f.line_bytes f.bytes_left (rest_of unread f)) f.mode f.open_token_line f.line (held_of f ++ (front f.line_bytes f.bytes_left (rest_of unread f)).text)
    room (tokens_left unread f) bytes following refl e in
    record { used = c.used; call = c.call; rest = c.rest; keeps = c.keeps }

-- each answer
pub means : {R : Type 0} (has_known_texts : Type 0) (unread : R → List ℕ) (room : ℕ) (bytes used : List ℕ) (old new : BufferView R) (result : CallRead) → old.mode ≡ Plain
    → TellsCall has_known_texts unread Before room bytes used old new result → MeansCall has_known_texts unread room bytes old new result
means has_known_texts unread room bytes used old new Closed plain h = λ t.
    closed_call unread room old bytes (tokens_left unread new) (plain_reading unread room old _ plain (h.reads t))
means has_known_texts unread room bytes used old new (Refused f) plain h = λ t.
    read_refused room (tokens_left unread old) f (plain_reading unread room old _ plain (h t))
means has_known_texts unread room bytes used old new (Broken f line) plain h = λ t.
    read_stopped room (tokens_left unread old) f line (plain_reading unread room old _ plain (h t))
means has_known_texts unread room bytes used old new Failed plain h = tt
