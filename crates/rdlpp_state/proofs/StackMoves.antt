-- What remains of the open sources at a directive in front of the innermost: what the directive comes to there, and then what remains where it ends.
use Rattle.std.proofs.Common.{◌≡◌, ℕ, suc, ◌-◌, ◌≤◌, ◌<◌, Bool, true, false, not, ◌||◌, List, [], ◌∷◌, ◌++◌, length, take, drop, Option, None, if◌then◌else◌, refl, sym, ap, ◌∙◌, arith}
use Rattle.rdlpp_scan.specs.Bytes.{is_line_end}
use Rattle.rdlpp_scan.specs.Reserved.{directive_word}
use Rattle.rdlpp_scan.specs.SourceTokens.{SourceToken, whole_tokens}
use Rattle.rdlpp_scan.specs.declared.token.Directive.{Directive}
use Rattle.rdlpp_define.specs.Macros.{Macro}
use Rattle.rdlpp_define.specs.declared.limits.Limits.{Limits}
use Rattle.rdlpp_meaning.specs.Moves.{Enters, Move, Moves, Passes, Stops, in_branch, move_of, moves_on}
use Rattle.rdlpp_meaning.specs.Meaning.{Passage, Progress, added_end, after_bytes, at_start_of, back_in, in_conditional, is_else, origin_line, past_conditional}
use Rattle.rdlpp_meaning.specs.Opened.{Waiting, all_resumed, unwound, waiting}
use Rattle.rdlpp_meaning.specs.Output.{start_state}
use Rattle.rdlpp_meaning.specs.Parts.{Command}
use Rattle.rdlpp_meaning.specs.Resumed.{Live, Place, Skipped}
use Rattle.rdlpp_meaning.specs.State.{Rules, State, no_shift, shown_line}
use Rattle.rdlpp_meaning.proofs.Directives.{added_end-in_line, in_line, line_end_if}
use Rattle.rdlpp_meaning.proofs.Skipping.{has_own_token}
use Rattle.rdlpp_source.specs.declared.sources.Found.{Found}
use Rattle.rdlpp_read.specs.Conditions.{ConditionsView, own_conditions, place_of}
use Rattle.rdlpp_read.specs.ConditionMoves.{closed_one, opened_with, turned_open, turned_with, with_count}
use Rattle.rdlpp_read.specs.Buffer.{ahead_of, held_of, opened_buffer, rest_of, text_left, tokens_left, unread_of}
use Rattle.rdlpp_read.specs.Files.{consumed_file, ends_mid_line_after, entered_file, inner_buffer, shift_of, with_inner}
use Rattle.rdlpp_read.specs.declared.files.File.{File}
use Rattle.rdlpp_front.specs.SourceItems.{IsDirective}
use Rattle.rdlpp_front.specs.SourceLeft.{source_left}
use Rattle.rdlpp_front.proofs.DirectivesLeft.{word_left}
use Rattle.rdlpp_front.proofs.NamedDirectives.{GivenInFront, held_moves}
use Rattle.rdlpp_front.proofs.TextLeft.{file_moves}
use Rattle.rdlpp_state.specs.Lines.{inner_blanks}
use Rattle.rdlpp_state.specs.OpenConditionals.{inner_below, inner_shown, outer_open}
use Rattle.rdlpp_state.specs.Remaining.{ending_after, file_state, include_stack_left, include_stack_state, waiting_around}
use Rattle.rdlpp_state.proofs.IncludeStackLeft.{Faults, IsPlainFront, around, ends_mid_line_consumed, live_place, none_held, outer_cons, place_inside, place_skipped, waiting_same}

-- Where a text is entered in the open sources.

-- whether a text ends in mid-line, by its bytes
ends_mid_line_is : (ends_mid_line : Bool) (bs : List ℕ) → ends_mid_line_after ends_mid_line bs ≡ in_line ends_mid_line bs
unfolding ends_mid_line_after in_line
ends_mid_line_is ends_mid_line [] = refl
ends_mid_line_is ends_mid_line (b ∷ bs) = ends_mid_line_is (not (is_line_end b)) bs

-- the LF that is added after a text
added_by : (text : List ℕ) → (if ends_mid_line_after false text then 10 ∷ [] else []) ≡ added_end text
unfolding line_end_if
added_by text = ap (λ (t : Bool). if t then 10 ∷ [] else []) (ends_mid_line_is false text) ∙ sym (added_end-in_line text)

-- none of what is open is around all of it
pub all_own : (os : List Progress) (n : ℕ) → n ≡ length os → outer_open n os ≡ os
unfolding outer_open
all_own os n whole = let none : length os - n ≡ 0 = omega arith in ap (λ k. drop k os) none

pub none_own : (v : ConditionsView) (n : ℕ) → n ≡ length v.open_now → own_conditions n v ≡ []
unfolding own_conditions
none_own v n whole = let none : length v.open_now - n ≡ 0 = omega arith in ap (λ k. take k v.open_now) none

-- the macros of a source that waits don't count
macros_free : (rules : Rules) (ws : List Waiting) (a b : Waiting) (place : Place) (first : Bool) (ts : List SourceToken) (s : State) (macros : List Macro)
    → a ≡ record b { state = record b.state { macros = macros } } → all_resumed rules (a ∷ ws) place first ts s ≡ all_resumed rules (b ∷ ws) place first ts s
unfolding all_resumed unwound back_in
macros_free rules ws a b place first ts s macros same = rw same refl

-- a source as it is entered on a line of another: nothing of it is read, and the conditionals that are open are around it
abbrev pub entered_on : {R : Type 0} → Limits → ConditionsView → Found R → ℕ → File R
entered_on limits v found line = entered_file found limits.source_bytes limits.line_bytes (length v.open_now) line

module _ {R : Type 0} (limits : Limits) (rules : Rules) (unread : R → List ℕ) (macros : List Macro) (v : ConditionsView) (f g : File R) (outer : List (File R)) (found : Found R) where
  -- the source around it, with so many conditionals open below it, as it waits
  abbrev waits : ℕ → Waiting
  waits below = record {
    open_conditionals = own_conditions below v;
    first = g.blanks;
    tokens = tokens_left unread g.buffer;
    state = file_state limits [] (length v.open_now) (length outer) g;
    ending = ending_after rules unread (entered_on limits v found f.buffer.line) g;
  }

  waits_as : include_stack_state limits macros v (f ∷ outer) ≡ include_stack_state limits macros v (g ∷ outer)
      → let w = waits f.conditions_below in
      waiting rules (own_conditions f.conditions_below v) g.blanks (tokens_left unread g.buffer) f.buffer.line (include_stack_state limits macros v (f ∷ outer)) (unread found.reader)
      ≡ record w { state = record w.state { macros = macros } }
  unfolding include_stack_state file_state ending_after text_left held_of rest_of ahead_of unread_of opened_buffer waiting
  waits_as same =
      let text = unread found.reader in
      let makes : List ℕ → Waiting = λ x. record {
        open_conditionals = own_conditions f.conditions_below v;
        first = g.blanks;
        tokens = tokens_left unread g.buffer;
        state = include_stack_state limits macros v (g ∷ outer);
        ending = x ++ origin_line rules g.name.bytes (shown_line (shift_of g.shift) f.buffer.line);
      } in
      ap (λ (u : State). waiting rules (own_conditions f.conditions_below v) g.blanks (tokens_left unread g.buffer) f.buffer.line u text) same
      ∙ ap makes (sym (added_by text))

  -- the state at the beginning of the text
  starts_as : at_start_of found.path.bytes (include_stack_state limits macros v (f ∷ outer)) ≡ include_stack_state limits macros v (entered_on limits v found f.buffer.line ∷ g ∷ outer)
  unfolding at_start_of include_stack_state file_state no_shift
  starts_as =
      let s = include_stack_state limits macros v (f ∷ outer) in
      let makes : ℕ → State = λ n. record s { path = found.path.bytes; name = found.path.bytes; shift = no_shift; sources_left = n } in
      let less : limits.includes - length outer - 1 ≡ limits.includes - suc (length outer) = omega arith in
      ap makes less

  -- what remains of it, and then of those around it
  begins : v.skipped ≡ None → ends_mid_line_after g.ends_mid_line (text_left unread g.buffer) ≡ ends_mid_line_after f.ends_mid_line (text_left unread f.buffer) → g.include_line ≡ f.include_line
      → g.conditions_below ≡ f.conditions_below → include_stack_state limits macros v (f ∷ outer) ≡ include_stack_state limits macros v (g ∷ outer)
      → rules.tokens (unread found.reader) ≡ whole_tokens limits.line_bytes limits.source_bytes (unread found.reader)
      → let s = include_stack_state limits macros v (f ∷ outer) in
      all_resumed rules (waiting rules (own_conditions f.conditions_below v) g.blanks (tokens_left unread g.buffer) f.buffer.line s (unread found.reader) ∷ around limits rules unread macros v f outer)
      (Live []) true (rules.tokens (unread found.reader)) (at_start_of found.path.bytes s)
      ≡ include_stack_left limits rules unread macros v (entered_on limits v found f.buffer.line ∷ g ∷ outer)
  unfolding include_stack_left source_left waiting_around tokens_left held_of rest_of ahead_of unread_of opened_buffer whole_tokens own_conditions
  begins live ends_mid_line line below same tokens =
      let start = at_start_of found.path.bytes (include_stack_state limits macros v (f ∷ outer)) in
      let text = unread found.reader in
      let n = length v.open_now in
      let all : List Waiting → Place → List SourceToken → State → Passage = λ us here ts u. all_resumed rules us here true ts u in
      let whole = whole_tokens limits.line_bytes limits.source_bytes text in
      let after = include_stack_state limits macros v (entered_on limits v found f.buffer.line ∷ g ∷ outer) in
      let place : place_of n v ≡ Live [] = live_place n v live ∙ ap Live (none_own v n refl) in
      let inner : List Progress → List Waiting = λ os. waiting_around limits rules unread os (entered_on limits v found f.buffer.line) (g ∷ outer) in
      let outside : ℕ → List Waiting = λ k. waiting_around limits rules unread (outer_open k v.open_now) g outer in
      macros_free rules (around limits rules unread macros v f outer) _ (waits f.conditions_below) (Live []) true (rules.tokens text) start macros (waits_as same)
      ∙ ap (λ (us : List Waiting). all (waits f.conditions_below ∷ us) (Live []) (rules.tokens text) start) (sym (waiting_same limits rules unread (outer_open f.conditions_below v.open_now) f g outer ends_mid_line line))
      ∙ ap (λ (k : ℕ). all (waits k ∷ outside k) (Live []) (rules.tokens text) start) (sym below)
      ∙ ap (λ (ts : List SourceToken). all (inner v.open_now) (Live []) ts start) tokens
      ∙ ap (λ (u : State). all (inner v.open_now) (Live []) whole u) starts_as
      ∙ ap (λ (here : Place). all (inner v.open_now) here whole after) (sym place)
      ∙ ap (λ (os : List Progress). all (inner os) (place_of n v) whole after) (sym (all_own v.open_now n refl))

-- Where a construct of the innermost source ends, whatever it is.

-- open sources and conditionals stand where a move of the innermost source ends
pub record Lands {R : Type 0} (limits : Limits) (v w : ConditionsView) (now : List Macro) (old new : List (File R)) (place : Place) (t : State) : Type 0 where
  pub stands : place_of (inner_below old) w ≡ place
  pub state : t ≡ include_stack_state limits now w new
  pub outer : outer_open (inner_below old) w.open_now ≡ outer_open (inner_below old) v.open_now

-- a source was found whose text a move of the innermost source enters, in live text, after which its state is the same
pub record Admits {R : Type 0} (limits : Limits) (rules : Rules) (unread : R → List ℕ) (macros : List Macro) (v : ConditionsView) (old new : List (File R)) (os : List Progress) (path text : List ℕ) (found : Found R) : Type 0 where
  pub live : v.skipped ≡ None
  pub own : os ≡ own_conditions (inner_below old) v
  pub path_is : path ≡ found.path.bytes
  pub text_is : text ≡ unread found.reader
  pub tokens : rules.tokens (unread found.reader) ≡ whole_tokens limits.line_bytes limits.source_bytes (unread found.reader)
  pub same : include_stack_state limits macros v old ≡ include_stack_state limits macros v new

module _ {R : Type 0} (limits : Limits) (rules : Rules) (unread : R → List ℕ) (macros : List Macro) (v : ConditionsView) where
  -- what remains of open sources whose innermost moves, by where it ends
  abbrev pub Comes : List (File R) → List (File R) → Move → Type 0
  Comes old new (Stops kind word) = Faults limits rules unread macros v old kind word
  Comes old new (Moves bytes place t) = (now : List Macro) (w : ConditionsView) → Lands limits v w now old new place t
      → include_stack_left limits rules unread macros v old ≡ after_bytes bytes (include_stack_left limits rules unread now w new)
  Comes old new (Enters bytes os path text) = (found : Found R) → Admits limits rules unread macros v old new os path text found
      → include_stack_left limits rules unread macros v old ≡ after_bytes bytes (include_stack_left limits rules unread macros v (entered_on limits v found (inner_buffer old).line ∷ new))

  -- what the innermost source comes to, they come to
  pub stack_moves : (f g : File R) (outer : List (File R)) (m : Move)
      → (let s = include_stack_state limits macros v (f ∷ outer) in
      let ws = around limits rules unread macros v f outer in
      source_left rules unread ws (place_of f.conditions_below v) f s ≡ file_moves rules unread ws m f.buffer.line s g)
      → ends_mid_line_after g.ends_mid_line (text_left unread g.buffer) ≡ ends_mid_line_after f.ends_mid_line (text_left unread f.buffer) → g.include_line ≡ f.include_line
      → g.conditions_below ≡ f.conditions_below → Comes (f ∷ outer) (g ∷ outer) m
  unfolding include_stack_left source_left moves_on
  stack_moves f g outer (Stops kind word) law ends_mid_line line below = law
  stack_moves f g outer (Moves bytes place t) law ends_mid_line line below = λ now w lands.
      let s = include_stack_state limits now w (g ∷ outer) in
      let open_ = v.open_now in
      let at : List Waiting → Place → State → Passage = λ ws p u. after_bytes bytes (source_left rules unread ws p g u) in
      let by : ℕ → List Progress → Passage = λ n os. at (waiting_around limits rules unread os g outer) (place_of n w) s in
      law
      ∙ ap (at (around limits rules unread macros v f outer) place) lands.state
      ∙ ap (λ (p : Place). at (around limits rules unread macros v f outer) p s) (sym lands.stands)
      ∙ ap (λ (ws : List Waiting). at ws (place_of f.conditions_below w) s) (sym (waiting_same limits rules unread (outer_open f.conditions_below open_) f g outer ends_mid_line line))
      ∙ ap (by f.conditions_below) (sym lands.outer)
      ∙ ap (λ (n : ℕ). by n (outer_open n w.open_now)) (sym below)
  stack_moves f g outer (Enters bytes os path text) law ends_mid_line line below = λ found a.
      let s = include_stack_state limits macros v (f ∷ outer) in
      let own = own_conditions f.conditions_below v in
      let at : List Progress → List ℕ → List ℕ → Passage = λ ps p x.
      after_bytes bytes (all_resumed rules (waiting rules ps g.blanks (tokens_left unread g.buffer) f.buffer.line s x ∷ around limits rules unread macros v f outer) (Live []) true (rules.tokens x) (at_start_of p s)) in
      law
      ∙ ap (λ (ps : List Progress). at ps path text) a.own
      ∙ ap (λ (p : List ℕ). at own p text) a.path_is
      ∙ ap (at own found.path.bytes) a.text_is
      ∙ ap (after_bytes bytes) (begins limits rules unread macros v f g outer found a.live ends_mid_line line below a.same a.tokens)

  -- the directive at the front of what is held of the innermost source, and what it comes to there
  abbrev pub front_command : Directive → Option (List ℕ) → ℕ → List (File R) → Command
  front_command d given len include_stack = record { word = d; given = given; text = take len (held_of (inner_buffer include_stack)); line = (inner_buffer include_stack).line; first = inner_blanks include_stack }

  abbrev pub front_move : Directive → Option (List ℕ) → ℕ → List (File R) → Move
  front_move d given len include_stack = move_of rules (front_command d given len include_stack) (place_of (inner_below include_stack) v) (include_stack_state limits macros v include_stack)

  pub front_moves : (include_stack : List (File R)) (d : Directive) (given : Option (List ℕ)) (len : ℕ) → IsPlainFront include_stack → has_own_token d ≡ false → GivenInFront d unread (inner_buffer include_stack) given len
      → Comes include_stack (with_inner (consumed_file len 0) include_stack) (front_move d given len include_stack)
  front_moves [] d given len h word front = absurd (none_held R h.some)
  front_moves (f ∷ outer) d given len h word front =
      stack_moves f (consumed_file len 0 f) outer (front_move d given len (f ∷ outer))
      (held_moves rules unread (around limits rules unread macros v f outer) f (include_stack_state limits macros v (f ∷ outer)) d given len word front (place_of f.conditions_below v))
      (ends_mid_line_consumed unread f len 0) refl refl

  -- of one that leaves skipped text skipped the word alone is looked at
  pub passing_moves : (include_stack : List (File R)) (d : Directive) (n m : ℕ) (o : Progress) (os : List Progress) → IsPlainFront include_stack → has_own_token d ≡ false → Passes rules d n m o os
      → place_of (inner_below include_stack) v ≡ Skipped n o os → IsDirective d (held_of (inner_buffer include_stack))
      → Comes include_stack (with_inner (consumed_file (length (directive_word d)) 0) include_stack) (Moves [] (Skipped m o os) (include_stack_state limits macros v include_stack))
  unfolding source_left moves_on after_bytes
  passing_moves [] d n m o os h word passes stands is = absurd (none_held R h.some)
  passing_moves (f ∷ outer) d n m o os h word passes stands is =
      let s = include_stack_state limits macros v (f ∷ outer) in
      let ws = around limits rules unread macros v f outer in
      stack_moves f (consumed_file (length (directive_word d)) 0 f) outer (Moves [] (Skipped m o os) s)
      (ap (λ (p : Place). source_left rules unread ws p f s) stands
      ∙ word_left rules unread ws o os f s d n m word passes (record { some = h.some; ends = h.ends }) h.plain is)
      (ends_mid_line_consumed unread f (length (directive_word d)) 0) refl refl

-- bytes are used, and the macros are others
pub used_state : {R : Type 0} (limits : Limits) (macros now : List Macro) (v : ConditionsView) (include_stack : List (File R)) (len : ℕ)
    → record (include_stack_state limits macros v include_stack) { macros = now } ≡ include_stack_state limits now v (with_inner (consumed_file len 0) include_stack)
unfolding include_stack_state file_state start_state
used_state limits macros now v [] len = refl
used_state limits macros now v (f ∷ outer) len = refl

-- Where the directives of conditionals end, which use so many bytes.

-- a conditional that was opened on a line by a test
abbrev pub opened_at : State → ℕ → Bool → Progress
opened_at s line live = record { line = shown_line s.shift line; taken = live; closing = false }

-- an open conditional after a branch
abbrev pub branched : Progress → Bool → Bool → Progress
branched o live closing = record { line = o.line; taken = o.taken || live; closing = closing }

-- what is open around the innermost conditional stays, where it alone changes
same_around : (v : ConditionsView) (o : Progress) (os now : List Progress) (below : ℕ) → v.open_now ≡ o ∷ os → below ≤ length os → outer_open below now ≡ outer_open below os → outer_open below now ≡ outer_open below v.open_now
same_around v o os now below is_open le same = same ∙ sym (outer_cons below o os le) ∙ sym (ap (outer_open below) is_open)

module _ {R : Type 0} (limits : Limits) (macros : List Macro) (v : ConditionsView) (len : ℕ) where
  -- the state that the meaning goes on from
  abbrev here : List (File R) → State
  here include_stack = include_stack_state limits macros v include_stack

  abbrev LandsAt : List (File R) → ConditionsView → Place → State → Type 0
  LandsAt include_stack w place t = Lands limits v w macros include_stack (with_inner (consumed_file len 0) include_stack) place t

  -- one opens
  pub lands_opened : (include_stack : List (File R)) (t : Bool) → 0 < length include_stack → inner_below include_stack ≤ length v.open_now
      → LandsAt include_stack (opened_with (inner_shown include_stack) t v) (in_branch t (opened_at (here include_stack) (inner_buffer include_stack).line t) (own_conditions (inner_below include_stack) v))
      (in_conditional (here include_stack))
  unfolding include_stack_state file_state in_conditional own_conditions
  lands_opened [] t some below = absurd (omega arith)
  lands_opened (f ∷ outer) t some below =
      let o : Progress = record { line = inner_shown (f ∷ outer); taken = t; closing = false } in
      let n = length v.open_now in
      let less : limits.conditions - n - 1 ≡ limits.conditions - suc n = omega arith in
      record {
        stands = place_inside f.conditions_below (opened_with o.line t v) t o v.open_now refl below refl;
        state = ap (λ (k : ℕ). record (here (f ∷ outer)) { conditions_left = k }) less;
        outer = outer_cons f.conditions_below o v.open_now below;
      }

  module _ (o : Progress) (os : List Progress) (is_open : v.open_now ≡ o ∷ os) where
    -- the innermost source's own around the innermost
    abbrev own : List (File R) → List Progress
    own include_stack = take (length os - inner_below include_stack) os

    -- a branch of it is taken, or skipped
    pub lands_turned : (include_stack : List (File R)) (d : Directive) (t : Bool) → 0 < length include_stack → inner_below include_stack ≤ length os
        → LandsAt include_stack (turned_with d t v) (in_branch t (branched o t (is_else d)) (own include_stack)) (here include_stack)
    unfolding include_stack_state file_state turned_open
    lands_turned [] d t some le = absurd (omega arith)
    lands_turned (f ∷ outer) d t some le =
        let b = branched o t (is_else d) in
        let turns : turned_open d t v.open_now ≡ b ∷ os = ap (turned_open d t) is_open in
        let size : length v.open_now ≡ length (turned_open d t v.open_now) = ap length is_open ∙ sym (ap length turns) in
        record {
          stands = place_inside f.conditions_below (turned_with d t v) t b os turns le refl;
          state = ap (λ (n : ℕ). file_state limits macros n (length outer) f) size;
          outer = same_around v o os (turned_open d t v.open_now) f.conditions_below is_open le (ap (outer_open f.conditions_below) turns ∙ outer_cons f.conditions_below b os le);
        }

    -- it is closed
    pub lands_closed : (include_stack : List (File R)) → 0 < length include_stack → inner_below include_stack ≤ length os → length v.open_now ≤ limits.conditions
        → LandsAt include_stack (closed_one v) (Live (own include_stack)) (past_conditional (here include_stack))
    unfolding include_stack_state file_state past_conditional own_conditions
    lands_closed [] some le few = absurd (omega arith)
    lands_closed (f ∷ outer) some le few =
        let rest : drop 1 v.open_now ≡ os = ap (drop 1) is_open in
        let size : length v.open_now ≡ suc (length os) = ap length is_open in
        let left : length (drop 1 v.open_now) ≡ length os = ap length rest in
        let more : suc (limits.conditions - length v.open_now) ≡ limits.conditions - length (drop 1 v.open_now) = omega arith in
        record {
          stands = live_place f.conditions_below (closed_one v) refl ∙ ap (λ (x : List Progress). Live (take (length x - f.conditions_below) x)) rest;
          state = ap (λ (k : ℕ). record (here (f ∷ outer)) { conditions_left = k }) more;
          outer = same_around v o os (drop 1 v.open_now) f.conditions_below is_open le (ap (outer_open f.conditions_below) rest);
        }

    -- another count of those that opened in skipped text
    pub lands_counted : (include_stack : List (File R)) (n : ℕ) → inner_below include_stack ≤ length os → LandsAt include_stack (with_count n v) (Skipped n o (own include_stack)) (here include_stack)
    unfolding include_stack_state file_state
    lands_counted [] n le = record { stands = place_skipped 0 (with_count n v) n o os is_open le refl; state = refl; outer = refl }
    lands_counted (f ∷ outer) n le = record { stands = place_skipped f.conditions_below (with_count n v) n o os is_open le refl; state = refl; outer = refl }
