-- A `line` in the open sources, as a step of the engine.
use Rattle.std.proofs.Common.{◌≡◌, ℕ, suc, ◌≤◌, ◌<◌, Bool, true, false, List, [], length, Option, None, Some, Ok, refl, sym, ap, subst, ◌∙◌, arith, ◌+◌, ◌∷◌, take, ◌++◌, drop, length-take-le}
use Rattle.arrayvec.specs.declared.array_string.ArrayString.{ArrayString}
use Rattle.rdlpp_scan.specs.SourceTokens.{line_ends, line_len}
use Rattle.rdlpp_scan.specs.declared.token.Directive.TheVariants.{Line}
use Rattle.rdlpp_scan.specs.declared.token.Mode.TheVariants.{Plain}
use Rattle.rdlpp_define.specs.Macros.{Macro}
use Rattle.rdlpp_define.specs.declared.limits.Limits.{Limits}
use Rattle.rdlpp_meaning.specs.Meaning.{Passage, Progress, Renumbered, after_bytes, leaves, origin_line, renumbered}
use Rattle.rdlpp_meaning.specs.Moves.{Move, Stops, line_move, move_of, moves_on, single_move}
use Rattle.rdlpp_meaning.specs.Opened.{Waiting}
use Rattle.rdlpp_meaning.specs.Outcome.{fails}
use Rattle.rdlpp_meaning.specs.Parts.{Command, line_ends_of}
use Rattle.rdlpp_meaning.specs.Resumed.{Live, Place}
use Rattle.rdlpp_meaning.specs.State.{Rules, State, fault_at, shown_line}
use Rattle.rdlpp_meaning.specs.declared.fault.FaultKind.TheVariants.{BadLine}
use Rattle.rdlpp_source.specs.declared.sources.Sources.{Ghosts}
use Rattle.rdlpp_read.specs.Conditions.{ConditionsView, own_conditions}
use Rattle.rdlpp_read.specs.Buffer.{EndsHeld, held_of}
use Rattle.rdlpp_read.specs.Files.{AreOpen, consumed_file, inner_buffer, with_inner}
use Rattle.rdlpp_read.specs.declared.files.File.{File}
use Rattle.rdlpp_read.proofs.Growing.{line_ends_le}
use Rattle.rdlpp_front.specs.Arguments.{LineGiven}
use Rattle.rdlpp_front.specs.SourceItems.{IsDirective}
use Rattle.rdlpp_front.specs.SourceLeft.{HoldsFront, source_left}
use Rattle.rdlpp_front.specs.declared.arguments.line.GivenLine.{GivenLine}
use Rattle.rdlpp_front.proofs.TextLeft.{file_moves, given_text, line_moves, line_right_after, line_text}
use Rattle.rdlpp_state.specs.Engine.{EngineView, IsSoundEngine}
use Rattle.rdlpp_state.specs.Held.{IsBounded}
use Rattle.rdlpp_state.specs.Lines.{Renumbers, inner_blanks, renumbered_file}
use Rattle.rdlpp_state.specs.Marks.{MarksView, ends_line}
use Rattle.rdlpp_state.specs.Moves.{IsReady}
use Rattle.rdlpp_state.specs.Pending.{PendingView, nothing_pending, origin_pending, pending_bytes}
use Rattle.rdlpp_state.specs.Pieces.{silent_answer}
use Rattle.rdlpp_state.specs.Positions.{AfterLine}
use Rattle.rdlpp_state.specs.Remaining.{file_state, inner_name, include_stack_left, include_stack_state, run_rules, state_of}
use Rattle.rdlpp_state.specs.Standing.{InSources, Nowhere}
use Rattle.rdlpp_state.specs.Steps.{UncutStep}
use Rattle.rdlpp_state.proofs.IncludeStackLeft.{around, at_live, ends_mid_line_consumed, moved_live, none_held}
use Rattle.rdlpp_state.proofs.EngineSteps.{not_called}
use Rattle.rdlpp_state.proofs.FrontSteps.{Fails, left_by, lends_piece}
use Rattle.rdlpp_state.proofs.Stores.{parts_on, parts_shown, parts_used}
use Rattle.rdlpp_state.proofs.Soundness.{inner_facts}
use Rattle.rdlpp_state.proofs.LentPieces.{pending_few, pending_with_origin}
use Rattle.rdlpp_state.proofs.WorkFacts.{IsUsed, held_room, used_bytes}

-- a `line` that gives no number and name is a fault
bad_move : (rules : Rules) (x : Option Renumbered) (c : Command) (place : Place) (s : State) → x ≡ None → line_move rules x c place s ≡ Stops BadLine []
unfolding line_move
bad_move rules x c place s bad = rw bad refl

-- and so is one after anything but blanks, whatever it gives
late_move : (rules : Rules) (x : Option Renumbered) (c : Command) (place : Place) (s : State) → c.first ≡ false → line_move rules x c place s ≡ Stops BadLine []
unfolding line_move
late_move rules None c place s late = refl
late_move rules (Some r) c place s late = rw late refl

-- what remains of a source at a `line`, by what its line gives
line_comes : {R : Type 0} (rules : Rules) (unread : R → List ℕ) (ws : List Waiting) (os : List Progress) (f : File R) (s : State) (m : Move) → HoldsFront f.buffer → f.buffer.mode ≡ Plain → IsDirective Line (held_of f.buffer)
    → (let c : Command = record { word = Line; given = None; text = line_text (held_of f.buffer); line = f.buffer.line; first = f.blanks } in
    line_move rules (renumbered (drop 5 (line_text (held_of f.buffer)))) c (Live os) s ≡ m)
    → source_left rules unread ws (Live os) f s
    ≡ file_moves rules unread ws m f.buffer.line s (consumed_file (line_len (held_of f.buffer)) (line_ends (line_text (held_of f.buffer))) f)
unfolding move_of single_move
line_comes rules unread ws os f s m holds plain is comes =
    line_moves rules unread ws (Live os) f s holds plain is
    ∙ ap (λ (x : Move). file_moves rules unread ws x f.buffer.line s (consumed_file (line_len (held_of f.buffer)) (line_ends (line_text (held_of f.buffer))) f)) comes

module _ {R : Type 0} (limits : Limits) (rules : Rules) (unread : R → List ℕ) (macros : List Macro) (v : ConditionsView) (live : v.skipped ≡ None) where
  -- a `line` that is given a number and a name
  pub include_stack_line : (include_stack : List (File R)) (given : GivenLine) (from lines : ℕ) → 0 < length (held_of (inner_buffer include_stack)) → EndsHeld (inner_buffer include_stack)
      → (inner_buffer include_stack).mode ≡ Plain → IsDirective Line (held_of (inner_buffer include_stack)) → inner_blanks include_stack ≡ true → LineGiven (drop 5 (held_of (inner_buffer include_stack))) given
      → from ≡ suc (inner_buffer include_stack).line → lines ≡ line_ends (take (5 + given.stop) (held_of (inner_buffer include_stack)))
      → include_stack_left limits rules unread macros v include_stack
      ≡ after_bytes (line_ends_of (take (5 + given.stop) (held_of (inner_buffer include_stack))) ++ origin_line rules given.name.bytes given.number)
      (include_stack_left limits rules unread macros v (with_inner (renumbered_file from given.number given.name) (with_inner (consumed_file (5 + given.stop) lines) include_stack)))
  unfolding include_stack_state file_state source_left line_move moves_on
  include_stack_line [] given from lines some ends plain is first has _ counted = absurd (none_held R some)
  include_stack_line (f ∷ outer) given from lines some ends plain is first has here counted =
      let held = held_of f.buffer in
      let s = include_stack_state limits macros v (f ∷ outer) in
      let r : Renumbered = record { number = given.number; name = given.name.bytes } in
      let whole : line_len held ≡ 5 + given.stop = line_right_after held some is ∙ ap (λ n. 5 + n) (sym has.stop) in
      let value : renumbered (drop 5 (line_text held)) ≡ Some r = ap renumbered (given_text held some is) ∙ has.value in
      let ws = around limits rules unread macros v f outer in
      let os = own_conditions f.conditions_below v in
      let after : ℕ → ℕ → ℕ → Passage = λ n k m. source_left rules unread ws (Live os) (renumbered_file m given.number given.name (consumed_file n k f))
      (include_stack_state limits macros v (renumbered_file m given.number given.name (consumed_file n k f) ∷ outer)) in
      let command : File R → Command = λ h. record { word = Line; given = None; text = line_text held; line = h.buffer.line; first = h.blanks } in
      let text : ℕ → List ℕ = λ n. line_ends_of (take n held) ++ origin_line rules given.name.bytes given.number in
      moved_live limits rules unread macros v live f (renumbered_file from given.number given.name (consumed_file (5 + given.stop) lines f)) outer macros (text (5 + given.stop))
      (line_comes rules unread ws os f s _ (record { some = some; ends = ends }) plain is
      (ap (λ (x : Option Renumbered). line_move rules x (command f) (Live os) s) value ∙ ap (λ (b : Bool). line_move rules (Some r) (record (command f) { first = b }) (Live os) s) first)
      ∙ (ap (λ (n : ℕ). after_bytes (text n) (after n (line_ends (take n held)) (suc f.buffer.line))) whole
      ∙ (ap (λ (k : ℕ). after_bytes (text (5 + given.stop)) (after (5 + given.stop) k (suc f.buffer.line))) (sym counted)
      ∙ ap (λ (m : ℕ). after_bytes (text (5 + given.stop)) (after (5 + given.stop) lines m)) (sym here))))
      (ends_mid_line_consumed unread f (5 + given.stop) lines) refl refl

  -- a `line` that is given anything else
  pub include_stack_bad_line : (include_stack : List (File R)) → 0 < length (held_of (inner_buffer include_stack)) → EndsHeld (inner_buffer include_stack)
      → (inner_buffer include_stack).mode ≡ Plain → IsDirective Line (held_of (inner_buffer include_stack))
      → renumbered (take (line_len (drop 5 (held_of (inner_buffer include_stack)))) (drop 5 (held_of (inner_buffer include_stack)))) ≡ None
      → include_stack_left limits rules unread macros v include_stack ≡ leaves (fails (fault_at BadLine (inner_buffer include_stack).line [] (include_stack_state limits macros v include_stack))) (include_stack_state limits macros v include_stack)
  unfolding moves_on
  include_stack_bad_line [] some ends plain is bad = absurd (none_held R some)
  include_stack_bad_line (f ∷ outer) some ends plain is bad =
      let held = held_of f.buffer in
      at_live limits rules unread macros v live f outer _
      (line_comes rules unread (around limits rules unread macros v f outer) (own_conditions f.conditions_below v) f (include_stack_state limits macros v (f ∷ outer)) (Stops BadLine [])
      (record { some = some; ends = ends }) plain is (bad_move rules _ _ _ _ (ap renumbered (given_text held some is) ∙ bad)))

  -- a `line` after anything but blanks
  pub include_stack_late_line : (include_stack : List (File R)) → 0 < length (held_of (inner_buffer include_stack)) → EndsHeld (inner_buffer include_stack)
      → (inner_buffer include_stack).mode ≡ Plain → IsDirective Line (held_of (inner_buffer include_stack)) → inner_blanks include_stack ≡ false
      → include_stack_left limits rules unread macros v include_stack ≡ leaves (fails (fault_at BadLine (inner_buffer include_stack).line [] (include_stack_state limits macros v include_stack))) (include_stack_state limits macros v include_stack)
  unfolding moves_on
  include_stack_late_line [] some ends plain is late = absurd (none_held R some)
  include_stack_late_line (f ∷ outer) some ends plain is late =
      let held = held_of f.buffer in
      at_live limits rules unread macros v live f outer _
      (line_comes rules unread (around limits rules unread macros v f outer) (own_conditions f.conditions_below v) f (include_stack_state limits macros v (f ∷ outer)) (Stops BadLine [])
      (record { some = some; ends = ends }) plain is (late_move rules _ _ _ _ late))

-- what a source shows changes none of its bytes
shown_used : {R : Type 0} (old new : List (File R)) (change : File R → File R) → ((f : File R) → (change f).buffer ≡ f.buffer) → IsUsed old new → IsUsed old (with_inner change new)
shown_used old [] change same used = used
shown_used old (f ∷ outer) change same used = record { fewer = rw (same f) used.fewer; outer = used.outer; size = used.size }

-- nor how many are open
pub named_inner : {R : Type 0} (from number : ℕ) (name : ArrayString 1024) (include_stack : List (File R)) → 0 < length include_stack → inner_name (with_inner (renumbered_file from number name) include_stack) ≡ name.bytes
named_inner from number name [] some = absurd (omega arith)
named_inner from number name (f ∷ outer) some = refl

-- what is held is short
pub held_short : {S R : Type 0} (e : EngineView S R) → IsSoundEngine e.limits e.phase e.table e.files e.conditions → AreOpen e.files → 0 < length e.files.include_stack → length (held_of (inner_buffer e.files.include_stack)) ≤ 1048576
held_short e sound files some =
    let inner = inner_facts e.files some files in
    let room = held_room (inner_buffer e.files.include_stack) in
    let lines = inner.buffer.lines in
    let within = inner.buffer.within in
    let size = inner.size in
    let most = sound.line_bytes in
    let range = sound.in_range.line_bytes.1 in
    omega arith

-- as many are open after a change of the innermost
some_inner : {R : Type 0} (change : File R → File R) (include_stack : List (File R)) → 0 < length include_stack → 0 < length (with_inner change include_stack)
some_inner change [] some = some
some_inner change (f ∷ outer) some = some

-- a `line` is taken
pub take_renumbered : {S R : Type 0} (g : Ghosts S R) (old new : EngineView S R) (given : GivenLine) → IsReady old → old.conditions.skipped ≡ None → IsBounded new
    → 0 < length (held_of (inner_buffer old.files.include_stack)) → (inner_buffer old.files.include_stack).mode ≡ Plain → IsDirective Line (held_of (inner_buffer old.files.include_stack))
    → inner_blanks old.files.include_stack ≡ true → LineGiven (drop 5 (held_of (inner_buffer old.files.include_stack))) given → 5 + given.stop ≤ length (held_of (inner_buffer old.files.include_stack))
    → Renumbers given old new → UncutStep g old new (silent_answer new None)
unfolding after_bytes
take_renumbered {S} {R} g old new given ready live bounded some plain is first has inside d =
    let inner = inner_facts old.files ready.include_stack ready.files in
    let held = held_of (inner_buffer old.files.include_stack) in
    let len = 5 + given.stop in
    let from = (inner_buffer old.files.include_stack).line + 1 in
    let w = take len held in
    let used = with_inner (consumed_file len d.lines) old.files.include_stack in
    let include_stack = with_inner (renumbered_file from given.number given.name) used in
    let pending : PendingView = record { line_ends = d.lines; origin = origin_pending old.origins given.number } in
    let marks = ends_line d.lines (state_of old).name (shown_line (state_of old).shift (inner_buffer old.files.include_stack).line) old.marks in
    let few = held_short old ready.sound ready.files ready.include_stack in
    let counted = d.counted in
    let least = line_ends_le w in
    let size = length-take-le len held inside in
    let lines : d.lines ≤ len = omega arith in
    let name : inner_name include_stack ≡ given.name.bytes = named_inner from given.number given.name used (some_inner (consumed_file len d.lines) old.files.include_stack ready.include_stack) in
    let bytes : pending_bytes (inner_name include_stack) pending ≡ line_ends_of w ++ origin_line (run_rules g old) given.name.bytes given.number =
    ap (λ (n : List ℕ). pending_bytes n pending) name ∙ pending_with_origin (g.catalog old.sources) old.limits old.origins given.name.bytes w d.lines given.number d.counted in
    subst (λ (e : EngineView S R). UncutStep g old e (Ok (Some []))) (sym d.becomes)
    (lends_piece g old ready [] pending marks old.table.macros old.conditions include_stack old.sources (subst IsBounded d.becomes bounded) (pending_few old.origins d.lines given.number (omega arith))
    (shown_used old.files.include_stack used (renumbered_file from given.number given.name) (λ f. refl) (used_bytes old.files.include_stack len d.lines (omega arith) inside))
    (not_called g old.sources)
    (λ t. include_stack_line old.limits (run_rules g old) g.unread old.table.macros old.conditions live old.files.include_stack given from d.lines some inner.ends plain is first has (omega arith) d.counted
    ∙ ap (λ (x : List ℕ). after_bytes x (left_by g old old.table.macros old.conditions include_stack)) (sym bytes))
    (λ t. parts_on g.unread old.files.include_stack used include_stack (parts_used g.unread len d.lines old.files.include_stack) (parts_shown g.unread from given.number given.name used)) (Nowhere refl (InSources ready.idle refl (AfterLine d.lines refl))))

-- what remains at a bad `line`
module _ {S R : Type 0} (g : Ghosts S R) (e : EngineView S R) (ready : IsReady e) (live : e.conditions.skipped ≡ None) (some : 0 < length (held_of (inner_buffer e.files.include_stack)))
    (plain : (inner_buffer e.files.include_stack).mode ≡ Plain) (is : IsDirective Line (held_of (inner_buffer e.files.include_stack))) where
  pub left_bad_line : renumbered (take (line_len (drop 5 (held_of (inner_buffer e.files.include_stack)))) (drop 5 (held_of (inner_buffer e.files.include_stack)))) ≡ None → Fails g e BadLine (inner_buffer e.files.include_stack).line []
  unfolding state_of
  left_bad_line bad =
      include_stack_bad_line e.limits (run_rules g e) g.unread e.table.macros e.conditions live e.files.include_stack some (inner_facts e.files ready.include_stack ready.files).ends plain is bad

  pub left_late_line : inner_blanks e.files.include_stack ≡ false → Fails g e BadLine (inner_buffer e.files.include_stack).line []
  unfolding state_of
  left_late_line late =
      include_stack_late_line e.limits (run_rules g e) g.unread e.table.macros e.conditions live e.files.include_stack some (inner_facts e.files ready.include_stack ready.files).ends plain is late

-- a `line` that was used, and what is pending after it
pub renumbers_by : {S R : Type 0} (given : GivenLine) (old used shown new : EngineView S R) (from lines : ℕ) (pending then_pending : PendingView) (name : List ℕ) (line : ℕ)
    → used ≡ record old { files = record old.files { include_stack = with_inner (consumed_file (5 + given.stop) lines) old.files.include_stack } }
    → shown ≡ record used { files = record used.files { include_stack = with_inner (renumbered_file from given.number given.name) used.files.include_stack } }
    → new ≡ record shown { pending = then_pending; marks = ends_line lines name line shown.marks } → pending ≡ record shown.pending { line_ends = shown.pending.line_ends + lines }
    → then_pending ≡ record pending { origin = origin_pending shown.origins given.number } → old.pending ≡ nothing_pending
    → from ≡ (inner_buffer old.files.include_stack).line + 1 → lines ≡ line_ends (take (5 + given.stop) (held_of (inner_buffer old.files.include_stack)))
    → name ≡ (state_of old).name → line ≡ shown_line (state_of old).shift (inner_buffer old.files.include_stack).line → Renumbers given old new
unfolding nothing_pending
renumbers_by {S} {R} given old used shown new from lines pending then_pending name line uses shows queues adds asks nothing here counted named lined =
    let include_stack : ℕ → List (File R) = λ m. with_inner (renumbered_file m given.number given.name) (with_inner (consumed_file (5 + given.stop) lines) old.files.include_stack) in
    let becomes : shown ≡ record old { files = record old.files { include_stack = include_stack from } } =
    shows ∙ ap (λ (e : EngineView S R). record e { files = record e.files { include_stack = with_inner (renumbered_file from given.number given.name) e.files.include_stack } }) uses in
    let none : shown.pending.line_ends ≡ 0 = ap (λ e. e.pending.line_ends) becomes ∙ ap (λ o. o.line_ends) nothing in
    let added : pending.line_ends ≡ shown.pending.line_ends + lines = ap (λ o. o.line_ends) adds in
    let count : pending.line_ends ≡ lines = omega arith in
    let origins : shown.origins ≡ old.origins = ap (λ e. e.origins) becomes in
    let makes : ℕ → Bool → PendingView = λ n b. record { line_ends = n; origin = origin_pending b given.number } in
    let exact : then_pending ≡ makes lines old.origins = asks ∙ (ap (λ (n : ℕ). makes n shown.origins) count ∙ ap (makes lines) origins) in
    let marked : List ℕ → ℕ → MarksView = λ xs n. ends_line lines xs n old.marks in
    let ends : PendingView → MarksView → ℕ → EngineView S R = λ o marks m. record old { pending = o; marks = marks; files = record old.files { include_stack = include_stack m } } in
    record {
      lines = lines;
      counted = counted;
      becomes = queues ∙ (ap (λ (e : EngineView S R). record e { pending = then_pending; marks = ends_line lines name line e.marks }) becomes
          ∙ (ap (λ (o : PendingView). ends o (marked name line) from) exact
          ∙ (ap (λ (xs : List ℕ). ends (makes lines old.origins) (marked xs line) from) named
          ∙ (ap (λ (n : ℕ). ends (makes lines old.origins) (marked (state_of old).name n) from) lined
          ∙ ap (ends (makes lines old.origins) (marked (state_of old).name (shown_line (state_of old).shift (inner_buffer old.files.include_stack).line))) here))));
    }
