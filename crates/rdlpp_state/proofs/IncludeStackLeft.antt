-- What remains of the open sources, as the innermost moves among its conditionals.
use Rattle.std.proofs.Common.{◌≡◌, ℕ, zero, suc, ◌-◌, ◌^◌, ◌≤◌, ◌<◌, Bool, true, false, List, [], ◌∷◌, length, take, drop, Option, None, Some, refl, sym, ap, subst, ◌∙◌, inl, inr, arith, ◌+◌, ◌++◌, append_assoc, drop-drop, take-append-drop}
use Rattle.std.proofs.lemmas.Bool.{cases_lt}
use Rattle.std.proofs.lemmas.List.{nil_from_length}
use Rattle.rdlpp_scan.specs.Front as breach
use Rattle.rdlpp_scan.specs.Front.{Breach}
use Rattle.rdlpp_scan.specs.SourceTokens.{line_ends}
use Rattle.rdlpp_scan.specs.declared.token.Directive.TheVariants.{Define}
use Rattle.rdlpp_scan.specs.declared.token.Mode.{Mode}
use Rattle.rdlpp_scan.specs.declared.token.Mode.TheVariants.{Plain}
use Rattle.rdlpp_define.specs.Macros.{Macro}
use Rattle.rdlpp_define.specs.Table.{macro_named}
use Rattle.rdlpp_define.specs.declared.limits.Limits.{Limits}
use Rattle.rdlpp_meaning.specs.Moves.{in_branch}
use Rattle.rdlpp_meaning.specs.Meaning.{Passage, Progress, after_bytes, leaves}
use Rattle.rdlpp_meaning.specs.Opened.{Waiting, unwound}
use Rattle.rdlpp_meaning.specs.Outcome.{fails, gives}
use Rattle.rdlpp_meaning.specs.Moves.{define_move, move_of, moves_on, single_move}
use Rattle.rdlpp_meaning.specs.Parts.{Command, line_ends_of}
use Rattle.rdlpp_meaning.specs.Resumed.{Live, Place, Skipped}
use Rattle.rdlpp_meaning.specs.State.{Accepted, Defined, DefinitionFault, Rules, breach_kind, fault_at}
use Rattle.rdlpp_meaning.specs.declared.fault.FaultKind.{FaultKind}
use Rattle.rdlpp_meaning.specs.declared.fault.FaultKind.TheVariants as fault
use Rattle.rdlpp_read.specs.Conditions.{ConditionsView, own_conditions, place_by, place_of}
use Rattle.rdlpp_read.specs.ConditionMoves.{skipped_by}
use Rattle.rdlpp_read.specs.Buffer.{BufferView, EndsHeld, ahead_of, closed_buffer, entered_mode, held_of, rest_of, text_left, tokens_left, unused_of}
use Rattle.rdlpp_read.specs.Files.{consumed_file, inner_buffer, ends_mid_line_after, with_buffer, with_inner}
use Rattle.rdlpp_read.specs.Filling.{Fills, ended_tokens, only_broken}
use Rattle.rdlpp_read.specs.LogicalLines.{HoldsLine}
use Rattle.rdlpp_read.specs.declared.buffer.extending.LogicalLine.TheVariants as line
use Rattle.rdlpp_read.specs.declared.buffer.filling.Fill.TheVariants as fill
use Rattle.rdlpp_read.specs.declared.files.File.{File}
use Rattle.rdlpp_read.proofs.BufferTokens.{ends_mid_line_after-append}
use Rattle.rdlpp_front.specs.SourceItems.{IsDirective, IsRefused, IsText, IsUsage, usage_name}
use Rattle.rdlpp_front.specs.SourceLeft.{HoldsFront, source_left, with_file_buffer}
use Rattle.rdlpp_front.proofs.DirectivesLeft.{skipped_broken_left}
use Rattle.rdlpp_front.proofs.TextLeft.{broken_left, define_cut_left, define_long_left, define_moves, ended_left, file_moves, filled_left, held_left, holds_define, refused_left, text_left as text_law, undefined_left}
use Rattle.rdlpp_state.specs.OpenConditionals.{AreBelow, AreConditions, inner_below, outer_open}
use Rattle.rdlpp_state.specs.Remaining.{ending_after, file_state, include_stack_left, include_stack_state, waiting_around}

-- Where the innermost source stands among its conditionals.

-- text that isn't skipped is live
live_by : (os : List Progress) → place_by None os ≡ Live os
unfolding place_by
live_by [] = refl
live_by (o ∷ os) = refl

pub live_place : (below : ℕ) (v : ConditionsView) → v.skipped ≡ None → place_of below v ≡ Live (own_conditions below v)
unfolding place_of
live_place below v live = ap (λ (n : Option ℕ). place_by n (own_conditions below v)) live ∙ live_by (own_conditions below v)

-- text is live unless it is skipped
live_unless : (skipped : Option ℕ) → ((n : ℕ) → skipped ≡ Some n → ⊥) → skipped ≡ None
live_unless None never = refl
live_unless (Some n) never = absurd (never n refl)

-- no part of nothing
take_nothing : (n : ℕ) → take {A = Progress} n [] ≡ []
take_nothing zero = refl
take_nothing (suc n) = refl

-- where no conditional is open
pub no_place : (below : ℕ) (v : ConditionsView) → v.open_now ≡ [] → place_of below v ≡ Live []
unfolding place_of own_conditions place_by
no_place below v none = grind (arith, take_nothing)

-- of the sources, a change of the innermost changes none that is around it
below_inner : {R : Type 0} (most : ℕ) (change : File R → File R) (include_stack : List (File R)) → ((f : File R) → (change f).conditions_below ≡ f.conditions_below)
    → AreBelow most include_stack → AreBelow most (with_inner change include_stack)
below_inner most change [] same below = below
below_inner most change (f ∷ outer) same below = rw (same f) below

-- nor how many conditionals are open around it
pub inner_below-same : {R : Type 0} (change : File R → File R) (include_stack : List (File R)) → ((f : File R) → (change f).conditions_below ≡ f.conditions_below)
    → inner_below (with_inner change include_stack) ≡ inner_below include_stack
inner_below-same change [] same = refl
inner_below-same change (f ∷ outer) same = same f

-- the innermost source changes, of which no more bytes aren't used
pub conditions_inner : {R : Type 0} (limits : Limits) (v : ConditionsView) (change : File R → File R) (include_stack : List (File R)) → ((f : File R) → (change f).conditions_below ≡ f.conditions_below)
    → unused_of (inner_buffer (with_inner change include_stack)) ≤ unused_of (inner_buffer include_stack) → AreConditions limits v include_stack → AreConditions limits v (with_inner change include_stack)
conditions_inner limits v change include_stack same less s = grind (arith, below_inner, inner_below-same)

-- where no source is open, no conditional is
pub conditions_none : {R : Type 0} (limits : Limits) (v : ConditionsView) (include_stack : List (File R)) → include_stack ≡ [] → AreConditions limits v include_stack → v.open_now ≡ []
conditions_none {R} limits v include_stack none s = grind (arith, nil_from_length)

-- where a source has no conditional of its own that is open, text is live
pub conditions_live : {R : Type 0} (limits : Limits) (v : ConditionsView) (include_stack : List (File R)) → length v.open_now ≡ inner_below include_stack → AreConditions limits v include_stack → v.skipped ≡ None
conditions_live limits v include_stack alone s = live_unless v.skipped (λ n e. let some = s.own n e in omega arith)

-- where the innermost source ends, with no conditional of its own open
pub conditions_left : {R : Type 0} (limits : Limits) (v : ConditionsView) (f : File R) (outer : List (File R)) → length v.open_now ≡ f.conditions_below
    → unused_of (inner_buffer outer) < 2 ^ 31 → AreConditions limits v (f ∷ outer) → AreConditions limits v outer
conditions_left limits v f outer alone few s = grind (arith, conditions_live)

-- where the main text has ended, with no conditional open
pub conditions_closed : {R : Type 0} (limits : Limits) (v : ConditionsView) (include_stack : List (File R)) → 0 < length include_stack → length include_stack ≤ 1 → length v.open_now ≡ inner_below include_stack
    → AreConditions limits v include_stack → AreConditions {R = R} limits v []
unfolding unused_of closed_buffer
conditions_closed limits v (f ∷ []) some few alone s = conditions_left limits v f [] alone (omega arith) s
conditions_closed limits v _ some few alone s = absurd (omega arith)

-- where one more source is opened in live text
pub conditions_opened : {R : Type 0} (limits : Limits) (v : ConditionsView) (f : File R) (include_stack : List (File R)) → v.skipped ≡ None → f.conditions_below ≤ length v.open_now → AreBelow f.conditions_below include_stack
    → unused_of f.buffer < 2 ^ 31 → AreConditions limits v include_stack → AreConditions limits v (f ∷ include_stack)
conditions_opened limits v f include_stack live most below few s = grind arith

-- the innermost source's own conditionals, of which the innermost is one
own_cons : (below : ℕ) (o : Progress) (os : List Progress) → below ≤ length os → take (length (o ∷ os) - below) (o ∷ os) ≡ o ∷ take (length os - below) os
own_cons below o os some = grind arith

-- those around it are the same without it
pub outer_cons : (below : ℕ) (o : Progress) (os : List Progress) → below ≤ length os → outer_open below (o ∷ os) ≡ outer_open below os
unfolding outer_open
outer_cons below o os some = grind arith

-- in a branch of its own innermost conditional
place_in_branch : (live : Bool) (o : Progress) (os : List Progress) → place_by (skipped_by live) (o ∷ os) ≡ in_branch live o os
unfolding place_by skipped_by in_branch
place_in_branch true o os = refl
place_in_branch false o os = refl

-- the place by the open conditionals, where one is the innermost source's
place_own : (below : ℕ) (v : ConditionsView) (o : Progress) (os : List Progress) → v.open_now ≡ o ∷ os → below ≤ length os → place_of below v ≡ place_by v.skipped (o ∷ take (length os - below) os)
unfolding place_of own_conditions
place_own below v o os is some =
    ap (λ (x : List Progress). place_by v.skipped (take (length x - below) x)) is ∙ ap (place_by v.skipped) (own_cons below o os some)

pub place_inside : (below : ℕ) (v : ConditionsView) (live : Bool) (o : Progress) (os : List Progress) → v.open_now ≡ o ∷ os → below ≤ length os → v.skipped ≡ skipped_by live
    → place_of below v ≡ in_branch live o (take (length os - below) os)
place_inside below v live o os is some skips =
    place_own below v o os is some ∙ ap (λ (n : Option ℕ). place_by n (o ∷ take (length os - below) os)) skips ∙ place_in_branch live o (take (length os - below) os)

pub place_skipped : (below : ℕ) (v : ConditionsView) (n : ℕ) (o : Progress) (os : List Progress) → v.open_now ≡ o ∷ os → below ≤ length os → v.skipped ≡ Some n
    → place_of below v ≡ Skipped n o (take (length os - below) os)
unfolding place_by
place_skipped below v n o os is some skips =
    place_own below v o os is some ∙ ap (λ (k : Option ℕ). place_by k (o ∷ take (length os - below) os)) skips

-- where none is its own
pub place_outside : (below : ℕ) (v : ConditionsView) → length v.open_now ≡ below → place_of below v ≡ Live []
unfolding place_of own_conditions place_by
place_outside below v same = grind arith

-- where the innermost source stands: outside of all its conditionals, in a branch of its own innermost, or in conditionals that opened in skipped text
pub data Standing (below : ℕ) (v : ConditionsView) : Type 0 where
  Outside : length v.open_now ≡ below → Standing below v
  Inside : (live : Bool) (o : Progress) (os : List Progress) → v.open_now ≡ o ∷ os → below ≤ length os → v.skipped ≡ skipped_by live → Standing below v
  Deep : (n : ℕ) (o : Progress) (os : List Progress) → v.open_now ≡ o ∷ os → below ≤ length os → v.skipped ≡ Some (suc n) → Standing below v

standing_own : (below : ℕ) (v : ConditionsView) (skipped : Option ℕ) (o : Progress) (os : List Progress) → v.skipped ≡ skipped → v.open_now ≡ o ∷ os → below ≤ length os → Standing below v
unfolding skipped_by
standing_own below v None o os skips is some = Inside true o os is some skips
standing_own below v (Some zero) o os skips is some = Inside false o os is some skips
standing_own below v (Some (suc n)) o os skips is some = Deep n o os is some skips

standing_by : (below : ℕ) (v : ConditionsView) (open_now : List Progress) → v.open_now ≡ open_now → below ≤ length v.open_now → Standing below v
standing_by below v [] is most = Outside (let none : length v.open_now ≡ 0 = ap length is in omega arith)
standing_by below v (o ∷ os) is most =
    let size : length v.open_now ≡ suc (length os) = ap length is in
    elim (cases_lt below (length v.open_now)) [
      | inl more ↦ standing_own below v v.skipped o os refl is (omega arith)
      | inr all ↦ Outside (omega arith)
    ]

pub standing : (below : ℕ) (v : ConditionsView) → below ≤ length v.open_now → Standing below v
standing below v most = standing_by below v v.open_now refl most

-- What remains of the open sources, as the innermost of them moves, where any others wait for it.

-- nothing is held where no source is open
pub none_held : (R : Type 0) → 0 < length (held_of (inner_buffer {R = R} [])) → ⊥
unfolding held_of closed_buffer
none_held R some = omega arith

-- a source of which bytes are used ends as it did
pub ends_mid_line_consumed : {R : Type 0} (unread : R → List ℕ) (f : File R) (len lines : ℕ)
    → ends_mid_line_after (consumed_file len lines f).ends_mid_line (text_left unread (consumed_file len lines f).buffer) ≡ ends_mid_line_after f.ends_mid_line (text_left unread f.buffer)
unfolding text_left held_of rest_of ahead_of
ends_mid_line_consumed unread f len lines =
    let held = drop f.buffer.at (take f.buffer.accepted f.buffer.window) in
    let rest = rest_of unread f.buffer in
    let now : drop (f.buffer.at + len) (take f.buffer.accepted f.buffer.window) ≡ drop len held = sym (drop-drop len f.buffer.at (take f.buffer.accepted f.buffer.window)) in
    ap (λ (h : List ℕ). ends_mid_line_after (ends_mid_line_after f.ends_mid_line (take len held)) (h ++ rest)) now
    ∙ sym (ends_mid_line_after-append f.ends_mid_line (take len held) (drop len held ++ rest))
    ∙ ap (ends_mid_line_after f.ends_mid_line) (sym (append_assoc (take len held) (drop len held) rest) ∙ ap (λ (h : List ℕ). h ++ rest) (take-append-drop len held))

-- the text that isn't used is the same in each mode
pub text_entered : {R : Type 0} (unread : R → List ℕ) (b : BufferView R) (next : Mode) → text_left unread (entered_mode b next) ≡ text_left unread b
unfolding text_left held_of rest_of ahead_of entered_mode
text_entered unread b next = refl

module _ {R : Type 0} (limits : Limits) (rules : Rules) (unread : R → List ℕ) where
  -- the sources that wait are the same where the innermost ends as it did
  pub waiting_same : (os : List Progress) (f g : File R) (outer : List (File R)) → ends_mid_line_after g.ends_mid_line (text_left unread g.buffer) ≡ ends_mid_line_after f.ends_mid_line (text_left unread f.buffer)
      → g.include_line ≡ f.include_line → waiting_around limits rules unread os g outer ≡ waiting_around limits rules unread os f outer
  unfolding waiting_around ending_after
  waiting_same os f g [] ends_mid_line line = refl
  waiting_same os f g (around ∷ outer) ends_mid_line line = rw (ends_mid_line, line) refl

  module _ (macros : List Macro) (v : ConditionsView) where
    -- the sources that wait around one
    abbrev pub around : File R → List (File R) → List Waiting
    around f outer = waiting_around limits rules unread (outer_open f.conditions_below v.open_now) f outer

    -- what remains of the innermost source, where another one remains after a move of it
    pub moved : (f g : File R) (outer : List (File R)) (now : List Macro) (x : List ℕ)
        → source_left rules unread (around f outer) (place_of f.conditions_below v) f (include_stack_state limits macros v (f ∷ outer))
        ≡ after_bytes x (source_left rules unread (around f outer) (place_of f.conditions_below v) g (include_stack_state limits now v (g ∷ outer)))
        → ends_mid_line_after g.ends_mid_line (text_left unread g.buffer) ≡ ends_mid_line_after f.ends_mid_line (text_left unread f.buffer) → g.include_line ≡ f.include_line
        → g.conditions_below ≡ f.conditions_below
        → include_stack_left limits rules unread macros v (f ∷ outer) ≡ after_bytes x (include_stack_left limits rules unread now v (g ∷ outer))
    unfolding include_stack_left
    moved f g outer now x law ends_mid_line line below =
        let s = include_stack_state limits now v (g ∷ outer) in
        let os = v.open_now in
        law
        ∙ ap (λ (ws : List Waiting). after_bytes x (source_left rules unread ws (place_of f.conditions_below v) g s))
        (sym (waiting_same (outer_open f.conditions_below os) f g outer ends_mid_line line))
        ∙ ap (λ (n : ℕ). after_bytes x (source_left rules unread (waiting_around limits rules unread (outer_open n os) g outer) (place_of n v) g s)) (sym below)

    -- one broken token without bytes is a fault wherever it stands
    broken_anywhere : (place : Place) (f : File R) (outer : List (File R)) (b : Breach) (line : ℕ) → tokens_left unread f.buffer ≡ only_broken b line
        → let s = include_stack_state limits macros v (f ∷ outer) in
        source_left rules unread (around f outer) place f s ≡ leaves (fails (fault_at (breach_kind b) line [] s)) s
    broken_anywhere (Live os) f outer b line e =
        broken_left rules unread (around f outer) os f (include_stack_state limits macros v (f ∷ outer)) b line e
    broken_anywhere (Skipped n o os) f outer b line e =
        skipped_broken_left rules unread (around f outer) o os f (include_stack_state limits macros v (f ∷ outer)) n b line e

    -- where one is all that remains
    pub include_stack_broken : (include_stack : List (File R)) (b : Breach) (line : ℕ) → 0 < length include_stack → tokens_left unread (inner_buffer include_stack) ≡ only_broken b line
        → include_stack_left limits rules unread macros v include_stack ≡ leaves (fails (fault_at (breach_kind b) line [] (include_stack_state limits macros v include_stack))) (include_stack_state limits macros v include_stack)
    unfolding include_stack_left
    include_stack_broken [] b line some e = absurd (omega arith)
    include_stack_broken (f ∷ outer) b line some e = broken_anywhere (place_of f.conditions_below v) f outer b line e

    module _ (live : v.skipped ≡ None) where
      -- what remains in live text
      pub at_live : (f : File R) (outer : List (File R)) (p : Passage)
          → source_left rules unread (around f outer) (Live (own_conditions f.conditions_below v)) f (include_stack_state limits macros v (f ∷ outer)) ≡ p
          → include_stack_left limits rules unread macros v (f ∷ outer) ≡ p
      unfolding include_stack_left
      at_live f outer p law =
          ap (λ (place : Place). source_left rules unread (around f outer) place f (include_stack_state limits macros v (f ∷ outer))) (live_place f.conditions_below v live)
          ∙ law

      -- a move in live text
      pub moved_live : (f g : File R) (outer : List (File R)) (now : List Macro) (x : List ℕ)
          → source_left rules unread (around f outer) (Live (own_conditions f.conditions_below v)) f (include_stack_state limits macros v (f ∷ outer))
          ≡ after_bytes x (source_left rules unread (around f outer) (Live (own_conditions f.conditions_below v)) g (include_stack_state limits now v (g ∷ outer)))
          → ends_mid_line_after g.ends_mid_line (text_left unread g.buffer) ≡ ends_mid_line_after f.ends_mid_line (text_left unread f.buffer) → g.include_line ≡ f.include_line
          → g.conditions_below ≡ f.conditions_below
          → include_stack_left limits rules unread macros v (f ∷ outer) ≡ after_bytes x (include_stack_left limits rules unread now v (g ∷ outer))
      moved_live f g outer now x law ends_mid_line line below =
          moved f g outer now x
          (subst (λ (place : Place). source_left rules unread (around f outer) place f (include_stack_state limits macros v (f ∷ outer))
          ≡ after_bytes x (source_left rules unread (around f outer) place g (include_stack_state limits now v (g ∷ outer)))) (sym (live_place f.conditions_below v live)) law)
          ends_mid_line line below

      -- the text that is copied
      pub include_stack_text : (include_stack : List (File R)) (len lines : ℕ) (next : Mode) → 0 < length (held_of (inner_buffer include_stack)) → EndsHeld (inner_buffer include_stack)
          → IsText (inner_buffer include_stack).mode (held_of (inner_buffer include_stack)) len next → lines ≡ line_ends (take len (held_of (inner_buffer include_stack)))
          → include_stack_left limits rules unread macros v include_stack
          ≡ after_bytes (take len (held_of (inner_buffer include_stack))) (include_stack_left limits rules unread macros v (with_inner (consumed_file len lines) (with_buffer (entered_mode (inner_buffer include_stack) next) include_stack)))
      unfolding include_stack_state file_state
      include_stack_text [] len lines next some ends text counted = absurd (none_held R some)
      include_stack_text (f ∷ outer) len lines next some ends text counted =
          let entered = with_file_buffer (entered_mode f.buffer next) f in
          moved_live f (consumed_file len lines entered) outer macros _
          (text_law rules unread (around f outer) (own_conditions f.conditions_below v) f (include_stack_state limits macros v (f ∷ outer)) len lines next
          (record { some = some; ends = ends }) text counted)
          (ends_mid_line_consumed unread entered len lines ∙ ap (ends_mid_line_after f.ends_mid_line) (text_entered unread f.buffer next)) refl refl

      -- a usage of what isn't defined
      pub include_stack_undefined : (include_stack : List (File R)) (len : ℕ) → 0 < length (held_of (inner_buffer include_stack)) → EndsHeld (inner_buffer include_stack)
          → (inner_buffer include_stack).mode ≡ Plain → IsUsage (held_of (inner_buffer include_stack)) len → macro_named macros (usage_name (held_of (inner_buffer include_stack)) len) ≡ None
          → include_stack_left limits rules unread macros v include_stack
          ≡ leaves (fails (fault_at fault.UndefinedMacro (inner_buffer include_stack).line (usage_name (held_of (inner_buffer include_stack)) len) (include_stack_state limits macros v include_stack))) (include_stack_state limits macros v include_stack)
      unfolding include_stack_left include_stack_state file_state
      include_stack_undefined [] len some ends plain usage none = absurd (none_held R some)
      include_stack_undefined (f ∷ outer) len some ends plain usage none =
          at_live f outer _ (undefined_left rules unread (around f outer) (own_conditions f.conditions_below v) f (include_stack_state limits macros v (f ∷ outer)) len
          (record { some = some; ends = ends }) plain usage none)

      -- what ends the output
      pub include_stack_refused : (include_stack : List (File R)) (kind : FaultKind) → 0 < length (held_of (inner_buffer include_stack)) → EndsHeld (inner_buffer include_stack)
          → IsRefused (inner_buffer include_stack).mode (held_of (inner_buffer include_stack)) kind
          → include_stack_left limits rules unread macros v include_stack ≡ leaves (fails (fault_at kind (inner_buffer include_stack).line [] (include_stack_state limits macros v include_stack))) (include_stack_state limits macros v include_stack)
      unfolding include_stack_left
      include_stack_refused [] kind some ends refused = absurd (none_held R some)
      include_stack_refused (f ∷ outer) kind some ends refused =
          at_live f outer _ (refused_left rules unread (around f outer) (own_conditions f.conditions_below v) f (include_stack_state limits macros v (f ∷ outer)) kind
          (record { some = some; ends = ends }) refused)

      module _ (has_known_texts : Type 0) (t : has_known_texts) where
        -- what remains of the innermost source at a `define`, by what its logical line does
        include_stack_define : (f : File R) (outer : List (File R)) (new : BufferView R) (len lines : ℕ) (d : Defined) → HoldsFront f.buffer → f.buffer.mode ≡ Plain → IsDirective Define (held_of f.buffer)
            → HoldsLine has_known_texts unread (line.Whole len) f.buffer new → lines ≡ line_ends (take len (held_of new)) → rules.define macros (drop 7 (take len (held_of new))) ≡ d
            → (let c : Command = record { word = Define; given = None; text = take len (held_of new); line = f.buffer.line; first = f.blanks } in
            let place = Live (own_conditions f.conditions_below v) in
            let s = include_stack_state limits macros v (f ∷ outer) in
            source_left rules unread (around f outer) place f s
            ≡ file_moves rules unread (around f outer) (define_move d c place s) f.buffer.line s (consumed_file len lines (with_file_buffer new f)))
        unfolding include_stack_state file_state move_of single_move
        include_stack_define f outer new len lines d h plain define holds counted is =
            let c : Command = record { word = Define; given = None; text = take len (held_of new); line = f.buffer.line; first = f.blanks } in
            let place = Live (own_conditions f.conditions_below v) in
            let s = include_stack_state limits macros v (f ∷ outer) in
            define_moves rules unread (around f outer) place f s has_known_texts new len lines holds t plain (holds_define unread f h define) counted
            ∙ ap (λ (x : Defined). file_moves rules unread (around f outer) (define_move x c place s) f.buffer.line s (consumed_file len lines (with_file_buffer new f))) is

        -- a `define` that is accepted
        pub include_stack_defined : (include_stack : List (File R)) (new : BufferView R) (len lines : ℕ) (now : List Macro) → 0 < length (held_of (inner_buffer include_stack)) → EndsHeld (inner_buffer include_stack)
            → (inner_buffer include_stack).mode ≡ Plain → IsDirective Define (held_of (inner_buffer include_stack)) → HoldsLine has_known_texts unread (line.Whole len) (inner_buffer include_stack) new
            → rules.define macros (drop 7 (take len (held_of new))) ≡ Accepted now → lines ≡ line_ends (take len (held_of new))
            → include_stack_left limits rules unread macros v include_stack
            ≡ after_bytes (line_ends_of (take len (held_of new))) (include_stack_left limits rules unread now v (with_inner (consumed_file len lines) (with_buffer new include_stack)))
        unfolding include_stack_state file_state source_left define_move moves_on
        include_stack_defined [] new len lines now some ends plain define holds accepted counted = absurd (none_held R some)
        include_stack_defined (f ∷ outer) new len lines now some ends plain define holds accepted counted =
            let held = with_file_buffer new f in
            moved_live f (consumed_file len lines held) outer now _ (include_stack_define f outer new len lines (Accepted now) (record { some = some; ends = ends }) plain define holds counted accepted)
            (ends_mid_line_consumed unread held len lines ∙ ap (ends_mid_line_after f.ends_mid_line) (holds.text (λ e. cc) t)) refl refl

        -- a `define` that is refused
        pub include_stack_refused_define : (include_stack : List (File R)) (new : BufferView R) (len : ℕ) (kind : FaultKind) (word : List ℕ) → 0 < length (held_of (inner_buffer include_stack)) → EndsHeld (inner_buffer include_stack)
            → (inner_buffer include_stack).mode ≡ Plain → IsDirective Define (held_of (inner_buffer include_stack)) → HoldsLine has_known_texts unread (line.Whole len) (inner_buffer include_stack) new
            → rules.define macros (drop 7 (take len (held_of new))) ≡ DefinitionFault kind word
            → include_stack_left limits rules unread macros v include_stack ≡ leaves (fails (fault_at kind (inner_buffer include_stack).line word (include_stack_state limits macros v include_stack))) (include_stack_state limits macros v include_stack)
        unfolding include_stack_left include_stack_state file_state define_move moves_on
        include_stack_refused_define [] new len kind word some ends plain define holds refused = absurd (none_held R some)
        include_stack_refused_define (f ∷ outer) new len kind word some ends plain define holds refused =
            at_live f outer _ (include_stack_define f outer new len _ (DefinitionFault kind word) (record { some = some; ends = ends }) plain define holds refl refused)

        -- a `define` that is too long
        pub include_stack_long_define : (include_stack : List (File R)) (new : BufferView R) → 0 < length (held_of (inner_buffer include_stack)) → EndsHeld (inner_buffer include_stack)
            → (inner_buffer include_stack).mode ≡ Plain → IsDirective Define (held_of (inner_buffer include_stack)) → HoldsLine has_known_texts unread line.TooLong (inner_buffer include_stack) new
            → include_stack_left limits rules unread macros v include_stack ≡ leaves (fails (fault_at fault.LineTooLong (inner_buffer include_stack).line [] (include_stack_state limits macros v include_stack))) (include_stack_state limits macros v include_stack)
        unfolding include_stack_left
        include_stack_long_define [] new some ends plain define holds = absurd (none_held R some)
        include_stack_long_define (f ∷ outer) new some ends plain define holds =
            let h : HoldsFront f.buffer = record { some = some; ends = ends } in
            at_live f outer _ (define_long_left rules unread (around f outer) (own_conditions f.conditions_below v) f (include_stack_state limits macros v (f ∷ outer)) has_known_texts new
            holds t plain (holds_define unread f h define))

        -- a `define` that its source's limit cuts
        pub include_stack_cut_define : (include_stack : List (File R)) (new : BufferView R) → 0 < length (held_of (inner_buffer include_stack)) → EndsHeld (inner_buffer include_stack)
            → (inner_buffer include_stack).mode ≡ Plain → IsDirective Define (held_of (inner_buffer include_stack)) → HoldsLine has_known_texts unread line.SourceLong (inner_buffer include_stack) new
            → include_stack_left limits rules unread macros v include_stack ≡ leaves (fails (fault_at fault.SourceTooLong (inner_buffer include_stack).line [] (include_stack_state limits macros v include_stack))) (include_stack_state limits macros v include_stack)
        unfolding include_stack_left
        include_stack_cut_define [] new some ends plain define holds = absurd (none_held R some)
        include_stack_cut_define (f ∷ outer) new some ends plain define holds =
            let h : HoldsFront f.buffer = record { some = some; ends = ends } in
            at_live f outer _ (define_cut_left rules unread (around f outer) (own_conditions f.conditions_below v) f (include_stack_state limits macros v (f ∷ outer)) has_known_texts new
            holds t plain (holds_define unread f h define))

    module _ (has_known_texts : Type 0) (t : has_known_texts) where
      -- bytes are held that weren't
      pub include_stack_filled : (include_stack : List (File R)) (new : BufferView R) → Fills has_known_texts unread fill.Held (inner_buffer include_stack) new
          → include_stack_left limits rules unread macros v include_stack ≡ include_stack_left limits rules unread macros v (with_buffer new include_stack)
      unfolding include_stack_state file_state after_bytes
      include_stack_filled [] new fills = refl
      include_stack_filled (f ∷ outer) new fills =
          moved f (with_file_buffer new f) outer macros []
          (sym (filled_left rules unread (around f outer) f (include_stack_state limits macros v (f ∷ outer)) has_known_texts (place_of f.conditions_below v) new fill.Held fills t (inl refl)))
          (ap (ends_mid_line_after f.ends_mid_line) (fills.text (λ e. cc) t)) refl refl

      -- a read failed where bytes were to be filled in
      pub include_stack_unfilled : (include_stack : List (File R)) (new : BufferView R) → Fills has_known_texts unread fill.Failed (inner_buffer include_stack) new
          → include_stack_left limits rules unread macros v include_stack ≡ include_stack_left limits rules unread macros v (with_buffer new include_stack)
      unfolding include_stack_state file_state after_bytes
      include_stack_unfilled [] new fills = refl
      include_stack_unfilled (f ∷ outer) new fills =
          moved f (with_file_buffer new f) outer macros []
          (sym (filled_left rules unread (around f outer) f (include_stack_state limits macros v (f ∷ outer)) has_known_texts (place_of f.conditions_below v) new fill.Failed fills t (inr refl)))
          (ap (ends_mid_line_after f.ends_mid_line) (fills.text (λ e. cc) t)) refl refl

      -- or where a logical line was to be taken in
      pub include_stack_unheld : (include_stack : List (File R)) (new : BufferView R) → HoldsLine has_known_texts unread line.Failed (inner_buffer include_stack) new
          → include_stack_left limits rules unread macros v include_stack ≡ include_stack_left limits rules unread macros v (with_buffer new include_stack)
      unfolding include_stack_state file_state after_bytes
      include_stack_unheld [] new holds = refl
      include_stack_unheld (f ∷ outer) new holds =
          moved f (with_file_buffer new f) outer macros []
          (sym (held_left rules unread (around f outer) f (include_stack_state limits macros v (f ∷ outer)) has_known_texts (place_of f.conditions_below v) new line.Failed holds t (inr refl)))
          (ap (ends_mid_line_after f.ends_mid_line) (holds.text (λ e. cc) t)) refl refl

      -- a line that is too long
      pub include_stack_long_line : (include_stack : List (File R)) (new : BufferView R) → 0 < length include_stack → Fills has_known_texts unread fill.LineLong (inner_buffer include_stack) new
          → include_stack_left limits rules unread macros v include_stack ≡ leaves (fails (fault_at fault.LineTooLong (inner_buffer include_stack).line [] (include_stack_state limits macros v include_stack))) (include_stack_state limits macros v include_stack)
      unfolding breach_kind
      include_stack_long_line include_stack new some fills = include_stack_broken include_stack breach.LineLong (inner_buffer include_stack).line some (fills.tokens t)

      -- a line with which the source is too long
      pub include_stack_long_source : (include_stack : List (File R)) (new : BufferView R) → 0 < length include_stack → Fills has_known_texts unread fill.SourceLong (inner_buffer include_stack) new
          → include_stack_left limits rules unread macros v include_stack ≡ leaves (fails (fault_at fault.SourceTooLong (inner_buffer include_stack).line [] (include_stack_state limits macros v include_stack))) (include_stack_state limits macros v include_stack)
      unfolding breach_kind
      include_stack_long_source include_stack new some fills = include_stack_broken include_stack breach.SourceLong (inner_buffer include_stack).line some (fills.tokens t)

      -- a string or a comment that isn't closed where the text ends
      pub include_stack_open : (include_stack : List (File R)) (new : BufferView R) (b : Breach) → 0 < length include_stack → Fills has_known_texts unread fill.End (inner_buffer include_stack) new
          → ended_tokens (inner_buffer include_stack).mode (inner_buffer include_stack).open_token_line ≡ only_broken b (inner_buffer include_stack).open_token_line
          → include_stack_left limits rules unread macros v include_stack ≡ leaves (fails (fault_at (breach_kind b) (inner_buffer include_stack).open_token_line [] (include_stack_state limits macros v include_stack))) (include_stack_state limits macros v include_stack)
      include_stack_open include_stack new b some fills tokens = include_stack_broken include_stack b (inner_buffer include_stack).open_token_line some (fills.tokens t ∙ tokens)

      -- the end of the only open source, in which no conditional is open
      pub include_stack_ended : (include_stack : List (File R)) (new : BufferView R) → 0 < length include_stack → length include_stack ≤ 1 → length v.open_now ≡ inner_below include_stack → Fills has_known_texts unread fill.End (inner_buffer include_stack) new → (inner_buffer include_stack).mode ≡ Plain
          → include_stack_left limits rules unread macros v include_stack ≡ leaves (gives []) (include_stack_state limits macros v include_stack)
      unfolding include_stack_left waiting_around unwound
      include_stack_ended [] new some alone none fills plain = absurd (omega arith)
      include_stack_ended (f ∷ []) new some alone none fills plain =
          ap (λ (place : Place). source_left rules unread [] place f (include_stack_state limits macros v (f ∷ []))) (place_outside f.conditions_below v none)
          ∙ ended_left rules unread [] f (include_stack_state limits macros v (f ∷ [])) has_known_texts new fills t plain
      include_stack_ended (f ∷ g ∷ outer) new some alone none fills plain = absurd (omega arith)

-- a fault at the line of the next byte
abbrev pub Faults : {R : Type 0} → Limits → Rules → (R → List ℕ) → List Macro → ConditionsView → List (File R) → FaultKind → List ℕ → Type 0
Faults limits rules unread macros v include_stack kind word =
    include_stack_left limits rules unread macros v include_stack ≡ leaves (fails (fault_at kind (inner_buffer include_stack).line word (include_stack_state limits macros v include_stack))) (include_stack_state limits macros v include_stack)

-- what remains at the place where the innermost source stands
pub fails_include_stack : {R : Type 0} (limits : Limits) (rules : Rules) (unread : R → List ℕ) (macros : List Macro) (outer : List (File R)) (v : ConditionsView) (f : File R) (place : Place) (p : Passage)
    → place_of f.conditions_below v ≡ place
    → source_left rules unread (around limits rules unread macros v f outer) place f (include_stack_state limits macros v (f ∷ outer)) ≡ p
    → include_stack_left limits rules unread macros v (f ∷ outer) ≡ p
unfolding include_stack_left
fails_include_stack limits rules unread macros outer v f place p is law =
    ap (λ (x : Place). source_left rules unread (around limits rules unread macros v f outer) x f (include_stack_state limits macros v (f ∷ outer))) is ∙ law

-- bytes of plain text are held of the innermost source
pub record IsPlainFront {R : Type 0} (include_stack : List (File R)) : Type 0 where
  pub some : 0 < length (held_of (inner_buffer include_stack))
  pub ends : EndsHeld (inner_buffer include_stack)
  pub plain : (inner_buffer include_stack).mode ≡ Plain
