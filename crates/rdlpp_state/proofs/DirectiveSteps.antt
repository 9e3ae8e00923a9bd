-- `undef`, the directives of conditionals and skipped text, as steps of the engine.
use Rattle.std.proofs.Common.{◌≡◌, ℕ, zero, suc, ◌-◌, ◌≤◌, ◌<◌, Bool, true, false, List, [], length, Option, None, Some, Ok, Result, Err, refl, sym, ap, subst, ◌∙◌, arith, ◌+◌, ◌^◌, ◌∷◌, take, replicate, is_some, option_map, unwrap_or, IfSome, length-take-le}
use Rattle.rdlpp_scan.specs.Reserved.{directive_word}
use Rattle.rdlpp_scan.specs.SourceTokens.{line_ends, line_len}
use Rattle.rdlpp_scan.specs.Tokens.{token_of}
use Rattle.rdlpp_scan.specs.declared.token.Directive.{Directive}
use Rattle.rdlpp_scan.specs.declared.token.Directive.TheVariants.{Define, Else, Elsif, Endif, Include, Line, Undef}
use Rattle.rdlpp_scan.specs.declared.token.Kind.TheVariants.{Perl}
use Rattle.rdlpp_scan.specs.declared.token.Mode.{Mode}
use Rattle.rdlpp_scan.specs.declared.token.Mode.TheVariants.{Plain}
use Rattle.rdlpp_define.specs.Macros.{Macro}
use Rattle.rdlpp_define.specs.Table.{macro_named, without}
use Rattle.rdlpp_define.specs.declared.limits.Limits.{Limits}
use Rattle.rdlpp_meaning.specs.Moves.{Move, Moves, Passes, Stops, branching_move, by_move, closing_move, in_branch, move_of, opening_move, single_move, skipped_move, turning_move, undef_move}
use Rattle.rdlpp_meaning.specs.Meaning.{Checked, begun, in_conditional, opening, past_conditional, turn, turned, NameFault, Fine, Holds, Progress, TestFault, Test, after_bytes, is_defined, is_else, leaves, macro_name, name_test, opening_within, wants_defined}
use Rattle.rdlpp_meaning.specs.Outcome.{fails}
use Rattle.rdlpp_meaning.specs.Parts.{Command, line_ends_of}
use Rattle.rdlpp_meaning.specs.Resumed.{Live, Place, Skipped}
use Rattle.rdlpp_meaning.specs.State.{Rules, State, fault_at}
use Rattle.rdlpp_meaning.specs.declared.fault.FaultKind.{FaultKind}
use Rattle.rdlpp_meaning.specs.declared.fault.FaultKind.TheVariants as fault
use Rattle.rdlpp_meaning.proofs.Directives.{branches_conditional, opens_conditional, wants_name}
use Rattle.rdlpp_meaning.proofs.Skipping.{has_own_token, line_ends_of-owed}
use Rattle.rdlpp_source.specs.declared.sources.Sources.{Ghosts}
use Rattle.rdlpp_read.specs.Conditions.{ConditionsView, conditions_left, own_conditions, place_of}
use Rattle.rdlpp_read.specs.ConditionMoves.{Closes, HasTest, IsBranch, Opens, closed_one, opened_with, turned_with, with_count}
use Rattle.rdlpp_read.specs.declared.conditions.Branch.{Branch}
use Rattle.rdlpp_read.specs.declared.conditions.Branch.TheVariants.{Decided, Inner, Named, Refused}
use Rattle.rdlpp_read.specs.Buffer.{entered_mode, held_of, unused_of}
use Rattle.rdlpp_read.specs.Files.{FilesView, consumed_file, inner_buffer, with_buffer, with_inner}
use Rattle.rdlpp_read.specs.LogicalLines.{HoldsLine, IsExactLine}
use Rattle.rdlpp_front.specs.SkippedText.{IsPassed, counts}
use Rattle.rdlpp_read.specs.declared.buffer.extending.LogicalLine.TheVariants as line
use Rattle.rdlpp_read.specs.declared.files.File.{File}
use Rattle.rdlpp_read.proofs.Growing.{line_ends_le}
use Rattle.rdlpp_read.proofs.BufferTokens.{slides-told}
use Rattle.rdlpp_front.specs.SourceItems.{AtBare, AtPerl, IsDirective, IsGivenString, IsNamed, IsRefused, IsText, given_by, given_len, given_name}
use Rattle.rdlpp_front.specs.declared.arguments.Argument.{Argument}
use Rattle.rdlpp_front.proofs.DirectivesLeft.{end_bare, opening_wants}
use Rattle.rdlpp_front.proofs.TextLeft.{line_inside}
use Rattle.rdlpp_front.proofs.Insides.{held_entered, name_inside, text_inside, usage_inside}
use Rattle.rdlpp_front.proofs.NamedDirectives.{Bare, Begins, begins_token, begins_word, wants_word, named_begins, stands_bare, undef_wants, word_within}
use Rattle.rdlpp_state.specs.Calls.{SourcesCalled}
use Rattle.rdlpp_state.specs.Conditionals.{AnyUsage, DoesByTest, IsGivenBranch, IsSkippedWord, LoneBackquote, OpensOne, PassedWord, goes_past, opening_word, passes_over, test_of}
use Rattle.rdlpp_state.specs.Engine.{EngineView}
use Rattle.rdlpp_state.specs.Held.{IsBounded}
use Rattle.rdlpp_state.specs.Moves.{IsReady, LooksAtName}
use Rattle.rdlpp_state.specs.OpenConditionals.{AreConditions, inner_below, inner_shown}
use Rattle.rdlpp_state.specs.Pending.{PendingView, line_ends_pending, nothing_pending, pending_bytes}
use Rattle.rdlpp_state.specs.Pieces.{halted_answer, silent_answer}
use Rattle.rdlpp_state.specs.Positions.{Unmarked}
use Rattle.rdlpp_state.specs.Remaining.{file_state, inner_name, include_stack_state, run_rules, state_of}
use Rattle.rdlpp_state.specs.Standing.{InSources, Nowhere}
use Rattle.rdlpp_state.specs.Steps.{IsOwn, UncutStep}
use Rattle.rdlpp_state.specs.declared.place.Halt.{Halt}
use Rattle.rdlpp_state.specs.declared.place.Halt.TheVariants.{Fault}
use Rattle.rdlpp_state.proofs.StackMoves.{Lands, branched, front_command, lands_counted, opened_at, passing_moves, lands_closed, lands_opened, lands_turned, used_state}
use Rattle.rdlpp_state.proofs.DirectiveMoves.{Does, directive_steps, does_step, move_here, unnamed_steps}
use Rattle.rdlpp_state.proofs.IncludeStackLeft.{IsPlainFront, live_place, place_inside, place_outside, place_skipped}
use Rattle.rdlpp_state.proofs.IncludeSteps.{include_stack_macros}
use Rattle.rdlpp_state.proofs.EngineSteps.{not_called}
use Rattle.rdlpp_state.proofs.FrontSteps.{IsRead, held_few, left_by, lends_piece, lines_few, pending_lines}
use Rattle.rdlpp_state.proofs.Stores.{KeepsParts, own_kind, parts_mode, parts_on, parts_slid, parts_used}
use Rattle.rdlpp_state.proofs.Soundness.{EndsInner, EndsNone, EndsOne, EndsOwn, Meets, MeetsInner, MeetsNone, MeetsOwn, OwnTurn, conditions_count, ends_one, inner_facts, inner_most, meets, own_turn, with_inner-length}
use Rattle.rdlpp_state.proofs.SkippedStacks.{IsHeldFront, bare_ends, cut_at, directive_ends, long_at, passes_define, passes_line, passes_part, passes_stretch, passes_word, perl_at, usage_ends}
use Rattle.rdlpp_state.proofs.WorkFacts.{IsUsed, entered_unused, used_after, used_bytes}

-- what is held in front of an engine that goes on
pub plain_front : {S R : Type 0} (e : EngineView S R) → IsReady e → 0 < length (held_of (inner_buffer e.files.include_stack)) → (inner_buffer e.files.include_stack).mode ≡ Plain → IsPlainFront e.files.include_stack
plain_front e ready some plain = record { some = some; ends = (inner_facts e.files ready.include_stack ready.files).ends; plain = plain }

-- what a branch meets in the innermost source
pub meets_here : {S R : Type 0} (d : Directive) (branch : Branch) (e : EngineView S R) → IsReady e → (below : ℕ) → below ≡ inner_below e.files.include_stack → IsBranch (place_of below e.conditions) d branch
    → Meets d branch (inner_below e.files.include_stack) e.conditions
meets_here d branch e ready below same h =
    meets d branch (inner_below e.files.include_stack) e.conditions (inner_most e.limits e.conditions e.files.include_stack ready.sound.conditions_of)
    (subst (λ (n : ℕ). IsBranch (place_of n e.conditions) d branch) same h)

-- and an end
pub ends_here : {S R A : Type 0} (result : Result A FaultKind) (e : EngineView S R) (v : ConditionsView) → IsReady e → (below : ℕ) → below ≡ inner_below e.files.include_stack → Closes (place_of below e.conditions) result e.conditions v
    → EndsOne result e.conditions v (inner_below e.files.include_stack)
ends_here {S} {R} {A} result e v ready below same h =
    ends_one result e.conditions v (inner_below e.files.include_stack) (inner_most e.limits e.conditions e.files.include_stack ready.sound.conditions_of)
    (subst (λ (n : ℕ). Closes {A = A} (place_of n e.conditions) result e.conditions v) same h)

-- where the branch is decided, or its name decides
pub own_here : {S R : Type 0} (d : Directive) (branch : Branch) (e : EngineView S R) → IsReady e → (below : ℕ) → below ≡ inner_below e.files.include_stack → IsBranch (place_of below e.conditions) d branch
    → (branch ≡ Refused fault.StrayBranch → ⊥) → (branch ≡ Inner → ⊥) → OwnTurn d branch (inner_below e.files.include_stack) e.conditions
own_here d branch e ready below same h stray inner = own_turn d branch (inner_below e.files.include_stack) e.conditions (meets_here d branch e ready below same h) stray inner

-- a branch with what it is given
given_branches : (d : Directive) (held : List ℕ) (a : Option Argument) → IsGivenBranch d held a → branches_conditional d ≡ true
unfolding branches_conditional
given_branches Elsif held a given = refl
given_branches Else held a given = refl
given_branches d held a given = absurd given

pub given_begins : (d : Directive) (held : List ℕ) (a : Option Argument) → IsGivenBranch d held a → Begins d held (given_by held a) (given_len d a)
unfolding wants_name stands_bare
given_begins Elsif held a given = named_begins Elsif held a refl given
given_begins Else held None given = Bare refl given.1
given_begins Else held (Some a) given = absurd (cc (given.0))
given_begins d held a given = absurd given

-- a branch has no more bytes than are held, with what it is given and without
pub branch_within : (d : Directive) (held : List ℕ) (a : Option Argument) → IsGivenBranch d held a → 0 < length held → (given_len d None ≤ length held) × (given_len d a ≤ length held)
branch_within Elsif held None given some = let own = (word_within Elsif held given.word some).1 in (own, own)
branch_within Elsif held (Some a) given some = ((word_within Elsif held given.word some).1, (name_inside Elsif held a.start a.stop given).2)
branch_within Else held None given some = let own = (word_within Else held given.1 some).1 in (own, own)
branch_within Else held (Some a) given some = absurd (let none : Some a ≡ None = given.0 in cc)
branch_within d held a given some = absurd given

-- only an `elsif` is decided by its name
pub given_named : (d : Directive) (held : List ℕ) (a : Option Argument) → IsGivenBranch d held a → is_else d ≡ false → IsNamed d held a
unfolding is_else
given_named Elsif held a given other = given
given_named Else held a given other = cc
given_named d held a given other = absurd given

-- whether a macro was found
pub found_by : (f : ℕ → Macro) (x : Option Macro) (id : Option ℕ) → x ≡ option_map f id → is_some id ≡ is_some x
found_by f x None e = ap is_some (sym e)
found_by f x (Some n) e = ap is_some (sym e)

-- a conditional was opened
pub opened_by : {S R A : Type 0} (x : A) (holds : Bool) (len line : ℕ) (old new : EngineView S R) (v : ConditionsView) → Opens {A = A} (Ok x) line holds old.conditions v
    → new ≡ goes_past v len old → line ≡ inner_shown old.files.include_stack → OpensOne holds len old new None
opened_by x holds len line old new v opens becomes shown =
    subst (λ (t : Test). DoesByTest t (λ live. opened_with (inner_shown old.files.include_stack) live old.conditions) len old new None) (sym opens.test)
    (refl, becomes ∙ ap (λ (w : ConditionsView). goes_past w len old) (opens.becomes ∙ ap (λ (n : ℕ). opened_with n holds old.conditions) shown))

-- too many are open
pub unopened_by : {S R A : Type 0} (kind : FaultKind) (holds : Bool) (len line : ℕ) (old new : EngineView S R) (v : ConditionsView) (place : Halt) → Opens {A = A} (Err kind) line holds old.conditions v
    → place ≡ Fault → new ≡ record (record old { conditions = v }) { kept = Some (fault_at kind (inner_buffer old.files.include_stack).line [] (state_of (record old { conditions = v }))) }
    → OpensOne holds len old new (Some place)
unopened_by {S} {R} kind holds len line old new v place opens is becomes =
    let keeps : ConditionsView → EngineView S R = λ w. record (record old { conditions = w }) { kept = Some (fault_at kind (inner_buffer old.files.include_stack).line [] (state_of (record old { conditions = w }))) } in
    subst (λ (t : Test). DoesByTest t (λ live. opened_with (inner_shown old.files.include_stack) live old.conditions) len old new (Some place)) (sym opens.test)
    (ap Some is, becomes ∙ ap keeps opens.becomes)

-- the fault of a test is the text's own
abbrev IsOwnTest : Test → Type 0
IsOwnTest (TestFault kind word) = IsOwn kind
IsOwnTest (Holds live) = Unit {0}

opening_own : (k : ℕ) (holds : Bool) → IsOwnTest (opening_within k (Holds holds))
unfolding opening_within
opening_own zero holds = own_kind _ refl
opening_own (suc k) holds = tt

-- the test of the word that opens a conditional
pub opening_opens : (defined : Bool) → opens_conditional (opening_word defined) ≡ true
unfolding opens_conditional
opening_opens true = refl
opening_opens false = refl

opening_test : (defined : Bool) (name : List ℕ) (s : State) → name_test (wants_defined (opening_word defined)) (Fine name) s ≡ Holds (test_of defined (is_some (macro_named s.macros name)))
unfolding name_test wants_defined is_defined
opening_test true name s = refl
opening_test false name s = refl

-- a test that is done is what is come to by it
pub does_test : {S R : Type 0} (g : Ghosts S R) (old new : EngineView S R) (x : Test) (len : ℕ) (result : Option Halt) (next : Bool → ConditionsView) (place : Bool → Place) (t : State) → IsOwnTest x
    → ((b : Bool) → Lands old.limits old.conditions (next b) old.table.macros old.files.include_stack (with_inner (consumed_file len 0) old.files.include_stack) (place b) t)
    → DoesByTest x next len old new result → Does g len old old new result (by_move x (λ b. Moves [] (place b) t))
unfolding by_move goes_past
does_test g old new (TestFault kind word) len result next place t own lands does = (does.0, does.1, own)
does_test g old new (Holds b) len result next place t own lands does =
    record { none = refl; done = does.0; macros = old.table.macros; conditions = next b; lands = lands b; becomes = does.1 }

-- what the word of a conditional comes to
opening_by : (rules : Rules) (defined : Bool) (given : Option (List ℕ)) (text : List ℕ) (line : ℕ) (first : Bool) (os : List Progress) (s : State)
    → let c : Command = record { word = opening_word defined; given = given; text = text; line = line; first = first } in
    move_of rules c (Live os) s
    ≡ by_move (opening_within s.conditions_left (name_test (wants_defined (opening_word defined)) (given_name given) s)) (λ t. Moves [] (in_branch t (opened_at s line t) os) (in_conditional s))
unfolding move_of opening_move opening begun macro_name given_name
opening_by rules true given text line first os s = refl
opening_by rules false given text line first os s = refl

turning_by : (rules : Rules) (d : Directive) (given : Option (List ℕ)) (text : List ℕ) (line : ℕ) (first : Bool) (live : Bool) (o : Progress) (os : List Progress) (s : State) → branches_conditional d ≡ true
    → let c : Command = record { word = d; given = given; text = text; line = line; first = first } in
    move_of rules c (in_branch live o os) s ≡ by_move (turn o c s) (λ t. Moves [] (in_branch t (branched o t (is_else d)) os) s)
unfolding move_of branching_move turning_move turned in_branch branches_conditional
turning_by rules Elsif given text line first true o os s b = refl
turning_by rules Elsif given text line first false o os s b = refl
turning_by rules Else given text line first true o os s b = refl
turning_by rules Else given text line first false o os s b = refl
turning_by rules d given text line first live o os s b = cc

-- or where no conditional of its source is open
stray_by : (rules : Rules) (d : Directive) (given : Option (List ℕ)) (text : List ℕ) (line : ℕ) (first : Bool) (s : State) → branches_conditional d ≡ true
    → move_of rules (record { word = d; given = given; text = text; line = line; first = first }) (Live []) s ≡ Stops fault.StrayBranch []
unfolding move_of branching_move branches_conditional
stray_by rules Elsif given text line first s e = refl
stray_by rules Else given text line first s e = refl
stray_by rules d given text line first s e = cc

-- or in skipped text that it leaves skipped
opening_passes : (rules : Rules) (defined : Bool) (n : ℕ) (o : Progress) (os : List Progress) → Passes rules (opening_word defined) n (suc n) o os
unfolding move_of opening_move
opening_passes rules true n o os = λ given text line first s. refl
opening_passes rules false n o os = λ given text line first s. refl

branching_passes : (rules : Rules) (d : Directive) (n : ℕ) (o : Progress) (os : List Progress) → branches_conditional d ≡ true → Passes rules d (suc n) (suc n) o os
unfolding move_of branching_move branches_conditional
branching_passes rules Elsif n o os e = λ given text line first s. refl
branching_passes rules Else n o os e = λ given text line first s. refl
branching_passes rules d n o os e = cc

-- what an `endif` comes to in a branch
closing_by : (rules : Rules) (given : Option (List ℕ)) (text : List ℕ) (line : ℕ) (first : Bool) (live : Bool) (o : Progress) (os : List Progress) (s : State)
    → move_of rules (record { word = Endif; given = given; text = text; line = line; first = first }) (in_branch live o os) s ≡ Moves [] (Live os) (past_conditional s)
unfolding move_of closing_move in_branch
closing_by rules given text line first true o os s = refl
closing_by rules given text line first false o os s = refl

closing_inner : (rules : Rules) (given : Option (List ℕ)) (text : List ℕ) (line : ℕ) (first : Bool) (n : ℕ) (o : Progress) (os : List Progress) (s : State)
    → move_of rules (record { word = Endif; given = given; text = text; line = line; first = first }) (Skipped (suc n) o os) s ≡ Moves (line_ends_of text) (Skipped n o os) s
unfolding move_of closing_move skipped_move
closing_inner rules given text line first n o os s = refl

-- how many more conditionals may be opened where a source is open
state_left : {R : Type 0} (limits : Limits) (macros : List Macro) (v : ConditionsView) (include_stack : List (File R)) → 0 < length include_stack
    → (include_stack_state limits macros v include_stack).conditions_left ≡ limits.conditions - length v.open_now
unfolding include_stack_state file_state
state_left limits macros v [] some = absurd (omega arith)
state_left limits macros v (f ∷ outer) some = refl

module _ {S R : Type 0} (g : Ghosts S R) (old new : EngineView S R) (ready : IsReady old) (bounded : IsBounded new) (some : 0 < length (held_of (inner_buffer old.files.include_stack)))
    (plain : (inner_buffer old.files.include_stack).mode ≡ Plain) where
  abbrev held : List ℕ
  held = held_of (inner_buffer old.files.include_stack)

  -- the name of a macro that is given there, or its fault
  abbrev name_of : Option Argument → Checked
  name_of a = given_name (given_by held a)

  -- the state that the meaning goes on from, and the place where the innermost source stands
  abbrev here : State
  here = include_stack_state old.limits old.table.macros old.conditions old.files.include_stack

  abbrev own : List Progress
  own = own_conditions (inner_below old.files.include_stack) old.conditions

  -- what a directive comes to there
  abbrev comes_to : Directive → Option (List ℕ) → ℕ → Place → Move
  comes_to d given len place = move_of (run_rules g old) (front_command old.limits (run_rules g old) g.unread old.table.macros old.conditions d given len old.files.include_stack) place here

  placed : (d : Directive) (given : Option (List ℕ)) (len : ℕ) (place : Place) → place_of (inner_below old.files.include_stack) old.conditions ≡ place
      → move_here g old new ready bounded some plain d given len ≡ comes_to d given len place
  placed d given len place is = ap (comes_to d given len) is

  -- an engine that does what a directive comes to there
  steps : (d : Directive) (given : Option (List ℕ)) (len : ℕ) (result : Option Halt) (place : Place) (m : Move) → Begins d held given len → place_of (inner_below old.files.include_stack) old.conditions ≡ place
      → comes_to d given len place ≡ m → Does g len old old new result m → UncutStep g old new (silent_answer new result)
  steps d given len result place m begins is comes does =
      directive_steps g old new ready bounded some plain d given len result begins (subst (Does g len old old new result) (sym (placed d given len place is ∙ comes)) does)

  -- no more conditionals are open around the innermost source than are open
  most : inner_below old.files.include_stack ≤ length old.conditions.open_now
  most = inner_most old.limits old.conditions old.files.include_stack ready.sound.conditions_of

  -- how many more may be opened
  here_left : here.conditions_left ≡ old.limits.conditions - length old.conditions.open_now
  here_left = state_left old.limits old.table.macros old.conditions old.files.include_stack ready.include_stack

  -- the word of one that leaves skipped text skipped is used
  pub directive_word_steps : (d : Directive) (n m : ℕ) (o : Progress) (os : List Progress) → old.conditions.open_now ≡ o ∷ os → inner_below old.files.include_stack ≤ length os → old.conditions.skipped ≡ Some n
      → has_own_token d ≡ false → Passes (run_rules g old) d n m o (take (length os - inner_below old.files.include_stack) os) → IsDirective d held
      → new ≡ goes_past (with_count m old.conditions) (length (directive_word d)) old → UncutStep g old new (silent_answer new None)
  unfolding goes_past
  directive_word_steps d n m o os is_open below skips word passes is becomes =
      does_step g old old new ready bounded refl (not_called g old.sources) (length (directive_word d)) None (Moves [] (Skipped m o (take (length os - inner_below old.files.include_stack) os)) here) (word_within d held is some)
      (λ t. passing_moves old.limits (run_rules g old) g.unread old.table.macros old.conditions old.files.include_stack d n m o _ (plain_front old ready some plain) word passes
      (place_skipped (inner_below old.files.include_stack) old.conditions n o os is_open below skips) is)
      (record {
        none = refl;
        done = refl;
        macros = old.table.macros;
        conditions = with_count m old.conditions;
        lands = lands_counted old.limits old.table.macros old.conditions (length (directive_word d)) o os is_open old.files.include_stack m below;
        becomes = becomes;
      })

  module _ (live : old.conditions.skipped ≡ None) where
    lives : place_of (inner_below old.files.include_stack) old.conditions ≡ Live own
    lives = live_place (inner_below old.files.include_stack) old.conditions live

    undef_here : (given : Option (List ℕ)) (len : ℕ) (name : Checked) → given_name given ≡ name → comes_to Undef given len (Live own) ≡ undef_move name (Live own) here
    unfolding move_of single_move macro_name given_name
    undef_here given len name is = ap (λ (n : Checked). undef_move n (Live own) here) is

    -- an `undef` whose name is refused
    pub undef_unnamed : (a : Option Argument) (place : Halt) → IsNamed Undef held a → LooksAtName a old new (Err place) → UncutStep g old new (halted_answer new place)
    unfolding undef_move
    undef_unnamed a place named looks =
        unnamed_steps g old new ready bounded some plain Undef a place undef_wants named looks
        (λ kind word faulty. placed Undef _ _ (Live own) lives ∙ undef_here _ _ (NameFault kind word) faulty)

    -- a macro is taken out
    pub undef_named : (a : Argument) (name : List ℕ) → IsNamed Undef held (Some a) → name_of (Some a) ≡ Fine name
        → new ≡ record old { table = record old.table { macros = without name old.table.macros }; files = record old.files { include_stack = with_inner (consumed_file a.stop 0) old.files.include_stack } }
        → UncutStep g old new (silent_answer new None)
    unfolding undef_move
    undef_named a name named fine becomes =
        let macros = include_stack_macros old.limits old.table.macros old.conditions old.files.include_stack in
        steps Undef _ a.stop None (Live own) _ (named_begins Undef held (Some a) undef_wants named) lives (undef_here _ _ (Fine name) fine)
        (record {
          none = refl;
          done = refl;
          macros = without name old.table.macros;
          conditions = old.conditions;
          lands = record {
            stands = lives;
            state = ap (λ (ms : List Macro). record here { macros = without name ms }) macros
                ∙ used_state old.limits old.table.macros (without name old.table.macros) old.conditions old.files.include_stack a.stop;
            outer = refl;
          };
          becomes = becomes;
        })

    -- what an `ifdef` or `ifndef` comes to
    opening_here : (defined : Bool) (given : Option (List ℕ)) (len : ℕ) (name : Checked) → given_name given ≡ name
        → comes_to (opening_word defined) given len (Live own)
        ≡ by_move (opening_within here.conditions_left (name_test (wants_defined (opening_word defined)) name here)) (λ t. Moves [] (in_branch t (opened_at here (inner_buffer old.files.include_stack).line t) own) (in_conditional here))
    opening_here defined given len name is =
        opening_by (run_rules g old) defined given _ _ _ own here
        ∙ ap (λ (n : Checked). by_move (opening_within here.conditions_left (name_test (wants_defined (opening_word defined)) n here)) (λ t. Moves [] (in_branch t (opened_at here (inner_buffer old.files.include_stack).line t) own) (in_conditional here))) is

    -- a conditional opens, or is refused
    module _ (defined : Bool) (a : Option Argument) (named : IsNamed (opening_word defined) held a) where
      wants : wants_name (opening_word defined) ≡ true
      wants = opening_wants (opening_word defined) (opening_opens defined)

      pub opening_unnamed : (place : Halt) → LooksAtName a old new (Err place) → UncutStep g old new (halted_answer new place)
      unfolding by_move opening_within name_test
      opening_unnamed place looks =
          unnamed_steps g old new ready bounded some plain (opening_word defined) a place wants named looks
          (λ kind word faulty. placed (opening_word defined) _ _ (Live own) lives ∙ opening_here defined _ _ (NameFault kind word) faulty)

      pub opening_named : (name : List ℕ) (result : Option Halt) → name_of a ≡ Fine name
          → OpensOne (test_of defined (is_some (macro_named old.table.macros name))) (given_len (opening_word defined) a) old new result → UncutStep g old new (silent_answer new result)
      unfolding conditions_left
      opening_named name result fine opens =
          let holds : Test = Holds (test_of defined (is_some (macro_named old.table.macros name))) in
          let next : Bool → Move = λ t. Moves [] (in_branch t (opened_at here (inner_buffer old.files.include_stack).line t) own) (in_conditional here) in
          let macros = include_stack_macros old.limits old.table.macros old.conditions old.files.include_stack in
          let test : opening_within here.conditions_left (name_test (wants_defined (opening_word defined)) (Fine name) here) ≡ opening_within (conditions_left old.conditions) holds =
          ap (opening_within here.conditions_left) (opening_test defined name here ∙ ap (λ (ms : List Macro). Holds (test_of defined (is_some (macro_named ms name)))) macros)
          ∙ ap (λ (n : ℕ). opening_within n holds) (here_left ∙ ap (λ (n : ℕ). n - length old.conditions.open_now) (sym ready.sound.conditions_of.limit)) in
          steps (opening_word defined) _ _ result (Live own) _ (named_begins (opening_word defined) held a wants named) lives (opening_here defined _ _ (Fine name) fine ∙ ap (λ (x : Test). by_move x next) test)
          (does_test g old new _ _ result _ (λ t. in_branch t (opened_at here (inner_buffer old.files.include_stack).line t) own) (in_conditional here) (opening_own (conditions_left old.conditions) _)
          (λ t. lands_opened old.limits old.table.macros old.conditions (given_len (opening_word defined) a) old.files.include_stack t ready.include_stack most) opens)

  -- a branch of the innermost conditional comes to its test, by the name that it is given
  module _ (d : Directive) (a : Option Argument) (given : IsGivenBranch d held a) where
    branch_begins : Begins d held (given_by held a) (given_len d a)
    branch_begins = given_begins d held a given

    branch_word : IsDirective d held
    branch_word = begins_word d held _ _ branch_begins

    -- of a conditional that opened in skipped text, it is used
    pub inner_steps : Meets d Inner (inner_below old.files.include_stack) old.conditions → new ≡ goes_past old.conditions (length (directive_word d)) old → UncutStep g old new (silent_answer new None)
    inner_steps (MeetsNone alone wrong) becomes = absurd (cc)
    inner_steps (MeetsOwn own) becomes = absurd own.turns
    inner_steps (MeetsInner n o os is_open below skips same) becomes =
        directive_word_steps d (suc n) (suc n) o os is_open below skips (begins_token d held _ _ branch_begins) (branching_passes (run_rules g old) d n o _ (given_branches d held a given)) branch_word
        (becomes ∙ ap (λ (k : Option ℕ). goes_past (record old.conditions { skipped = k }) (length (directive_word d)) old) skips)

    -- of the innermost conditional, it goes by its test
    turn_steps : (branch : Branch) (own : OwnTurn d branch (inner_below old.files.include_stack) old.conditions) (test : Command → State → Test) → HasTest own.conditional d test
        → (result : Option Halt) (x : Test) → ((c : Command) → c.given ≡ given_by held a → test c here ≡ x) → IsOwnTest x
        → DoesByTest x (λ t. turned_with d t old.conditions) (given_len d a) old new result → UncutStep g old new (silent_answer new result)
    turn_steps branch own test turns result x is owns does =
        let around = take (length own.around - inner_below old.files.include_stack) own.around in
        let next : Bool → Place = λ t. in_branch t (branched own.conditional t (is_else d)) around in
        steps d _ _ result (in_branch own.live own.conditional around) _ branch_begins
        (place_inside (inner_below old.files.include_stack) old.conditions own.live own.conditional own.around own.is_open own.within own.skips)
        (turning_by (run_rules g old) d (given_by held a) _ _ _ own.live own.conditional around here (given_branches d held a given) ∙ ap (λ (y : Test). by_move y (λ t. Moves [] (next t) here)) (turns _ here refl ∙ is _ refl))
        (does_test g old new x _ result _ next here owns
        (λ t. lands_turned old.limits old.table.macros old.conditions (given_len d a) own.conditional own.around own.is_open old.files.include_stack d t ready.include_stack own.within) does)

    -- it is refused
    pub refused_steps : (place : Halt) (kind : FaultKind) → Meets d (Refused kind) (inner_below old.files.include_stack) old.conditions → place ≡ Fault
        → new ≡ record old { kept = Some (fault_at kind (inner_buffer old.files.include_stack).line [] (state_of old)) } → UncutStep g old new (halted_answer new place)
    refused_steps place kind (MeetsNone alone same) is becomes =
        steps d _ _ (Some place) (Live []) _ branch_begins (place_outside (inner_below old.files.include_stack) old.conditions alone) (stray_by (run_rules g old) d _ _ _ _ here (given_branches d held a given))
        (ap Some is, becomes ∙ ap (λ (k : FaultKind). record old { kept = Some (fault_at k (inner_buffer old.files.include_stack).line [] (state_of old)) }) (cc), own_kind _ refl)
    refused_steps place kind (MeetsOwn own) is becomes =
        turn_steps (Refused kind) own _ own.turns.1 (Some place) (TestFault kind []) (λ c e. refl) (subst IsOwn (sym own.turns.0) (own_kind fault.BranchAfterElse refl)) (ap Some is, becomes)
    refused_steps place kind (MeetsInner n o os is_open below skips wrong) is becomes = absurd (cc)

    -- it is decided
    pub decided_steps : (t : Bool) → OwnTurn d (Decided t) (inner_below old.files.include_stack) old.conditions → new ≡ goes_past (turned_with d t old.conditions) (given_len d a) old → UncutStep g old new (silent_answer new None)
    decided_steps t own becomes = turn_steps (Decided t) own _ own.turns None (Holds t) (λ c e. refl) tt (refl, becomes)

    -- its name decides
    module _ (own : OwnTurn d Named (inner_below old.files.include_stack) old.conditions) where
      pub turn_unnamed : (place : Halt) → LooksAtName a old new (Err place) → UncutStep g old new (halted_answer new place)
      unfolding name_test macro_name given_name
      turn_unnamed place looks =
          let r = looks.1 in
          turn_steps Named own _ own.turns.1 (Some place) (TestFault r.kind r.word) (λ c e. ap (λ (x : Option (List ℕ)). name_test true (given_name x) here) e ∙ ap (λ (n : Checked). name_test true n here) r.faulty) r.own (ap Some looks.0, r.becomes)

      pub turn_named : (name : List ℕ) → name_of a ≡ Fine name
          → new ≡ goes_past (turned_with d (is_some (macro_named old.table.macros name)) old.conditions) (given_len d a) old → UncutStep g old new (silent_answer new None)
      unfolding name_test is_defined macro_name given_name
      turn_named name fine becomes =
          turn_steps Named own _ own.turns.1 None (Holds (is_some (macro_named old.table.macros name)))
          (λ c e. ap (λ (x : Option (List ℕ)). name_test true (given_name x) here) e ∙ ap (λ (n : Checked). name_test true n here) fine
          ∙ ap (λ (ms : List Macro). Holds (is_some (macro_named ms name))) (include_stack_macros old.limits old.table.macros old.conditions old.files.include_stack)) tt (refl, becomes)

  -- an `endif` that is stray
  pub end_refused : (A : Type 0) (place : Halt) (kind : FaultKind) (v : ConditionsView) → EndsOne {A = A} (Err kind) old.conditions v (inner_below old.files.include_stack) → IsDirective Endif held → place ≡ Fault
      → new ≡ record (record old { conditions = v }) { kept = Some (fault_at kind (inner_buffer old.files.include_stack).line [] (state_of (record old { conditions = v }))) } → UncutStep g old new (halted_answer new place)
  unfolding move_of closing_move
  end_refused A place kind v (EndsNone alone same stays) is kept becomes =
      let keeps : FaultKind → ConditionsView → EngineView S R = λ k w. record (record old { conditions = w }) { kept = Some (fault_at k (inner_buffer old.files.include_stack).line [] (state_of (record old { conditions = w }))) } in
      steps Endif None _ (Some place) (Live []) _ (Bare end_bare is) (place_outside (inner_below old.files.include_stack) old.conditions alone) refl
      (ap Some kept, becomes ∙ ap (keeps kind) stays ∙ ap (λ (k : FaultKind). keeps k old.conditions) (cc), own_kind _ refl)
  end_refused A place kind v (EndsOwn live o os is_open below skips wrong moves) is kept becomes = absurd wrong
  end_refused A place kind v (EndsInner n o os is_open below skips wrong moves) is kept becomes = absurd wrong

  -- one that closes a conditional
  pub end_closes : (A : Type 0) (x : A) (v : ConditionsView) → EndsOne {A = A} (Ok x) old.conditions v (inner_below old.files.include_stack) → IsDirective Endif held
      → new ≡ goes_past v (length (directive_word Endif)) old → UncutStep g old new (silent_answer new None)
  unfolding goes_past
  end_closes A x v (EndsNone alone wrong stays) is becomes = absurd (cc)
  end_closes A x v (EndsOwn live o os is_open below skips done moves) is becomes =
      let sound = ready.sound.conditions_of in
      let few = sound.few in
      let limit = sound.limit in
      steps Endif None _ None _ _ (Bare end_bare is) (place_inside (inner_below old.files.include_stack) old.conditions live o os is_open below skips) (closing_by (run_rules g old) _ _ _ _ live o _ here)
      (record {
        none = refl;
        done = refl;
        macros = old.table.macros;
        conditions = closed_one old.conditions;
        lands = lands_closed old.limits old.table.macros old.conditions (length (directive_word Endif)) o os is_open old.files.include_stack ready.include_stack below (omega arith);
        becomes = becomes ∙ ap (λ (w : ConditionsView). goes_past w (length (directive_word Endif)) old) moves;
      })
  end_closes A x v (EndsInner n o os is_open below skips done moves) is becomes =
      let len = length (directive_word Endif) in
      steps Endif None _ None _ _ (Bare end_bare is) (place_skipped (inner_below old.files.include_stack) old.conditions (suc n) o os is_open below skips) (closing_inner (run_rules g old) _ _ _ _ n o _ here)
      (record {
        none = line_ends_of-owed (take len held) ∙ ap (λ (k : ℕ). replicate k 10) (directive_ends Endif held some is);
        done = refl;
        macros = old.table.macros;
        conditions = with_count n old.conditions;
        lands = lands_counted old.limits old.table.macros old.conditions len o os is_open old.files.include_stack n below;
        becomes = becomes ∙ ap (λ (w : ConditionsView). goes_past w len old) moves;
      })

-- Skipped text, as steps of the engine.

-- bytes are held in front of an engine that goes on
pub held_front : {S R : Type 0} (e : EngineView S R) → IsReady e → 0 < length (held_of (inner_buffer e.files.include_stack)) → IsHeldFront e.files.include_stack
held_front e ready some = record { some = some; ends = (inner_facts e.files ready.include_stack ready.files).ends }

-- where text is skipped: so many conditionals opened in it, and one of the innermost source skips it
pub record IsSkipping {S R : Type 0} (e : EngineView S R) : Type 0 where
  pub count : ℕ
  pub conditional : Progress
  pub around : List Progress
  pub is_open : e.conditions.open_now ≡ conditional ∷ around
  pub below : inner_below e.files.include_stack ≤ length around
  pub skips : e.conditions.skipped ≡ Some count

skipping_by : {S R : Type 0} (e : EngineView S R) (skipped : Option ℕ) (open_now : List Progress) → IsReady e → e.conditions.skipped ≡ skipped → e.conditions.open_now ≡ open_now → (skipped ≡ None → ⊥) → IsSkipping e
skipping_by e None open_now ready skips is never = absurd (never refl)
skipping_by e (Some n) [] ready skips is never =
    let own = ready.sound.conditions_of.own n skips in
    let size : length e.conditions.open_now ≡ 0 = ap length is in
    absurd (omega arith)
skipping_by e (Some n) (o ∷ os) ready skips is never =
    let own = ready.sound.conditions_of.own n skips in
    let size : length e.conditions.open_now ≡ suc (length os) = ap length is in
    record { count = n; conditional = o; around = os; is_open = is; below = omega arith; skips = skips }

pub skipping : {S R : Type 0} (e : EngineView S R) → IsReady e → (e.conditions.skipped ≡ None → ⊥) → IsSkipping e
skipping e ready never = skipping_by e e.conditions.skipped e.conditions.open_now ready refl refl never

-- bytes of the innermost source are used, and their LF bytes are pending
pub passes_text : {S R : Type 0} (g : Ghosts S R) (old new : EngineView S R) (sources : S) (w : List ℕ) (lines : ℕ) (include_stack : List (File R)) → IsReady old → IsBounded new → lines ≡ line_ends w → lines < 2 ^ 31
    → IsUsed old.files.include_stack include_stack → SourcesCalled g false false old.sources sources
    → new ≡ record old { pending = line_ends_pending lines; files = record old.files { include_stack = include_stack }; sources = sources }
    → (g.has_known_texts old.sources → left_by g old old.table.macros old.conditions old.files.include_stack ≡ after_bytes (line_ends_of w) (left_by g old old.table.macros old.conditions include_stack))
    → (g.has_known_texts old.sources → KeepsParts g.unread old.files.include_stack include_stack)
    → UncutStep g old new (silent_answer new None)
unfolding after_bytes
passes_text {S} {R} g old new sources w lines include_stack ready bounded counted few used call becomes law parts =
    let pending : line_ends_of w ≡ pending_bytes (inner_name include_stack) (line_ends_pending lines) =
    line_ends_of-owed w ∙ (ap (λ n. replicate n 10) (sym counted) ∙ sym (pending_lines (inner_name include_stack) lines)) in
    subst (λ (e : EngineView S R). UncutStep g old e (Ok (Some []))) (sym becomes)
    (lends_piece g old ready [] (line_ends_pending lines) old.marks old.table.macros old.conditions include_stack sources (subst IsBounded becomes bounded) (lines_few lines _ few) used call
    (λ t. law t ∙ ap (λ (x : List ℕ). after_bytes x (left_by g old old.table.macros old.conditions include_stack)) pending) parts (Nowhere refl (InSources ready.idle refl (Unmarked refl))))

-- what is refused in front is `<%`, or a lone backquote
pub perl_is : (mode : Mode) (held : List ℕ) (kind : FaultKind) → IsRefused mode held kind → kind ≡ fault.EmbeddedPerl → (token_of mode held).kind ≡ Perl
perl_is mode _ kind (AtPerl is) e = is
perl_is mode _ kind (AtBare plain is) e = absurd (cc)

pub bare_is : (mode : Mode) (held : List ℕ) (kind : FaultKind) → IsRefused mode held kind → (kind ≡ fault.EmbeddedPerl → ⊥) → (mode ≡ Plain) × IsSkippedWord held 1
bare_is mode _ kind (AtPerl is) never = absurd (never refl)
bare_is mode _ kind (AtBare plain is) never = (plain, LoneBackquote is refl)

-- one more opened in skipped text
counts_by : (v w : ConditionsView) (skipped : Option ℕ) (n : ℕ) → skipped ≡ Some n → IfSome skipped (λ k. w ≡ with_count (k + 1) v) → w ≡ with_count (n + 1) v
counts_by v w None n is h = absurd (cc)
counts_by v w (Some k) n is h = let same : k ≡ n = cc in h ∙ ap (λ (j : ℕ). with_count (j + 1) v) same

pub counts_one : (v w : ConditionsView) (n : ℕ) → v.skipped ≡ Some n → IfSome v.skipped (λ k. w ≡ with_count (k + 1) v) → w ≡ with_count (n + 1) v
counts_one v w n is h = counts_by v w v.skipped n is h

-- the same engine, with other conditionals
pub with_conditions : {S R : Type 0} (a b : EngineView S R) (v : ConditionsView) → a ≡ b → record a { conditions = v } ≡ record b { conditions = v }
with_conditions {S} {R} a b v same = ap (λ (e : EngineView S R). record e { conditions = v }) same

-- what always holds then, where bytes were used
pub opening_conditions : {S R : Type 0} (e used : EngineView S R) (len : ℕ) → IsReady e → (s : IsSkipping e) → 0 < len → len ≤ length (held_of (inner_buffer e.files.include_stack))
    → used ≡ record e { files = record e.files { include_stack = with_inner (consumed_file len 0) e.files.include_stack } } → AreConditions used.limits used.conditions used.files.include_stack
    → AreConditions used.limits (with_count (s.count + 1) used.conditions) used.files.include_stack
opening_conditions e used len ready s positive inside uses c =
    let include_stack : used.files.include_stack ≡ with_inner (consumed_file len 0) e.files.include_stack = ap (λ x. x.files.include_stack) uses in
    let size : length used.files.include_stack ≡ length e.files.include_stack = ap length include_stack ∙ with_inner-length (consumed_file len 0) e.files.include_stack in
    let some = ready.include_stack in
    let skips : used.conditions.skipped ≡ Some s.count = ap (λ x. x.conditions.skipped) uses ∙ s.skips in
    let fewer = (used_bytes e.files.include_stack len 0 positive inside).fewer in
    let left : unused_of (inner_buffer used.files.include_stack) ≡ unused_of (inner_buffer (with_inner (consumed_file len 0) e.files.include_stack)) = ap (λ ns. unused_of (inner_buffer ns)) include_stack in
    let counted = ready.sound.conditions_of.counted in
    let count : unwrap_or e.conditions.skipped 0 ≡ s.count = ap (λ (k : Option ℕ). unwrap_or k 0) s.skips in
    conditions_count used.limits used.conditions used.files.include_stack (omega arith) c (c.own s.count skips) (s.count + 1) (omega arith)

-- bytes that were used, of which the LF bytes are pending
pub passes_by : {S R : Type 0} (len lines : ℕ) (old used new : EngineView S R) (pending : PendingView) → old.pending ≡ nothing_pending
    → used ≡ record old { files = record old.files { include_stack = with_inner (consumed_file len lines) old.files.include_stack } } → new ≡ record used { pending = pending }
    → pending ≡ record used.pending { line_ends = used.pending.line_ends + lines } → new ≡ passes_over len lines old
unfolding passes_over nothing_pending line_ends_pending
passes_by {S} {R} len lines old used new pending nothing uses queues adds =
    let include_stack : List (File R) = with_inner (consumed_file len lines) old.files.include_stack in
    let same : used.pending ≡ nothing_pending = ap (λ e. e.pending) uses ∙ nothing in
    let zero : 0 + lines ≡ lines = omega arith in
    let exact : pending ≡ line_ends_pending lines = adds ∙ (ap (λ (o : PendingView). record o { line_ends = o.line_ends + lines }) same ∙ ap (λ (n : ℕ). line_ends_pending n) zero) in
    queues ∙ (ap (λ (o : PendingView). record used { pending = o }) exact ∙ ap (λ (e : EngineView S R). record e { pending = line_ends_pending lines }) uses)

-- an `undef`, and an `include`, doesn't count in skipped text
pub undef_passed : (held : List ℕ) (a : Option Argument) → IsNamed Undef held a → IsSkippedWord held 6
unfolding counts
undef_passed held a named = PassedWord Undef refl (begins_word Undef held _ _ (named_begins Undef held a undef_wants named)) refl

pub include_passed : (held : List ℕ) (a : Option Argument) → IsGivenString held a → IsSkippedWord held 8
unfolding counts
include_passed held None lacks = PassedWord Include refl lacks.word refl
include_passed held (Some a) has = PassedWord Include refl has.word refl

-- a word that doesn't count lies in what is held, and has no line end
pub record IsWordWithin (held : List ℕ) (len : ℕ) : Type 0 where
  pub positive : 0 < len
  pub inside : len ≤ length held
  pub none : line_ends (take len held) ≡ 0

pub skipped_within : (held : List ℕ) (len : ℕ) → 0 < length held → IsSkippedWord held len → IsWordWithin held len
skipped_within held len some (LoneBackquote kind one) =
    record { positive = omega arith; inside = omega arith; none = ap (λ (k : ℕ). line_ends (take k held)) one ∙ bare_ends held kind }
skipped_within held len some (AnyUsage usage) =
    let within = usage_inside held len some usage in
    record { positive = within.0; inside = within.1; none = usage_ends held len usage }
skipped_within held len some (PassedWord d passed is whole) =
    let within = word_within d held is some in
    record { positive = omega (arith, within.0); inside = omega (arith, within.1); none = ap (λ (k : ℕ). line_ends (take k held)) whole ∙ directive_ends d held some is }

module _ {S R : Type 0} (g : Ghosts S R) (old new : EngineView S R) (ready : IsReady old) (bounded : IsBounded new) (some : 0 < length (held_of (inner_buffer old.files.include_stack))) (s : IsSkipping old) where
  abbrev front_held : IsHeldFront old.files.include_stack
  front_held = held_front old ready some

  -- no more LF bytes are passed than can be pending
  few_lines : (len lines : ℕ) → len ≤ length (held_of (inner_buffer old.files.include_stack)) → lines ≡ line_ends (take len (held_of (inner_buffer old.files.include_stack))) → lines < 2 ^ 31
  few_lines len lines inside counted =
      let least = line_ends_le (take len (held_of (inner_buffer old.files.include_stack))) in
      let size = length-take-le len (held_of (inner_buffer old.files.include_stack)) inside in
      let few = held_few old ready.sound ready.files ready.include_stack in
      omega arith

  -- a stretch in which nothing counts
  pub stretch_steps : (mid : EngineView S R) (len lines : ℕ) (next : Mode) → IsPassed (inner_buffer old.files.include_stack).mode (held_of (inner_buffer old.files.include_stack)) len next → 0 < len
      → len ≤ length (held_of (inner_buffer old.files.include_stack)) → lines ≡ line_ends (take len (held_of (inner_buffer old.files.include_stack)))
      → mid ≡ record old { files = record old.files { include_stack = with_buffer (entered_mode (inner_buffer old.files.include_stack) next) old.files.include_stack } } → new ≡ passes_over len lines mid
      → UncutStep g old new (silent_answer new None)
  unfolding passes_over
  stretch_steps mid len lines next passed positive inside counted enters uses =
      let b = inner_buffer old.files.include_stack in
      let w = take len (held_of b) in
      let stretch = passes_stretch old.limits (run_rules g old) g.unread old.table.macros old.conditions s.count s.conditional s.around s.is_open s.skips old.files.include_stack len next front_held s.below passed positive in
      let include_stack : ℕ → Mode → List (File R) = λ n m. with_inner (consumed_file len n) (with_buffer (entered_mode b m) old.files.include_stack) in
      passes_text g old new old.sources w lines (include_stack lines next) ready bounded counted (few_lines len lines inside counted)
      (used_after old.files.include_stack (entered_mode b next) len lines ready.include_stack (entered_unused b next) positive (rw (held_entered b next) inside)) (not_called g old.sources)
      (uses ∙ ap (passes_over len lines) enters)
      (λ t. stretch.1 ∙ (ap (λ (n : ℕ). after_bytes (line_ends_of w) (left_by g old old.table.macros old.conditions (include_stack n Plain))) (sym counted)
      ∙ ap (λ (m : Mode). after_bytes (line_ends_of w) (left_by g old old.table.macros old.conditions (include_stack lines m))) (sym stretch.0)))
      (λ t. parts_on g.unread old.files.include_stack (with_buffer (entered_mode b next) old.files.include_stack) (with_inner (consumed_file len lines) (with_buffer (entered_mode b next) old.files.include_stack)) (parts_mode g.unread next old.files.include_stack)
      (parts_used g.unread len lines (with_buffer (entered_mode b next) old.files.include_stack)))

  -- a part of a text
  pub part_steps : (mid : EngineView S R) (len lines : ℕ) (next : Mode) → IsText (inner_buffer old.files.include_stack).mode (held_of (inner_buffer old.files.include_stack)) len next
      → lines ≡ line_ends (take len (held_of (inner_buffer old.files.include_stack)))
      → mid ≡ record old { files = record old.files { include_stack = with_buffer (entered_mode (inner_buffer old.files.include_stack) next) old.files.include_stack } } → new ≡ passes_over len lines mid
      → UncutStep g old new (silent_answer new None)
  unfolding passes_over
  part_steps mid len lines next text counted enters uses =
      let b = inner_buffer old.files.include_stack in
      let within = text_inside b.mode (held_of b) len next some text in
      passes_text g old new old.sources (take len (held_of b)) lines (with_inner (consumed_file len lines) (with_buffer (entered_mode b next) old.files.include_stack)) ready bounded counted (few_lines len lines within.1 counted)
      (used_after old.files.include_stack (entered_mode b next) len lines ready.include_stack (entered_unused b next) within.0 (rw (held_entered b next) within.1)) (not_called g old.sources)
      (uses ∙ ap (passes_over len lines) enters)
      (λ t. passes_part old.limits (run_rules g old) g.unread old.table.macros old.conditions s.count s.conditional s.around s.is_open s.skips old.files.include_stack len lines next front_held s.below text counted)
      (λ t. parts_on g.unread old.files.include_stack (with_buffer (entered_mode b next) old.files.include_stack) (with_inner (consumed_file len lines) (with_buffer (entered_mode b next) old.files.include_stack)) (parts_mode g.unread next old.files.include_stack)
      (parts_used g.unread len lines (with_buffer (entered_mode b next) old.files.include_stack)))

  -- `<%`
  pub left_perl : (token_of (inner_buffer old.files.include_stack).mode (held_of (inner_buffer old.files.include_stack))).kind ≡ Perl
      → left_by g old old.table.macros old.conditions old.files.include_stack ≡ leaves (fails (fault_at fault.EmbeddedPerl (inner_buffer old.files.include_stack).line [] (state_of old))) (state_of old)
  unfolding state_of
  left_perl is = perl_at old.limits (run_rules g old) g.unread old.table.macros old.conditions old.files.include_stack front_held is

  module _ (plain : (inner_buffer old.files.include_stack).mode ≡ Plain) where
    -- a word that doesn't count
    pub word_steps : (len : ℕ) → IsSkippedWord (held_of (inner_buffer old.files.include_stack)) len → new ≡ passes_over len 0 old → UncutStep g old new (silent_answer new None)
    unfolding passes_over
    word_steps len word becomes =
        let w = take len (held_of (inner_buffer old.files.include_stack)) in
        let within = skipped_within (held_of (inner_buffer old.files.include_stack)) len some word in
        passes_text g old new old.sources w 0 (with_inner (consumed_file len 0) old.files.include_stack) ready bounded (sym within.none) (omega arith)
        (used_bytes old.files.include_stack len 0 within.positive within.inside) (not_called g old.sources) becomes
        (λ t. passes_word old.limits (run_rules g old) g.unread old.table.macros old.conditions s.count s.conditional s.around s.is_open s.skips old.files.include_stack len front_held plain s.below word)
        (λ t. parts_used g.unread len 0 old.files.include_stack)

    -- a `line`
    pub line_steps : (len lines : ℕ) → IsDirective Line (held_of (inner_buffer old.files.include_stack)) → len ≡ line_len (held_of (inner_buffer old.files.include_stack))
        → lines ≡ line_ends (take len (held_of (inner_buffer old.files.include_stack))) → new ≡ passes_over len lines old → UncutStep g old new (silent_answer new None)
    unfolding passes_over
    line_steps len lines is whole counted becomes =
        let held = held_of (inner_buffer old.files.include_stack) in
        let within = line_inside held some in
        let positive : 0 < len = omega (arith, within.0) in
        let inside : len ≤ length held = omega (arith, within.1) in
        passes_text g old new old.sources (take len held) lines (with_inner (consumed_file len lines) old.files.include_stack) ready bounded counted (few_lines len lines inside counted)
        (used_bytes old.files.include_stack len lines positive inside) (not_called g old.sources) becomes
        (λ t. passes_line old.limits (run_rules g old) g.unread old.table.macros old.conditions s.count s.conditional s.around s.is_open s.skips old.files.include_stack len lines front_held plain s.below is whole counted)
        (λ t. parts_used g.unread len lines old.files.include_stack)

    -- a conditional that opens in skipped text
    pub opening_steps : (defined : Bool) (v : ConditionsView) → IsDirective (opening_word defined) (held_of (inner_buffer old.files.include_stack)) → v ≡ with_count (s.count + 1) old.conditions
        → new ≡ goes_past v (length (directive_word (opening_word defined))) old → UncutStep g old new (silent_answer new None)
    opening_steps defined v is counts becomes =
        let one : s.count + 1 ≡ suc s.count = omega arith in
        let word = wants_word (opening_word defined) (opening_wants (opening_word defined) (opening_opens defined)) in
        directive_word_steps g old new ready bounded some plain (opening_word defined) s.count (suc s.count) s.conditional s.around s.is_open s.below s.skips word
        (opening_passes (run_rules g old) defined s.count s.conditional _) is
        (becomes ∙ ap (λ (x : ConditionsView). goes_past x (length (directive_word (opening_word defined))) old) (counts ∙ ap (λ (n : ℕ). with_count n old.conditions) one))

    -- a `define`
    module _ (is : IsDirective Define (held_of (inner_buffer old.files.include_stack))) (mid : EngineView S R) (r : IsRead g old mid) where
      pub define_steps : (len lines : ℕ) → HoldsLine (g.has_known_texts old.sources) g.unread (line.Whole len) (inner_buffer old.files.include_stack) (inner_buffer mid.files.include_stack) → SourcesCalled g false false old.sources mid.sources
          → 0 < len → len ≤ length (held_of (inner_buffer mid.files.include_stack)) → length (held_of (inner_buffer mid.files.include_stack)) < 2 ^ 31 → lines ≡ line_ends (take len (held_of (inner_buffer mid.files.include_stack)))
          → new ≡ passes_over len lines mid → UncutStep g old new (silent_answer new None)
      unfolding passes_over
      define_steps len lines holds call positive inside few counted becomes =
          let b = inner_buffer mid.files.include_stack in
          let w = take len (held_of b) in
          let least = line_ends_le w in
          let size = length-take-le len (held_of b) inside in
          let after = with_inner (consumed_file len lines) (with_buffer b old.files.include_stack) in
          let makes : List (File R) → EngineView S R = λ ns. record old { pending = line_ends_pending lines; files = record old.files { include_stack = ns }; sources = mid.sources } in
          let include_stack : mid.files.include_stack ≡ with_buffer b old.files.include_stack = ap (λ f. f.include_stack) r.only in
          let exact : new ≡ makes after =
          becomes ∙ (ap (passes_over len lines) r.becomes
          ∙ (ap (λ (fs : FilesView R). record old { pending = line_ends_pending lines; files = record fs { include_stack = with_inner (consumed_file len lines) mid.files.include_stack }; sources = mid.sources }) r.only
          ∙ ap (λ (ns : List (File R)). makes (with_inner (consumed_file len lines) ns)) include_stack)) in
          passes_text g old new mid.sources w lines after ready bounded counted (omega arith) (used_after old.files.include_stack b len lines ready.include_stack holds.extends.unused positive inside) call exact
          (λ t. passes_define old.limits (run_rules g old) g.unread old.table.macros old.conditions s.count s.conditional s.around s.is_open s.skips (g.has_known_texts old.sources) t old.files.include_stack b len lines front_held plain s.below is holds counted)
          (λ t. parts_on g.unread old.files.include_stack (with_buffer b old.files.include_stack) after (parts_slid (g.has_known_texts old.sources) Unit g.unread b old.files.include_stack ready.include_stack (slides-told (g.has_known_texts old.sources) (g.has_known_texts old.sources) Unit (IsExactLine (line.Whole len)) g.unread (inner_buffer old.files.include_stack) b (λ x. x) (λ _ e. cc) holds.slides) t)
          (parts_used g.unread len lines (with_buffer b old.files.include_stack)))

      pub left_long : HoldsLine (g.has_known_texts old.sources) g.unread line.TooLong (inner_buffer old.files.include_stack) (inner_buffer mid.files.include_stack) → g.has_known_texts old.sources
          → left_by g old old.table.macros old.conditions old.files.include_stack ≡ leaves (fails (fault_at fault.LineTooLong (inner_buffer mid.files.include_stack).line [] (state_of old))) (state_of old)
      unfolding state_of
      left_long holds t =
          long_at old.limits (run_rules g old) g.unread old.table.macros old.conditions (g.has_known_texts old.sources) t old.files.include_stack (inner_buffer mid.files.include_stack) front_held plain is holds
          ∙ rw holds.extends.line refl

      pub left_cut : HoldsLine (g.has_known_texts old.sources) g.unread line.SourceLong (inner_buffer old.files.include_stack) (inner_buffer mid.files.include_stack) → g.has_known_texts old.sources
          → left_by g old old.table.macros old.conditions old.files.include_stack ≡ leaves (fails (fault_at fault.SourceTooLong (inner_buffer mid.files.include_stack).line [] (state_of old))) (state_of old)
      unfolding state_of
      left_cut holds t =
          cut_at old.limits (run_rules g old) g.unread old.table.macros old.conditions (g.has_known_texts old.sources) t old.files.include_stack (inner_buffer mid.files.include_stack) front_held plain is holds
          ∙ rw holds.extends.line refl
