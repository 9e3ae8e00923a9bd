-- A directive in front of the innermost source as a step of the engine: one that does what the directive comes to.
use Rattle.std.proofs.Common.{◌≡◌, ℕ, ◌≤◌, ◌<◌, true, false, List, [], ◌∷◌, length, Option, None, Some, Ok, Err, refl, sym, ap, subst, ◌∙◌, arith}
use Rattle.rdlpp_scan.specs.declared.token.Directive.{Directive}
use Rattle.rdlpp_scan.specs.declared.token.Mode.TheVariants.{Plain}
use Rattle.rdlpp_source.specs.declared.sources.Found.{Found}
use Rattle.rdlpp_source.specs.declared.sources.Sources.{Ghosts}
use Rattle.rdlpp_define.specs.Macros.{Macro}
use Rattle.rdlpp_meaning.specs.Moves.{Enters, Move, Moves, Stops}
use Rattle.rdlpp_meaning.specs.Meaning.{NameFault, Progress, after_bytes, origin_line}
use Rattle.rdlpp_meaning.specs.Resumed.{Place}
use Rattle.rdlpp_meaning.specs.State.{State, fault_at}
use Rattle.rdlpp_meaning.specs.declared.fault.FaultKind.{FaultKind}
use Rattle.rdlpp_meaning.proofs.Directives.{wants_name}
use Rattle.rdlpp_read.specs.Conditions.{ConditionsView}
use Rattle.rdlpp_read.specs.Buffer.{held_of, opened_buffer, unused_of}
use Rattle.rdlpp_read.specs.Files.{FilesView, consumed_file, entered_file, inner_buffer, with_inner}
use Rattle.rdlpp_read.specs.declared.files.File.{File}
use Rattle.rdlpp_front.specs.SourceItems.{IsNamed, given_by, given_len, given_name}
use Rattle.rdlpp_front.specs.declared.arguments.Argument.{Argument}
use Rattle.rdlpp_front.proofs.NamedDirectives.{Begins, begins_token, begins_within, in_front_of, named_begins}
use Rattle.rdlpp_state.specs.Calls.{SourcesCalled}
use Rattle.rdlpp_state.specs.Engine.{EngineView}
use Rattle.rdlpp_state.specs.Held.{IsBounded}
use Rattle.rdlpp_state.specs.Includes.{Searches, included_engine}
use Rattle.rdlpp_state.specs.Moves.{IsReady, LooksAtName}
use Rattle.rdlpp_state.specs.Pending.{PendingView, origin_pending}
use Rattle.rdlpp_state.specs.Pieces.{halted_answer, silent_answer}
use Rattle.rdlpp_state.specs.Positions.{Unmarked}
use Rattle.rdlpp_state.specs.Remaining.{inner_name, run_rules, state_of}
use Rattle.rdlpp_state.specs.Standing.{InSources, Nowhere}
use Rattle.rdlpp_state.specs.Steps.{IsOwn, UncutStep}
use Rattle.rdlpp_state.specs.declared.place.Halt.{Halt}
use Rattle.rdlpp_state.specs.declared.place.Halt.TheVariants.{Fault}
use Rattle.rdlpp_state.proofs.EngineSteps.{not_called}
use Rattle.rdlpp_state.proofs.FrontSteps.{drained_after, drained_few, left_by, lends_by, lends_piece, read_sources, refuses}
use Rattle.rdlpp_state.proofs.LentPieces.{pending_few, pending_origin}
use Rattle.rdlpp_state.proofs.Soundness.{inner_facts}
use Rattle.rdlpp_state.proofs.StackMoves.{Admits, Comes, Lands, front_move, front_moves}
use Rattle.rdlpp_state.proofs.Stores.{parts_entered, parts_used}
use Rattle.rdlpp_state.proofs.WorkFacts.{entered_falls, used_bytes}

-- an engine stands where a move ends that writes nothing, with so many bytes used
pub record Arrives {S R : Type 0} (len : ℕ) (old new : EngineView S R) (result : Option Halt) (bytes : List ℕ) (place : Place) (t : State) : Type 0 where
  pub none : bytes ≡ []
  pub done : result ≡ None
  pub macros : List Macro
  pub conditions : ConditionsView
  pub lands : Lands old.limits old.conditions conditions macros old.files.include_stack (with_inner (consumed_file len 0) old.files.include_stack) place t
  pub becomes : new ≡ record old {
    table = record old.table { macros = macros };
    conditions = conditions;
    files = record old.files { include_stack = with_inner (consumed_file len 0) old.files.include_stack };
  }

-- an engine opens the source that its search found where a move enters its text, with so many bytes used; it went on from another, by its search
pub record OpensSource {S R : Type 0} (g : Ghosts S R) (len : ℕ) (old mid new : EngineView S R) (result : Option Halt) (bytes : List ℕ) (os : List Progress) (path text : List ℕ) : Type 0 where
  pub done : result ≡ None
  pub name : List ℕ
  pub found : Found R
  pub searches : Searches g old name mid.sources (Ok found)
  pub writes : bytes ≡ origin_line (run_rules g old) found.path.bytes 1
  pub admits : Admits old.limits (run_rules g old) g.unread old.table.macros old.conditions old.files.include_stack (with_inner (consumed_file len 0) old.files.include_stack) os path text found
  pub becomes : new ≡ included_engine found len mid

-- an engine does what a construct comes to, after a search where there was one: it keeps its fault, stands where it ends, or opens its source
abbrev pub Does : {S R : Type 0} → Ghosts S R → ℕ → EngineView S R → EngineView S R → EngineView S R → Option Halt → Move → Type 0
Does g len old mid new result (Stops kind word) = (result ≡ Some Fault) × (new ≡ record mid { kept = Some (fault_at kind (inner_buffer mid.files.include_stack).line word (state_of mid)) }) × IsOwn kind
Does g len old mid new result (Moves bytes place t) = Arrives len old new result bytes place t
Does g len old mid new result (Enters bytes os path text) = OpensSource g len old mid new result bytes os path text

-- an engine that does so takes a step
module _ {S R : Type 0} (g : Ghosts S R) (old mid new : EngineView S R) (ready : IsReady old) (bounded : IsBounded new) (becomes : mid ≡ record old { sources = mid.sources })
    (call : SourcesCalled g false false old.sources mid.sources) where
  pub does_step : (len : ℕ) (result : Option Halt) (m : Move) → (0 < len) × (len ≤ length (held_of (inner_buffer old.files.include_stack)))
      → (g.has_known_texts old.sources → Comes old.limits (run_rules g old) g.unread old.table.macros old.conditions old.files.include_stack (with_inner (consumed_file len 0) old.files.include_stack) m)
      → Does g len old mid new result m → UncutStep g old new (silent_answer new result)
  unfolding state_of included_engine after_bytes unused_of opened_buffer
  does_step len result (Stops kind word) within law does =
      let keeps : FilesView R → EngineView S R = λ fs. record mid { kept = Some (fault_at kind (inner_buffer fs.include_stack).line word (state_of mid)) } in
      subst (λ (r : Option Halt). UncutStep g old new (silent_answer new r)) (sym does.0)
      (refuses g old mid new Fault kind (inner_buffer old.files.include_stack).line word ready (read_sources g old mid becomes) bounded refl (does.1 ∙ ap keeps (ap (λ e. e.files) becomes)) does.2 call law)
  does_step len result (Moves bytes place t) within law a =
      let include_stack = with_inner (consumed_file len 0) old.files.include_stack in
      subst (λ (r : Option Halt). UncutStep g old new (silent_answer new r)) (sym a.done)
      (subst (λ (e : EngineView S R). UncutStep g old e (Ok (Some []))) (sym a.becomes)
      (lends_piece g old ready [] old.pending old.marks a.macros a.conditions include_stack old.sources (subst IsBounded a.becomes bounded) (drained_few old.pending ready.pending)
      (used_bytes old.files.include_stack len 0 within.0 within.1) (not_called g old.sources)
      (λ known. law known a.macros a.conditions a.lands ∙ ap (λ (x : List ℕ). after_bytes x (left_by g old a.macros a.conditions include_stack)) a.none
      ∙ sym (drained_after (inner_name include_stack) old.pending (left_by g old a.macros a.conditions include_stack) ready.pending))
      (λ known. parts_used g.unread len 0 old.files.include_stack) (Nowhere refl (InSources ready.idle refl (Unmarked refl)))))
  does_step len result (Enters bytes os path text) within law o =
      let found = o.found in
      let s = o.searches in
      let room = s.room in
      let slots = ready.sound.slots in
      let range = ready.sound.in_range.source_bytes.1 in
      let line = (inner_buffer old.files.include_stack).line in
      let used = with_inner (consumed_file len 0) old.files.include_stack in
      let opened : ℕ → List (File R) = λ n. entered_file found old.limits.source_bytes n (length old.conditions.open_now) line ∷ used in
      let include_stack = opened old.files.line_bytes in
      let pending : PendingView = record { line_ends = 0; origin = origin_pending old.origins 1 } in
      let after : EngineView S R = record old { pending = pending; files = record old.files { include_stack = include_stack }; sources = mid.sources } in
      let is : new ≡ after = o.becomes ∙ ap (included_engine found len) becomes in
      subst (λ (r : Option Halt). UncutStep g old new (silent_answer new r)) (sym o.done)
      (subst (λ (e : EngineView S R). UncutStep g old e (Ok (Some []))) (sym is)
      (lends_by g old ready [] pending old.marks old.table.macros old.conditions include_stack mid.sources (subst IsBounded is bounded)
      (entered_falls old after refl ready.idle ready.idle (record {
        inner = entered_file found old.limits.source_bytes old.files.line_bytes (length old.conditions.open_now) line;
        used = used;
        becomes = refl;
        some = used_bytes old.files.include_stack len 0 within.0 within.1;
        small = omega arith;
      }) (omega arith) (pending_few old.origins 0 1 (omega arith))) call
      (λ t. law t found o.admits
      ∙ ap (λ (n : ℕ). after_bytes bytes (left_by g old old.table.macros old.conditions (opened n))) (sym ready.sound.line_bytes)
      ∙ ap (λ (x : List ℕ). after_bytes x (left_by g old old.table.macros old.conditions include_stack)) (o.writes ∙ sym (pending_origin (g.catalog old.sources) old.limits old.origins found.path.bytes 1)))
      (λ t. parts_entered g.unread (g.catalog old.sources) found len old.limits.source_bytes old.files.line_bytes (length old.conditions.open_now) line o.name old.files.include_stack ready.include_stack (s.answers t))
      (Nowhere refl (InSources ready.idle refl (Unmarked refl)))))

-- a directive that searches for nothing, as a step of an engine that does what it comes to
module _ {S R : Type 0} (g : Ghosts S R) (old new : EngineView S R) (ready : IsReady old) (bounded : IsBounded new) (some : 0 < length (held_of (inner_buffer old.files.include_stack)))
    (plain : (inner_buffer old.files.include_stack).mode ≡ Plain) where
  abbrev held : List ℕ
  held = held_of (inner_buffer old.files.include_stack)

  -- the directive in front, by what it comes to
  abbrev pub move_here : Directive → Option (List ℕ) → ℕ → Move
  move_here d given len = front_move old.limits (run_rules g old) g.unread old.table.macros old.conditions d given len old.files.include_stack

  pub directive_steps : (d : Directive) (given : Option (List ℕ)) (len : ℕ) (result : Option Halt) → Begins d held given len → Does g len old old new result (move_here d given len)
      → UncutStep g old new (silent_answer new result)
  directive_steps d given len result begins does =
      let ends = (inner_facts old.files ready.include_stack ready.files).ends in
      does_step g old old new ready bounded refl (not_called g old.sources) len result (move_here d given len) (begins_within d held given len begins some)
      (λ t. front_moves old.limits (run_rules g old) g.unread old.table.macros old.conditions old.files.include_stack d given len (record { some = some; ends = ends; plain = plain })
      (begins_token d held given len begins) (in_front_of d g.unread (inner_buffer old.files.include_stack) (record { some = some; ends = ends }) plain given len begins)) does

  -- one whose name is refused
  pub unnamed_steps : (d : Directive) (a : Option Argument) (place : Halt) → wants_name d ≡ true → IsNamed d held a → LooksAtName a old new (Err place)
      → ((kind : FaultKind) (word : List ℕ) → given_name (given_by held a) ≡ NameFault kind word → move_here d (given_by held a) (given_len d a) ≡ Stops kind word)
      → UncutStep g old new (halted_answer new place)
  unnamed_steps d a place wants named looks stops =
      let r = looks.1 in
      directive_steps d (given_by held a) (given_len d a) (Some place) (named_begins d held a wants named)
      (subst (Does g (given_len d a) old old new (Some place)) (sym (stops r.kind r.word r.faulty)) (ap Some looks.0, r.becomes, r.own))
