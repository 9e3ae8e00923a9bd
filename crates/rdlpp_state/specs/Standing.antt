-- Where the bytes stand that a step lends, and what a step does that lends none.
-- A definition that names no source is this project's own.
use Rattle.std.specs.Prelude.{◌≡◌, ◌<◌, ◌≤◌, ℕ, List, [], ◌∷◌, length, take, Option, Some, true, false, if◌then◌else◌}
use Rattle.rdlpp_source.specs.declared.sources.Sources.{Ghosts}
use Rattle.rdlpp_scan.specs.declared.token.Mode.{Mode}
use Rattle.rdlpp_define.specs.Macros.{Macro, formals_of}
use Rattle.rdlpp_define.specs.Table.{macro_named, macro_at}
use Rattle.rdlpp_meaning.specs.Meaning.{Progress}
use Rattle.rdlpp_meaning.specs.Opened.{Waiting}
use Rattle.rdlpp_meaning.specs.State.{Rules, State}
use Rattle.rdlpp_read.specs.Buffer.{entered_mode, held_of}
use Rattle.rdlpp_read.specs.Calls.{SourcesRead}
use Rattle.rdlpp_read.specs.Files.{consumed_file, inner_buffer, with_buffer, with_inner}
use Rattle.rdlpp_front.specs.SourceItems.{usage_name}
use Rattle.rdlpp_texts.specs.TextItems.{IsFrontPlace}
use Rattle.rdlpp_texts.specs.Opened.{bound_by}
use Rattle.rdlpp_texts.specs.Places.{place_bytes, texts_of}
use Rattle.rdlpp_texts.specs.Steps.{AreSound, IsStep}
use Rattle.rdlpp_texts.specs.declared.place.TextPlace.{TextPlace}
use Rattle.rdlpp_texts.specs.Turns.{TurnsOver}
use Rattle.rdlpp_texts.specs.declared.step.CursorStep.TheVariants.{Lends, Silent}
use Rattle.rdlpp_usages.specs.Usages.{IsOpenAlone, IsOwnLine, IsRoomy, IsRun, IsUsageFault, KeepsUsage, TellsUsage, UsesSource, is_failed_opening, is_opened}
use Rattle.rdlpp_usages.specs.declared.expansion.Opening.{Opening}
use Rattle.rdlpp_usages.specs.declared.expansion.Opening.TheVariants.{Opened}
use Rattle.rdlpp_state.specs.Engine.{EngineView}
use Rattle.rdlpp_state.specs.Pending.{PendingView, TakesPiece, digits_of, nothing_pending, part_bytes}
use Rattle.rdlpp_state.specs.Marks.{PlaceView, lends_line, lends_pending, lends_usage}
use Rattle.rdlpp_state.specs.Pieces.{held_texts}
use Rattle.rdlpp_state.specs.Positions.{MarksPlace, pending_place, position_of, source_place, usage_place}
use Rattle.rdlpp_state.specs.Remaining.{inner_name, text_of}
use Rattle.rdlpp_state.specs.Stored.{called_formals}
use Rattle.rdlpp_state.specs.declared.pending.PendingPiece.{PendingPiece}

-- the opening of a usage of so many bytes: what it says of it, in each run; of the engine the sources, those that are open and the open texts alone changed
pub record OpensUsage {S R : Type 0} (g : Ghosts S R) (len : ℕ) (old new : EngineView S R) (opening : Opening) : Type 0 where
  pub becomes : new ≡ record old { files = new.files; sources = new.sources; expansion = new.expansion }
  pub only : new.files ≡ record old.files { include_stack = new.files.include_stack }
  pub call : SourcesRead g (is_failed_opening opening) old.sources new.sources
  pub uses : UsesSource (g.has_known_texts old.sources) g.unread opening old.files.include_stack new.files.include_stack
  pub depth : new.expansion.depth ≡ old.expansion.depth
  pub most : new.expansion.most ≡ old.expansion.most
  pub line : new.expansion.line ≡ (if is_opened opening then (inner_buffer old.files.include_stack).line else old.expansion.line)
  pub room : IsRoomy old.expansion
  pub now_room : IsRoomy new.expansion
  pub sound : AreSound (texts_of old.table.macros new.expansion.arguments) new.expansion.opens
  pub lets_go : is_opened opening ≡ false → new.expansion.opens ≡ []
  pub some : 0 < length (held_of (inner_buffer old.files.include_stack))
  pub macro : Macro
  pub named : macro_named old.table.macros (usage_name (held_of (inner_buffer old.files.include_stack)) len) ≡ Some macro
  pub called : is_opened opening ≡ true → called_formals old.table.macros new.expansion.opens ≡ macro.formals
  pub bindings : is_opened opening ≡ true → bound_by new.expansion.opens ≡ length (formals_of macro)
  pub alone : is_opened opening ≡ true → (id : ℕ) × ((macro_at old.table.macros id ≡ macro) × IsOpenAlone old.table.macros id new.expansion.opens)
  pub keeps : KeepsUsage macro.formals (g.has_known_texts old.sources) g.unread old.expansion.most opening new.expansion.arguments (inner_buffer (with_inner (consumed_file len 0) old.files.include_stack)) (inner_buffer new.files.include_stack)
  pub fault : IsUsageFault opening
  pub own : IsOwnLine opening
  pub unheld : is_failed_opening opening ≡ true → held_of (inner_buffer new.files.include_stack) ≡ []
  pub means : (rules : Rules) (s : State) (ws : List Waiting) (os : List Progress) → IsRun rules s old.table.macros old.expansion.depth old.expansion.most → g.has_known_texts old.sources
      → TellsUsage rules s g.unread ws os old.table.macros (inner_buffer old.files.include_stack).line (usage_name (held_of (inner_buffer old.files.include_stack)) len) opening new.expansion old.files.include_stack new.files.include_stack

-- what a step does that lends no bytes: it goes on over the open sources, while no text of a usage is open, and marks the place of
-- an LF that is pending; it opens the usage in front of what is held; or it opens or closes a text of a usage, as expansion has it:
-- it opens what the name at the front stands for, or closes texts of which nothing is left; and each open text lies in a live body
-- or in what is kept of the call
pub data Turns {S R : Type 0} (g : Ghosts S R) (at after : EngineView S R) : Type 0 where
  InSources : at.expansion.opens ≡ [] → after.expansion ≡ at.expansion → MarksPlace at after → Turns g at after
  OpensText : (len : ℕ) → OpensUsage g len at after Opened → Turns g at after
  InTexts : at.pending ≡ nothing_pending → after ≡ record at { expansion = after.expansion }
      → IsStep at.expansion.line at.expansion.depth (held_texts at) at.expansion.opens Silent after.expansion.opens
      → TurnsOver (held_texts at) at.expansion.opens Silent after.expansion.opens
      → AreSound (held_texts after) after.expansion.opens → Turns g at after

-- where a piece stands that an engine lends, its place, and what becomes of that: the bytes at which the innermost cursor stands,
-- where nothing is pending and a text of a usage is open, after which what stands there is opened, or texts are closed of which
-- nothing is left, and the open texts alone change; those at which the innermost source's buffer stands, where none is open, and it
-- goes on after them; the first of what is pending, an LF, a fixed text, the shown name or digits, which is pending no more; or no
-- bytes. But for no bytes the engine marks where it lent
pub data StandsIn {S R : Type 0} (g : Ghosts S R) (at after : EngineView S R) (piece : List ℕ) (place : Option PlaceView) : Type 0 where
  AtCursor : (text : TextPlace) → at.pending ≡ nothing_pending → IsFrontPlace at.expansion.opens text → piece ≡ place_bytes (held_texts at) text
      → TurnsOver (held_texts at) at.expansion.opens (Lends text) after.expansion.opens
      → place ≡ Some (usage_place at) → after ≡ record at { expansion = after.expansion; marks = lends_usage at.expansion.line at.marks } → StandsIn g at after piece place
  AtSource : (len lines : ℕ) (next : Mode) → at.pending ≡ nothing_pending → at.expansion.opens ≡ [] → piece ≡ take len (held_of (inner_buffer at.files.include_stack))
      → place ≡ Some (source_place at)
      → after ≡ record at { files = record at.files { include_stack = with_inner (consumed_file len lines) (with_buffer (entered_mode (inner_buffer at.files.include_stack) next) at.files.include_stack) }; marks = lends_line (inner_buffer at.files.include_stack).line at.marks } → StandsIn g at after piece place
  AtPending : (lent : PendingPiece) (rest : PendingView) → TakesPiece (inner_name at.files.include_stack) at.pending rest lent
      → piece ≡ take lent.len (part_bytes lent.part (inner_name at.files.include_stack) (digits_of rest.origin)) → place ≡ pending_place at → after ≡ record at { pending = rest; marks = lends_pending at.pending (inner_buffer at.files.include_stack).line at.marks } → StandsIn g at after piece place
  Nowhere : piece ≡ [] → Turns g at after → StandsIn g at after piece place

-- a step that lends no bytes, but for how far the engine is and how many bytes may be lent
pub record LendsNone {S R : Type 0} (g : Ghosts S R) (old new : EngineView S R) : Type 0 where
  pub after : EngineView S R
  pub place : Option PlaceView
  pub stands : StandsIn g old after [] place
  pub becomes : new ≡ record after { phase = new.phase; quota = new.quota }

-- such steps one after another, over these engines
abbrev pub LendNone : {S R : Type 0} → Ghosts S R → EngineView S R → List (EngineView S R) → EngineView S R → Type 0
LendNone g old [] new = new ≡ old
LendNone g old (mid ∷ mids) new = LendsNone g old mid × LendNone g mid mids new

-- an engine that another one becomes by steps that lend no bytes, whatever its sources tell
pub record Reaches {S R : Type 0} (g : Ghosts S R) (old new : EngineView S R) : Type 0 where
  pub between : List (EngineView S R)
  pub steps : LendNone g old between new

-- the bytes that are lent are those of a piece, as many as may be, where the engine stood that was reached by steps that lend none, of which there are no
-- more than so many, from which the same text remained, and which became this one, but for how far it is and how many bytes may be lent; and the place of
-- the piece is the one that this one tells
pub record LendsWhere {S R : Type 0} (g : Ghosts S R) (silent : ℕ) (most : List ℕ → List ℕ) (old new : EngineView S R) (bytes : List ℕ) : Type 0 where
  pub at : EngineView S R
  pub reached : Reaches g old at
  pub few : length reached.between ≤ silent
  pub text : g.has_known_texts old.sources → text_of g old ≡ text_of g at
  pub after : EngineView S R
  pub becomes : new ≡ record after { phase = new.phase; quota = new.quota }
  pub piece : List ℕ
  pub lent : bytes ≡ most piece
  pub stands : StandsIn g at after piece (position_of new)
