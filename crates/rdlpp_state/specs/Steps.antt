-- What a step of an engine does.
-- A definition that names no source is this project's own.
use Rattle.std.specs.Prelude.{◌≡◌, ℕ, ◌+◌, ◌<◌, ◌≤◌, Bool, true, false, List, [], ◌++◌, Option, None, Some, Result, Ok, Err, IfErr, IfOk, length, take, ⊤, ◌⊎◌, codes}
use Rattle.rdlpp_scan.specs.declared.token.Mode.TheVariants.{Plain}
use Rattle.rdlpp_source.specs.declared.sources.Sources.{Ghosts}
use Rattle.rdlpp_meaning.specs.declared.fault.FaultKind.{FaultKind}
use Rattle.rdlpp_meaning.specs.declared.fault.FaultKind.TheVariants.{ReadFailed}
use Rattle.rdlpp_meaning.specs.Meaning.{Passage, after_bytes, leaves}
use Rattle.rdlpp_meaning.specs.State.{State, fault_at}
use Rattle.rdlpp_meaning.specs.Outcome.{Report, Outcome, gives, fails, and_then}
use Rattle.rdlpp_read.specs.Buffer.{BufferView, Slides, held_of, reading_line_of}
use Rattle.rdlpp_define.specs.Macros.{Macro}
use Rattle.rdlpp_define.specs.Table.{macro_named}
use Rattle.rdlpp_read.specs.Files.{consumed_file, inner_buffer, with_buffer, with_inner}
use Rattle.rdlpp_front.specs.SourceItems.{IsUsage, usage_name}
use Rattle.rdlpp_usages.specs.Usages.{KeepsUsage, UsesSource, is_opened}
use Rattle.rdlpp_usages.specs.declared.expansion.Opening.{Opening}
use Rattle.rdlpp_state.specs.Calls.{SourcesCalled}
use Rattle.rdlpp_state.specs.Engine.{EngineView, is_open}
unfoldable pub use Rattle.rdlpp_state.specs.Failures.{is_call_failed, is_memory_kind, is_read_failed, is_write_failed, may_follow}
use Rattle.rdlpp_state.specs.Held.{IsBounded}
use Rattle.rdlpp_state.specs.Includes.{IsSearch}
use Rattle.rdlpp_state.specs.Pending.{nothing_pending}
use Rattle.rdlpp_state.specs.Silences.{most_silent}
use Rattle.rdlpp_state.specs.Standing.{LendsWhere, Reaches}
use Rattle.rdlpp_state.specs.Stored.{HoldsStores, LetsGo, called_formals}
use Rattle.rdlpp_state.specs.Remaining.{left_of, output_fault, uncut_of, state_of, text_of, work_left}
use Rattle.rdlpp_state.specs.declared.phase.Phase.{Phase}
use Rattle.rdlpp_state.specs.declared.phase.Phase.TheVariants.{Fresh, Open, OverLimit, Closed}

-- whether an answer is a fault of such a kind, and none was kept before the call
unfoldable pub has_met : (FaultKind → Bool) → Option Report → Result (Option (List ℕ)) Report → Bool
has_met test (Some f) answer = false
has_met test None (Ok lent) = false
has_met test None (Err f) = test f.kind

-- whether an answer is a read that failed in this call
abbrev pub has_failed : Option Report → Result (Option (List ℕ)) Report → Bool
has_failed kept answer = has_met is_read_failed kept answer

-- whether an answer is memory that was refused in this call
abbrev pub has_refused : Option Report → Result (Option (List ℕ)) Report → Bool
has_refused kept answer = has_met is_memory_kind kept answer

-- whether an answer is a read or a search that failed in this call, at a device or for memory
abbrev pub has_stopped : Option Report → Result (Option (List ℕ)) Report → Bool
has_stopped kept answer = has_met is_call_failed kept answer

-- a kind of fault that is a text's own: none of a device or of memory
pub record IsOwn (kind : FaultKind) : Type 0 where
  pub read : is_read_failed kind ≡ false
  pub write : is_write_failed kind ≡ false
  pub memory : is_memory_kind kind ≡ false

-- what an answer says of what remained: bytes that were lent and then what remains now, the end, or the fault
abbrev pub Tells : Result (Option (List ℕ)) Report → Outcome → Outcome → Type 0
Tells (Ok (Some bytes)) old new = old ≡ and_then (gives bytes) new
Tells (Ok None) old new = (old ≡ gives []) × (new ≡ gives [])
Tells (Err f) old new = old ≡ fails f

-- where the text has ended: its last state has the macros that an engine has, and no source is open
pub record EndsText {S R : Type 0} (new : EngineView S R) (old : Passage) : Type 0 where
  pub last : State
  pub text : old ≡ leaves (gives []) last
  pub macros : last.macros ≡ new.table.macros
  pub closed : new.files.include_stack ≡ []

-- a piece of so many bytes, of which these are lent
pub record LendsText (most : List ℕ → List ℕ) (bytes : List ℕ) (old new : Passage) : Type 0 where
  pub piece : List ℕ
  pub lent : bytes ≡ most piece
  pub text : old ≡ after_bytes piece new

-- what an answer says of what remained of the text, with the state after it: a piece and then what remains now; the end; or the
-- fault, in the state that the engine stands in
abbrev pub TellsText : {S R : Type 0} → (List ℕ → List ℕ) → Ghosts S R → Result (Option (List ℕ)) Report → Passage → EngineView S R → Type 0
TellsText most g (Ok (Some bytes)) old new = LendsText most bytes old (text_of g new)
TellsText most g (Ok None) old new = EndsText new old
TellsText most g (Err f) old new = old ≡ leaves (fails f) (state_of new)

-- a source is read only where no byte is held of it, or where a `define` begins what is held
abbrev pub IsReading : {R : Type 0} → BufferView R → Type 0
IsReading b = (held_of b ≡ []) ⊎ ((rest : List ℕ) × (held_of b ≡ codes "`define" ++ rest))

-- the fault of a read that failed, at the line that is read; or that of a search that failed, at the line of the `include` that
-- asked for it
pub data FailsAt {S R : Type 0} (e : EngineView S R) (f : Report) : Type 0 where
  OnRead : IsReading (inner_buffer e.files.include_stack) → f ≡ fault_at ReadFailed (reading_line_of (inner_buffer e.files.include_stack)) [] (state_of e) → FailsAt e f
  OnSearch : IsSearch e → (kind : FaultKind) → is_call_failed kind ≡ true → f ≡ fault_at kind (inner_buffer e.files.include_stack).line [] (state_of e) → FailsAt e f

-- an engine that stopped in the call of a usage, before which another one stood: no text of a usage is open, and of the one before it nothing changed but
-- the fault that is kept, what is read and used of the innermost source, and what is kept of the call, which stays
pub record StopsInCall {S R : Type 0} (g : Ghosts S R) (at new : EngineView S R) : Type 0 where
  pub len : ℕ
  pub mode : (inner_buffer at.files.include_stack).mode ≡ Plain
  pub usage : IsUsage (held_of (inner_buffer at.files.include_stack)) len
  pub idle : at.expansion.opens ≡ []
  pub becomes : new ≡ record at { kept = new.kept; files = new.files; sources = new.sources; expansion = record at.expansion { arguments = new.expansion.arguments } }
  pub only : new.files ≡ record at.files { include_stack = new.files.include_stack }
  pub opening : Opening
  pub unopened : is_opened opening ≡ false
  pub macro : Macro
  pub named : macro_named at.table.macros (usage_name (held_of (inner_buffer at.files.include_stack)) len) ≡ Some macro
  pub kept : KeepsUsage macro.formals (g.has_known_texts at.sources) g.unread at.expansion.most opening new.expansion.arguments (inner_buffer (with_inner (consumed_file len 0) at.files.include_stack)) (inner_buffer new.files.include_stack)
  pub uses : UsesSource (g.has_known_texts at.sources) g.unread opening at.files.include_stack new.files.include_stack

-- which engine it is whose text remains where a read or a search failed: the one that stopped, or the one before the usage in whose call that is, of
-- whose source no byte is held any more
pub data Stood {S R : Type 0} (g : Ghosts S R) (at new : EngineView S R) : Type 0 where
  Itself : at ≡ new → Stood g at new
  BeforeCall : StopsInCall g at new → held_of (inner_buffer new.files.include_stack) ≡ [] → Stood g at new

-- a read or a search that failed: the text is still open, and what remained of it remains; where a read failed in the call of a usage, it remains before that
pub record StopsReading {S R : Type 0} (g : Ghosts S R) (old new : EngineView S R) : Type 0 where
  pub open_ : old.phase ≡ Open
  pub still : new.phase ≡ Open
  pub at : EngineView S R
  pub stood : Stood g at new
  pub text : g.has_known_texts old.sources → text_of g old ≡ text_of g at

-- an engine that stopped at the front of what is held: nothing changed but the fault that is kept and what is read of the innermost source, whose window
-- moved on over its text, and no source was closed; a byte after a line that is too long may be lost
pub record StopsAtFront {S R : Type 0} (g : Ghosts S R) (at new : EngineView S R) : Type 0 where
  pub becomes : new ≡ record at { kept = new.kept; files = new.files; sources = new.sources }
  pub only : new.files ≡ record at.files { include_stack = with_buffer (inner_buffer new.files.include_stack) at.files.include_stack }
  pub moves : Slides (g.has_known_texts at.sources) ⊥ g.unread (inner_buffer at.files.include_stack) (inner_buffer new.files.include_stack)

-- where a fault comes: at the front of what is held, or in the call of a usage that stands there
pub data Faulted {S R : Type 0} (g : Ghosts S R) (at new : EngineView S R) : Type 0 where
  AtFront : StopsAtFront g at new → Faulted g at new
  InCall : StopsInCall g at new → Faulted g at new

-- a fault in an open text: it came to an engine that was reached by steps that lend none, of which there are no more than so many, of
-- which the same text remained, and that pending nothing; that engine kept nothing where no call in the source was open
pub record FaultsWhere {S R : Type 0} (g : Ghosts S R) (silent : ℕ) (old new : EngineView S R) : Type 0 where
  pub at : EngineView S R
  pub reached : Reaches g old at
  pub few : length reached.between ≤ silent
  pub idle : LetsGo old → called_formals at.table.macros at.expansion.opens ≡ None → at.expansion.arguments ≡ []
  pub text : g.has_known_texts old.sources → text_of g old ≡ text_of g at
  pub drained : at.pending ≡ nothing_pending
  pub stopped : Faulted g at new

-- what an answer leaves of an open text: where it ended, nothing is pending; where a fault came, nothing else changed
abbrev pub EndsOrFaults : {S R : Type 0} → Ghosts S R → ℕ → Result (Option (List ℕ)) Report → EngineView S R → EngineView S R → Type 0
EndsOrFaults g silent (Ok (Some bytes)) old new = ⊤
EndsOrFaults g silent (Ok None) old new = new.pending ≡ nothing_pending
EndsOrFaults g silent (Err f) old new = FaultsWhere g silent old new

-- an engine that was started
abbrev pub IsStarted : {S R : Type 0} → EngineView S R → Type 0
IsStarted e = e.phase ≡ Fresh → ⊥

-- a step: a kept fault is answered again and changes nothing, and so is the end; a fault is kept, one of a write that failed
-- comes only so, and bytes leave none kept; the main text's name; the counts of failures; the output that remained is what was lent
-- and then the output that remains; so it is with the text and the state after it; where a read or a search failed, the same text remains; what
-- is pending and what changed at the end and at a fault; the work left falls; bytes come of an open text alone; what may still be lent;
-- the room of the table; the bound holds; before a piece so many parts of it at most lent none
pub record StepSpec {S R : Type 0} (g : Ghosts S R) (silent : ℕ) (left : EngineView S R → Outcome) (spent : Result (Option (List ℕ)) Report → ℕ)
    (most : ℕ → List ℕ → List ℕ) (goes_on : Phase → Bool) (old new : EngineView S R) (answer : Result (Option (List ℕ)) Report) : Type 0 where
  pub limits : new.limits ≡ old.limits
  pub origins : new.origins ≡ old.origins
  pub main : new.main ≡ old.main
  pub started : IsStarted new
  pub kept : (f : Report) → old.kept ≡ Some f → (answer ≡ Err f) × (new ≡ old)
  pub ended : old.kept ≡ None → old.phase ≡ Closed → (answer ≡ Ok None) × (new ≡ old)
  pub passed : old.kept ≡ None → old.phase ≡ OverLimit → (answer ≡ Err (output_fault old.main)) × (new ≡ record old { kept = Some (output_fault old.main) })
  pub keeps : IfErr answer (λ f. new.kept ≡ Some f)
  pub free : IfOk answer (λ lent. new.kept ≡ None)
  pub own : old.kept ≡ None → IfErr answer (λ f. is_write_failed f.kind ≡ false)
  pub ends : answer ≡ Ok None → (new.kept ≡ None) × (new.phase ≡ Closed)
  pub failed : has_stopped old.kept answer ≡ true → IfErr answer (FailsAt new)
  pub call : SourcesCalled g (has_failed old.kept answer) (has_refused old.kept answer) old.sources new.sources
  pub answers : has_stopped old.kept answer ≡ false → g.has_known_texts old.sources → Tells answer (left old) (left new)
  pub text : old.kept ≡ None → old.phase ≡ Open → has_stopped old.kept answer ≡ false → g.has_known_texts old.sources
      → TellsText (most old.quota) g answer (text_of g old) new
  pub reads : has_stopped old.kept answer ≡ true → StopsReading g old new
  pub ends_or_faults : old.kept ≡ None → old.phase ≡ Open → EndsOrFaults g silent answer old new
  pub falls : (bytes : List ℕ) → answer ≡ Ok (Some bytes) → work_left new < work_left old
  pub lends : (bytes : List ℕ) → answer ≡ Ok (Some bytes) → (old.phase ≡ Open) × (goes_on new.phase ≡ true)
  pub quota : new.quota + spent answer ≡ old.quota
  pub most_bytes : new.table.most_bytes ≡ old.table.most_bytes
  pub most_macros : new.table.most_macros ≡ old.table.most_macros
  pub bounded : IsBounded new
  pub stands : old.kept ≡ None → old.phase ≡ Open → (bytes : List ℕ) → answer ≡ Ok (Some bytes) → LendsWhere g silent (most old.quota) old new bytes
  pub lets_go : LetsGo old → LetsGo new
  pub stores : g.has_known_texts old.sources → HoldsStores g old → HoldsStores g new

-- how many bytes an answer lends
unfoldable pub lent_len : Result (Option (List ℕ)) Report → ℕ
lent_len (Ok (Some bytes)) = length bytes
lent_len (Ok None) = 0
lent_len (Err f) = 0

-- none, whatever is answered
unfoldable pub no_len : Result (Option (List ℕ)) Report → ℕ
no_len answer = 0

-- all of a piece, whatever may still be lent
unfoldable pub all_of : ℕ → List ℕ → List ℕ
all_of quota piece = piece

-- a step over what remains of the output, in which the lent bytes count: no more are lent of a piece than may be (this project's
-- profile)
abbrev pub Step : {S R : Type 0} → Ghosts S R → EngineView S R → EngineView S R → Result (Option (List ℕ)) Report → Type 0
Step g old new answer = StepSpec g most_silent (left_of g) lent_len take is_open old new answer

-- a step over what remains without the limit on the output, of which so many parts at most before a piece lent no bytes
abbrev pub UncutStepWithin : {S R : Type 0} → Ghosts S R → ℕ → EngineView S R → EngineView S R → Result (Option (List ℕ)) Report → Type 0
UncutStepWithin g silent old new answer = StepSpec g silent (uncut_of g) no_len all_of may_follow old new answer

-- one such step alone
abbrev pub UncutStep : {S R : Type 0} → Ghosts S R → EngineView S R → EngineView S R → Result (Option (List ℕ)) Report → Type 0
UncutStep g old new answer = UncutStepWithin g 0 old new answer
