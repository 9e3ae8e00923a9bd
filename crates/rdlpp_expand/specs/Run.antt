-- What a run writes, and how it ends.
-- A definition that names no source is this project's own.
use Rattle.std.specs.Prelude.{◌≡◌, ℕ, ◌-◌, ◌^◌, ◌⊎◌, min, Bool, true, false, not, ◌||◌, List, [], ◌++◌, length, Option, None, Some, Result, Ok, Err, IfSome, IsSomeAnd}
use Rattle.std.specs.Io.KnownBytes.{Appends, Keeps}
use Rattle.rdlpp_source.specs.Counts.{Counts}
use Rattle.rdlpp_source.specs.declared.sources.Sources.{Ghosts}
use Rattle.rdlpp_source.specs.declared.sinks.Sink.{Ghosts as SinkGhosts}
use Rattle.rdlpp_meaning.specs.declared.fault.FaultKind.{FaultKind}
use Rattle.rdlpp_meaning.specs.declared.fault.FaultKind.TheVariants.{WriteFailed}
use Rattle.rdlpp_meaning.specs.Outcome.{Report, report_of, Outcome, gives, fails, and_then}
use Rattle.rdlpp_state.specs.Calls.{SourcesCalled}
use Rattle.rdlpp_state.specs.Engine.{EngineView, is_open}
use Rattle.rdlpp_state.specs.Held.{IsBounded}
use Rattle.rdlpp_state.specs.Stored.{HoldsStores, LetsGo}
use Rattle.rdlpp_state.specs.Pending.{nothing_pending}
use Rattle.rdlpp_state.specs.Remaining.{left_of}
use Rattle.rdlpp_state.specs.Steps.{Step, FailsAt, IsStarted, Stood, is_call_failed, is_memory_kind, is_read_failed, is_write_failed}
use Rattle.rdlpp_state.specs.declared.phase.Phase.TheVariants.{Open, Closed}
use Rattle.rdlpp_expand.specs.declared.writing.Ending.{Ending}
use Rattle.rdlpp_expand.specs.declared.writing.Ending.TheVariants.{Finished, Stopped, Unwritten}
use Rattle.rdlpp_expand.specs.declared.writing.RunFault.{RunFault}

-- the fault of a write that failed: under the main text's name, at line 0, about no word (source: this project's profile)
unfoldable pub write_fault : List ℕ → Report
write_fault main = record { kind = WriteFailed; name = main; line = 0; word = [] }

-- whether a call answered a fault of such a kind, and none was kept before the call (source: this project's profile)
unfoldable pub is_fresh : (FaultKind → Bool) → Option Report → Option Report → Bool
is_fresh test (Some f) fault = false
is_fresh test None None = false
is_fresh test None (Some f) = test f.kind

-- the bytes of an outcome begin with these (source: this project's profile)
abbrev pub Begins : List ℕ → Outcome → Type 0
Begins bytes outcome = (rest : List ℕ) × (outcome.bytes ≡ bytes ++ rest)

-- whether a fault of such a kind is kept (source: this project's profile)
unfoldable pub is_kept : (FaultKind → Bool) → Option Report → Bool
is_kept test None = false
is_kept test (Some f) = test f.kind

-- whether a write failed (source: this project's profile)
abbrev pub is_unwritten : Option Ending → Bool
is_unwritten None = false
is_unwritten (Some Finished) = false
is_unwritten (Some Stopped) = false
is_unwritten (Some Unwritten) = true

-- the fault that the engine answered, if it did: the one that it keeps (source: this project's profile)
abbrev pub answered : Option Ending → Option Report → Option Report
answered None kept = None
answered (Some Finished) kept = None
answered (Some Stopped) kept = kept
answered (Some Unwritten) kept = None

-- a sink wasn't asked to flush (source: this project's profile)
pub record Unflushed {W : Type 0} (h : SinkGhosts W) (before after : W) : Type 0 where
  pub failed_flushes : h.failed_flushes after ≡ h.failed_flushes before
  pub flushes : h.flushes after ≡ h.flushes before

-- what a flush did to a sink: it was asked for, and failed or not (source: this project's profile)
pub record Flushes {W : Type 0} (h : SinkGhosts W) (failed : Bool) (before after : W) : Type 0 where
  pub bytes : Keeps (h.taken before) (h.taken after)
  pub asked : Counts true (h.flushes before) (h.flushes after)
  pub failures : Counts failed (h.failed_flushes before) (h.failed_flushes after)
  pub writes : h.failed_writes after ≡ h.failed_writes before

-- a step that came to a fault (source: this project's profile)
pub record StopsAt {S R : Type 0} (g : Ghosts S R) (old new : EngineView S R) (bytes : List ℕ) : Type 0 where
  pub fault : Report
  pub steps : Step g old new (Err fault)
  pub none : bytes ≡ []

-- the step of a pull, by how it ended: a whole piece was written, there was none, a fault came, or a piece was written in
-- part (source: this project's profile)
abbrev pub PullEnds : {S R : Type 0} → Ghosts S R → EngineView S R → EngineView S R → List ℕ → Option Ending → Type 0
PullEnds g old new bytes None = Step g old new (Ok (Some bytes))
PullEnds g old new bytes (Some Finished) = Step g old new (Ok None) × (bytes ≡ [])
PullEnds g old new bytes (Some Stopped) = StopsAt g old new bytes
PullEnds g old new bytes (Some Unwritten) = (rest : List ℕ) × Step g old new (Ok (Some (bytes ++ rest)))

-- a pull: what the sink took of a piece, and how many bytes; the sink's counts; the engine's step (source: this project's
-- profile)
pub record Pulls {S R W : Type 0} (g : Ghosts S R) (h : SinkGhosts W) (old new : EngineView S R) (before after : W) (len : ℕ) (ending : Option Ending) : Type 0 where
  pub bytes : List ℕ
  pub taken : Appends (h.taken before) (h.taken after) bytes
  pub count : len ≡ length bytes
  pub writes : Counts (is_unwritten ending) (h.failed_writes before) (h.failed_writes after)
  pub quiet : Unflushed h before after
  pub ends : PullEnds g old new bytes ending

-- where a read or a search failed, what was written and then what remains, but for the fault that is kept, is what remained; where a read failed in the
-- call of a usage, what remains is that before the usage (source: this project's profile)
pub record LeavesRest {S R : Type 0} (g : Ghosts S R) (old new : EngineView S R) (bytes : List ℕ) : Type 0 where
  pub at : EngineView S R
  pub stood : Stood g at new
  pub rest : g.has_known_texts old.sources → left_of g old ≡ and_then (gives bytes) (left_of g (record at { kept = None }))

-- pieces were written, and the output goes on: a fault is kept only where one was kept at first, and then nothing was
-- written (source: this project's profile)
pub record Going {S R : Type 0} (g : Ghosts S R) (old new : EngineView S R) (bytes : List ℕ) : Type 0 where
  pub kept : new.kept ≡ old.kept
  pub open_ : (new ≡ old) ⊎ (is_open new.phase ≡ true)
  pub answers : g.has_known_texts old.sources → left_of g old ≡ and_then (gives bytes) (left_of g new)
  pub again : (f : Report) → old.kept ≡ Some f → (bytes ≡ []) × (new ≡ old)
  pub lets_go : LetsGo old → LetsGo new
  pub stores : g.has_known_texts old.sources → HoldsStores g old → HoldsStores g new

-- the whole output was written (source: this project's profile)
pub record Finishes {S R : Type 0} (g : Ghosts S R) (old new : EngineView S R) (bytes : List ℕ) : Type 0 where
  pub free : old.kept ≡ None
  pub kept : new.kept ≡ None
  pub closed : new.phase ≡ Closed
  pub answers : g.has_known_texts old.sources → left_of g old ≡ gives bytes
  pub drained : old.phase ≡ Open → new.pending ≡ nothing_pending
  pub bounded : IsBounded new
  pub lets_go : LetsGo old → LetsGo new
  pub stores : g.has_known_texts old.sources → HoldsStores g old → HoldsStores g new

-- the output was written up to a fault (source: this project's profile)
pub record Stops {S R : Type 0} (g : Ghosts S R) (old new : EngineView S R) (bytes : List ℕ) : Type 0 where
  pub fault : Report
  pub kept : new.kept ≡ Some fault
  pub own : is_fresh is_write_failed old.kept (Some fault) ≡ false
  pub failed : is_fresh is_call_failed old.kept (Some fault) ≡ true → FailsAt new fault
  pub rest : is_fresh is_call_failed old.kept (Some fault) ≡ true → LeavesRest g old new bytes
  pub begins : g.has_known_texts old.sources → Begins bytes (left_of g old)
  pub answers : is_fresh is_call_failed old.kept (Some fault) ≡ false → g.has_known_texts old.sources → left_of g old ≡ and_then (gives bytes) (fails fault)
  pub again : (k : Report) → old.kept ≡ Some k → (k ≡ fault) × (bytes ≡ []) × (new ≡ old)
  pub bounded : IsBounded new
  pub lets_go : LetsGo old → LetsGo new
  pub stores : g.has_known_texts old.sources → HoldsStores g old → HoldsStores g new

-- the output was written up to a write that failed (source: this project's profile)
pub record Breaks {S R : Type 0} (g : Ghosts S R) (old new : EngineView S R) (bytes : List ℕ) : Type 0 where
  pub free : old.kept ≡ None
  pub kept : new.kept ≡ None
  pub begins : g.has_known_texts old.sources → Begins bytes (left_of g old)
  pub bounded : IsBounded new
  pub lets_go : LetsGo old → LetsGo new
  pub stores : g.has_known_texts old.sources → HoldsStores g old → HoldsStores g new

-- how far the output was written, by how it ended (source: this project's profile)
abbrev pub WroteEnds : {S R : Type 0} → Ghosts S R → EngineView S R → EngineView S R → List ℕ → Option Ending → Type 0
WroteEnds g old new bytes None = Going g old new bytes
WroteEnds g old new bytes (Some Finished) = Finishes g old new bytes
WroteEnds g old new bytes (Some Stopped) = Stops g old new bytes
WroteEnds g old new bytes (Some Unwritten) = Breaks g old new bytes

-- pulls in a row: what the sink took, and how many bytes, up to `u64::MAX`; the counts; and how far the output was written (source: this project's profile)
pub record Wrote {S R W : Type 0} (g : Ghosts S R) (h : SinkGhosts W) (old new : EngineView S R) (before after : W) (count : ℕ) (ending : Option Ending) : Type 0 where
  pub bytes : List ℕ
  pub taken : Appends (h.taken before) (h.taken after) bytes
  pub counted : count ≡ min (length bytes) (2 ^ 64 - 1)
  pub writes : Counts (is_unwritten ending) (h.failed_writes before) (h.failed_writes after)
  pub quiet : Unflushed h before after
  pub reads : SourcesCalled g (is_fresh is_read_failed old.kept (answered ending new.kept)) (is_fresh is_memory_kind old.kept (answered ending new.kept)) old.sources new.sources
  pub limits : new.limits ≡ old.limits
  pub origins : new.origins ≡ old.origins
  pub main : new.main ≡ old.main
  pub most_bytes : new.table.most_bytes ≡ old.table.most_bytes
  pub most_macros : new.table.most_macros ≡ old.table.most_macros
  pub started : IsStarted new
  pub ends : WroteEnds g old new bytes ending

-- the count that an answer of a run tells (source: this project's profile)
abbrev pub count_of : Result ℕ RunFault → ℕ
count_of (Ok n) = n
count_of (Err f) = f.written

-- the fault that an answer of a run tells, if it does (source: this project's profile)
abbrev pub fault_of : Result ℕ RunFault → Option Report
fault_of (Ok n) = None
fault_of (Err f) = Some (report_of f.fault)

-- a run: the bytes that the writer took in this call and their count, up to `u64::MAX`; and whether a write failed, a flush
-- failed, and a flush was asked for. Where the sources tell their texts the bytes are the output that remained, or its first
-- bytes; and where no device failed and no memory was refused they are that output whole, and its end is the answer. A fault of
-- a read or of a search that failed comes, unless it was kept, where the count of the sources' failures rose, and always there,
-- and so with memory that was refused, by its own count; it tells the line that was read, or that of the `include` that asked for
-- the search, under the shown name, and the bytes and then what remains but for that fault are what remained, or what remains before
-- the usage in whose call a read failed. Where the output
-- ended, nothing is pending. A fault of a write that failed comes
-- where the writer's count of failed writes or of failed flushes rose; and always where that of failed writes rose; and
-- where that of failed flushes rose, the answer is such a fault, or the one that came before the flush; a flush alone is answered as such
-- a fault only after the whole output. A flush is asked for
-- once, unless a write failed, now or before. A kept fault is answered again, and then nothing is written and the engine
-- stays as it is. The fault that is answered is kept, and after the end none is (source: this project's profile)
pub record Runs {S R W : Type 0} (g : Ghosts S R) (h : SinkGhosts W) (old new : EngineView S R) (before after : W) (count : ℕ) (fault : Option Report) : Type 0 where
  pub bytes : List ℕ
  pub unwritten : Bool
  pub unflushed : Bool
  pub asked : Bool
  pub taken : Appends (h.taken before) (h.taken after) bytes
  pub counted : count ≡ min (length bytes) (2 ^ 64 - 1)
  pub begins : g.has_known_texts old.sources → Begins bytes (left_of g old)
  pub exact : is_fresh is_call_failed old.kept fault ≡ false → is_fresh is_write_failed old.kept fault ≡ false → g.has_known_texts old.sources → left_of g old ≡ record { bytes = bytes; fault = fault }
  pub reads : SourcesCalled g (is_fresh is_read_failed old.kept fault) (is_fresh is_memory_kind old.kept fault) old.sources new.sources
  pub failed : is_fresh is_call_failed old.kept fault ≡ true → IfSome fault (FailsAt new)
  pub rest : is_fresh is_call_failed old.kept fault ≡ true → LeavesRest g old new bytes
  pub writes : Counts unwritten (h.failed_writes before) (h.failed_writes after)
  pub failed_flushes : Counts unflushed (h.failed_flushes before) (h.failed_flushes after)
  pub flushes : Counts asked (h.flushes before) (h.flushes after)
  pub asks : asked ≡ not (unwritten || is_kept is_write_failed old.kept)
  pub unflushed_asked : unflushed ≡ true → asked ≡ true
  pub write_failed : is_fresh is_write_failed old.kept fault ≡ true → ((unwritten || unflushed) ≡ true) × (fault ≡ Some (write_fault old.main))
  pub unwritten_told : unwritten ≡ true → is_fresh is_write_failed old.kept fault ≡ true
  pub unflushed_told : unflushed ≡ true → (is_fresh is_write_failed old.kept fault ≡ true) ⊎ IsSomeAnd fault (λ f. is_write_failed f.kind ≡ false)
  pub flushed : is_fresh is_write_failed old.kept fault ≡ true → unwritten ≡ false → (new.phase ≡ Closed) × (g.has_known_texts old.sources → left_of g old ≡ gives bytes)
  pub again : (f : Report) → old.kept ≡ Some f → (fault ≡ Some f) × (bytes ≡ []) × (new ≡ old)
  pub kept : new.kept ≡ fault
  pub closed : fault ≡ None → new.phase ≡ Closed
  pub drained : fault ≡ None → old.phase ≡ Open → new.pending ≡ nothing_pending
  pub limits : new.limits ≡ old.limits
  pub origins : new.origins ≡ old.origins
  pub main : new.main ≡ old.main
  pub most_bytes : new.table.most_bytes ≡ old.table.most_bytes
  pub most_macros : new.table.most_macros ≡ old.table.most_macros
  pub started : IsStarted new
  pub bounded : IsBounded new
  pub lets_go : LetsGo old → LetsGo new
  pub stores : g.has_known_texts old.sources → HoldsStores g old → HoldsStores g new
