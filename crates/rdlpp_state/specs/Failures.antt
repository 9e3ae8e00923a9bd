-- Faults of a device or of memory, and engines that may go on after one.
-- A definition that names no source is this project's own.
use Rattle.std.specs.Prelude.{◌≡◌, ◌⊎◌, ◌&&◌, ◌||◌, ℕ, Bool, true, false, List, codes, nat_eq, Option, None, Some}
use Rattle.std.specs.List.{starts_with}
use Rattle.rdlpp_meaning.specs.declared.fault.FaultKind.{FaultKind}
use Rattle.rdlpp_meaning.specs.declared.fault.FaultKind.TheVariants.{ReadFailed, WriteFailed, SourceMemory, EmbeddedPerl}
use Rattle.rdlpp_meaning.specs.Outcome.{Report}
use Rattle.rdlpp_read.specs.Buffer.{held_of}
use Rattle.rdlpp_read.specs.Files.{inner_buffer}
use Rattle.rdlpp_state.specs.Engine.{EngineView}
use Rattle.rdlpp_state.specs.declared.phase.Phase.{Phase}
use Rattle.rdlpp_state.specs.declared.phase.Phase.TheVariants.{Fresh, Open, OverLimit, Closed}

-- whether a kind is that of a read that failed
unfoldable pub is_read_failed : FaultKind → Bool
is_read_failed EmbeddedPerl = false
is_read_failed ReadFailed = true
is_read_failed _ = false

-- whether a kind is that of a write that failed
unfoldable pub is_write_failed : FaultKind → Bool
is_write_failed EmbeddedPerl = false
is_write_failed WriteFailed = true
is_write_failed _ = false

-- whether a kind is that of memory that was refused for a source
unfoldable pub is_memory_kind : FaultKind → Bool
is_memory_kind EmbeddedPerl = false
is_memory_kind SourceMemory = true
is_memory_kind _ = false

-- whether a kind is that of a source that couldn't be read or searched for: a device failed, or memory was refused
unfoldable pub is_call_failed : FaultKind → Bool
is_call_failed kind = is_read_failed kind || is_memory_kind kind

-- whether bytes may follow
unfoldable pub may_follow : Phase → Bool
may_follow Fresh = false
may_follow Open = true
may_follow OverLimit = false
may_follow Closed = false

-- whether what is held begins with the word of an `include`
unfoldable pub begins_include : List ℕ → Bool
begins_include held = starts_with nat_eq held (codes "`include")

-- whether the main text has ended, or couldn't be opened
unfoldable pub is_over : Phase → Bool
is_over Fresh = false
is_over Open = false
is_over OverLimit = false
is_over Closed = true

-- whether a fault is kept that is one of a device or of memory
unfoldable pub is_failed_call : Option Report → Bool
is_failed_call None = false
is_failed_call (Some f) = is_call_failed f.kind

-- whether the fault of a search for an included source is kept that failed at a device or for memory: it leaves the engine at the
-- `include` that asked for it, and that of a read leaves it where no byte is held, or at a `define` (this project's profile)
unfoldable pub is_failed_search : {S R : Type 0} → EngineView S R → Bool
is_failed_search e = is_failed_call e.kept && (may_follow e.phase && begins_include (held_of (inner_buffer e.files.include_stack)))

-- whether the fault of an opening of the main text is kept that failed at a device or for memory: no other such fault comes where no
-- text is open (this project's profile)
unfoldable pub is_failed_start : {S R : Type 0} → EngineView S R → Bool
is_failed_start e = is_failed_call e.kept && is_over e.phase

-- an engine that may go on: no fault is kept, or that of a search or of an opening which failed, and which is made again
abbrev pub MayGoOn : {S R : Type 0} → EngineView S R → Type 0
MayGoOn e = (e.kept ≡ None) ⊎ ((is_failed_search e || is_failed_start e) ≡ true)
