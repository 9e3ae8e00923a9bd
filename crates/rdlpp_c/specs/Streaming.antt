-- What an open output comes to, and how reads of it are told.
-- A definition that names no source is this project's own.
use Rattle.std.specs.Prelude.{◌≡◌, ℕ, ◌+◌, ◌-◌, ◌^◌, ◌==◌, ⊤, Bool, true, false, min, List, [], ◌∷◌, length, map, take, Option, None, Some, Result, Ok, Err, if◌then◌else◌}
use Rattle.std.specs.List.{count_by}
use Rattle.std.specs.String.{string_bytes}
use Rattle.std.specs.declared.alloc.Global.{Global}
use Rattle.std_alloc.specs.declared.boxed.Box.{Box}
use Rattle.rdlpp_source.specs.declared.sources.Sources.{Ghosts}
use Rattle.rdlpp_source.specs.Asked.{asked_catalog, failures_of, unread_of, wanted_of}
use Rattle.rdlpp_source.specs.declared.asked.AskedTexts.{AskedTexts}
use Rattle.rdlpp_define.specs.Limits.{limit_fault}
use Rattle.rdlpp_meaning.specs.FaultNumbers.{fault_number}
use Rattle.rdlpp_meaning.specs.declared.fault.FaultKind.{FaultKind}
use Rattle.rdlpp_meaning.specs.Outcome.{Report, report_of, Outcome, fails}
use Rattle.rdlpp_state.specs.Opening.{is_device_fault, is_memory_fault}
use Rattle.rdlpp_state.specs.Engine.{EngineView}
use Rattle.rdlpp_state.specs.Searches.{Retries, StartsAgain, is_failed_start}
use Rattle.rdlpp_state.specs.Steps.{is_read_failed}
use Rattle.rdlpp_expand.specs.Reading.{FillsPart, GivesPiece, Leaves, ended_with, reading_left}
use Rattle.rdlpp_expand.specs.declared.reading.ReadEnd.{ReadEnd}
use Rattle.rdlpp_expand.specs.declared.reading.ReadEnd.TheVariants.{Finished, Stopped as StoppedRead}
use Rattle.rdlpp.specs.Preprocess.{output_of}
use Rattle.rdlpp.specs.declared.fault.PrepFault.{PrepFault}
use Rattle.rdlpp.specs.declared.fault.PrepFault.TheVariants.{BadLimits, Run, NoMemory as NoneLeft}
use Rattle.rdlpp_define.specs.declared.options.Options.{Options}
use Rattle.rdlpp_c.specs.Buffers.{overwritten}
use Rattle.rdlpp_c.specs.Knowing.{KnowsTexts}
use Rattle.rdlpp_c.specs.Request.{Asked, AreUtf8, definition_bytes, definition_given}
use Rattle.rdlpp_c.specs.Telling.{name_bytes, numbered, outcome_of, word_bytes}
use Rattle.rdlpp_c.specs.declared.asking.Answer.{Answer}
use Rattle.rdlpp_c.specs.declared.asking.Answer.TheVariants.{Whole, Stopped, BadLimit, BadText, NoMemory}
use Rattle.rdlpp_c.specs.declared.opening.Owned.{Owned}
use Rattle.rdlpp_c.specs.declared.stream.Part.{Part}
use Rattle.rdlpp_c.specs.declared.stream.Stream.{Stream}
use Rattle.rdlpp_c.specs.declared.telling.Outcome.{Outcome as Numbers}

-- what a box owns
abbrev pub boxed : Box Stream Global → Stream
boxed b = b.value

-- what an answer has in its box
abbrev pub boxed_answer : Result (Box Stream Global) Answer → Result Stream Answer
boxed_answer (Ok b) = Ok b.value
boxed_answer (Err answer) = Err answer

-- what a refused opening is answered by
abbrev pub refused_answer : PrepFault → Answer
refused_answer (BadLimits fault) = BadLimit fault
refused_answer NoneLeft = NoMemory
refused_answer (Run run) = Stopped run

-- what sources in memory answer whose readers share their texts: by what is known of each path
abbrev pub owned_sources : Ghosts AskedTexts (List ℕ)
owned_sources = record { has_known_texts = λ _. ⊤; catalog = asked_catalog; unread = unread_of; failures = failures_of; refusals = λ s. s.refusals }

-- options, and sources whose readers share their texts, are what a call asks for
pub record AsksOwned (a : Asked) (options : Options) (sources : AskedTexts) : Type 0 where
  pub limits : options.limits ≡ a.limits
  pub origins : options.origins ≡ a.origins
  pub definitions : map definition_bytes options.defines.items ≡ map definition_given a.definitions
  pub texts : KnowsTexts a.texts sources
  pub folders : map string_bytes sources.folders.items ≡ map (λ folder. folder.path.now) a.folders
  pub asks : sources.asks ≡ a.asks

-- what an output is opened over is what a call asks for
pub record AreOwned (a : Asked) (owned : Owned) : Type 0 where
  pub asks : AsksOwned a owned.options owned.sources
  pub path : string_bytes owned.path ≡ a.path
  pub pieces : owned.pieces ≡ a.pieces

-- the output that a call asks for: that of options and sources which are what it asks for, where its limits are in their ranges
pub record IsStreamed (a : Asked) (output : Outcome) : Type 0 where
  pub options : Options
  pub sources : AskedTexts
  pub asks : AsksOwned a options sources
  pub in_range : limit_fault a.limits ≡ None
  pub is : output_of owned_sources options sources a.path ≡ output

-- the sources of an engine don't ask, and no fault of a device is kept
pub record IsQuiet (engine : EngineView AskedTexts (List ℕ)) : Type 0 where
  pub asks : engine.sources.asks ≡ false
  pub kept : is_device_fault engine.kept ≡ false

-- what remains of a stream is the output that a call asks for, unless its main text was asked for or couldn't be opened, or had no room for a reader
pub record StreamsOutput (a : Asked) (stream : Stream) : Type 0 where
  pub output : Outcome
  pub is : IsStreamed a output
  pub remains : is_device_fault stream.reading.engine.kept ≡ false → is_memory_fault stream.reading.engine.kept ≡ false → reading_left owned_sources stream.reading ≡ output
  pub asks : stream.reading.engine.sources.asks ≡ a.asks
  pub quiet : a.asks ≡ false → IsQuiet stream.reading.engine
  pub path : string_bytes stream.path ≡ a.path
  pub pieces : stream.pieces ≡ a.pieces

-- what opening comes to: a stream of the output; the first limit that is out of its range; bytes that have to be UTF-8 and aren't; want of
-- memory; or the fault of the first definition that is refused, which is the output
abbrev pub OpensStream : Asked → Result Stream Answer → Type 0
OpensStream a (Ok stream) = StreamsOutput a stream
OpensStream a (Err (Whole count)) = ⊥
OpensStream a (Err (Stopped run)) = IsStreamed a (fails (report_of run.fault)) × (run.written ≡ 0)
OpensStream a (Err (BadLimit limit)) = limit_fault a.limits ≡ Some limit
OpensStream a (Err BadText) = (limit_fault a.limits ≡ None) × ¬ (AreUtf8 a)
OpensStream a (Err NoMemory) = limit_fault a.limits ≡ None

-- what opening comes to, whatever it was asked by, over what was made of that
abbrev pub OpensOwned : Owned → Result Stream Answer → Type 0
OpensOwned owned result = (a : Asked) → AreOwned a owned → limit_fault a.limits ≡ None → OpensStream a result

-- the stream that was opened, if one was
abbrev pub opened : Result Stream Answer → Option Stream
opened (Ok stream) = Some stream
opened (Err answer) = None

-- the numbers that tell an opening
abbrev pub open_numbers : Result Stream Answer → Numbers
open_numbers (Ok stream) = numbered 0 0
open_numbers (Err answer) = outcome_of answer

-- the shown name of an opening's fault; none where it has no fault
abbrev pub open_name : Result Stream Answer → List ℕ
open_name (Ok stream) = []
open_name (Err answer) = name_bytes answer

-- the word of an opening's fault; none where it has no fault
abbrev pub open_word : Result Stream Answer → List ℕ
open_word (Ok stream) = []
open_word (Err answer) = word_bytes answer

-- two buffers of a caller: for the shown name and for the word
pub record FaultBuffers : Type 0 where
  pub name : List ℕ
  pub word : List ℕ

-- what opening does: it comes to an answer, tells it in numbers and buffers, and what the handle owns is the stream, if there is one
pub record Opens (a : Asked) (old new : FaultBuffers) (held : Option Stream) (outcome : Numbers) : Type 0 where
  pub answer : Result Stream Answer
  pub comes : OpensStream a answer
  pub holds : held ≡ opened answer
  pub numbers : outcome ≡ open_numbers answer
  pub name : new.name ≡ overwritten (open_name answer) old.name
  pub word : new.word ≡ overwritten (open_word answer) old.word

-- the status of a read that met no fault: 0 where the output is whole, and 5 where the buffer is full and more may follow
abbrev pub read_status : Option ReadEnd → ℕ
read_status None = 5
read_status (Some Finished) = 0
read_status (Some StoppedRead) = 0

-- the numbers that tell a read of so many bytes
abbrev pub read_numbers : ℕ → Option ReadEnd → Option Report → Numbers
read_numbers len ending None = record { status = read_status ending; number = 0; line = 0; length = len; name_length = 0; word_length = 0 }
read_numbers len ending (Some f) = record { status = 1; number = fault_number f.kind; line = f.line; length = len; name_length = length f.name; word_length = length f.word }

-- the shown name of a fault; none where there is none
abbrev pub fault_name : Option Report → List ℕ
fault_name None = []
fault_name (Some f) = f.name

-- the word of a fault; none where there is none
abbrev pub fault_word : Option Report → List ℕ
fault_word None = []
fault_word (Some f) = f.word

-- three buffers of a caller of a read
pub record ReadBuffers : Type 0 where
  pub out : List ℕ
  pub name : List ℕ
  pub word : List ℕ

-- the search that a source was asked for by is made again: that of an `include`, or that of the main text
pub record SearchesAgain (old new : Stream) : Type 0 where
  pub retried : EngineView AskedTexts (List ℕ)
  pub retries : Retries owned_sources old.reading.engine retried
  pub opening : Option Report
  pub starts : StartsAgain owned_sources retried new.reading.engine (string_bytes old.path) opening
  pub rest : new.reading.rest ≡ (if is_failed_start retried then [] else old.reading.rest)
  pub only : new ≡ record old { reading = new.reading }

-- what a read begins with: where a source was asked for, its search is made again
abbrev pub TakesUp : Option (List ℕ) → Stream → Stream → Type 0
TakesUp None old new = new ≡ old
TakesUp (Some path) old new = SearchesAgain old new

-- how many LF bytes there are
abbrev pub line_ends_of : List ℕ → ℕ
line_ends_of bytes = count_by (λ b. b == 10) bytes

-- the part of a piece that a read gave, by what was left of the piece before
abbrev pub part_after : List ℕ → Part → List ℕ → Part
part_after [] part given = record { lines_before = 0; lines = line_ends_of given; is_empty = length given == 0 }
part_after (b ∷ rest) part given = record { lines_before = min (part.lines_before + part.lines) (2 ^ 64 - 1); lines = line_ends_of given; is_empty = length given == 0 }

-- a read within one piece
pub record ReadsPiece (old new : Stream) (before after : List ℕ) (len : ℕ) (ending : Option ReadEnd) : Type 0 where
  pub gives : GivesPiece owned_sources old.reading new.reading before after len ending
  pub part : new.part ≡ part_after old.reading.rest old.part (take len after)
  pub only : new ≡ record old { reading = new.reading; part = new.part }

-- a read over pieces: it fills the buffer as a reading does, and what it leaves is what remains
pub record ReadsOn (old new : Stream) (before after : List ℕ) (len : ℕ) (ending : Option ReadEnd) : Type 0 where
  pub fills : FillsPart owned_sources old.reading new.reading before after len ending
  pub left : Leaves owned_sources old.reading new.reading (take len after) ending
  pub only : new ≡ record old { reading = new.reading }

-- a read of a stream, by whether reads end with their pieces
abbrev pub ReadsBytes : Bool → Stream → Stream → List ℕ → List ℕ → ℕ → Option ReadEnd → Type 0
ReadsBytes true old new before after len ending = ReadsPiece old new before after len ending
ReadsBytes false old new before after len ending = ReadsOn old new before after len ending

-- the path that is asked for, by the kind of a fault: that of a device
abbrev pub wanted_by : FaultKind → AskedTexts → Option (List ℕ)
wanted_by kind sources = if is_read_failed kind then wanted_of sources else None

-- the path that is asked for, by the fault that a read ended with
abbrev pub read_wanted : Option Report → AskedTexts → Option (List ℕ)
read_wanted None sources = None
read_wanted (Some f) sources = wanted_by f.kind sources

-- the numbers that tell a read, by its fault and by the path that is asked for: 7 where one is
abbrev pub told_numbers : ℕ → Option ReadEnd → Option Report → Option (List ℕ) → Numbers
told_numbers len ending fault None = read_numbers len ending fault
told_numbers len ending fault (Some path) = record { status = 7; number = 0; line = 0; length = len; name_length = length path; word_length = 0 }

-- what is told in the buffer for the shown name: the path that is asked for, where one is
abbrev pub told_name : Option Report → Option (List ℕ) → List ℕ
told_name fault None = fault_name fault
told_name fault (Some path) = path

-- what is told in the buffer for the word
abbrev pub told_word : Option Report → Option (List ℕ) → List ℕ
told_word fault None = fault_word fault
told_word fault (Some path) = []

-- how a read is told that ended with a fault, if it did, and asks for a path, if it does
pub record TellsRead (len : ℕ) (ending : Option ReadEnd) (fault : Option Report) (wanted : Option (List ℕ)) (old new : FaultBuffers) (outcome : Numbers) : Type 0 where
  pub numbers : outcome ≡ told_numbers len ending fault wanted
  pub name : new.name ≡ overwritten (told_name fault wanted) old.name
  pub word : new.word ≡ overwritten (told_word fault wanted) old.word

-- a read of an open stream: where a source was asked for its search is made again; then bytes are read; and how that ended is told in numbers and
-- buffers
pub record ReadsStream (old new : ReadBuffers) (before after : Stream) (outcome : Numbers) : Type 0 where
  pub at : Stream
  pub takes_up : TakesUp (wanted_of before.reading.engine.sources) before at
  pub len : ℕ
  pub ending : Option ReadEnd
  pub reads : ReadsBytes at.pieces at after old.out new.out len ending
  pub tells : TellsRead len ending (ended_with ending after.reading.engine.kept) (read_wanted (ended_with ending after.reading.engine.kept) after.reading.engine.sources)
      (record { name = old.name; word = old.word }) (record { name = new.name; word = new.word }) outcome

-- a read: of a closed handle it only tells so, by status 6, and changes nothing; else it is one of the stream
abbrev pub Reads : ReadBuffers → ReadBuffers → Option Stream → Option Stream → Numbers → Type 0
Reads old new None held outcome = (held ≡ None) × (new ≡ old) × (outcome ≡ numbered 6 0)
Reads old new (Some before) held outcome = (after : Stream) × (held ≡ Some after) × ReadsStream old new before after outcome

-- a read that asked for nothing and met no fault of a device: the stream stays as quiet, and neither status 7 nor that fault's number, 32, is told
pub record StaysQuiet (after : Stream) (outcome : Numbers) : Type 0 where
  pub engine : IsQuiet after.reading.engine
  pub unasked : ¬ (outcome.status ≡ 7)
  pub unfailed : ¬ (outcome.number ≡ 32)

-- a read by a handle: where its sources don't ask, and no fault of a device is kept, none is met
abbrev pub ReadsQuietly : Option Stream → Option Stream → Numbers → Type 0
ReadsQuietly None held outcome = held ≡ None
ReadsQuietly (Some before) held outcome = IsQuiet before.reading.engine → (after : Stream) × (held ≡ Some after) × StaysQuiet after outcome

-- the fault that ended the output of a stream, if one did: none where a source is asked for
abbrev pub fault_or : Option Report → Option (List ℕ) → Option Report
fault_or kept None = kept
fault_or kept (Some path) = None

abbrev pub stream_fault : Stream → Option Report
stream_fault s = fault_or s.reading.engine.kept (read_wanted s.reading.engine.kept s.reading.engine.sources)
