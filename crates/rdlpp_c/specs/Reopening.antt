-- What an output begins with that is opened in the place of another one.
-- A definition that names no source is this project's own.
use Rattle.std.specs.Prelude.{◌≡◌, ℕ, true, List, [], Option, None, Result, Ok, Err}
use Rattle.rdlpp_expand.specs.declared.writing.RunFault.{RunFault}
use Rattle.rdlpp_reports.specs.Lines.{no_lines}
use Rattle.rdlpp_c.specs.Buffers.{overwritten}
use Rattle.rdlpp_c.specs.Once.{last_of, mark_at}
use Rattle.rdlpp_c.specs.Streaming.{FaultBuffers, open_name, open_numbers, open_word, opened}
use Rattle.rdlpp_c.specs.declared.asking.Answer.{Answer}
use Rattle.rdlpp_c.specs.declared.asking.Answer.TheVariants.{Stopped}
use Rattle.rdlpp_c.specs.declared.stream.Part.{Part}
use Rattle.rdlpp_c.specs.declared.stream.Stream.{Stream}
use Rattle.rdlpp_c.specs.declared.telling.Outcome.{Outcome as Numbers}

-- the part of a piece before the first read: it has no bytes
abbrev pub no_part : Part
no_part = record { lines_before = 0; lines = 0; is_empty = true }

-- nothing was read of a stream: it has no part of a piece and no line of a map, no text of it was given once or by a part, and none was another one than before
pub record IsUnread (stream : Stream) : Type 0 where
  pub marks : (q : List ℕ) → mark_at stream.once q ≡ None
  pub last : last_of stream.once ≡ None
  pub changed : stream.changed ≡ None
  pub parts : stream.parts.items ≡ []
  pub part : stream.part ≡ no_part
  pub lines : stream.lines ≡ no_lines

-- what opening in the place of a stream comes to, by how its engine began again: the stream, or the first definition that is refused
abbrev pub reopened : Result (Unit {0}) RunFault → Stream → Result Stream Answer
reopened (Ok done) stream = Ok stream
reopened (Err run) stream = Err (Stopped run)

-- an answer of opening is told in numbers and buffers, and what the handle owns is the stream, if there is one
pub record TellsOpening (answer : Result Stream Answer) (old new : FaultBuffers) (held : Option Stream) (outcome : Numbers) : Type 0 where
  pub holds : held ≡ opened answer
  pub numbers : outcome ≡ open_numbers answer
  pub name : new.name ≡ overwritten (open_name answer) old.name
  pub word : new.word ≡ overwritten (open_word answer) old.word
