-- What remains of the open sources: of the innermost, and then of those that wait.
-- A definition that names no source is this project's own.
use Rattle.std.specs.Prelude.{◌<◌, ℕ, List, length}
use Rattle.rdlpp_meaning.specs.State.{Rules, State}
use Rattle.rdlpp_meaning.specs.Meaning.{Passage}
use Rattle.rdlpp_meaning.specs.Resumed.{Place}
use Rattle.rdlpp_meaning.specs.Opened.{Waiting, all_resumed}
use Rattle.rdlpp_read.specs.declared.files.File.{File}
use Rattle.rdlpp_read.specs.Buffer.{BufferView, EndsHeld, held_of, tokens_left}

-- bytes are held, which end at a line end or where the text ends
pub record HoldsFront {R : Type 0} (buffer : BufferView R) : Type 0 where
  pub some : 0 < length (held_of buffer)
  pub ends : EndsHeld buffer

-- a source with another buffer
abbrev pub with_file_buffer : {R : Type 0} → BufferView R → File R → File R
with_file_buffer buffer f = record f { buffer = buffer }

-- what remains of the innermost source, from its place among its conditionals
-- and then of those that wait (this project's profile)
unfoldable pub source_left : {R : Type 0} → Rules → (R → List ℕ) → List Waiting → Place → File R → State → Passage
source_left rules unread ws place f s = all_resumed rules ws place f.blanks (tokens_left unread f.buffer) s
