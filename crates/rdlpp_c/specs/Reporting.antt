-- What is told of what an output leaves: its definitions, and notes on its fault.
-- A definition that names no source is this project's own.
use Rattle.std.specs.Prelude.{◌≡◌, ℕ, ◌⊎◌, List, Option, None, Some}
use Rattle.rdlpp_meaning.specs.Outcome.{Report}
use Rattle.rdlpp_reports.specs.Definitions.{definition_lines}
use Rattle.rdlpp_c.specs.Streaming.{stream_fault}
use Rattle.rdlpp_c.specs.Telling.{TellsText}
use Rattle.rdlpp_c.specs.declared.stream.Stream.{Stream}

-- nothing was told
abbrev pub IsSilent : List ℕ → List ℕ → ℕ → Type 0
IsSilent old new len = (new ≡ old) × (len ≡ 0)

-- a text was told; or memory was refused for it, and nothing was told
abbrev pub TellsOrNot : List ℕ → List ℕ → List ℕ → ℕ → Type 0
TellsOrNot text old new len = TellsText text old new len ⊎ IsSilent old new len

-- some text was told, or nothing was
abbrev pub TellsSome : List ℕ → List ℕ → ℕ → Type 0
TellsSome old new len = (text : List ℕ) × TellsOrNot text old new len

-- the lines of the live definitions are told of a stream, which stays; of a closed handle nothing is
abbrev pub TellsDefinitions : Option Stream → Option Stream → List ℕ → List ℕ → ℕ → Type 0
TellsDefinitions None held old new len = (held ≡ None) × IsSilent old new len
TellsDefinitions (Some s) held old new len = (held ≡ Some s) × TellsOrNot (definition_lines s.reading.engine.table.macros) old new len

-- lines are told where a fault ended the output, and else nothing
abbrev pub Notes : Option Report → List ℕ → List ℕ → ℕ → Type 0
Notes None old new len = IsSilent old new len
Notes (Some f) old new len = TellsSome old new len

-- the notes are told of a stream, which stays; of a closed handle nothing is
abbrev pub TellsNotes : Option Stream → Option Stream → List ℕ → List ℕ → ℕ → Type 0
TellsNotes None held old new len = (held ≡ None) × IsSilent old new len
TellsNotes (Some s) held old new len = (held ≡ Some s) × Notes (stream_fault s) old new len
