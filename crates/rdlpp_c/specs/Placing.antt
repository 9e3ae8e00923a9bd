-- What is told of the place of a part of the output.
-- A definition that names no source is this project's own.
use Rattle.std.specs.Prelude.{◌≡◌, ℕ, ◌+◌, ◌-◌, ◌^◌, Bool, true, false, min, List, [], length, Option, None, Some}
use Rattle.rdlpp_state.specs.Marks.{PlaceView}
use Rattle.rdlpp_state.specs.Positions.{position_of}
use Rattle.rdlpp_state.specs.declared.positions.LineStep.{LineStep}
use Rattle.rdlpp_state.specs.declared.positions.LineStep.TheVariants.{Next, Same}
use Rattle.rdlpp_c.specs.Buffers.{overwritten}
use Rattle.rdlpp_c.specs.Telling.{numbered}
use Rattle.rdlpp_c.specs.declared.stream.Part.{Part}
use Rattle.rdlpp_c.specs.declared.stream.Stream.{Stream}
use Rattle.rdlpp_c.specs.declared.telling.Outcome.{Outcome}

-- the line after so many LF bytes of a piece
abbrev pub line_right_after : LineStep → ℕ → ℕ → ℕ
line_right_after Next line passed = min (line + passed) (2 ^ 64 - 1)
line_right_after Same line passed = line

-- the place after so many LF bytes of a piece, by the place of its first byte
abbrev pub place_after : ℕ → Option PlaceView → Option PlaceView
place_after passed None = None
place_after passed (Some p) = Some (record { name = p.name; line = line_right_after p.step p.line passed; step = p.step })

-- the place of the first byte of a part of a piece; none where it has no bytes
abbrev pub part_position : Bool → ℕ → Option PlaceView → Option PlaceView
part_position true passed place = None
part_position false passed place = place_after passed place

-- the place of what the last read gave; none where reads don't end with their pieces
abbrev pub placed : Bool → Part → Option PlaceView → Option PlaceView
placed true part place = part_position part.is_empty part.lines_before place
placed false part place = None

abbrev pub stream_place : Stream → Option PlaceView
stream_place s = placed s.pieces s.part (position_of s.reading.engine)

-- 1 where lines go on, and 0 where they stay
abbrev pub step_number : LineStep → ℕ
step_number Next = 1
step_number Same = 0

-- the numbers that tell a place: 5 where there is none
abbrev pub place_numbers : Option PlaceView → Outcome
place_numbers None = numbered 5 0
place_numbers (Some p) = record { status = 0; number = step_number p.step; line = p.line; length = 0; name_length = length p.name; word_length = 0 }

-- the name of a place; none where there is none
abbrev pub place_name : Option PlaceView → List ℕ
place_name None = []
place_name (Some p) = p.name

-- a place is told of a stream, which stays; a closed handle is told by status 6
abbrev pub Places : Option Stream → Option Stream → List ℕ → List ℕ → Outcome → Type 0
Places None held old new outcome = (held ≡ None) × (new ≡ old) × (outcome ≡ numbered 6 0)
Places (Some s) held old new outcome = (held ≡ Some s) × (outcome ≡ place_numbers (stream_place s)) × (new ≡ overwritten (place_name (stream_place s)) old)
