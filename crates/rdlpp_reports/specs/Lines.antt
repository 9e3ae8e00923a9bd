-- The line map: the place of each line of an output, in runs.
-- A definition that names no source is this project's own.
use Rattle.std.specs.Prelude.{ℕ, ◌+◌, ◌-◌, ◌^◌, ◌==◌, ◌&&◌, Bool, true, false, min, List, [], ◌∷◌, codes, decimal, bytes_eq, Option, None, Some, if◌then◌else◌}
use Rattle.std.specs.List.{concat}
use Rattle.rdlpp_meaning.specs.Output.{name_cut}
use Rattle.rdlpp_reports.specs.declared.lines.LineRun.{LineRun}
use Rattle.rdlpp_state.specs.declared.positions.LineStep.{LineStep}
use Rattle.rdlpp_state.specs.declared.positions.LineStep.TheVariants.{Next, Same}

-- the place of a line of the output, that of its first byte: the shown name and the shown line (source: this project's profile)
pub record LinePlace : Type 0 where
  pub name : List ℕ
  pub line : ℕ

-- lines whose places follow each other: the first line of the output, its place, and how the places go on (source: this project's profile)
pub record RunView : Type 0 where
  pub out : ℕ
  pub line : ℕ
  pub step : Option LineStep
  pub name : List ℕ

-- what a run is
abbrev pub run_view : LineRun → RunView
run_view r = record { out = r.out; line = r.line; step = r.step; name = r.name.bytes }

-- lines that are taken: whether the line at hand has a byte, how many were begun, whether there is a last run, that run, the shown line of its last line,
-- and the run that ended last
pub record LinesView : Type 0 where
  pub begun : Bool
  pub lines : ℕ
  pub has_run : Bool
  pub run : RunView
  pub last : ℕ
  pub ended : RunView

-- a number, which stays at the largest of 64 bits
abbrev pub kept_number : ℕ → ℕ
kept_number n = min n (2 ^ 64 - 1)

-- the line after a line by a step
abbrev pub next_line : ℕ → LineStep → ℕ
next_line line Next = kept_number (line + 1)
next_line line Same = line

-- the line so many lines after a line by a step
abbrev pub last_after : ℕ → LineStep → ℕ → ℕ
last_after line Next count = kept_number (line + count)
last_after line Same count = line

-- whether steps are the same
abbrev pub is_step : LineStep → LineStep → Bool
is_step Next Next = true
is_step Next Same = false
is_step Same Next = false
is_step Same Same = true

-- whether a run may go on by a step
abbrev pub may_step : Option LineStep → LineStep → Bool
may_step None step = true
may_step (Some other) step = is_step other step

-- whether a line goes on the last run by a step
abbrev pub follows : LinesView → LinePlace → LineStep → Bool
follows m place step =
    m.has_run && ((place.line == next_line m.last step) && (may_step m.run.step step && bytes_eq m.run.name (name_cut place.name)))

-- the step by which a line goes on the last run, if it does (source: this project's profile)
abbrev pub step_to : LinesView → LinePlace → Option LineStep
step_to m place = if follows m place Next then Some Next else (if follows m place Same then Some Same else None)

-- a line is counted
abbrev pub counted : LinesView → LinesView
counted m = record m { lines = kept_number (m.lines + 1) }

-- a line more: of the last run, or the first of a new one (source: this project's profile)
abbrev pub with_step : LinesView → LinePlace → Option LineStep → LinesView
with_step m place (Some step) = record m { run = record m.run { step = Some step }; last = place.line }
with_step m place None = record m {
  has_run = true;
  run = record { out = m.lines; line = place.line; step = None; name = name_cut place.name };
  last = place.line;
  ended = if m.has_run then m.run else m.ended;
}

-- a line more
abbrev pub added : LinesView → LinePlace → LinesView
added m place = with_step (counted m) place (step_to m place)

-- whether a run ends where a line goes on by a step, or doesn't
abbrev pub ends_by : LinesView → Option LineStep → Bool
ends_by m (Some step) = false
ends_by m None = m.has_run

-- whether a line ends the last run
abbrev pub ends_run : LinesView → LinePlace → Bool
ends_run m place = ends_by m (step_to m place)

-- the run that a line ended, if it did
abbrev pub ended : LinesView → LinePlace → List RunView
ended m place = if ends_run m place then m.run ∷ [] else []

-- so many lines more that go on the last run by a step
abbrev pub gone_on : LinesView → LineStep → ℕ → LinesView
gone_on m step count = if count == 0 then m else record m {
  lines = kept_number (m.lines + count);
  run = record m.run { step = Some step };
  last = last_after m.last step count;
}

-- the last run is taken away
abbrev pub finished : LinesView → LinesView
finished m = record m { has_run = false; ended = if m.has_run then m.run else m.ended }

-- the mark of a step: how many lines each place is after the one before it; 1 where there is only one (source: this project's profile)
abbrev pub step_bytes : Option LineStep → List ℕ
step_bytes None = codes "\t1\t"
step_bytes (Some Next) = codes "\t1\t"
step_bytes (Some Same) = codes "\t0\t"

-- a run as a line of a line map file: OUT TAB LINE TAB STEP TAB NAME LF (source: this project's profile)
abbrev pub run_bytes : RunView → List ℕ
run_bytes r = concat (decimal r.out ∷ codes "\t" ∷ decimal r.line ∷ step_bytes r.step ∷ r.name ∷ codes "\n" ∷ [])

-- the first line of a line map file
abbrev pub map_start : List ℕ
map_start = codes "# rdlpp line map 1\n"

-- a run without lines
abbrev pub no_run : RunView
no_run = record { out = 0; line = 0; step = None; name = [] }

-- no lines
abbrev pub no_lines : LinesView
no_lines = record { begun = false; lines = 0; has_run = false; run = no_run; last = 0; ended = no_run }
