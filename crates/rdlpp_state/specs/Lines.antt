-- What a `line` does to an engine.
-- A definition that names no source is this project's own.
use Rattle.std.specs.Prelude.{◌≡◌, ℕ, ◌+◌, Bool, true, List, [], ◌∷◌, take}
use Rattle.arrayvec.specs.declared.array_string.ArrayString.{ArrayString}
use Rattle.rdlpp_scan.specs.SourceTokens.{line_ends}
use Rattle.rdlpp_meaning.specs.State.{shown_line}
use Rattle.rdlpp_read.specs.Buffer.{held_of}
use Rattle.rdlpp_read.specs.Files.{consumed_file, inner_buffer, with_inner}
use Rattle.rdlpp_read.specs.declared.files.File.{File}
use Rattle.rdlpp_front.specs.declared.arguments.line.GivenLine.{GivenLine}
use Rattle.rdlpp_state.specs.Engine.{EngineView}
use Rattle.rdlpp_state.specs.Marks.{ends_line}
use Rattle.rdlpp_state.specs.Pending.{origin_pending}
use Rattle.rdlpp_state.specs.Remaining.{state_of}

-- a source that shows another name, and from a physical line on other numbers (IEEE 1364-2001, `line`)
abbrev pub renumbered_file : {R : Type 0} → ℕ → ℕ → ArrayString 1024 → File R → File R
renumbered_file from number name f = record f { name = name; shift = record { from = from; number = number } }

-- whether only blanks stand before the next byte of the innermost source on its physical line
abbrev pub inner_blanks : {R : Type 0} → List (File R) → Bool
inner_blanks [] = true
inner_blanks (f ∷ outer) = f.blanks

-- a `line` that was accepted: its line is used, and its LF byte, which shows the name and the line from before, and the origin line are pending
-- (this project's profile)
pub record Renumbers {S R : Type 0} (given : GivenLine) (old new : EngineView S R) : Type 0 where
  pub lines : ℕ
  pub counted : lines ≡ line_ends (take (5 + given.stop) (held_of (inner_buffer old.files.include_stack)))
  pub becomes : new ≡ record old {
    pending = record { line_ends = lines; origin = origin_pending old.origins given.number };
    marks = ends_line lines (state_of old).name (shown_line (state_of old).shift (inner_buffer old.files.include_stack).line) old.marks;
    files = record old.files {
      include_stack = with_inner (renumbered_file ((inner_buffer old.files.include_stack).line + 1) given.number given.name)
          (with_inner (consumed_file (5 + given.stop) lines) old.files.include_stack);
    };
  }
