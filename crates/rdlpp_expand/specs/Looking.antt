-- What is seen of the open sources from outside.
-- A definition that names no source is this project's own.
use Rattle.std.specs.Prelude.{◌≡◌, ℕ, ◌-◌, List, Some, slice_get}
use Rattle.rdlpp_meaning.specs.State.{shown_line}
use Rattle.rdlpp_read.specs.Files.{shift_of}
use Rattle.rdlpp_read.specs.declared.files.File.{File}

-- what an open source shows that includes others, at a place counted from the innermost one, which has the place 0: its name, and
-- the number that the line of its `include` shows (this project's profile)
pub record Includes {R : Type 0} (include_stack : List (File R)) (place : ℕ) (name : List ℕ) (line : ℕ) : Type 0 where
  pub inner : File R
  pub outer : File R
  pub inside : slice_get include_stack (place - 1) ≡ Some inner
  pub around : slice_get include_stack place ≡ Some outer
  pub name_is : name ≡ outer.name.bytes
  pub line_is : line ≡ shown_line (shift_of outer.shift) inner.include_line
