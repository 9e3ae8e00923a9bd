-- How an answer is told in numbers and buffers.
-- A definition that names no source is this project's own.
use Rattle.std.specs.Prelude.{◌≡◌, ℕ, List, [], length}
use Rattle.rdlpp_define.specs.declared.limits.LimitFault.{LimitFault}
use Rattle.rdlpp_define.specs.declared.limits.LimitFault.TheVariants.{Depth, Includes, LineBytes, SourceBytes, ArgumentBytes, DefinitionBytes, Definitions, Conditions, OutputBytes}
use Rattle.rdlpp_meaning.specs.FaultNumbers.{fault_number}
use Rattle.rdlpp_c.specs.Buffers.{overwritten}
use Rattle.rdlpp_c.specs.Request.{Asked}
use Rattle.rdlpp_c.specs.Answer.{ComesTo, output_bytes}
use Rattle.rdlpp_c.specs.declared.asking.Answer.{Answer}
use Rattle.rdlpp_c.specs.declared.asking.Answer.TheVariants.{Whole, Stopped, BadLimit, BadText, NoMemory}
use Rattle.rdlpp_c.specs.declared.telling.Outcome.{Outcome}

-- the place of a limit among the fields of the limits, from 1
abbrev pub limit_place : LimitFault → ℕ
limit_place Depth = 1
limit_place Includes = 2
limit_place LineBytes = 3
limit_place SourceBytes = 4
limit_place ArgumentBytes = 5
limit_place DefinitionBytes = 6
limit_place Definitions = 7
limit_place Conditions = 8
limit_place OutputBytes = 9

-- a status and a number alone
abbrev pub numbered : ℕ → ℕ → Outcome
numbered status number = record { status = status; number = number; line = 0; length = 0; name_length = 0; word_length = 0 }

-- the numbers that tell an answer: 0 where the output is whole; 1 for a fault, with its number and line and the lengths of its
-- shown name and its word; 2 for a limit, with its place; 3 for bytes that aren't UTF-8; 4 for want of memory
abbrev pub outcome_of : Answer → Outcome
outcome_of (Whole count) = record { status = 0; number = 0; line = 0; length = count; name_length = 0; word_length = 0 }
outcome_of (Stopped run) = record {
  status = 1;
  number = fault_number run.fault.kind;
  line = run.fault.line;
  length = run.written;
  name_length = length run.fault.name.bytes;
  word_length = length run.fault.word.bytes;
}
outcome_of (BadLimit limit) = numbered 2 (limit_place limit)
outcome_of BadText = numbered 3 0
outcome_of NoMemory = numbered 4 0

-- the shown name of an answer's fault; none where it has no fault
abbrev pub name_bytes : Answer → List ℕ
name_bytes (Whole count) = []
name_bytes (Stopped run) = run.fault.name.bytes
name_bytes (BadLimit limit) = []
name_bytes BadText = []
name_bytes NoMemory = []

-- the word of an answer's fault; none where it has no fault
abbrev pub word_bytes : Answer → List ℕ
word_bytes (Whole count) = []
word_bytes (Stopped run) = run.fault.word.bytes
word_bytes (BadLimit limit) = []
word_bytes BadText = []
word_bytes NoMemory = []

-- three buffers of a caller: for the output, for the shown name and for the word
pub record Buffers : Type 0 where
  pub out : List ℕ
  pub name : List ℕ
  pub word : List ℕ

-- the buffers after an answer with so many bytes of output: over the first bytes of each its text is written, as much as there is
-- room for, and the others stay
abbrev pub told_to : Answer → List ℕ → Buffers → Buffers
told_to answer bytes old = record {
  out = overwritten (output_bytes answer bytes) old.out;
  name = overwritten (name_bytes answer) old.name;
  word = overwritten (word_bytes answer) old.word;
}

-- what a call does: it comes to an answer, and tells it in numbers and buffers
pub record Answers (a : Asked) (old new : Buffers) (outcome : Outcome) : Type 0 where
  pub answer : Answer
  pub bytes : List ℕ
  pub comes : ComesTo a bytes answer
  pub numbers : outcome ≡ outcome_of answer
  pub buffers : new ≡ told_to answer bytes old

-- a text was told: its whole length, and its front in a buffer
pub record TellsText (text old new : List ℕ) (len : ℕ) : Type 0 where
  pub whole : len ≡ length text
  pub front : new ≡ overwritten text old
