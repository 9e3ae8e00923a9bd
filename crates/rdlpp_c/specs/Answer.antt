-- What a call comes to.
-- A definition that names no source is this project's own.
use Rattle.std.specs.Prelude.{◌≡◌, ℕ, ◌-◌, ◌^◌, ⊤, List, [], length, min, map, None, Some}
use Rattle.rdlpp_source.specs.declared.sources.Sources.{Ghosts}
use Rattle.rdlpp_source.specs.declared.texts.Texts.{Texts}
use Rattle.rdlpp_source.specs.declared.texts.TextReader.{TextReader}
use Rattle.rdlpp_source.specs.Texts.{texts_catalog, left_of}
use Rattle.rdlpp_define.specs.Limits.{limit_fault}
use Rattle.rdlpp_meaning.specs.Outcome.{report_of, Outcome}
use Rattle.rdlpp.specs.Preprocess.{output_of}
use Rattle.rdlpp_define.specs.declared.options.Options.{Options}
use Rattle.rdlpp_c.specs.Buffers.{overwritten}
use Rattle.rdlpp_c.specs.Request.{Asked, Asks, AreUtf8, definition_bytes, definition_given, file_bytes, text_given}
use Rattle.rdlpp_c.specs.declared.asking.Answer.{Answer}
use Rattle.rdlpp_c.specs.declared.asking.Answer.TheVariants.{Whole, Stopped, BadLimit, BadText, NoMemory}
use Rattle.rdlpp_c.specs.declared.asking.Lists.{Lists}

-- what sources in memory answer
abbrev pub text_sources : Ghosts Texts TextReader
text_sources = record { has_known_texts = λ _. ⊤; catalog = texts_catalog; unread = left_of; failures = λ _. 0; refusals = λ _. 0 }

-- the lists are what a call asks for
pub record AreLists (a : Asked) (lists : Lists) : Type 0 where
  pub limits : lists.options.limits ≡ a.limits
  pub origins : lists.options.origins ≡ a.origins
  pub definitions : map definition_bytes lists.options.defines.items ≡ map definition_given a.definitions
  pub files : map file_bytes lists.files.items ≡ map text_given a.texts
  pub folders : map (λ folder. folder.now) lists.folders.items ≡ map (λ folder. folder.path.now) a.folders
  pub path : lists.path.now ≡ a.path

-- the output that a call asks for: that of options and sources which are what it asks for, where its limits are in their ranges
pub record IsOutput (a : Asked) (output : Outcome) : Type 0 where
  pub options : Options
  pub sources : Texts
  pub asks : Asks a options sources
  pub in_range : limit_fault a.limits ≡ None
  pub is : output_of text_sources options sources a.path ≡ output

-- a call comes to an answer, with these bytes of output: the output, whole or up to its fault, and the count of its bytes; the
-- first limit that is out of its range; bytes that have to be UTF-8 and aren't; or want of memory
abbrev pub ComesTo : Asked → List ℕ → Answer → Type 0
ComesTo a bytes (Whole count) = IsOutput a (record { bytes = bytes; fault = None }) × (count ≡ min (length bytes) (2 ^ 64 - 1))
ComesTo a bytes (Stopped run) = IsOutput a (record { bytes = bytes; fault = Some (report_of run.fault) }) × (run.written ≡ min (length bytes) (2 ^ 64 - 1))
ComesTo a bytes (BadLimit limit) = limit_fault a.limits ≡ Some limit
ComesTo a bytes BadText = (limit_fault a.limits ≡ None) × ¬ (AreUtf8 a)
ComesTo a bytes NoMemory = limit_fault a.limits ≡ None

-- the bytes of output that an answer has
abbrev pub output_bytes : Answer → List ℕ → List ℕ
output_bytes (Whole count) bytes = bytes
output_bytes (Stopped run) bytes = bytes
output_bytes (BadLimit limit) bytes = []
output_bytes BadText bytes = []
output_bytes NoMemory bytes = []

-- a call comes to an answer, and the front of its output stands in a buffer
pub record Gives (a : Asked) (before after : List ℕ) (answer : Answer) : Type 0 where
  pub bytes : List ℕ
  pub comes : ComesTo a bytes answer
  pub front : after ≡ overwritten (output_bytes answer bytes) before
