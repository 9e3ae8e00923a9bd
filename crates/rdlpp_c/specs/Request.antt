-- What a call asks for, and the options and sources that it stands for.
-- A definition that names no source is this project's own.
use Rattle.std.specs.Prelude.{◌≡◌, ℕ, Bool, List, map, IsUtf8}
use Rattle.std.specs.List.{All}
use Rattle.std.specs.Borrow.{Bor}
use Rattle.std.specs.String.{string_bytes}
use Rattle.rdlpp_define.specs.declared.limits.Limits.{Limits}
use Rattle.rdlpp_source.specs.Texts.{folders_of}
use Rattle.rdlpp_source.specs.declared.texts.Texts.{Texts}
use Rattle.rdlpp.specs.Definitions.{Pair}
use Rattle.rdlpp_define.specs.declared.options.Options.{Options}
use Rattle.rdlpp_c.specs.declared.arrays.Limits.{Limits as GivenLimits}
use Rattle.rdlpp_c.specs.declared.arrays.Text.{Text}
use Rattle.rdlpp_c.specs.declared.arrays.Folder.{Folder}
use Rattle.rdlpp_c.specs.declared.arrays.Definition.{Definition}
use Rattle.rdlpp_c.specs.declared.arrays.Request.{Request}

-- limits as the engine has them
abbrev pub limits_of : GivenLimits → Limits
limits_of l = record {
  depth = l.depth;
  includes = l.includes;
  line_bytes = l.line_bytes;
  source_bytes = l.source_bytes;
  argument_bytes = l.argument_bytes;
  definition_bytes = l.definition_bytes;
  definitions = l.definitions;
  conditions = l.conditions;
  output_bytes = l.output_bytes;
}

-- what a call asks for: its limits, whether it wants origin comments, whether sources that aren't among its texts are asked for, whether a read ends
-- with its piece, its arrays and the main path
pub record Asked : Type 0 where
  pub limits : Limits
  pub origins : Bool
  pub asks : Bool
  pub pieces : Bool
  pub texts : List Text
  pub folders : List Folder
  pub definitions : List Definition
  pub path : List ℕ

-- what a request asks for
abbrev pub requested : Request → Asked
requested r = record {
  limits = limits_of r.limits;
  origins = r.origins;
  asks = r.asks;
  pieces = r.pieces;
  texts = r.texts.now;
  folders = r.folders.now;
  definitions = r.definitions.now;
  path = r.path.now;
}

-- the path and the bytes of a given text
abbrev pub text_given : Text → List ℕ × List ℕ
text_given t = (t.path.now, t.text.now)

-- the path and the bytes of a source in memory
abbrev pub file_bytes : Bor (List ℕ) × Bor (List ℕ) → List ℕ × List ℕ
file_bytes f = (f.0.now, f.1.now)

-- the name and the body of a given definition
abbrev pub definition_given : Definition → List ℕ × List ℕ
definition_given d = (d.name.now, d.text.now)

-- the name and the body of a definition of options
abbrev pub definition_bytes : Pair → List ℕ × List ℕ
definition_bytes d = (string_bytes d.0, string_bytes d.1)

-- all that has to be UTF-8 is: the paths, the names and the bodies of definitions
pub record AreUtf8 (a : Asked) : Type 0 where
  pub path : IsUtf8 a.path
  pub texts : All (λ text. IsUtf8 text.path.now) a.texts
  pub folders : All (λ folder. IsUtf8 folder.path.now) a.folders
  pub definitions : All (λ d. IsUtf8 d.name.now × IsUtf8 d.text.now) a.definitions

-- options and sources in memory that are what a call asks for
pub record Asks (a : Asked) (options : Options) (sources : Texts) : Type 0 where
  pub limits : options.limits ≡ a.limits
  pub origins : options.origins ≡ a.origins
  pub definitions : map definition_bytes options.defines.items ≡ map definition_given a.definitions
  pub texts : map file_bytes sources.files.now ≡ map text_given a.texts
  pub folders : folders_of sources ≡ map (λ folder. folder.path.now) a.folders
