-- Which file a source lies in, and files of which there are at most two.
-- A definition that names no source is this project's own.
use Rattle.std.specs.Prelude.{◌≡◌, ◌⊎◌, Option, None, Some}
use Rattle.rdlpp_source.specs.declared.files.FileId.{FileId}
use Rattle.rdlpp_source.specs.declared.written.FilePair.{FilePair}

-- a file is one of them
abbrev pub Has : FilePair → FileId → Type 0
Has pair file = (pair.first ≡ Some file) ⊎ (pair.second ≡ Some file)

-- there is no file
abbrev pub IsEmpty : FilePair → Type 0
IsEmpty pair = (pair.first ≡ None) × (pair.second ≡ None)

-- a text that is given by its path lies in no file
abbrev pub no_file : {R : Type 0} → R → Option FileId
no_file reader = None
