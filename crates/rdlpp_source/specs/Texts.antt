-- What sources in memory tell.
-- A definition that names no source is this project's own.
use Rattle.std.specs.Prelude.{ℕ, List, Option, nat_eq, find, map}
use Rattle.std.specs.Option.{option_map}
use Rattle.std.specs.Cmp.Lexicographic.{pointwise}
use Rattle.std.specs.Borrow.{Bor}
use Rattle.rdlpp_source.specs.declared.texts.Texts.{Texts}
use Rattle.rdlpp_source.specs.declared.texts.TextReader.{TextReader}
use Rattle.rdlpp_source.specs.Sources.{Catalog}
use Rattle.rdlpp_source.specs.Search.{candidates, answer_at, first_answer}

-- the text of the first entry of a path (source: this project's profile)
abbrev pub first_text : List (Bor (List ℕ) × Bor (List ℕ)) → List ℕ → Option (List ℕ)
first_text files path = option_map (λ entry. entry.1.now) (find (λ entry. pointwise nat_eq entry.0.now path) files)

-- what stands at each path (source: this project's profile)
abbrev pub text_at : Texts → List ℕ → Option (List ℕ)
text_at texts = first_text texts.files.now

-- the include folders (source: this project's profile)
abbrev pub folders_of : Texts → List (List ℕ)
folders_of texts = map (λ folder. folder.now) texts.folders.now

-- what the searches of texts in memory answer (source: this project's profile)
abbrev pub texts_catalog : Texts → Catalog
texts_catalog texts = record {
  top = answer_at (text_at texts);
  find = λ from name. first_answer (text_at texts) (candidates (folders_of texts) from name);
}

-- the bytes that are left of a text (source: this project's profile)
abbrev pub left_of : TextReader → List ℕ
left_of reader = reader.left.now
