-- What a text in memory has that several readers read.
-- A definition that names no source is this project's own.
use Rattle.std.specs.Prelude.{ℕ, List}
use Rattle.rdlpp_source.specs.declared.shared_text.SharedText.{SharedText}
use Rattle.rdlpp_source.specs.declared.shared_text.SharedText.TheVariants.{Owned, Lent}

-- its bytes (source: this project's profile)
abbrev pub text_bytes : SharedText → List ℕ
text_bytes (Owned text) = text.value.items
text_bytes (Lent text) = text.now
