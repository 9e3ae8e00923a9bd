-- What sources know of the texts of a request.
-- A definition that names no source is this project's own.
use Rattle.std.specs.Prelude.{◌≡◌, ℕ, List, find, bytes_eq, Option, None, Some, if◌then◌else◌}
use Rattle.std.specs.Option.{option_map}
use Rattle.rdlpp_source.specs.Asked.{standing_at, standing_text}
use Rattle.rdlpp_source.specs.declared.asked.AskedTexts.{AskedTexts}
use Rattle.rdlpp_source.specs.declared.asked.Standing.{Standing}
use Rattle.rdlpp_c.specs.declared.arrays.Text.{Text}

-- the text that is known to stand somewhere, if one does
abbrev pub content : Standing → Option (List ℕ)
content standing = standing_text (Some standing)

-- what is known of a path, as a text where one stands there
abbrev pub content_at : AskedTexts → List ℕ → Option (Option (List ℕ))
content_at sources q = option_map content (standing_at sources q)

-- the first of two, if it is there
abbrev pub first_of : Option (Option (List ℕ)) → Option (Option (List ℕ)) → Option (Option (List ℕ))
first_of None later = later
first_of (Some first) later = Some first

-- the text of a lent one
abbrev pub lent_content : Text → Option (List ℕ)
lent_content text = Some text.text.now

-- a lent text as what stands at a path, if it is the text's
abbrev pub lent_at : Text → List ℕ → Option (Option (List ℕ))
lent_at text q = if bytes_eq q text.path.now then Some (lent_content text) else None

-- a lent text is known where nothing was known of its path, and nothing else changed
abbrev pub AddsText : Text → AskedTexts → AskedTexts → Type 0
AddsText text old new = (q : List ℕ) → content_at new q ≡ first_of (content_at old q) (lent_at text q)

-- of each path the first lent text of that path is known, and of others nothing
abbrev pub KnowsTexts : List Text → AskedTexts → Type 0
KnowsTexts texts sources = (q : List ℕ) → content_at sources q ≡ option_map lent_content (find (λ text. bytes_eq q text.path.now) texts)
