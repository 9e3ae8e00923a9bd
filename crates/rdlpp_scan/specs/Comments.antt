-- Texts without their `//` comments.
-- A definition that names no source is this project's own.
use Rattle.std.specs.Prelude.{Bool, true, false, not, ℕ, List, [], ◌∷◌, take, drop, if◌then◌else◌}
use Rattle.std.specs.List.{concat, filter}
use Rattle.rdlpp_scan.specs.declared.token.Kind.{Kind}
use Rattle.rdlpp_scan.specs.declared.token.Kind.TheVariants.{LineComment}
use Rattle.rdlpp_scan.specs.declared.token.Mode.{Mode}
use Rattle.rdlpp_scan.specs.declared.token.Token.{Token}
use Rattle.rdlpp_scan.specs.Tokens.{tokens_from}

-- whether a kind is that of a `//` comment (this project's profile)
unfoldable pub is_line_comment : Kind → Bool
is_line_comment LineComment = true
is_line_comment _ = false

-- the tokens that aren't `//` comments (this project's profile)
unfoldable pub other_tokens : List Token → List Token
other_tokens ts = filter (λ t. not (is_line_comment t.kind)) ts

-- the bytes of each token of a text (this project's profile)
unfoldable pub token_texts : List Token → List ℕ → List (List ℕ)
token_texts [] text = []
token_texts (t ∷ ts) text = take t.len text ∷ token_texts ts (drop t.len text)

-- the bytes of each token of a text that isn't a `//` comment (this project's profile)
unfoldable pub other_texts : List Token → List ℕ → List (List ℕ)
other_texts [] text = []
other_texts (t ∷ ts) text =
    if is_line_comment t.kind then other_texts ts (drop t.len text)
    else take t.len text ∷ other_texts ts (drop t.len text)

-- a text from a mode on without its `//` comments (this project's profile)
unfoldable pub without_line_comments : Mode → List ℕ → List ℕ
without_line_comments mode text = concat (other_texts (tokens_from mode 0 text) text)
