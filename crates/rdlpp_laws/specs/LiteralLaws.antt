-- The law of literal substitution.
-- A definition that names no source is this project's own.
use Rattle.std.specs.Prelude.{◌≡◌, ℕ, List, [], unwrap_or}
use Rattle.std.specs.List.{flat_map}
use Rattle.rdlpp_define.specs.Macros.{Macro}
use Rattle.rdlpp_meaning.specs.Items.{Item}
use Rattle.rdlpp_meaning.specs.Substitution.{body_tokens, substituted}
use Rattle.rdlpp_meaning.specs.Expansion.{bytes_of}
use Rattle.rdlpp_laws.specs.Literal.{erased, formals_bytes, literal}

-- the tokens of a body have its bytes
abbrev pub BodyCovered : Type 0
BodyCovered = (body : List ℕ) → bytes_of (body_tokens body) ≡ body

-- substitution without its marks is literal substitution
abbrev pub LiteralSubstitution : Type 0
LiteralSubstitution = (m : Macro) (actuals : List (List Item)) (o : List (List ℕ))
    → flat_map erased (substituted m actuals o)
    ≡ literal (unwrap_or m.formals []) (formals_bytes (unwrap_or m.formals []) actuals) (body_tokens m.body)
