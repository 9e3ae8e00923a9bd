-- The tokens of a text by the role that each has in a call.
-- A definition that names no source is this project's own.
use Rattle.std.specs.Prelude.{◌≡◌, ℕ, ◌<◌, ◌≤◌, List, ◌∷◌, ◌==◌, length, drop, if◌then◌else◌}
use Rattle.rdlpp_scan.specs.declared.token.Mode.{Mode}
use Rattle.rdlpp_scan.specs.declared.token.Mode.TheVariants.{Plain}
use Rattle.rdlpp_scan.specs.Bytes.{is_opener, is_closer}
use Rattle.rdlpp_scan.specs.SourceTokens.{SourceToken}
use Rattle.rdlpp_meaning.specs.Actuals.{Role, token_role}
use Rattle.rdlpp_meaning.specs.Actuals as role
use Rattle.rdlpp_meaning.specs.TextTokens.{text_tokens}
use Rattle.rdlpp_texts.specs.declared.tokens.CallRole.{CallRole}
use Rattle.rdlpp_texts.specs.declared.tokens.CallRole.TheVariants.{Space, LineComment, BlockComment, Start, Opener, End, Closer, Comma, Text}
use Rattle.rdlpp_texts.specs.declared.tokens.CallToken.{CallToken}

-- the role that a token of a text has by the definition of a call (source: this project's profile)
unfoldable pub role_meant : CallRole → Role
role_meant Space = role.Space
role_meant LineComment = role.Dropped
role_meant BlockComment = role.KeptComment
role_meant Start = role.Start
role_meant Opener = role.Up
role_meant End = role.End
role_meant Closer = role.Down
role_meant Comma = role.Cut
role_meant Text = role.Text

-- the first token of a text from a mode on: with its role and its size it stands in front of the tokens of the rest
pub record IsFirstToken (mode : Mode) (text : List ℕ) (token : CallToken) : Type 0 where
  pub first : SourceToken
  pub tokens : text_tokens mode text ≡ first ∷ text_tokens token.next_mode (drop token.len text)
  pub role_is : token_role first ≡ role_meant token.role
  pub size : length first.bytes ≡ token.len
  pub not_empty : 0 < token.len
  pub inside : token.len ≤ length text

-- the role of a comma or a bracket by its byte, and of any other byte that of text (source: this project's profile)
unfoldable pub quick_role : ℕ → CallRole
quick_role b =
    if b == 44 then Comma
    else (if b == 40 then Start
    else (if b == 41 then End
    else (if is_opener b then Opener
    else (if is_closer b then Closer
    else Text))))

-- a token of a role and a size with plain text after it
abbrev pub plain_token : CallRole → ℕ → CallToken
plain_token r n = record { role = r; len = n; next_mode = Plain }
