-- The tokens of a text from a mode on.
-- A definition that names no source is this project's own.
use Rattle.std.specs.Prelude.{ℕ, List}
use Rattle.rdlpp_scan.specs.declared.token.Mode.{Mode}
use Rattle.rdlpp_scan.specs.Tokens.{tokens_from}
use Rattle.rdlpp_scan.specs.SourceTokens.{SourceToken}
use Rattle.rdlpp_meaning.specs.Substitution.{spelled}

-- the tokens of a text from a mode on; those of a body are these from plain text on
unfoldable pub text_tokens : Mode → List ℕ → List SourceToken
text_tokens mode bytes = spelled (tokens_from mode 0 bytes) bytes
