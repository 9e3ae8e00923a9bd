-- Where the text that is held of a source begins with a `define`.
-- A definition that names no source is this project's own.
use Rattle.std.specs.Prelude.{◌≡◌, ◌<◌, ℕ, true, List, length, take, bytes_eq}
use Rattle.rdlpp_scan.specs.declared.token.Directive.TheVariants.{Define}
use Rattle.rdlpp_scan.specs.declared.token.Kind.TheVariants.{Back}
use Rattle.rdlpp_scan.specs.declared.token.Mode.TheVariants.{Plain}
use Rattle.rdlpp_scan.specs.Tokens.{token_of}
use Rattle.rdlpp_scan.specs.Lines.{EndsLine}
use Rattle.rdlpp_scan.specs.Reserved.{directive_word}

-- what is held ends at a line end or at the text's end, and begins with a `define` (IEEE 1364-2001, `define`)
pub record HoldsDefine (held rest : List ℕ) : Type 0 where
  pub some : 0 < length held
  pub ends : EndsLine held rest
  pub kind : (token_of Plain held).kind ≡ Back
  pub word : bytes_eq (take (token_of Plain held).len held) (directive_word Define) ≡ true
