-- Which tokens can be open at the end of what is there of a text, and which tokens of a source are those of the token table.
-- A definition that names no source is this project's own.
use Rattle.std.specs.Prelude.{Bool, true, false}
use Rattle.rdlpp_scan.specs.declared.token.Kind.{Kind}
use Rattle.rdlpp_scan.specs.declared.token.Kind.TheVariants.{Str, BlockComment, Opener, Closer, Comma}
use Rattle.rdlpp_scan.specs.SourceTokens.{Ordinary, SourceToken}

-- whether a token of a kind can leave a string or a block comment open after it
unfoldable pub opens_mode : Kind → Bool
opens_mode Str = true
opens_mode BlockComment = true
opens_mode _ = false

-- whether each token of a kind is one byte: an opener, a closer or a comma
unfoldable pub is_one_byte : Kind → Bool
is_one_byte Opener = true
is_one_byte Closer = true
is_one_byte Comma = true
is_one_byte _ = false

-- whether a token of a source is one of the token table: neither a `define` nor a `line` with what it takes, nor broken
unfoldable pub is_ordinary : SourceToken → Bool
is_ordinary t = elim t.sort [ Ordinary k ↦ true | _ ↦ false ]
