-- The tokens of a text as it lies in a logical line, beside those of the text as it is read.
-- A definition that names no source is this project's own.
use Rattle.std.specs.Prelude.{◌≡◌, ℕ, ◌+◌, Bool, true, false, ◌==◌, List, [], take, drop, if◌then◌else◌}
use Rattle.rdlpp_scan.specs.declared.token.Kind.{Kind}
use Rattle.rdlpp_scan.specs.declared.token.Kind.TheVariants.{LineEnd, LineComment}
use Rattle.rdlpp_scan.specs.declared.token.Mode.{Mode}
use Rattle.rdlpp_scan.specs.declared.token.Mode.TheVariants.{Plain, InStr, InBlock}
use Rattle.rdlpp_scan.specs.declared.token.Token.{Token}
use Rattle.rdlpp_scan.specs.Tokens.{whole, token_of}
use Rattle.rdlpp_scan.specs.Continuations.{continuation_len, as_read}

-- the first token of a text of a logical line: in plain text a continuation is a line end (IEEE 1364-2001, `define`)
unfoldable pub line_token : Bool → Mode → List ℕ → Token
line_token false mode text = token_of mode text
line_token true Plain text = if continuation_len text == 0 then token_of Plain text else whole LineEnd (continuation_len text + 1)
line_token true InStr text = token_of InStr text
line_token true InBlock text = token_of InBlock text

-- the bytes of a token, none of a `//` comment
abbrev pub kept_of : Kind → List ℕ → List ℕ
kept_of k bytes = elim k [ LineComment ↦ [] | _ ↦ bytes ]

-- a first token is that of the text as it is read: its kind, the mode after it, its bytes but for those of a `//` comment, and
-- what stands after it
pub record IsRead (is_logical : Bool) (mode : Mode) (text : List ℕ) (t : Token) : Type 0 where
  pub kind : t.kind ≡ (token_of mode (as_read is_logical text)).kind
  pub next_mode : t.next_mode ≡ (token_of mode (as_read is_logical text)).next_mode
  pub bytes : kept_of t.kind (as_read is_logical (take t.len text)) ≡ kept_of t.kind (take (token_of mode (as_read is_logical text)).len (as_read is_logical text))
  pub following : as_read is_logical (drop t.len text) ≡ drop (token_of mode (as_read is_logical text)).len (as_read is_logical text)
