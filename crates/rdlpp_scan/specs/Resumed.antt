-- Strings and block comments that are taken in parts.
-- A definition that names no source is this project's own.
use Rattle.std.specs.Prelude.{ℕ, List, [], ◌∷◌, ◌++◌}
use Rattle.rdlpp_scan.specs.declared.token.Mode.{Mode}
use Rattle.rdlpp_scan.specs.declared.token.Mode.TheVariants.{Plain, InStr, InBlock}
use Rattle.rdlpp_scan.specs.SourceTokens.{Broken, SourceToken, Step, Last, Next}

-- the line on which a string or a comment opened, at a token on a line
unfoldable pub opening : Mode → ℕ → ℕ → ℕ
opening Plain opened line = line
opening InStr opened line = opened
opening InBlock opened line = opened

-- the line of a token with a part in front that begins on a line: that line, or for a broken one its own
unfoldable pub line_with : ℕ → SourceToken → ℕ
line_with line t = elim t.sort [
  | Broken breach ↦ t.line
  | _ ↦ line
]

-- a part of a string or of a comment, which begins on a line, in front of the token that is the rest of it
unfoldable pub with_part : List ℕ → ℕ → SourceToken → SourceToken
with_part part line t = record { sort = t.sort; bytes = part ++ t.bytes; line = line_with line t }

-- the same in front of a step
unfoldable pub onto_step : List ℕ → ℕ → Step → Step
onto_step part line (Last t) = Last (with_part part line t)
onto_step part line (Next t) = Next (with_part part line t)

-- the same in front of tokens
unfoldable pub onto_tokens : List ℕ → ℕ → List SourceToken → List SourceToken
onto_tokens part line [] = []
onto_tokens part line (t ∷ ts) = with_part part line t ∷ ts
