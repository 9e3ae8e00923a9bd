-- Texts in which no call drops a token.
-- A definition that names no source is this project's own.
use Rattle.std.specs.Prelude.{Bool, true, false, List, [], ◌∷◌, if◌then◌else◌}
use Rattle.rdlpp_scan.specs.SourceTokens.{SourceToken}
use Rattle.rdlpp_meaning.specs.Actuals.{token_role}
use Rattle.rdlpp_meaning.specs.CallScan.{is_kept}

-- whether a call keeps each of some tokens (source: this project's profile)
unfoldable pub keeps_each : List SourceToken → Bool
keeps_each [] = true
keeps_each (t ∷ ts) = if is_kept (token_role t) then keeps_each ts else false
