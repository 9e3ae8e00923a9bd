-- What a reader of a body or of a default text has left.
-- A definition that names no source is this project's own.
use Rattle.std.specs.Prelude.{◌≡◌, ℕ, ◌+◌, ◌<◌, ◌≤◌, Bool, true, false, [], length, unwrap_or, Result, Ok, Err}
use Rattle.rdlpp_scan.specs.declared.kept_text.KeptBytes.{KeptBytes}
use Rattle.rdlpp_scan.specs.Continuations.{as_read}
use Rattle.rdlpp_scan.specs.KeptText.{Cleared, Sound, Unsound, onto, left_in}
use Rattle.rdlpp_scan.specs.declared.token.LexFault.{LexFault}

-- what is left of the text after the token that is read, or its first fault
abbrev pub left_after : KeptBytes → Cleared
left_after bytes = left_in bytes.level bytes.mode (as_read bytes.is_logical bytes.rest.now)

-- what is left of the text without its `//` comments, or its first fault
abbrev pub left : KeptBytes → Cleared
left bytes = onto (as_read bytes.is_logical bytes.token.now) (left_after bytes)

-- how many bytes weren't read yet
abbrev pub unread : KeptBytes → ℕ
unread bytes = length bytes.token.now + length bytes.rest.now

-- no level after a token of the text is too large for its number
abbrev pub LevelFits : KeptBytes → Type 0
LevelFits bytes = unwrap_or bytes.level 0 + length bytes.rest.now ≤ 18446744073709551615

-- what going on to the next token does
unfoldable pub IsAdvanced : KeptBytes → Result Bool LexFault → KeptBytes → Type 0
IsAdvanced old (Ok true) new = (left new ≡ left_after old) × (length new.rest.now < length old.rest.now)
IsAdvanced old (Ok false) new = (left_after old ≡ Sound [] (as_read old.is_logical old.rest.now)) × (new ≡ old)
IsAdvanced old (Err fault) new = left_after old ≡ Unsound fault
