-- How far ordinary text at the front of bytes is passed.
-- A definition that names no source is this project's own.
use Rattle.std.specs.Prelude.{◌≡◌, ℕ, ◌<◌, ◌≤◌, Bool, false, ◌||◌, ◌==◌, List, length, take, drop}
use Rattle.rdlpp_scan.specs.SourceTokens.{line_ends}
use Rattle.rdlpp_scan.specs.Tokens.{stops_plain_text}

-- a byte at which ordinary text may stop: a backquote, `"`, `/` or `<` (this project's profile)
unfoldable pub is_mark : ℕ → Bool
is_mark b = b == 96 || b == 34 || b == 47 || b == 60

-- so many bytes of ordinary text, of which so many are LF
pub record IsPassed (bytes : List ℕ) (len count : ℕ) : Type 0 where
  pub inside : len ≤ length bytes
  pub plain : (j : ℕ) → j < len → stops_plain_text (drop j bytes) ≡ false
  pub ends : count ≡ line_ends (take len bytes)
