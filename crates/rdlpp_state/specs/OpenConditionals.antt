-- The open conditionals of the open sources.
-- A definition that names no source is this project's own.
use Rattle.std.specs.Prelude.{◌≡◌, ℕ, ◌+◌, ◌-◌, ◌^◌, ◌≤◌, ◌<◌, List, [], ◌∷◌, length, drop, Some}
use Rattle.std.specs.Option.{unwrap_or}
use Rattle.rdlpp_define.specs.declared.limits.Limits.{Limits}
use Rattle.rdlpp_meaning.specs.Meaning.{Progress}
use Rattle.rdlpp_meaning.specs.State.{shown_line}
use Rattle.rdlpp_read.specs.Buffer.{unused_of}
use Rattle.rdlpp_read.specs.Files.{inner_buffer, shift_of}
use Rattle.rdlpp_read.specs.declared.files.File.{File}
use Rattle.rdlpp_read.specs.Conditions.{ConditionsView}

-- the open conditionals of the sources around one around which so many are open (this project's profile)
unfoldable pub outer_open : ℕ → List Progress → List Progress
outer_open below os = drop (length os - below) os

-- around each open source, the innermost first, no more conditionals are open than around the one inside it; and none around the
-- outermost
abbrev pub AreBelow : {R : Type 0} → ℕ → List (File R) → Type 0
AreBelow most [] = most ≡ 0
AreBelow most (f ∷ outer) = (f.conditions_below ≤ most) × AreBelow f.conditions_below outer

-- how many conditionals are open around the innermost source
abbrev pub inner_below : {R : Type 0} → List (File R) → ℕ
inner_below [] = 0
inner_below (f ∷ outer) = f.conditions_below

-- the number that the line of its next byte shows (IEEE 1364-2001, `line`)
abbrev pub inner_shown : {R : Type 0} → List (File R) → ℕ
inner_shown [] = 0
inner_shown (f ∷ outer) = shown_line (shift_of f.shift) f.buffer.line

-- what always holds of the open conditionals: no more are open than the limits allow, and each source has its own among them; where
-- text is skipped, a conditional of the innermost source skips it; and the count of those that opened there stays small with what
-- that source may still give
pub record AreConditions {R : Type 0} (limits : Limits) (v : ConditionsView) (include_stack : List (File R)) : Type 0 where
  pub limit : v.limit ≡ limits.conditions
  pub few : length v.open_now ≤ v.limit
  pub below : AreBelow (length v.open_now) include_stack
  pub own : (n : ℕ) → v.skipped ≡ Some n → inner_below include_stack < length v.open_now
  pub counted : unwrap_or v.skipped 0 + unused_of (inner_buffer include_stack) < 2 ^ 31
