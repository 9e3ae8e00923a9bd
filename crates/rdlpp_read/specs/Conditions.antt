-- The open conditionals of all open sources, and where the innermost source stands among its own.
-- A definition that names no source is this project's own.
use Rattle.std.specs.Prelude.{ℕ, ◌-◌, List, [], ◌∷◌, length, take, map, reverse, Option, None, Some}
use Rattle.rdlpp_meaning.specs.Meaning.{Progress}
use Rattle.rdlpp_meaning.specs.Resumed.{Place, Live, Skipped}
use Rattle.rdlpp_read.specs.declared.conditions.Progress.{Progress as StoredProgress}

-- the open conditionals, the innermost first; where text is skipped, how many opened in it; and how many may be open
pub record ConditionsView : Type 0 where
  pub open_now : List Progress
  pub skipped : Option ℕ
  pub limit : ℕ

-- a stored conditional
abbrev pub progress_of : StoredProgress → Progress
progress_of o = record { line = o.line; taken = o.taken; closing = o.closing }

-- stored conditionals, the innermost last, as they are seen
unfoldable pub seen_of : List StoredProgress → List Progress
seen_of stored = map progress_of (reverse stored)

-- how many more conditionals may be opened
unfoldable pub conditions_left : ConditionsView → ℕ
conditions_left v = v.limit - length v.open_now

-- the open conditionals of the innermost source, where so many of the sources around it are open (this project's profile)
unfoldable pub own_conditions : ℕ → ConditionsView → List Progress
own_conditions below v = take (length v.open_now - below) v.open_now

-- a place among these open conditionals, where text is skipped or isn't
unfoldable pub place_by : Option ℕ → List Progress → Place
place_by skipped [] = Live []
place_by None (o ∷ os) = Live (o ∷ os)
place_by (Some n) (o ∷ os) = Skipped n o os

-- where the innermost source stands among its own conditionals (this project's profile)
unfoldable pub place_of : ℕ → ConditionsView → Place
place_of below v = place_by v.skipped (own_conditions below v)
