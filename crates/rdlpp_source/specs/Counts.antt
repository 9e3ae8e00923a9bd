-- Counts of failures, which stop at the largest `u64`.
-- A definition that names no source is this project's own.
use Rattle.std.specs.Prelude.{◌≡◌, ℕ, ◌+◌, ◌-◌, ◌^◌, min, Bool, true, false}

-- the count went from old to new: one more where it rose, up to `u64::MAX`, and else the same (source: this project's profile)
abbrev pub Counts : Bool → ℕ → ℕ → Type 0
Counts true old new = new ≡ min (old + 1) (2 ^ 64 - 1)
Counts false old new = new ≡ old
