-- Where the buckets of an index begin, as they are kept: in groups of 32 buckets.
-- A definition that names no source is this project's own.
use Rattle.std.specs.Prelude.{◌≡◌, ℕ, ◌+◌, ◌*◌, ◌/◌, ◌≤◌, List, length, map, slice_index}
use Rattle.std.specs.List.{range_with_len}

-- where each bucket begins, and after them where the last one ends: where its group begins, and so much further on
unfoldable pub starts_in : List ℕ → List ℕ → List ℕ
starts_in group_starts within = map (λ b. slice_index group_starts (b / 32) + slice_index within b) (range_with_len 0 (length within))

-- no bucket begins before one that stands before it
abbrev pub AreSorted : List ℕ → Type 0
AreSorted starts = (a b : ℕ) → a ≤ b → b ≤ 1024 → slice_index starts a ≤ slice_index starts b

-- what holds of them: each group begins where its first bucket does, and no bucket begins before one that stands before it
pub record IsGrouped (group_starts within : List ℕ) : Type 0 where
  pub groups : length group_starts ≡ 33
  pub buckets : length within ≡ 1025
  pub first : (group : ℕ) → group ≤ 32 → slice_index within (32 * group) ≡ 0
  pub sorted : AreSorted (starts_in group_starts within)
