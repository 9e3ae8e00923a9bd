-- What a contract sees of the index of a table, and what a place that comes or goes changes of it.
-- A definition that names no source is this project's own.
use Rattle.std.specs.Prelude.{◌≡◌, ℕ, zero, suc, ◌+◌, ◌*◌, ◌/◌, ◌^◌, ◌<◌, ◌≤◌, List, [], length, insert, map, nat_lt, remove, replicate, slice_index, if◌then◌else◌}
use Rattle.std.specs.List.{range_with_len}
use Rattle.rdlpp_table.specs.Index.{closed, IsLater, IsSooner}

-- how many places and how many offsets an index has room for
pub record IndexRoom : Type 0 where
  pub places : ℕ
  pub formal_offsets : ℕ

-- the places of the macros in their order, where the buckets begin in it, and the offsets of the formals of all macros
pub record IndexView : Type 0 where
  pub places : List ℕ
  pub bucket_starts : List ℕ
  pub formal_offsets : List ℕ
  pub room : IndexRoom

-- an index without anything
abbrev pub empty_index : IndexRoom → IndexView
empty_index room = record { places = []; bucket_starts = replicate 1025 0; formal_offsets = []; room = room }

-- a place comes, that of a name of a bucket
pub record Enters (gap place bucket : ℕ) (old new : IndexView) : Type 0 where
  pub places : new.places ≡ insert old.places gap place
  pub bucket_starts : IsLater bucket old.bucket_starts new.bucket_starts
  pub formal_offsets : new.formal_offsets ≡ old.formal_offsets
  pub room : new.room ≡ old.room

-- a place goes, that of a name of a bucket, and the later ones lie closer
pub record Leaves (at taken bucket : ℕ) (old new : IndexView) : Type 0 where
  pub places : new.places ≡ map (closed taken) (remove old.places at)
  pub bucket_starts : IsSooner bucket old.bucket_starts new.bucket_starts
  pub formal_offsets : new.formal_offsets ≡ old.formal_offsets
  pub room : new.room ≡ old.room

-- in which group of 32 buckets a place of the index stands: of those up to a group the last one that begins there or before it
unfoldable pub group_of : List ℕ → ℕ → ℕ → ℕ
group_of bucket_starts at zero = 0
group_of bucket_starts at (suc g) = if nat_lt at (slice_index bucket_starts (32 * suc g)) then group_of bucket_starts at g else suc g

-- the places of an index in the list in which they lie: so much slack lies before those of each group
unfoldable pub places_in : List ℕ → List ℕ → List ℕ → List ℕ
places_in items slack_before bucket_starts = map (λ at. slice_index items (at + slice_index slack_before (group_of bucket_starts at 31))) (range_with_len 0 (slice_index bucket_starts 1024))

-- a place of the index stands in a bucket
pub record IsInBucket (bucket_starts : List ℕ) (bucket at : ℕ) : Type 0 where
  pub from : slice_index bucket_starts bucket ≤ at
  pub to : at < slice_index bucket_starts (bucket + 1)

-- what holds of how much slack lies before the places of each group, and of where the buckets begin
pub record IsSpaced (slack_before bucket_starts : List ℕ) : Type 0 where
  pub groups : length slack_before ≡ 33
  pub buckets : length bucket_starts ≡ 1025
  pub first : slice_index bucket_starts 0 ≡ 0
  pub in_order : (p q : ℕ) → p ≤ q → q ≤ 1024 → slice_index bucket_starts p ≤ slice_index bucket_starts q
  pub rising : (g h : ℕ) → g ≤ h → h ≤ 32 → slice_index slack_before g ≤ slice_index slack_before h

-- the places of the groups from one on lie after slack, where none lay before them, and what stands before those and after all stands
-- there still
pub record AreMoved (slack_before bucket_starts : List ℕ) (group : ℕ) (items moved : List ℕ) : Type 0 where
  pub before : (p : ℕ) → p < slice_index bucket_starts (32 * group) → slice_index moved p ≡ slice_index items p
  pub places : (g k : ℕ) → group ≤ g → g < 32 → slice_index bucket_starts (32 * g) ≤ k → k < slice_index bucket_starts (32 * (g + 1)) → slice_index moved (k + slice_index slack_before g) ≡ slice_index items k
  pub following : (p : ℕ) → slice_index bucket_starts 1024 + slice_index slack_before 32 ≤ p → slice_index moved p ≡ slice_index items p

-- how many items the list of an index has room for beside the offsets: for so many places, and for the most slack
abbrev pub places_room : ℕ → ℕ
places_room most_places = most_places + 32 * (most_places / 256 + 4)

-- what holds of the list of an index, with its places, the slack of their groups and the offsets, of which so many are given up: there
-- is room for all beside the offsets
pub record IsArranged (len capacity : ℕ) (slack_before bucket_starts : List ℕ) (given_up most_places : ℕ) : Type 0 where
  pub spaced : IsSpaced slack_before bucket_starts
  pub narrow : most_places < 2 ^ 31
  pub few : slice_index bucket_starts 1024 ≤ most_places
  pub little : slice_index bucket_starts 1024 + slice_index slack_before 32 ≤ places_room most_places
  pub inside : slice_index bucket_starts 1024 + slice_index slack_before 32 + given_up ≤ len
  pub room : len + places_room most_places ≤ slice_index bucket_starts 1024 + slice_index slack_before 32 + capacity
