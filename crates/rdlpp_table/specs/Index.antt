-- The index of a table: the places of its macros, sorted by the buckets in which their names stand, and then by name.
-- A definition that names no source is this project's own.
use Rattle.std.specs.Prelude.{◌≡◌, ℕ, ◌+◌, ◌-◌, ◌*◌, ◌/◌, ◌%◌, ◌^◌, ◌<◌, ◌≤◌, List, [], ◌∷◌, length, map, slice_index, slice_index_or, nat_lt, if◌then◌else◌, MatchResult, Result}
use Rattle.std.specs.declared.cmp.Ordering.{Ordering}
use Rattle.std.specs.declared.cmp.Ordering.TheVariants.{Less, Greater}
use Rattle.std.specs.Cmp.Lexicographic.{slice_cmp}
use Rattle.std.specs.Ordering.{nat_cmp}
use Rattle.std.specs.Slice.Scan.{big_endian}
use Rattle.rdlpp_define.specs.Macros.{Macro}

-- how two names stand to one another, byte by byte
abbrev pub name_order : List ℕ → List ℕ → Ordering
name_order a b = slice_cmp nat_cmp a b

-- a number that is mixed with another one, by a factor without a pattern in its bits
unfoldable pub mix : ℕ → ℕ → ℕ
mix number more = ((number + more) % 2 ^ 64 * 11400714819323198485) % 2 ^ 64

-- the number of a name's last bytes
unfoldable pub fold_bytes : ℕ → List ℕ → ℕ
fold_bytes number [] = number
fold_bytes number (b ∷ bs) = fold_bytes ((number * 256 % 2 ^ 64 + b) % 2 ^ 64) bs

-- a number that is mixed with the bytes of a name, eight at a time
unfoldable pub mix_through : ℕ → List ℕ → ℕ
mix_through number [] = mix number (fold_bytes 0 [])
mix_through number (a ∷ []) = mix number (fold_bytes 0 (a ∷ []))
mix_through number (a ∷ b ∷ []) = mix number (fold_bytes 0 (a ∷ b ∷ []))
mix_through number (a ∷ b ∷ c ∷ []) = mix number (fold_bytes 0 (a ∷ b ∷ c ∷ []))
mix_through number (a ∷ b ∷ c ∷ d ∷ []) = mix number (fold_bytes 0 (a ∷ b ∷ c ∷ d ∷ []))
mix_through number (a ∷ b ∷ c ∷ d ∷ e ∷ []) = mix number (fold_bytes 0 (a ∷ b ∷ c ∷ d ∷ e ∷ []))
mix_through number (a ∷ b ∷ c ∷ d ∷ e ∷ f ∷ []) = mix number (fold_bytes 0 (a ∷ b ∷ c ∷ d ∷ e ∷ f ∷ []))
mix_through number (a ∷ b ∷ c ∷ d ∷ e ∷ f ∷ g ∷ []) = mix number (fold_bytes 0 (a ∷ b ∷ c ∷ d ∷ e ∷ f ∷ g ∷ []))
mix_through number (a ∷ b ∷ c ∷ d ∷ e ∷ f ∷ g ∷ h ∷ rest) = mix_through (mix number (big_endian 0 (a ∷ b ∷ c ∷ d ∷ e ∷ f ∷ g ∷ h ∷ []))) rest

-- in which of the 1,024 buckets of the index a name stands
unfoldable pub bucket_of : List ℕ → ℕ
bucket_of name = mix_through 0 name / 18014398509481984

-- how two names stand to one another in the index: their buckets, then byte by byte
abbrev pub index_order : List ℕ → List ℕ → Ordering
index_order a b = name_order (bucket_of a ∷ a) (bucket_of b ∷ b)

-- the names of macros, in their order
abbrev pub names_of : List Macro → List (List ℕ)
names_of macros = map (λ m. m.name) macros

-- the name at a place
abbrev pub name_at : List (List ℕ) → ℕ → List ℕ
name_at names place = slice_index_or names place []

-- the name to which the index leads at a place of its own
abbrev pub key_at : List (List ℕ) → List ℕ → ℕ → List ℕ
key_at names order k = name_at names (slice_index order k)

-- every place of the names once, sorted by the names' buckets, and then by name
pub record IsIndex (names : List (List ℕ)) (order : List ℕ) : Type 0 where
  pub long : length order ≡ length names
  pub inside : (k : ℕ) → k < length order → slice_index order k < length names
  pub whole : (i : ℕ) → i < length names → (k : ℕ) × ((k < length order) × (slice_index order k ≡ i))
  pub sorted : (j k : ℕ) → j < k → k < length order → index_order (key_at names order j) (key_at names order k) ≡ Less

-- where each of the 1,024 buckets of the index begins, and after them where the index ends
pub record IsDivided (names : List (List ℕ)) (order bucket_starts : List ℕ) : Type 0 where
  pub long : length bucket_starts ≡ 1025
  pub inside : (p : ℕ) → p ≤ 1024 → slice_index bucket_starts p ≤ length order
  pub below : (p k : ℕ) → p ≤ 1024 → k < slice_index bucket_starts p → bucket_of (key_at names order k) < p
  pub above : (p k : ℕ) → p ≤ 1024 → slice_index bucket_starts p ≤ k → k < length order → p ≤ bucket_of (key_at names order k)

-- each bucket after one begins a place later
pub record IsLater (bucket : ℕ) (bucket_starts new : List ℕ) : Type 0 where
  pub long : length new ≡ length bucket_starts
  pub before : (p : ℕ) → p ≤ bucket → slice_index new p ≡ slice_index bucket_starts p
  pub following : (p : ℕ) → bucket < p → p < length bucket_starts → slice_index new p ≡ slice_index bucket_starts p + 1

-- each bucket after one begins a place sooner
pub record IsSooner (bucket : ℕ) (bucket_starts new : List ℕ) : Type 0 where
  pub long : length new ≡ length bucket_starts
  pub before : (p : ℕ) → p ≤ bucket → slice_index new p ≡ slice_index bucket_starts p
  pub following : (p : ℕ) → bucket < p → p < length bucket_starts → slice_index new p ≡ slice_index bucket_starts p - 1

-- the index and where its buckets begin
pub record IsIndexed (names : List (List ℕ)) (order bucket_starts : List ℕ) : Type 0 where
  pub index : IsIndex names order
  pub divided : IsDivided names order bucket_starts

-- the place in the index at which a name stands
pub record IsPlace (names : List (List ℕ)) (order name : List ℕ) (at : ℕ) : Type 0 where
  pub inside : at < length order
  pub same : key_at names order at ≡ name

-- the place in the index at which a name that isn't there would stand
pub record IsGap (names : List (List ℕ)) (order name : List ℕ) (gap : ℕ) : Type 0 where
  pub fits : gap ≤ length order
  pub below : (k : ℕ) → k < gap → index_order (key_at names order k) name ≡ Less
  pub above : (k : ℕ) → gap ≤ k → k < length order → index_order (key_at names order k) name ≡ Greater

-- where a search for a name ended: at its place in the index, or where it would stand
abbrev pub IsFound : List (List ℕ) → List ℕ → List ℕ → Result ℕ ℕ → Type 0
IsFound names order name found = MatchResult found (IsPlace names order name) (IsGap names order name)

-- where a place lies once another one was taken out
unfoldable pub closed : ℕ → ℕ → ℕ
closed taken place = if nat_lt taken place then place - 1 else place

-- a place between two others, with at most half of what is between them on either side
pub record IsMiddle (low high middle : ℕ) : Type 0 where
  pub from : low ≤ middle
  pub to : middle < high
  pub before : 2 * (middle - low) ≤ high - low
  pub following : 2 * (high - (middle + 1)) ≤ high - low

-- how many comparisons a search adds
pub record IsCounted (old new : ℕ) : Type 0 where
  pub more : old ≤ new
  pub few : new ≤ old + 17
