-- Where the buckets of an index begin, in groups: as one list, and once a group's own starts and those of the groups after it moved.
use Rattle.std.proofs.Common.{◌≡◌, ℕ, ◌+◌, ◌-◌, ◌*◌, ◌/◌, ◌^◌, ◌<◌, ◌≤◌, List, [], ◌∷◌, ◌++◌, All, refl, length, map, take, drop, get_or, replicate, ap, sym, ◌∙◌, arith, inl, inr, subst, length-append, length-drop, length-take-le, get_or-drop, get_or-take}
use Rattle.std.specs.List.{slice_range}
use Rattle.std.proofs.lemmas.Bool.{cases_lt}
use Rattle.std.proofs.lemmas.List.{ext_get_or, get_or-append_right, get_or-map, get_or-replicate, get_or_append_left, get_or_default, get_or_past, length-map, length-replicate}
use Rattle.std.proofs.lemmas.List.Edits.{get_or-between, length-between}
use Rattle.std.proofs.lemmas.List.FromFn.{get_or-map-range_with_len, length-map-range_with_len}
use Rattle.rdlpp_table.specs.Buckets.{AreSorted, IsGrouped, starts_in}
use Rattle.rdlpp_table.specs.Index.{IsLater, IsSooner}
use borrow.Rule.Slice.PartMut.{put_mid}

pub starts_long : (groups within : List ℕ) → length (starts_in groups within) ≡ length within
unfolding starts_in
starts_long groups within = length-map-range_with_len (λ b. get_or groups (b / 32) 0 + get_or within b 0) 0 (length within)

pub start_is : (groups within : List ℕ) (b : ℕ) → b < length within → get_or (starts_in groups within) b 0 ≡ get_or groups (b / 32) 0 + get_or within b 0
unfolding starts_in
start_is groups within b h = get_or-map-range_with_len (λ b. get_or groups (b / 32) 0 + get_or within b 0) 0 (length within) b b 0 h (omega arith)

-- so many zeros
abbrev zeros : ℕ → List ℕ
zeros n = replicate n 0

zero_at : (n i : ℕ) → get_or (zeros n) i 0 ≡ 0
zero_at n i =
    elim (cases_lt i n) [
      | inl h ↦ get_or-replicate n i 0 0 h
      | inr h ↦ get_or_past (zeros n) i 0 (omega (arith, length-replicate {A = ℕ} n 0))
    ]

map_zero : (xs : List ℕ) → map (λ x. 0) xs ≡ zeros (length xs)
map_zero [] = refl
map_zero (x ∷ xs) = ap (λ (zs : List ℕ). 0 ∷ zs) (map_zero xs)

-- where no group has a place, no bucket has one
pub starts_of_nothing : (m n : ℕ) → starts_in (zeros m) (zeros n) ≡ zeros n
starts_of_nothing m n =
    ext_get_or 0 (starts_in (zeros m) (zeros n)) (zeros n) (starts_long (zeros m) (zeros n)) (λ k h.
    let l : k < length (zeros n) = omega (arith, starts_long (zeros m) (zeros n)) in
    omega (arith, start_is (zeros m) (zeros n) k l, zero_at m (k / 32), zero_at n k))

nothing_at : (p : ℕ) → get_or (starts_in (zeros 33) (zeros 1025)) p 0 ≡ 0
nothing_at p = ap (λ (starts : List ℕ). get_or starts p 0) (starts_of_nothing 33 1025) ∙ zero_at 1025 p

pub grouped_nothing : IsGrouped (zeros 33) (zeros 1025)
grouped_nothing = record {
  groups = length-replicate {A = ℕ} 33 0;
  buckets = length-replicate {A = ℕ} 1025 0;
  first = λ g h. zero_at 1025 (32 * g);
  sorted = λ a b h l. omega (arith, nothing_at a, nothing_at b);
}

-- a list of which a function changed each number between two places
pub record IsMapped (f : ℕ → ℕ) (from to : ℕ) (old new : List ℕ) : Type 0 where
  pub long : length new ≡ length old
  pub before : (p : ℕ) → p < from → get_or new p 0 ≡ get_or old p 0
  pub inside : (p : ℕ) → from ≤ p → p < to → get_or new p 0 ≡ f (get_or old p 0)
  pub following : (p : ℕ) → to ≤ p → get_or new p 0 ≡ get_or old p 0

module _ (f : ℕ → ℕ) (from to : ℕ) (old changed : List ℕ) (o : from ≤ to) (i : to ≤ length old) (g : changed ≡ map f (slice_range old from to)) where
  abbrev back : List ℕ
  back = drop (to - from) (drop from old)

  front_long : length (take from old) ≡ from
  front_long = length-take-le from old (omega arith)

  changed_long : length changed ≡ to - from
  changed_long = omega (arith, ap (length {A = ℕ}) g, length-map (slice_range old from to) f, length-between old from to i)

  after : (p : ℕ) → from ≤ p → get_or (put_mid from (to - from) old changed) p 0 ≡ get_or (changed ++ back) (p - from) 0
  after p h = get_or-append_right (take from old) (changed ++ back) from p 0 front_long h

  pub mapped : IsMapped f from to old (put_mid from (to - from) old changed)
  mapped = record {
    long = omega (arith, length-append (take from old) (changed ++ back), length-append changed back, front_long, changed_long, length-drop (to - from) (drop from old), length-drop from old);
    before = λ p h. get_or_append_left (take from old) (changed ++ back) 0 p (omega (arith, front_long)) ∙ get_or-take from old p 0 h;
    inside = λ p h l.
        let same : from + (p - from) ≡ p = omega arith in
        after p h
        ∙ (get_or_append_left changed back 0 (p - from) (omega (arith, changed_long))
        ∙ (ap (λ (xs : List ℕ). get_or xs (p - from) 0) g
        ∙ (get_or-map f (slice_range old from to) (p - from) 0 0 (omega (arith, length-between old from to i))
        ∙ ap f (get_or-between old from to (p - from) 0 (omega arith) ∙ ap (λ (q : ℕ). get_or old q 0) same))));
    following = λ p h.
        let same : from + (to - from + (p - from - (to - from))) ≡ p = omega arith in
        after p (omega arith)
        ∙ (get_or-append_right changed back (to - from) (p - from) 0 changed_long (omega arith)
        ∙ (get_or-drop (to - from) (drop from old) (p - from - (to - from)) 0
        ∙ (get_or-drop from old (to - from + (p - from - (to - from))) 0 ∙ ap (λ (q : ℕ). get_or old q 0) same)));
  }

-- The starts after a bucket, once those of its own group and of the groups after it moved.
module _ (f : ℕ → ℕ) (bucket : ℕ) (groups within new_groups new_within : List ℕ) (h : bucket < 1024) (g : IsGrouped groups within)
    (w : IsMapped f (bucket + 1) (32 * (bucket / 32 + 1)) within new_within) (s : IsMapped f (bucket / 32 + 1) 33 groups new_groups) where
  regrouped : AreSorted (starts_in new_groups new_within) → IsGrouped new_groups new_within
  regrouped sorted = record {
    groups = s.long ∙ g.groups;
    buckets = w.long ∙ g.buckets;
    first = λ group l.
        elim (cases_lt bucket (32 * group)) [
          | inl a ↦ w.following (32 * group) (omega arith) ∙ g.first group l
          | inr a ↦ w.before (32 * group) (omega arith) ∙ g.first group l
        ];
    sorted = sorted;
  }

  start_before : (p : ℕ) → p ≤ bucket → get_or (starts_in new_groups new_within) p 0 ≡ get_or (starts_in groups within) p 0
  start_before p l =
      omega (arith, start_is new_groups new_within p (omega (arith, w.long, g.buckets)), start_is groups within p (omega (arith, g.buckets)), s.before (p / 32) (omega arith), w.before p (omega arith))

  start_inside : (p : ℕ) → bucket < p → p < 32 * (bucket / 32 + 1) → get_or (starts_in new_groups new_within) p 0 ≡ get_or groups (p / 32) 0 + f (get_or within p 0)
  start_inside p l k =
      omega (arith, start_is new_groups new_within p (omega (arith, w.long, g.buckets)), s.before (p / 32) (omega arith), w.inside p (omega arith) k)

  start_following : (p : ℕ) → 32 * (bucket / 32 + 1) ≤ p → p ≤ 1024 → get_or (starts_in new_groups new_within) p 0 ≡ f (get_or groups (p / 32) 0) + get_or within p 0
  start_following p l k =
      omega (arith, start_is new_groups new_within p (omega (arith, w.long, g.buckets)), s.inside (p / 32) (omega arith) (omega arith), w.following p l)

-- what holds of each number between two places of a list holds of that part
pub part_all : (P : ℕ → Type 0) (from to : ℕ) (xs : List ℕ) → to ≤ length xs → ((p : ℕ) → from ≤ p → p < to → P (get_or xs p 0)) → All P (slice_range xs from to)
part_all P from to xs h a = λ i d l.
    let inside : from + i < to = omega (arith, length-between xs from to h) in
    subst P (sym (get_or-between xs from to i d inside ∙ get_or_default xs (from + i) d 0 (omega arith))) (a (from + i) (omega arith) inside)

-- each bucket after one begins after it
abbrev pub BucketsAreAfter : ℕ → List ℕ → Type 0
BucketsAreAfter bucket starts = (p : ℕ) → bucket < p → p ≤ 1024 → get_or starts bucket 0 < get_or starts p 0

module _ (bucket : ℕ) (groups within : List ℕ) (h : bucket < 1024) (g : IsGrouped groups within) where
  abbrev group : ℕ
  group = bucket / 32

  pub few_within : All (λ s. s ≤ 65536) (starts_in groups within) → All (λ s. s + 1 < 2 ^ 32) (slice_range within (bucket + 1) (32 * (group + 1)))
  few_within f = part_all (λ s. s + 1 < 2 ^ 32) (bucket + 1) (32 * (group + 1)) within (omega (arith, g.buckets)) (λ p a b.
      let l : p < length within = omega (arith, g.buckets) in
      omega (arith, start_is groups within p l, f p 0 (omega (arith, starts_long groups within))))

  pub few_groups : All (λ s. s ≤ 65536) (starts_in groups within) → All (λ s. s + 1 < 2 ^ 32) (slice_range groups (group + 1) 33)
  few_groups f = part_all (λ s. s + 1 < 2 ^ 32) (group + 1) 33 groups (omega (arith, g.groups)) (λ p a b.
      let l : 32 * p < length within = omega (arith, g.buckets) in
      let same : 32 * p / 32 ≡ p = omega arith in
      omega (arith, start_is groups within (32 * p) l, ap (λ (q : ℕ). get_or groups q 0) same, f (32 * p) 0 (omega (arith, starts_long groups within))))

  some_inside : BucketsAreAfter bucket (starts_in groups within) → (p : ℕ) → bucket < p → p < 32 * (group + 1) → 0 < get_or within p 0
  some_inside m p a b =
      let same : p / 32 ≡ group = omega arith in
      omega (arith, start_is groups within p (omega (arith, g.buckets)), start_is groups within bucket (omega (arith, g.buckets)), ap (λ (q : ℕ). get_or groups q 0) same, m p a (omega arith))

  pub some_within : BucketsAreAfter bucket (starts_in groups within) → All (λ s. 0 < s) (slice_range within (bucket + 1) (32 * (group + 1)))
  some_within m = part_all (λ s. 0 < s) (bucket + 1) (32 * (group + 1)) within (omega (arith, g.buckets)) (λ p a b. some_inside m p (omega arith) b)

  some_group : BucketsAreAfter bucket (starts_in groups within) → (p : ℕ) → group < p → p ≤ 32 → 0 < get_or groups p 0
  some_group m p a b =
      let same : 32 * p / 32 ≡ p = omega arith in
      omega (arith, start_is groups within (32 * p) (omega (arith, g.buckets)), ap (λ (q : ℕ). get_or groups q 0) same, g.first p b, m (32 * p) (omega arith) (omega arith))

  pub some_groups : BucketsAreAfter bucket (starts_in groups within) → All (λ s. 0 < s) (slice_range groups (group + 1) 33)
  some_groups m = part_all (λ s. 0 < s) (group + 1) 33 groups (omega (arith, g.groups)) (λ p a b. some_group m p (omega arith) (omega arith))

  module _ (moved moved_groups : List ℕ) where
    abbrev new_within : List ℕ
    new_within = put_mid (bucket + 1) (32 * (group + 1) - (bucket + 1)) within moved

    abbrev new_groups : List ℕ
    new_groups = put_mid (group + 1) (33 - (group + 1)) groups moved_groups

    within_mapped : (k : ℕ → ℕ) → moved ≡ map k (slice_range within (bucket + 1) (32 * (group + 1))) → IsMapped k (bucket + 1) (32 * (group + 1)) within new_within
    within_mapped k m = mapped k (bucket + 1) (32 * (group + 1)) within moved (omega arith) (omega (arith, g.buckets)) m

    groups_mapped : (k : ℕ → ℕ) → moved_groups ≡ map k (slice_range groups (group + 1) 33) → IsMapped k (group + 1) 33 groups new_groups
    groups_mapped k n = mapped k (group + 1) 33 groups moved_groups (omega arith) (omega (arith, g.groups)) n

    pub grouped_again : (k : ℕ → ℕ) → AreSorted (starts_in new_groups new_within) → moved ≡ map k (slice_range within (bucket + 1) (32 * (group + 1))) → moved_groups ≡ map k (slice_range groups (group + 1) 33) → IsGrouped new_groups new_within
    grouped_again k s m n = regrouped k bucket groups within new_groups new_within h g (within_mapped k m) (groups_mapped k n) s

    same_long : (k : ℕ → ℕ) → moved ≡ map k (slice_range within (bucket + 1) (32 * (group + 1))) → length (starts_in new_groups new_within) ≡ length (starts_in groups within)
    same_long k m = starts_long new_groups new_within ∙ ((within_mapped k m).long ∙ sym (starts_long groups within))

    pub later : moved ≡ map (λ s. s + 1) (slice_range within (bucket + 1) (32 * (group + 1))) → moved_groups ≡ map (λ s. s + 1) (slice_range groups (group + 1) 33) → IsLater bucket (starts_in groups within) (starts_in new_groups new_within)
    later m n =
        let w = within_mapped (λ s. s + 1) m in
        let s = groups_mapped (λ s. s + 1) n in
        record {
          long = same_long (λ s. s + 1) m;
          before = start_before (λ s. s + 1) bucket groups within new_groups new_within h g w s;
          following = λ p a b.
              let l : p < length within = omega (arith, starts_long groups within) in
              elim (cases_lt p (32 * (group + 1))) [
                | inl c ↦ omega (arith, start_is groups within p l, start_inside (λ s. s + 1) bucket groups within new_groups new_within h g w s p a c)
                | inr c ↦ omega (arith, start_is groups within p l, start_following (λ s. s + 1) bucket groups within new_groups new_within h g w s p c (omega (arith, g.buckets)))
              ];
        }

    pub sooner : BucketsAreAfter bucket (starts_in groups within) → moved ≡ map (λ s. s - 1) (slice_range within (bucket + 1) (32 * (group + 1))) → moved_groups ≡ map (λ s. s - 1) (slice_range groups (group + 1) 33) → IsSooner bucket (starts_in groups within) (starts_in new_groups new_within)
    sooner some m n =
        let w = within_mapped (λ s. s - 1) m in
        let s = groups_mapped (λ s. s - 1) n in
        record {
          long = same_long (λ s. s - 1) m;
          before = start_before (λ s. s - 1) bucket groups within new_groups new_within h g w s;
          following = λ p a b.
              let l : p < length within = omega (arith, starts_long groups within) in
              elim (cases_lt p (32 * (group + 1))) [
                | inl c ↦ omega (arith, start_is groups within p l, start_inside (λ s. s - 1) bucket groups within new_groups new_within h g w s p a c, some_inside some p a c)
                | inr c ↦ omega (arith, start_is groups within p l, start_following (λ s. s - 1) bucket groups within new_groups new_within h g w s p c (omega (arith, g.buckets)), some_group some (p / 32) (omega arith) (omega (arith, g.buckets)))
              ];
        }

-- Starts that are in order stay so where those after a bucket move by one.
module _ (bucket : ℕ) (starts new : List ℕ) (n : length starts ≡ 1025) (o : AreSorted starts) where
  pub sorted_later : IsLater bucket starts new → AreSorted new
  sorted_later s a b h l =
      elim (cases_lt bucket a) [
        | inl x ↦ omega (arith, o a b h l, s.following a x (omega (arith, n)), s.following b (omega arith) (omega (arith, n)))
        | inr x ↦
            elim (cases_lt bucket b) [
              | inl y ↦ omega (arith, o a b h l, s.before a x, s.following b y (omega (arith, n)))
              | inr y ↦ omega (arith, o a b h l, s.before a x, s.before b y)
            ]
      ]

  pub sorted_sooner : BucketsAreAfter bucket starts → IsSooner bucket starts new → AreSorted new
  sorted_sooner m s a b h l =
      elim (cases_lt bucket a) [
        | inl x ↦ omega (arith, o a b h l, s.following a x (omega (arith, n)), s.following b (omega arith) (omega (arith, n)))
        | inr x ↦
            elim (cases_lt bucket b) [
              | inl y ↦ omega (arith, o a bucket x (omega arith), m b y l, s.before a x, s.following b y (omega (arith, n)))
              | inr y ↦ omega (arith, o a b h l, s.before a x, s.before b y)
            ]
      ]

-- where a group begins where the next one does, each of its buckets begins there
none_within : (groups within : List ℕ) → IsGrouped groups within → (group : ℕ) → group < 32 → get_or groups (group + 1) 0 ≤ get_or groups group 0 → (b : ℕ) → 32 * group ≤ b → b < 32 * (group + 1) → get_or within b 0 ≡ 0
none_within groups within g group h e b a l =
    let same : b / 32 ≡ group = omega arith in
    let next : 32 * (group + 1) / 32 ≡ group + 1 = omega arith in
    omega (arith, start_is groups within b (omega (arith, g.buckets)), ap (λ (q : ℕ). get_or groups q 0) same, start_is groups within (32 * (group + 1)) (omega (arith, g.buckets)), ap (λ (q : ℕ). get_or groups q 0) next, g.first (group + 1) (omega arith), g.sorted b (32 * (group + 1)) (omega arith) (omega arith))

-- the buckets of so many groups begin where their group does, and the others where they did
pub record AreCleared (group : ℕ) (old new : List ℕ) : Type 0 where
  pub long : length new ≡ length old
  pub cleared : (b : ℕ) → b < 32 * group → get_or new b 0 ≡ 0
  pub others : (b : ℕ) → 32 * group ≤ b → get_or new b 0 ≡ get_or old b 0

module _ (groups old new : List ℕ) (group : ℕ) (g : IsGrouped groups old) (h : group < 32) (i : AreCleared group old new) where
  pub group_stays : get_or groups (group + 1) 0 ≤ get_or groups group 0 → AreCleared (group + 1) old new
  group_stays e = record {
    long = i.long;
    cleared = λ b l.
        elim (cases_lt b (32 * group)) [
          | inl c ↦ i.cleared b c
          | inr c ↦ i.others b c ∙ none_within groups old g group h e b c l
        ];
    others = λ b l. i.others b (omega arith);
  }

  abbrev part : List ℕ
  part = slice_range new (32 * group) (32 * (group + 1))

  pub group_cleared : (zeroed : List ℕ) → zeroed ≡ zeros (length part) → AreCleared (group + 1) old (put_mid (32 * group) (32 * (group + 1) - 32 * group) new zeroed)
  group_cleared zeroed z =
      let m = mapped (λ s. 0) (32 * group) (32 * (group + 1)) new zeroed (omega arith) (omega (arith, i.long, g.buckets)) (z ∙ sym (map_zero part)) in
      record {
        long = m.long ∙ i.long;
        cleared = λ b l.
            elim (cases_lt b (32 * group)) [
              | inl c ↦ m.before b c ∙ i.cleared b c
              | inr c ↦ m.inside b c l
            ];
        others = λ b l. m.following b l ∙ i.others b (omega arith);
      }

pub all_cleared : (groups old new : List ℕ) → IsGrouped groups old → AreCleared 32 old new → new ≡ zeros 1025
all_cleared groups old new g i =
    ext_get_or 0 new (zeros 1025) (i.long ∙ (g.buckets ∙ sym (length-replicate {A = ℕ} 1025 0))) (λ k h.
    elim (cases_lt k 1024) [
      | inl c ↦ i.cleared k (omega arith) ∙ sym (zero_at 1025 k)
      | inr c ↦
          let last : k ≡ 32 * 32 = omega (arith, i.long, g.buckets) in
          i.others k (omega arith) ∙ (ap (λ (p : ℕ). get_or old p 0) last ∙ (g.first 32 (omega arith) ∙ sym (zero_at 1025 k)))
    ])
