-- The list of an index: the places with slack after those of each group, and the offsets after all, in one list.
use Rattle.std.proofs.Common.{◌≡◌, ℕ, zero, suc, ◌+◌, ◌-◌, ◌*◌, ◌/◌, ◌^◌, ◌<◌, ◌≤◌, List, [], ◌++◌, All, length, get_or, set, length-append, length-set, map, take, drop, insert, remove, ap, sym, subst, ◌∙◌, arith, inl, inr, refl, replicate, ◌≢◌, get_or-drop, get_or-take, length-drop, length-take-le, take-append-drop, drop_at, take_at}
use Rattle.std.specs.List.{copy_within, remove_range, slice_range}
use Rattle.std.proofs.lemmas.Bool.{cases_lt, cond-false, cond-true, le-ltb, lt-ltb}
use Rattle.std.proofs.lemmas.List.{drop-append-le, drop-drop, ext_get_or, get_or-append_right, get_or-map, get_or-replicate, get_or-set_other, get_or-set_same, get_or_append_left, get_or_past, length-map, length-replicate, nil_from_length}
use Rattle.std.proofs.lemmas.List.Edits.{get_or-insert_above, get_or-insert_at, get_or-insert_below, get_or-remove_above, get_or-remove_below, length-insert, length-remove}
use Rattle.std.proofs.lemmas.List.FromFn.{get_or-map-range_with_len, length-map-range_with_len}
use Rattle.std.proofs.lemmas.Nat.{mul-le}
use Rattle.std.proofs.lemmas.Slice.{between_is}
use Rattle.rdlpp_table.specs.Index.{closed, IsLater, IsSooner}
use Rattle.rdlpp_table.specs.IndexView.{AreMoved, Enters, IndexRoom, IndexView, IsArranged, IsInBucket, IsSpaced, Leaves, empty_index, group_of, places_in, places_room}
use Rattle.rdlpp_table.proofs.Groups.{IsMapped, part_all}

-- an index of its parts
abbrev view_of : List ℕ → List ℕ → List ℕ → ℕ → ℕ → ℕ → IndexView
view_of items before starts given_up most offsets = record { places = places_in items before starts; bucket_starts = starts; formal_offsets = drop given_up (drop (get_or starts 1024 0 + get_or before 32 0) items); room = record { places = most; formal_offsets = offsets } }

-- where a group begins
abbrev start : List ℕ → ℕ → ℕ
start starts g = get_or starts (32 * g) 0

-- The group of a place.

-- a group is the last one up to another one that begins at a place or before it
record IsGroup (starts : List ℕ) (at n g : ℕ) : Type 0 where
  low : start starts g ≤ at
  most : g ≤ n
  high : (h : ℕ) → g < h → h ≤ n → at < start starts h

group_found : (starts : List ℕ) (at n : ℕ) → get_or starts 0 0 ≡ 0 → IsGroup starts at n (group_of starts at n)
unfolding group_of
group_found starts at zero f = record { low = omega (arith, f); most = omega arith; high = λ h a b. absurd (omega arith) }
group_found starts at (suc n) f =
    let P : ℕ → Type 0 = IsGroup starts at (suc n) in
    let r = group_found starts at n f in
    elim (cases_lt at (start starts (suc n))) [
      | inl l ↦
          let higher : (h : ℕ) → group_of starts at n < h → h ≤ suc n → at < start starts h = λ h a b.
          elim (cases_lt n h) [
            | inl c ↦ let same : suc n ≡ h = omega arith in subst (λ (i : ℕ). at < start starts i) same l
            | inr c ↦ r.high h a c
          ] in
          subst P (sym (cond-true _ _ _ (lt-ltb _ _ l))) (record { low = r.low; most = omega (arith, r.most); high = higher })
      | inr l ↦ subst P (sym (cond-false _ _ _ (le-ltb _ _ l))) (record { low = l; most = omega arith; high = λ h a b. absurd (omega arith) })
    ]

-- a place stands in the group of which it is
record IsIn (starts : List ℕ) (at g : ℕ) : Type 0 where
  some : g < 32
  low : start starts g ≤ at
  high : at < start starts (g + 1)

own_group : (starts : List ℕ) (at : ℕ) → get_or starts 0 0 ≡ 0 → at < get_or starts 1024 0 → IsIn starts at (group_of starts at 31)
own_group starts at f h =
    let r = group_found starts at 31 f in
    let g : ℕ = group_of starts at 31 in
    record {
      some = omega (arith, r.most);
      low = r.low;
      high = elim (cases_lt g 31) [
        | inl l ↦ r.high (g + 1) (omega arith) (omega arith)
        | inr l ↦ let same : 32 ≡ g + 1 = omega (arith, r.most) in subst (λ (i : ℕ). at < start starts i) same h
      ];
    }

module _ (before starts : List ℕ) (s : IsSpaced before starts) where
  one_group : (at g : ℕ) → IsIn starts at g → group_of starts at 31 ≡ g
  one_group at g i =
      let r = group_found starts at 31 s.first in
      let f : ℕ = group_of starts at 31 in
      elim (cases_lt f g) [
        | inl l ↦ absurd (omega (arith, r.high g l (omega (arith, i.some)), i.low))
        | inr l ↦ elim (cases_lt g f) [
          | inl k ↦ absurd (omega (arith, r.low, i.high, s.in_order (32 * (g + 1)) (32 * f) (omega arith) (omega (arith, r.most))))
          | inr k ↦ omega arith
        ]
      ]

  -- a place of a group lies after the slack before that group
  place_is : (items : List ℕ) (at g : ℕ) → IsIn starts at g → get_or (places_in items before starts) at 0 ≡ get_or items (at + get_or before g 0) 0
  unfolding places_in
  place_is items at g i =
      let last : start starts (g + 1) ≤ get_or starts 1024 0 = s.in_order (32 * (g + 1)) 1024 (omega (arith, i.some)) (omega arith) in
      get_or-map-range_with_len (λ at. get_or items (at + get_or before (group_of starts at 31) 0) 0) 0 (get_or starts 1024 0) at at 0 (omega (arith, i.high)) (omega arith)
      ∙ ap (λ (f : ℕ). get_or items (at + get_or before f 0) 0) (one_group at g i)

pub places_long : (items before starts : List ℕ) → length (places_in items before starts) ≡ get_or starts 1024 0
unfolding places_in
places_long items before starts = length-map-range_with_len (λ at. get_or items (at + get_or before (group_of starts at 31) 0) 0) 0 (get_or starts 1024 0)

-- places are those of a list where they are so in each group
places_are : (items before starts places : List ℕ) → IsSpaced before starts → length places ≡ get_or starts 1024 0 → ((k g : ℕ) → IsIn starts k g → get_or items (k + get_or before g 0) 0 ≡ get_or places k 0) → places_in items before starts ≡ places
places_are items before starts places s e h =
    ext_get_or 0 (places_in items before starts) places (places_long items before starts ∙ sym e) (λ k l.
    let i = own_group starts k s.first (omega (arith, places_long items before starts)) in
    place_is before starts s items k (group_of starts k 31) i ∙ h k (group_of starts k 31) i)

-- what is after one place of a list is what is after another one of another list
same_rest : (xs ys : List ℕ) (i j : ℕ) → length xs + j ≡ length ys + i → i ≤ length xs → ((p : ℕ) → get_or xs (i + p) 0 ≡ get_or ys (j + p) 0) → drop i xs ≡ drop j ys
same_rest xs ys i j e l h =
    ext_get_or 0 (drop i xs) (drop j ys) (omega (arith, length-drop i xs, length-drop j ys)) (λ k m. get_or-drop i xs k 0 ∙ (h k ∙ sym (get_or-drop j ys k 0)))

-- A list, once a part of it was copied within it.

record IsCopied (xs copied : List ℕ) (i j dest : ℕ) : Type 0 where
  long : length copied ≡ length xs
  before : (p : ℕ) → p < dest → get_or copied p 0 ≡ get_or xs p 0
  inside : (p : ℕ) → dest ≤ p → p < dest + (j - i) → get_or copied p 0 ≡ get_or xs (i + (p - dest)) 0
  following : (p : ℕ) → dest + (j - i) ≤ p → get_or copied p 0 ≡ get_or xs p 0

copied : (xs : List ℕ) (i j dest : ℕ) → i ≤ j → j ≤ length xs → dest + (j - i) ≤ length xs → IsCopied xs (copy_within xs i j dest) i j dest
copied xs i j dest o l r =
    let front : List ℕ = take dest xs in
    let middle : List ℕ = take (j - i) (drop i xs) in
    let back : List ℕ = drop (dest + (j - i)) xs in
    let front_long : length front ≡ dest = length-take-le dest xs (omega arith) in
    let middle_long : length middle ≡ j - i = length-take-le (j - i) (drop i xs) (omega (arith, length-drop i xs)) in
    let both : length (front ++ middle) ≡ dest + (j - i) = omega (arith, length-append front middle) in
    record {
      long = omega (arith, length-append (front ++ middle) back, length-drop (dest + (j - i)) xs);
      before = λ p h. get_or_append_left (front ++ middle) back 0 p (omega arith) ∙ (get_or_append_left front middle 0 p (omega arith) ∙ get_or-take dest xs p 0 h);
      inside = λ p h k.
          get_or_append_left (front ++ middle) back 0 p (omega arith)
          ∙ (get_or-append_right front middle dest p 0 front_long h
          ∙ (get_or-take (j - i) (drop i xs) (p - dest) 0 (omega arith)
          ∙ get_or-drop i xs (p - dest) 0));
      following = λ p h.
          let same : dest + (j - i) + (p - (dest + (j - i))) ≡ p = omega arith in
          get_or-append_right (front ++ middle) back (dest + (j - i)) p 0 both h
          ∙ (get_or-drop (dest + (j - i)) xs (p - (dest + (j - i))) 0
          ∙ ap (λ (q : ℕ). get_or xs q 0) same);
    }

-- A place that comes: what stands from there on in its group moves one to the back.

record IsPut (items new : List ℕ) (at end place : ℕ) : Type 0 where
  long : length new ≡ length items
  before : (p : ℕ) → p < at → get_or new p 0 ≡ get_or items p 0
  here : get_or new at 0 ≡ place
  moved : (p : ℕ) → at < p → p ≤ end → get_or new p 0 ≡ get_or items (p - 1) 0
  following : (p : ℕ) → end < p → get_or new p 0 ≡ get_or items p 0

put : (items new : List ℕ) (at end place : ℕ) → at ≤ end → end < length items → new ≡ set (copy_within items at end (at + 1)) at place → IsPut items new at end place
put items new at end place o l e =
    let both : List ℕ = copy_within items at end (at + 1) in
    let c = copied items at end (at + 1) o (omega arith) (omega arith) in
    let other : (p : ℕ) → p ≢ at → get_or new p 0 ≡ get_or both p 0 = λ p n. ap (λ (xs : List ℕ). get_or xs p 0) e ∙ get_or-set_other both at p place 0 n in
    record {
      long = ap (length {A = ℕ}) e ∙ (length-set both at place ∙ c.long);
      before = λ p h. other p (λ s. absurd (omega arith)) ∙ c.before p (omega arith);
      here = ap (λ (xs : List ℕ). get_or xs at 0) e ∙ get_or-set_same both at place 0 (omega (arith, c.long));
      moved = λ p h k.
          let same : at + (p - (at + 1)) ≡ p - 1 = omega arith in
          other p (λ s. absurd (omega arith)) ∙ (c.inside p (omega arith) (omega arith) ∙ ap (λ (q : ℕ). get_or items q 0) same);
      following = λ p h. other p (λ s. absurd (omega arith)) ∙ c.following p (omega arith);
    }

-- some slack lies before each group after one that has slack
pub some_slack : (before starts : List ℕ) (group : ℕ) → IsSpaced before starts → group < 32 → get_or before group 0 < get_or before (group + 1) 0 → All (λ n. 0 < n) (slice_range before (group + 1) 33)
some_slack before starts group s h k = part_all (λ n. 0 < n) (group + 1) 33 before (omega (arith, s.groups)) (λ p a b. omega (arith, s.rising (group + 1) p a (omega arith)))

-- the groups after one begin a place later, and less slack lies before them
module _ (items new before new_before starts new_starts : List ℕ) (bucket gap place : ℕ) (small : bucket < 1024) (s : IsSpaced before starts)
    (low : get_or starts bucket 0 ≤ gap) (high : gap ≤ get_or starts (bucket + 1) 0) (inside : get_or starts 1024 0 + get_or before 32 0 ≤ length items)
    (some : get_or before (bucket / 32) 0 < get_or before (bucket / 32 + 1) 0) (l : IsLater bucket starts new_starts)
    (m : IsMapped (λ n. n - 1) (bucket / 32 + 1) 33 before new_before)
    (e : new ≡ set (copy_within items (gap + get_or before (bucket / 32) 0) (start starts (bucket / 32 + 1) + get_or before (bucket / 32) 0) (gap + get_or before (bucket / 32) 0 + 1)) (gap + get_or before (bucket / 32) 0) place) where
  abbrev own : ℕ
  own = bucket / 32

  own_low : start starts own ≤ gap
  own_low = omega (arith, s.in_order (32 * own) bucket (omega arith) (omega arith))

  own_high : gap ≤ start starts (own + 1)
  own_high = omega (arith, s.in_order (bucket + 1) (32 * (own + 1)) (omega arith) (omega arith))

  -- the list with the place
  p : IsPut items new (gap + get_or before own 0) (start starts (own + 1) + get_or before own 0) place
  p = put items new _ _ place (omega (arith, own_high)) (omega (arith, s.in_order (32 * (own + 1)) 1024 (omega arith) (omega arith), s.rising (own + 1) 32 (omega arith) (omega arith))) e

  begins : (g : ℕ) → g ≤ own → start new_starts g ≡ start starts g
  begins g h = l.before (32 * g) (omega arith)

  begins_later : (g : ℕ) → own < g → g ≤ 32 → start new_starts g ≡ start starts g + 1
  begins_later g h k = l.following (32 * g) (omega arith) (omega (arith, s.buckets))

  less : (g : ℕ) → own < g → g ≤ 32 → get_or new_before g 0 + 1 ≡ get_or before g 0
  less g h k = omega (arith, m.inside g (omega arith) (omega arith), s.rising (own + 1) g (omega arith) k)

  entered_spaced : IsSpaced new_before new_starts
  entered_spaced = record {
    groups = m.long ∙ s.groups;
    buckets = l.long ∙ s.buckets;
    first = l.before 0 (omega arith) ∙ s.first;
    in_order = λ a b h k.
        elim (cases_lt bucket a) [
          | inl c ↦ omega (arith, l.following a c (omega (arith, s.buckets)), l.following b (omega arith) (omega (arith, s.buckets)), s.in_order a b h k)
          | inr c ↦ elim (cases_lt bucket b) [
            | inl d ↦ omega (arith, l.before a c, l.following b d (omega (arith, s.buckets)), s.in_order a b h k)
            | inr d ↦ omega (arith, l.before a c, l.before b d, s.in_order a b h k)
          ]
        ];
    rising = λ g h a b.
        elim (cases_lt own g) [
          | inl c ↦ omega (arith, less g c (omega arith), less h (omega arith) b, s.rising g h a b)
          | inr c ↦ elim (cases_lt own h) [
            | inl d ↦ omega (arith, m.before g (omega arith), less h d b, s.rising g own c (omega arith), s.rising (own + 1) h (omega arith) b)
            | inr d ↦ omega (arith, m.before g (omega arith), m.before h (omega arith), s.rising g h a b)
          ]
        ];
  }

  abbrev places : List ℕ
  places = places_in items before starts

  gap_fits : gap ≤ length places
  gap_fits = omega (arith, own_high, s.in_order (32 * (own + 1)) 1024 (omega arith) (omega arith), places_long items before starts)

  -- what stands in an earlier group, in the group itself and in a later one
  earlier : (k g : ℕ) → IsIn new_starts k g → g < own → get_or new (k + get_or new_before g 0) 0 ≡ get_or (insert places gap place) k 0
  earlier k g i h =
      let old : IsIn starts k g = record { some = i.some; low = omega (arith, i.low, begins g (omega arith)); high = omega (arith, i.high, begins (g + 1) (omega arith)) } in
      let same : get_or new_before g 0 ≡ get_or before g 0 = m.before g (omega arith) in
      let below : k < gap = omega (arith, old.high, own_low, s.in_order (32 * (g + 1)) (32 * own) (omega arith) (omega arith)) in
      ap (λ (q : ℕ). get_or new (k + q) 0) same
      ∙ (p.before (k + get_or before g 0) (omega (arith, s.rising g own (omega arith) (omega arith)))
      ∙ (sym (place_is before starts s items k g old) ∙ sym (get_or-insert_below places gap place 0 k below gap_fits)))

  inside_own : (k : ℕ) → IsIn new_starts k own → get_or new (k + get_or before own 0) 0 ≡ get_or (insert places gap place) k 0
  inside_own k i =
      let end : k ≤ start starts (own + 1) = omega (arith, i.high, begins_later (own + 1) (omega arith) (omega arith)) in
      elim (cases_lt k gap) [
        | inl h ↦
            let old : IsIn starts k own = record { some = i.some; low = omega (arith, i.low, begins own (omega arith)); high = omega (arith, own_high) } in
            p.before (k + get_or before own 0) (omega arith)
            ∙ (sym (place_is before starts s items k own old) ∙ sym (get_or-insert_below places gap place 0 k h gap_fits))
        | inr h ↦ elim (cases_lt gap k) [
          | inl j ↦
              let old : IsIn starts (k - 1) own = record { some = i.some; low = omega (arith, own_low); high = omega arith } in
              let next : k - 1 + 1 ≡ k = omega arith in
              let back : k + get_or before own 0 - 1 ≡ k - 1 + get_or before own 0 = omega arith in
              p.moved (k + get_or before own 0) (omega arith) (omega arith)
              ∙ (ap (λ (q : ℕ). get_or items q 0) back
              ∙ (sym (place_is before starts s items (k - 1) own old)
              ∙ (sym (get_or-insert_above places gap place 0 (k - 1) (omega arith) gap_fits) ∙ ap (λ (q : ℕ). get_or (insert places gap place) q 0) next)))
          | inr j ↦
              let same : gap ≡ k = omega arith in
              let P : ℕ → Type 0 = λ q. get_or new (q + get_or before own 0) 0 ≡ get_or (insert places gap place) q 0 in
              subst P same (p.here ∙ sym (get_or-insert_at places gap place 0 gap_fits))
        ]
      ]

  later : (k g : ℕ) → IsIn new_starts k g → own < g → get_or new (k + get_or new_before g 0) 0 ≡ get_or (insert places gap place) k 0
  later k g i h =
      let from : start new_starts g ≡ start starts g + 1 = begins_later g h (omega (arith, i.some)) in
      let to : start new_starts (g + 1) ≡ start starts (g + 1) + 1 = begins_later (g + 1) (omega arith) (omega (arith, i.some)) in
      let old : IsIn starts (k - 1) g = record { some = i.some; low = omega (arith, i.low, from); high = omega (arith, i.high, to, i.low, from) } in
      let fewer : get_or new_before g 0 + 1 ≡ get_or before g 0 = less g h (omega (arith, i.some)) in
      let same : k + get_or new_before g 0 ≡ k - 1 + get_or before g 0 = omega (arith, i.low, from) in
      let next : k - 1 + 1 ≡ k = omega (arith, i.low, from) in
      let above : gap ≤ k - 1 = omega (arith, own_high, old.low, s.in_order (32 * (own + 1)) (32 * g) (omega arith) (omega (arith, i.some))) in
      ap (λ (q : ℕ). get_or new q 0) same
      ∙ (p.following (k - 1 + get_or before g 0) (omega (arith, old.low, s.in_order (32 * (own + 1)) (32 * g) (omega arith) (omega (arith, i.some)), s.rising (own + 1) g (omega arith) (omega (arith, i.some))))
      ∙ (sym (place_is before starts s items (k - 1) g old)
      ∙ (sym (get_or-insert_above places gap place 0 (k - 1) above gap_fits) ∙ ap (λ (q : ℕ). get_or (insert places gap place) q 0) next)))

  entered_count : get_or new_starts 1024 0 ≡ get_or starts 1024 0 + 1
  entered_count = l.following 1024 small (omega (arith, s.buckets))

  entered_end : get_or new_starts 1024 0 + get_or new_before 32 0 ≡ get_or starts 1024 0 + get_or before 32 0
  entered_end = omega (arith, entered_count, less 32 (omega arith) (omega arith))

  entered_places : places_in new new_before new_starts ≡ insert places gap place
  entered_places =
      places_are new new_before new_starts (insert places gap place) entered_spaced
      (omega (arith, length-insert places gap place gap_fits, places_long items before starts, entered_count))
      (λ k g i.
      elim (cases_lt g own) [
        | inl h ↦ earlier k g i h
        | inr h ↦ elim (cases_lt own g) [
          | inl j ↦ later k g i j
          | inr j ↦
              let same : own ≡ g = omega arith in
              let P : ℕ → Type 0 = λ f. IsIn new_starts k f → get_or new (k + get_or new_before f 0) 0 ≡ get_or (insert places gap place) k 0 in
              subst P same (λ a. ap (λ (q : ℕ). get_or new (k + q) 0) (m.before own (omega arith)) ∙ inside_own k a) i
        ]
      ])

  entered_offsets : drop (get_or new_starts 1024 0 + get_or new_before 32 0) new ≡ drop (get_or starts 1024 0 + get_or before 32 0) items
  entered_offsets =
      let same : get_or new_starts 1024 0 + get_or new_before 32 0 ≡ get_or starts 1024 0 + get_or before 32 0 = entered_end in
      let past : start starts (own + 1) + get_or before own 0 < get_or starts 1024 0 + get_or before 32 0 = omega (arith, s.in_order (32 * (own + 1)) 1024 (omega arith) (omega arith), s.rising (own + 1) 32 (omega arith) (omega arith)) in
      ap (λ (n : ℕ). drop n new) same
      ∙ same_rest new items _ _ (omega (arith, p.long)) (omega (arith, p.long)) (λ q. p.following (get_or starts 1024 0 + get_or before 32 0 + q) (omega arith))

  pub entered_arranged : (len capacity given_up most : ℕ) → IsArranged len capacity before starts given_up most → get_or starts 1024 0 < most → IsArranged len capacity new_before new_starts given_up most
  entered_arranged len capacity given_up most a h = record {
    spaced = entered_spaced;
    narrow = a.narrow;
    few = omega (arith, entered_count);
    little = omega (arith, entered_end, a.little);
    inside = omega (arith, entered_end, a.inside);
    room = omega (arith, entered_end, a.room);
  }

  -- where the places and the offsets were those of an older list
  pub enters : (old_items old_before : List ℕ) (given_up most offsets new_offsets : ℕ) → places_in items before starts ≡ places_in old_items old_before starts → drop (get_or starts 1024 0 + get_or before 32 0) items ≡ drop (get_or starts 1024 0 + get_or old_before 32 0) old_items → new_offsets ≡ offsets → Enters gap place bucket (view_of old_items old_before starts given_up most offsets) (view_of new new_before new_starts given_up most new_offsets)
  enters old_items old_before given_up most offsets new_offsets f g h = record {
    places = entered_places ∙ ap (λ (xs : List ℕ). insert xs gap place) f;
    bucket_starts = l;
    formal_offsets = ap (drop given_up) (entered_offsets ∙ g);
    room = ap (λ (n : ℕ). let r : IndexRoom = record { places = most; formal_offsets = n } in r) h;
  }

-- A place that goes: what stands after it in its group moves one to the front.

record IsTaken (items new : List ℕ) (at end : ℕ) : Type 0 where
  long : length new ≡ length items
  before : (p : ℕ) → p < at → get_or new p 0 ≡ get_or items p 0
  moved : (p : ℕ) → at ≤ p → p + 1 < end → get_or new p 0 ≡ get_or items (p + 1) 0
  following : (p : ℕ) → end ≤ p + 1 → get_or new p 0 ≡ get_or items p 0

taken_out : (items new : List ℕ) (at end : ℕ) → at < end → end ≤ length items → new ≡ copy_within items (at + 1) end at → IsTaken items new at end
taken_out items new at end o l e =
    let c = copied items (at + 1) end at (omega arith) l (omega arith) in
    let in_copy : (p : ℕ) → get_or new p 0 ≡ get_or (copy_within items (at + 1) end at) p 0 = λ p. ap (λ (xs : List ℕ). get_or xs p 0) e in
    record {
      long = ap (length {A = ℕ}) e ∙ c.long;
      before = λ p h. in_copy p ∙ c.before p h;
      moved = λ p h k.
          let same : at + 1 + (p - at) ≡ p + 1 = omega arith in
          in_copy p ∙ (c.inside p h (omega arith) ∙ ap (λ (q : ℕ). get_or items q 0) same);
      following = λ p h. in_copy p ∙ c.following p (omega arith);
    }

-- a place of a bucket stands in the group of that bucket
in_group : (before starts : List ℕ) (bucket at : ℕ) → IsSpaced before starts → bucket < 1024 → IsInBucket starts bucket at → IsIn starts at (bucket / 32)
in_group before starts bucket at s h i = record {
  some = omega arith;
  low = omega (arith, i.from, s.in_order (32 * (bucket / 32)) bucket (omega arith) (omega arith));
  high = omega (arith, i.to, s.in_order (bucket + 1) (32 * (bucket / 32 + 1)) (omega arith) (omega arith));
}

-- where a place of a bucket lies
pub bucket_place : (items before starts : List ℕ) (bucket at : ℕ) → IsSpaced before starts → bucket < 1024 → IsInBucket starts bucket at → get_or (places_in items before starts) at 0 ≡ get_or items (at + get_or before (bucket / 32) 0) 0
bucket_place items before starts bucket at s h i = place_is before starts s items at (bucket / 32) (in_group before starts bucket at s h i)

-- it lies among the places
pub bucket_inside : (before starts : List ℕ) (bucket at : ℕ) → IsSpaced before starts → bucket < 1024 → IsInBucket starts bucket at → (at < get_or starts 1024 0) × (at + get_or before (bucket / 32) 0 < get_or starts 1024 0 + get_or before 32 0)
bucket_inside before starts bucket at s h i =
    let last : get_or starts (bucket + 1) 0 ≤ get_or starts 1024 0 = s.in_order (bucket + 1) 1024 (omega arith) (omega arith) in
    (omega (arith, i.to), omega (arith, i.to, s.rising (bucket / 32) 32 (omega arith) (omega arith)))

-- The places lie closer once one was taken out.

record IsClosed (items new : List ℕ) (end taken : ℕ) : Type 0 where
  places : (p : ℕ) → p < end → get_or new p 0 ≡ closed taken (get_or items p 0)
  following : drop end new ≡ drop end items

closed_list : (items new : List ℕ) (end taken : ℕ) → end ≤ length items → new ≡ map (closed taken) (take end items) ++ drop end items → IsClosed items new end taken
closed_list items new end taken l e =
    let kept : List ℕ = take end items in
    let long : length (map (closed taken) kept) ≡ end = length-map kept (closed taken) ∙ length-take-le end items l in
    record {
      places = λ p h.
          ap (λ (xs : List ℕ). get_or xs p 0) e
          ∙ (get_or_append_left (map (closed taken) kept) (drop end items) 0 p (omega (arith, long))
          ∙ (get_or-map (closed taken) kept p 0 0 (omega (arith, length-take-le end items l)) ∙ ap (closed taken) (get_or-take end items p 0 h)));
      following = ap (drop end) e ∙ drop_at (map (closed taken) kept) (drop end items) end long;
    }

closed_places : (items new before starts : List ℕ) (taken : ℕ) → IsSpaced before starts → IsClosed items new (get_or starts 1024 0 + get_or before 32 0) taken → places_in new before starts ≡ map (closed taken) (places_in items before starts)
closed_places items new before starts taken s c =
    places_are new before starts (map (closed taken) (places_in items before starts)) s (length-map (places_in items before starts) (closed taken) ∙ places_long items before starts) (λ k g i.
    let last : start starts (g + 1) ≤ get_or starts 1024 0 = s.in_order (32 * (g + 1)) 1024 (omega (arith, i.some)) (omega arith) in
    let fits : k < length (places_in items before starts) = omega (arith, i.high, places_long items before starts) in
    c.places (k + get_or before g 0) (omega (arith, i.high, s.rising g 32 (omega (arith, i.some)) (omega arith)))
    ∙ (ap (closed taken) (sym (place_is before starts s items k g i)) ∙ sym (get_or-map (closed taken) (places_in items before starts) k 0 0 fits)))

-- more slack may lie before each group after one
pub slack_fits : (len capacity : ℕ) (before starts : List ℕ) (given_up most group : ℕ) → IsArranged len capacity before starts given_up most → 0 < get_or starts 1024 0 → All (λ n. n + 1 < 2 ^ 32) (slice_range before (group + 1) 33)
slack_fits len capacity before starts given_up most group a h =
    part_all (λ n. n + 1 < 2 ^ 32) (group + 1) 33 before (omega (arith, a.spaced.groups)) (λ p l k. omega (arith, a.spaced.rising p 32 (omega arith) (omega arith), a.little, a.narrow))

-- the groups after one begin a place sooner, and more slack lies before them
module _ (items new before new_before starts new_starts : List ℕ) (bucket at : ℕ) (small : bucket < 1024) (s : IsSpaced before starts)
    (i : IsInBucket starts bucket at) (l : IsSooner bucket starts new_starts)
    (some : (p : ℕ) → bucket < p → p ≤ 1024 → get_or starts bucket 0 < get_or starts p 0)
    (inside : get_or starts 1024 0 + get_or before 32 0 ≤ length items)
    (m : IsMapped (λ n. n + 1) (bucket / 32 + 1) 33 before new_before)
    (e : new ≡ copy_within items (at + get_or before (bucket / 32) 0 + 1) (start starts (bucket / 32 + 1) + get_or before (bucket / 32) 0) (at + get_or before (bucket / 32) 0)) where
  abbrev home : ℕ
  home = bucket / 32

  -- the list without the place
  t : IsTaken items new (at + get_or before home 0) (start starts (home + 1) + get_or before home 0)
  t = taken_out items new _ _ (omega (arith, (in_group before starts bucket at s small i).high)) (omega (arith, s.in_order (32 * (home + 1)) 1024 (omega arith) (omega arith), s.rising home 32 (omega arith) (omega arith))) e

  sooner : (p : ℕ) → bucket < p → p ≤ 1024 → get_or new_starts p 0 + 1 ≡ get_or starts p 0
  sooner p h k = omega (arith, l.following p h (omega (arith, s.buckets)), some p h k)

  wider : (g : ℕ) → home < g → g ≤ 32 → get_or new_before g 0 ≡ get_or before g 0 + 1
  wider g h k = m.inside g (omega arith) (omega arith)

  same_slack : (g : ℕ) → g ≤ home → get_or new_before g 0 ≡ get_or before g 0
  same_slack g h = m.before g (omega arith)

  left_spaced : IsSpaced new_before new_starts
  left_spaced = record {
    groups = m.long ∙ s.groups;
    buckets = l.long ∙ s.buckets;
    first = l.before 0 (omega arith) ∙ s.first;
    in_order = λ a b h k.
        elim (cases_lt bucket a) [
          | inl c ↦ omega (arith, sooner a c (omega arith), sooner b (omega arith) k, s.in_order a b h k)
          | inr c ↦ elim (cases_lt bucket b) [
            | inl d ↦ omega (arith, l.before a c, sooner b d k, some b d k, s.in_order a bucket c (omega arith))
            | inr d ↦ omega (arith, l.before a c, l.before b d, s.in_order a b h k)
          ]
        ];
    rising = λ g h a b.
        elim (cases_lt home g) [
          | inl c ↦ omega (arith, wider g c (omega arith), wider h (omega arith) b, s.rising g h a b)
          | inr c ↦ elim (cases_lt home h) [
            | inl d ↦ omega (arith, same_slack g c, wider h d b, s.rising g h a b)
            | inr d ↦ omega (arith, same_slack g c, same_slack h d, s.rising g h a b)
          ]
        ];
  }

  abbrev old_places : List ℕ
  old_places = places_in items before starts

  fits : at < length old_places
  fits = omega (arith, (bucket_inside before starts bucket at s small i).0, places_long items before starts)

  left_end : get_or new_starts 1024 0 + get_or new_before 32 0 ≡ get_or starts 1024 0 + get_or before 32 0
  left_end = omega (arith, sooner 1024 small (omega arith), wider 32 (omega arith) (omega arith))

  -- what stands before the place, and after it
  front_place : (k g : ℕ) → IsIn new_starts k g → k < at → get_or new (k + get_or new_before g 0) 0 ≡ get_or (remove old_places at) k 0
  front_place k g j h =
      let up_to : g ≤ home = elim (cases_lt home g) [
        | inl c ↦ absurd (omega (arith, j.low, sooner (32 * g) (omega arith) (omega (arith, j.some)), i.to, s.in_order (bucket + 1) (32 * g) (omega arith) (omega (arith, j.some))))
        | inr c ↦ c
      ] in
      let low : start starts g ≤ k = omega (arith, j.low, l.before (32 * g) (omega arith)) in
      let high : k < start starts (g + 1) = elim (cases_lt bucket (32 * (g + 1))) [
        | inl c ↦ omega (arith, j.high, sooner (32 * (g + 1)) c (omega (arith, j.some)))
        | inr c ↦ omega (arith, j.high, l.before (32 * (g + 1)) c)
      ] in
      let old : IsIn starts k g = record { some = j.some; low = low; high = high } in
      ap (λ (q : ℕ). get_or new (k + q) 0) (same_slack g up_to)
      ∙ (t.before (k + get_or before g 0) (omega (arith, s.rising g home up_to (omega arith)))
      ∙ (sym (place_is before starts s items k g old) ∙ sym (get_or-remove_below old_places at 0 k h fits)))

  back_place : (k g : ℕ) → IsIn new_starts k g → at ≤ k → get_or new (k + get_or new_before g 0) 0 ≡ get_or (remove old_places at) k 0
  back_place k g j h =
      let above : bucket < 32 * (g + 1) = elim (cases_lt bucket (32 * (g + 1))) [
        | inl c ↦ c
        | inr c ↦ absurd (omega (arith, j.high, l.before (32 * (g + 1)) c, i.from, s.in_order (32 * (g + 1)) bucket c (omega arith)))
      ] in
      let low : start starts g ≤ k + 1 = elim (cases_lt bucket (32 * g)) [
        | inl c ↦ omega (arith, j.low, sooner (32 * g) c (omega (arith, j.some)))
        | inr c ↦ omega (arith, j.low, l.before (32 * g) c)
      ] in
      let high : k + 1 < start starts (g + 1) = omega (arith, j.high, sooner (32 * (g + 1)) above (omega (arith, j.some))) in
      let old : IsIn starts (k + 1) g = record { some = j.some; low = low; high = high } in
      let next : k + get_or before g 0 + 1 ≡ k + 1 + get_or before g 0 = omega arith in
      let same : get_or new (k + get_or new_before g 0) 0 ≡ get_or items (k + get_or before g 0 + 1) 0 = elim (cases_lt home g) [
        | inl c ↦
            let further : k + get_or new_before g 0 ≡ k + get_or before g 0 + 1 = omega (arith, wider g c (omega (arith, j.some))) in
            ap (λ (q : ℕ). get_or new q 0) further
            ∙ t.following (k + get_or before g 0 + 1) (omega (arith, low, s.in_order (32 * (home + 1)) (32 * g) (omega arith) (omega (arith, j.some)), s.rising home g (omega arith) (omega (arith, j.some))))
        | inr c ↦
            let own_group : home ≡ g = omega arith in
            ap (λ (q : ℕ). get_or new (k + q) 0) (same_slack g c)
            ∙ t.moved (k + get_or before g 0) (omega (arith, ap (λ (f : ℕ). get_or before f 0) own_group)) (omega (arith, high, ap (λ (f : ℕ). get_or before f 0) own_group, ap (λ (f : ℕ). start starts (f + 1)) own_group))
      ] in
      same ∙ (ap (λ (q : ℕ). get_or items q 0) next ∙ (sym (place_is before starts s items (k + 1) g old) ∙ sym (get_or-remove_above old_places at 0 k h fits)))

  left_places : places_in new new_before new_starts ≡ remove old_places at
  left_places =
      places_are new new_before new_starts (remove old_places at) left_spaced
      (omega (arith, length-remove old_places at fits, places_long items before starts, sooner 1024 small (omega arith)))
      (λ k g j.
      elim (cases_lt k at) [
        | inl h ↦ front_place k g j h
        | inr h ↦ back_place k g j h
      ])

  left_offsets : drop (get_or new_starts 1024 0 + get_or new_before 32 0) new ≡ drop (get_or starts 1024 0 + get_or before 32 0) items
  left_offsets =
      let last : start starts (home + 1) ≤ get_or starts 1024 0 = s.in_order (32 * (home + 1)) 1024 (omega arith) (omega arith) in
      let up : get_or before home 0 ≤ get_or before 32 0 = s.rising home 32 (omega arith) (omega arith) in
      ap (λ (n : ℕ). drop n new) left_end
      ∙ same_rest new items _ _ (omega (arith, t.long)) (omega (arith, t.long)) (λ q. t.following (get_or starts 1024 0 + get_or before 32 0 + q) (omega arith))

  pub left_arranged : (len capacity new_len new_capacity given_up most : ℕ) → IsArranged len capacity before starts given_up most → new_len ≡ len → new_capacity ≡ capacity → IsArranged new_len new_capacity new_before new_starts given_up most
  left_arranged len capacity new_len new_capacity given_up most a h k = record {
    spaced = left_spaced;
    narrow = a.narrow;
    few = omega (arith, sooner 1024 small (omega arith), a.few);
    little = omega (arith, left_end, a.little);
    inside = omega (arith, left_end, a.inside);
    room = omega (arith, left_end, a.room);
  }

  -- where the places and the offsets were those of an older list, and the places that are left were closed up
  pub leaves : (old_items old_before closed_items : List ℕ) (taken given_up most offsets new_offsets : ℕ) → places_in items before starts ≡ places_in old_items old_before starts → drop (get_or starts 1024 0 + get_or before 32 0) items ≡ drop (get_or starts 1024 0 + get_or old_before 32 0) old_items → closed_items ≡ map (closed taken) (take (get_or starts 1024 0 + get_or before 32 0) new) ++ drop (get_or starts 1024 0 + get_or before 32 0) new → new_offsets ≡ offsets → Leaves at taken bucket (view_of old_items old_before starts given_up most offsets) (view_of closed_items new_before new_starts given_up most new_offsets)
  leaves old_items old_before closed_items taken given_up most offsets new_offsets f d g h =
      let c = subst (λ (n : ℕ). IsClosed new closed_items n taken) (sym left_end) (closed_list new closed_items (get_or starts 1024 0 + get_or before 32 0) taken (omega (arith, t.long)) g) in
      record {
        places = closed_places new closed_items new_before new_starts taken left_spaced c ∙ ap (map (closed taken)) (left_places ∙ ap (λ (xs : List ℕ). remove xs at) f);
        bucket_starts = l;
        formal_offsets = ap (drop given_up) (c.following ∙ (left_offsets ∙ d));
        room = ap (λ (n : ℕ). let r : IndexRoom = record { places = most; formal_offsets = n } in r) h;
      }

-- where each group got slack anew
pub slack_arranged : (len capacity new_len new_capacity : ℕ) (before new_before starts : List ℕ) (given_up most : ℕ) → IsArranged len capacity before starts given_up most → IsSpaced new_before starts → ((n : ℕ) → get_or before 32 0 ≤ n → 32 * (get_or starts 1024 0 / 256 + 4) ≤ n → get_or new_before 32 0 ≤ n) → new_len + get_or before 32 0 ≡ len + get_or new_before 32 0 → new_capacity ≡ capacity → IsArranged new_len new_capacity new_before starts given_up most
slack_arranged len capacity new_len new_capacity before new_before starts given_up most a s m h k = record {
  spaced = s;
  narrow = a.narrow;
  few = a.few;
  little = omega (arith, a.few, a.little, m (places_room most - get_or starts 1024 0) (omega (arith, a.little)) (omega (arith, a.few)));
  inside = omega (arith, a.inside);
  room = omega (arith, a.room);
}

-- Groups that get slack anew.

-- the places of so many groups were moved to the front
pub record AreGathered (items before starts : List ℕ) (group : ℕ) (now : List ℕ) : Type 0 where
  pub places : (k : ℕ) → k < start starts group → get_or now k 0 ≡ get_or (places_in items before starts) k 0
  pub following : (p : ℕ) → start starts group ≤ p → get_or now p 0 ≡ get_or items p 0

pub none_gathered : (items before starts : List ℕ) → IsSpaced before starts → AreGathered items before starts 0 items
none_gathered items before starts s = record { places = λ k h. absurd (omega (arith, s.first)); following = λ p h. refl }

-- one group more
module _ (items before starts now next : List ℕ) (n : ℕ) (s : IsSpaced before starts) (h : n < 32) (a : AreGathered items before starts n now) where
  in_next : (k : ℕ) → start starts n ≤ k → k < start starts (n + 1) → get_or now (k + get_or before n 0) 0 ≡ get_or (places_in items before starts) k 0
  in_next k low high = a.following (k + get_or before n 0) (omega arith) ∙ sym (place_is before starts s items k n (record { some = h; low = low; high = high }))

  pub one_gathered : get_or starts 1024 0 + get_or before 32 0 ≤ length now → next ≡ copy_within now (start starts n + get_or before n 0) (start starts (n + 1) + get_or before n 0) (start starts n) → AreGathered items before starts (n + 1) next
  one_gathered l e =
      let o : start starts n ≤ start starts (n + 1) = s.in_order (32 * n) (32 * (n + 1)) (omega arith) (omega arith) in
      let c = copied now (start starts n + get_or before n 0) (start starts (n + 1) + get_or before n 0) (start starts n) (omega arith) (omega (arith, s.in_order (32 * (n + 1)) 1024 (omega arith) (omega arith), s.rising n 32 (omega arith) (omega arith))) (omega (arith, s.in_order (32 * (n + 1)) 1024 (omega arith) (omega arith))) in
      let at : (p : ℕ) → get_or next p 0 ≡ get_or (copy_within now (start starts n + get_or before n 0) (start starts (n + 1) + get_or before n 0) (start starts n)) p 0 = λ p. ap (λ (xs : List ℕ). get_or xs p 0) e in
      record {
        places = λ k g.
            elim (cases_lt k (start starts n)) [
              | inl f ↦ at k ∙ (c.before k f ∙ a.places k f)
              | inr f ↦
                  let same : start starts n + get_or before n 0 + (k - start starts n) ≡ k + get_or before n 0 = omega arith in
                  at k ∙ (c.inside k f (omega arith) ∙ (ap (λ (q : ℕ). get_or now q 0) same ∙ in_next k f g))
            ];
        following = λ p g. at p ∙ (c.following p (omega arith) ∙ a.following p (omega arith));
      }

  -- which lies at the front already
  pub one_stays : get_or before n 0 ≡ 0 → AreGathered items before starts (n + 1) now
  one_stays e = record {
    places = λ k g.
        elim (cases_lt k (start starts n)) [
          | inl f ↦ a.places k f
          | inr f ↦ let same : k ≡ k + get_or before n 0 = omega arith in ap (λ (q : ℕ). get_or now q 0) same ∙ in_next k f g
        ];
    following = λ p g. a.following p (omega (arith, s.in_order (32 * n) (32 * (n + 1)) (omega arith) (omega arith)));
  }

pub all_gathered : (items before starts now : List ℕ) → length now ≡ length items → get_or starts 1024 0 ≤ length items → AreGathered items before starts 32 now → (take (get_or starts 1024 0) now ≡ places_in items before starts) × (drop (get_or starts 1024 0) now ≡ drop (get_or starts 1024 0) items)
all_gathered items before starts now e l a =
    let long : length (take (get_or starts 1024 0) now) ≡ get_or starts 1024 0 = length-take-le (get_or starts 1024 0) now (omega arith) in (
      ext_get_or 0 (take (get_or starts 1024 0) now) (places_in items before starts) (long ∙ sym (places_long items before starts)) (λ k h.
          let less : k < get_or starts 1024 0 = omega arith in get_or-take (get_or starts 1024 0) now k 0 less ∙ a.places k less),
      same_rest now items _ _ (omega arith) (omega arith) (λ p. a.following (get_or starts 1024 0 + p) (omega arith)),
    )

-- so far none was moved
pub none_moved : (to starts items : List ℕ) → AreMoved to starts 32 items items
none_moved to starts items = record { before = λ p h. refl; places = λ g k a b c d. absurd (omega arith); following = λ p h. refl }

-- one group more
pub one_moved : (to starts items now next : List ℕ) (n m : ℕ) → IsSpaced to starts → n ≡ m + 1 → n ≤ 32 → get_or starts 1024 0 + get_or to 32 0 ≤ length now → AreMoved to starts n items now → next ≡ copy_within now (start starts m) (start starts n) (start starts m + get_or to m 0) → AreMoved to starts m items next
one_moved to starts items now next n m t e h l a k =
    let end : start starts n ≡ start starts (m + 1) = ap (start starts) e in
    let o : start starts m ≤ start starts n = t.in_order (32 * m) (32 * n) (omega arith) (omega arith) in
    let last : start starts n ≤ get_or starts 1024 0 = t.in_order (32 * n) 1024 (omega arith) (omega arith) in
    let up : get_or to m 0 ≤ get_or to 32 0 = t.rising m 32 (omega arith) (omega arith) in
    let c = copied now (start starts m) (start starts n) (start starts m + get_or to m 0) (omega arith) (omega arith) (omega arith) in
    let at : (p : ℕ) → get_or next p 0 ≡ get_or (copy_within now (start starts m) (start starts n) (start starts m + get_or to m 0)) p 0 = λ p. ap (λ (xs : List ℕ). get_or xs p 0) k in
    record {
      before = λ p g. at p ∙ (c.before p (omega arith) ∙ a.before p (omega arith));
      places = λ g k f i low high.
          elim (cases_lt m g) [
            | inl b ↦
                at (k + get_or to g 0)
                ∙ (c.following (k + get_or to g 0) (omega (arith, t.in_order (32 * n) (32 * g) (omega arith) (omega arith), t.rising m g (omega arith) (omega arith)))
                ∙ a.places g k (omega arith) i low high)
            | inr b ↦
                let same : m ≡ g = omega arith in
                let back : start starts m + (k + get_or to m 0 - (start starts m + get_or to m 0)) ≡ k = omega (arith, ap (start starts) same) in
                let P : ℕ → Type 0 = λ q. get_or next (k + get_or to q 0) 0 ≡ get_or items k 0 in
                subst P same (at (k + get_or to m 0)
                ∙ (c.inside (k + get_or to m 0) (omega (arith, ap (start starts) same)) (omega (arith, end, ap (λ (q : ℕ). start starts (q + 1)) same))
                ∙ (ap (λ (q : ℕ). get_or now q 0) back
                ∙ a.before k (omega (arith, end, ap (λ (q : ℕ). start starts (q + 1)) same)))))
          ];
      following = λ p g. at p ∙ (c.following p (omega arith) ∙ a.following p g);
    }

-- what stands so far after a place moved to where it stands so far after it as another number says
pub rest_moved : (xs longer moved : List ℕ) (len at from to : ℕ) → at + from ≤ len → length xs ≡ len → take len longer ≡ xs → length longer ≡ len + (to - from) → moved ≡ take (len - from + to) (copy_within longer (at + from) len (at + to)) → (take at moved ≡ take at xs) × (drop (at + to) moved ≡ drop (at + from) xs)
rest_moved xs longer moved len at from to h n f l e =
    let both : List ℕ = copy_within longer (at + from) len (at + to) in
    let c = copied longer (at + from) len (at + to) h (omega arith) (omega arith) in
    let long : length moved ≡ len - from + to = ap (length {A = ℕ}) e ∙ length-take-le (len - from + to) both (omega (arith, c.long)) in
    let same : (p : ℕ) → p < len → get_or longer p 0 ≡ get_or xs p 0 = λ p k. sym (get_or-take len longer p 0 k) ∙ ap (λ (ys : List ℕ). get_or ys p 0) f in
    let into : (p : ℕ) → p < len - from + to → get_or moved p 0 ≡ get_or both p 0 = λ p k. ap (λ (ys : List ℕ). get_or ys p 0) e ∙ get_or-take (len - from + to) both p 0 k in (
      ext_get_or 0 (take at moved) (take at xs) (length-take-le at moved (omega arith) ∙ sym (length-take-le at xs (omega arith))) (λ k g.
          let less : k < at = omega (arith, length-take-le at moved (omega arith)) in
          get_or-take at moved k 0 less ∙ (into k (omega arith) ∙ (c.before k (omega arith) ∙ (same k (omega arith) ∙ sym (get_or-take at xs k 0 less))))),
      same_rest moved xs (at + to) (at + from) (omega arith) (omega arith) (λ p.
          elim (cases_lt (at + from + p) len) [
            | inl k ↦
                let back : at + from + (at + to + p - (at + to)) ≡ at + from + p = omega arith in
                into (at + to + p) (omega arith) ∙ (c.inside (at + to + p) (omega arith) (omega arith) ∙ (ap (λ (q : ℕ). get_or longer q 0) back ∙ same (at + from + p) k))
            | inr k ↦ get_or_past moved (at + to + p) 0 (omega arith) ∙ sym (get_or_past xs (at + from + p) 0 (omega arith))
          ]),
    )

-- where each group has as much slack
pub even_spaced : (before even starts : List ℕ) (slack : ℕ) → IsSpaced before starts → length even ≡ 33 → ((g : ℕ) → g ≤ 32 → get_or even g 0 ≡ slack * g) → IsSpaced even starts
even_spaced before even starts slack s n e = record {
  groups = n;
  buckets = s.buckets;
  first = s.first;
  in_order = s.in_order;
  rising = λ g h a b. omega (arith, e g (omega arith), e h b, mul-le slack g slack h (omega arith) a);
}

-- the list before what is after its places and slack is as it was, and so are its places
pub same_places : (items new before starts : List ℕ) (front : ℕ) → IsSpaced before starts → get_or starts 1024 0 + get_or before 32 0 ≤ front → take front new ≡ take front items → places_in new before starts ≡ places_in items before starts
same_places items new before starts front s h e =
    places_are new before starts (places_in items before starts) s (places_long items before starts) (λ k g i.
    let last : start starts (g + 1) ≤ get_or starts 1024 0 = s.in_order (32 * (g + 1)) 1024 (omega (arith, i.some)) (omega arith) in
    let inside : k + get_or before g 0 < front = omega (arith, i.high, s.rising g 32 (omega (arith, i.some)) (omega arith)) in
    sym (get_or-take front new (k + get_or before g 0) 0 inside)
    ∙ (ap (λ (xs : List ℕ). get_or xs (k + get_or before g 0) 0) e
    ∙ (get_or-take front items (k + get_or before g 0) 0 inside ∙ sym (place_is before starts s items k g i))))

-- the lists of a spread: with its places gathered, with what is after them moved, and with the groups moved
module _ (items gathered longer moved before even starts : List ℕ) (t : IsSpaced even starts) (a : AreMoved even starts 0 longer moved) where
  pub spread_places : take (get_or starts 1024 0) gathered ≡ places_in items before starts → take (get_or starts 1024 0) longer ≡ take (get_or starts 1024 0) gathered → places_in moved even starts ≡ places_in items before starts
  spread_places g f =
      places_are moved even starts (places_in items before starts) t (places_long items before starts) (λ k h i.
      let last : start starts (h + 1) ≤ get_or starts 1024 0 = t.in_order (32 * (h + 1)) 1024 (omega (arith, i.some)) (omega arith) in
      let inside : k < get_or starts 1024 0 = omega (arith, i.high) in
      a.places h k (omega arith) i.some i.low i.high ∙ (sym (get_or-take _ longer k 0 inside) ∙ ap (λ (xs : List ℕ). get_or xs k 0) (f ∙ g)))

  pub spread_offsets : length moved ≡ length longer → get_or starts 1024 0 + get_or even 32 0 ≤ length moved → drop (get_or starts 1024 0) gathered ≡ drop (get_or starts 1024 0) items → drop (get_or starts 1024 0 + get_or even 32 0) longer ≡ drop (get_or starts 1024 0 + get_or before 32 0) gathered → drop (get_or starts 1024 0 + get_or even 32 0) moved ≡ drop (get_or starts 1024 0 + get_or before 32 0) items
  spread_offsets n l g r =
      same_rest moved longer _ _ (omega arith) l (λ p. a.following (get_or starts 1024 0 + get_or even 32 0 + p) (omega arith))
      ∙ (r
      ∙ (sym (drop-drop (get_or before 32 0) (get_or starts 1024 0) gathered) ∙ (ap (drop (get_or before 32 0)) g ∙ drop-drop (get_or before 32 0) (get_or starts 1024 0) items)))

-- Offsets that come or go.

after : (xs ys : List ℕ) (n i : ℕ) → n + i ≤ length xs → drop n (take (n + i) xs ++ ys) ≡ take i (drop n xs) ++ ys
after xs ys n i h =
    let same : n + i - n ≡ i = omega arith in
    drop-append-le n (take (n + i) xs) ys (omega (arith, length-take-le (n + i) xs h))
    ∙ ap (λ (l : List ℕ). l ++ ys) (sym (between_is xs n (n + i)) ∙ ap (λ (k : ℕ). take k (drop n xs)) same)

pub cut_after : (xs : List ℕ) (n i j : ℕ) → n + i ≤ length xs → drop n (remove_range xs (n + i) (n + j)) ≡ remove_range (drop n xs) i j
cut_after xs n i j h = after xs (drop (n + j) xs) n i h ∙ ap (λ (l : List ℕ). take i (drop n xs) ++ l) (sym (drop-drop j n xs))

pub cut_before : (xs : List ℕ) (i j : ℕ) → i ≤ length xs → take i (remove_range xs i j) ≡ take i xs
cut_before xs i j h = take_at (take i xs) (drop j xs) i (length-take-le i xs h)

-- those before were moved to the back
pub covered_after : (xs new : List ℕ) (n i j : ℕ) → i ≤ j → drop (n + (j - i)) new ≡ slice_range xs n (n + i) ++ drop (n + i + (j - i)) xs → drop (n + (j - i)) new ≡ remove_range (drop n xs) i j
covered_after xs new n i j h e =
    let count : n + i - n ≡ i = omega arith in
    let back : n + i + (j - i) ≡ n + j = omega arith in
    e ∙ (ap (λ (m : ℕ). slice_range xs n (n + i) ++ drop m xs) back ∙ (ap (λ (m : ℕ). take m (drop n xs) ++ drop (n + j) xs) count ∙ ap (λ (l : List ℕ). take i (drop n xs) ++ l) (sym (drop-drop j n xs))))

-- an index of which only the list was changed
pub arranged : (items new before starts : List ℕ) (formal_offsets : List ℕ) (given_up new_given_up most offsets new_offsets : ℕ) → places_in new before starts ≡ places_in items before starts → drop new_given_up (drop (get_or starts 1024 0 + get_or before 32 0) new) ≡ formal_offsets → new_offsets ≡ offsets → view_of new before starts new_given_up most new_offsets ≡ record (view_of items before starts given_up most offsets) { formal_offsets = formal_offsets }
arranged items new before starts formal_offsets given_up new_given_up most offsets new_offsets p q r = rw (p, q, r) refl

-- an index of which nothing was cut
pub uncut : (v : IndexView) (from to : ℕ) → from ≡ to → v ≡ record v { formal_offsets = remove_range v.formal_offsets from to }
uncut v from to e = ap (λ (xs : List ℕ). record v { formal_offsets = xs }) (sym (ap (λ (k : ℕ). take from v.formal_offsets ++ drop k v.formal_offsets) (sym e) ∙ take-append-drop from v.formal_offsets))

-- an index without anything
zero_starts : (starts : List ℕ) (p : ℕ) → starts ≡ replicate 1025 0 → p ≤ 1024 → get_or starts p 0 ≡ 0
zero_starts starts p e h = ap (λ (xs : List ℕ). get_or xs p 0) e ∙ get_or-replicate 1025 p 0 0 (omega arith)

-- An index without a place, in which each group has as much slack.
module _ (even starts : List ℕ) (slack : ℕ) (n : length even ≡ 33) (e : (g : ℕ) → g ≤ 32 → get_or even g 0 ≡ slack * g) (z : starts ≡ replicate 1025 0) where
  nothing_spaced : IsSpaced even starts
  nothing_spaced = record {
    groups = n;
    buckets = ap (length {A = ℕ}) z ∙ length-replicate {A = ℕ} 1025 0;
    first = zero_starts starts 0 z (omega arith);
    in_order = λ p q h k. omega (arith, zero_starts starts p z (omega arith));
    rising = λ g h a b. omega (arith, e g (omega arith), e h b, mul-le slack g slack h (omega arith) a);
  }

  pub nothing_arranged : (len capacity most : ℕ) → slack ≤ most / 256 + 4 → most < 2 ^ 31 → len ≡ 32 * slack → places_room most ≤ capacity → IsArranged len capacity even starts 0 most
  nothing_arranged len capacity most few m l h =
      let last : get_or starts 1024 0 ≡ 0 = zero_starts starts 1024 z (omega arith) in
      let all : get_or even 32 0 ≡ slack * 32 = e 32 (omega arith) in
      record { spaced = nothing_spaced; narrow = m; few = omega arith; little = omega arith; inside = omega arith; room = omega arith }

  pub nothing_in : (items : List ℕ) (most offsets kept : ℕ) → length items ≡ 32 * slack → offsets ≡ kept → view_of items even starts 0 most offsets ≡ empty_index (record { places = most; formal_offsets = kept })
  nothing_in items most offsets kept l r =
      let last : get_or starts 1024 0 ≡ 0 = zero_starts starts 1024 z (omega arith) in
      let all : get_or even 32 0 ≡ slack * 32 = e 32 (omega arith) in
      let none : places_in items even starts ≡ [] = nil_from_length _ (places_long items even starts ∙ last) in
      let rest : drop (get_or starts 1024 0 + get_or even 32 0) items ≡ [] = nil_from_length _ (omega (arith, length-drop (get_or starts 1024 0 + get_or even 32 0) items)) in
      rw (none, rest, r, z) refl

pub no_slack_long : length {A = ℕ} (replicate 33 0) ≡ 33
no_slack_long = length-replicate {A = ℕ} 33 0

pub no_slack_even : (g : ℕ) → g ≤ 32 → get_or (replicate 33 0) g 0 ≡ 0 * g
no_slack_even g h =
    let none : get_or {A = ℕ} (replicate 33 0) g 0 ≡ 0 = get_or-replicate 33 g 0 0 (omega arith) in
    omega arith
