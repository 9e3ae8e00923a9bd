-- The index of a table: a place taken out or put in, and the names to which it leads.
use Rattle.std.proofs.Common.{Err, Ok, Result, is_ok, is_some, ◌≡◌, ℕ, suc, replicate, ◌+◌, ◌-◌, ◌<◌, ◌≤◌, List, ◌∷◌, ◌++◌, length, length-append, map, take, drop, insert, remove, ap, sym, ◌∙◌, arith, ◌≢◌, ◌⊎◌, [], get_or, refl, inl, inr, All, bytes_eq, subst, Option, Some, None, Ordering, Less, le-ltb, lt-ltb}
use Rattle.std.specs.List.{IsDistinct}
use Rattle.std.proofs.Math.Seq.{get_or-append_seam}
use Rattle.std.proofs.lemmas.Bool.{cases_lt, cond-false, cond-true}
use Rattle.std.proofs.lemmas.List.{drop-map, get_or-map, get_or-replicate, get_or_append_left, get_or_default, length-map, length-replicate, map-append, take-map}
use Rattle.std.proofs.lemmas.List.Edits.{get_or-insert_above, get_or-insert_at, get_or-insert_below, get_or-remove_above, get_or-remove_below, length-insert, length-remove}
use Rattle.rdlpp_table.specs.Entries.{AreWithin}
use Rattle.rdlpp_table.specs.Index.{IsDivided, IsFound, IsGap, IsIndex, IsIndexed, IsLater, IsPlace, IsSooner, closed, index_order, key_at, name_at, name_order, names_of, bucket_of}
use Rattle.rdlpp_table.specs.IndexView.{IsInBucket}
use Rattle.rdlpp_table.specs.Layout.{IsHeld, view_of}
use Rattle.rdlpp_table.specs.FormalOffsets.{table_offsets}
use Rattle.rdlpp_table.specs.Store.{IsStored, entry_end, macro_in, macros_in, name_of}
use Rattle.rdlpp_define.specs.Macros.{Macro}
use Rattle.rdlpp_define.specs.Table.{macro_named, without, TableView, no_macro, place_named}
use Rattle.rdlpp_table.specs.declared.entry.Entry.{Entry}
use Rattle.rdlpp_table.proofs.Orders.{count_names, indexed_gap, indexed_place, less_part, more_part, name_of_macro, one_place, turned, turned_back}
use Rattle.rdlpp_table.proofs.RoundTrip.{read_back, stored_count}
use Rattle.rdlpp_table.proofs.Sizes.{is_named, length_macros_in, macros_of_none}
use Rattle.rdlpp_table.proofs.Taken.{without_at, without_length, without_nowhere}

-- An index, once a place was taken out of it or put into it.

closed_after : (taken place : ℕ) → taken < place → closed taken place ≡ place - 1
unfolding closed
closed_after taken place h = cond-true _ _ _ (lt-ltb _ _ h)

closed_before : (taken place : ℕ) → place ≤ taken → closed taken place ≡ place
unfolding closed
closed_before taken place h = cond-false _ _ _ (le-ltb _ _ h)

-- a place that stays lies among the names that stay, and is that of its name
record IsClosed (names : List (List ℕ)) (taken place : ℕ) : Type 0 where
  inside : closed taken place < length (remove names taken)
  same : name_at (remove names taken) (closed taken place) ≡ name_at names place

closes : (names : List (List ℕ)) (taken place : ℕ) → taken < length names → place < length names → place ≢ taken → IsClosed names taken place
closes names taken place t h n =
    elim (cases_lt taken place) [
      | inl b ↦
          let e : closed taken place ≡ place - 1 = closed_after taken place b in
          let back : place - 1 + 1 ≡ place = omega arith in
          record {
            inside = omega (arith, length-remove names taken t);
            same = ap (name_at (remove names taken)) e ∙ (get_or-remove_above names taken [] (place - 1) (omega arith) t ∙ ap (name_at names) back);
          }
      | inr b ↦
          let apart : (place ≡ taken) → ⊥ = n in
          let less : place < taken = omega (arith, apart) in
          let e : closed taken place ≡ place = closed_before taken place b in
          record {
            inside = omega (arith, length-remove names taken t);
            same = ap (name_at (remove names taken)) e ∙ get_or-remove_below names taken [] place less t;
          }
    ]

-- where a place of the closed index stood before
record IsFrom (order : List ℕ) (at j k : ℕ) : Type 0 where
  inside : k < length order
  value : get_or (remove order at) j 0 ≡ get_or order k 0
  other : k ≢ at
  shift : ((j < at) × (k ≡ j)) ⊎ ((at ≤ j) × (k ≡ j + 1))

stood : (order : List ℕ) (at j : ℕ) → at < length order → j < length (remove order at) → (k : ℕ) × IsFrom order at j k
stood order at j h l =
    elim (cases_lt j at) [
      | inl b ↦ (j, record { inside = omega arith; value = get_or-remove_below order at 0 j b h; other = λ e. absurd (omega arith); shift = inl (b, refl) })
      | inr b ↦ (j + 1, record { inside = omega (arith, length-remove order at h); value = get_or-remove_above order at 0 j b h; other = λ e. absurd (omega arith); shift = inr (b, refl) })
    ]

from_sorted : (at i j k l : ℕ) → i < j → ((i < at) × (k ≡ i)) ⊎ ((at ≤ i) × (k ≡ i + 1)) → ((j < at) × (l ≡ j)) ⊎ ((at ≤ j) × (l ≡ j + 1)) → k < l
from_sorted at i j k l h (inl a) (inl b) = omega arith
from_sorted at i j k l h (inl a) (inr b) = omega arith
from_sorted at i j k l h (inr a) (inl b) = omega arith
from_sorted at i j k l h (inr a) (inr b) = omega arith

-- the place of the closed index for one that stays
reached : (order : List ℕ) (at k : ℕ) → at < length order → k < length order → k ≢ at → (j : ℕ) × ((j < length (remove order at)) × (get_or (remove order at) j 0 ≡ get_or order k 0))
reached order at k h l n =
    elim (cases_lt at k) [
      | inl b ↦
          let back : k - 1 + 1 ≡ k = omega arith in
          (k - 1, (omega (arith, length-remove order at h), get_or-remove_above order at 0 (k - 1) (omega arith) h ∙ ap (λ (i : ℕ). get_or order i 0) back))
      | inr b ↦
          let apart : (k ≡ at) → ⊥ = n in
          let less : k < at = omega (arith, apart) in
          (k, (omega (arith, length-remove order at h), get_or-remove_below order at 0 k less h))
    ]

-- the place of a name that stays, before another one was taken out
record IsOpened (taken place i : ℕ) : Type 0 where
  back : closed taken i ≡ place
  other : i ≢ taken
  near : i ≤ place + 1

opened : (taken place : ℕ) → (i : ℕ) × IsOpened taken place i
opened taken place =
    elim (cases_lt place taken) [
      | inl b ↦ (place, record { back = closed_before taken place (omega arith); other = λ e. absurd (omega arith); near = omega arith })
      | inr b ↦ (place + 1, record { back = closed_after taken (place + 1) (omega arith) ∙ omega arith; other = λ e. absurd (omega arith); near = omega arith })
    ]

-- the places of an index differ from that of a name that is taken out
stays : (names : List (List ℕ)) (order : List ℕ) (at k taken : ℕ) → IsIndex names order → at < length order → k < length order → k ≢ at → taken ≡ get_or order at 0 → get_or order k 0 ≢ taken
stays names order at k taken x h l n e f =
    n (one_place names order k at x l h (ap (name_at names) (f ∙ e)))

closed_at : (order : List ℕ) (at taken j k : ℕ) → j < length (remove order at) → IsFrom order at j k → get_or (map (closed taken) (remove order at)) j 0 ≡ closed taken (get_or order k 0)
closed_at order at taken j k h f = get_or-map (closed taken) (remove order at) j 0 0 h ∙ ap (closed taken) f.value

-- where the name stood to which a place of the closed index leads
pub record IsLeft (names : List (List ℕ)) (order : List ℕ) (at taken j k : ℕ) : Type 0 where
  pub inside : k < length order
  pub shift : ((j < at) × (k ≡ j)) ⊎ ((at ≤ j) × (k ≡ j + 1))
  pub key : key_at (remove names taken) (map (closed taken) (remove order at)) j ≡ key_at names order k

pub left_key : (names : List (List ℕ)) (order : List ℕ) (at taken j : ℕ) → IsIndex names order → at < length order → taken ≡ get_or order at 0 → j < length (remove order at) → (k : ℕ) × IsLeft names order at taken j k
left_key names order at taken j x h e l =
    let t : taken < length names = omega (arith, x.inside at h) in
    let f = stood order at j h l in
    let c = closes names taken (get_or order f.0 0) t (x.inside f.0 f.1.inside) (stays names order at f.0 taken x h f.1.inside f.1.other e) in
    (f.0, record { inside = f.1.inside; shift = f.1.shift; key = ap (name_at (remove names taken)) (closed_at order at taken j f.0 l f.1) ∙ c.same })

pub left_index : (names : List (List ℕ)) (order : List ℕ) (at taken : ℕ) → IsIndex names order → at < length order → taken ≡ get_or order at 0 → IsIndex (remove names taken) (map (closed taken) (remove order at))
left_index names order at taken x h e =
    let t : taken < length names = omega (arith, x.inside at h) in
    let count : length (map (closed taken) (remove order at)) ≡ length (remove order at) = length-map (remove order at) (closed taken) in
    record {
      long = omega (arith, length-remove order at h, length-remove names taken t, x.long);
      inside = λ j l.
          let f = stood order at j h (omega arith) in
          let c = closes names taken (get_or order f.0 0) t (x.inside f.0 f.1.inside) (stays names order at f.0 taken x h f.1.inside f.1.other e) in
          omega (arith, closed_at order at taken j f.0 (omega arith) f.1, c.inside);
      whole = λ i l.
          let o = opened taken i in
          let w = x.whole o.0 (omega (arith, o.1.near, length-remove names taken t)) in
          let apart : w.0 ≢ at = λ s. o.1.other (sym w.1.1 ∙ (ap (λ (n : ℕ). get_or order n 0) s ∙ sym e)) in
          let r = reached order at w.0 h w.1.0 apart in
          (r.0, (omega (arith, r.1.0), get_or-map (closed taken) (remove order at) r.0 0 0 r.1.0 ∙ (ap (closed taken) (r.1.1 ∙ w.1.1) ∙ o.1.back)));
      sorted = λ j k g l.
          let f = stood order at j h (omega arith) in
          let b = stood order at k h (omega arith) in
          let c = closes names taken (get_or order f.0 0) t (x.inside f.0 f.1.inside) (stays names order at f.0 taken x h f.1.inside f.1.other e) in
          let d = closes names taken (get_or order b.0 0) t (x.inside b.0 b.1.inside) (stays names order at b.0 taken x h b.1.inside b.1.other e) in
          let one : key_at (remove names taken) (map (closed taken) (remove order at)) j ≡ key_at names order f.0 = ap (name_at (remove names taken)) (closed_at order at taken j f.0 (omega arith) f.1) ∙ c.same in
          let two : key_at (remove names taken) (map (closed taken) (remove order at)) k ≡ key_at names order b.0 = ap (name_at (remove names taken)) (closed_at order at taken k b.0 (omega arith) b.1) ∙ d.same in
          ap (λ (n : List ℕ). index_order n (key_at (remove names taken) (map (closed taken) (remove order at)) k)) one
          ∙ (ap (λ (n : List ℕ). index_order (key_at names order f.0) n) two
          ∙ x.sorted f.0 b.0 (from_sorted at j k f.0 b.0 g f.1.shift b.1.shift) b.1.inside);
    }

below_place : (at j k : ℕ) → j < at → ((j < at) × (k ≡ j)) ⊎ ((at ≤ j) × (k ≡ j + 1)) → k < at
below_place at j k h (inl a) = omega arith
below_place at j k h (inr a) = absurd (omega arith)

above_place : (at j k : ℕ) → at ≤ j → ((j < at) × (k ≡ j)) ⊎ ((at ≤ j) × (k ≡ j + 1)) → at < k
above_place at j k h (inl a) = absurd (omega arith)
above_place at j k h (inr a) = omega arith

-- a name that was taken out would stand where it stood
pub left_gap : (names : List (List ℕ)) (order name : List ℕ) (at taken : ℕ) → IsIndex names order → IsPlace names order name at → taken ≡ get_or order at 0 → IsGap (remove names taken) (map (closed taken) (remove order at)) name at
left_gap names order name at taken x p e =
    let count : length (map (closed taken) (remove order at)) ≡ length (remove order at) = length-map (remove order at) (closed taken) in
    record {
      fits = omega (arith, length-remove order at p.inside, p.inside);
      below = λ k h.
          let f = left_key names order at taken k x p.inside e (omega (arith, length-remove order at p.inside, p.inside)) in
          ap (λ (n : List ℕ). index_order n name) f.1.key
          ∙ (ap (index_order (key_at names order f.0)) (sym p.same)
          ∙ x.sorted f.0 at (below_place at k f.0 h f.1.shift) p.inside);
      above = λ k h l.
          let f = left_key names order at taken k x p.inside e (omega arith) in
          ap (λ (n : List ℕ). index_order n name) f.1.key
          ∙ turned_back name (key_at names order f.0) (ap (λ (n : List ℕ). index_order n (key_at names order f.0)) (sym p.same) ∙ x.sorted at f.0 (above_place at k f.0 h f.1.shift) f.1.inside);
    }

pub names_left : (ms : List Macro) (place : ℕ) → names_of (remove ms place) ≡ remove (names_of ms) place
names_left ms place =
    map-append (λ (m : Macro). m.name) (take place ms) (drop (suc place) ms)
    ∙ (ap (λ (l : List (List ℕ)). l ++ map (λ (m : Macro). m.name) (drop (suc place) ms)) (sym (take-map (λ (m : Macro). m.name) place ms))
    ∙ ap (λ (l : List (List ℕ)). take place (names_of ms) ++ l) (sym (drop-map (λ (m : Macro). m.name) (suc place) ms)))

-- the key at a place of an index with one place more
pub key_below : (names : List (List ℕ)) (order name : List ℕ) (gap n j : ℕ) → IsIndex names order → gap ≤ length order → j < gap → key_at (names ++ name ∷ []) (insert order gap n) j ≡ key_at names order j
key_below names order name gap n j x g h =
    ap (name_at (names ++ name ∷ [])) (get_or-insert_below order gap n 0 j h g) ∙ get_or_append_left names (name ∷ []) [] (get_or order j 0) (x.inside j (omega arith))

pub key_above : (names : List (List ℕ)) (order name : List ℕ) (gap n j : ℕ) → IsIndex names order → gap ≤ length order → gap ≤ j → j < length order → key_at (names ++ name ∷ []) (insert order gap n) (j + 1) ≡ key_at names order j
key_above names order name gap n j x g h l =
    ap (name_at (names ++ name ∷ [])) (get_or-insert_above order gap n 0 j h g) ∙ get_or_append_left names (name ∷ []) [] (get_or order j 0) (x.inside j l)

pub key_new : (names : List (List ℕ)) (order name : List ℕ) (gap n : ℕ) → gap ≤ length order → n ≡ length names → key_at (names ++ name ∷ []) (insert order gap n) gap ≡ name
key_new names order name gap n g e =
    ap (name_at (names ++ name ∷ [])) (get_or-insert_at order gap n 0 g ∙ e) ∙ get_or-append_seam names name [] []

-- a place of an index with one place more: one of those before, the new one, or one of those after
data Spot (gap j : ℕ) : Type 0 where
  Before : j < gap → Spot gap j
  New : j ≡ gap → Spot gap j
  After : (i : ℕ) → gap ≤ i → j ≡ i + 1 → Spot gap j

spot : (gap j : ℕ) → Spot gap j
spot gap j =
    elim (cases_lt j gap) [
      | inl h ↦ Before h
      | inr h ↦ elim (cases_lt gap j) [
        | inl g ↦ After (j - 1) (omega arith) (omega arith)
        | inr g ↦ New (omega arith)
      ]
    ]

entered_sorted : (names : List (List ℕ)) (order name : List ℕ) (gap n j k : ℕ) → IsIndex names order → IsGap names order name gap → n ≡ length names → j < k → k < length order + 1 → Spot gap j → Spot gap k → index_order (key_at (names ++ name ∷ []) (insert order gap n) j) (key_at (names ++ name ∷ []) (insert order gap n) k) ≡ Less
entered_sorted names order name gap n j k x g e h l (Before a) (Before b) =
    rw (key_below names order name gap n j x g.fits a, key_below names order name gap n k x g.fits b) (x.sorted j k h (omega (arith, g.fits)))
entered_sorted names order name gap n j k x g e h l (Before a) (New b) =
    ap (λ (i : ℕ). index_order (key_at (names ++ name ∷ []) (insert order gap n) j) (key_at (names ++ name ∷ []) (insert order gap n) i)) b
    ∙ rw (key_below names order name gap n j x g.fits a, key_new names order name gap n g.fits e) (g.below j a)
entered_sorted names order name gap n j k x g e h l (Before a) (After i b f) =
    ap (λ (i : ℕ). index_order (key_at (names ++ name ∷ []) (insert order gap n) j) (key_at (names ++ name ∷ []) (insert order gap n) i)) f
    ∙ rw (key_below names order name gap n j x g.fits a, key_above names order name gap n i x g.fits b (omega arith)) (x.sorted j i (omega arith) (omega arith))
entered_sorted names order name gap n j k x g e h l (New a) (Before b) = absurd (omega arith)
entered_sorted names order name gap n j k x g e h l (New a) (New b) = absurd (omega arith)
entered_sorted names order name gap n j k x g e h l (New a) (After i b f) =
    ap (λ (i : ℕ). index_order (key_at (names ++ name ∷ []) (insert order gap n) j) (key_at (names ++ name ∷ []) (insert order gap n) i)) f
    ∙ (ap (λ (i' : ℕ). index_order (key_at (names ++ name ∷ []) (insert order gap n) i') (key_at (names ++ name ∷ []) (insert order gap n) (i + 1))) a
    ∙ rw (key_new names order name gap n g.fits e, key_above names order name gap n i x g.fits b (omega arith)) (turned _ name (g.above i b (omega arith))))
entered_sorted names order name gap n j k x g e h l (After i a f) (Before b) = absurd (omega arith)
entered_sorted names order name gap n j k x g e h l (After i a f) (New b) = absurd (omega arith)
entered_sorted names order name gap n j k x g e h l (After i a f) (After i2 b f2) =
    ap (λ (q : ℕ). index_order (key_at (names ++ name ∷ []) (insert order gap n) j) (key_at (names ++ name ∷ []) (insert order gap n) q)) f2
    ∙ (ap (λ (q : ℕ). index_order (key_at (names ++ name ∷ []) (insert order gap n) q) (key_at (names ++ name ∷ []) (insert order gap n) (i2 + 1))) f
    ∙ rw (key_above names order name gap n i x g.fits a (omega arith), key_above names order name gap n i2 x g.fits b (omega arith)) (x.sorted i i2 (omega arith) (omega arith)))

entered_inside : (names : List (List ℕ)) (order name : List ℕ) (gap n j : ℕ) → IsIndex names order → gap ≤ length order → n ≡ length names → j < length order + 1 → Spot gap j → get_or (insert order gap n) j 0 < length (names ++ name ∷ [])
entered_inside names order name gap n j x g e l (Before a) =
    omega (arith, get_or-insert_below order gap n 0 j a g, x.inside j (omega arith), length-append names (name ∷ []))
entered_inside names order name gap n j x g e l (New a) =
    omega (arith, ap (λ (i : ℕ). get_or (insert order gap n) i 0) a ∙ get_or-insert_at order gap n 0 g, length-append names (name ∷ []))
entered_inside names order name gap n j x g e l (After i a f) =
    omega (arith, ap (λ (i' : ℕ). get_or (insert order gap n) i' 0) f ∙ get_or-insert_above order gap n 0 i a g, x.inside i (omega arith), length-append names (name ∷ []))

-- every place of the names is reached
entered_whole : (names : List (List ℕ)) (order name : List ℕ) (gap n i : ℕ) → IsIndex names order → gap ≤ length order → n ≡ length names → i < length names + 1 → (k : ℕ) × ((k < length order + 1) × (get_or (insert order gap n) k 0 ≡ i))
entered_whole names order name gap n i x g e h =
    elim (cases_lt i (length names)) [
      | inl l ↦
          let w = x.whole i l in
          elim (cases_lt w.0 gap) [
            | inl b ↦ (w.0, (omega (arith, w.1.0), get_or-insert_below order gap n 0 w.0 b g ∙ w.1.1))
            | inr b ↦ (w.0 + 1, (omega (arith, w.1.0), get_or-insert_above order gap n 0 w.0 b g ∙ w.1.1))
          ]
      | inr l ↦ (gap, (omega arith, get_or-insert_at order gap n 0 g ∙ omega arith))
    ]

pub entered_index : (names : List (List ℕ)) (order name : List ℕ) (gap n : ℕ) → IsIndex names order → IsGap names order name gap → n ≡ length names → IsIndex (names ++ name ∷ []) (insert order gap n)
entered_index names order name gap n x g e =
    let long : length (insert order gap n) ≡ length order + 1 = length-insert order gap n g.fits in
    let more : length (names ++ name ∷ []) ≡ length names + 1 = length-append names (name ∷ []) in
    record {
      long = omega (arith, x.long);
      inside = λ k h. entered_inside names order name gap n k x g.fits e (omega arith) (spot gap k);
      whole = λ i h. let w = entered_whole names order name gap n i x g.fits e (omega arith) in (w.0, (omega (arith, w.1.0), w.1.1));
      sorted = λ j k h l. entered_sorted names order name gap n j k x g e h (omega arith) (spot gap j) (spot gap k);
    }

-- Where the buckets of an index begin, once a place was taken out of it or put into it.

-- a place whose name is of a bucket stands in that bucket
pub in_bucket : (names : List (List ℕ)) (order bucket_starts : List ℕ) (at bucket : ℕ) → IsDivided names order bucket_starts → bucket < 1024 → at < length order → bucket_of (key_at names order at) ≡ bucket → IsInBucket bucket_starts bucket at
in_bucket names order bucket_starts at bucket v h l here = record {
  from = elim (cases_lt at (get_or bucket_starts bucket 0)) [
    | inl b ↦ absurd (omega (arith, here, v.below bucket at (omega arith) b))
    | inr b ↦ b
  ];
  to = elim (cases_lt at (get_or bucket_starts (bucket + 1) 0)) [
    | inl b ↦ b
    | inr b ↦ absurd (omega (arith, here, v.above (bucket + 1) at (omega arith) b l))
  ];
}

-- and so does the place of a name
pub place_in_bucket : (names : List (List ℕ)) (order bucket_starts name : List ℕ) (at bucket : ℕ) → IsDivided names order bucket_starts → IsPlace names order name at → bucket ≡ bucket_of name → bucket < 1024 → IsInBucket bucket_starts bucket at
place_in_bucket names order bucket_starts name at bucket v x e h = in_bucket names order bucket_starts at bucket v h x.inside (ap bucket_of x.same ∙ sym e)

-- a name that isn't there would stand in its bucket, or where that ends
pub gap_in_bucket : (names : List (List ℕ)) (order bucket_starts name : List ℕ) (gap bucket : ℕ) → IsDivided names order bucket_starts → IsGap names order name gap → bucket ≡ bucket_of name → bucket < 1024 → (get_or bucket_starts bucket 0 ≤ gap) × (gap ≤ get_or bucket_starts (bucket + 1) 0)
gap_in_bucket names order bucket_starts name gap bucket v g e h = (
  elim (cases_lt gap (get_or bucket_starts bucket 0)) [
    | inl b ↦
        let inside : gap < length order = omega (arith, v.inside bucket (omega arith)) in
        absurd (omega (arith, v.below bucket gap (omega arith) b, more_part _ name (g.above gap (omega arith) inside)))
    | inr b ↦ b
  ],
  elim (cases_lt (get_or bucket_starts (bucket + 1) 0) gap) [
    | inl b ↦
        let last : ℕ = get_or bucket_starts (bucket + 1) 0 in
        absurd (omega (arith, g.fits, v.above (bucket + 1) last (omega arith) (omega arith) (omega (arith, g.fits)), less_part _ name (g.below last b)))
    | inr b ↦ b
  ],
)

-- the buckets after that of a name in the index begin after its place
pub sooner_more : (names : List (List ℕ)) (order bucket_starts name : List ℕ) (at bucket : ℕ) → IsDivided names order bucket_starts → IsPlace names order name at → IsInBucket bucket_starts bucket at → bucket ≡ bucket_of name → (p : ℕ) → bucket < p → p ≤ 1024 → get_or bucket_starts bucket 0 < get_or bucket_starts p 0
sooner_more names order bucket_starts name at bucket v x i e p h l =
    let here : bucket_of (key_at names order at) ≡ bucket = ap bucket_of x.same ∙ sym e in
    elim (cases_lt at (get_or bucket_starts p 0)) [
      | inl b ↦ omega (arith, i.from)
      | inr b ↦ absurd (omega (arith, here, v.above p at l b x.inside))
    ]

pub nothing_divided : (names : List (List ℕ)) (bucket_starts : List ℕ) → bucket_starts ≡ replicate 1025 0 → IsDivided names [] bucket_starts
nothing_divided names bucket_starts e =
    let z : (p : ℕ) → p ≤ 1024 → get_or bucket_starts p 0 ≡ 0 = λ p h. ap (λ (l : List ℕ). get_or l p 0) e ∙ get_or-replicate 1025 p 0 0 (omega arith) in
    record {
      long = ap (length {A = ℕ}) e ∙ length-replicate {A = ℕ} 1025 0;
      inside = λ p h. omega (arith, z p h);
      below = λ p k h g. absurd (omega (arith, z p h));
      above = λ p k h g i. absurd (omega arith);
    }

-- no bucket begins past the end of the index
pub few_starts : (names : List (List ℕ)) (order bucket_starts : List ℕ) → IsDivided names order bucket_starts → length order ≤ 65536 → All (λ s. s ≤ 65536) bucket_starts
few_starts names order bucket_starts d h = λ i b l. omega (arith, d.long, d.inside i (omega (arith, d.long)), get_or_default bucket_starts i b 0 l)

-- where a place lies in the index with one place more: among those before, in its middle, or among those after
module _ (names : List (List ℕ)) (order bucket_starts new name : List ℕ) (gap n bucket : ℕ) (x : IsIndex names order) (g : IsGap names order name gap)
    (d : IsDivided names order bucket_starts) (e : n ≡ length names) (here : bucket_of name ≡ bucket) (l : IsLater bucket bucket_starts new) where
  abbrev more : List (List ℕ)
  more = names ++ name ∷ []

  abbrev wider : List ℕ
  wider = insert order gap n

  before_key : (k : ℕ) → k < gap → bucket_of (key_at more wider k) ≡ bucket_of (key_at names order k)
  before_key k h = ap bucket_of (key_below names order name gap n k x g.fits h)

  middle_key : (k : ℕ) → k ≡ gap → bucket_of (key_at more wider k) ≡ bucket
  middle_key k h = ap (λ (i : ℕ). bucket_of (key_at more wider i)) h ∙ (ap bucket_of (key_new names order name gap n g.fits e) ∙ here)

  after_key : (k i : ℕ) → k ≡ i + 1 → gap ≤ i → i < length order → bucket_of (key_at more wider k) ≡ bucket_of (key_at names order i)
  after_key k i h a b = ap (λ (j : ℕ). bucket_of (key_at more wider j)) h ∙ ap bucket_of (key_above names order name gap n i x g.fits a b)

  low_part : (k : ℕ) → k < gap → bucket_of (key_at names order k) ≤ bucket
  low_part k h = omega (arith, less_part _ name (g.below k h))

  high_part : (k : ℕ) → gap ≤ k → k < length order → bucket ≤ bucket_of (key_at names order k)
  high_part k a b = omega (arith, more_part _ name (g.above k a b))

  grown : (p : ℕ) → p ≤ 1024 → (get_or bucket_starts p 0 ≤ get_or new p 0) × (get_or new p 0 ≤ get_or bucket_starts p 0 + 1)
  grown p h =
      elim (cases_lt bucket p) [
        | inl a ↦ (omega (arith, l.following p a (omega (arith, d.long))), omega (arith, l.following p a (omega (arith, d.long))))
        | inr a ↦ (omega (arith, l.before p a), omega (arith, l.before p a))
      ]

  entered_below : (p k : ℕ) → p ≤ 1024 → k < get_or new p 0 → bucket_of (key_at more wider k) < p
  entered_below p k h b =
      let size : get_or bucket_starts p 0 ≤ length order = d.inside p h in
      let grow = grown p h in
      elim (cases_lt k gap) [
        | inl a ↦ elim (cases_lt bucket p) [
          | inl c ↦ omega (arith, before_key k a, low_part k a)
          | inr c ↦ omega (arith, before_key k a, d.below p k h (omega (arith, l.before p c)))
        ]
        | inr a ↦ elim (cases_lt gap k) [
          | inl c ↦ omega (arith, after_key k (k - 1) (omega arith) (omega arith) (omega (arith, grow.1)), d.below p (k - 1) h (omega (arith, grow.1)))
          | inr c ↦ elim (cases_lt bucket p) [
            | inl f ↦ omega (arith, middle_key k (omega arith))
            | inr f ↦
                let inside : gap < get_or bucket_starts p 0 = omega (arith, l.before p f) in
                absurd (omega (arith, d.below p gap h inside, high_part gap (omega arith) (omega arith)))
          ]
        ]
      ]

  entered_above : (p k : ℕ) → p ≤ 1024 → get_or new p 0 ≤ k → k < length order + 1 → p ≤ bucket_of (key_at more wider k)
  entered_above p k h b c =
      let fits : gap ≤ length order = g.fits in
      let grow = grown p h in
      elim (cases_lt k gap) [
        | inl a ↦ omega (arith, before_key k a, d.above p k h (omega (arith, grow.0)) (omega arith))
        | inr a ↦ elim (cases_lt gap k) [
          | inl f ↦
              let key : bucket_of (key_at more wider k) ≡ bucket_of (key_at names order (k - 1)) = after_key k (k - 1) (omega arith) (omega arith) (omega arith) in
              elim (cases_lt bucket p) [
                | inl q ↦ omega (arith, key, d.above p (k - 1) h (omega (arith, l.following p q (omega (arith, d.long)))) (omega arith))
                | inr q ↦ omega (arith, key, high_part (k - 1) (omega arith) (omega arith))
              ]
          | inr f ↦ elim (cases_lt bucket p) [
            | inl q ↦
                let s : ℕ = get_or bucket_starts p 0 in
                let low : s < gap = omega (arith, l.following p q (omega (arith, d.long))) in
                absurd (omega (arith, low_part s low, d.above p s h (omega arith) (omega arith)))
            | inr q ↦ omega (arith, middle_key k (omega arith))
          ]
        ]
      ]

  pub entered_divided : IsDivided (names ++ name ∷ []) (insert order gap n) new
  entered_divided =
      let long : length (insert order gap n) ≡ length order + 1 = length-insert order gap n g.fits in
      record {
        long = l.long ∙ d.long;
        inside = λ p h. let grow = grown p h in omega (arith, grow.1, d.inside p h);
        below = entered_below;
        above = λ p k h a b. entered_above p k h a (omega arith);
      }

module _ (names : List (List ℕ)) (order bucket_starts new : List ℕ) (at taken bucket : ℕ) (x : IsIndex names order) (i : at < length order)
    (e : taken ≡ get_or order at 0) (here : bucket_of (key_at names order at) ≡ bucket) (d : IsDivided names order bucket_starts) (l : IsSooner bucket bucket_starts new) where
  abbrev fewer : List (List ℕ)
  fewer = remove names taken

  abbrev closer : List ℕ
  closer = map (closed taken) (remove order at)

  closer_long : length closer ≡ length (remove order at)
  closer_long = length-map (remove order at) (closed taken)

  -- a bucket up to that of the name ends before it, a later one after it
  ends_before : (p : ℕ) → p ≤ 1024 → p ≤ bucket → get_or bucket_starts p 0 ≤ at
  ends_before p h a =
      elim (cases_lt at (get_or bucket_starts p 0)) [
        | inl b ↦ absurd (omega (arith, here, d.below p at h b))
        | inr b ↦ b
      ]

  ends_after : (p : ℕ) → p ≤ 1024 → bucket < p → at < get_or bucket_starts p 0
  ends_after p h a =
      elim (cases_lt at (get_or bucket_starts p 0)) [
        | inl b ↦ b
        | inr b ↦ absurd (omega (arith, here, d.above p at h b i))
      ]

  near : (j k : ℕ) → ((j < at) × (k ≡ j)) ⊎ ((at ≤ j) × (k ≡ j + 1)) → (p s t : ℕ) → (s ≤ at) × (t ≡ s) ⊎ (at < s) × (t ≡ s - 1) → (j < t → k < s) × (t ≤ j → s ≤ k)
  near j k (inl a) p s t (inl b) = (λ h. omega arith, λ h. omega arith)
  near j k (inl a) p s t (inr b) = (λ h. omega arith, λ h. omega arith)
  near j k (inr a) p s t (inl b) = (λ h. omega arith, λ h. omega arith)
  near j k (inr a) p s t (inr b) = (λ h. omega arith, λ h. omega arith)

  fell : (p : ℕ) → p ≤ 1024 → (get_or bucket_starts p 0 ≤ at) × (get_or new p 0 ≡ get_or bucket_starts p 0) ⊎ (at < get_or bucket_starts p 0) × (get_or new p 0 ≡ get_or bucket_starts p 0 - 1)
  fell p h =
      elim (cases_lt bucket p) [
        | inl a ↦ inr (ends_after p h a, l.following p a (omega (arith, d.long)))
        | inr a ↦ inl (ends_before p h a, l.before p a)
      ]

  left_inside : (p s t : ℕ) → s ≤ length order → (s ≤ at) × (t ≡ s) ⊎ (at < s) × (t ≡ s - 1) → t ≤ length order - 1
  left_inside p s t h (inl a) = omega (arith, i)
  left_inside p s t h (inr a) = omega arith

  left_below : (p j : ℕ) → p ≤ 1024 → j < length (remove order at) → j < get_or new p 0 → bucket_of (key_at fewer closer j) < p
  left_below p j h b c =
      let w = left_key names order at taken j x i e b in
      let n = near j w.0 w.1.shift p (get_or bucket_starts p 0) (get_or new p 0) (fell p h) in
      let same : bucket_of (key_at fewer closer j) ≡ bucket_of (key_at names order w.0) = ap bucket_of w.1.key in
      omega (arith, d.below p w.0 h (n.0 c))

  left_above : (p j : ℕ) → p ≤ 1024 → j < length (remove order at) → get_or new p 0 ≤ j → p ≤ bucket_of (key_at fewer closer j)
  left_above p j h b c =
      let w = left_key names order at taken j x i e b in
      let n = near j w.0 w.1.shift p (get_or bucket_starts p 0) (get_or new p 0) (fell p h) in
      let same : bucket_of (key_at fewer closer j) ≡ bucket_of (key_at names order w.0) = ap bucket_of w.1.key in
      omega (arith, d.above p w.0 h (n.1 c) w.1.inside)

  pub left_divided : IsDivided (remove names taken) (map (closed taken) (remove order at)) new
  left_divided =
      let one : length (remove order at) ≡ length order - 1 = omega (arith, length-remove order at i) in
      let long : length (map (closed taken) (remove order at)) ≡ length order - 1 = closer_long ∙ one in
      record {
        long = l.long ∙ d.long;
        inside = λ p h. let fits : get_or new p 0 ≤ length order - 1 = left_inside p (get_or bucket_starts p 0) (get_or new p 0) (d.inside p h) (fell p h) in omega arith;
        below = λ p k h g.
            let fits : get_or new p 0 ≤ length order - 1 = left_inside p (get_or bucket_starts p 0) (get_or new p 0) (d.inside p h) (fell p h) in
            left_below p k h (omega arith) g;
        above = λ p k h g b. left_above p k h (omega arith) g;
      }

-- The index of a table's entries: the names to which it leads, and the index of the lists that a change makes.

-- an index of entries has as many places, each that of an entry
pub entry_inside : (bytes : List ℕ) (entries : List Entry) (order : List ℕ) (k : ℕ) → IsIndex (names_of (macros_in bytes entries)) order → k < length order → get_or order k 0 < length entries
entry_inside bytes entries order k x h = omega (arith, x.inside k h, count_names (macros_in bytes entries), length_macros_in bytes entries)

pub index_length : (bytes : List ℕ) (entries : List Entry) (order : List ℕ) → IsIndex (names_of (macros_in bytes entries)) order → length order ≡ length entries
index_length bytes entries order x = x.long ∙ (count_names (macros_in bytes entries) ∙ length_macros_in bytes entries)

key_of_entry : (bytes : List ℕ) (entries : List Entry) (order : List ℕ) (k : ℕ) (d : Entry) → get_or order k 0 < length entries → key_at (names_of (macros_in bytes entries)) order k ≡ name_of bytes (get_or entries (get_or order k 0) d)
unfolding macros_in macro_in
key_of_entry bytes entries order k d h =
    name_of_macro (macros_in bytes entries) (get_or order k 0) ∙ ap (λ m. m.name) (get_or-map (macro_in bytes) entries (get_or order k 0) d no_macro h)

pub compared_key : (bytes : List ℕ) (entries : List Entry) (order : List ℕ) (k place : ℕ) (d : Entry) (other name : List ℕ) (o : Ordering) → IsIndex (names_of (macros_in bytes entries)) order → k < length order → place ≡ get_or order k 0 → other ≡ name_of bytes (get_or entries place d) → o ≡ name_order other name → name_order (key_at (names_of (macros_in bytes entries)) order k) name ≡ o
compared_key bytes entries order k place d other name o x h p e f =
    ap (λ (n : List ℕ). name_order n name) (key_of_entry bytes entries order k d (entry_inside bytes entries order k x h) ∙ sym (e ∙ ap (λ (i : ℕ). name_of bytes (get_or entries i d)) p)) ∙ sym f

pub end_of_entry : (bytes : List ℕ) (entries : List Entry) (order : List ℕ) (k place : ℕ) (d : Entry) → AreWithin (length bytes) entries → IsIndex (names_of (macros_in bytes entries)) order → k < length order → place ≡ get_or order k 0 → entry_end (get_or entries place d) ≤ length bytes
end_of_entry bytes entries order k place d w x h p = w place d (omega (arith, entry_inside bytes entries order k x h))

-- what a search through slices of the lists found, of the lists themselves
pub found_in : (bs : List ℕ) (es : List Entry) (os : List ℕ) (bytes : List ℕ) (entries : List Entry) (order sought name : List ℕ) (found : Result ℕ ℕ) → bs ≡ bytes → es ≡ entries → os ≡ order → sought ≡ name → IsFound (names_of (macros_in bs es)) os sought found → IsFound (names_of (macros_in bytes entries)) order name found
found_in bs es os bytes entries order sought name found p q r s h = rw (p, q, r, s) at h

pub found_place : (names : List (List ℕ)) (order name : List ℕ) (found : Result ℕ ℕ) (at : ℕ) → found ≡ Ok at → IsFound names order name found → IsPlace names order name at
found_place names order name found at e h = rw e at h

pub found_gap : (names : List (List ℕ)) (order name : List ℕ) (found : Result ℕ ℕ) (gap : ℕ) → found ≡ Err gap → IsFound names order name found → IsGap names order name gap
found_gap names order name found gap e h = rw e at h

pub found_named : (ms : List Macro) (order name : List ℕ) (found : Result ℕ ℕ) → IsIndex (names_of ms) order → IsFound (names_of ms) order name found → is_ok found ≡ is_some (macro_named ms name)
found_named ms order name (Ok at) x h = is_named ms name (Some _) (sym (indexed_place ms order name at x h))
found_named ms order name (Err gap) x h = is_named ms name None (sym (indexed_gap ms order name gap x h))

pub indexed_slices : {from ahead : ℕ} (bs : List ℕ) (es : List Entry) (os : List ℕ) (bytes : List ℕ) (entries : List Entry) (order bucket_starts : List ℕ) (ms : List Macro) → bs ≡ bytes → es ≡ entries → os ≡ order → IsStored from ahead bytes entries ms → IsIndexed (names_of ms) order bucket_starts → IsIndexed (names_of (macros_in bs es)) os bucket_starts
indexed_slices bs es os bytes entries order bucket_starts ms p q r s x =
    let P : List Macro → Type 0 = λ l. IsIndexed (names_of l) order bucket_starts in
    rw (p, q, r) (subst P (sym (read_back bytes entries ms s)) x)

pub few_left : {from ahead : ℕ} (bytes : List ℕ) (entries old_entries : List Entry) (old : List ℕ) (name : List ℕ) → IsStored from ahead bytes entries (without name (macros_in old old_entries)) → length old_entries ≤ 65536 → length entries ≤ 65536
few_left bytes entries old_entries old name s h =
    omega (arith, stored_count bytes entries _ s, without_length name (macros_in old old_entries), length_macros_in old old_entries)

pub left_without : (ms : List Macro) (order bucket_starts name : List ℕ) (at taken bucket : ℕ) (new begun : List ℕ) → IsDistinct bytes_eq (map (λ m. m.name) ms) → IsIndexed (names_of ms) order bucket_starts → IsPlace (names_of ms) order name at → taken ≡ get_or order at 0 → new ≡ map (closed taken) (remove order at) → bucket ≡ bucket_of name → IsSooner bucket bucket_starts begun → IsIndexed (names_of (without name ms)) new begun
left_without ms order bucket_starts name at taken bucket new begun d x p e f q b =
    let named : place_named ms name ≡ Some taken = indexed_place ms order name at x.index p ∙ ap Some (sym e) in
    let names : remove (names_of ms) taken ≡ names_of (without name ms) = sym (ap names_of (without_at name ms taken d named) ∙ names_left ms taken) in
    let here : bucket_of (key_at (names_of ms) order at) ≡ bucket = ap bucket_of p.same ∙ sym q in
    let left : IsIndexed (remove (names_of ms) taken) (map (closed taken) (remove order at)) begun = record {
      index = left_index (names_of ms) order at taken x.index p.inside e;
      divided = left_divided (names_of ms) order bucket_starts begun at taken bucket x.index p.inside e here x.divided b;
    } in
    let P : List (List ℕ) → Type 0 = λ n. IsIndexed n (map (closed taken) (remove order at)) begun in
    let Q : List ℕ → Type 0 = λ o. IsIndexed (names_of (without name ms)) o begun in
    subst Q (sym f) (subst P names left)

-- a name that was taken out would stand in the index of what is left where it stood
pub gap_without : {from ahead : ℕ} (ms : List Macro) (order name : List ℕ) (at taken : ℕ) (new : List ℕ) (bytes : List ℕ) (entries : List Entry) → IsDistinct bytes_eq (map (λ m. m.name) ms) → IsIndex (names_of ms) order → IsPlace (names_of ms) order name at → taken ≡ get_or order at 0 → new ≡ map (closed taken) (remove order at) → IsStored from ahead bytes entries (without name ms) → IsGap (names_of (macros_in bytes entries)) new name at
gap_without ms order name at taken new bytes entries d x p e f s =
    let named : place_named ms name ≡ Some taken = indexed_place ms order name at x p ∙ ap Some (sym e) in
    let names : remove (names_of ms) taken ≡ names_of (without name ms) = sym (ap names_of (without_at name ms taken d named) ∙ names_left ms taken) in
    let back : names_of (without name ms) ≡ names_of (macros_in bytes entries) = ap names_of (sym (read_back bytes entries (without name ms) s)) in
    let P : List (List ℕ) → Type 0 = λ n. IsGap n (map (closed taken) (remove order at)) name at in
    let Q : List ℕ → Type 0 = λ o. IsGap (names_of (macros_in bytes entries)) o name at in
    subst Q (sym f) (subst P back (subst P names (left_gap (names_of ms) order name at taken x p e)))

-- the offsets of the macros without the one of a name
pub offsets_without : (ms : List Macro) (name : List ℕ) (place : ℕ) → IsDistinct bytes_eq (map (λ m. m.name) ms) → place_named ms name ≡ Some place → table_offsets (remove ms place) ≡ table_offsets (without name ms)
offsets_without ms name place d e = ap table_offsets (sym (without_at name ms place d e))

pub offsets_nowhere : (ms : List Macro) (name : List ℕ) → place_named ms name ≡ None → table_offsets ms ≡ table_offsets (without name ms)
offsets_nowhere ms name e = ap table_offsets (sym (without_nowhere name ms e))

pub left_nowhere : (ms : List Macro) (order bucket_starts name : List ℕ) → place_named ms name ≡ None → IsIndexed (names_of ms) order bucket_starts → IsIndexed (names_of (without name ms)) order bucket_starts
left_nowhere ms order bucket_starts name at x =
    let P : List Macro → Type 0 = λ l. IsIndexed (names_of l) order bucket_starts in
    subst P (sym (without_nowhere name ms at)) x

pub entered_with : {from ahead : ℕ} (bs : List ℕ) (es : List Entry) (os : List ℕ) (bytes : List ℕ) (entries : List Entry) (order bucket_starts : List ℕ) (ms : List Macro) (m : Macro) (gap n bucket : ℕ) (new begun : List ℕ) → bs ≡ bytes → es ≡ entries → os ≡ order → IsStored from ahead bytes entries ms → IsIndexed (names_of ms) order bucket_starts → IsGap (names_of (macros_in bs es)) os m.name gap → n ≡ length entries → new ≡ insert order gap n → bucket ≡ bucket_of m.name → IsLater bucket bucket_starts begun → IsIndexed (names_of (ms ++ m ∷ [])) new begun
entered_with bs es os bytes entries order bucket_starts ms m gap n bucket new begun p q r s x g e f a b =
    let back : macros_in bytes entries ≡ ms = read_back bytes entries ms s in
    let P : List Macro → Type 0 = λ l. IsGap (names_of l) order m.name gap in
    let here : IsGap (names_of ms) order m.name gap = subst P back (rw (p, q, r) at g) in
    let count : n ≡ length (names_of ms) = e ∙ (stored_count bytes entries ms s ∙ sym (count_names ms)) in
    let more : IsIndexed (names_of ms ++ m.name ∷ []) (insert order gap n) begun = record {
      index = entered_index (names_of ms) order m.name gap n x.index here count;
      divided = entered_divided (names_of ms) order bucket_starts begun m.name gap n bucket x.index here x.divided count (sym a) b;
    } in
    let Q : List (List ℕ) → Type 0 = λ l. IsIndexed l (insert order gap n) begun in
    let R : List ℕ → Type 0 = λ o. IsIndexed (names_of (ms ++ m ∷ [])) o begun in
    subst R (sym f) (subst Q (sym (map-append (λ (x : Macro). x.name) ms (m ∷ []))) more)

pub index_of_nothing : (bytes : List ℕ) (entries : List Entry) (order bucket_starts : List ℕ) → entries ≡ [] → order ≡ [] → bucket_starts ≡ replicate 1025 0 → IsIndexed (names_of (macros_in bytes entries)) order bucket_starts
index_of_nothing bytes entries order bucket_starts e f g =
    let nothing : List ℕ = [] in
    let none : IsIndexed (names_of []) nothing bucket_starts = record {
      index = record { long = refl; inside = λ k h. absurd (omega arith); whole = λ i h. absurd (omega arith); sorted = λ j k h l. absurd (omega arith) };
      divided = nothing_divided (names_of []) bucket_starts g;
    } in
    let P : List ℕ → Type 0 = λ o. IsIndexed (names_of []) o bucket_starts in
    let Q : List Macro → Type 0 = λ l. IsIndexed (names_of l) order bucket_starts in
    subst Q (sym (macros_of_none bytes entries e)) (subst P (sym f) none)

pub nothing_marked : (bytes : List ℕ) (entries : List Entry) → entries ≡ [] → [] ≡ table_offsets (macros_in bytes entries)
unfolding table_offsets
nothing_marked bytes entries e = sym (ap table_offsets (macros_of_none bytes entries e))

-- the offsets of macros, as they are read back
pub marked_after : {from ahead : ℕ} (bytes : List ℕ) (entries : List Entry) (formal_offsets : List ℕ) (ms : List Macro) → IsStored from ahead bytes entries ms → formal_offsets ≡ table_offsets ms → formal_offsets ≡ table_offsets (macros_in bytes entries)
marked_after bytes entries formal_offsets ms s e = e ∙ ap table_offsets (sym (read_back bytes entries ms s))

-- the place of a name among the macros of a table
pub viewed_place : (bs : List ℕ) (es : List Entry) (bytes : List ℕ) (entries : List Entry) (a b : ℕ) (view : TableView) (name : List ℕ) (r : Option ℕ) → bs ≡ bytes → es ≡ entries → view_of bytes entries a b ≡ view → r ≡ place_named (macros_in bs es) name → r ≡ place_named view.macros name
viewed_place bs es bytes entries a b view name r p q e h =
    h ∙ (ap (λ (l : List ℕ). place_named (macros_in l es) name) p ∙ (ap (λ (l : List Entry). place_named (macros_in bytes l) name) q ∙ ap (λ (v : TableView). place_named v.macros name) e))

pub indexed_after : {from ahead : ℕ} (bytes : List ℕ) (entries : List Entry) (order bucket_starts : List ℕ) (ms : List Macro) → IsStored from ahead bytes entries ms → IsIndexed (names_of ms) order bucket_starts → IsIndexed (names_of (macros_in bytes entries)) order bucket_starts
indexed_after bytes entries order bucket_starts ms s x = indexed_slices bytes entries order bytes entries order bucket_starts ms refl refl refl s x

-- a table has no more entries than it takes
pub few_entries : {from ahead : ℕ} (bytes : List ℕ) (entries : List Entry) (a b : ℕ) → IsHeld from ahead bytes entries a b → length entries ≤ b
few_entries bytes entries a b held = omega (arith, held.sound.macros_fit, length_macros_in bytes entries)
