-- The order of names, and of places in lists that a change moves.
use Rattle.std.proofs.Common.{◌≡◌, ℕ, zero, suc, ◌+◌, ◌-◌, ◌*◌, ◌<◌, ◌≤◌, true, false, List, [], ◌∷◌, length, get_or, take, drop, refl, sym, ap, ◌∙◌, subst, arith, ◌%◌, ◌^◌, Bool, cond, bytes_eq, ltb, Some, None, inl, inr, ◌==◌, map, ◌++◌, length-append, remove, append_assoc, position, is_eq, nat_cmp, Ordering, Equal, Greater, Less, set, pow-suc, drop-cons, eq-eqb, le-ltb, lt-ltb, true≢false, drop-drop, drop_at, get_or-append-add, get_or-drop, get_or-take, length-drop, length-take-le, take-take, take_all, take_at}
use Rattle.std.specs.Cmp.{nat_cmp_is}
use Rattle.std.specs.List.{AllByRecursion, IsDistinct}
use Rattle.std.specs.Ordering.{MatchOrdering, is_ne, ordering_reverse, ordering_then}
use Rattle.std.specs.Slice.Scan.{big_endian}
use Rattle.std.proofs.Math.ListN.{get_or-map}
use Rattle.std.proofs.lemmas.Bool.{cases_Bool, cases_lt, cond-false, cond-true, false≢true}
use Rattle.std.proofs.lemmas.Cmp.{nat_list_cmp_total}
use Rattle.std.proofs.lemmas.Grind.{common_steps}
use Rattle.std.proofs.lemmas.List.{drop-append-le, drop-take, drop_all, drop_more, get_or_append_left, get_or_at, length-map, map_more, set_at, take_more}
use Rattle.std.proofs.lemmas.List.Quantifiers.{position-Some}
use Rattle.std.proofs.lemmas.List.Sums.{position_or_len_is}
use Rattle.std.proofs.lemmas.Map.Keys.{IsDistinct-head, IsDistinct-tail}
use Rattle.std.proofs.lemmas.Map.Text.{is_eq-slice_cmp}
use Rattle.std.proofs.lemmas.Slice.Eq.{bytes_eq-Decides}
use Rattle.rdlpp_table.specs.Index.{IsCounted, IsDivided, IsGap, IsIndex, IsMiddle, IsPlace, index_order, key_at, name_at, name_order, names_of, bucket_of, fold_bytes, mix, mix_through}
use Rattle.rdlpp_define.specs.Macros.{Macro}
use Rattle.rdlpp_define.specs.Table.{macro_at, no_macro, place_named}

-- Bytes that are compared as numbers.

-- bytes of a list
abbrev pub AreBytes : List ℕ → Type 0
AreBytes xs = (k : ℕ) → get_or xs k 0 < 256

pub below : (x y : ℕ) → x < y → nat_cmp x y ≡ Less
below x y h = sym (nat_cmp_is x y Less h)

pub level : (x y : ℕ) → x ≡ y → nat_cmp x y ≡ Equal
level x y h = sym (nat_cmp_is x y Equal h)

pub above : (x y : ℕ) → y < x → nat_cmp x y ≡ Greater
above x y h = sym (nat_cmp_is x y Greater h)

-- a greater beginning makes a greater number
rises : (n a b : ℕ) (us vs : List ℕ) → n ≤ length us → n ≤ length vs → AreBytes us → a < b → big_endian a (take n us) < big_endian b (take n vs)
rises zero a b us vs p q h l = l
rises (suc n) a b [] vs p q h l = absurd (omega arith)
rises (suc n) a b (u ∷ us) [] p q h l = absurd (omega arith)
rises (suc n) a b (u ∷ us) (v ∷ vs) p q h l =
    let small : u < 256 = h 0 in
    rises n (a * 256 + u) (b * 256 + v) us vs (omega arith) (omega arith) (λ k. h (suc k)) (omega arith)

-- bytes stand to one another as the numbers of their first n, and then as the bytes after these
pub by_numbers : (n a : ℕ) (us vs : List ℕ) → n ≤ length us → n ≤ length vs → AreBytes us → AreBytes vs
    → name_order us vs ≡ ordering_then (nat_cmp (big_endian a (take n us)) (big_endian a (take n vs))) (name_order (drop n us) (drop n vs))
by_numbers zero a us vs p q g h = ap (λ o. ordering_then o (name_order us vs)) (sym (level a a refl))
by_numbers (suc n) a [] vs p q g h = absurd (omega arith)
by_numbers (suc n) a (u ∷ us) [] p q g h = absurd (omega arith)
by_numbers (suc n) a (u ∷ us) (v ∷ vs) p q g h =
    let rest = name_order (drop n us) (drop n vs) in
    let x : ℕ → ℕ = λ b. big_endian (a * 256 + b) (take n us) in
    let y : ℕ → ℕ = λ b. big_endian (a * 256 + b) (take n vs) in
    let G : Type 0 = ordering_then (nat_cmp u v) (name_order us vs) ≡ ordering_then (nat_cmp (x u) (y v)) rest in
    let less : u < v → G = λ l.
    ap (λ o. ordering_then o (name_order us vs)) (below u v l)
    ∙ sym (ap (λ o. ordering_then o rest) (below (x u) (y v) (rises n (a * 256 + u) (a * 256 + v) us vs (omega arith) (omega arith) (λ k. g (suc k)) (omega arith)))) in
    let more : v < u → G = λ l.
    ap (λ o. ordering_then o (name_order us vs)) (above u v l)
    ∙ sym (ap (λ o. ordering_then o rest) (above (x u) (y v) (rises n (a * 256 + v) (a * 256 + u) vs us (omega arith) (omega arith) (λ k. h (suc k)) (omega arith)))) in
    let same : u ≡ v → G = λ l.
    ap (λ o. ordering_then o (name_order us vs)) (level u v l)
    ∙ by_numbers n (a * 256 + u) us vs (omega arith) (omega arith) (λ k. g (suc k)) (λ k. h (suc k))
    ∙ ap (λ b. ordering_then (nat_cmp (x u) (y b)) rest) l in
    let P : Ordering → Type 0 = λ o. MatchOrdering o (u < v) (u ≡ v) (v < u) → G in
    grind arith

-- the first eight bytes, one by one
pub eight_are : (xs : List ℕ) → 8 ≤ length xs
    → get_or xs 0 0 * 72057594037927936 + get_or xs 1 0 * 281474976710656 + get_or xs 2 0 * 1099511627776 + get_or xs 3 0 * 4294967296
    + get_or xs 4 0 * 16777216 + get_or xs 5 0 * 65536 + get_or xs 6 0 * 256 + get_or xs 7 0 ≡ big_endian 0 (take 8 xs)
eight_are (a ∷ b ∷ c ∷ d ∷ e ∷ f ∷ g ∷ h ∷ xs) le = omega arith
eight_are xs le = absurd (omega arith)

-- what is after the first eight bytes, as a slice
pub following : (xs : List ℕ) → 8 ≤ length xs → take (length xs - 8) (drop 8 xs) ≡ drop 8 xs
following xs le = take_all _ (drop 8 xs) (omega (arith, length-drop 8 xs))

-- bytes after bytes
pub bytes_after : (xs : List ℕ) → 8 ≤ length xs → AreBytes xs → AreBytes (take (length xs - 8) (drop 8 xs))
bytes_after xs le h = subst AreBytes (sym (following xs le)) (λ k. subst (λ b. b < 256) (sym (get_or-drop 8 xs k 0)) (h (8 + k)))

-- an order that isn't `Equal` is the answer
unequal : (o r : Ordering) → is_ne o ≡ true → o ≡ ordering_then o r
unequal Less r e = refl
unequal Equal r e = absurd (true≢false (sym e))
unequal Greater r e = refl

-- one that is leaves the answer to what follows
equal : (o r : Ordering) → is_ne o ≡ false → ordering_then o r ≡ r
equal Less r e = absurd (true≢false e)
equal Equal r e = refl
equal Greater r e = absurd (true≢false e)

module _ (xs ys : List ℕ) (x y : ℕ) (o : Ordering) (p : 8 ≤ length xs) (q : 8 ≤ length ys) (g : AreBytes xs) (h : AreBytes ys)
    (a : x ≡ big_endian 0 (take 8 xs)) (b : y ≡ big_endian 0 (take 8 ys)) (c : o ≡ nat_cmp x y) where
  in_two : name_order xs ys ≡ ordering_then o (name_order (drop 8 xs) (drop 8 ys))
  in_two =
      let r = name_order (drop 8 xs) (drop 8 ys) in
      by_numbers 8 0 xs ys p q g h ∙ ap (λ z. ordering_then z r) (ap (λ z. nat_cmp z (big_endian 0 (take 8 ys))) (sym a) ∙ ap (nat_cmp x) (sym b) ∙ sym c)

  -- names that differ in eight bytes
  pub order_apart : is_ne o ≡ true → o ≡ name_order xs ys
  order_apart e = unequal o (name_order (drop 8 xs) (drop 8 ys)) e ∙ sym in_two

  -- names that are alike in eight bytes
  pub order_after : is_ne o ≡ false → name_order xs ys ≡ name_order (take (length xs - 8) (drop 8 xs)) (take (length ys - 8) (drop 8 ys))
  order_after e =
      in_two ∙ equal o (name_order (drop 8 xs) (drop 8 ys)) e
      ∙ sym (ap (λ l. name_order l (take (length ys - 8) (drop 8 ys))) (following xs p) ∙ ap (name_order (drop 8 xs)) (following ys q))

-- The number that is stirred from a name, eight bytes at a time.

pub mix_on : (number : ℕ) (xs : List ℕ) → 8 ≤ length xs → mix_through number xs ≡ mix_through (mix number (big_endian 0 (take 8 xs))) (drop 8 xs)
unfolding mix_through
mix_on number (a ∷ b ∷ c ∷ d ∷ e ∷ f ∷ g ∷ h ∷ xs) le = refl
mix_on number xs le = absurd (omega arith)

pub mix_last : (number : ℕ) (xs : List ℕ) → length xs < 8 → mix_through number xs ≡ mix number (fold_bytes 0 xs)
unfolding mix_through
mix_last number (a ∷ b ∷ c ∷ d ∷ e ∷ f ∷ g ∷ h ∷ xs) le = absurd (omega arith)
mix_last number xs le = refl

-- eight bytes more
pub mix_next : (number : ℕ) (xs : List ℕ) (front next : ℕ) → 8 ≤ length xs → front ≡ big_endian 0 (take 8 xs) → next ≡ mix number front → mix_through next (take (length xs - 8) (drop 8 xs)) ≡ mix_through number xs
mix_next number xs front next h e f = grind (arith, following, mix_on)

-- one byte more
pub fold_bytes_next : (number : ℕ) (xs : List ℕ) (i b : ℕ) → i < length xs → b ≡ get_or xs i 0 → fold_bytes ((number * 256 % 2 ^ 64 + b) % 2 ^ 64) (drop (i + 1) xs) ≡ fold_bytes number (drop i xs)
unfolding fold_bytes
fold_bytes_next number xs i b h e = grind (arith, drop-cons)

-- no byte more
pub fold_bytes_whole : (number : ℕ) (xs : List ℕ) (i : ℕ) → length xs ≤ i → fold_bytes number (drop i xs) ≡ number
unfolding fold_bytes
fold_bytes_whole number xs i h = ap (fold_bytes number) (drop_all i xs h)

-- The order of names, and an index sorted by it.

-- a name with its bucket before it
abbrev parted : List ℕ → List ℕ
parted name = bucket_of name ∷ name

-- where the buckets differ, they are the answer
pub bucket_less : (a b : List ℕ) → bucket_of a < bucket_of b → index_order a b ≡ Less
bucket_less a b h = ap (λ o. ordering_then o (name_order a b)) (below (bucket_of a) (bucket_of b) h)

pub bucket_more : (a b : List ℕ) → bucket_of b < bucket_of a → index_order a b ≡ Greater
bucket_more a b h = ap (λ o. ordering_then o (name_order a b)) (above (bucket_of a) (bucket_of b) h)

-- in one bucket the names are
pub bucket_same : (a b : List ℕ) → bucket_of a ≡ bucket_of b → index_order a b ≡ name_order a b
bucket_same a b h = ap (λ o. ordering_then o (name_order a b)) (level (bucket_of a) (bucket_of b) h)

-- a name that goes first stands in no later bucket
pub less_part : (a b : List ℕ) → index_order a b ≡ Less → bucket_of a ≤ bucket_of b
less_part a b e = grind (arith, cases_lt, bucket_more)

pub more_part : (a b : List ℕ) → index_order a b ≡ Greater → bucket_of b ≤ bucket_of a
more_part a b e = grind (arith, cases_lt, bucket_less)

pub differ : (a b : List ℕ) (o : Ordering) → index_order a b ≡ o → is_eq o ≡ false → bytes_eq a b ≡ false
differ a b o e h = grind (arith, is_eq-slice_cmp, cases_Bool, bytes_eq-Decides)

pub not_less : (a b : List ℕ) → a ≡ b → index_order a b ≡ Less → ⊥
not_less a b e h = false≢true (sym (differ a b Less h refl) ∙ (bytes_eq-Decides a b).1 e)

pub same_name : (a b : List ℕ) → name_order a b ≡ Equal → a ≡ b
same_name a b e = (bytes_eq-Decides a b).0 (sym (is_eq-slice_cmp a b) ∙ ap is_eq e)

pub turned : (a b : List ℕ) → index_order a b ≡ Greater → index_order b a ≡ Less
turned a b e = nat_list_cmp_total.antisymm (parted b) (parted a) ∙ ap ordering_reverse e

pub turned_back : (a b : List ℕ) → index_order a b ≡ Less → index_order b a ≡ Greater
turned_back a b e = nat_list_cmp_total.antisymm (parted b) (parted a) ∙ ap ordering_reverse e

pub less_more : (a b c : List ℕ) → index_order a b ≡ Less → index_order b c ≡ Less → index_order a c ≡ Less
less_more a b c e f = nat_list_cmp_total.trans (parted a) (parted b) (parted c) e f

-- no name stands at two places of an index
pub one_place : (names : List (List ℕ)) (order : List ℕ) (j k : ℕ) → IsIndex names order → j < length order → k < length order → key_at names order j ≡ key_at names order k → j ≡ k
one_place names order j k x hj hk e =
    elim (cases_lt j k) [
      | inl h ↦ absurd (not_less _ _ e (x.sorted j k h hk))
      | inr h ↦ elim (cases_lt k j) [
        | inl g ↦ absurd (not_less _ _ (sym e) (x.sorted k j g hj))
        | inr g ↦ omega arith
      ]
    ]

pub name_of_macro : (ms : List Macro) (i : ℕ) → name_at (names_of ms) i ≡ (macro_at ms i).name
name_of_macro ms i = get_or-map (λ m. m.name) ms i no_macro

pub count_names : (ms : List Macro) → length (names_of ms) ≡ length ms
count_names [] = refl
count_names (m ∷ ms) = ap suc (count_names ms)

pub position_is : {X : Type 0} (p : X → Bool) (xs : List X) (i : ℕ) (d : X) → i < length xs → ((k : ℕ) → k < i → p (get_or xs k d) ≡ false) → p (get_or xs i d) ≡ true → position p xs ≡ Some i
position_is p xs i d h before at =
    ap (λ (n : ℕ). cond (ltb n (length xs)) (Some n) None) (position_or_len_is p xs i d (omega arith) before (λ g. at)) ∙ cond-true _ (Some i) None (lt-ltb _ _ h)

pub position_none : {X : Type 0} (p : X → Bool) (xs : List X) (d : X) → ((k : ℕ) → k < length xs → p (get_or xs k d) ≡ false) → position p xs ≡ None
position_none p xs d none =
    ap (λ (n : ℕ). cond (ltb n (length xs)) (Some n) None) (position_or_len_is p xs (length xs) d (omega arith) none (λ g. absurd (omega arith))) ∙ cond-false _ (Some (length xs)) None (le-ltb _ _ (let h : length xs ≤ length xs = omega arith in h))

-- the place of a macro of which the name is known, where no other has it
pub place_is : (ms : List Macro) (name : List ℕ) (i : ℕ) → i < length ms → (macro_at ms i).name ≡ name → ((k : ℕ) → k < length ms → (macro_at ms k).name ≡ name → k ≡ i) → place_named ms name ≡ Some i
place_is ms name i h e one = grind (arith, position_is, cases_Bool, bytes_eq-Decides)

pub indexed_place : (ms : List Macro) (order name : List ℕ) (at : ℕ) → IsIndex (names_of ms) order → IsPlace (names_of ms) order name at → place_named ms name ≡ Some (get_or order at 0)
indexed_place ms order name at x p =
    place_is ms name (get_or order at 0)
    (omega (arith, x.inside at p.inside, count_names ms))
    (sym (name_of_macro ms (get_or order at 0)) ∙ p.same)
    (λ k h e.
    let w = x.whole k (omega (arith, count_names ms)) in
    let key : key_at (names_of ms) order w.0 ≡ key_at (names_of ms) order at = ap (name_at (names_of ms)) w.1.1 ∙ (name_of_macro ms k ∙ (e ∙ sym p.same)) in
    sym w.1.1 ∙ ap (λ (j : ℕ). get_or order j 0) (one_place (names_of ms) order w.0 at x w.1.0 p.inside key))

pub indexed_gap : (ms : List Macro) (order name : List ℕ) (gap : ℕ) → IsIndex (names_of ms) order → IsGap (names_of ms) order name gap → place_named ms name ≡ None
indexed_gap ms order name gap x g =
    position_none (λ m. bytes_eq m.name name) ms no_macro
    (λ k h.
    let w = x.whole k (omega (arith, count_names ms)) in
    let key : key_at (names_of ms) order w.0 ≡ (macro_at ms k).name = ap (name_at (names_of ms)) w.1.1 ∙ name_of_macro ms k in
    ap (λ (n : List ℕ). bytes_eq n name) (sym key)
    ∙ elim (cases_lt w.0 gap) [
      | inl b ↦ differ _ name Less (g.below w.0 b) refl
      | inr b ↦ differ _ name Greater (g.above w.0 b w.1.0) refl
    ])

-- A search by halving: what holds at each step.

-- where a search stands that began at so many steps: the name isn't before `low`, nor from `high` on, what is between them stands
-- in its bucket, and the steps that are left halve what is between them
pub record IsSeeking (names : List (List ℕ)) (order name : List ℕ) (low high first now : ℕ) : Type 0 where
  pub ordered : low ≤ high
  pub fits : high ≤ length order
  pub below : (k : ℕ) → k < low → index_order (key_at names order k) name ≡ Less
  pub above : (k : ℕ) → high ≤ k → k < length order → index_order (key_at names order k) name ≡ Greater
  pub alike : (k : ℕ) → low ≤ k → k < high → bucket_of (key_at names order k) ≡ bucket_of name
  pub budget : high - low < 2 ^ (first + 17 - now)
  pub counted : IsCounted first now

-- half of what is left is found with one step less
halved : (n m k : ℕ) → 0 < n → n < 2 ^ k → m + m ≤ n → (0 < k) × (m < 2 ^ (k - 1))
halved n m zero h b d = absurd (omega arith)
halved n m (suc j) h b d = grind (arith, pow-suc)

-- one step more, where at most half is left
stepped : (first now next n m : ℕ) → IsCounted first now → 0 < n → n < 2 ^ (first + 17 - now) → m + m ≤ n → next ≡ now + 1 → (m < 2 ^ (first + 17 - next)) × IsCounted first next
stepped first now next n m c h b d e =
    let r = halved n m (first + 17 - now) h b d in
    let k : first + 17 - now - 1 ≡ first + 17 - next = omega arith in
    let P : ℕ → Type 0 = λ i. m < 2 ^ i in
    (subst P k r.1, record { more = omega (arith, c.more); few = omega (arith, c.few, r.0) })

-- a bucket begins where the one before it ends
bounds_ordered : (names : List (List ℕ)) (order bucket_starts : List ℕ) (p : ℕ) → IsDivided names order bucket_starts → p < 1024 → get_or bucket_starts p 0 ≤ get_or bucket_starts (p + 1) 0
bounds_ordered names order bucket_starts p d h =
    elim (cases_lt (get_or bucket_starts (p + 1) 0) (get_or bucket_starts p 0)) [
      | inl l ↦
          let k : ℕ = get_or bucket_starts (p + 1) 0 in
          let fits : get_or bucket_starts p 0 ≤ length order = d.inside p (omega arith) in
          let low : bucket_of (key_at names order k) < p = d.below p k (omega arith) l in
          let high : p + 1 ≤ bucket_of (key_at names order k) = d.above (p + 1) k (omega arith) (omega arith) (omega arith) in
          absurd (omega arith)
      | inr l ↦ l
    ]

-- a name that isn't in a bucket stands before it or after it
pub start_seeking : (names : List (List ℕ)) (order bucket_starts name : List ℕ) (bucket first low high : ℕ) → IsDivided names order bucket_starts → bucket ≡ bucket_of name → bucket < 1024 → low ≡ get_or bucket_starts bucket 0 → high ≡ get_or bucket_starts (bucket + 1) 0 → length order ≤ 65536 → IsSeeking names order name low high first first
start_seeking names order bucket_starts name bucket first low high d p small e f h =
    let k : 17 ≡ first + 17 - first = omega arith in
    let fits : high ≤ length order = omega (arith, d.inside (bucket + 1) (omega arith)) in
    let P : ℕ → Type 0 = λ i. high - low < 2 ^ i in
    record {
      ordered = omega (arith, bounds_ordered names order bucket_starts bucket d small);
      fits = fits;
      below = λ k g.
          let before : bucket_of (key_at names order k) < bucket = d.below bucket k (omega arith) (omega arith) in
          bucket_less _ name (omega arith);
      above = λ k g l.
          let following : bucket + 1 ≤ bucket_of (key_at names order k) = d.above (bucket + 1) k (omega arith) (omega arith) l in
          bucket_more _ name (omega arith);
      alike = λ k g l.
          let from : bucket ≤ bucket_of (key_at names order k) = d.above bucket k (omega arith) (omega arith) (omega arith) in
          let to : bucket_of (key_at names order k) < bucket + 1 = d.below (bucket + 1) k (omega arith) (omega arith) in
          omega arith;
      budget = subst P k (let b : high - low < 131072 = omega arith in b);
      counted = record { more = omega arith; few = omega arith };
    }

pub seek_up : (names : List (List ℕ)) (order name : List ℕ) (low high first now middle next : ℕ) → IsIndex names order → IsSeeking names order name low high first now → low < high → IsMiddle low high middle → name_order (key_at names order middle) name ≡ Less → next ≡ now + 1 → IsSeeking names order name (middle + 1) high first next
seek_up names order name low high first now middle next x s h m below e =
    let less : index_order (key_at names order middle) name ≡ Less = bucket_same _ name (s.alike middle m.from m.to) ∙ below in
    let inside : middle < high = m.to in
    let r = stepped first now next (high - low) (high - (middle + 1)) s.counted (omega arith) s.budget (omega (arith, m.following)) e in
    grind (arith, cases_lt, less_more, above)

pub seek_down : (names : List (List ℕ)) (order name : List ℕ) (low high first now middle next : ℕ) → IsIndex names order → IsSeeking names order name low high first now → low < high → IsMiddle low high middle → name_order (key_at names order middle) name ≡ Greater → next ≡ now + 1 → IsSeeking names order name low middle first next
seek_down names order name low high first now middle next x s h m above e =
    let greater : index_order (key_at names order middle) name ≡ Greater = bucket_same _ name (s.alike middle m.from m.to) ∙ above in
    let inside : middle < high = m.to in
    let r = stepped first now next (high - low) (middle - low) s.counted (omega arith) s.budget (omega (arith, m.before)) e in
    grind (arith, below, cases_lt, turned_back, less_more, turned)

pub seek_found : (names : List (List ℕ)) (order name : List ℕ) (low high first now middle : ℕ) → IsSeeking names order name low high first now → low < high → IsMiddle low high middle → name_order (key_at names order middle) name ≡ Equal → IsPlace names order name middle
seek_found names order name low high first now middle s h m e =
    record { inside = omega (arith, s.fits, m.to); same = same_name _ name e }

-- In a table with distinct names, and in a macro with distinct formals, place and name are one.

all_at : {X : Type 0} (P : List ℕ → Type 0) (f : X → List ℕ) (xs : List X) (k : ℕ) (d : X) → AllByRecursion P (map f xs) → k < length xs → P (f (get_or xs k d))
all_at P f [] k d h l = absurd (omega arith)
all_at P f (x ∷ xs) zero d h l = h.0
all_at P f (x ∷ xs) (suc k) d h l = all_at P f xs k d h.1 (omega arith)

apart : {X : Type 0} (f : X → List ℕ) (xs : List X) (i j : ℕ) (d : X) → IsDistinct bytes_eq (map f xs) → i < j → j < length xs → bytes_eq (f (get_or xs i d)) (f (get_or xs j d)) ≡ false
apart f [] i j d h l m = absurd (omega arith)
apart f (x ∷ xs) i zero d h l m = absurd (omega arith)
apart f (x ∷ xs) zero (suc j) d h l m = all_at (λ y. bytes_eq (f x) y ≡ false) f xs j d (IsDistinct-head bytes_eq (f x) (map f xs) h) (omega arith)
apart f (x ∷ xs) (suc i) (suc j) d h l m = apart f xs i j d (IsDistinct-tail bytes_eq (f x) (map f xs) h) (omega arith) (omega arith)

-- among distinct names, the one at the place of a name is that name, and no other is
pub name_of_place : {X : Type 0} (f : X → List ℕ) (xs : List X) (d : X) (name : List ℕ) (i j : ℕ) → IsDistinct bytes_eq (map f xs) → position (λ x. bytes_eq (f x) name) xs ≡ Some i → j < length xs → bytes_eq name (f (get_or xs j d)) ≡ (i == j)
name_of_place f xs d name i j h e l =
    let p = position-Some (λ x. bytes_eq (f x) name) xs i d e in
    let same : f (get_or xs i d) ≡ name = (bytes_eq-Decides (f (get_or xs i d)) name).0 p.1 in
    grind (arith, bytes_eq-Decides, cases_lt, apart, eq-eqb)

-- the macro at a place has the name by which that place was found, and no other has
pub place_of_name : (ms : List Macro) (name : List ℕ) (id j : ℕ) → IsDistinct bytes_eq (map (λ m. m.name) ms) → place_named ms name ≡ Some id → j < length ms → bytes_eq name (macro_at ms j).name ≡ (id == j)
place_of_name ms name id j h e l = name_of_place (λ m. m.name) ms no_macro name id j h e l

-- the macro at a place is the one that is found by its name
pub place_of_own : (ms : List Macro) (name : List ℕ) (i : ℕ) → IsDistinct bytes_eq (map (λ m. m.name) ms) → i < length ms → (macro_at ms i).name ≡ name → place_named ms name ≡ Some i
place_of_own ms name i d h e =
    position_is (λ m. bytes_eq m.name name) ms i no_macro h
    (λ k g. ap (bytes_eq (macro_at ms k).name) (sym e) ∙ apart (λ m. m.name) ms k i no_macro d g h)
    ((bytes_eq-Decides _ _).1 e)

-- the same, where the name at that place was compared with the one that is looked for
pub place_compared : (ms : List Macro) (own name : List ℕ) (i : ℕ) → IsDistinct bytes_eq (map (λ m. m.name) ms) → i < length ms → own ≡ (macro_at ms i).name → bytes_eq own name ≡ true → Some i ≡ place_named ms name
place_compared ms own name i d h e t = sym (place_of_own ms name i d h (sym e ∙ (bytes_eq-Decides own name).0 t))

-- Lists of which what is after a place comes a place to the front.

-- the element that comes to a place is the one so many places after it
pub drawn : {A : Type 0} (f : A → A) (old now : List A) (by k : ℕ) (d e : A) → k + by < length old → now ≡ map f (take k (drop by old)) ++ drop k old → get_or (set now k (get_or now (k + by) d)) k e ≡ get_or (drop by old) k d
drawn f old now by k d e h p =
    grind (arith, common_steps, length-drop, length-map, length-take-le, drop_more, set_at, get_or_at, get_or-append-add, get_or-drop)

-- one more place: the element after it comes there, and is changed
pub drawn_more : {A : Type 0} (f : A → A) (old now : List A) (by k : ℕ) (z d e : A) → k + by < length old → now ≡ map f (take k (drop by old)) ++ drop k old → z ≡ f (get_or (set now k (get_or now (k + by) d)) k e) → set (set now k (get_or now (k + by) d)) k z ≡ map f (take (k + 1) (drop by old)) ++ drop (k + 1) old
drawn_more f old now by k z d e h p q =
    let rest : List _ = drop by old in
    let many : k < length rest = omega (arith, length-drop by old) in
    let front : List _ = map f (take k rest) in
    let long : length front ≡ k = length-map (take k rest) f ∙ length-take-le k rest (omega arith) in
    let following : List _ = drop (k + 1) old in
    let x : _ = get_or now (k + by) d in
    let split : now ≡ front ++ get_or old k d ∷ following = p ∙ ap (λ (l : List _). front ++ l) (drop_more old k d (omega arith)) in
    let once : set now k x ≡ front ++ x ∷ following = ap (λ (l : List _). set l k x) split ∙ set_at front (get_or old k d) following x k long in
    let twice : set (set now k x) k z ≡ front ++ z ∷ following = ap (λ (l : List _). set l k z) once ∙ set_at front x following z k long in
    let changed : z ≡ f (get_or rest k d) = q ∙ ap f (drawn f old now by k d e h p) in
    twice
    ∙ (ap (λ (y : _). front ++ y ∷ following) changed
    ∙ (sym (append_assoc front (f (get_or rest k d) ∷ []) following)
    ∙ ap (λ (l : List _). l ++ following) (sym (map_more f rest k d many))))

-- the element that comes to a place is the one before it
pub raised : {A : Type 0} (f : A → A) (old now : List A) (j k n : ℕ) (d e : A) → k ≡ j + 1 → k ≤ n → n < length old → now ≡ take (k + 1) old ++ map f (drop k (take n old)) → get_or (set now k (get_or now j d)) k e ≡ get_or (take n old) j d
raised f old now j k n d e s h g p =
    grind (arith, common_steps, length-take-le, take_more, append_assoc, set_at, get_or_at, get_or_append_left, get_or-take)

-- one more place: the element before it comes there, and is changed
pub raised_more : {A : Type 0} (f : A → A) (old now : List A) (j k n : ℕ) (z d e : A) → k ≡ j + 1 → k ≤ n → n < length old → now ≡ take (k + 1) old ++ map f (drop k (take n old)) → z ≡ f (get_or (set now k (get_or now j d)) k e) → set (set now k (get_or now j d)) k z ≡ take (j + 1) old ++ map f (drop j (take n old))
raised_more f old now j k n z d e s h g p q =
    let following : List _ = map f (drop k (take n old)) in
    let split : now ≡ take k old ++ get_or old k d ∷ following =
    p ∙ (ap (λ (l : List _). l ++ following) (take_more old k d (omega arith)) ∙ append_assoc (take k old) (get_or old k d ∷ []) following) in
    grind (arith, length-take-le, take_more, append_assoc, set_at, raised, drop_more)

-- what is after a place, once the element there was taken out
pub after_removed : {A : Type 0} (xs : List A) (place : ℕ) → place < length xs → drop place (remove xs place) ≡ drop 1 (drop place xs)
after_removed xs place h =
    drop_at (take place xs) (drop (suc place) xs) place (length-take-le place xs (omega arith))
    ∙ (ap (λ (k : ℕ). drop k xs) (let s : suc place ≡ place + 1 = omega arith in s) ∙ sym (drop-drop 1 place xs))

-- what is before a place, once the element there was taken out
pub before_removed : {A : Type 0} (xs : List A) (place : ℕ) → place < length xs → take place (remove xs place) ≡ take place xs
before_removed xs place h = take_at (take place xs) (drop (suc place) xs) place (length-take-le place xs (omega arith))

-- what is after a place, as a bucket of a slice
pub tail_of : {A : Type 0} (xs am : List A) (place : ℕ) → am ≡ xs → take (length am - place) (drop place am) ≡ drop place xs
tail_of xs am place e = take_all (length am - place) (drop place am) (omega (arith, length-drop place am)) ∙ ap (drop place) e

regrouped : {A : Type 0} (front moved last post junk : List A) → (front ++ ((moved ++ last) ++ post)) ++ junk ≡ (front ++ moved) ++ (last ++ (post ++ junk))
regrouped front moved last post junk = simp append_assoc

-- the list without its last place, once what is after a place came to the front
pub closed_list : {A : Type 0} (f : A → A) (xs am given left post junk : List A) (place len n : ℕ) → place < length xs → len ≡ length xs → n ≡ len → am ≡ xs → given ≡ map f (drop 1 (take (length am - place) (drop place am))) ++ drop (length (take (length am - place) (drop place am)) - 1) (take (length am - place) (drop place am)) → left ≡ take (n - 1) (take len ((take place am ++ (given ++ post)) ++ junk)) → left ≡ take place (remove xs place) ++ map f (drop place (remove xs place))
closed_list f xs am given left post junk place len n h e m a g l =
    grind (arith, common_steps, tail_of, length-take-le, length-append, length-map, length-drop, take-take, regrouped, before_removed, after_removed)

regrouped_front : {A : Type 0} (front first moved back : List A) → front ++ ((first ++ moved) ++ back) ≡ (front ++ first) ++ (moved ++ back)
regrouped_front front first moved back = simp append_assoc

-- what is before a place after so many others
pub raised_low : {A : Type 0} (xs am : List A) (front place k : ℕ) → k ≡ place + 1 → front + place < length xs → am ≡ xs → take (length (take k (drop front am)) - 1) (take k (drop front am)) ≡ take place (remove (drop front xs) place)
raised_low xs am front place k s h a = grind (arith, length-drop, length-take-le, take-take, before_removed)

-- the list after so many places, and one more, once what is before a place after them came a place to the back
pub raised_list : {A : Type 0} (f : A → A) (xs am given junk left : List A) (front place k len : ℕ) → k ≡ place + 1 → front + place < length xs → len ≡ length xs → am ≡ xs → given ≡ take 1 (take k (drop front am)) ++ map f (take (length (take k (drop front am)) - 1) (take k (drop front am))) → left ≡ take len ((take front am ++ (given ++ drop k (drop front am))) ++ junk) → drop (front + 1) left ≡ map f (take place (remove (drop front xs) place)) ++ drop place (remove (drop front xs) place)
raised_list f xs am given junk left front place k len s h e a g l =
    grind (arith, common_steps, length-drop, length-take-le, take-take, regrouped_front, length-append, length-map, before_removed, after_removed, drop-drop)

-- what is after a place that is counted from the front, once the element there was taken out
pub live_after : {A : Type 0} (items : List A) (front place : ℕ) → front + place < length items → drop (front + place) (remove items (front + place)) ≡ drop place (remove (drop front items) place)
live_after items front place h = grind (arith, after_removed, drop-drop, length-drop)

-- the same, of the whole list
pub live_taken : {A : Type 0} (f : A → A) (items left : List A) (front place : ℕ) → front + place < length items → left ≡ take (front + place) (remove items (front + place)) ++ map f (drop (front + place) (remove items (front + place))) → drop front left ≡ take place (remove (drop front items) place) ++ map f (drop place (remove (drop front items) place))
live_taken f items left front place h e = grind (arith, length-take-le, before_removed, drop-append-le, drop-take, length-drop, live_after)

-- the list of what is after so many places, once all of that came to the front
pub settled_list : {A : Type 0} (f : A → A) (xs am given junk left : List A) (front len n : ℕ) → front ≤ length xs → len ≡ length xs → n ≡ len → am ≡ xs → given ≡ map f (drop front am) ++ drop (length am - front) am → left ≡ take (n - front) (take len (given ++ junk)) → left ≡ map f (drop front xs)
settled_list f xs am given junk left front len n h e m a g l = grind (arith, common_steps, length-map, length-drop, take-take, append_assoc)
