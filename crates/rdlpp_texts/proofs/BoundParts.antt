-- The parts of a call that are bound to ranges of its text are its actuals.
use Rattle.std.proofs.Common.{◌≡◌, ◌≤◌, ◌<◌, ◌⊎◌, inl, inr, ℕ, ◌+◌, ◌-◌, Bool, true, false, List, [], ◌∷◌, ◌++◌, map, length, take, drop, min, refl, sym, ap, ◌∙◌, subst, arith, append_assoc, suc, not, ◌&&◌, zero, cond, filter, All, Some, None, ⊎_elim, Err, Ok, nat_lt, slice_range, ◌==◌, replicate, eqb-true, ltb-true, append-nil, drop-drop, length-drop, length-take, take-take}
use Rattle.std.specs.List.{AllByRecursion, prefix_len}
use Rattle.std.proofs.Math.Seq.{drop-append_seam}
use Rattle.std.proofs.lemmas.Bool.{false≢true}
use Rattle.std.proofs.lemmas.Bool.Decides.{nat_tests}
use Rattle.std.proofs.lemmas.List.{drop-take, length-map, length-replicate, map-append}
use Rattle.std.proofs.lemmas.List.Elements.{All-cons, All-drop, All-head, All-nil, All-tail, filter_passes}
use Rattle.std.proofs.lemmas.Slice.{between_to_end}
use Rattle.rdlpp_scan.specs.SourceTokens.{SourceToken}
use Rattle.rdlpp_define.specs.Macros.{Formal, Macro}
use Rattle.rdlpp_meaning.specs.Actuals.{Bound as CallBound, Call, Cut, CallFault, Role, actual_of, after_leading_space, is_space, level_after, not_kept, text_reads, token_role, trimmed}
use Rattle.rdlpp_meaning.specs.CallScan.{Closed, Split, all_parts, call_of, call_of_scan, is_kept, split, split_by}
use Rattle.rdlpp_meaning.specs.Expansion.{Opens, UsageFault, bound_parts, bytes_of, is_count, usage_of_call, usage_of_formals}
use Rattle.rdlpp_meaning.specs.Opens.{part_tokens}
use Rattle.rdlpp_meaning.specs.State.{Rules}
use Rattle.rdlpp_meaning.specs.Substitution.{body_tokens}
use Rattle.rdlpp_meaning.specs.declared.fault.FaultKind.TheVariants.{ArgumentCount, ArgumentsMissing, ArgumentsOpen}
use Rattle.rdlpp_meaning.proofs.OpenScopes.{range_after}
use Rattle.rdlpp_meaning.proofs.KeptTexts.{body_text}
use Rattle.rdlpp_meaning.proofs.SourceCalls.{actuals-body}
use Rattle.rdlpp_texts.specs.BoundCalls.{AreWithin, IsBound, IsBoundAt, IsBoundCall, IsBoundTo, IsMiscounted, IsOpen, KeepsAll, actuals_of, added, range_part, ranges_tokens, usage_in}
use Rattle.rdlpp_texts.specs.CallParts.{Follows, IsNextPart, actuals_in, ends_text, inner_size, inner_tokens, opener_from, parts_in}
use Rattle.rdlpp_texts.specs.declared.bindings.Bound.{Bound}
use Rattle.rdlpp_texts.specs.declared.bindings.Bound.TheVariants.{Miscounted, Open}
use Rattle.rdlpp_texts.specs.declared.bindings.Range.{Range}
use Rattle.rdlpp_texts.specs.declared.parts.Part.{Part}
use Rattle.rdlpp_texts.specs.declared.parts.PartEnd.{PartEnd}
use Rattle.rdlpp_texts.specs.declared.parts.PartEnd.TheVariants.{Comma, Last}
use Rattle.rdlpp_texts.proofs.CallLaws.{IsClosedAt, call_at, filter_all, front_all, missing_call}
use Rattle.rdlpp_texts.proofs.PartLaws.{has_solid, solid, trimmed_is}

-- The parts of a call that are bound one after another are its actuals.

-- the ranges of the parts of a call that were read, so many and at most so many of them, and the actuals that are left
pub record HasBound (closes : Bool) (text : List ℕ) (from to count most : ℕ) (left : List (List SourceToken)) (old new : List Range) : Type 0 where
  pub whole : new ≡ old ++ added old new
  pub none : most ≡ 0 → new ≡ old
  pub within : AreWithin from to (added old new)
  pub many : length (actuals_in closes (drop from text)) ≡ count + length left
  pub tokens : count ≤ most → actuals_in closes (drop from text) ≡ ranges_tokens text (added old new) ++ left

-- nothing is added where nothing changed
pub added_none : (old new : List Range) → new ≡ old → added old new ≡ []
added_none old new e = ap (λ (rs : List Range). drop (length old) rs) (e ∙ sym (append-nil old)) ∙ drop-append_seam old []

-- none are bound at first
pub bound_first : (closes : Bool) (text : List ℕ) (from most : ℕ) (old : List Range) → HasBound closes text from from 0 most (actuals_in closes (drop from text)) old old
bound_first closes text from most old = grind (arith, added_none, append-nil)

-- ranges between two places, and one more
within_more : (from at to : ℕ) (ranges : List Range) (r : Range) → AreWithin from at ranges → at ≤ r.from → r.from ≤ r.to → r.to ≤ to → from ≤ at → AreWithin from to (ranges ++ r ∷ [])
within_more from at to [] r h a b c low = ((omega (arith, a, low), (b, c)), tt)
within_more from at to (x ∷ xs) r h a b c low = grind (arith, (within_more from at to xs r h.1 a b c low))

-- ranges lie between places that are further apart too
pub within_wider : (from to at end : ℕ) (ranges : List Range) → at ≤ from → to ≤ end → AreWithin from to ranges → AreWithin at end ranges
within_wider from to at end [] low high all = tt
within_wider from to at end (r ∷ rs) low high all = grind (arith, (within_wider from to at end rs low high all.1))

-- the tokens of ranges, and of one more
tokens_more : (text : List ℕ) (ranges : List Range) (r : Range) → ranges_tokens text (ranges ++ r ∷ []) ≡ ranges_tokens text ranges ++ part_tokens text (range_part r) ∷ []
tokens_more text ranges r = ap (map (part_tokens text)) (map-append range_part ranges (r ∷ [])) ∙ map-append (part_tokens text) (map range_part ranges) (range_part r ∷ [])

-- the tokens of a part from a place on, as those of a range of the whole text
range_is : (text : List ℕ) (at from to : ℕ) (r : Range) → r.from ≡ at + from → r.to ≡ at + to → part_tokens text (range_part r) ≡ body_tokens (slice_range (drop at text) from to)
unfolding part_tokens
range_is text at from to r begins ends = grind (arith, body_text, drop-drop)

-- a range is added to others, or there are as many as there may be
abbrev IsPut : ℕ → ℕ → List Range → List Range → Range → Type 0
IsPut count most new last r = ((count < most) × (last ≡ new ++ r ∷ [])) ⊎ ((most ≤ count) × (last ≡ new))

-- so many are added then
pub many-more : (start before count most now : ℕ) → before ≡ start + min count most → (count < most → now ≡ before + 1) → (most ≤ count → now ≡ before)
    → now ≡ start + min (count + 1) most
many-more start before count most now is longer same = grind (arith, nat_lt, nat_tests, ltb-true)

-- the range of a part is added, or there are as many as there may be
put-by : (count most : ℕ) (new last : List Range) (r : Range) → (count < most → last ≡ new ++ r ∷ []) → (most ≤ count → last ≡ new) → IsPut count most new last r
put-by count most new last r puts stays = grind (arith, nat_lt, nat_tests, ltb-true)

-- the actuals that are left after the first one
abbrev left_of : Bool → List ℕ → List (List SourceToken)
left_of closes text = map (trimmed token_role) (parts_in closes text).further

-- one more was read
bound_more : (closes : Bool) (text : List ℕ) (from at count most : ℕ) (old new last : List Range) (part : Part) (r : Range) → from ≤ at
    → HasBound closes text from at count most (actuals_in closes (drop at text)) old new → IsNextPart closes (drop at text) part
    → r.from ≡ at + part.from → r.to ≡ at + part.to → IsPut count most new last r
    → HasBound closes text from (at + part.to) (count + 1) most (left_of closes (drop at text)) old last
unfolding actuals_in all_parts
bound_more closes text from at count most old new last part r low b p begins ends (inl put) = grind (arith, append_assoc, drop-append_seam, range_is, within_more, tokens_more)
bound_more closes text from at count most old new last part r low b p begins ends (inr put) = grind (arith, within_wider)

-- those that are left are others, and what is read reaches further
bound_by : (closes : Bool) (text : List ℕ) (from at to count most : ℕ) (left more : List (List SourceToken)) (old new : List Range) → left ≡ more → at ≤ to
    → HasBound closes text from at count most left old new → HasBound closes text from to count most more old new
bound_by closes text from at to count most left more old new e high b = grind (arith, within_wider)

-- at a comma the call goes on
pub record GoesOnAt (closes : Bool) (text : List ℕ) (from at next count most : ℕ) (old new : List Range) : Type 0 where
  pub some : 0 < next
  pub inside : at + next ≤ length text
  pub size : at + inner_size closes (drop at text) ≡ at + next + inner_size closes (drop (at + next) text)
  pub bound : HasBound closes text from (at + next) count most (actuals_in closes (drop (at + next) text)) old new

bound_comma : (closes : Bool) (text : List ℕ) (from at to next count most : ℕ) (old new : List Range) (end : PartEnd) → at ≤ length text → end ≡ Comma next
    → Follows closes (drop at text) to end (parts_in closes (drop at text)).further
    → HasBound closes text from (at + to) count most (left_of closes (drop at text)) old new → GoesOnAt closes text from at next count most old new
unfolding Follows actuals_in
bound_comma closes text from at to next count most old new end low e f b =
    let further = (parts_in closes (drop at text)).further in
    let g = subst (λ (x : PartEnd). Follows closes (drop at text) to x further) e f in
    let place = g.after in
    let inside = g.inside in
    let left = length-drop at text in
    let rest = drop-drop next at text in
    let size = g.size ∙ ap (λ (x : List ℕ). next + inner_size closes x) rest in
    record {
      some = omega (arith, place);
      inside = omega (arith, inside, left, low);
      size = omega (arith, size);
      bound = bound_by closes text from (at + to) (at + next) count most (left_of closes (drop at text)) (actuals_in closes (drop (at + next) text)) old new
          (ap (map (trimmed token_role)) g.parts ∙ ap (actuals_in closes) rest) (omega (arith, place)) b;
    }

-- or it ends
pub record EndsAtPlace (closes : Bool) (text : List ℕ) (from at end count most : ℕ) (old new : List Range) : Type 0 where
  pub inside : at + end ≤ length text
  pub size : at + inner_size closes (drop at text) ≡ at + end
  pub bound : HasBound closes text from (at + end) count most [] old new

bound_last : (closes : Bool) (text : List ℕ) (from at to point count most : ℕ) (old new : List Range) (end : PartEnd) → at ≤ length text → end ≡ Last point
    → Follows closes (drop at text) to end (parts_in closes (drop at text)).further
    → HasBound closes text from (at + to) count most (left_of closes (drop at text)) old new → EndsAtPlace closes text from at point count most old new
unfolding Follows
bound_last closes text from at to point count most old new end low e f b =
    let further = (parts_in closes (drop at text)).further in
    let g = subst (λ (x : PartEnd). Follows closes (drop at text) to x further) e f in
    let place = g.after in
    let inside = g.inside in
    let left = length-drop at text in
    let size = g.size in
    record {
      inside = omega (arith, inside, left, low);
      size = omega (arith, size);
      bound = bound_by closes text from (at + to) (at + point) count most (left_of closes (drop at text)) [] old new (ap (map (trimmed token_role)) g.parts) (omega (arith, place)) b;
    }

-- a part was read that ends at a comma
pub read_comma : (closes : Bool) (text : List ℕ) (from at next count most : ℕ) (old new last : List Range) (part : Part) → from ≤ at → at ≤ length text
    → HasBound closes text from at count most (actuals_in closes (drop at text)) old new → IsNextPart closes (take (length text - at) (drop at text)) part
    → (count < most → last ≡ new ++ record { from = at + part.from; to = at + part.to } ∷ []) → (most ≤ count → last ≡ new) → part.end ≡ Comma next
    → GoesOnAt closes text from at next (count + 1) most old last
read_comma closes text from at next count most old new last part low inside b n puts stays is =
    let p = subst (λ (x : List ℕ). IsNextPart closes x part) (between_to_end text at (length text) (omega arith)) n in
    let r : Range = record { from = at + part.from; to = at + part.to } in
    bound_comma closes text from at part.to next (count + 1) most old last part.end inside is p.follows
    (bound_more closes text from at count most old new last part r low b p refl refl (put-by count most new last r puts stays))

-- or that is the last
pub read_last : (closes : Bool) (text : List ℕ) (from at point count most : ℕ) (old new last : List Range) (part : Part) → from ≤ at → at ≤ length text
    → HasBound closes text from at count most (actuals_in closes (drop at text)) old new → IsNextPart closes (take (length text - at) (drop at text)) part
    → (count < most → last ≡ new ++ record { from = at + part.from; to = at + part.to } ∷ []) → (most ≤ count → last ≡ new) → part.end ≡ Last point
    → EndsAtPlace closes text from at point (count + 1) most old last
read_last closes text from at point count most old new last part low inside b n puts stays is =
    let p = subst (λ (x : List ℕ). IsNextPart closes x part) (between_to_end text at (length text) (omega arith)) n in
    let r : Range = record { from = at + part.from; to = at + part.to } in
    bound_last closes text from at part.to point (count + 1) most old last part.end inside is p.follows
    (bound_more closes text from at count most old new last part r low b p refl refl (put-by count most new last r puts stays))

-- where no actuals are left, those that are bound are all
pub bound_all : (closes : Bool) (text : List ℕ) (from to count most : ℕ) (old new : List Range) → HasBound closes text from to count most [] old new → count ≤ most
    → actuals_in closes (drop from text) ≡ ranges_tokens text (added old new)
bound_all closes text from to count most old new b few = b.tokens few ∙ append-nil (ranges_tokens text (added old new))

-- as many actuals as formals are those of the ranges
actuals_by : (fs : List Formal) (xs ys : List (List SourceToken)) (formals further : ℕ) → length fs ≡ formals → true ≡ is_count fs xs → length xs ≡ further + 1
    → (formals ≡ 0 → ys ≡ []) → (further < formals → xs ≡ ys) → bound_parts fs xs ≡ ys
unfolding bound_parts is_count
actuals_by [] xs ys formals further is count many none some = sym (none (sym is))
actuals_by (f ∷ fs) xs ys formals further is count many none some = grind (arith, eqb-true)

-- what is bound, where the actuals are as many as the formals
pub bound_to : (closes : Bool) (text : List ℕ) (from formals further to : ℕ) (old new : List Range) → to ≡ from + inner_size closes (drop from text) → (closes ≡ true → to < length text)
    → AreWithin from to (added old new) → length (actuals_in closes (drop from text)) ≡ further + 1
    → (further < formals → actuals_in closes (drop from text) ≡ ranges_tokens text (added old new)) → (formals ≡ 0 → new ≡ old)
    → ((fs : List Formal) → length fs ≡ formals → true ≡ is_count fs (actuals_in closes (drop from text)))
    → IsBoundTo closes text from formals (added old new) to
bound_to closes text from formals further to old new end closed within many some none count = record {
  end = end;
  closed = closed;
  within = within;
  actuals = λ fs is. actuals_by fs (actuals_in closes (drop from text)) (ranges_tokens text (added old new)) formals further is (count fs is) many
      (λ e. ap (ranges_tokens text) (added_none old new (none e))) some;
  count = count;
}

-- Whether the parts of a call are so many as its formals, by how many follow the first and by whether that has items.

-- one or more aren't none
not_none : (n : ℕ) → (suc n == 0) ≡ false
not_none n = grind (arith, nat_tests)

-- a count by another number
same_count : (n m k l : ℕ) → n ≡ m + 1 → k ≡ l → 0 < l → (m == k - 1) ≡ (n == l)
same_count n m k l e f some = grind (arith, nat_tests)

-- the count of actuals of a list of no formals
none_count : (a : List SourceToken) (more : List (List SourceToken)) (further : ℕ) → length (a ∷ more) ≡ further + 1
    → ((further == 0) && not (nat_lt 0 (length a))) ≡ is_count [] (a ∷ more)
unfolding is_count
none_count a [] further e = grind (arith, nat_lt)
none_count a (b ∷ bs) further e = grind (arith, nat_lt, not_none)

-- where no formals are wanted
pub count_none : (closes : Bool) (text : List ℕ) (formals further : ℕ) (items : Bool) (fs : List Formal) → length fs ≡ formals → formals ≡ 0
    → length (actuals_in closes text) ≡ further + 1 → items ≡ nat_lt 0 (length (trimmed token_role (parts_in closes text).first))
    → ((further == 0) && not items) ≡ is_count fs (actuals_in closes text)
unfolding actuals_in all_parts
count_none closes text formals further items [] is none many e = grind (arith, none_count)
count_none closes text formals further items (f ∷ fs) is none many e = absurd (omega (arith, is, none))

-- where some are
pub count_some : (closes : Bool) (text : List ℕ) (formals further : ℕ) (fs : List Formal) → length fs ≡ formals → 0 < formals
    → length (actuals_in closes text) ≡ further + 1 → (further == formals - 1) ≡ is_count fs (actuals_in closes text)
unfolding is_count
count_some closes text formals further [] is some many = absurd (omega (arith, is, some))
count_some closes text formals further (f ∷ fs) is some many =
    same_count (length (actuals_in closes text)) further formals (length (f ∷ fs)) many (sym is) (omega (arith, is, some))

-- A call whose actuals are bound to ranges of its text is that of the definition.

-- tokens of which a filter drops none keep all
pub keeps_all_by : (ts : List SourceToken) → filter (λ t. is_kept (token_role t)) ts ≡ ts → KeepsAll ts
keeps_all_by ts e = grind (arith, filter_passes)

-- a thing in front of parts of which all keep something, which it keeps too
by_keeps : (P : SourceToken → Type 0) (r : Role) (k : ℕ) (x : SourceToken) (s : Split SourceToken) → P x → All P s.first → AllByRecursion (All P) s.further
    → All P (split_by r k x s).first × AllByRecursion (All P) (split_by r k x s).further
unfolding split_by
by_keeps P Cut zero x s h f g = (All-nil P, (f, g))
by_keeps P Cut (suc k) x s h f g = (All-cons P x s.first h f, g)
by_keeps P r k x s h f g = (All-cons P x s.first h f, g)

-- what holds of all things holds of those of each part
split_keeps : (P : SourceToken → Type 0) (k : ℕ) (xs : List SourceToken) → All P xs
    → All P (split token_role k xs).first × AllByRecursion (All P) (split token_role k xs).further
unfolding split
split_keeps P k [] all = (All-nil P, tt)
split_keeps P k (x ∷ xs) all =
    let rest = split_keeps P (level_after (token_role x) k) xs (All-tail P x xs all) in
    by_keeps P (token_role x) k x (split token_role (level_after (token_role x) k) xs) (All-head P x xs all) rest.0 rest.1

-- and of those that are left of trimming
trimmed_keeps : (P : SourceToken → Type 0) (xs : List SourceToken) → All P xs → All P (trimmed token_role xs)
unfolding after_leading_space
trimmed_keeps P xs all =
    let following = after_leading_space token_role xs in
    let left : All P following = All-drop P (prefix_len (λ x. is_space (token_role x)) xs) xs all in
    let h = has_solid token_role following in
    subst (λ (ys : List SourceToken). All P ys) (sym (trimmed_is token_role xs))
    (front_all P (solid token_role following) h.tail (subst (λ (ys : List SourceToken). All P ys) h.whole left))

-- so of each trimmed part
parts_keep : (P : SourceToken → Type 0) (parts : List (List SourceToken)) → AllByRecursion (All P) parts → AllByRecursion (All P) (map (trimmed token_role) parts)
parts_keep P [] all = tt
parts_keep P (x ∷ xs) all = (trimmed_keeps P x all.0, parts_keep P xs all.1)

-- and each actual of tokens that keep all
keeps_each_part : (ts : List SourceToken) → KeepsAll ts → AllByRecursion KeepsAll (map (trimmed token_role) (all_parts (split token_role 0 ts)))
unfolding all_parts
keeps_each_part ts all =
    let P : SourceToken → Type 0 = λ t. is_kept (token_role t) ≡ true in
    parts_keep P (all_parts (split token_role 0 ts)) (split_keeps P 0 ts all)

-- so the actuals of a text keep all, where it does
pub actuals_keep : (text : List ℕ) → KeepsAll (body_tokens text) → AllByRecursion KeepsAll (actuals_of text)
unfolding actuals_of
actuals_keep text all = keeps_each_part (body_tokens text) all

-- what is kept of a call has no `)` of it
kept_inner : (ts : List SourceToken) (level : ℕ) → inner_tokens false level ts ≡ ts
unfolding inner_tokens ends_text
kept_inner [] level = refl
kept_inner (t ∷ ts) level = ap (λ (us : List SourceToken). t ∷ us) (kept_inner ts (level_after (token_role t) level))

pub kept_actuals : (text : List ℕ) → actuals_in false text ≡ actuals_of text
unfolding actuals_in actuals_of
kept_actuals text = ap (λ (ts : List SourceToken). map (trimmed token_role) (all_parts (split token_role 0 ts))) (kept_inner (body_tokens text) 0)

-- tokens of ranges that keep all are those of ranges that do
pub ranges_keep : (text : List ℕ) (ranges : List Range) → AllByRecursion KeepsAll (ranges_tokens text ranges) → AllByRecursion (λ r. KeepsAll (part_tokens text (range_part r))) ranges
ranges_keep text [] all = tt
ranges_keep text (r ∷ rs) all = (all.0, ranges_keep text rs all.1)

-- what holds of each part holds of each actual
pub all_bound : (P : List SourceToken → Type 0) (fs : List Formal) (parts : List (List SourceToken)) → AllByRecursion P parts → AllByRecursion P (bound_parts fs parts)
unfolding bound_parts
all_bound P [] parts h = tt
all_bound P (f ∷ fs) parts h = h

-- where as many actuals as formals are bound, they are as many
pub count_exact : (fs : List Formal) (parts : List (List SourceToken)) → true ≡ is_count fs parts → length (bound_parts fs parts) ≡ length fs
unfolding is_count bound_parts
count_exact [] actuals e = refl
count_exact (f ∷ fs) actuals e = eqb-true (length actuals) (length (f ∷ fs)) (sym e)

-- a usage by what its call comes to
usage_by_call : (rules : Rules) (line : ℕ) (name : List ℕ) (m : Macro) (fs : List Formal) (text : List ℕ) (at end : ℕ) (call : Call SourceToken)
    → ((room : ℕ) → call_of token_role not_kept room (body_tokens (slice_range text at end)) ≡ call)
    → usage_in rules line name m fs text at end ≡ usage_of_call text_reads m fs line name call
unfolding usage_of_formals
usage_by_call rules line name m fs text at end call e = ap (usage_of_call text_reads m fs line name) (e rules.argument_bytes)

-- a usage of a call that is closed, by whether it has as many parts as formals
usage_closed : (rules : Rules) (line : ℕ) (name : List ℕ) (m : Macro) (fs : List Formal) (text : List ℕ) (at end len : ℕ) (c : IsClosedAt (slice_range text at end) len) (right : Bool)
    → KeepsAll (body_tokens (slice_range text at end)) → right ≡ is_count fs (actuals_in true (drop len (slice_range text at end)))
    → usage_in rules line name m fs text at end
    ≡ cond right (Opens m (bound_parts fs (actuals_in true (drop len (slice_range text at end)))) c.used) (UsageFault ArgumentCount name line)
unfolding usage_of_call actuals_in all_parts call_of_scan
usage_closed rules line name m fs text at end len c right all e =
    let W = slice_range text at end in
    let inner = inner_tokens true 0 (body_tokens (drop len W)) in
    let s = split token_role 0 inner in
    let xs = actuals_in true (drop len W) in
    usage_by_call rules line name m fs text at end (CallBound s.first s.further c.used)
    (λ room. c.call room ∙ ap (λ (ts : List SourceToken). call_of_scan token_role 0 (Closed ts c.used)) (c.keeps (filter_all (λ t. is_kept (token_role t)) (body_tokens W) all)))
    ∙ ap (λ (parts : List (List SourceToken)). cond (is_count fs parts) (Opens m (bound_parts fs parts) c.used) (UsageFault ArgumentCount name line))
    (subst (λ (ts : List SourceToken). map (actual_of text_reads) (all_parts (split token_role 0 ts)) ≡ map (trimmed token_role) (all_parts (split token_role 0 ts))) c.own
    (actuals-body (bytes_of inner)))
    ∙ ap (λ (b : Bool). cond b (Opens m (bound_parts fs xs) c.used) (UsageFault ArgumentCount name line)) (sym e)

-- a range of the front of a text
front_range : (text : List ℕ) (end i j : ℕ) → i ≤ j → j ≤ end → slice_range (take end text) i j ≡ slice_range text i j
front_range text end i j low high =
    let whole : end ≡ i + (end - i) = omega (arith, low, high) in
    grind (arith, drop-take, take-take)

-- ranges of the front of a text have its tokens
front_tokens : (text : List ℕ) (end from to : ℕ) (ranges : List Range) → to ≤ end → AreWithin from to ranges → ranges_tokens (take end text) ranges ≡ ranges_tokens text ranges
unfolding part_tokens
front_tokens text end from to [] high all = refl
front_tokens text end from to (r ∷ rs) high all = grind (arith, front_range, body_text, (front_tokens text end from to rs high all.1))

-- where a call in a part of a text opens
pub record IsOpenedAt (text : List ℕ) (at end len : ℕ) : Type 0 where
  pub low : at ≤ end
  pub high : end ≤ length text
  pub opens : opener_from 0 (body_tokens (slice_range text at end)) ≡ Some len
  pub inside : len ≤ length (slice_range text at end)

-- the text after its `(`, in the front of the text and in the part
record IsAfter (text : List ℕ) (at end len : ℕ) : Type 0 where
  fits : at + len ≤ end
  rest : drop (at + len) (take end text) ≡ drop len (slice_range text at end)
  size : length (drop len (slice_range text at end)) ≡ end - (at + len)
  front : length (take end text) ≡ end

after_opener : (text : List ℕ) (at end len : ℕ) → IsOpenedAt text at end len → IsAfter text at end len
after_opener text at end len o =
    let part = length-take (end - at) (drop at text) in
    let left = length-drop at text in
    let high = o.high in
    let fits : at + len ≤ end = let i = o.inside in let l = o.low in omega (arith, i, part, left, high, l) in
    let whole : end ≡ (at + len) + (end - (at + len)) = omega (arith, fits) in
    let following = length-drop len (slice_range text at end) in
    let front = length-take end text in
    grind (arith, drop-take, range_after)

-- a call without a `(`
pub missing : (text : List ℕ) (at end formals : ℕ) (ranges : List Range) → opener_from 0 (body_tokens (slice_range text at end)) ≡ None
    → IsBoundCall text at end formals ranges (Err ArgumentsMissing)
unfolding IsBoundCall usage_of_call
missing text at end formals ranges e = λ rules line name m fs is.
    usage_by_call rules line name m fs text at end (CallFault ArgumentsMissing) (missing_call (slice_range text at end) e)

-- a call without a `)`
pub unclosed : (text : List ℕ) (at end formals len : ℕ) (old new ranges : List Range) → IsOpenedAt text at end len → IsOpen true (take end text) (at + len) old new
    → IsBoundCall text at end formals ranges (Err ArgumentsOpen)
unfolding IsBoundCall usage_of_call
unclosed text at end formals len old new ranges o b = λ rules line name m fs is.
    let h = after_opener text at end len o in
    let full = b.end ∙ h.front in
    let same = ap (inner_size true) h.rest in
    ⊎_elim (λ u. usage_by_call rules line name m fs text at end (CallFault ArgumentsOpen) u.call)
    (λ c. absurd (let less = c.size in let size = h.size in let fits = h.fits in omega (arith, less, size, full, same, fits))) (call_at (slice_range text at end) len o.opens)

-- a call with more or fewer parts
pub miscounted : (text : List ℕ) (at end formals len : ℕ) (old new ranges : List Range) → IsOpenedAt text at end len → IsMiscounted true (take end text) (at + len) formals old new
    → KeepsAll (body_tokens (slice_range text at end)) → IsBoundCall text at end formals ranges (Err ArgumentCount)
unfolding IsBoundCall
miscounted text at end formals len old new ranges o b all = λ rules line name m fs is.
    let h = after_opener text at end len o in
    let less = b.closed refl in
    let same = ap (inner_size true) h.rest in
    let front = h.front in
    ⊎_elim (λ u. absurd (let full = u.size in let size = h.size in omega (arith, less, size, full, same, front)))
    (λ c. usage_closed rules line name m fs text at end len c false all (b.count fs is ∙ ap (λ (x : List ℕ). is_count fs (actuals_in true x)) h.rest))
    (call_at (slice_range text at end) len o.opens)

-- a call with as many parts
pub bound : (text : List ℕ) (at end formals len to : ℕ) (ranges : List Range) → IsOpenedAt text at end len → IsBoundTo true (take end text) (at + len) formals ranges to
    → KeepsAll (body_tokens (slice_range text at end)) → IsBoundCall text at end formals ranges (Ok (to + 1))
unfolding IsBoundCall actuals_in
bound text at end formals len to ranges o b all =
    ⊎_elim (λ u. absurd (let full = u.size in let size = h.size in let place = b.end in omega (arith, less, size, full, same, place))) closed (call_at W len o.opens)
  where
    W : List ℕ
    W = slice_range text at end

    h : IsAfter text at end len
    h = after_opener text at end len o

    less : to < end
    less = let i = b.closed refl in let front = h.front in omega (arith, i, front)

    same : inner_size true (drop (at + len) (take end text)) ≡ inner_size true (drop len W)
    same = ap (inner_size true) h.rest

    actuals : (fs : List Formal) → length fs ≡ formals → bound_parts fs (actuals_in true (drop len W)) ≡ ranges_tokens text ranges
    actuals fs is = ap (λ (x : List ℕ). bound_parts fs (actuals_in true x)) (sym h.rest) ∙ b.actuals fs is ∙ front_tokens text end (at + len) to ranges (omega (arith, less)) b.within

    count : (fs : List Formal) → length fs ≡ formals → true ≡ is_count fs (actuals_in true (drop len W))
    count fs is = b.count fs is ∙ ap (λ (x : List ℕ). is_count fs (actuals_in true x)) h.rest

    closed : IsClosedAt W len → IsBoundAt text at end formals ranges (to + 1)
    closed c =
        let P : SourceToken → Type 0 = λ t. is_kept (token_role t) ≡ true in
        let place = b.end in
        let after : at + (len + inner_size true (drop len W) + 1) ≡ to + 1 = omega (arith, place, same) in
        let later : drop c.used (body_tokens W) ≡ body_tokens (slice_range text (to + 1) end) =
        c.following
        ∙ ap body_tokens (range_after text at end (len + inner_size true (drop len W) + 1) (omega (arith, less, after)))
        ∙ ap (λ (n : ℕ). body_tokens (slice_range text n end)) after in
        let fs = replicate formals (record { name = []; text = [] }) in
        let long = length-replicate formals (record { name = []; text = [] }) in
        let many = count_exact fs (actuals_in true (drop len W)) (count fs long) in
        let ranged : length (bound_parts fs (actuals_in true (drop len W))) ≡ length ranges =
        ap length (actuals fs long) ∙ length-map (map range_part ranges) (part_tokens text) ∙ length-map ranges range_part in
        let kept = keeps_all_by (inner_tokens true 0 (body_tokens (drop len W))) (c.keeps (filter_all (λ t. is_kept (token_role t)) (body_tokens W) all)) in
        record {
          used = c.used;
          opens = λ rules line name m fs n.
              usage_closed rules line name m fs text at end len c true all (count fs n)
              ∙ ap (λ (xs : List (List SourceToken)). Opens m xs c.used) (actuals fs n);
          after_is = later;
          keeps = ranges_keep text ranges (subst (λ (xs : List (List SourceToken)). AllByRecursion KeepsAll xs) (actuals fs long)
              (all_bound KeepsAll fs (actuals_in true (drop len W)) (keeps_each_part (inner_tokens true 0 (body_tokens (drop len W))) kept)));
          keeps_after = subst (λ (ts : List SourceToken). All P ts) later (All-drop P c.used (body_tokens W) all);
          count = omega (arith, long, many, ranged);
        }

-- its `)` lies in the part of the text
pub bound_place : (text : List ℕ) (at end formals len to : ℕ) (ranges : List Range) → IsOpenedAt text at end len → IsBoundTo true (take end text) (at + len) formals ranges to
    → (at ≤ to + 1) × (to + 1 ≤ end)
bound_place text at end formals len to ranges o b = grind (arith, after_opener)

-- what isn't bound of kept text is neither open nor changed
pub kept_refused : (text : List ℕ) (formals : ℕ) (old new : List Range) (r : Bound) → (r ≡ Open) ⊎ (r ≡ Miscounted) → IsBound false text 0 formals old new r
    → (new ≡ old) × ((fs : List Formal) → length fs ≡ formals → false ≡ is_count fs (actuals_of text))
unfolding IsBound
kept_refused text formals old new r (inl e) b = grind (arith, false≢true)
kept_refused text formals old new r (inr e) b = grind (arith, kept_actuals)
