-- A macro that is to be stored, in the lists of a table.
use Rattle.std.proofs.Common.{◌≡◌, ℕ, true, List, ◌++◌, take, drop, Option, ap, sym, ◌∙◌, ◌+◌, ◌≤◌, length, unwrap_or, arith, length-append, ◌-◌, ◌*◌, ◌/◌, slice_range, option_map, append_assoc, flat_map, drop_at}
use Rattle.std.specs.List.{list_all}
use Rattle.std.proofs.lemmas.Grind.{common_steps}
use Rattle.rdlpp_define.specs.Macros.{Formal, Macro, formal_bytes, macro_size, formals_of, list_size}
use Rattle.rdlpp_table.specs.Store.{macro_bytes, points_told, entry_of, formals_read, AreStoredFormals}
use Rattle.rdlpp_table.proofs.Taken.{between_parts}
use Rattle.rdlpp_table.proofs.RoundTrip.{read_list}
use Rattle.rdlpp_table.specs.PointCache.{cached_points}
use Rattle.rdlpp_table.specs.declared.point_cache.PointCache.{PointCache}
use Rattle.rdlpp_table.specs.declared.entry.Entry.{Entry}
use Rattle.rdlpp_table.specs.FormalOffsets.{macro_offsets, offsets_of}
use Rattle.rdlpp_define.specs.Plain.{is_plain_formal, is_plain_macro}
use Rattle.rdlpp_table.proofs.Sizes.{count_formals, few_offsets_of}
use Rattle.rdlpp_define.proofs.Sizes.{length_list_bytes}
use Rattle.rdlpp_table.proofs.FirstPoints.{after_place}

pub new_size : (m : Macro) → macro_size m ≡ length m.name + (list_size m + length m.body)
unfolding macro_size list_size
new_size m = omega arith

pub formals_size : (m : Macro) → length (flat_map formal_bytes (formals_of m)) ≡ list_size m
unfolding list_size
formals_size m = length_list_bytes (formals_of m)

pub new_bytes : (bytes named listed done : List ℕ) (m : Macro) → named ≡ bytes ++ m.name → listed ≡ named ++ flat_map formal_bytes (formals_of m) → done ≡ listed ++ m.body → done ≡ bytes ++ macro_bytes m
unfolding macro_bytes
new_bytes bytes named listed done m e f g = grind (arith, append_assoc)

count_of : (m : Macro) (arity : Option ℕ) → arity ≡ option_map length m.formals → unwrap_or arity 0 ≡ length (formals_of m)
count_of m arity e = ap (λ (a : Option ℕ). unwrap_or a 0) e ∙ count_formals m.formals

-- the formals of a macro that is to be stored are read back from their bytes
same_formals : (m : Macro) (count : ℕ) → is_plain_macro m ≡ true → count ≡ length (formals_of m) → formals_read count (flat_map formal_bytes (formals_of m)) ≡ formals_of m
unfolding is_plain_macro
same_formals m count p n = ap (λ (k : ℕ). formals_read k (flat_map formal_bytes (formals_of m))) n ∙ read_list (formals_of m) p

-- bytes that are those of the formals of a macro that is to be stored
pub record IsAppended (m : Macro) (count : ℕ) (slice : List ℕ) : Type 0 where
  pub read : formals_read count slice ≡ formals_of m
  pub whole : flat_map formal_bytes (formals_read count slice) ≡ slice
  pub plain : list_all is_plain_formal (formals_read count slice) ≡ true
  pub long : length slice ≡ list_size m

appended : (m : Macro) (count : ℕ) (slice : List ℕ) → is_plain_macro m ≡ true → count ≡ length (formals_of m) → slice ≡ flat_map formal_bytes (formals_of m) → IsAppended m count slice
unfolding list_size is_plain_macro
appended m count slice p n e = grind (arith, same_formals, length_list_bytes)

-- the last bytes, once the formals were appended
pub appended_last : (named listed here : List ℕ) (m : Macro) (arity : Option ℕ) (count from : ℕ) → is_plain_macro m ≡ true → listed ≡ named ++ flat_map formal_bytes (formals_of m) → from ≡ length named → arity ≡ option_map length m.formals → count ≡ unwrap_or arity 0 → here ≡ listed → IsAppended m count (take (length here - from) (drop from here))
appended_last named listed here m arity count from p e i a n h =
    appended m count (take (length here - from) (drop from here)) p (n ∙ count_of m arity a)
    (after_place from here ∙ (ap (drop from) (h ∙ e) ∙ drop_at named (flat_map formal_bytes (formals_of m)) from (sym i)))

-- the bytes between two places, once the body was appended too
pub appended_between : (named listed all here : List ℕ) (m : Macro) (arity : Option ℕ) (count from to : ℕ) (body : List ℕ) → is_plain_macro m ≡ true → listed ≡ named ++ flat_map formal_bytes (formals_of m) → all ≡ listed ++ body → from ≡ length named → to ≡ length listed → arity ≡ option_map length m.formals → count ≡ unwrap_or arity 0 → here ≡ all → IsAppended m count (slice_range here from to)
appended_between named listed all here m arity count from to body p e f i j a n h =
    let formals : List ℕ = flat_map formal_bytes (formals_of m) in
    let whole : here ≡ named ++ (formals ++ body) = h ∙ (f ∙ (ap (λ (x : List ℕ). x ++ body) e ∙ append_assoc named formals body)) in
    appended m count (slice_range here from to) p (n ∙ count_of m arity a)
    (ap (λ (x : List ℕ). slice_range x from to) whole ∙ between_parts named formals body from to (sym i) (omega (arith, i, j, ap (length {A = ℕ}) e, length-append named formals)))

-- the offsets that were kept after a list are those of its formals
pub appended_listed : (m : Macro) (count : ℕ) (last between order here : List ℕ) (from : ℕ) → IsAppended m count last → IsAppended m count between → here ≡ order ++ offsets_of (formals_read count last) → from ≡ length order → AreStoredFormals count between (take (length here - from) (drop from here))
appended_listed m count last between order here from a b e i = grind (arith, common_steps, after_place)

-- as are those of the macro
pub appended_offsets : (m : Macro) (count : ℕ) (last : List ℕ) → IsAppended m count last → offsets_of (formals_read count last) ≡ macro_offsets m
unfolding macro_offsets
appended_offsets m count last a = ap offsets_of a.read

-- they are few
pub appended_few : (m : Macro) (count : ℕ) (last : List ℕ) → IsAppended m count last → length (offsets_of (formals_read count last)) ≤ 2 * (list_size m / 4)
unfolding list_size
appended_few m count last a = omega (arith, ap (λ (fs : List Formal). length (offsets_of fs)) a.read, few_offsets_of (formals_of m))

-- the first stops of its body are told by its formals and its body
pub new_points : (m : Macro) (named listed all : List ℕ) (arity : Option ℕ) (from to count : ℕ) (points : PointCache) → is_plain_macro m ≡ true → listed ≡ named ++ flat_map formal_bytes (formals_of m) → all ≡ listed ++ m.body → from ≡ length named → to ≡ length listed → arity ≡ option_map length m.formals → count ≡ unwrap_or arity 0 → points ≡ points_told all from to count → points ≡ cached_points (formals_of m) m.body
new_points m named listed all arity from to count points p e f i j a n h =
    let k : count ≡ length (formals_of m) = n ∙ count_of m arity a in
    grind (arith, common_steps, append_assoc, between_parts, length-append, same_formals)

pub new_entry : (start formal_offsets : ℕ) (m : Macro) (size len : ℕ) (arity : Option ℕ) (points : PointCache) → size ≡ list_size m → len ≡ length m.body → arity ≡ option_map length m.formals → points ≡ cached_points (formals_of m) m.body → (let e : Entry = record { start = start; name_len = length m.name; list_len = size; body_len = len; arity = arity; formal_offsets = formal_offsets; points = points } in e) ≡ entry_of start formal_offsets m
unfolding entry_of
new_entry start formal_offsets m size len arity points s b a h = grind arith
