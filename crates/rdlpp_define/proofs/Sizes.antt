-- What formals count is the length of their bytes, and what a list counts is how many items it has.
use Rattle.std.proofs.Common.{◌≡◌, ℕ, ◌≤◌, List, [], ◌∷◌, length, refl, arith, Vec, Global, vec_len, rules, ◌++◌, sum_by, length-append, flat_map}
use Rattle.std.proofs.lemmas.List.Sums.{sum_by-cons}
use Rattle.rdlpp_define.specs.Macros.{Formal, default_bytes, default_size, formal_bytes, formal_size}

-- a list counts its items
pub count_items : {A : Type 0} (v : Vec A Global) → vec_len v ≡ length v.items
count_items v = search rules

length_default : (text : List ℕ) → length (default_bytes text) ≡ default_size text
unfolding default_bytes default_size
length_default [] = refl
length_default (b ∷ bs) = omega arith

-- a default text is no longer than what it counts
pub default_least : (text : List ℕ) → length text ≤ default_size text
unfolding default_size
default_least [] = omega arith
default_least (b ∷ bs) = omega arith

pub length_formal_bytes : (f : Formal) → length (formal_bytes f) ≡ formal_size f
unfolding formal_bytes formal_size
length_formal_bytes f =
    omega (arith, length-append f.name (default_bytes f.text ++ 44 ∷ []), length-append (default_bytes f.text) (44 ∷ []), length_default f.text)

pub one_size : (f : Formal) → sum_by formal_size (f ∷ []) ≡ formal_size f
one_size f = omega (arith, sum_by-cons formal_size f [])

pub length_list_bytes : (fs : List Formal) → length (flat_map formal_bytes fs) ≡ sum_by formal_size fs
length_list_bytes [] = refl
length_list_bytes (f ∷ fs) = grind (arith, length-append, length_formal_bytes, sum_by-cons, (length_list_bytes fs))
