-- The names of directives: which one a text is, and what bytes they have.
use Rattle.std.proofs.Common.{◌≡◌, ℕ, ◌≤◌, Bool, true, false, ◌||◌, cond, List, [], ◌∷◌, length, map, Option, None, Some, bytes_eq, refl, sym, ap, subst, ◌∙◌, arith}
use Rattle.std.specs.List.{list_any}
use Rattle.std.proofs.lemmas.Slice.Eq.{bytes_eq-Decides}
use Rattle.rdlpp_scan.specs.Bytes.{is_digit, is_letter, is_word}
use Rattle.rdlpp_scan.specs.Names.{IsWordBytes}
use Rattle.rdlpp_scan.specs.Reserved.{directive_among, directive_name, directive_named, directives, is_reserved, reserved_names}
use Rattle.rdlpp_scan.specs.declared.token.Directive.{Directive}
use Rattle.rdlpp_scan.specs.declared.token.Directive.TheVariants.{Define}

-- where bytes are a directive's text, or else that of one of the others
among_or : (b : Bool) (bytes own : List ℕ) (first d : Directive) (text : Directive → List ℕ) (others : Option Directive) → bytes_eq bytes own ≡ b → own ≡ text first
    → (others ≡ Some d → bytes ≡ text d) → cond b (Some first) others ≡ Some d → bytes ≡ text d
among_or true bytes own first d text others e o rest h = grind (arith, bytes_eq-Decides)
among_or false bytes own first d text others e o rest h = rest h

-- the directive that bytes are found to be among some has these bytes as its text
pub among_is : (text : Directive → List ℕ) (ds : List Directive) (bytes : List ℕ) (d : Directive) → directive_among text ds bytes ≡ Some d → bytes ≡ text d
among_is text [] bytes d e = cc
among_is text (first ∷ ds) bytes d e =
    among_or (bytes_eq bytes (text first)) bytes (text first) first d text (directive_among text ds bytes) refl refl (among_is text ds bytes d) e

-- a name that names a directive is that directive's
pub named_is : (name : List ℕ) (d : Directive) → directive_named name ≡ Some d → name ≡ directive_name d
unfolding directive_named
named_is name d e = among_is directive_name directives name d e

-- bytes that are found to be none of some directives
none_or : (b : Bool) (first : Directive) (others : Option Directive) (more : Bool) → (others ≡ None → more ≡ false) → cond b (Some first) others ≡ None → (b || more) ≡ false
none_or true first others more rest e = cc
none_or false first others more rest e = rest e

among_none : (text : Directive → List ℕ) (ds : List Directive) (bytes : List ℕ) → directive_among text ds bytes ≡ None → list_any (bytes_eq bytes) (map text ds) ≡ false
among_none text [] bytes e = refl
among_none text (first ∷ ds) bytes e =
    none_or (bytes_eq bytes (text first)) first (directive_among text ds bytes) (list_any (bytes_eq bytes) (map text ds)) (among_none text ds bytes) e

-- a name that names no directive isn't reserved
pub unreserved : (name : List ℕ) → directive_named name ≡ None → is_reserved name ≡ false
unfolding directive_named is_reserved reserved_names
unreserved name e = among_none directive_name directives name e

-- the name of a directive has word bytes alone
directive_name_word : (d : Directive) → IsWordBytes (directive_name d)
unfolding is_word is_letter is_digit
directive_name_word Define = refl
directive_name_word _ = refl

-- it has few bytes
directive_name_short : (d : Directive) → length (directive_name d) ≤ 7
directive_name_short Define = omega arith
directive_name_short _ = omega arith

-- bytes that are one of some directives' texts
any_or : (b : Bool) (bytes own : List ℕ) (more : Bool) (first : Directive) (text : Directive → List ℕ) → bytes_eq bytes own ≡ b → own ≡ text first
    → (more ≡ true → (d : Directive) × (bytes ≡ text d)) → (b || more) ≡ true → (d : Directive) × (bytes ≡ text d)
any_or true bytes own more first text e o rest h = (first, (bytes_eq-Decides bytes own).0 e ∙ o)
any_or false bytes own more first text e o rest h = rest h

among_any : (text : Directive → List ℕ) (ds : List Directive) (bytes : List ℕ) → list_any (bytes_eq bytes) (map text ds) ≡ true → (d : Directive) × (bytes ≡ text d)
among_any text [] bytes e = cc
among_any text (first ∷ ds) bytes e =
    any_or (bytes_eq bytes (text first)) bytes (text first) (list_any (bytes_eq bytes) (map text ds)) first text refl refl (among_any text ds bytes) e

-- a reserved name is that of a directive
reserved_is : (name : List ℕ) → is_reserved name ≡ true → (d : Directive) × (name ≡ directive_name d)
unfolding is_reserved reserved_names
reserved_is name e = among_any directive_name directives name e

-- it has word bytes alone
pub reserved_word : (name : List ℕ) → is_reserved name ≡ true → IsWordBytes name
reserved_word name e = let d = reserved_is name e in subst IsWordBytes (sym d.1) (directive_name_word d.0)

-- it has few bytes
pub reserved_short : (name : List ℕ) → is_reserved name ≡ true → length name ≤ 128
reserved_short name e = let d = reserved_is name e in omega (arith, ap length d.1, directive_name_short d.0)
