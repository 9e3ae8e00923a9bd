-- A macro: its name, its formals and its body, what they count, and what holds of every macro that is read.
-- A definition that names no source is this project's own.
use Rattle.std.specs.Prelude.{ℕ, ◌+◌, List, [], ◌∷◌, ◌++◌, length, bytes_eq, sum_by, Option, unwrap_or, ◌≡◌, ◌<◌, ◌≤◌, false, All, map}
use Rattle.std.specs.List.{IsDistinct}
use Rattle.rdlpp_scan.specs.CleanTexts.{IsCleanText}
use Rattle.rdlpp_scan.specs.Reserved.{is_reserved}

-- a formal: its name, and its default text, empty where it has none
pub record Formal : Type 0 where
  pub name : List ℕ
  pub text : List ℕ

-- a macro: its name, its formals where it has a list, and its body (IEEE 1364-2001, `define`)
pub record Macro : Type 0 where
  pub name : List ℕ
  pub formals : Option (List Formal)
  pub body : List ℕ

-- the formals of a macro, none where it has no list
abbrev pub formals_of : Macro → List Formal
formals_of m = unwrap_or m.formals []

-- what a default text counts: one and its bytes, where it isn't empty (this project's profile)
unfoldable pub default_size : List ℕ → ℕ
default_size [] = 0
default_size (b ∷ bs) = 1 + length (b ∷ bs)

-- what a formal counts: its name, its default text, and one more (this project's profile)
unfoldable pub formal_size : Formal → ℕ
formal_size f = length f.name + (default_size f.text + 1)

-- the bytes of a macro's formals
unfoldable pub list_size : Macro → ℕ
list_size m = sum_by formal_size (unwrap_or m.formals [])

-- what a macro counts: its name, its formals and its body (this project's profile)
unfoldable pub macro_size : Macro → ℕ
macro_size m = length m.name + (sum_by formal_size (unwrap_or m.formals []) + length m.body)

-- a default text in a table's bytes: `=` and the text, where it isn't empty (this project's profile)
unfoldable pub default_bytes : List ℕ → List ℕ
default_bytes [] = []
default_bytes (b ∷ bs) = 61 ∷ b ∷ bs

-- a formal in a table's bytes: its name, its default text, and a comma (this project's profile)
unfoldable pub formal_bytes : Formal → List ℕ
formal_bytes f = f.name ++ (default_bytes f.text ++ 44 ∷ [])

-- the most formals of a macro (this project's profile)
abbrev pub most_formals : ℕ
most_formals = 255

-- the most bytes of the name of a macro or of a formal (this project's profile)
abbrev pub most_name_bytes : ℕ
most_name_bytes = 128

-- what holds of the formals of every macro: distinct names, no more and no longer than this project's profile has it, and default
-- texts that are read whole, without `//` comments
pub record AreSoundFormals (formals : List Formal) : Type 0 where
  pub distinct : IsDistinct bytes_eq (map (λ f. f.name) formals)
  pub few : length formals ≤ most_formals
  pub short : All (λ f. length f.name ≤ most_name_bytes) formals
  pub texts : All (λ f. IsCleanText f.text) formals

-- what holds of every macro that is read: a name that isn't that of a directive, sound formals, and a body that is read whole,
-- without `//` comments
pub record IsSoundMacro (m : Macro) : Type 0 where
  pub named : 0 < length m.name
  pub short : length m.name ≤ most_name_bytes
  pub unreserved : is_reserved m.name ≡ false
  pub formals : AreSoundFormals (formals_of m)
  pub body : IsCleanText m.body
