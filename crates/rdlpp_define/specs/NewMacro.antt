-- A macro that isn't stored: its name, its formals as the text of their list, its body as the text that it is read from.
-- A definition that names no source is this project's own.
use Rattle.std.specs.Prelude.{◌≡◌, ℕ, Bool, true, false, List, [], length, Option, Some, None, option_map, sum_by, unwrap_or, Ok}
use Rattle.std.specs.List.{list_all}
use Rattle.rdlpp_define.specs.Macros.{Formal, Macro, formal_size, IsSoundMacro}
use Rattle.rdlpp_define.specs.Define.{formals_of_list}
use Rattle.rdlpp_define.specs.Formals.{listed}
use Rattle.rdlpp_scan.specs.Continuations.{as_read}
use Rattle.rdlpp_scan.specs.KeptText.{cleared, trimmed_left, trimmed_len, trims}
use Rattle.rdlpp_define.specs.Plain.{is_plain_formal}

-- the formals of a list's text, where there is a list
unfoldable pub list_formals : Option ℕ → List ℕ → Option (List Formal)
list_formals None list = None
list_formals (Some n) list = listed (formals_of_list (as_read true list))

-- the macro
abbrev pub new_macro : List ℕ → Option ℕ → List ℕ → Bool → List ℕ → Macro
new_macro name arity list is_logical text =
    record { name = name; formals = list_formals arity list; body = trimmed_left (trims false) (cleared None (as_read is_logical text)) }

-- so many formals with so many bytes are those of a list's text
pub record IsList (arity : Option ℕ) (list : List ℕ) (size : ℕ) : Type 0 where
  pub size_is : sum_by formal_size (unwrap_or (list_formals arity list) []) ≡ size
  pub arity_is : option_map length (list_formals arity list) ≡ arity
  pub plain : list_all is_plain_formal (unwrap_or (list_formals arity list) []) ≡ true

-- the size and the arity are those of its formals, its body has so many bytes, and it is sound
pub record IsNew (name : List ℕ) (arity : Option ℕ) (list : List ℕ) (size : ℕ) (is_logical : Bool) (text : List ℕ) (len : ℕ) : Type 0 where
  pub listed : IsList arity list size
  pub body_is : trimmed_len (trims false) (cleared None (as_read is_logical text)) ≡ Ok len
  pub sound : IsSoundMacro (new_macro name arity list is_logical text)
