-- A formal list as its parts are read, and formals as bytes.
-- A definition that names no source is this project's own.
use Rattle.std.specs.Prelude.{◌≡◌, ℕ, Bool, true, false, nat_lt, nat_le, List, [], length, drop, bytes_eq, sum_by, Option, None, Some, Ok, if◌then◌else◌}
use Rattle.std.specs.List.{list_any, list_all}
use Rattle.std.specs.Option.{option_map}
use Rattle.rdlpp_scan.specs.declared.token.Mode.TheVariants.{Plain}
use Rattle.rdlpp_scan.specs.Tokens.{tokens_from}
use Rattle.rdlpp_define.specs.Macros.{Formal, default_size, formal_size}
use Rattle.rdlpp_define.specs.Define.{DefaultText, FormalList, Listed, FormalListFault, Good, FormalFault, after_space, default_of_tokens, formal_in, is_nothing, leading_name, trimmed_default}
use Rattle.rdlpp_scan.specs.KeptText.{cleared, start_level, trimmed_left, trimmed_len, trims}
use Rattle.rdlpp_define.specs.Plain.{is_default, is_plain_formal}
use Rattle.rdlpp_define.specs.declared.fault.DefineKind.{DefineKind}
use Rattle.rdlpp_define.specs.declared.fault.DefineKind.TheVariants as kind

-- what is wrong with a formal of a name, after formals of such names (this project's profile)
unfoldable pub fault_after : List (List ℕ) → List ℕ → Option DefineKind
fault_after names name =
    if is_nothing name then Some kind.BadFormals
    else (if nat_lt 128 (length name) then Some kind.NameTooLong
    else (if list_any (λ n. bytes_eq n name) names then Some kind.FormalTwice
    else (if nat_le 255 (length names) then Some kind.TooManyFormals
    else None)))

-- the default text of a text from after its `=` on
unfoldable pub default_left : List ℕ → List ℕ
default_left text = trimmed_left (trims true) (cleared (Some 0) text)

-- the default text, and what stands after it, from after its `=` on
unfoldable pub default_after : List ℕ → Option DefaultText
default_after text = option_map trimmed_default (default_of_tokens 0 (tokens_from Plain 0 text) text)

-- a default text that counts so much was read from a text, and so much stands after it
pub record IsDefault (default : Option DefaultText) (from following : List ℕ) (size : ℕ) : Type 0 where
  pub is : default ≡ Some (record { text = default_left from; following = following })
  pub size_is : default_size (default_left from) ≡ size
  pub len_is : trimmed_len (trims true) (cleared (start_level true) from) ≡ Ok (length (default_left from))
  pub plain : is_default (default_left from) ≡ true

-- a list of so many formals with so many bytes was read, and so much stands after it
pub record IsRead (list : FormalList) (following : List ℕ) (count size : ℕ) (formals : List Formal) : Type 0 where
  pub is : list ≡ Listed (Some formals) following
  pub count_is : length formals ≡ count
  pub size_is : sum_by formal_size formals ≡ size
  pub plain : list_all is_plain_formal formals ≡ true

-- the formal with which a list's text begins, where it has no fault
unfoldable pub formal_told : List ℕ → Formal
formal_told text = elim (formal_in [] text) [ Good f following ↦ f | FormalFault k ↦ record { name = []; text = [] } ]

-- what stands after it
unfoldable pub after_told : List ℕ → List ℕ
after_told text = elim (formal_in [] text) [ Good f following ↦ following | FormalFault k ↦ [] ]

-- whether it has no fault
unfoldable pub is_told : List ℕ → Bool
is_told text = elim (formal_in [] text) [ Good f following ↦ true | FormalFault k ↦ false ]

-- the formals of a list that was read
unfoldable pub listed : FormalList → Option (List Formal)
listed (Listed formals following) = formals
listed (FormalListFault k) = None

-- what a list's text begins with: white space, a name or nothing, white space, and what stands after them
pub record IsPart (text name following : List ℕ) : Type 0 where
  pub name_is : name ≡ leading_name (after_space text)
  pub after_is : following ≡ after_space (drop (length name) (after_space text))
