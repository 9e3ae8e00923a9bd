-- Literal substitution: the bytes of a body with the bytes of each actual, or of its default, in the place of its formal.
-- A definition that names no source is this project's own.
use Rattle.std.specs.Prelude.{ℕ, List, [], ◌∷◌, ◌++◌, bytes_eq, Option, None, Some, unwrap_or, if◌then◌else◌}
use Rattle.std.specs.List.{flat_map}
use Rattle.rdlpp_scan.specs.declared.token.Kind.TheVariants.{Name}
use Rattle.rdlpp_scan.specs.SourceTokens.{Ordinary, SourceToken}
use Rattle.rdlpp_define.specs.Macros.{Formal}
use Rattle.rdlpp_meaning.specs.Items.{Item, Items, Nothing, More, Written, Arg}
use Rattle.rdlpp_meaning.specs.Substitution.{Standing, Given, Defaulted, standing_of}

-- the bytes of an item, without its marks
unfoldable mutual
  pub erased : Item → List ℕ
  erased (Written t) = t.bytes
  erased (Arg o items) = all_erased items

  -- the bytes of a mark's items
  pub all_erased : Items → List ℕ
  all_erased Nothing = []
  all_erased (More x xs) = erased x ++ all_erased xs

-- the bytes of what a formal stands for: those of its actual, or its default text (source: this project's profile)
unfoldable pub standing_bytes : Standing Item → List ℕ
standing_bytes (Given actual) = flat_map erased actual
standing_bytes (Defaulted text) = text

-- the bytes that formals stand for by their actuals
unfoldable pub formals_bytes : List Formal → List (List Item) → List (List ℕ)
formals_bytes [] actuals = []
formals_bytes (f ∷ fs) [] = []
formals_bytes (f ∷ fs) (a ∷ actuals) = standing_bytes (standing_of f a) ∷ formals_bytes fs actuals

-- the bytes that stand for a name, if it is a formal
unfoldable pub bytes_for : List Formal → List (List ℕ) → List ℕ → Option (List ℕ)
bytes_for [] texts name = None
bytes_for (f ∷ fs) [] name = None
bytes_for (f ∷ fs) (text ∷ texts) name = if bytes_eq f.name name then Some text else bytes_for fs texts name

-- the bytes in the place of a token: those of the formal where it is a Name token that is one, else its own
unfoldable pub in_place : List Formal → List (List ℕ) → SourceToken → List ℕ
in_place formals texts t = elim t.sort [
  | Ordinary k ↦ elim k [
    | Name ↦ unwrap_or (bytes_for formals texts t.bytes) t.bytes
    | _ ↦ t.bytes
  ]
  | _ ↦ t.bytes
]

-- the bytes of tokens with the bytes that formals stand for in their places (source: IEEE 1364-2001, `define`)
unfoldable pub literal : List Formal → List (List ℕ) → List SourceToken → List ℕ
literal formals texts ts = flat_map (in_place formals texts) ts
