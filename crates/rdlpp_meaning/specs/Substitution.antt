-- Substitution: the body of a macro with each formal marked as its actual, or as its default where the actual has no items.
-- A definition that names no source is this project's own.
use Rattle.std.specs.Prelude.{ℕ, ◌==◌, List, [], ◌∷◌, map, length, take, drop, bytes_eq, Option, None, Some, unwrap_or, if◌then◌else◌}
use Rattle.rdlpp_scan.specs.declared.token.Kind.TheVariants.{Name}
use Rattle.rdlpp_scan.specs.declared.token.Mode.TheVariants.{Plain}
use Rattle.rdlpp_scan.specs.declared.token.Token.{Token}
use Rattle.rdlpp_scan.specs.Tokens.{tokens_from}
use Rattle.rdlpp_scan.specs.SourceTokens.{Ordinary, SourceToken}
use Rattle.rdlpp_define.specs.Macros.{Formal, Macro}
use Rattle.rdlpp_meaning.specs.Items.{Item, Written, Arg, packed}

-- tokens of a text with their bytes; they have no line of their own
unfoldable pub spelled : List Token → List ℕ → List SourceToken
spelled [] bytes = []
spelled (t ∷ ts) bytes =
    record { sort = Ordinary t.kind; bytes = take t.len bytes; line = 0 } ∷ spelled ts (drop t.len bytes)

-- the tokens of a body or of a default (source: this project's profile)
unfoldable pub body_tokens : List ℕ → List SourceToken
body_tokens body = spelled (tokens_from Plain 0 body) body

-- what a formal stands for: its actual, or its default text (source: this project's profile)
pub data Standing (A : Type 0) : Type 0 where
  Given : List A → Standing A
  Defaulted : List ℕ → Standing A

-- what a formal stands for by its actual: where that has no items, its default text, if it has one (source: this project's profile)
unfoldable pub standing_of : {A : Type 0} → Formal → List A → Standing A
standing_of f [] = if length f.text == 0 then Given [] else Defaulted f.text
standing_of f (x ∷ xs) = Given (x ∷ xs)

-- what a name stands for, if it is a formal
unfoldable pub bound_to : {A : Type 0} → List Formal → List (List A) → List ℕ → Option (Standing A)
bound_to [] actuals name = None
bound_to (f ∷ fs) [] name = None
bound_to (f ∷ fs) (a ∷ actuals) name = if bytes_eq f.name name then Some (standing_of f a) else bound_to fs actuals name

-- the mark of what a formal of a macro stands for, in a call that is written in the text of the macros o: an actual is written
-- there, and a default in the macro's own text (source: this project's profile)
unfoldable pub mark_of : List ℕ → List (List ℕ) → Standing Item → Item
mark_of macro o (Given actual) = Arg o (packed actual)
mark_of macro o (Defaulted text) = Arg (macro ∷ o) (packed (map Written (body_tokens text)))

-- a token as the mark of what it stands for, or as it is
unfoldable pub mark_or : List ℕ → List (List ℕ) → SourceToken → Option (Standing Item) → Item
mark_or macro o t None = Written t
mark_or macro o t (Some standing) = mark_of macro o standing

-- a Name token that is a formal as the mark of what it stands for, and any other token as it is (source: IEEE 1364-2001, `define`)
unfoldable pub marked : List ℕ → List Formal → List (List Item) → List (List ℕ) → SourceToken → Item
marked macro formals actuals o t = elim t.sort [
  | Ordinary k ↦ elim k [
    | Name ↦ mark_or macro o t (bound_to formals actuals t.bytes)
    | _ ↦ Written t
  ]
  | _ ↦ Written t
]

-- the items of a macro's body, with actuals that were written in the text of the macros o (source: IEEE 1364-2001, `define`)
unfoldable pub substituted : Macro → List (List Item) → List (List ℕ) → List Item
substituted m actuals o = map (marked m.name (unwrap_or m.formals []) actuals o) (body_tokens m.body)
