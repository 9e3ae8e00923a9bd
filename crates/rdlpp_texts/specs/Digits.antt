-- The work left of open texts, as digits.
-- A definition that names no source is this project's own.
use Rattle.std.specs.Prelude.{◌≡◌, ℕ, ◌+◌, ◌-◌, ◌<◌, ◌≤◌, ◌⊎◌, List, [], ◌∷◌, map, reverse, length}
use Rattle.rdlpp_define.specs.Table.{table_size}
use Rattle.rdlpp_meaning.specs.Opens.{Open, Texts}
use Rattle.rdlpp_texts.specs.declared.step.CursorStep.{CursorStep}
use Rattle.rdlpp_texts.specs.declared.step.CursorStep.TheVariants.{Lends, Silent, Refused}

-- the bytes that are left of an open text, and one
abbrev pub open_digit : Open → ℕ
open_digit x = x.part.end - x.part.from + 1

-- the digits of open texts in the work left, the outermost first (source: this project's profile)
unfoldable pub cursor_digits : List Open → List ℕ
cursor_digits opens = reverse (map open_digit opens)

-- digits fall: the first one that changes is smaller or is gone, whatever stands after it
unfoldable pub AreFalling : List ℕ → List ℕ → Type 0
AreFalling [] new = ⊥
AreFalling (d ∷ old) [] = 0 < d
AreFalling (d ∷ old) (e ∷ new) = (e < d) ⊎ ((e ≡ d) × AreFalling old new)

-- a step that isn't refused has digits that fall
unfoldable pub IsFalling : List Open → CursorStep → List Open → Type 0
IsFalling old (Lends place) new = AreFalling (cursor_digits old) (cursor_digits new)
IsFalling old Silent new = AreFalling (cursor_digits old) (cursor_digits new)
IsFalling old (Refused fault) new = Unit

-- no text has more bytes than that: neither what is kept of a call nor all live definitions together
pub record AreShort (most : ℕ) (texts : Texts) : Type 0 where
  pub definitions : table_size texts.macros ≤ most
  pub arguments : length texts.arguments ≤ most
