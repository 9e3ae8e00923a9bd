-- What a step over open texts opens or closes.
-- A definition that names no source is this project's own.
use Rattle.std.specs.Prelude.{◌≡◌, ℕ, ◌+◌, true, List, [], ◌∷◌, length, drop, Some}
use Rattle.rdlpp_define.specs.Macros.{formals_of}
use Rattle.rdlpp_define.specs.Table.{macro_at}
use Rattle.rdlpp_meaning.specs.Opens.{Open, Part, Texts, found_standing, open_body, open_bytes, scope_open}
use Rattle.rdlpp_texts.specs.TextItems.{IsTextItem}
use Rattle.rdlpp_texts.specs.Opened.{is_spent, moved_to}
use Rattle.rdlpp_texts.specs.Places.{source_formals}
use Rattle.rdlpp_texts.specs.Scopes.{front_scope, front_source}
use Rattle.rdlpp_texts.specs.Usages.{IsUsed, front_name}
use Rattle.rdlpp_texts.specs.declared.peek.TextItem.{TextItem}
use Rattle.rdlpp_texts.specs.declared.peek.TextItem.TheVariants.{Formal as FormalName, Usage}
use Rattle.rdlpp_texts.specs.declared.step.CursorStep.{CursorStep}
use Rattle.rdlpp_texts.specs.declared.step.CursorStep.TheVariants.{Lends, Silent, Refused}

-- this stands at the front of the innermost open text, where that goes on at a place
abbrev pub HasFront : Texts → List Open → ℕ → TextItem → Type 0
HasFront texts [] at front = ⊥
HasFront texts (x ∷ below) at front = (at ≡ x.part.from) × IsTextItem (source_formals texts (front_source (x ∷ below))) (open_bytes texts x below) front

-- the innermost open texts are closed
abbrev pub Closes : List Open → List Open → Type 0
Closes old new = (n : ℕ) × (new ≡ drop n old)

-- what becomes of open texts where no byte is lent: they stay; the innermost, of which nothing is left, is closed, and perhaps others around
-- it; what a formal stands for is opened, whose name stands at the front, and the text goes on after that name; or the body of the macro
-- is opened whose usage stands there, with as many actuals as that has formals, in the scope of the innermost text, which goes on after
-- the usage (IEEE 1364-2001, `define`; this project's profile)
pub data Turned (texts : Texts) (old new : List Open) : Type 0 where
  Stays : new ≡ old → Turned texts old new
  Closed : is_spent old ≡ true → Closes old new → Turned texts old new
  OpensStanding : (at len place : ℕ) (x : Open) → HasFront texts old at (FormalName len place) → found_standing texts.macros (scope_open old (front_scope old)) (front_scope old) place ≡ Some x
      → new ≡ x ∷ moved_to (at + len) old → Turned texts old new
  OpensBody : (at len id following : ℕ) (parts : List Part) → HasFront texts old at (Usage len) → IsUsed texts old (front_name texts old len) id → length parts ≡ length (formals_of (macro_at texts.macros id))
      → new ≡ open_body texts id parts (front_scope old) ∷ moved_to following old → Turned texts old new

-- where the open texts stand after what a step lends
abbrev pub after_lent : List Open → CursorStep → List Open
after_lent opens (Lends place) = moved_to place.end opens
after_lent opens Silent = opens
after_lent opens (Refused fault) = opens

-- what a step lends, and what it opens or closes after that
abbrev pub TurnsOver : Texts → List Open → CursorStep → List Open → Type 0
TurnsOver texts old step new = Turned texts (after_lent old step) new
