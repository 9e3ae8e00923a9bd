-- What a directive of a conditional does to the open conditionals.
-- A definition that names no source is this project's own.
use Rattle.std.specs.Prelude.{◌≡◌, ℕ, suc, zero, Bool, true, false, ◌||◌, List, [], ◌∷◌, drop, Option, None, Some, Result, Ok, Err}
use Rattle.rdlpp_scan.specs.declared.token.Directive.{Directive}
use Rattle.rdlpp_meaning.specs.declared.fault.FaultKind.{FaultKind}
use Rattle.rdlpp_meaning.specs.declared.fault.FaultKind.TheVariants.{BranchAfterElse, StrayBranch}
use Rattle.rdlpp_meaning.specs.State.{State}
use Rattle.rdlpp_meaning.specs.Parts.{Command}
use Rattle.rdlpp_meaning.specs.Meaning.{Progress, Test, TestFault, Holds, is_else, macro_name, name_test, opening_within, turn}
use Rattle.rdlpp_meaning.specs.Resumed.{Place, Live, Skipped}
use Rattle.rdlpp_read.specs.declared.conditions.Branch.{Branch}
use Rattle.rdlpp_read.specs.declared.conditions.Branch.TheVariants.{Inner, Refused, Decided, Named}
use Rattle.rdlpp_read.specs.Conditions.{ConditionsView, conditions_left}

-- whether text is skipped after a directive, by whether its test holds
unfoldable pub skipped_by : Bool → Option ℕ
skipped_by true = None
skipped_by false = Some 0

-- a conditional more, by the line that it shows and whether its test holds (IEEE 1364-2001, `ifdef`)
abbrev pub opened_with : ℕ → Bool → ConditionsView → ConditionsView
opened_with line holds v = record v {
  open_now = record { line = line; taken = holds; closing = false } ∷ v.open_now;
  skipped = skipped_by holds;
}

-- what a conditional whose test was answered comes to (this project's profile)
abbrev pub opening_answer : {A : Type 0} → Result A FaultKind → Bool → Test
opening_answer (Ok x) holds = Holds holds
opening_answer (Err kind) holds = TestFault kind []

-- the conditionals after one that opens: one more, or the same where it is refused
abbrev pub after_opening : {A : Type 0} → Result A FaultKind → ℕ → Bool → ConditionsView → ConditionsView
after_opening (Ok x) line holds v = opened_with line holds v
after_opening (Err kind) line holds v = v

-- a conditional opens in live text, or is refused (IEEE 1364-2001, `ifdef`)
pub record Opens {A : Type 0} (result : Result A FaultKind) (line : ℕ) (holds : Bool) (old new : ConditionsView) : Type 0 where
  pub test : opening_within (conditions_left old) (Holds holds) ≡ opening_answer result holds
  pub becomes : new ≡ after_opening result line holds old

-- each branch of a word at an open conditional has a test (IEEE 1364-2001, `elsif`, `else`)
abbrev pub HasTest : Progress → Directive → (Command → State → Test) → Type 0
HasTest o word test = (c : Command) (s : State) → c.word ≡ word → turn o c s ≡ test c s

-- what is told of a branch of an open conditional is its test: it is refused after an `else`, or it is decided, or its name decides, if
-- it isn't an `else` (IEEE 1364-2001, `elsif`, `else`)
abbrev pub IsTurn : Progress → Directive → Branch → Type 0
IsTurn o word Inner = ⊥
IsTurn o word (Refused kind) = (kind ≡ BranchAfterElse) × HasTest o word (λ c s. TestFault kind [])
IsTurn o word (Decided holds) = HasTest o word (λ c s. Holds holds)
IsTurn o word Named = (is_else word ≡ false) × HasTest o word (λ c s. name_test true (macro_name c) s)

-- what is told of a branch, by the place where it stands (this project's profile)
abbrev pub IsBranch : Place → Directive → Branch → Type 0
IsBranch (Live []) word branch = branch ≡ Refused StrayBranch
IsBranch (Live (o ∷ os)) word branch = IsTurn o word branch
IsBranch (Skipped zero o os) word branch = IsTurn o word branch
IsBranch (Skipped (suc n) o os) word branch = branch ≡ Inner

-- the open conditionals, with the innermost after a branch
unfoldable pub turned_open : Directive → Bool → List Progress → List Progress
turned_open word holds [] = []
turned_open word holds (o ∷ os) = record { line = o.line; taken = o.taken || holds; closing = is_else word } ∷ os

-- a branch was taken, or is skipped (IEEE 1364-2001, `elsif`, `else`)
abbrev pub turned_with : Directive → Bool → ConditionsView → ConditionsView
turned_with word holds v = record v { open_now = turned_open word holds v.open_now; skipped = skipped_by holds }

-- the innermost conditional is closed, and text is live (IEEE 1364-2001, `endif`)
abbrev pub closed_one : ConditionsView → ConditionsView
closed_one v = record v { open_now = drop 1 v.open_now; skipped = None }

-- so many conditionals opened in skipped text
abbrev pub with_count : ℕ → ConditionsView → ConditionsView
with_count n v = record v { skipped = Some n }

-- a call answered that it was done
abbrev pub IsDone : {A : Type 0} → Result A FaultKind → Type 0
IsDone (Ok x) = Unit {0}
IsDone (Err kind) = ⊥

-- an `endif`, by the place where it stands (IEEE 1364-2001, `endif`)
abbrev pub Closes : {A : Type 0} → Place → Result A FaultKind → ConditionsView → ConditionsView → Type 0
Closes (Live []) result old new = (result ≡ Err StrayBranch) × (new ≡ old)
Closes (Live (o ∷ os)) result old new = IsDone result × (new ≡ closed_one old)
Closes (Skipped zero o os) result old new = IsDone result × (new ≡ closed_one old)
Closes (Skipped (suc n) o os) result old new = IsDone result × (new ≡ with_count n old)

-- the conditional that the end of the innermost source leaves open, by its line (this project's profile)
abbrev pub IsUnclosed : Place → Option ℕ → Type 0
IsUnclosed (Live []) line = line ≡ None
IsUnclosed (Live (o ∷ os)) line = line ≡ Some o.line
IsUnclosed (Skipped n o os) line = line ≡ Some o.line
