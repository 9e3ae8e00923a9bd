-- What a directive comes to where it stands: its fault, what it writes and the place and the state after it, or the text that is entered.
-- A definition that names no source is this project's own.
use Rattle.std.specs.Prelude.{◌≡◌, ℕ, zero, suc, Bool, true, false, not, ◌||◌, ◌==◌, List, [], ◌∷◌, ◌++◌, length, drop, Option, None, Some, if◌then◌else◌}
use Rattle.std.specs.Str.{is_utf8}
use Rattle.rdlpp_scan.specs.SourceTokens.{SourceToken}
use Rattle.rdlpp_scan.specs.declared.token.Directive.{Directive}
use Rattle.rdlpp_scan.specs.declared.token.Directive.TheVariants.{Define, Else, Elsif, Endif, Ifdef, Ifndef, Include, Line, Undef}
use Rattle.rdlpp_define.specs.Table.{without}
use Rattle.rdlpp_meaning.specs.declared.fault.FaultKind.{FaultKind}
use Rattle.rdlpp_meaning.specs.declared.fault.FaultKind.TheVariants.{BadLine, IncludeName, PathTooLong, SourceNotFound, StrayBranch, TooManyIncludes}
use Rattle.rdlpp_meaning.specs.Outcome.{fails}
use Rattle.rdlpp_meaning.specs.State.{Accepted, Defined, DefinitionFault, LongPath, Lookup, NoSource, Rules, Source, State, fault_at}
use Rattle.rdlpp_meaning.specs.Parts.{Command, line_ends_of}
use Rattle.rdlpp_meaning.specs.Meaning.{Checked, Fine, Holds, NameFault, Passage, Progress, Renumbered, Test, TestFault, after_bytes, at_start_of, begun, in_conditional, leaves, macro_name, opening, origin_line, past_conditional, renumbered, turn, turned, unquoted}
use Rattle.rdlpp_meaning.specs.Opened.{Waiting, all_resumed, waiting}
use Rattle.rdlpp_meaning.specs.Resumed.{Live, Place, Skipped}

-- where the innermost open conditional stands: in a branch that is live, or in one that is skipped, with none that opened there
unfoldable pub in_branch : Bool → Progress → List Progress → Place
in_branch true o os = Live (o ∷ os)
in_branch false o os = Skipped 0 o os

-- what a construct comes to: its fault, of a kind and about a word; the bytes that it writes, and the place and the state after it; or the
-- bytes that it writes, and the text that is entered after them: the conditionals that are open around it, its path and its bytes
pub data Move : Type 0 where
  Stops : FaultKind → List ℕ → Move
  Moves : List ℕ → Place → State → Move
  Enters : List ℕ → List Progress → List ℕ → List ℕ → Move

-- what remains where a construct on a line comes to this, by what remains after it and where a text is entered
unfoldable pub moves_on : Move → ℕ → State → (Place → State → Passage) → (List Progress → List ℕ → List ℕ → Passage) → Passage
moves_on (Stops kind word) line s next within = leaves (fails (fault_at kind line word s)) s
moves_on (Moves bytes place t) line s next within = after_bytes bytes (next place t)
moves_on (Enters bytes os path text) line s next within = after_bytes bytes (within os path text)

-- what remains of a nest of open sources where a construct comes to this in the innermost, by what remains of that after it
abbrev pub nest_moves : Rules → List Waiting → Move → ℕ → State → Bool → List SourceToken → Passage
nest_moves rules ws m line s first ts = moves_on m line s (λ place t. all_resumed rules ws place first ts t)
    (λ os path text. all_resumed rules (waiting rules os first ts line s text ∷ ws) (Live []) true (rules.tokens text) (at_start_of path s))

-- a test that is refused, or what follows from whether it holds
unfoldable pub by_move : Test → (Bool → Move) → Move
by_move (TestFault kind word) next = Stops kind word
by_move (Holds live) next = next live

-- a directive that is skipped writes its LF bytes
unfoldable pub skipped_move : Command → Place → State → Move
skipped_move c place s = Moves (line_ends_of c.text) place s

-- a `define`, by what it does to the macros
unfoldable pub define_move : Defined → Command → Place → State → Move
define_move (Accepted macros) c place s = Moves (line_ends_of c.text) place (record s { macros = macros })
define_move (DefinitionFault kind word) c place s = Stops kind word

-- an `undef`, by its name
unfoldable pub undef_move : Checked → Place → State → Move
undef_move (Fine name) place s = Moves [] place (record s { macros = without name s.macros })
undef_move (NameFault kind word) place s = Stops kind word

-- a `line`, by what it gives
unfoldable pub line_move : Rules → Option Renumbered → Command → Place → State → Move
line_move rules None c place s = Stops BadLine []
line_move rules (Some r) c place s =
    if c.first
    then Moves (line_ends_of c.text ++ origin_line rules r.name r.number) place (record s { name = r.name; shift = record { from = suc c.line; number = r.number } })
    else Stops BadLine []

-- an `include` of a name, by how many more sources may be opened and what the search finds
unfoldable pub found_move : Rules → ℕ → Lookup → List Progress → Move
found_move rules zero found os = Stops TooManyIncludes []
found_move rules (suc n) NoSource os = Stops SourceNotFound []
found_move rules (suc n) LongPath os = Stops PathTooLong []
found_move rules (suc n) (Source path text) os = Enters (origin_line rules path 1) os path text

-- an `include`, by the string that it is given
unfoldable pub include_move : Rules → Option (List ℕ) → List Progress → State → Move
include_move rules None os s = Stops IncludeName []
include_move rules (Some string) os s =
    if length (unquoted string) == 0 || not (is_utf8 (unquoted string)) then Stops IncludeName []
    else found_move rules s.sources_left (rules.find s.path (unquoted string)) os

-- a directive by itself, by the place where it stands
unfoldable pub single_move : (List Progress → Move) → Command → Place → State → Move
single_move live c (Live os) s = live os
single_move live c (Skipped n o os) s = skipped_move c (Skipped n o os) s

-- a directive that opens a conditional
unfoldable pub opening_move : Command → Place → State → Move
opening_move c (Live os) s = by_move (opening c s) (λ live. Moves [] (in_branch live (begun c s live) os) (in_conditional s))
opening_move c (Skipped n o os) s = skipped_move c (Skipped (suc n) o os) s

-- a branch of an open conditional, by its test
unfoldable pub turning_move : Command → Progress → List Progress → State → Move
turning_move c o os s = by_move (turn o c s) (λ live. Moves [] (in_branch live (turned o c live) os) s)

-- a branch, by the place where it stands: stray, of the innermost conditional, or skipped
unfoldable pub branching_move : Command → Place → State → Move
branching_move c (Live []) s = Stops StrayBranch []
branching_move c (Live (o ∷ os)) s = turning_move c o os s
branching_move c (Skipped zero o os) s = turning_move c o os s
branching_move c (Skipped (suc n) o os) s = skipped_move c (Skipped (suc n) o os) s

-- the end of a conditional
unfoldable pub closing_move : Command → Place → State → Move
closing_move c (Live []) s = Stops StrayBranch []
closing_move c (Live (o ∷ os)) s = Moves [] (Live os) (past_conditional s)
closing_move c (Skipped zero o os) s = Moves [] (Live os) (past_conditional s)
closing_move c (Skipped (suc n) o os) s = skipped_move c (Skipped n o os) s

-- what a directive comes to where it stands (source: IEEE 1364-2001, compiler directives)
unfoldable pub move_of : Rules → Command → Place → State → Move
move_of rules c place s = elim c.word [
  | Define ↦ single_move (λ os. define_move (rules.define s.macros (drop 7 c.text)) c (Live os) s) c place s
  | Undef ↦ single_move (λ os. undef_move (macro_name c) (Live os) s) c place s
  | Line ↦ single_move (λ os. line_move rules (renumbered (drop 5 c.text)) c (Live os) s) c place s
  | Ifdef ↦ opening_move c place s
  | Ifndef ↦ opening_move c place s
  | Elsif ↦ branching_move c place s
  | Else ↦ branching_move c place s
  | Endif ↦ closing_move c place s
  | Include ↦ single_move (λ os. include_move rules c.given os s) c place s
]

-- a directive leaves skipped text skipped, with other conditionals that opened there, whatever it is given
abbrev pub Passes : Rules → Directive → ℕ → ℕ → Progress → List Progress → Type 0
Passes rules d n m o os = (given : Option (List ℕ)) (text : List ℕ) (line : ℕ) (first : Bool) (s : State)
    → let c : Command = record { word = d; given = given; text = text; line = line; first = first } in
    move_of rules c (Skipped n o os) s ≡ skipped_move c (Skipped m o os) s
