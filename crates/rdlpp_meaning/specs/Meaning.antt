-- The meaning of parts: what they write, the state after them, and the fault that ends them.
-- A definition that names no source is this project's own.
use Rattle.std.specs.Prelude.{◌≡◌, ℕ, zero, suc, ◌+◌, ◌-◌, ◌*◌, Bool, true, false, not, ◌&&◌, ◌||◌, ◌==◌, nat_le, List, [], ◌∷◌, ◌++◌, length, take, drop, bytes_eq, slice_index, fold, Option, None, Some, codes, decimal, is_some, if◌then◌else◌}
use Rattle.std.specs.List.{prefix_len}
use Rattle.std.specs.Str.{is_utf8}
use Rattle.rdlpp_scan.specs.declared.token.Directive.{Directive}
use Rattle.rdlpp_scan.specs.declared.token.Directive.TheVariants.{Define, Undef, Ifndef, Else, Include, Line}
use Rattle.rdlpp_scan.specs.Bytes.{is_blank, is_digit}
use Rattle.rdlpp_scan.specs.SourceTokens.{Broken, SourceToken}
use Rattle.rdlpp_scan.specs.Reserved.{is_reserved}
use Rattle.rdlpp_define.specs.Table.{macro_named, without}
use Rattle.rdlpp_meaning.specs.declared.fault.FaultKind.{FaultKind}
use Rattle.rdlpp_meaning.specs.declared.fault.FaultKind.TheVariants.{NameExpected, ReservedName, StrayBranch, BranchAfterElse, OpenConditional, TooManyConditionals, IncludeName, SourceNotFound, TooManyIncludes, BadLine, PathTooLong}
use Rattle.rdlpp_meaning.specs.Outcome.{Report, Outcome, gives, fails, and_then}
use Rattle.rdlpp_meaning.specs.State.{Defined, Accepted, DefinitionFault, Lookup, NoSource, LongPath, Source, Rules, no_shift, shown_line, State, fault_at, breach_kind}
use Rattle.rdlpp_meaning.specs.Expansion.{run_outcome}
use Rattle.rdlpp_meaning.specs.Parts.{Command, Parts, Nothing, More, Part, Text, Alone, Stray, Conditional, Branches, Unclosed, Closed, Branch, line_ends_of, parts_of}

-- what parts come to: bytes, the fault that ends them, if one does, and the state after them (source: this project's profile)
pub record Passage : Type 0 where
  pub bytes : List ℕ
  pub fault : Option Report
  pub after : State

-- an outcome that leaves a state
unfoldable pub leaves : Outcome → State → Passage
leaves o s = record { bytes = o.bytes; fault = o.fault; after = s }

-- what a passage writes, and its fault
unfoldable pub outcome : Passage → Outcome
outcome p = record { bytes = p.bytes; fault = p.fault }

-- bytes in front of a passage
unfoldable pub after_bytes : List ℕ → Passage → Passage
after_bytes bytes p = record { bytes = bytes ++ p.bytes; fault = p.fault; after = p.after }

-- a passage and what goes on from its state, which counts for nothing after a fault (source: this project's profile)
unfoldable pub goes_on : Passage → (State → Passage) → Passage
goes_on p next = elim p.fault [ None ↦ after_bytes p.bytes (next p.after) | Some f ↦ p ]

-- a fault of a directive, which writes nothing
unfoldable pub refusal : FaultKind → List ℕ → Command → State → Passage
refusal kind word c s = leaves (fails (fault_at kind c.line word s)) s

-- what an included text means from the state at its beginning; none where no more sources may be opened
abbrev pub IncludedMeaning : Type 0
IncludedMeaning = Option (State → List ℕ → Passage)

-- the LF bytes of skipped tokens, up to the fault of a broken one (source: this project's profile)
unfoldable pub skipped_run : State → List SourceToken → Outcome
skipped_run s [] = gives []
skipped_run s (t ∷ ts) = and_then (gives (line_ends_of t.bytes)) (elim t.sort [
  | Broken b ↦ fails (fault_at (breach_kind b) t.line [] s)
  | _ ↦ skipped_run s ts
])

-- a token that is skipped comes to an outcome in front of each skipped run
unfoldable pub SkipsAs : State → SourceToken → Outcome → Type 0
SkipsAs s t o = (us : List SourceToken) → skipped_run s (t ∷ us) ≡ and_then o (skipped_run s us)

-- the LF bytes of a skipped directive
unfoldable pub skipped_command : Command → Outcome
skipped_command c = gives (line_ends_of c.text)

-- what skipped parts write (source: this project's profile)
unfoldable mutual
  pub skip : State → Parts → Outcome
  skip s Nothing = gives []
  skip s (More p ps) = and_then (skip_part s p) (skip s ps)

  -- what a skipped part writes
  pub skip_part : State → Part → Outcome
  skip_part s (Text ts) = skipped_run s ts
  skip_part s (Alone c) = skipped_command c
  skip_part s (Stray c) = skipped_command c
  skip_part s (Conditional c ps bs) = and_then (skipped_command c) (and_then (skip s ps) (skip_branches s bs))

  -- what skipped further branches write
  pub skip_branches : State → Branches → Outcome
  skip_branches s Unclosed = gives []
  skip_branches s (Closed c) = skipped_command c
  skip_branches s (Branch c ps bs) = and_then (skipped_command c) (and_then (skip s ps) (skip_branches s bs))

-- the name that a directive is given, or its fault
pub data Checked : Type 0 where
  Fine : List ℕ → Checked
  NameFault : FaultKind → List ℕ → Checked

-- the name of a macro that a directive is given (source: IEEE 1364-2001, compiler directives)
unfoldable pub macro_name : Command → Checked
macro_name c = elim c.given [
  | None ↦ NameFault NameExpected []
  | Some name ↦ if is_reserved name then NameFault ReservedName name else Fine name
]

-- a `define`, by what it does to the macros (source: IEEE 1364-2001, `define`)
unfoldable pub defines : Defined → Command → State → Passage
defines (Accepted macros) c s = leaves (gives (line_ends_of c.text)) (record s { macros = macros })
defines (DefinitionFault kind word) c s = refusal kind word c s

-- an `undef` (source: IEEE 1364-2001, `undef`)
unfoldable pub undefines : Checked → Command → State → Passage
undefines (Fine name) c s = leaves (gives []) (record s { macros = without name s.macros })
undefines (NameFault kind word) c s = refusal kind word c s

-- an origin line, where asked for (source: this project's profile)
unfoldable pub origin_line : Rules → List ℕ → ℕ → List ℕ
origin_line rules name line =
    if rules.origins then codes "// origin: " ++ name ++ 58 ∷ decimal line ++ 10 ∷ [] else []

-- the state at the beginning of an included text
unfoldable pub at_start_of : List ℕ → State → State
at_start_of path s = record s { path = path; name = path; shift = no_shift; sources_left = s.sources_left - 1 }

-- the state after an included text: its macros, in the file that included it
unfoldable pub back_in : State → State → State
back_in s after = record s { macros = after.macros }

-- the LF that an included text is followed by, where it isn't empty and doesn't end in one (source: this project's profile)
unfoldable pub added_end : List ℕ → List ℕ
added_end [] = []
added_end text = if slice_index text (length text - 1) == 10 then [] else 10 ∷ []

-- an included text with its origin lines (source: IEEE 1364-2001, `include`)
unfoldable pub includes : Rules → (State → List ℕ → Passage) → List ℕ → List ℕ → Command → State → Passage
includes rules within path text c s =
    after_bytes (origin_line rules path 1)
    (goes_on (within (at_start_of path s) text) (λ after.
    leaves (gives (added_end text ++ origin_line rules s.name (shown_line s.shift c.line))) (back_in s after)))

-- an `include` of what was found (source: this project's profile)
unfoldable pub includes_found : Rules → (State → List ℕ → Passage) → Lookup → Command → State → Passage
includes_found rules within NoSource c s = refusal SourceNotFound [] c s
includes_found rules within LongPath c s = refusal PathTooLong [] c s
includes_found rules within (Source path text) c s = includes rules within path text c s

-- the bytes between the quotes of a string
unfoldable pub unquoted : List ℕ → List ℕ
unquoted bytes = take (length bytes - 2) (drop 1 bytes)

-- an `include` of a string (source: IEEE 1364-2001, `include`)
unfoldable pub includes_named : Rules → IncludedMeaning → List ℕ → Command → State → Passage
includes_named rules included_meaning name c s =
    if length name == 0 || not (is_utf8 name) then refusal IncludeName [] c s
    else elim included_meaning [
      | None ↦ refusal TooManyIncludes [] c s
      | Some within ↦ includes_found rules within (rules.find s.path name) c s
    ]

-- an `include` by the string that it is given, if it is given one (source: IEEE 1364-2001, `include`)
unfoldable pub includes_given : Rules → IncludedMeaning → Option (List ℕ) → Command → State → Passage
includes_given rules included_meaning None c s = refusal IncludeName [] c s
includes_given rules included_meaning (Some string) c s = includes_named rules included_meaning (unquoted string) c s

-- where a string ends that begins after its quote: the place of its closing quote, if it has one; the flag says that a
-- backslash takes the first byte along (source: IEEE 1364-2001, strings)
unfoldable pub quote_place : Bool → List ℕ → Option ℕ
quote_place taken [] = None
quote_place true (b ∷ bs) = elim (quote_place false bs) [ None ↦ None | Some n ↦ Some (suc n) ]
quote_place false (b ∷ bs) = if b == 34 then Some 0
    else elim (quote_place (b == 92) bs) [ None ↦ None | Some n ↦ Some (suc n) ]

-- text without the blanks at its front
unfoldable pub past_blank_bytes : List ℕ → List ℕ
past_blank_bytes bytes = drop (prefix_len is_blank bytes) bytes

-- the number that decimal digits spell
unfoldable pub digits_value : List ℕ → ℕ
digits_value digits = fold (λ n b. n * 10 + (b - 48)) 0 digits

-- whether the rest of a `line` after its name is a level: `0`, `1` or `2`, and blanks up to the line's end (source: IEEE 1364-2001, `line`)
unfoldable pub is_level : List ℕ → Bool
is_level bytes =
    let following = past_blank_bytes (drop 1 bytes) in
    nat_le 48 (slice_index bytes 0) && nat_le (slice_index bytes 0) 50
    && (length following == 0 || bytes_eq following (10 ∷ []))

-- the number and the name that a `line` gives
pub record Renumbered : Type 0 where
  pub number : ℕ
  pub name : List ℕ

-- the number and the name of a `line` by what stands after its number (source: IEEE 1364-2001, `line`)
unfoldable pub renumbered_name : ℕ → List ℕ → Option Renumbered
renumbered_name number bytes =
    if slice_index bytes 0 == 34 then elim (quote_place false (drop 1 bytes)) [
      | None ↦ None
      | Some n ↦
          let name = take n (drop 1 bytes) in
          if nat_le 1 n && nat_le n 1024 && is_utf8 name && is_level (past_blank_bytes (drop (n + 2) bytes))
          then Some (record { number = number; name = name }) else None
    ] else None

-- the number and the name of a `line` by the rest of its line (source: IEEE 1364-2001, `line`)
unfoldable pub renumbered : List ℕ → Option Renumbered
renumbered rest =
    let bytes = past_blank_bytes rest in
    let len = prefix_len is_digit bytes in
    let number = digits_value (take len bytes) in
    if nat_le 1 number && nat_le number 2147483647
    then renumbered_name number (past_blank_bytes (drop len bytes)) else None

-- a `line` (source: IEEE 1364-2001, `line`)
unfoldable pub renumbers : Rules → Option Renumbered → Command → State → Passage
renumbers rules None c s = refusal BadLine [] c s
renumbers rules (Some r) c s =
    if c.first
    then leaves (gives (line_ends_of c.text ++ origin_line rules r.name r.number))
    (record s { name = r.name; shift = record { from = suc c.line; number = r.number } })
    else refusal BadLine [] c s

-- a directive by itself (source: IEEE 1364-2001, compiler directives)
unfoldable pub single : Rules → IncludedMeaning → Command → State → Passage
single rules included_meaning c s = elim c.word [
  | Define ↦ defines (rules.define s.macros (drop 7 c.text)) c s
  | Undef ↦ undefines (macro_name c) c s
  | Include ↦ includes_given rules included_meaning c.given c s
  | Line ↦ renumbers rules (renumbered (drop 5 c.text)) c s
  | _ ↦ leaves (gives []) s
]

-- an open conditional: the line that its first directive showed, whether a branch was taken, and whether `else` came (source: this project's profile)
pub record Progress : Type 0 where
  pub line : ℕ
  pub taken : Bool
  pub closing : Bool

-- a test: its fault, or whether what follows is live
pub data Test : Type 0 where
  TestFault : FaultKind → List ℕ → Test
  Holds : Bool → Test

-- what a directive with a test comes to: its fault, or what goes on in live or in skipped text
unfoldable pub by_test : Test → Command → State → (State → Passage) → (State → Passage) → Passage
by_test (TestFault kind word) c s live skipped = refusal kind word c s
by_test (Holds true) c s live skipped = live s
by_test (Holds false) c s live skipped = skipped s

-- whether a macro of a name is defined
unfoldable pub is_defined : State → List ℕ → Bool
is_defined s name = is_some (macro_named s.macros name)

-- the test of a directive that is given a name, where its name is to be defined or not
unfoldable pub name_test : Bool → Checked → State → Test
name_test defined (Fine name) s = Holds (if defined then is_defined s name else not (is_defined s name))
name_test defined (NameFault kind word) s = TestFault kind word

-- whether the first branch of a conditional is to have its name defined: not after `ifndef` (source: IEEE 1364-2001, `ifdef`)
unfoldable pub wants_defined : Directive → Bool
wants_defined Ifndef = false
wants_defined d = true

-- a test that opens a conditional, where so many more may be opened
unfoldable pub opening_within : ℕ → Test → Test
opening_within k (TestFault kind word) = TestFault kind word
opening_within zero (Holds live) = TestFault TooManyConditionals []
opening_within (suc k) (Holds live) = Holds live

-- the test of an `ifdef` or `ifndef` (source: IEEE 1364-2001, `ifdef`)
unfoldable pub opening : Command → State → Test
opening c s = opening_within s.conditions_left (name_test (wants_defined c.word) (macro_name c) s)

-- the state in a conditional that was opened
unfoldable pub in_conditional : State → State
in_conditional s = record s { conditions_left = s.conditions_left - 1 }

-- the state after a conditional
unfoldable pub past_conditional : State → State
past_conditional s = record s { conditions_left = suc s.conditions_left }

-- a conditional as it is opened
unfoldable pub begun : Command → State → Bool → Progress
begun c s live = record { line = shown_line s.shift c.line; taken = live; closing = false }

-- whether a directive is an `else`
unfoldable pub is_else : Directive → Bool
is_else Else = true
is_else d = false

-- the test of a branch of an open conditional (source: IEEE 1364-2001, `elsif`, `else`)
unfoldable pub turn : Progress → Command → State → Test
turn o c s =
    if o.closing then TestFault BranchAfterElse []
    else (if is_else c.word then Holds (not o.taken)
    else (if o.taken then Holds false else name_test true (macro_name c) s))

-- an open conditional after a branch
unfoldable pub turned : Progress → Command → Bool → Progress
turned o c live = record { line = o.line; taken = o.taken || live; closing = is_else c.word }

-- a conditional that its file doesn't close, at the line that it showed (source: this project's profile)
unfoldable pub unclosed : Progress → State → Passage
unclosed o s = leaves (fails (record { kind = OpenConditional; name = s.name; line = o.line; word = [] })) s

-- what parts write, the state after them, and the fault that ends them (source: IEEE 1364-2001, compiler directives)
unfoldable mutual
  pub mean : Rules → IncludedMeaning → Parts → State → Passage
  mean rules included_meaning Nothing s = leaves (gives []) s
  mean rules included_meaning (More p ps) s = goes_on (mean_part rules included_meaning p s) (λ after. mean rules included_meaning ps after)

  -- what a part comes to
  pub mean_part : Rules → IncludedMeaning → Part → State → Passage
  mean_part rules included_meaning (Text ts) s = leaves (run_outcome rules s ts) s
  mean_part rules included_meaning (Alone c) s = single rules included_meaning c s
  mean_part rules included_meaning (Stray c) s = refusal StrayBranch [] c s
  mean_part rules included_meaning (Conditional c ps bs) s = by_test (opening c s) c s
      (λ t. goes_on (mean rules included_meaning ps (in_conditional t)) (λ after. mean_branches rules included_meaning bs (begun c t true) after))
      (λ t. goes_on (leaves (skip (in_conditional t) ps) (in_conditional t)) (λ after. mean_branches rules included_meaning bs (begun c t false) after))

  -- what the further branches of an open conditional come to
  pub mean_branches : Rules → IncludedMeaning → Branches → Progress → State → Passage
  mean_branches rules included_meaning Unclosed o s = unclosed o s
  mean_branches rules included_meaning (Closed c) o s = leaves (gives []) (past_conditional s)
  mean_branches rules included_meaning (Branch c ps bs) o s = by_test (turn o c s) c s
      (λ t. goes_on (mean rules included_meaning ps t) (λ after. mean_branches rules included_meaning bs (turned o c true) after))
      (λ t. goes_on (leaves (skip t ps) t) (λ after. mean_branches rules included_meaning bs (turned o c false) after))

-- what an included text means, where so many sources may be opened in it (source: this project's profile)
unfoldable pub included_meaning_of : Rules → ℕ → IncludedMeaning
included_meaning_of rules zero = None
included_meaning_of rules (suc n) = Some (λ s text. mean rules (included_meaning_of rules n) (parts_of (rules.tokens text)) s)

-- what a text means (source: this project's profile)
unfoldable pub text_meaning : Rules → State → List ℕ → Passage
text_meaning rules s text = mean rules (included_meaning_of rules s.sources_left) (parts_of (rules.tokens text)) s
