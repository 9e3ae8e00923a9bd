-- Expansion: the bytes of items, with each usage replaced by what its macro stands for.
-- A definition that names no source is this project's own.
use Rattle.std.specs.Prelude.{ℕ, zero, suc, Bool, true, false, ◌&&◌, ◌==◌, List, [], ◌∷◌, map, length, drop, bytes_eq, Option, None, Some, unwrap_or, if◌then◌else◌}
use Rattle.std.specs.List.{flat_map, list_any}
use Rattle.rdlpp_scan.specs.declared.token.Kind.TheVariants.{Back, BareBackquote}
use Rattle.rdlpp_scan.specs.SourceTokens.{Ordinary, Broken, SourceToken}
use Rattle.rdlpp_scan.specs.Reserved.{is_reserved}
use Rattle.rdlpp_define.specs.Macros.{Formal, Macro}
use Rattle.rdlpp_define.specs.Table.{macro_named}
use Rattle.rdlpp_meaning.specs.declared.fault.FaultKind.{FaultKind}
use Rattle.rdlpp_meaning.specs.declared.fault.FaultKind.TheVariants.{BareBackquote as NoName, UndefinedMacro, RecursiveMacro, DirectiveInText, ArgumentCount, DepthPassed}
use Rattle.rdlpp_meaning.specs.Outcome.{Outcome, gives, fails, and_then}
use Rattle.rdlpp_meaning.specs.State.{Rules, State, fault_at, breach_kind}
use Rattle.rdlpp_meaning.specs.Items.{Item, Written, Arg, listed}
use Rattle.rdlpp_meaning.specs.Actuals.{Call, CallFault, CallBreakFault, Bound, Reads, item_reads, actual_of}
use Rattle.rdlpp_meaning.specs.Substitution.{substituted}
use Rattle.rdlpp_meaning.specs.CallScan.{call_of}

-- what a usage comes to: a fault with its word and line, or a macro whose body is opened, its actuals, and how many things
-- the usage took after its name (source: this project's profile)
pub data Usage (A : Type 0) : Type 0 where
  UsageFault : FaultKind → List ℕ → ℕ → Usage A
  Opens : Macro → List (List A) → ℕ → Usage A

-- the name after a backquote
unfoldable pub name_of : SourceToken → List ℕ
name_of t = drop 1 t.bytes

-- whether a list of no formals is met by one part without things, or one of so many formals by as many parts (source: this project's profile)
unfoldable pub is_count : {A : Type 0} → List Formal → List (List A) → Bool
is_count [] parts = length parts == 1 && list_any (λ part. length part == 0) parts
is_count (f ∷ fs) parts = length parts == length (f ∷ fs)

-- the actuals of a call by its parts: one part without items counts as none, where the macro has no formals (source: this project's profile)
unfoldable pub bound_parts : {A : Type 0} → List Formal → List A → List A
bound_parts [] parts = []
bound_parts (f ∷ fs) parts = parts

-- a call of a macro with these formals, by what it comes to (source: this project's profile)
unfoldable pub usage_of_call : {A : Type 0} → Reads A → Macro → List Formal → ℕ → List ℕ → Call A → Usage A
usage_of_call reads m formals line name (CallFault f) = UsageFault f name line
usage_of_call reads m formals line name (CallBreakFault f own) = UsageFault f [] own
usage_of_call reads m formals line name (Bound first further used) =
    let parts = map (actual_of reads) (first ∷ further) in
    if is_count formals parts then Opens m (bound_parts formals parts) used else UsageFault ArgumentCount name line

-- a usage of a macro by the list of formals that it has, if it has one (source: IEEE 1364-2001, `define`)
unfoldable pub usage_of_formals : {A : Type 0} → Rules → Reads A → ℕ → List ℕ → List A → Macro → Option (List Formal) → Usage A
usage_of_formals rules reads line name xs m None = Opens m [] 0
usage_of_formals rules reads line name xs m (Some formals) =
    usage_of_call reads m formals line name (call_of reads.role reads.size rules.argument_bytes xs)

-- a usage of a macro that is defined, in the text of the macros o (source: this project's profile)
unfoldable pub usage_of_macro : {A : Type 0} → Rules → Reads A → ℕ → List (List ℕ) → List ℕ → List A → Macro → Usage A
usage_of_macro rules reads line o name xs m =
    if list_any (bytes_eq name) o then UsageFault RecursiveMacro name line
    else usage_of_formals rules reads line name xs m m.formals

-- a usage of a name, with the things after it (source: this project's profile)
unfoldable pub usage_of : {A : Type 0} → Rules → State → Reads A → ℕ → List (List ℕ) → List ℕ → List A → Usage A
usage_of rules s reads line o name xs =
    if is_reserved name then UsageFault DirectiveInText name line
    else elim (macro_named s.macros name) [
      | None ↦ UsageFault UndefinedMacro name line
      | Some m ↦ usage_of_macro rules reads line o name xs m
    ]

-- the bytes of items in the text of the macros o, after so many items are passed over, where `deeper` expands the items of
-- a mark or of a body that a usage at a line opens; `line_or_text` has the line of the outermost usage, and none in a source
-- (source: this project's profile)
unfoldable pub walk : Rules → State → (ℕ → List (List ℕ) → List Item → Outcome) → Option ℕ → List (List ℕ) → ℕ → List Item → Outcome
walk rules s deeper line_or_text o skip [] = gives []
walk rules s deeper line_or_text o (suc skip) (x ∷ xs) = walk rules s deeper line_or_text o skip xs
walk rules s deeper line_or_text o zero (Arg p g ∷ xs) =
    and_then (deeper (unwrap_or line_or_text 0) p (listed g)) (walk rules s deeper line_or_text o 0 xs)
walk rules s deeper line_or_text o zero (Written t ∷ xs) = elim t.sort [
  | Ordinary k ↦ elim k [
    | Back ↦ elim (usage_of rules s (item_reads line_or_text) (unwrap_or line_or_text t.line) o (name_of t) xs) [
      | UsageFault f word line ↦ fails (fault_at f line word s)
      | Opens m actuals used ↦ and_then
          (deeper (unwrap_or line_or_text t.line) (m.name ∷ o) (substituted m actuals o))
          (walk rules s deeper line_or_text o used xs)
    ]
    | BareBackquote ↦ fails (fault_at NoName (unwrap_or line_or_text t.line) [] s)
    | _ ↦ and_then (gives t.bytes) (walk rules s deeper line_or_text o 0 xs)
  ]
  | Broken b ↦ and_then (gives t.bytes) (fails (fault_at (breach_kind b) t.line [] s))
  | _ ↦ and_then (gives t.bytes) (walk rules s deeper line_or_text o 0 xs)
]

-- the bytes of items in the text of the macros o, where so many further bodies and actuals may be open (source: this project's profile)
unfoldable pub expand : Rules → State → ℕ → Option ℕ → List (List ℕ) → List Item → Outcome
expand rules s zero line_or_text o items =
    walk rules s (λ line p g. fails (fault_at DepthPassed line [] s)) line_or_text o 0 items
expand rules s (suc d) line_or_text o items =
    walk rules s (λ line p g. expand rules s d (Some line) p g) line_or_text o 0 items

-- a backquote with a name, as a token of a source
abbrev pub usage_token : List ℕ → ℕ → SourceToken
usage_token name line = record { sort = Ordinary Back; bytes = 96 ∷ name; line = line }

-- the bytes of tokens
abbrev pub bytes_of : List SourceToken → List ℕ
bytes_of ts = flat_map (λ t. t.bytes) ts

-- whether a token of a source is copied: neither a usage nor a lone backquote (source: this project's profile)
unfoldable pub is_copied : SourceToken → Bool
is_copied t = elim t.sort [
  | Ordinary k ↦ elim k [ Back ↦ false | BareBackquote ↦ false | _ ↦ true ]
  | _ ↦ false
]

-- the bytes of a run of a source's tokens (source: this project's profile)
unfoldable pub run_outcome : Rules → State → List SourceToken → Outcome
run_outcome rules s ts = expand rules s rules.depth None [] (map Written ts)
