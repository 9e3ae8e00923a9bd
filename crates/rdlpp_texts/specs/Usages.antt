-- Usages in open texts: the name that stands there, and the macro that is used.
-- A definition that names no source is this project's own.
use Rattle.rdlpp_meaning.specs.Actuals.{text_reads}
use Rattle.rdlpp_meaning.specs.Expansion.{UsageFault, usage_of}
use Rattle.std.specs.Prelude.{◌≡◌, ℕ, ◌<◌, Bool, true, false, List, [], ◌∷◌, length, take, drop, bytes_eq, Some, if◌then◌else◌}
use Rattle.std.specs.List.{list_any}
use Rattle.rdlpp_scan.specs.SourceTokens.{SourceToken}
use Rattle.rdlpp_scan.specs.Reserved.{is_reserved}
use Rattle.rdlpp_define.specs.Table.{macro_named, macro_at}
use Rattle.rdlpp_meaning.specs.declared.fault.FaultKind.{FaultKind}
use Rattle.rdlpp_meaning.specs.declared.fault.FaultKind.TheVariants.{BareBackquote, UndefinedMacro, RecursiveMacro, DirectiveInText, ArgumentsMissing, ArgumentsOpen, ArgumentCount, DepthPassed}
use Rattle.rdlpp_meaning.specs.State.{Rules, State}
use Rattle.rdlpp_meaning.specs.Opens.{Open, Texts, open_bytes, hide_set}
use Rattle.rdlpp_texts.specs.Scopes.{front_scope}
use Rattle.rdlpp_texts.specs.declared.step.CursorStep.{CursorStep}
use Rattle.rdlpp_texts.specs.declared.step.CursorStep.TheVariants.{Lends, Silent, Refused}

-- the name of a usage of so many bytes at the front of the innermost open text: what stands after its backquote (source: IEEE
-- 1364-2001, usages of macros)
unfoldable pub front_name : Texts → List Open → ℕ → List ℕ
front_name texts [] len = []
front_name texts (x ∷ below) len = drop 1 (take len (open_bytes texts x below))

-- a name in the innermost open text is that of the macro at a place of the table: no directive has it, and it doesn't stand in
-- the text of that macro (source: IEEE 1364-2001, clause on compiler directives)
pub record IsUsed (texts : Texts) (opens : List Open) (name : List ℕ) (id : ℕ) : Type 0 where
  pub inside : id < length texts.macros
  pub named : macro_named texts.macros name ≡ Some (macro_at texts.macros id)
  pub unreserved : is_reserved name ≡ false
  pub apart : list_any (bytes_eq name) (hide_set texts opens (front_scope opens)) ≡ false

-- the fault of a usage whose name no macro has (source: this project's profile)
abbrev pub unknown_kind : Bool → FaultKind
unknown_kind reserved = if reserved then DirectiveInText else UndefinedMacro

-- each run refuses a name in open texts with a fault, told under that name
unfoldable pub IsRefused : Texts → List Open → List ℕ → FaultKind → Type 0
IsRefused texts opens name kind =
    (rules : Rules) (s : State) (line : ℕ) (ts : List SourceToken) → s.macros ≡ texts.macros
    → usage_of rules s text_reads line (hide_set texts opens (front_scope opens)) name ts ≡ UsageFault kind name line

-- whether open texts end with a fault: for what stands in them, or since no further text may be open (source: this project's profile)
unfoldable pub is_text_fault : FaultKind → Bool
is_text_fault BareBackquote = true
is_text_fault UndefinedMacro = true
is_text_fault RecursiveMacro = true
is_text_fault DirectiveInText = true
is_text_fault ArgumentsMissing = true
is_text_fault ArgumentsOpen = true
is_text_fault ArgumentCount = true
is_text_fault DepthPassed = true
is_text_fault kind = false

-- a step is refused for one of those
abbrev pub IsTextFault : CursorStep → Type 0
IsTextFault (Lends place) = Unit
IsTextFault Silent = Unit
IsTextFault (Refused fault) = is_text_fault fault.kind ≡ true
