-- What a text comes to: bytes, and the fault that ends it, if one does.
-- A definition that names no source is this project's own.
use Rattle.std.specs.Prelude.{ℕ, List, [], ◌++◌, Option, None, Some}
use Rattle.rdlpp_meaning.specs.declared.fault.FaultKind.{FaultKind}
use Rattle.rdlpp_meaning.specs.declared.fault.Fault.{Fault}

-- a fault as told: its kind, the shown name and line, and the name that it is about (source: this project's profile)
pub record Report : Type 0 where
  pub kind : FaultKind
  pub name : List ℕ
  pub line : ℕ
  pub word : List ℕ

-- what a fault tells (source: this project's profile)
unfoldable pub report_of : Fault → Report
report_of f = record { kind = f.kind; name = f.name.bytes; line = f.line; word = f.word.bytes }

-- bytes, and the fault that ends them, if one does (source: this project's profile)
pub record Outcome : Type 0 where
  pub bytes : List ℕ
  pub fault : Option Report

-- bytes alone (source: this project's profile)
unfoldable pub gives : List ℕ → Outcome
gives bytes = record { bytes = bytes; fault = None }

-- a fault, and no bytes (source: this project's profile)
unfoldable pub fails : Report → Outcome
fails f = record { bytes = []; fault = Some f }

-- one outcome and then another, which counts for nothing after a fault (source: this project's profile)
unfoldable pub and_then : Outcome → Outcome → Outcome
and_then a b = elim a.fault [
  | None ↦ record { bytes = a.bytes ++ b.bytes; fault = b.fault }
  | Some f ↦ a
]
