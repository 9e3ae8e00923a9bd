-- The line that reports a fault.
-- A definition that names no source is this project's own.
use Rattle.std.specs.Prelude.{ℕ, List, [], ◌∷◌, ◌++◌, codes, decimal, Option, Result}
use Rattle.std.specs.List.{concat}
use Rattle.rdlpp_define.specs.Limits.{limit_name}
use Rattle.rdlpp_meaning.specs.declared.fault.Fault.{Fault}
use Rattle.rdlpp_meaning.specs.FaultNumbers.{fault_number}
use Rattle.rdlpp_reports.specs.Writes.{Writes}
use Rattle.rdlpp.specs.declared.fault.PrepFault.{PrepFault}
use Rattle.rdlpp.specs.declared.fault.PrepFault.TheVariants.{BadLimits, NoMemory, Run}

-- the end of a line: a blank and the word that the fault is about in quotes, where there is one, and LF (source: this project's profile)
abbrev pub line_end : List ℕ → List ℕ
line_end [] = codes "\n"
line_end (b ∷ bs) = concat (codes " '" ∷ (b ∷ bs) ∷ codes "'\n" ∷ [])

-- the line of a fault whose kind has this text: `NAME:LINE: error FNUMBER: TEXT 'WORD'` and LF (source: this project's profile)
abbrev pub fault_line : List ℕ → Fault → List ℕ
fault_line text f =
    concat (f.name.bytes ∷ codes ":" ∷ decimal f.line ∷ codes ": error F" ∷ decimal (fault_number f.kind) ∷ codes ": " ∷ text ∷ [])
    ++ line_end f.word.bytes

-- the line that reports a fault (source: this project's profile)
abbrev pub report_line : List ℕ → PrepFault → List ℕ
report_line text (BadLimits limit) = concat (codes "rdlpp: error: limit " ∷ limit_name limit ∷ codes " out of range\n" ∷ [])
report_line text NoMemory = codes "rdlpp: error: out of memory\n"
report_line text (Run run) = fault_line text run.fault

-- the known bytes grew by the line that reports a fault, with some text of its kind, or where that failed by the first bytes of such a line
-- (source: this project's profile)
abbrev pub Reports : {T E : Type 0} → Option (List ℕ) → Option (List ℕ) → PrepFault → Result T E → Type 0
Reports old new fault result = (text : List ℕ) × Writes old new (report_line text fault) result
