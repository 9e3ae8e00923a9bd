-- One step of open texts: what it lends, and what remains after it.
-- A definition that names no source is this project's own.
use Rattle.std.specs.Prelude.{◌≡◌, ℕ, ◌<◌, ◌≤◌, true, List, [], ◌∷◌, length}
use Rattle.std.specs.List.{AllByRecursion, list_all}
use Rattle.rdlpp_scan.specs.Bytes.{is_word}
use Rattle.rdlpp_scan.specs.declared.token.Mode.TheVariants.{Plain}
use Rattle.rdlpp_define.specs.Macros.{Macro, formals_of}
use Rattle.rdlpp_define.specs.Table.{macro_at}
use Rattle.rdlpp_meaning.specs.declared.fault.FaultKind.{FaultKind}
use Rattle.rdlpp_meaning.specs.Outcome.{gives, fails, and_then}
use Rattle.rdlpp_meaning.specs.State.{Rules, State, fault_at}
use Rattle.rdlpp_meaning.specs.Opens.{OpenKind, OpenBody, OpenActual, OpenDefault, Open, Texts, scope_text, text_around, part_tokens, AreOpen}
use Rattle.rdlpp_meaning.specs.OpenItems.{open_left}
use Rattle.rdlpp_texts.specs.BoundCalls.{KeepsAll}
use Rattle.rdlpp_texts.specs.Opened.{CursorsView}
use Rattle.rdlpp_texts.specs.Places.{place_bytes, IsPlaced}
use Rattle.rdlpp_texts.specs.declared.place.TextSource.TheVariants.{Arguments}
use Rattle.rdlpp_texts.specs.declared.step.CursorStep.{CursorStep}
use Rattle.rdlpp_texts.specs.declared.step.CursorStep.TheVariants.{Lends, Silent, Refused}

-- a fault without a word
abbrev pub wordless : FaultKind → CursorStep
wordless kind = Refused (record { kind = kind; word = record { source = Arguments; from = 0; end = 0 } })

-- what a step comes to by the rules of a run: bytes of a text and then what remains, nothing but what remained, or a fault at the line
-- of the usage in the source
unfoldable pub StepsTo : Rules → State → ℕ → ℕ → Texts → List Open → CursorStep → List Open → Type 0
StepsTo rules s line depth texts old (Lends place) new =
    open_left rules s line depth texts old ≡ and_then (gives (place_bytes texts place)) (open_left rules s line depth texts new)
StepsTo rules s line depth texts old Silent new = open_left rules s line depth texts old ≡ open_left rules s line depth texts new
StepsTo rules s line depth texts old (Refused fault) new =
    open_left rules s line depth texts old ≡ fails (fault_at fault.kind line (place_bytes texts fault.word) s)

-- a step is that of each run whose macros are those of the texts
unfoldable pub IsStep : ℕ → ℕ → Texts → List Open → CursorStep → List Open → Type 0
IsStep line depth texts old step new =
    (rules : Rules) (s : State) → s.macros ≡ texts.macros
    → StepsTo rules s line depth texts old step new

-- the macro of an open text is in the table
abbrev pub IsKnown : List Macro → OpenKind → Type 0
IsKnown macros (OpenBody id parts) = id < length macros
IsKnown macros OpenActual = Unit
IsKnown macros (OpenDefault id place) = (id < length macros) × (place < length (formals_of (macro_at macros id)))

-- each open text lies in its text and is read from plain text on, and its macro is in the table
abbrev pub AreInside : Texts → List Open → Type 0
AreInside texts [] = Unit
AreInside texts (x ∷ below) =
    IsKnown texts.macros x.kind × ((x.part.end ≤ length (text_around texts x.kind x.parent below)) × ((x.part.mode ≡ Plain) × AreInside texts below))

-- no call in the actuals of a body, which lie in a text, drops a token
abbrev pub KeepActuals : List ℕ → OpenKind → Type 0
KeepActuals text (OpenBody id parts) = AllByRecursion (λ part. KeepsAll (part_tokens text part)) parts
KeepActuals text OpenActual = Unit
KeepActuals text (OpenDefault id place) = Unit

-- no call in what is left of an open text drops a token, nor one in its actuals (source: this project's profile)
abbrev pub AreKept : Texts → List Open → Type 0
AreKept texts [] = Unit
AreKept texts (x ∷ below) =
    KeepsAll (part_tokens (text_around texts x.kind x.parent below) x.part) × (KeepActuals (scope_text texts below x.parent) x.kind × AreKept texts below)

-- what holds of open texts between steps: their parents are further out, their parts lie in their texts, and so do they, and no
-- call in them drops a token
pub record AreSound (texts : Texts) (opens : List Open) : Type 0 where
  pub are_open : AreOpen texts opens
  pub are_inside : AreInside texts opens
  pub are_kept : AreKept texts opens

-- nothing has opened or moved after a fault
unfoldable pub StaysRefused : CursorsView → CursorStep → CursorsView → Type 0
StaysRefused old (Lends place) new = Unit
StaysRefused old Silent new = Unit
StaysRefused old (Refused fault) new = new ≡ old

-- the bytes that a step lends lie in their text, and so does the word of its fault
unfoldable pub IsPlacedStep : Texts → CursorStep → Type 0
IsPlacedStep texts (Lends place) = IsPlaced texts place
IsPlacedStep texts Silent = Unit
IsPlacedStep texts (Refused fault) = IsPlaced texts fault.word

-- a text stays open after bytes that a step lends
abbrev pub KeepsOpen : CursorStep → List Open → Type 0
KeepsOpen (Lends place) new = 0 < length new
KeepsOpen Silent new = Unit
KeepsOpen (Refused fault) new = Unit

-- a step lends nothing
abbrev pub IsUnlent : CursorStep → Type 0
IsUnlent (Lends place) = ⊥
IsUnlent Silent = Unit
IsUnlent (Refused fault) = Unit

-- the word of a fault is letters, digits and `_`, or empty
abbrev pub NamesWord : Texts → CursorStep → Type 0
NamesWord texts (Lends place) = Unit
NamesWord texts Silent = Unit
NamesWord texts (Refused fault) = list_all is_word (place_bytes texts fault.word) ≡ true
