-- Open texts as parts of the texts in which they lie: a body or a default in the table, an actual in the text in which its call
-- is written. Nothing says where a text lies but its parent and what it is.
-- A definition that names no source is this project's own.
use Rattle.std.specs.Prelude.{ℕ, suc, ◌+◌, ◌-◌, ◌≤◌, ◌==◌, ◌&&◌, not, List, [], ◌∷◌, length, slice_range, slice_index_or, Option, None, Some, if◌then◌else◌}
use Rattle.std.specs.List.{AllByRecursion}
use Rattle.rdlpp_scan.specs.declared.token.Mode.{Mode}
use Rattle.rdlpp_scan.specs.declared.token.Mode.TheVariants.{Plain}
use Rattle.rdlpp_scan.specs.SourceTokens.{SourceToken}
use Rattle.rdlpp_define.specs.Macros.{Formal, Macro, formals_of}
use Rattle.rdlpp_define.specs.Table.{macro_at}
use Rattle.rdlpp_meaning.specs.TextTokens.{text_tokens}

-- a part of a text: its bytes from one place up to another, and the mode in which they are read
pub record Part : Type 0 where
  pub from : ℕ
  pub end : ℕ
  pub mode : Mode

-- what an open text is: the body of the macro at a place of the table, with the parts that are its actuals; an actual; or the
-- default of the formal at a place of such a macro
pub data OpenKind : Type 0 where
  OpenBody : ℕ → List Part → OpenKind
  OpenActual : OpenKind
  OpenDefault : ℕ → ℕ → OpenKind

-- an open text: the part of its text that is left, its parent, and what it is
pub record Open : Type 0 where
  pub part : Part
  pub parent : ℕ
  pub kind : OpenKind

-- where texts lie: the macros of the table, and what is kept of the call in the source
pub record Texts : Type 0 where
  pub macros : List Macro
  pub arguments : List ℕ

-- the formal at a place
abbrev pub formal_at : List Formal → ℕ → Formal
formal_at formals place = slice_index_or formals place (record { name = []; text = [] })

-- the part at a place
abbrev pub part_at : List Part → ℕ → Part
part_at parts place = slice_index_or parts place (record { from = 0; end = 0; mode = Plain })

-- the text of a body or of a default; an actual has none of its own
unfoldable pub own_text : Texts → OpenKind → List ℕ
own_text texts (OpenBody id parts) = (macro_at texts.macros id).body
own_text texts OpenActual = []
own_text texts (OpenDefault id place) = (formal_at (formals_of (macro_at texts.macros id)) place).text

-- the text of a scope: what is kept of the call in the source, or that of an open text
unfoldable pub scope_text : Texts → List Open → ℕ → List ℕ
scope_text texts [] k = texts.arguments
scope_text texts (inner ∷ below) k = if k == suc (length below) then own_text texts inner.kind else scope_text texts below k

-- the text in which an open text lies: an actual lies in that of its parent
unfoldable pub text_around : Texts → OpenKind → ℕ → List Open → List ℕ
text_around texts OpenActual parent below = scope_text texts below parent
text_around texts kind parent below = own_text texts kind

-- the tokens of a part of a text
unfoldable pub part_tokens : List ℕ → Part → List SourceToken
part_tokens text part = text_tokens part.mode (slice_range text part.from part.end)

-- the open text that the formal at a place of a macro stands for, in a scope whose call is written in its parent: its default, where
-- the part that is its actual has no bytes and there is a default
unfoldable pub open_standing : List Formal → ℕ → ℕ → ℕ → List Part → ℕ → Open
open_standing formals id scope parent parts place =
    if ((part_at parts place).end - (part_at parts place).from == 0) && not (length (formal_at formals place).text == 0)
    then record {
      part = record { from = 0; end = length (formal_at formals place).text; mode = Plain };
      parent = scope;
      kind = OpenDefault id place;
    }
    else record { part = part_at parts place; parent = parent; kind = OpenActual }

-- the open text that a scope is; none where it is the source
unfoldable pub scope_open : List Open → ℕ → Option Open
scope_open [] k = None
scope_open (x ∷ below) k = if k == suc (length below) then Some x else scope_open below k

-- the formals of an open text: those of the macro of a body, and else none
abbrev pub kind_formals : List Macro → OpenKind → List Formal
kind_formals macros (OpenBody id parts) = formals_of (macro_at macros id)
kind_formals macros OpenActual = []
kind_formals macros (OpenDefault id place) = []

-- those of what a scope is
abbrev pub found_formals : List Macro → Option Open → List Formal
found_formals macros None = []
found_formals macros (Some x) = kind_formals macros x.kind

-- those of a scope
abbrev pub scope_formals : List Macro → List Open → ℕ → List Formal
scope_formals macros opens k = found_formals macros (scope_open opens k)

-- the open text that the formal at a place of a body stands for
abbrev pub kind_standing : List Macro → OpenKind → ℕ → ℕ → ℕ → Option Open
kind_standing macros (OpenBody id parts) scope parent place =
    Some (open_standing (formals_of (macro_at macros id)) id scope parent parts place)
kind_standing macros OpenActual scope parent place = None
kind_standing macros (OpenDefault id own) scope parent place = None

-- the open text that the formal at a place stands for in a scope
abbrev pub found_standing : List Macro → Option Open → ℕ → ℕ → Option Open
found_standing macros None scope place = None
found_standing macros (Some x) scope place = kind_standing macros x.kind scope x.parent place

-- a body has a part for each formal of its macro, and each part lies in the text in which its call is written
abbrev pub HasParts : Texts → List ℕ → OpenKind → Type 0
HasParts texts text (OpenBody id parts) =
    (length (formals_of (macro_at texts.macros id)) ≤ length parts) × AllByRecursion (λ part. part.end ≤ length text) parts
HasParts texts text OpenActual = Unit
HasParts texts text (OpenDefault id place) = Unit

-- what holds of open texts: each parent is a scope further out, and each body has its parts
abbrev pub AreOpen : Texts → List Open → Type 0
AreOpen texts [] = Unit
AreOpen texts (inner ∷ below) =
    (inner.parent ≤ length below) × (HasParts texts (scope_text texts below inner.parent) inner.kind × AreOpen texts below)

-- the scope of what is written in an open text, with the texts around it: an actual is no scope of its own
unfoldable pub open_scope : Open → List Open → ℕ
open_scope x below = elim x.kind [ OpenActual ↦ x.parent | _ ↦ suc (length below) ]

-- the bytes that are left of an open text, in front of others
unfoldable pub open_bytes : Texts → Open → List Open → List ℕ
open_bytes texts x below = slice_range (text_around texts x.kind x.parent below) x.part.from x.part.end

-- an open text after so many of its bytes, where what is after them is read in a mode
unfoldable pub open_after : Open → ℕ → Mode → Open
open_after x n mode = record {
  part = record { from = x.part.from + n; end = x.part.end; mode = mode };
  parent = x.parent;
  kind = x.kind;
}

-- the body of the macro at a place, opened by a call in a scope that has these parts as actuals
unfoldable pub open_body : Texts → ℕ → List Part → ℕ → Open
open_body texts id parts parent = record {
  part = record { from = 0; end = length (macro_at texts.macros id).body; mode = Plain };
  parent = parent;
  kind = OpenBody id parts;
}

-- the macros in whose text a scope is, by what it is and those of its parent
unfoldable pub own_hide_set : Texts → OpenKind → List (List ℕ) → List (List ℕ)
own_hide_set texts (OpenBody id parts) hidden = (macro_at texts.macros id).name ∷ hidden
own_hide_set texts OpenActual hidden = []
own_hide_set texts (OpenDefault id place) hidden = hidden

-- the macros in whose text a scope is: those of the bodies down the chain of parents
unfoldable pub hide_set : Texts → List Open → ℕ → List (List ℕ)
hide_set texts [] k = []
hide_set texts (x ∷ below) k =
    if k == suc (length below) then own_hide_set texts x.kind (hide_set texts below x.parent) else hide_set texts below k
