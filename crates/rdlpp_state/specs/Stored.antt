-- What an engine holds of the texts that it reads: a part of each open source, and the kept text of the open call.
-- A definition that names no source is this project's own.
use Rattle.std.specs.Prelude.{◌≡◌, ◌⊎◌, ℕ, List, [], ◌∷◌, ◌++◌, Option, None, Some, ⊤}
use Rattle.rdlpp_source.specs.Sources.{Catalog, Present}
use Rattle.rdlpp_source.specs.declared.sources.Sources.{Ghosts}
use Rattle.rdlpp_read.specs.Buffer.{BufferView, text_left, unread_of}
use Rattle.rdlpp_read.specs.declared.files.File.{File}
use Rattle.rdlpp_scan.specs.declared.token.Mode.TheVariants.{Plain}
use Rattle.rdlpp_define.specs.Macros.{Formal, Macro}
use Rattle.rdlpp_define.specs.Table.{macro_at}
use Rattle.rdlpp_meaning.specs.Opens.{Open}
use Rattle.rdlpp_meaning.specs.CallScan.{Before}
use Rattle.rdlpp_usages.specs.CallReads.{ReadsUpTo}
use Rattle.rdlpp_texts.specs.Opened.{usage_id}
use Rattle.rdlpp_usages.specs.Usages.{KeepsCall}
use Rattle.rdlpp_state.specs.Engine.{EngineView}
use Rattle.rdlpp_state.specs.Failures.{MayGoOn}

-- a text that sources tell under a path, where these sources are open around it: that of a main path, or that of an `include` in the innermost of them
abbrev pub IsTextOf : {R : Type 0} → Catalog → List ℕ → List (File R) → List ℕ → Type 0
IsTextOf catalog path [] text = (main : List ℕ) × (catalog.top main ≡ Present path text)
IsTextOf catalog path (around ∷ outer) text = (name : List ℕ) × (catalog.find around.path.bytes name ≡ Present path text)

-- what is held of an open source is one part of its text: some stood in front of it, and some comes after it, which is what is unread
-- where no byte was lost
pub record IsPartOf {R : Type 0} (unread : R → List ℕ) (catalog : Catalog) (exact : Type 0) (path : List ℕ) (held : BufferView R) (outer : List (File R)) : Type 0 where
  pub text : List ℕ
  pub told : IsTextOf catalog path outer text
  pub front : List ℕ
  pub rest : List ℕ
  pub whole : text ≡ front ++ (held.window ++ rest)
  pub same : exact → rest ≡ unread_of unread held.reader

-- so it is with each open source
abbrev pub AreParts : {R : Type 0} → (R → List ℕ) → Catalog → Type 0 → List (File R) → Type 0
AreParts unread catalog exact [] = ⊤
AreParts unread catalog exact (f ∷ outer) = IsPartOf unread catalog exact f.path.bytes f.buffer outer × AreParts unread catalog exact outer

-- the kept bytes are those of a call that stands in the text of an open source and ends where the bytes of that begin which aren't used
pub record IsCallOf {R : Type 0} (unread : R → List ℕ) (catalog : Catalog) (most : ℕ) (arguments path : List ℕ) (now : BufferView R) (outer : List (File R)) : Type 0 where
  pub text : List ℕ
  pub told : IsTextOf catalog path outer text
  pub front : List ℕ
  pub from : BufferView R
  pub keeps : KeepsCall unread most arguments from now
  pub whole : text ≡ front ++ (keeps.call ++ text_left unread now)

-- so it is in the innermost one
abbrev pub HoldsCall : {R : Type 0} → (R → List ℕ) → Catalog → ℕ → List ℕ → List (File R) → Type 0
HoldsCall unread catalog most arguments [] = ⊥
HoldsCall unread catalog most arguments (f ∷ outer) = IsCallOf unread catalog most arguments f.path.bytes f.buffer outer

-- the kept bytes are those that were kept so far of a call that stands in the text of an open source, in which a fault came
pub record IsBegunIn {R : Type 0} (unread : R → List ℕ) (catalog : Catalog) (most : ℕ) (arguments path : List ℕ) (now : BufferView R) (outer : List (File R)) : Type 0 where
  pub text : List ℕ
  pub told : IsTextOf catalog path outer text
  pub front : List ℕ
  pub from : BufferView R
  pub plain : from.mode ≡ Plain
  pub reads : ReadsUpTo Unit unread Before most arguments from now
  pub whole : text ≡ front ++ text_left unread from

-- so it is in the innermost one
abbrev pub BeginsCall : {R : Type 0} → (R → List ℕ) → Catalog → ℕ → List ℕ → List (File R) → Type 0
BeginsCall unread catalog most arguments [] = ⊥
BeginsCall unread catalog most arguments (f ∷ outer) = IsBegunIn unread catalog most arguments f.path.bytes f.buffer outer

-- the formals of the macro that is called in the source: those of the one whose usage is open there, where it has a list
unfoldable pub called_formals : List Macro → List Open → Option (List Formal)
called_formals macros opens = elim (usage_id opens) [ None ↦ None | Some id ↦ (macro_at macros id).formals ]

-- nothing is kept where no call in the source is open, but where a fault came, in that call perhaps, after which the engine can't go on
pub record LetsGo {S R : Type 0} (e : EngineView S R) : Type 0 where
  pub idle : MayGoOn e → called_formals e.table.macros e.expansion.opens ≡ None → e.expansion.arguments ≡ []

-- the buffers are parts of their texts, also after a fault, and no byte is lost where the engine may go on; while a call in the source is
-- open, what is kept is its kept text, all of it; and where none is, nothing is kept, or after a fault that came in a call what was kept of
-- that so far
pub record HoldsStores {S R : Type 0} (g : Ghosts S R) (e : EngineView S R) : Type 0 where
  pub lets_go : LetsGo e
  pub parts : AreParts g.unread (g.catalog e.sources) (MayGoOn e) e.files.include_stack
  pub call : (fs : List Formal) → called_formals e.table.macros e.expansion.opens ≡ Some fs
      → HoldsCall g.unread (g.catalog e.sources) e.expansion.most e.expansion.arguments e.files.include_stack
  pub begun : called_formals e.table.macros e.expansion.opens ≡ None
      → (e.expansion.arguments ≡ []) ⊎ BeginsCall g.unread (g.catalog e.sources) e.expansion.most e.expansion.arguments e.files.include_stack

-- nothing is held of a text: no source and no text of a usage is open, and nothing is kept of a call
pub record HoldsNoText {S R : Type 0} (e : EngineView S R) : Type 0 where
  pub sources : e.files.include_stack ≡ []
  pub opens : e.expansion.opens ≡ []
  pub arguments : e.expansion.arguments ≡ []
