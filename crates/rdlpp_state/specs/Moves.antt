-- What the parts of a step over the open sources do.
-- A definition that names no source is this project's own.
use Rattle.std.specs.Prelude.{◌≡◌, ◌<◌, ◌≤◌, ◌⊎◌, ℕ, List, [], ◌∷◌, length, take, drop, Option, None, Some, Result, Ok, Err}
use Rattle.rdlpp_scan.specs.Front.{Breach}
use Rattle.rdlpp_scan.specs.SourceTokens.{line_ends}
use Rattle.rdlpp_scan.specs.declared.token.Mode.TheVariants.{Plain}
use Rattle.rdlpp_define.specs.Defined.{Accepted, DefinedFault, define_of}
use Rattle.rdlpp_define.specs.Macros.{Macro}
use Rattle.rdlpp_define.specs.declared.fault.DefineKind.{DefineKind}
use Rattle.rdlpp_meaning.specs.declared.fault.FaultKind.{FaultKind}
use Rattle.rdlpp_meaning.specs.Meaning.{NameFault, Fine, Progress}
use Rattle.rdlpp_meaning.specs.Profile.{define_fault}
use Rattle.rdlpp_meaning.specs.State.{breach_kind, fault_at}
use Rattle.rdlpp_read.specs.Buffer.{held_of}
use Rattle.rdlpp_read.specs.Filling.{ended_tokens, only_broken}
use Rattle.rdlpp_read.specs.Files.{AreOpen, consumed_file, inner_buffer, with_inner}
use Rattle.rdlpp_front.specs.SourceItems.{argument_name, given_by, given_name}
use Rattle.rdlpp_front.specs.declared.arguments.Argument.{Argument}
use Rattle.rdlpp_state.specs.Engine.{EngineView, IsSoundEngine}
use Rattle.rdlpp_state.specs.Conditionals.{unclosed_fault}
use Rattle.rdlpp_state.specs.Includes.{left_engine}
use Rattle.rdlpp_state.specs.OpenConditionals.{inner_below}
use Rattle.rdlpp_state.specs.Pending.{line_ends_pending, nothing_pending}
use Rattle.rdlpp_state.specs.Remaining.{state_of}
use Rattle.rdlpp_state.specs.Steps.{IsOwn}
use Rattle.rdlpp_state.specs.declared.place.Halt.{Halt}
use Rattle.rdlpp_state.specs.declared.place.Halt.TheVariants.{End, Fault}
use Rattle.rdlpp_state.specs.declared.phase.Phase.TheVariants.{Open, Closed}

-- an engine whose main text is open, that keeps no fault and owes nothing
pub record IsDrained {S R : Type 0} (e : EngineView S R) : Type 0 where
  pub open_ : e.phase ≡ Open
  pub free : e.kept ≡ None
  pub pending : e.pending ≡ nothing_pending

-- an engine that goes on in its open sources: no fault is kept, nothing is pending, and no text of a usage is open
pub record IsReady {S R : Type 0} (e : EngineView S R) : Type 0 where
  pub open_ : e.phase ≡ Open
  pub free : e.kept ≡ None
  pub pending : e.pending ≡ nothing_pending
  pub idle : e.expansion.opens ≡ []
  pub include_stack : 0 < length e.files.include_stack
  pub sound : IsSoundEngine e.limits e.phase e.table e.files e.conditions
  pub files : AreOpen e.files

-- an engine whose text ended in a string or in a block comment: its fault is kept, at the line where that opened
pub record StopsOpen {S R : Type 0} (old new : EngineView S R) : Type 0 where
  pub breach : Breach
  pub tokens : ended_tokens (inner_buffer old.files.include_stack).mode (inner_buffer old.files.include_stack).open_token_line ≡ only_broken breach (inner_buffer old.files.include_stack).open_token_line
  pub own : IsOwn (breach_kind breach)
  pub kept : new ≡ record old { kept = Some (fault_at (breach_kind breach) (inner_buffer old.files.include_stack).open_token_line [] (state_of old)) }

-- an engine whose text ended in an open conditional: its fault is kept, at the line that the conditional's first directive showed
-- (this project's profile)
pub record StopsUnclosed {S R : Type 0} (old new : EngineView S R) : Type 0 where
  pub plain : (inner_buffer old.files.include_stack).mode ≡ Plain
  pub conditional : Progress
  pub around : List Progress
  pub is_open : old.conditions.open_now ≡ conditional ∷ around
  pub below : inner_below old.files.include_stack ≤ length around
  pub kept : new ≡ record old { kept = Some (unclosed_fault conditional.line (state_of old)) }

-- the main text has ended, with no conditional open (this project's profile)
pub record Closes {S R : Type 0} (old new : EngineView S R) : Type 0 where
  pub mode : (inner_buffer old.files.include_stack).mode ≡ Plain
  pub alone : length old.files.include_stack ≤ 1
  pub ended : length old.conditions.open_now ≡ inner_below old.files.include_stack
  pub becomes : new ≡ record old { phase = Closed; files = record old.files { include_stack = [] } }

-- an included source has ended, with no conditional of its own open: the one around it goes on, after an LF where the text ends in
-- mid-line, and the origin line of the `include` (this project's profile)
pub record Returns {S R : Type 0} (old new : EngineView S R) : Type 0 where
  pub mode : (inner_buffer old.files.include_stack).mode ≡ Plain
  pub inner : 1 < length old.files.include_stack
  pub ended : length old.conditions.open_now ≡ inner_below old.files.include_stack
  pub becomes : new ≡ left_engine old

-- what the end of the innermost source comes to
abbrev pub Ends : {S R : Type 0} → EngineView S R → EngineView S R → Option Halt → Type 0
Ends old new None = Returns old new
Ends old new (Some End) = Closes old new
Ends old new (Some Fault) = StopsOpen old new ⊎ StopsUnclosed old new

-- what stands after the word of the `define` at the front of what is held, whose logical line has so many bytes
abbrev pub define_rest : {S R : Type 0} → EngineView S R → ℕ → List ℕ
define_rest e len = drop 7 (take len (held_of (inner_buffer e.files.include_stack)))

-- a `define` that was accepted: its line is used, and its LF bytes are pending
pub record Defines {S R : Type 0} (len : ℕ) (old new : EngineView S R) : Type 0 where
  pub macros : List Macro
  pub accepted : define_of old.table.most_bytes old.table.most_macros old.table.macros (define_rest old len) ≡ Accepted macros
  pub lines : ℕ
  pub counted : lines ≡ line_ends (take len (held_of (inner_buffer old.files.include_stack)))
  pub becomes : new ≡ record old {
    table = record old.table { macros = macros };
    files = record old.files { include_stack = with_inner (consumed_file len lines) old.files.include_stack };
    pending = line_ends_pending lines;
  }

-- a `define` that was refused, whose fault is kept
pub record RefusesDefine {S R : Type 0} (len : ℕ) (old new : EngineView S R) : Type 0 where
  pub kind : DefineKind
  pub word : List ℕ
  pub refused : define_of old.table.most_bytes old.table.most_macros old.table.macros (define_rest old len) ≡ DefinedFault kind word
  pub becomes : new ≡ record old { kept = Some (fault_at (define_fault kind) (inner_buffer old.files.include_stack).line word (state_of old)) }

-- what a `define` comes to whose logical line is held
abbrev pub ReadsDefine : {S R : Type 0} → ℕ → EngineView S R → EngineView S R → Option Halt → Type 0
ReadsDefine len old new None = Defines len old new
ReadsDefine len old new (Some Fault) = RefusesDefine len old new
ReadsDefine len old new (Some End) = ⊥

-- the fault of the name that a directive is given is kept
pub record RefusesName {S R : Type 0} (given : Option (List ℕ)) (old new : EngineView S R) : Type 0 where
  pub kind : FaultKind
  pub word : List ℕ
  pub own : IsOwn kind
  pub faulty : given_name given ≡ NameFault kind word
  pub becomes : new ≡ record old { kept = Some (fault_at kind (inner_buffer old.files.include_stack).line word (state_of old)) }

-- what a look at the name that a directive is given comes to: a name that it may have, or a fault that is kept
abbrev pub LooksAtName : {S R : Type 0} → Option Argument → EngineView S R → EngineView S R → Result Argument Halt → Type 0
LooksAtName argument old new (Ok a) =
    let name = argument_name (held_of (inner_buffer old.files.include_stack)) a.start a.stop in
    (argument ≡ Some a) × (given_name (Some name) ≡ Fine name) × (new ≡ old)
LooksAtName argument old new (Err place) = (place ≡ Fault) × RefusesName (given_by (held_of (inner_buffer old.files.include_stack)) argument) old new
