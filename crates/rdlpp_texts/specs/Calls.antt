-- A call that is bound in open texts.
-- A definition that names no source is this project's own.
use Rattle.rdlpp_meaning.specs.Expansion.{is_count, bound_parts}
use Rattle.std.specs.Prelude.{◌≡◌, ℕ, ◌<◌, ◌≤◌, true, false, List, [], ◌∷◌, map, length, Ok, Err}
use Rattle.rdlpp_define.specs.Macros.{Macro, formals_of}
use Rattle.rdlpp_define.specs.Table.{macro_at}
use Rattle.rdlpp_meaning.specs.declared.fault.FaultKind.{FaultKind}
use Rattle.rdlpp_meaning.specs.declared.fault.FaultKind.TheVariants.{ArgumentCount}
use Rattle.rdlpp_meaning.specs.Opens.{Texts, open_body}
use Rattle.rdlpp_meaning.specs.Substitution.{body_tokens}
use Rattle.rdlpp_texts.specs.declared.bindings.Range.{Range}
use Rattle.rdlpp_texts.specs.BoundCalls.{range_part, ranges_tokens, actuals_of, is_call_fault, AreWithin, IsBoundCall, KeepsAll}
use Rattle.rdlpp_texts.specs.Opened.{moved_to, CursorsView}
use Rattle.rdlpp_texts.specs.Places.{texts_of}
use Rattle.rdlpp_texts.specs.Steps.{AreSound}
use Rattle.rdlpp_texts.specs.declared.cursors.call.Opening.{Opening}
use Rattle.rdlpp_texts.specs.declared.cursors.call.Opening.TheVariants.{Opened, Refused, Deep}

-- a call of the macro at a place of a table, from a place of a text up to another, is bound to ranges of the text, and the text
-- goes on after it
pub record IsCallBound (macros : List Macro) (text : List ℕ) (at end id : ℕ) : Type 0 where
  pub ranges : List Range
  pub following : ℕ
  pub within : AreWithin at end ranges
  pub place : (at ≤ following) × (following ≤ end)
  pub bound : IsBoundCall text at end (length (formals_of (macro_at macros id))) ranges (Ok following)

-- a call in the innermost of open texts opens the body of its macro, with those ranges, in front of the texts that go on
-- after it
pub record IsCallOpened (macros : List Macro) (text : List ℕ) (at end id parent : ℕ) (old new : CursorsView) : Type 0 where
  pub call : IsCallBound macros text at end id
  pub room : length old.opens < old.depth
  pub opens : new ≡ record old { opens = open_body (texts_of macros []) id (map range_part call.ranges) parent ∷ moved_to call.following old.opens }

-- what a call in the innermost of open texts comes to: the body is opened; the call is refused for what it lacks, or since no
-- further text may be open, and nothing changes
unfoldable pub IsOpening : List Macro → List ℕ → ℕ → ℕ → ℕ → ℕ → CursorsView → Opening → CursorsView → Type 0
IsOpening macros text at end id parent old Opened new = IsCallOpened macros text at end id parent old new
IsOpening macros text at end id parent old (Refused kind) new =
    (new ≡ old) × IsBoundCall text at end (length (formals_of (macro_at macros id))) [] (Err kind)
IsOpening macros text at end id parent old Deep new =
    (new ≡ old) × ((old.depth ≤ length old.opens) × IsCallBound macros text at end id)

-- a call in a source, whose kept text is the argument store's, opens the body of its macro with ranges of that text, at its line:
-- the actuals of the call, as many as the formals (source: this project's profile)
pub record IsCallStarted (texts : Texts) (id line : ℕ) (old new : CursorsView) : Type 0 where
  pub ranges : List Range
  pub actuals : bound_parts (formals_of (macro_at texts.macros id)) (actuals_of texts.arguments) ≡ ranges_tokens texts.arguments ranges
  pub counted : is_count (formals_of (macro_at texts.macros id)) (actuals_of texts.arguments) ≡ true
  pub opens : new ≡ record { opens = open_body texts id (map range_part ranges) 0 ∷ []; line = line; depth = old.depth }
  pub sound : AreSound texts new.opens

-- a call in a source with more or fewer actuals than formals is refused for that, and nothing changes; what is kept of a call has
-- no `//` comment (source: this project's profile)
pub record IsCallMiscounted (texts : Texts) (id : ℕ) (kind : FaultKind) (old new : CursorsView) : Type 0 where
  pub kind_is : kind ≡ ArgumentCount
  pub same : new ≡ old
  pub counted : KeepsAll (body_tokens texts.arguments) → is_count (formals_of (macro_at texts.macros id)) (actuals_of texts.arguments) ≡ false

-- a call in an open text is refused for a fault of a call
abbrev pub IsCallFault : Opening → Type 0
IsCallFault Opened = Unit
IsCallFault (Refused kind) = is_call_fault kind ≡ true
IsCallFault Deep = Unit
