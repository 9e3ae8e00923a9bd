-- Steps over the open texts of a usage.
-- A definition that names no source is this project's own.
use Rattle.std.specs.Prelude.{◌≡◌, ℕ, ◌<◌, Bool, true, false, length, is_some, Option, None, Some}
use Rattle.rdlpp_state.specs.Engine.{EngineView}
use Rattle.rdlpp_state.specs.Moves.{IsDrained}
use Rattle.rdlpp_state.specs.declared.phase.Phase.TheVariants.{Open}
use Rattle.rdlpp_state.specs.declared.place.Halt.TheVariants as halt
use Rattle.rdlpp_state.specs.declared.place.PieceLocation.{PieceLocation}
use Rattle.rdlpp_state.specs.declared.place.PieceLocation.TheVariants as spot
use Rattle.rdlpp_expand.specs.declared.engine.texts.TextStep.{TextStep}
use Rattle.rdlpp_expand.specs.declared.engine.texts.TextStep.TheVariants.{Lent, Silent, Fault}

-- where such a step's piece stands, or the fault that is kept; none where nothing is lent
abbrev pub place_of : TextStep → Option PieceLocation
place_of (Lent place) = Some (spot.Text place)
place_of Silent = None
place_of Fault = Some (spot.Halt halt.Fault)

-- an engine whose next step is one over open texts: its main text is open, it keeps no fault and owes nothing, and a text of a
-- usage is open
abbrev pub IsInTexts : {S R : Type 0} → EngineView S R → Type 0
IsInTexts e = IsDrained e × (0 < length e.expansion.opens)

-- what holds after one step: texts stay open after a piece, and after nothing that is lent no fault is kept
abbrev pub StaysDrained : {S R : Type 0} → TextStep → EngineView S R → Type 0
StaysDrained (Lent place) e = IsInTexts e
StaysDrained Silent e = IsDrained e
StaysDrained Fault e = is_some e.kept ≡ true

-- what holds after steps up to the next piece: after that the next step is one over open texts too, where more may be lent; and
-- after nothing that is lent no fault is kept
abbrev pub LeavesTexts : {S R : Type 0} → TextStep → EngineView S R → Type 0
LeavesTexts (Lent place) e = e.phase ≡ Open → IsInTexts e
LeavesTexts Silent e = IsDrained e
LeavesTexts Fault e = is_some e.kept ≡ true

-- how many parts a step has at most before its last one: none over open texts, where it is one step of theirs
abbrev pub further_parts : Bool → ℕ
further_parts true = 0
further_parts false = 1
