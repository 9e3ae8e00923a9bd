-- What a step over open texts comes to.
-- A definition that names no source is this project's own.
use Rattle.std.specs.Prelude.{◌≡◌, ℕ, ◌<◌, ◌^◌, Bool, true, false, nat_le, List, length}
use Rattle.rdlpp_meaning.specs.Opens.{Open, Texts}
use Rattle.rdlpp_texts.specs.Digits.{IsFalling}
use Rattle.rdlpp_texts.specs.TextItems.{IsPeek, StandsAt}
use Rattle.rdlpp_texts.specs.Opened.{CursorsView, StaysOutermost}
use Rattle.rdlpp_texts.specs.Places.{source_text}
use Rattle.rdlpp_texts.specs.Steps.{AreSound, IsStep, KeepsOpen, StaysRefused, IsPlacedStep, NamesWord}
use Rattle.rdlpp_texts.specs.Turns.{TurnsOver}
use Rattle.rdlpp_texts.specs.Usages.{IsTextFault}
use Rattle.rdlpp_texts.specs.declared.peek.TextItem.{TextItem}
use Rattle.rdlpp_texts.specs.declared.peek.TextItem.TheVariants.{Ended, Formal as FormalName, Usage, Bare}
use Rattle.rdlpp_texts.specs.declared.peek.Peek.{Peek}
use Rattle.rdlpp_texts.specs.declared.step.CursorStep.{CursorStep}

-- a step: what it lends, opens or closes is what expansion has there, and what is open after it is sound, at the same line and for as many texts;
-- the digits of the work left fall, unless it is refused, where nothing changes; what it lends stood at the front and lies in its text, and a text
-- stays open after it; a fault is one of a text, whose word is a name; and the outermost text stays, while one is open
pub record TakesStep (texts : Texts) (old : CursorsView) (result : CursorStep) (new : CursorsView) : Type 0 where
  pub step : IsStep old.line old.depth texts old.opens result new.opens
  pub sound : AreSound texts new.opens
  pub kept : (new.line ≡ old.line) × (new.depth ≡ old.depth)
  pub digits : IsFalling old.opens result new.opens
  pub refused : StaysRefused old result new
  pub placed : IsPlacedStep texts result
  pub lends : KeepsOpen result new.opens
  pub fault : IsTextFault result
  pub word : NamesWord texts result
  pub stands : StandsAt old.opens result
  pub outer : StaysOutermost old.opens new.opens
  pub turns : TurnsOver texts old.opens result new.opens

-- a look at sound open texts, with the bytes of the text in which the innermost lies
pub record PeeksAt (texts : Texts) (opens : List Open) (seen : Peek) (bytes : List ℕ) : Type 0 where
  pub some : 0 < length opens
  pub sound : AreSound texts opens
  pub peek : IsPeek texts opens seen
  pub text : bytes ≡ source_text texts seen.source
  pub short : seen.end < 2 ^ 64

-- whether nothing is done at the front of so many open texts, after a run that is lent: where the last one has ended
unfoldable pub is_idle : Bool → ℕ → TextItem → Bool
is_idle false count front = false
is_idle true count Ended = nat_le count 1
is_idle true count (FormalName len place) = false
is_idle true count (Usage len) = false
is_idle true count Bare = false
