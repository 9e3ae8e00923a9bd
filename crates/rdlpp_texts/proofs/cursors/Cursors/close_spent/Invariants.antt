use Rattle.std.proofs.Common.{◌<◌, ◌≡◌, length, true}
use Rattle.rdlpp_meaning.specs.Opens.{Texts}
use Rattle.rdlpp_texts.specs.Opened.{is_spent, StaysOutermost}
use Rattle.rdlpp_texts.specs.Steps.{AreSound}
use Rattle.rdlpp_texts.specs.TakenSteps.{TakesStep}
use Rattle.rdlpp_texts.specs.Turns.{Closes}
use Rattle.rdlpp_texts.specs.declared.step.CursorStep.TheVariants.{Silent}
use Rattle.rdlpp_texts.proofs.cursors.Cursors.close_spent.Given as goal

abbrev pub invariant-loop-self : goal.invariant-loop-self
invariant-loop-self l =
    (1 < length l.fn.self.opens → 0 < length l.self.opens)
    × (((texts : Texts) → AreSound texts l.fn.self.opens → is_spent l.fn.self.opens ≡ true → TakesStep texts l.fn.self Silent l.self)
    × (length l.self.opens < length l.fn.self.opens)
    × (StaysOutermost l.fn.self.opens l.self.opens × Closes l.fn.self.opens l.self.opens))

abbrev pub decreases-loop-self : goal.decreases-loop-self
decreases-loop-self l = length l.self.opens
