use Rattle.std.proofs.Common.{sym, ◌∙◌, refl}
use Rattle.rdlpp_texts.proofs.Stopping.{ahead-point, ahead-whole, front-bare, front-formal, front-usage}
use Rattle.rdlpp_texts.proofs.peek.point_front.Goals as goal

pub returns-in-None : goal.returns-in-None
returns-in-None c formals from text e s = ahead-whole formals from _ text e (sym c.in-None.is ∙ s)

pub returns-in-Formal : goal.returns-in-Formal
returns-in-Formal c formals from text e s =
    ahead-point formals from c.in-Formal.at text _ _ (sym c.in-Formal.is ∙ s) refl (λ from text e h. front-formal formals from _ _ _ text e h)

pub returns-in-Usage : goal.returns-in-Usage
returns-in-Usage c formals from text e s =
    ahead-point formals from c.in-Usage.at text _ _ (sym c.in-Usage.is ∙ s) refl (λ from text e h. front-usage formals from _ _ text e h)

pub returns-in-Bare : goal.returns-in-Bare
returns-in-Bare c formals from text e s =
    ahead-point formals from c.in-Bare.at text _ _ (sym c.in-Bare.is ∙ s) refl (λ from text e h. front-bare formals from _ text e h)
