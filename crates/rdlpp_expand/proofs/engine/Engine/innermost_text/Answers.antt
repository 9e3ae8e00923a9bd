use Rattle.std.proofs.Common.{ap, subst, sym, ◌∙◌, IfSome}
use Rattle.rdlpp_texts.specs.Places.{IsPlaced}
use Rattle.rdlpp_texts.specs.Scopes.{innermost_place}
use Rattle.rdlpp_texts.proofs.Usages.{innermost-placed}
use Rattle.rdlpp_state.specs.Pieces.{held_texts}
use Rattle.rdlpp_expand.proofs.engine.Engine.innermost_text.Goals as goal

pub returns-clause-placed : goal.returns-clause-placed
returns-clause-placed g c =
    let is = c.innermost.ensures ∙ ap (λ e. innermost_place e.expansion.opens) c.self.view_is in
    subst (λ place. IfSome place (IsPlaced (held_texts c.args.self.now))) (sym is) (innermost-placed _ _ c.facts.ensures.texts.sound.are_inside)
