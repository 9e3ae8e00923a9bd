use Rattle.std.proofs.Common.{◌∙◌, ap, refl, List}
use Rattle.rdlpp_meaning.specs.Opens.{Open}
use Rattle.rdlpp_texts.specs.Opened.{CursorsView}
use Rattle.rdlpp_texts.specs.Scopes.{innermost_place}
use Rattle.rdlpp_texts.proofs.Stacking.{lent-opens}
use Rattle.rdlpp_texts.proofs.cursors.Cursors.innermost.Goals as goal

pub returns : goal.returns
returns c =
    c.innermost_place.ensures c.self.inside.bindings.items
    ∙ ap (λ (o : List Open). innermost_place o)
    (lent-opens c.self.inside.frames.items c.as_slice-frames.result.now c.self.inside.first c.self.inside.bindings.items c.self.inside.bindings.items c.as_slice-frames.ensures.value refl
    ∙ ap (λ (v : CursorsView). v.opens) c.self.view_is)
