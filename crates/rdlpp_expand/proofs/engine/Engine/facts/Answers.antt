use Rattle.rdlpp_state.proofs.OpeningFacts.{is_bounded}
use Rattle.rdlpp_expand.proofs.engine.Engine.facts.Goals as goal

pub returns : goal.returns
returns g c =
    rw (← c.self.view_is) (record {
      bounded = is_bounded _ c.self.invariant.sources c.facts.ensures c.self.invariant.texts c.facts-2.ensures;
      sound = c.self.invariant.sources;
      files = c.facts.ensures;
      texts = c.self.invariant.texts;
      room = c.facts-2.ensures;
    })
