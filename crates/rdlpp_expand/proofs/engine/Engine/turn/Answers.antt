use Rattle.std.proofs.Common.{arith}
use Rattle.rdlpp_state.specs.Conditionals.{goes_past}
use Rattle.rdlpp_state.proofs.Soundness.{conditions_turned, whole_with}
use Rattle.rdlpp_expand.proofs.engine.Engine.turn.Goals as goal

pub turn-requires : goal.turn-requires
turn-requires g c = let own = rw (← c.self.view_is) at c.requires.own in omega arith

pub invariant_of-self : goal.invariant_of-self
invariant_of-self g c =
    whole_with _ _ _ _ c.self.inside.conditions _ _ c.self.invariant
    (rw c.turn.ensures (conditions_turned _ c.self.inside.conditions c.self.inside.files.include_stack (rw (← c.self.view_is) at c.requires.include_stack) c.self.invariant.sources.conditions_of (rw (← c.self.view_is) at c.requires.own) c.args.word c.args.holds))

pub returns : goal.returns
unfolding goes_past
returns g c = rw (← c.self.view_is) (rw c.turn.ensures at c.consume.ensures.used)
