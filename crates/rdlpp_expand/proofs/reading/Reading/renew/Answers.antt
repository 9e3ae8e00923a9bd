use Rattle.std.proofs.Common.{ap, refl}
use Rattle.rdlpp_state.specs.Opening.{fresh_engine}
use Rattle.rdlpp_expand.specs.Reading.{unstarted}
use Rattle.rdlpp_expand.proofs.reading.Reading.renew.Goals as goal

pub end_unstarted-requires : goal.end_unstarted-requires
unfolding fresh_engine
end_unstarted-requires g c = ap (λ e. e.phase) c.renew-before.ensures.fresh

pub returns-clause-reading : goal.returns-clause-reading
unfolding unstarted
returns-clause-reading g c = rw (c.end_unstarted.ensures, c.renew-before.ensures.fresh, ← c.self.view_is) refl
