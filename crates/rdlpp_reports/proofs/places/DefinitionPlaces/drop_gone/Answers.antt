use Rattle.std.proofs.Common.{inr, refl}
use Rattle.rdlpp_reports.proofs.Noted.{forgets_more}
use Rattle.rdlpp_reports.proofs.places.DefinitionPlaces.drop_gone.Goals as goal

pub loop-at-init : goal.loop-at-init
loop-at-init c name = inr refl

pub loop-at-preserved : goal.loop-at-preserved
loop-at-preserved c = forgets_more c.args.self.now c.loop-at.self c.drop_unless_there.new.self c.loop-at.invariant c.drop_unless_there.ensures
