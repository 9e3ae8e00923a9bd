use Rattle.rdlpp_reports.specs.Places.{Forgets}
use Rattle.rdlpp_reports.proofs.places.DefinitionPlaces.drop_gone.Given as goal

abbrev pub invariant-loop-at : goal.invariant-loop-at
invariant-loop-at l = Forgets l.initial.self l.self

abbrev pub decreases-loop-at : goal.decreases-loop-at
decreases-loop-at l = l.at
