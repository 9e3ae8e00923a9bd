use Rattle.std.proofs.Common.{◌≡◌, ◌++◌, map, take, drop}
use Rattle.rdlpp_table.specs.Index.{closed}
use Rattle.rdlpp_table.proofs.index.close_up.Given as goal

abbrev pub invariant-loop-place : goal.invariant-loop-place
invariant-loop-place l = l.places ≡ map (closed l.fn.taken) (take l.place-index l.initial.places) ++ drop l.place-index l.initial.places
