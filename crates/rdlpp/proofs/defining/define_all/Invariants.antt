-- The definitions so far were taken.
use Rattle.rdlpp.proofs.Runs.{AreTaken}
use Rattle.rdlpp.proofs.defining.define_all.Given as goal

abbrev pub invariant-loop-index : goal.invariant-loop-index
invariant-loop-index g l = AreTaken l.fn.engine l.engine l.index l.defines
