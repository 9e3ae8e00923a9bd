-- The definitions so far were taken.
use Rattle.rdlpp.proofs.Runs.{AreTaken}
use Rattle.rdlpp.proofs.defining.define_all_again.Given as goal

abbrev pub invariant-loop-index : goal.invariant-loop-index
invariant-loop-index g l = AreTaken l.fn.reading.engine l.reading.engine l.index l.defines
