-- The laws that the function ensures.
use Rattle.rdlpp_laws.proofs.LargerOutputs.{larger_limits}
use Rattle.rdlpp_laws.proofs.larger_limits.Goals as goal

pub returns : goal.returns
returns c = record { larger = larger_limits }
