use Rattle.std.proofs.Common.{◌≡◌, length}
use Rattle.rdlpp_read.proofs.files.Files.clear.Given as goal

abbrev pub invariant-loop-self : goal.invariant-loop-self
invariant-loop-self g l = l.self ≡ record l.fn.self { include_stack = l.self.include_stack }

abbrev pub decreases-loop-self : goal.decreases-loop-self
decreases-loop-self g l = length l.self.include_stack
