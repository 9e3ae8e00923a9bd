use Rattle.std.proofs.Common.{◌≡◌, length}
use Rattle.rdlpp_table.specs.Index.{mix_through}
use Rattle.rdlpp_table.proofs.buckets.bucket_of.Given as goal

abbrev pub invariant-loop-rest : goal.invariant-loop-rest
invariant-loop-rest l = mix_through l.number l.rest ≡ mix_through 0 l.name

abbrev pub decreases-loop-rest : goal.decreases-loop-rest
decreases-loop-rest l = length l.rest
