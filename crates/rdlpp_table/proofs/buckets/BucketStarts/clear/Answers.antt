use Rattle.rdlpp_table.proofs.Groups.{grouped_nothing, starts_of_nothing}
use Rattle.rdlpp_table.proofs.buckets.BucketStarts.clear.Goals as goal

pub invariant_of-self : goal.invariant_of-self
invariant_of-self c = rw c.clear_groups.ensures grouped_nothing

pub returns : goal.returns
returns c = rw c.clear_groups.ensures (starts_of_nothing 33 1025)
