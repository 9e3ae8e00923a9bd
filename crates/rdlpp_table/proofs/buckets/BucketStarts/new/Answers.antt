use Rattle.rdlpp_table.proofs.Groups.{grouped_nothing, starts_of_nothing}
use Rattle.rdlpp_table.proofs.buckets.BucketStarts.new.Goals as goal

pub invariant_of-result : goal.invariant_of-result
invariant_of-result c = grouped_nothing

pub returns : goal.returns
returns c = starts_of_nothing 33 1025
