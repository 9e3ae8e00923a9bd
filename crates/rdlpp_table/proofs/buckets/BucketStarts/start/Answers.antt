use Rattle.std.proofs.Common.{◌∙◌, ℕ, List, ap, arith, get_or, sym}
use Rattle.rdlpp_table.proofs.Groups.{start_is}
use Rattle.rdlpp_table.proofs.buckets.BucketStarts.start.Goals as goal

pub returns : goal.returns
returns c =
    sym (start_is c.self.inside.group_starts c.self.inside.within c.args.bucket (omega (arith, c.requires, c.self.invariant.buckets)))
    ∙ ap (λ (l : List ℕ). get_or l c.args.bucket 0) c.self.view_is
