use Rattle.std.proofs.Common.{◌≡◌, ◌*◌, ◌/◌, ℕ, List, ap, arith, get_or}
use Rattle.rdlpp_table.proofs.Groups.{start_is}
use Rattle.rdlpp_table.proofs.buckets.BucketStarts.group_start.Goals as goal

pub returns-clause-value : goal.returns-clause-value
returns-clause-value c =
    let s = c.self.inside in
    let g : ℕ = c.args.group in
    let same : 32 * g / 32 ≡ g = omega arith in
    omega (arith, start_is s.group_starts s.within (32 * g) (omega (arith, c.requires, c.self.invariant.buckets)), ap (λ (q : ℕ). get_or s.group_starts q 0) same, c.self.invariant.first g c.requires, ap (λ (l : List ℕ). get_or l (32 * g) 0) c.self.view_is)
