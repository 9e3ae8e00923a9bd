use Rattle.std.proofs.Common.{◌∙◌, subst, sym}
use Rattle.rdlpp_table.proofs.Groups.{grouped_again, some_groups, some_within, sooner, sorted_sooner, starts_long, BucketsAreAfter}
use Rattle.rdlpp_table.proofs.buckets.BucketStarts.begin_sooner.Goals as goal

pub move_down-requires : goal.move_down-requires
move_down-requires c =
    some_within c.args.bucket _ _ c.requires.bucket c.self.invariant (subst (BucketsAreAfter c.args.bucket) (sym c.self.view_is) c.requires.some)

pub move_down-requires-2 : goal.move_down-requires-2
move_down-requires-2 c =
    some_groups c.args.bucket _ _ c.requires.bucket c.self.invariant (subst (BucketsAreAfter c.args.bucket) (sym c.self.view_is) c.requires.some)

pub invariant_of-self : goal.invariant_of-self
invariant_of-self c =
    let g = c.self.invariant in
    let some = subst (BucketsAreAfter c.args.bucket) (sym c.self.view_is) c.requires.some in
    let moved = sooner c.args.bucket _ _ c.requires.bucket g _ _ some c.move_down.ensures c.move_down-2.ensures in
    grouped_again c.args.bucket _ _ c.requires.bucket g _ _ _ (sorted_sooner c.args.bucket _ _ (starts_long _ _ ∙ g.buckets) g.sorted some moved) c.move_down.ensures c.move_down-2.ensures

pub returns : goal.returns
returns c =
    rw (← c.self.view_is) (sooner c.args.bucket _ _ c.requires.bucket c.self.invariant _ _ (subst (BucketsAreAfter c.args.bucket) (sym c.self.view_is) c.requires.some) c.move_down.ensures c.move_down-2.ensures)
