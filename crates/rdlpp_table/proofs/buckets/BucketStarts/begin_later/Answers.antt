use Rattle.std.proofs.Common.{◌≤◌, ◌∙◌, All, subst, sym}
use Rattle.rdlpp_table.proofs.Groups.{few_groups, few_within, grouped_again, later, sorted_later, starts_long}
use Rattle.rdlpp_table.proofs.buckets.BucketStarts.begin_later.Goals as goal

pub move_up-requires : goal.move_up-requires
move_up-requires c =
    few_within c.args.bucket _ _ c.requires.bucket c.self.invariant (subst (All (λ s. s ≤ 65536)) (sym c.self.view_is) c.requires.few)

pub move_up-requires-2 : goal.move_up-requires-2
move_up-requires-2 c =
    few_groups c.args.bucket _ _ c.requires.bucket c.self.invariant (subst (All (λ s. s ≤ 65536)) (sym c.self.view_is) c.requires.few)

pub invariant_of-self : goal.invariant_of-self
invariant_of-self c =
    let g = c.self.invariant in
    let moved = later c.args.bucket _ _ c.requires.bucket g _ _ c.move_up.ensures c.move_up-2.ensures in
    grouped_again c.args.bucket _ _ c.requires.bucket g _ _ _ (sorted_later c.args.bucket _ _ (starts_long _ _ ∙ g.buckets) g.sorted moved) c.move_up.ensures c.move_up-2.ensures

pub returns : goal.returns
returns c = rw (← c.self.view_is) (later c.args.bucket _ _ c.requires.bucket c.self.invariant _ _ c.move_up.ensures c.move_up-2.ensures)
