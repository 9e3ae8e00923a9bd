use Rattle.std.proofs.Common.{◌≡◌, arith, refl, subst, ℕ}
use Rattle.rdlpp_table.proofs.Groups.{all_cleared, group_cleared, group_stays, AreCleared}
use Rattle.rdlpp_table.proofs.buckets.clear_groups.Goals as goal
use Rattle.rdlpp_table.proofs.buckets.clear_groups.Goals.{then-group_starts-group, else-group_starts-group}

pub loop-group-init : goal.loop-group-init
loop-group-init c = record { long = refl; cleared = λ b l. absurd (omega arith); others = λ b l. refl }

pub loop-group-preserved : goal.loop-group-preserved
loop-group-preserved c =
    let i = c.loop-group.invariant in
    elim c.if-group_starts-group.branch [
      | then-group_starts-group w ↦ rw w.within-is (group_cleared _ _ _ _ c.requires c.loop-group-test.true i _ (w.fill.ensures.after (λ y h. h)))
      | else-group_starts-group w ↦ rw w.within-is (group_stays _ _ _ _ c.requires c.loop-group-test.true i (omega (arith, w.if-group_starts-group.false)))
    ]

pub returns : goal.returns
returns c =
    let last : c.loop-group.group ≡ 32 = omega (arith, c.loop-group-test.false, c.loop-group.auto.group-end) in
    all_cleared c.args.group_starts.now _ _ c.requires (subst (λ (n : ℕ). AreCleared n c.args.within.now c.loop-group.within) last c.loop-group.invariant)
