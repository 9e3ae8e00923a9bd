use Rattle.std.proofs.Common.{◌≡◌, ◌∙◌, arith, refl, subst, ℕ}
use Rattle.rdlpp_table.proofs.Arranged.{all_gathered, none_gathered, one_gathered, one_stays, AreGathered}
use Rattle.rdlpp_define.proofs.Sizes.{count_items}
use Rattle.rdlpp_table.proofs.index.gather.Goals as goal
use Rattle.rdlpp_table.proofs.index.gather.Goals.{then-slack-gt0, else-slack-gt0}

pub loop-group-init : goal.loop-group-init
loop-group-init c = record { gathered = none_gathered _ _ _ c.requires.spaced; len = refl; capacity = refl }

pub loop-group-preserved : goal.loop-group-preserved
loop-group-preserved c =
    let i = c.loop-group.invariant in
    elim c.if-slack-gt0.branch [
      | then-slack-gt0 w ↦
          let items = rw (w.group_start-end.ensures.value, w.group_start-start.ensures.value) at w.copy_within.ensures.items in
          rw w.order-is (record {
            gathered = one_gathered _ _ _ _ _ _ c.requires.spaced c.loop-group-test.true i.gathered (omega (arith, c.requires.inside, i.len, count_items c.loop-group.order)) items;
            len = w.copy_within.ensures.len ∙ i.len;
            capacity = w.copy_within.ensures.capacity ∙ i.capacity;
          })
      | else-slack-gt0 w ↦ rw w.order-is (record { gathered = one_stays _ _ _ _ c.loop-group.order.items _ c.requires.spaced c.loop-group-test.true i.gathered (omega (arith, w.if-slack-gt0.false)); len = i.len; capacity = i.capacity })
    ]

pub returns-clause-places : goal.returns-clause-places
returns-clause-places c =
    let i = c.loop-group.invariant in
    let last : c.loop-group.group ≡ 32 = omega (arith, c.loop-group-test.false, c.loop-group.auto.group-end) in
    (all_gathered _ _ _ c.loop-group.order.items (omega (arith, i.len, count_items c.loop-group.order, count_items c.args.order.now)) (omega (arith, c.requires.inside, count_items c.args.order.now))
    (subst (λ (n : ℕ). AreGathered c.args.order.now.items c.args.before.now c.args.starts.now n c.loop-group.order.items) last i.gathered)).0

pub returns-clause-following : goal.returns-clause-following
returns-clause-following c =
    let i = c.loop-group.invariant in
    let last : c.loop-group.group ≡ 32 = omega (arith, c.loop-group-test.false, c.loop-group.auto.group-end) in
    (all_gathered _ _ _ c.loop-group.order.items (omega (arith, i.len, count_items c.loop-group.order, count_items c.args.order.now)) (omega (arith, c.requires.inside, count_items c.args.order.now))
    (subst (λ (n : ℕ). AreGathered c.args.order.now.items c.args.before.now c.args.starts.now n c.loop-group.order.items) last i.gathered)).1
