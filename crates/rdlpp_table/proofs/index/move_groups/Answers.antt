use Rattle.std.proofs.Common.{◌-◌, ◌∙◌, arith, refl}
use Rattle.rdlpp_table.proofs.Arranged.{none_moved, one_moved}
use Rattle.rdlpp_define.proofs.Sizes.{count_items}
use Rattle.rdlpp_table.proofs.index.move_groups.Goals as goal

pub loop-group-init : goal.loop-group-init
loop-group-init c = record { inside = omega arith; moved = none_moved _ _ _; len = refl; capacity = refl }

pub loop-group-preserved : goal.loop-group-preserved
loop-group-preserved c =
    let i = c.loop-group.invariant in
    let items = rw (c.group_start-end.ensures.value, c.group_start-start.ensures.value) at c.copy_within.ensures.items in
    record {
      inside = omega (arith, i.inside);
      moved = one_moved _ _ _ _ _ c.loop-group.group (c.loop-group.group - 1) c.requires.to (omega (arith, c.loop-group-test.true)) i.inside (omega (arith, c.requires.len, i.len, count_items c.loop-group.order)) i.moved items;
      len = c.copy_within.ensures.len ∙ i.len;
      capacity = c.copy_within.ensures.capacity ∙ i.capacity;
    }
