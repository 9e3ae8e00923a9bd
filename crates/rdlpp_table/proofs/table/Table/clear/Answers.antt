use Rattle.std.proofs.Common.{◌∙◌, ap, arith, refl}
use Rattle.rdlpp_table.specs.IndexView.{IndexView}
use Rattle.rdlpp_table.proofs.Sizes.{held_when_empty, empty_view}
use Rattle.rdlpp_table.proofs.Indexed.{index_of_nothing, nothing_marked}
use Rattle.rdlpp_table.proofs.table.Table.clear.Goals as goal

pub invariant_of-self : goal.invariant_of-self
invariant_of-self c = record {
  held = held_when_empty _ _ _ _ c.clear.ensures.items c.clear-2.ensures.items;
  given_up = omega arith;
  room = c.clear.ensures.capacity ∙ c.self.invariant.room;
  entry_room = c.clear-2.ensures.capacity ∙ c.self.invariant.entry_room;
  indexed = rw c.clear-3.ensures (index_of_nothing _ _ _ _ c.clear-2.ensures.items refl refl);
  marked = rw c.clear-3.ensures (nothing_marked _ _ c.clear-2.ensures.items);
  index_room = ap (λ (v : IndexView). v.room) c.clear-3.ensures ∙ c.self.invariant.index_room;
  few = c.self.invariant.few;
  small = c.self.invariant.small;
}

pub returns : goal.returns
returns c = rw (← c.self.view_is) (empty_view _ _ _ _ c.clear-2.ensures.items)
