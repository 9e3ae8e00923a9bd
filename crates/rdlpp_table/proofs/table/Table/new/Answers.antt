use Rattle.std.proofs.Common.{ap, arith, refl}
use Rattle.rdlpp_table.specs.IndexView.{IndexView}
use Rattle.rdlpp_table.proofs.Sizes.{held_when_empty, empty_view}
use Rattle.rdlpp_table.proofs.Indexed.{index_of_nothing, nothing_marked}
use Rattle.rdlpp_table.proofs.table.Table.new.Goals as goal

pub invariant_of-result : goal.invariant_of-result
invariant_of-result c = record {
  held = held_when_empty _ _ _ _ c.in_ok-bytes.ensures.items c.in_ok-entries.ensures.items;
  given_up = omega arith;
  room = c.in_ok-bytes.ensures.exact;
  entry_room = c.in_ok-entries.ensures.exact;
  indexed = rw c.in_ok-index.ensures (index_of_nothing _ _ _ _ c.in_ok-entries.ensures.items refl refl);
  marked = rw c.in_ok-index.ensures (nothing_marked _ _ c.in_ok-entries.ensures.items);
  index_room = ap (λ (v : IndexView). v.room) c.in_ok-index.ensures;
  few = c.requires.definitions.1;
  small = c.requires.definition_bytes.1;
}

pub returns : goal.returns
returns c = empty_view _ _ _ _ c.in_ok-entries.ensures.items
