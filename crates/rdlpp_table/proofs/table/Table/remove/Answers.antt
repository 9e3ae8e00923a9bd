use Rattle.std.proofs.Common.{◌∙◌, ap, arith, drop}
use Rattle.std.proofs.lemmas.Grind.{common_steps}
use Rattle.rdlpp_define.specs.Table.{without, TableView}
use Rattle.rdlpp_table.specs.Layout.{view_of}
use Rattle.rdlpp_define.proofs.Sizes.{count_items}
use Rattle.rdlpp_table.proofs.RoundTrip.{table_of, held_of, view_after, sound_without}
use Rattle.rdlpp_table.proofs.Indexed.{few_entries, found_named, indexed_after, marked_after}
use Rattle.rdlpp_table.proofs.table.Table.remove.Goals as goal

pub seek_named-found-requires-clause-few : goal.seek_named-found-requires-clause-few
seek_named-found-requires-clause-few c = grind (arith, common_steps, few_entries, count_items)

pub remove_named-requires-clause-stored : goal.remove_named-requires-clause-stored
remove_named-requires-clause-stored c = c.self.invariant.held.stored

pub remove_named-requires-clause-distinct : goal.remove_named-requires-clause-distinct
remove_named-requires-clause-distinct c = c.self.invariant.held.sound.distinct

pub remove_named-requires-clause-few : goal.remove_named-requires-clause-few
remove_named-requires-clause-few c = grind (arith, common_steps, few_entries, count_items)

pub invariant_of-self : goal.invariant_of-self
invariant_of-self c = record {
  held = held_of _ _ _ _ _ c.remove_named.ensures.stored (sound_without c.args.name.now (view_of c.self.inside.bytes.items (drop c.self.inside.front.entries c.self.inside.entries.items) c.self.inside.most_bytes c.self.inside.most_macros) c.self.invariant.held.sound);
  given_up = c.remove_named.ensures.given_up;
  room = omega (arith, c.remove_named.ensures.capacity.0, c.self.invariant.room);
  entry_room = omega (arith, c.remove_named.ensures.capacity.1, c.self.invariant.entry_room);
  indexed = indexed_after _ _ _ _ _ c.remove_named.ensures.stored c.remove_named.ensures.indexed;
  marked = marked_after _ _ _ _ c.remove_named.ensures.stored c.remove_named.ensures.marked;
  index_room = c.remove_named.ensures.room ∙ c.self.invariant.index_room;
  few = c.self.invariant.few;
  small = c.self.invariant.small;
}

pub returns-clause-value : goal.returns-clause-value
returns-clause-value c = grind (arith, found_named)

pub returns-clause-table : goal.returns-clause-table
returns-clause-table c =
    view_after _ _ _ c.self.inside.most_bytes c.self.inside.most_macros c.remove_named.ensures.stored
    ∙ ap (λ (v : TableView). table_of (without c.args.name.now v.macros) v.most_bytes v.most_macros) c.self.view_is
