use Rattle.std.proofs.Common.{◌∙◌, ap, arith, drop}
use Rattle.std.proofs.lemmas.Grind.{common_steps}
use Rattle.rdlpp_table.proofs.Sizes.{named_at, stored_slices_within}
use Rattle.rdlpp_table.proofs.Indexed.{few_entries, viewed_place}
use Rattle.rdlpp_table.proofs.table.Table.search.Goals as goal

pub place_in-requires-clause-within : goal.place_in-requires-clause-within
place_in-requires-clause-within c = stored_slices_within _ _ _ _ _ c.deref-2.ensures.value (c.live-entries.ensures ∙ ap (drop c.self.inside.front.entries) c.deref.ensures.value) c.self.invariant.held.stored

pub place_in-requires-clause-few : goal.place_in-requires-clause-few
place_in-requires-clause-few c = grind (arith, common_steps, few_entries)

pub returns-in_err-index-clause-named : goal.returns-in_err-index-clause-named
returns-in_err-index-clause-named c = grind (arith, named_at, viewed_place)

pub returns-clause-named : goal.returns-clause-named
returns-clause-named c = grind (arith, named_at, viewed_place)
