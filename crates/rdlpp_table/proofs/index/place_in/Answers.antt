use Rattle.std.proofs.Common.{refl, sym, ap, Some, ◌∙◌}
use Rattle.rdlpp_table.proofs.Indexed.{found_gap, found_in, found_place}
use Rattle.rdlpp_table.proofs.Orders.{indexed_gap, indexed_place}
use Rattle.rdlpp_table.proofs.index.place_in.Goals as goal

pub returns-in-Ok-clause-value : goal.returns-in-Ok-clause-value
returns-in-Ok-clause-value c = ap Some c.place.ensures ∙ sym (indexed_place _ _ _ _ c.requires.indexed.index (found_place _ _ _ _ _ c.in-Ok.is (found_in _ _ _ _ _ _ _ _ _ refl refl refl c.new.ensures c.seek.ensures.found)))

pub returns-in-Err-clause-value : goal.returns-in-Err-clause-value
returns-in-Err-clause-value c = sym (indexed_gap _ _ _ _ c.requires.indexed.index (found_gap _ _ _ _ _ c.in-Err.is (found_in _ _ _ _ _ _ _ _ _ refl refl refl c.new.ensures c.seek.ensures.found)))
