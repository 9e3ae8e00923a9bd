use Rattle.std.proofs.Common.{◌∙◌, sym, eqb-true}
use Rattle.rdlpp_scan.proofs.Joins.{none_first}
use Rattle.rdlpp_scan.proofs.continuations.split_first.Goals as goal

pub returns-then-is_empty : goal.returns-then-is_empty
returns-then-is_empty c = none_first _ _ (eqb-true _ _ (sym c.is_empty.ensures ∙ c.if-is_empty.true))
