use Rattle.std.proofs.Common.{◌∙◌, sym, arith}
use Rattle.rdlpp_table.proofs.FormalOffsets.{reached_found, reached_more, reached_none, reached_start}
use Rattle.rdlpp_table.proofs.stored.place_in_list.Goals as goal

pub loop-place-init : goal.loop-place-init
loop-place-init c = reached_start _ _ _

pub returns-then-eq : goal.returns-then-eq
returns-then-eq c = reached_found _ _ _ _ c.args.count c.loop-place.place (omega arith) c.loop-place.invariant c.formal_name-found.ensures.name (sym c.eq.ensures ∙ c.if-eq.true)

pub loop-place-preserved : goal.loop-place-preserved
loop-place-preserved c = reached_more _ _ _ _ _ c.args.count c.loop-place.place (omega arith) c.loop-place.invariant c.formal_name-found.ensures.name (sym c.eq.ensures ∙ c.if-eq.false) c.after_formal-rest.ensures

pub returns : goal.returns
returns c = reached_none _ _ _ c.args.count c.loop-place.place (omega arith) c.loop-place.invariant
