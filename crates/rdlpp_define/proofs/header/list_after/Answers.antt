use Rattle.std.proofs.Common.{eq-eqb, ne_eqb}
use Rattle.rdlpp_define.proofs.Headers.{list_follows, no_list, nothing_follows}
use Rattle.rdlpp_define.proofs.header.list_after.Goals as goal

pub returns-then-b-eq40 : goal.returns-then-b-eq40
returns-then-b-eq40 c = list_follows _ _ _ c.in-Some.ensures.0 (eq-eqb _ _ c.if-b-eq40.true)

pub returns-else-b-eq40 : goal.returns-else-b-eq40
returns-else-b-eq40 c = no_list _ _ _ c.in-Some.ensures.0 (ne_eqb _ _ c.if-b-eq40.false)

pub returns-in-None : goal.returns-in-None
returns-in-None c = nothing_follows _ c.in-None.ensures
