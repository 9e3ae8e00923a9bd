use Rattle.std.proofs.Common.{arith, ◌∙◌, take-add}
use Rattle.std.proofs.lemmas.Grind.{common_steps}
use Rattle.rdlpp_expand.proofs.RunFacts.{appends_more, counts_taken, quiet_more}
use Rattle.rdlpp_expand.proofs.writing.write_rest.Goals as goal

pub loop-len-preserved : goal.loop-len-preserved
loop-len-preserved g c = record {
  within = omega (arith, c.in-Ok.ensures.bound);
  bytes = appends_more _ _ _ _ _ _ c.loop-len.invariant.bytes c.in-Ok.ensures.bytes (grind (arith, common_steps, take-add));
  writes = counts_taken c.in-Ok.taken _ _ _ c.if-taken-eq0.false c.in-Ok.ensures.writes ∙ c.loop-len.invariant.writes;
  quiet = quiet_more g.W.Sink _ _ _ c.loop-len.invariant.quiet c.in-Ok.ensures.unflushed.0 c.in-Ok.ensures.unflushed.1;
}
