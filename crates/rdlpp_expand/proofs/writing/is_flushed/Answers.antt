use Rattle.rdlpp_expand.proofs.RunFacts.{counts_as}
use Rattle.rdlpp_expand.proofs.writing.is_flushed.Goals as goal

pub returns : goal.returns
returns g c = record {
  bytes = c.flush.ensures.bytes;
  asked = c.flush.ensures.asked;
  failures = counts_as _ _ _ _ c.is_ok.ensures.negation c.flush.ensures.failures;
  writes = c.flush.ensures.writes;
}
