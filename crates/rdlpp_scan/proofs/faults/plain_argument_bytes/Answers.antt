use Rattle.std.proofs.Common.{◌∙◌}
use Rattle.memchr.specs.Find.{is_byte3}
use Rattle.rdlpp_scan.specs.LexFaults.{is_plain_argument}
use Rattle.rdlpp_scan.proofs.TokenLens.{prefix_len-search}
use Rattle.rdlpp_scan.proofs.faults.plain_argument_bytes.Goals as goal

pub returns-clause-value : goal.returns-clause-value
unfolding is_plain_argument
returns-clause-value c = c.unwrap_or.ensures ∙ prefix_len-search (is_byte3 34 47 60) _ _ c.memchr3.ensures
