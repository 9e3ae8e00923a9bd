use Rattle.rdlpp_scan.proofs.Joins.{continued, continued_inside}
use Rattle.rdlpp_scan.proofs.line_tokens.plain_line_token.Goals as goal

pub returns-else-len-eq0-clause-value : goal.returns-else-len-eq0-clause-value
returns-else-len-eq0-clause-value c = continued _ _ c.continuation_len-len.ensures.value c.if-len-eq0.false

pub returns-else-len-eq0-clause-inside : goal.returns-else-len-eq0-clause-inside
returns-else-len-eq0-clause-inside c = continued_inside _ _ c.requires c.continuation_len-len.ensures.value
