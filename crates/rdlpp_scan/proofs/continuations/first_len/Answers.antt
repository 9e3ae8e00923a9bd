use Rattle.rdlpp_scan.proofs.Joins.{reads_logical, reads_plain}
use Rattle.rdlpp_scan.proofs.continuations.first_len.Goals as goal

pub returns-then-is_logical-clause-inside : goal.returns-then-is_logical-clause-inside
returns-then-is_logical-clause-inside c = (reads_logical _ _ _ c.requires c.if-is_logical.true c.continuation_len.ensures.value).inside

pub returns-then-is_logical-clause-first : goal.returns-then-is_logical-clause-first
returns-then-is_logical-clause-first c = (reads_logical _ _ _ c.requires c.if-is_logical.true c.continuation_len.ensures.value).first

pub returns-else-is_logical-clause-first : goal.returns-else-is_logical-clause-first
returns-else-is_logical-clause-first c = (reads_plain _ _ c.requires c.if-is_logical.false).first
