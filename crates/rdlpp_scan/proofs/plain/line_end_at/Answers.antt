use Rattle.std.proofs.Common.{sym, arith}
use Rattle.rdlpp_scan.proofs.SourceLaws.{line_ends-hit, line_ends-miss}
use Rattle.rdlpp_scan.proofs.plain.line_end_at.Goals as goal

pub returns-then-bytes-at-eq10 : goal.returns-then-bytes-at-eq10
returns-then-bytes-at-eq10 c = sym (line_ends-hit c.args.bytes.now c.args.at c.requires c.if-bytes-at-eq10.true)

pub returns-else-bytes-at-eq10 : goal.returns-else-bytes-at-eq10
returns-else-bytes-at-eq10 c = omega (arith, line_ends-miss c.args.bytes.now c.args.at c.requires c.if-bytes-at-eq10.false)
