use Rattle.std.proofs.Common.{arith}
use Rattle.rdlpp_scan.specs.SourceTokens.{is_continued}
use Rattle.rdlpp_scan.proofs.SourceLaws.{ends_continued-back}
use Rattle.rdlpp_scan.proofs.lines.is_continued.Goals as goal

pub returns-then-last-eq92 : goal.returns-then-last-eq92
unfolding is_continued
returns-then-last-eq92 c = ends_continued-back c.args.line.now _ _ _ (grind arith) c.byte_back-before.ensures c.byte_back-last.ensures

pub returns-then-before-eq92 : goal.returns-then-before-eq92
unfolding is_continued
returns-then-before-eq92 c = ends_continued-back c.args.line.now _ _ _ (grind arith) c.byte_back-before.ensures c.byte_back-last.ensures

pub returns-else-before-eq92 : goal.returns-else-before-eq92
unfolding is_continued
returns-else-before-eq92 c = ends_continued-back c.args.line.now _ _ _ (grind arith) c.byte_back-before.ensures c.byte_back-last.ensures
