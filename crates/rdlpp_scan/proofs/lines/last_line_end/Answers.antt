use Rattle.std.proofs.Common.{sym, arith}
use Rattle.rdlpp_scan.proofs.TokenLens.{whole_lines_len-none, whole_lines_len-some}
use Rattle.rdlpp_scan.proofs.lines.last_line_end.Goals as goal

pub returns-in-Some : goal.returns-in-Some
returns-in-Some c = let e = whole_lines_len-some c.args.bytes.now c.in-Some.at c.in-Some.ensures in omega (arith, e)

pub returns-in-None : goal.returns-in-None
returns-in-None c = sym (whole_lines_len-none c.args.bytes.now c.in-None.ensures)
