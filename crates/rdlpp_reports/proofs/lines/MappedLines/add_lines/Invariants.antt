-- So many lines are left.
use Rattle.rdlpp_reports.proofs.lines.MappedLines.add_lines.Given as goal

abbrev pub decreases-loop-left : goal.decreases-loop-left
decreases-loop-left l = l.left
