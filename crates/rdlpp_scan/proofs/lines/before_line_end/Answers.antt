use Rattle.std.proofs.Common.{◌∙◌}
use Rattle.rdlpp_scan.proofs.TokenLens.{before_line_end-search}
use Rattle.rdlpp_scan.proofs.lines.before_line_end.Goals as goal

pub returns-clause-value : goal.returns-clause-value
returns-clause-value c = c.unwrap_or.ensures ∙ before_line_end-search _ _ c.memchr.ensures
