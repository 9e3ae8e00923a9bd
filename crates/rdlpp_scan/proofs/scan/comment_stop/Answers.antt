use Rattle.std.proofs.Common.{◌∙◌}
use Rattle.rdlpp_scan.proofs.TokenLens.{comment_stop-search}
use Rattle.rdlpp_scan.proofs.scan.comment_stop.Goals as goal

pub returns-clause-value : goal.returns-clause-value
returns-clause-value c = c.unwrap_or.ensures ∙ comment_stop-search _ _ c.find.ensures
