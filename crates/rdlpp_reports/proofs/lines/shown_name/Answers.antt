-- A name is cut at the last boundary up to its 1,024th byte.
use Rattle.std.proofs.Common.{arith}
use Rattle.rdlpp_state.proofs.OpeningFacts.{name_cut_at}
use Rattle.rdlpp_reports.proofs.lines.shown_name.Goals as goal

pub returns-clause-value : goal.returns-clause-value
returns-clause-value c = grind (arith, name_cut_at)
