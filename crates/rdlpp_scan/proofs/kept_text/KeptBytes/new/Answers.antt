use Rattle.rdlpp_scan.proofs.Measures.{left_new}
use Rattle.rdlpp_scan.proofs.kept_text.KeptBytes.new.Goals as goal

pub returns-clause-left : goal.returns-clause-left
returns-clause-left c = left_new _ _ _ _ c.start_level.ensures.value
