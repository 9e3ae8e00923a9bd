use Rattle.std.proofs.Common.{sym, ap, ◌∙◌, option_map}
use Rattle.rdlpp_meaning.specs.Outcome.{report_of}
use Rattle.rdlpp_c.proofs.output.told_end.Goals as goal

pub returns-in-Some-clause-fault : goal.returns-in-Some-clause-fault
returns-in-Some-clause-fault c = sym (ap (option_map report_of) c.in-Some.is) ∙ c.ended_fault.ensures

pub returns-in-None-clause-fault : goal.returns-in-None-clause-fault
returns-in-None-clause-fault c = sym (ap (option_map report_of) c.in-None.is) ∙ c.ended_fault.ensures
