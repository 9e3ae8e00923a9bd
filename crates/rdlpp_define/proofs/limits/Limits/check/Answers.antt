use Rattle.std.proofs.Common.{◌∙◌, sym}
use Rattle.rdlpp_define.proofs.Ranges.{in_range, fault_out_of_range}
use Rattle.rdlpp_define.proofs.limits.Limits.check.Goals as goal

pub returns-in-Some-clause-refused : goal.returns-in-Some-clause-refused
returns-in-Some-clause-refused c = λ h. absurd (fault_out_of_range _ _ _ c.fault.ensures c.in-Some.is h)

pub returns-in-None-clause-in_range : goal.returns-in-None-clause-in_range
returns-in-None-clause-in_range c = in_range _ (sym c.fault.ensures ∙ c.in-None.is)
