use Rattle.std.proofs.Common.{◌∙◌}
use Rattle.rdlpp.proofs.Runs.{reports_limit, reports_memory}
use Rattle.rdlpp.proofs.reporting.report.Goals as goal

pub returns-in-BadLimits : goal.returns-in-BadLimits
returns-in-BadLimits g c =
    reports_limit _ _ _ c.in-BadLimits.limit c.as_bytes-name.result.now c.write_parts.result c.in-BadLimits.is (c.as_bytes-name.ensures.value ∙ c.limit_name.ensures)
    c.write_parts.ensures

pub returns-in-NoMemory : goal.returns-in-NoMemory
returns-in-NoMemory g c = reports_memory _ _ _ c.write_whole.result c.in-NoMemory.is c.write_whole.ensures
