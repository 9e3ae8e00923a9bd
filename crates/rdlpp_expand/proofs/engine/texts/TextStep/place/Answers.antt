use Rattle.std.proofs.Common.{sym, ap}
use Rattle.rdlpp_expand.specs.Texts.{place_of}
use Rattle.rdlpp_expand.proofs.engine.texts.TextStep.place.Goals as goal

pub returns-in-Lent : goal.returns-in-Lent
returns-in-Lent c = sym (ap place_of c.in-Lent.is)

pub returns-in-Silent : goal.returns-in-Silent
returns-in-Silent c = sym (ap place_of c.in-Silent.is)

pub returns-in-Fault : goal.returns-in-Fault
returns-in-Fault c = sym (ap place_of c.in-Fault.is)
