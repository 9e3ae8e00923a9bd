use Rattle.std.proofs.Common.{refl}
use Rattle.rdlpp_define.proofs.Headers.{part_read}
use Rattle.rdlpp_define.proofs.formals.first_part.Goals as goal

pub returns-clause-part : goal.returns-clause-part
returns-clause-part c = part_read _ _ _ _ _ c.after_space-rest.ensures.value c.leading_name-name.ensures.value refl c.after_space.ensures.value
