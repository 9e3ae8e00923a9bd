use Rattle.std.proofs.Common.{arith}
use Rattle.rdlpp_table.proofs.index.offsets_start.Goals as goal

pub overflow_add-result : goal.overflow_add-result
overflow_add-result c = omega (arith, c.group_start.ensures.narrow)
