use Rattle.std.proofs.Common.{arith}
use Rattle.rdlpp_table.proofs.FormalOffsets.{passed_start, passed_more, passed_last}
use Rattle.rdlpp_table.proofs.stored.default_in_list.Goals as goal

pub loop-init : goal.loop-init
loop-init c = passed_start _ _ _

pub loop-preserved : goal.loop-preserved
loop-preserved c = passed_more _ _ _ c.args.count c.args.place c.loop.counter c.requires (omega arith) c.loop.invariant c.after_formal-rest.ensures

pub returns : goal.returns
returns c = passed_last _ _ _ c.args.count c.args.place c.loop.counter c.requires (omega arith) c.loop.invariant c.formal_text.ensures
