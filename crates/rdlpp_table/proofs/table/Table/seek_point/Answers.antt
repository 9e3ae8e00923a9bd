use Rattle.rdlpp_define.specs.Table.{macro_at}
use Rattle.rdlpp_table.proofs.FirstPoints.{some_kept as some_point}
use Rattle.rdlpp_table.proofs.table.Table.seek_point.Goals as goal

pub returns : goal.returns
returns c =
    some_point (macro_at c.args.self.now.macros c.args.id) _ _ _ _ _ c.formals.ensures.formals c.body-body.ensures c.next_expansion_point.ensures.value
