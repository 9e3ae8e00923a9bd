use Rattle.std.proofs.Common.{◌<◌, ◌≤◌, length, sym, ◌∙◌, arith}
use Rattle.rdlpp_table.proofs.Orders.{fold_bytes_next, fold_bytes_whole}
use Rattle.rdlpp_table.proofs.buckets.fold_bytes.Goals as goal

pub loop-byte-preserved : goal.loop-byte-preserved
loop-byte-preserved c =
    let h : c.loop-byte.byte-index < length c.args.bytes.now = omega arith in
    fold_bytes_next c.loop-byte.number c.args.bytes.now c.loop-byte.byte-index _ h c.from.ensures ∙ c.loop-byte.invariant

pub returns : goal.returns
returns c =
    let h : length c.args.bytes.now ≤ c.loop-byte.byte-index = omega arith in
    sym (fold_bytes_whole c.loop-byte.number c.args.bytes.now c.loop-byte.byte-index h) ∙ c.loop-byte.invariant
