use Rattle.std.proofs.Common.{arith, length-take}
use Rattle.rdlpp_scan.proofs.SourceLaws.{whole_lines_len-le}
use Rattle.rdlpp_read.proofs.Growing.{found_after, none_after, past-last, past-whole, whole_within}
use Rattle.rdlpp_read.proofs.buffer.ahead.look_ahead.Goals as goal

pub returns-then-len-eq0 : goal.returns-then-len-eq0
returns-then-len-eq0 c =
    let some = found_after c.args.seen c.args.bytes.now (let count = c.last_line_end.ensures in omega arith) in
    grind (arith, past-whole, some)

pub returns-else-len-eq0 : goal.returns-else-len-eq0
returns-else-len-eq0 c = grind (arith, whole_lines_len-le, length-take, whole_within)

pub returns-then-not-ended : goal.returns-then-not-ended
returns-then-not-ended c =
    (none_after c.args.seen c.args.bytes.now c.requires.none (let count = c.last_line_end.ensures in omega arith), c.if-not-ended.true)

pub returns-then-bytes-bytes_left : goal.returns-then-bytes-bytes_left
returns-then-bytes-bytes_left c =
    let none = none_after c.args.seen c.args.bytes.now c.requires.none (let count = c.last_line_end.ensures in omega arith) in
    rw c.if-not-ended.false (past-last c.args.bytes_left c.args.bytes.now none (omega arith))
