use Rattle.std.proofs.Common.{length, sym, ap, ◌∙◌, arith, length-drop, length-take}
use Rattle.rdlpp_scan.proofs.TokenSteps.{logical_len-within}
use Rattle.rdlpp_read.specs.Buffer.{held_of}
use Rattle.rdlpp_read.proofs.LogicalLines.{continues-on, continues-starts, cut-line, failed-line, fewer-lines, found-line, last-line, long-line, none-at}
use Rattle.rdlpp_read.proofs.buffer.extending.hold_logical_line.Goals as goal

pub lines-init : goal.lines-init
lines-init g c = continues-starts g.S.Sources c.args.sources.now c.args.buffer.now c.requires

pub overflow_add-result : goal.overflow_add-result
overflow_add-result g c = grind (arith, logical_len-within, length-take, length-drop)

pub returns-in-Some-clause-holds : goal.returns-in-Some-clause-holds
returns-in-Some-clause-holds g c =
    let found = rw c.held-held.ensures.value at (sym c.logical_line.ensures ∙ c.in-Some.is) in
    found-line g.S.Sources c.args.sources.now c.lines.sources c.args.buffer.now c.lines.buffer c.lines.seen c.in-Some.len c.lines.invariant c.held-held.ensures.buffer found

pub lines-smaller : goal.lines-smaller
lines-smaller g c = grind (arith, fewer-lines)

pub lines-preserved : goal.lines-preserved
lines-preserved g c =
    let v = c.lines.invariant in
    let unfound = rw c.held-held.ensures.value at (sym c.logical_line.ensures ∙ c.in_default.is) in
    let none = none-at (held_of c.lines.buffer) c.lines.seen v.place v.whole v.none unfound in
    continues-on g.S.Sources c.args.sources.now c.lines.sources c.take_lines.new.sources c.args.buffer.now c.lines.buffer c.take_lines.new.buffer c.lines.seen _ v none (ap length c.held-held.ensures.value)
    c.in-Held.ensures.ends c.in-Held.ensures.grows c.in-Held.ensures.call

pub returns-in-End-clause-holds : goal.returns-in-End-clause-holds
returns-in-End-clause-holds g c =
    let v = c.lines.invariant in
    let unfound = rw c.held-held.ensures.value at (sym c.logical_line.ensures ∙ c.in_default.is) in
    let none = none-at (held_of c.lines.buffer) c.lines.seen v.place v.whole v.none unfound in
    last-line g.S.Sources c.args.sources.now c.lines.sources c.args.buffer.now c.lines.buffer c.take_lines.new.buffer c.lines.seen _ v c.held-held.ensures.buffer none (ap length c.held-held.ensures.value)
    c.in-End.ensures.grows

pub returns-in-LineLong-clause-holds : goal.returns-in-LineLong-clause-holds
returns-in-LineLong-clause-holds g c =
    let v = c.lines.invariant in
    let unfound = rw c.held-held.ensures.value at (sym c.logical_line.ensures ∙ c.in_default.is) in
    let none = none-at (held_of c.lines.buffer) c.lines.seen v.place v.whole v.none unfound in
    long-line g.S.Sources c.args.sources.now c.lines.sources c.args.buffer.now c.lines.buffer c.take_lines.new.buffer c.lines.seen v none
    c.in-LineLong.ensures.grows

pub returns-in-SourceLong-clause-holds : goal.returns-in-SourceLong-clause-holds
returns-in-SourceLong-clause-holds g c =
    let v = c.lines.invariant in
    let unfound = rw c.held-held.ensures.value at (sym c.logical_line.ensures ∙ c.in_default.is) in
    let none = none-at (held_of c.lines.buffer) c.lines.seen v.place v.whole v.none unfound in
    cut-line g.S.Sources c.args.sources.now c.lines.sources c.args.buffer.now c.lines.buffer c.take_lines.new.buffer c.lines.seen v none
    c.in-SourceLong.ensures.grows

pub returns-in-Failed-clause-holds : goal.returns-in-Failed-clause-holds
returns-in-Failed-clause-holds g c =
    let v = c.lines.invariant in
    failed-line g.S.Sources c.args.sources.now c.lines.sources c.args.buffer.now c.lines.buffer c.take_lines.new.buffer c.lines.seen v
    c.in-Failed.ensures.grows
