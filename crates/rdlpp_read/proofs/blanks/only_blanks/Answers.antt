use Rattle.std.proofs.Common.{length, sym, arith, ap, take_all}
use Rattle.rdlpp_meaning.specs.Parts.{only_blanks}
use Rattle.rdlpp_read.proofs.LogicalLines.{blanks_line_end, blanks_other, blanks_blank}
use Rattle.rdlpp_read.proofs.blanks.only_blanks.Goals as goal

pub loop-at-init : goal.loop-at-init
loop-at-init c = sym (ap (only_blanks c.args.first) (take_all (length c.args.bytes.now) c.args.bytes.now (omega arith)))

pub returns-then-byte-eq10 : goal.returns-then-byte-eq10
returns-then-byte-eq10 c = grind (arith, blanks_line_end)

pub returns-then-not-is_blank : goal.returns-then-not-is_blank
returns-then-not-is_blank c = grind (arith, blanks_other)

pub loop-at-preserved : goal.loop-at-preserved
loop-at-preserved c = grind (arith, blanks_blank)

pub returns : goal.returns
unfolding only_blanks
returns c = grind arith
