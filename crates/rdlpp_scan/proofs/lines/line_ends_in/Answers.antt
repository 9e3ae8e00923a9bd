use Rattle.std.proofs.Common.{rules, ◌+◌, refl, arith}
use Rattle.rdlpp_scan.specs.SourceTokens.{line_ends}
use Rattle.rdlpp_scan.proofs.SourceLaws.{line_ends-most, line_ends-part}
use Rattle.rdlpp_scan.proofs.lines.line_ends_in.Goals as goal

pub loop-at-init : goal.loop-at-init
unfolding line_ends
loop-at-init c = (omega arith, refl)

pub overflow_add-count : goal.overflow_add-count
overflow_add-count c =
    let bs = c.args.bytes.now in
    let at = c.loop-at.at in
    let n = c.min.result in
    let old = c.loop-at.invariant in
    let before = line_ends-most bs at in
    let part = line_ends-part bs at n in
    let both = line_ends-most bs (at + n) in
    let new = c.short_line_ends.ensures in
    let inside = c.loop-at-test.true in
    let least = c.min.ensures in
    let fits = c.type_inv.bytes in
    search rules

pub loop-at-preserved : goal.loop-at-preserved
loop-at-preserved c =
    let bs = c.args.bytes.now in
    let at = c.loop-at.at in
    let n = c.min.result in
    let part = line_ends-part bs at n in (
      omega (arith, c.loop-at-test.true, c.min.ensures),
      omega (arith, c.short_line_ends.ensures, c.loop-at.invariant.1, part),
    )
