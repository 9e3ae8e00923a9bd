use Rattle.std.proofs.Common.{rules, ◌+◌, ◌∙◌, ap, sym, refl}
use Rattle.rdlpp_scan.specs.SourceTokens.{line_ends}
use Rattle.rdlpp_scan.proofs.SourceLaws.{line_ends-hit, line_ends-miss, line_ends-most}
use Rattle.rdlpp_scan.proofs.lines.short_line_ends.Goals.{then-bytes-at-eq10, else-bytes-at-eq10}
use Rattle.rdlpp_scan.proofs.lines.short_line_ends.Goals as goal

pub loop-at-init : goal.loop-at-init
unfolding line_ends
loop-at-init c = refl

pub overflow_add-count : goal.overflow_add-count
overflow_add-count c =
    let old = c.loop-at.invariant in
    let most = line_ends-most c.args.bytes.now c.loop-at.at in
    let short = c.requires in
    let inside = c.loop-at-test.true in
    search rules

pub loop-at-preserved : goal.loop-at-preserved
loop-at-preserved c =
    let bs = c.args.bytes.now in
    elim c.if-bytes-at-eq10.branch [
      | then-bytes-at-eq10 w ↦ w.count-is ∙ ap (λ t. t + 1) c.loop-at.invariant ∙ sym (line_ends-hit bs c.loop-at.at c.loop-at-test.true w.if-bytes-at-eq10.true)
      | else-bytes-at-eq10 w ↦ w.count-is ∙ c.loop-at.invariant ∙ sym (line_ends-miss bs c.loop-at.at c.loop-at-test.true w.if-bytes-at-eq10.false)
    ]
