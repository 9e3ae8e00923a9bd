use Rattle.std.proofs.Common.{rules, ◌+◌, arith}
use Rattle.rdlpp_scan.proofs.OrdinaryLaws.{passed_block, passed_fits}
use Rattle.rdlpp_scan.proofs.plain.before_marked_block.Goals as goal

pub overflow_add-run-in-loop-run : goal.overflow_add-run-in-loop-run
overflow_add-run-in-loop-run c =
    let r = c.loop-run.run in
    let passed = passed_block c.args.bytes.now r.len r.lines c.marks_in.result c.ends_in.result c.loop-run.invariant.0 (omega (arith, c.loop-run-test.true, c.loop-run.invariant.0.inside)) c.marks_in.ensures c.if-marks_in-ne0.false c.ends_in.ensures in
    let most = passed_fits c.args.bytes.now (r.len + 16) _ passed in
    let fits = c.type_inv.bytes in
    search rules

pub loop-run-preserved : goal.loop-run-preserved
loop-run-preserved c =
    let r = c.loop-run.run in (
      passed_block c.args.bytes.now r.len r.lines c.marks_in.result c.ends_in.result c.loop-run.invariant.0 (omega (arith, c.loop-run-test.true, c.loop-run.invariant.0.inside)) c.marks_in.ensures c.if-marks_in-ne0.false c.ends_in.ensures,
      omega (arith, c.loop-run.invariant.1),
    )
