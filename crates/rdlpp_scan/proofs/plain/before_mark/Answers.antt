use Rattle.std.proofs.Common.{rules, ◌+◌, arith}
use Rattle.rdlpp_scan.proofs.OrdinaryLaws.{passed_fits, passed_part}
use Rattle.rdlpp_scan.proofs.plain.before_mark.Goals as goal

pub overflow_add-result-2 : goal.overflow_add-result-2
overflow_add-result-2 c =
    let r = c.before_marked_block-run.result in
    let f = c.inert_front-front in
    let passed = passed_part c.args.bytes.now r.len r.lines f.result.len f.result.lines c.before_marked_block-run.ensures.passed (omega (arith, f.ensures.few, c.if-bytes-run-lt-BLOCK_BYTES.false, c.before_marked_block-run.ensures.passed.inside)) f.ensures.inert f.ensures.lines in
    let most = passed_fits c.args.bytes.now (r.len + f.result.len) _ passed in
    let fits = c.type_inv.bytes in
    search rules

pub returns-clause-passed : goal.returns-clause-passed
returns-clause-passed c =
    let r = c.before_marked_block-run.result in
    let f = c.inert_front-front in
    passed_part c.args.bytes.now r.len r.lines f.result.len f.result.lines c.before_marked_block-run.ensures.passed (omega (arith, f.ensures.few, c.if-bytes-run-lt-BLOCK_BYTES.false, c.before_marked_block-run.ensures.passed.inside)) f.ensures.inert f.ensures.lines
