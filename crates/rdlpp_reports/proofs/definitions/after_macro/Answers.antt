-- After its name, each of its formals, and its body.
use Rattle.std.proofs.Common.{◌+◌, ◌++◌, drop, arith, ◌∙◌, flat_map}
use Rattle.rdlpp_define.specs.Macros.{formal_bytes, formals_of}
use Rattle.rdlpp_define.specs.Table.{macro_at, no_formal}
use Rattle.rdlpp_reports.proofs.Written.{body_after, count_formals, formals_after, formals_end, formals_from}
use Rattle.rdlpp_reports.proofs.definitions.after_macro.Goals as goal

pub loop-place-init : goal.loop-place-init
loop-place-init c s after e = formals_after c.args.bytes.now after c.name.result.now c.following-rest.result.now (macro_at c.args.table.now.macros c.args.id) e c.name.ensures c.following-rest.ensures

pub loop-place-preserved : goal.loop-place-preserved
loop-place-preserved c s after e =
    let m = macro_at c.args.table.now.macros c.args.id in
    let fs = formals_of m in
    let tail = m.body ++ after in
    let count = count_formals m.formals c.arity.result c.arity.ensures in
    c.after_formal-rest.ensures s (flat_map formal_bytes (drop (c.loop-place.place + 1) fs) ++ tail)
    (formals_from fs no_formal c.loop-place.place c.loop-place.rest.now tail (omega (arith, count, c.loop-place-test.true)) (c.loop-place.invariant s after e))

pub returns : goal.returns
returns c s after e =
    let m = macro_at c.args.table.now.macros c.args.id in
    let fs = formals_of m in
    let tail = m.body ++ after in
    let count = count_formals m.formals c.arity.result c.arity.ensures in
    c.following.ensures
    ∙ body_after c.loop-place.rest.now after c.body.result.now m
    (formals_end fs c.loop-place.place c.loop-place.rest.now tail (omega (arith, count, c.loop-place-test.false)) (c.loop-place.invariant s after e)) c.body.ensures
