-- The formals were written one after another, between parentheses.
use Rattle.std.proofs.Common.{◌+◌, ◌<◌, ◌++◌, [], drop, length, arith, refl, flat_map}
use Rattle.std.proofs.lemmas.Result.{err_from_is_err_and}
use Rattle.rdlpp_define.specs.Macros.{formal_bytes, formals_of}
use Rattle.rdlpp_define.specs.Table.{formal_at, macro_at, no_formal}
use Rattle.rdlpp_reports.proofs.Written.{formal-fails, formal-grows, formals-end, formals_from, part_by, writes_by, writes_part, writes_whole}
use Rattle.rdlpp_reports.proofs.definitions.write_formals.Goals as goal

pub returns-in_err-write_whole : goal.returns-in_err-write_whole
returns-in_err-write_whole g c s b =
    let p = err_from_is_err_and c.from_residual.result c.from_residual.ensures.1 in
    rw p.1 (writes_part _ _ _ _ _ _ c.in_err-write_whole.ensures)

pub loop-place-init : goal.loop-place-init
loop-place-init g c s b = (b, record { done = []; split = refl; appended = writes_whole _ _ _ _ c.in_ok-write_whole.ensures })

pub returns-in_err-write_formal_at : goal.returns-in_err-write_formal_at
returns-in_err-write_formal_at g c s b =
    let fs = formals_of (macro_at c.args.table.now.macros c.args.id) in
    let place = c.loop-place.place in
    let h : place < length fs = omega (arith, c.requires.arity, c.loop-place-test.true) in
    let inv = c.loop-place.invariant s b in
    let tail = flat_map formal_bytes (drop (place + 1) fs) ++ inv.0.0 in
    let front = formals_from fs no_formal place c.loop-place.rest.now inv.0.0 h inv.0.1 in
    let part = part_by place c.formal_name-name.result.now c.default_text.result.now (formal_at fs place) (c.formal_name-name.ensures s h (tail, front)) c.default_text.ensures in
    let p = err_from_is_err_and c.from_residual-in_err-write_formal_at.result c.from_residual-in_err-write_formal_at.ensures.1 in
    rw p.1
    (formal-fails fs no_formal place _ _ _ _ _ h inv.1 (writes_by _ _ _ _ _ part c.in_err-write_formal_at.ensures))

pub loop-place-preserved : goal.loop-place-preserved
loop-place-preserved g c s b =
    let fs = formals_of (macro_at c.args.table.now.macros c.args.id) in
    let place = c.loop-place.place in
    let h : place < length fs = omega (arith, c.requires.arity, c.loop-place-test.true) in
    let inv = c.loop-place.invariant s b in
    let tail = flat_map formal_bytes (drop (place + 1) fs) ++ inv.0.0 in
    let front = formals_from fs no_formal place c.loop-place.rest.now inv.0.0 h inv.0.1 in
    let part = part_by place c.formal_name-name.result.now c.default_text.result.now (formal_at fs place) (c.formal_name-name.ensures s h (tail, front)) c.default_text.ensures in
    ((inv.0.0, c.after_formal-rest.ensures s tail front), formal-grows fs no_formal place _ _ _ _ h inv.1 (writes_by _ _ _ _ _ part c.in_ok-write_formal_at.ensures))

pub returns : goal.returns
returns g c s b = grind (arith, formals-end)
