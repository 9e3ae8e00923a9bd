-- The parts of the line were written one after another.
use Rattle.std.proofs.Common.{sym, ◌∙◌}
use Rattle.std.proofs.lemmas.Result.{err_from_is_err_and}
use Rattle.rdlpp_define.specs.Table.{macro_at}
use Rattle.rdlpp_reports.proofs.Written.{comment_line, formals_in_front, whole_line, writes_by, writes_part, writes_then, writes_whole}
use Rattle.rdlpp_reports.proofs.definitions.write_macro.Goals as goal

pub returns-then-ends_in_slash : goal.returns-then-ends_in_slash
returns-then-ends_in_slash g c s b =
    writes_by _ _ _ _ _ (comment_line (macro_at c.args.table.now.macros c.args.id) c.name-name.result.now c.body-body.result.now c.name-name.ensures c.body-body.ensures (sym c.ends_in_slash.ensures ∙ c.if-ends_in_slash.true)) c.write_parts.ensures

pub returns-in_err-write_parts : goal.returns-in_err-write_parts
returns-in_err-write_parts g c s b =
    let m = macro_at c.args.table.now.macros c.args.id in
    let line = whole_line m c.name-name.result.now c.body-body.result.now c.name-name.ensures c.body-body.ensures (sym c.ends_in_slash.ensures ∙ c.if-ends_in_slash.false) in
    let p = err_from_is_err_and c.from_residual.result c.from_residual.ensures.1 in
    rw p.1 (writes_by _ _ _ _ _ line (writes_part _ _ _ _ _ _ c.in_err-write_parts.ensures))

pub returns-in_err-write_list : goal.returns-in_err-write_list
returns-in_err-write_list g c s b =
    let m = macro_at c.args.table.now.macros c.args.id in
    let line = whole_line m c.name-name.result.now c.body-body.result.now c.name-name.ensures c.body-body.ensures (sym c.ends_in_slash.ensures ∙ c.if-ends_in_slash.false) in
    let front = formals_in_front c.args.bytes.now c.name-name.result.now c.following.result.now m b c.name-name.ensures c.following.ensures in
    let p = err_from_is_err_and c.from_residual-in_err-write_list.result c.from_residual-in_err-write_list.ensures.1 in
    rw p.1
    (writes_by _ _ _ _ _ line (writes_then _ _ _ _ _ _ (writes_whole _ _ _ _ c.in_ok-write_parts.ensures) (writes_part _ _ _ _ _ _ (c.in_err-write_list.ensures s front))))

pub returns-in_err-write_continued : goal.returns-in_err-write_continued
returns-in_err-write_continued g c s b =
    let m = macro_at c.args.table.now.macros c.args.id in
    let line = whole_line m c.name-name.result.now c.body-body.result.now c.name-name.ensures c.body-body.ensures (sym c.ends_in_slash.ensures ∙ c.if-ends_in_slash.false) in
    let front = formals_in_front c.args.bytes.now c.name-name.result.now c.following.result.now m b c.name-name.ensures c.following.ensures in
    let p = err_from_is_err_and c.from_residual-in_err-write_continued.result c.from_residual-in_err-write_continued.ensures.1 in
    rw p.1
    (writes_by _ _ _ _ _ line
    (writes_then _ _ _ _ _ _ (writes_whole _ _ _ _ c.in_ok-write_parts.ensures)
    (writes_then _ _ _ _ _ _ (writes_whole _ _ _ _ (c.in_ok-write_list.ensures s front))
    (writes_part _ _ _ _ _ _ c.in_err-write_continued.ensures))))

pub returns : goal.returns
returns g c s b =
    let m = macro_at c.args.table.now.macros c.args.id in
    let line = whole_line m c.name-name.result.now c.body-body.result.now c.name-name.ensures c.body-body.ensures (sym c.ends_in_slash.ensures ∙ c.if-ends_in_slash.false) in
    let front = formals_in_front c.args.bytes.now c.name-name.result.now c.following.result.now m b c.name-name.ensures c.following.ensures in
    writes_by _ _ _ _ _ line
    (writes_then _ _ _ _ _ _ (writes_whole _ _ _ _ c.in_ok-write_parts.ensures)
    (writes_then _ _ _ _ _ _ (writes_whole _ _ _ _ (c.in_ok-write_list.ensures s front))
    (writes_then _ _ _ _ _ _ (writes_whole _ _ _ _ c.in_ok-write_continued.ensures) c.write_whole.ensures)))
