-- A line more was written.
use Rattle.std.proofs.Common.{◌≡◌, ◌+◌, ◌<◌, ◌++◌, drop, length, ap, sym, ◌∙◌, arith, flat_map}
use Rattle.std.proofs.lemmas.List.Elements.{All-get_or}
use Rattle.std.proofs.lemmas.Option.{none-some, same_Some}
use Rattle.std.proofs.lemmas.Result.{err_from_is_err_and}
use Rattle.rdlpp_table.specs.Store.{macro_bytes}
use Rattle.rdlpp_define.specs.Macros.{IsSoundMacro}
use Rattle.rdlpp_define.specs.Table.{macro_at, no_macro}
use Rattle.rdlpp_reports.specs.Definitions.{definition_line}
use Rattle.rdlpp_reports.proofs.Written.{flat-fails, flat-grows, macro_name, macros_from, writes_by}
use Rattle.rdlpp_reports.proofs.definitions.write_definitions.Goals as goal

pub returns-in_default : goal.returns-in_default
returns-in_default g c =
    let ms = c.args.table.now.macros in
    let place = c.loop-place.place in
    let sound = c.len-place-end.ensures.sound in
    let h : place < length ms = omega (arith, c.len-place-end.ensures.value, c.loop-place-test.true) in
    let front = macros_from ms place c.loop-place.rest.now h c.loop-place.invariant.0 in
    let after = flat_map macro_bytes (drop (place + 1) ms) in
    let found = c.macro_in_front.ensures.value sound h (macro_name c.loop-place.rest.now after (macro_at ms place) front) in
    absurd (none-some place (sym c.in_default.is ∙ found))

pub returns-in_err-write_macro : goal.returns-in_err-write_macro
returns-in_err-write_macro g c =
    let ms = c.args.table.now.macros in
    let place = c.loop-place.place in
    let sound = c.len-place-end.ensures.sound in
    let h : place < length ms = omega (arith, c.len-place-end.ensures.value, c.loop-place-test.true) in
    let front = macros_from ms place c.loop-place.rest.now h c.loop-place.invariant.0 in
    let after = flat_map macro_bytes (drop (place + 1) ms) in
    let found = c.macro_in_front.ensures.value sound h (macro_name c.loop-place.rest.now after (macro_at ms place) front) in
    let id = c.in-Some.id in
    let same : id ≡ place = same_Some id place (sym c.in-Some.is ∙ found) in
    let formals = (All-get_or IsSoundMacro ms id no_macro (omega (arith, same, h)) sound.each).formals in
    let begins = front ∙ ap (λ n. macro_bytes (macro_at ms n) ++ after) (sym same) in
    let line = ap (λ n. definition_line (macro_at ms n)) same in
    let p = err_from_is_err_and c.from_residual.result c.from_residual.ensures.1 in
    rw p.1
    (flat-fails definition_line ms place no_macro _ _ _ _ _ h c.loop-place.invariant.1 (writes_by _ _ _ _ _ line (c.in_err-write_macro.ensures formals (after, begins))))

pub loop-place-preserved : goal.loop-place-preserved
loop-place-preserved g c =
    let ms = c.args.table.now.macros in
    let place = c.loop-place.place in
    let sound = c.len-place-end.ensures.sound in
    let h : place < length ms = omega (arith, c.len-place-end.ensures.value, c.loop-place-test.true) in
    let front = macros_from ms place c.loop-place.rest.now h c.loop-place.invariant.0 in
    let after = flat_map macro_bytes (drop (place + 1) ms) in
    let found = c.macro_in_front.ensures.value sound h (macro_name c.loop-place.rest.now after (macro_at ms place) front) in
    let id = c.in-Some.id in
    let same : id ≡ place = same_Some id place (sym c.in-Some.is ∙ found) in
    let formals = (All-get_or IsSoundMacro ms id no_macro (omega (arith, same, h)) sound.each).formals in
    let begins = front ∙ ap (λ n. macro_bytes (macro_at ms n) ++ after) (sym same) in
    let line = ap (λ n. definition_line (macro_at ms n)) same in
    (c.after_macro-rest.ensures formals after begins, flat-grows definition_line ms place no_macro _ _ _ _ h c.loop-place.invariant.1 (writes_by _ _ _ _ _ line (c.in_ok-write_macro.ensures formals (after, begins))))
