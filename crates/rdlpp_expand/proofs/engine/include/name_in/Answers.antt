use Rattle.std.proofs.Common.{◌≡◌, ◌-◌, true, length, take, drop, sym, ap, ◌∙◌, ◌==◌}
use Rattle.std.specs.Str.{is_utf8}
use Rattle.std.proofs.lemmas.Str.{is_utf8-from_IsUtf8}
use Rattle.rdlpp_state.proofs.IncludeSteps.{bad_empty, bad_utf8, good_name, name_taken, not_utf8}
use Rattle.rdlpp_expand.proofs.engine.include.name_in.Goals as goal

pub returns-then-is_empty-clause-bad : goal.returns-then-is_empty-clause-bad
returns-then-is_empty-clause-bad c =
    let same = name_taken c.args.string.now c.max.result c.max.ensures in
    bad_empty _ (ap (λ n. length n == 0) (sym same) ∙ (sym c.is_empty.ensures ∙ c.if-is_empty.true))

pub returns-in-Ok : goal.returns-in-Ok
returns-in-Ok c =
    let same = name_taken c.args.string.now c.max.result c.max.ensures in
    let right : is_utf8 (take (c.max.result - 1 - 1) (drop 1 c.args.string.now)) ≡ true = is_utf8-from_IsUtf8 _ c.in-Ok.ensures.cases.1 in
    record {
      bad = tt;
      name = (
        c.in-Ok.ensures.cases.0 ∙ same,
        good_name _ (ap (λ n. length n == 0) (sym same) ∙ (sym c.is_empty.ensures ∙ c.if-is_empty.false)) (ap is_utf8 (sym same) ∙ right),
      );
    }

pub returns-in-Err : goal.returns-in-Err
returns-in-Err c =
    let same = name_taken c.args.string.now c.max.result c.max.ensures in
    record { bad = bad_utf8 _ (ap is_utf8 (sym same) ∙ not_utf8 _ c.in-Err.ensures.cases.0); name = tt }
