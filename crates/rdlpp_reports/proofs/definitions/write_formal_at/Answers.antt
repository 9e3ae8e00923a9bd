-- The comma was written where the formal isn't the first, and then the formal.
use Rattle.std.proofs.Common.{arith}
use Rattle.std.proofs.lemmas.Bool.Decides.{nat_tests}
use Rattle.std.proofs.lemmas.Result.{err_from_is_err_and}
use Rattle.rdlpp_reports.proofs.Written.{first_part, further_part, writes_by, writes_part, writes_then, writes_whole}
use Rattle.rdlpp_reports.proofs.definitions.write_formal_at.Goals as goal

pub returns-then-place-eq0 : goal.returns-then-place-eq0
returns-then-place-eq0 g c = writes_by _ _ _ _ _ (first_part c.args.place _ (grind (arith, nat_tests, c.if-place-eq0.true))) c.write_formal.ensures

pub returns-in_err-write_whole : goal.returns-in_err-write_whole
returns-in_err-write_whole g c =
    let p = err_from_is_err_and c.from_residual.result c.from_residual.ensures.1 in
    rw p.1
    (writes_by _ _ _ _ _ (further_part c.args.place _ (λ h. grind (arith, nat_tests, h, c.if-place-eq0.false))) (writes_part _ _ _ _ _ _ c.in_err-write_whole.ensures))

pub returns : goal.returns
returns g c =
    writes_by _ _ _ _ _ (further_part c.args.place _ (λ h. grind (arith, nat_tests, h, c.if-place-eq0.false))) (writes_then _ _ _ _ _ _ (writes_whole _ _ _ _ c.in_ok-write_whole.ensures) c.write_formal-2.ensures)
