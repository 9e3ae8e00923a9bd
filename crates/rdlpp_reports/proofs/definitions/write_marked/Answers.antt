-- The mark was written, and then the text.
use Rattle.std.proofs.Common.{arith}
use Rattle.std.proofs.lemmas.Bool.Decides.{nat_tests}
use Rattle.std.proofs.lemmas.Result.{err_from_is_err_and}
use Rattle.rdlpp_reports.proofs.Written.{marked-none, marked-some, writes_by, writes_part, writes_then, writes_whole}
use Rattle.rdlpp_reports.proofs.definitions.write_marked.Goals as goal

pub returns-then-is_empty : goal.returns-then-is_empty
returns-then-is_empty g c = writes_by _ _ _ _ _ (marked-none c.args.mark.now c.args.text.now (grind (arith, nat_tests, c.is_empty.ensures, c.if-is_empty.true))) c.write_whole.ensures

pub returns-in_err-write_whole : goal.returns-in_err-write_whole
returns-in_err-write_whole g c = search (arith, err_from_is_err_and, writes_by, marked-some, nat_tests, writes_part)

pub returns : goal.returns
returns g c =
    writes_by _ _ _ _ _ (marked-some c.args.mark.now c.args.text.now (λ h. grind (arith, nat_tests, h, c.is_empty.ensures, c.if-is_empty.false))) (writes_then _ _ _ _ _ _ (writes_whole _ _ _ _ c.in_ok-write_whole.ensures) c.write_continued.ensures)
