-- One byte more was written.
use Rattle.std.proofs.lemmas.Result.{err_from_is_err_and}
use Rattle.rdlpp_reports.specs.Definitions.{continued_byte}
use Rattle.rdlpp_reports.proofs.Written.{flat-fails, flat-grows}
use Rattle.rdlpp_reports.proofs.definitions.write_continued.Goals as goal

pub returns-in_err-write_continued_byte : goal.returns-in_err-write_continued_byte
returns-in_err-write_continued_byte g c =
    let p = err_from_is_err_and c.from_residual.result c.from_residual.ensures.1 in
    rw p.1
    (flat-fails continued_byte c.args.text.now c.loop-byte.byte-index _ _ _ _ _ _ c.loop-byte-test.true c.loop-byte.invariant c.in_err-write_continued_byte.ensures)

pub loop-byte-preserved : goal.loop-byte-preserved
loop-byte-preserved g c =
    flat-grows continued_byte c.args.text.now c.loop-byte.byte-index _ _ _ _ _ c.loop-byte-test.true c.loop-byte.invariant c.in_ok-write_continued_byte.ensures
