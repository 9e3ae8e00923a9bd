use Rattle.rdlpp_scan.proofs.OrdinaryLaws.{inert_byte, no_mark}
use Rattle.rdlpp_scan.proofs.plain.before_near_mark.Goals as goal

pub after_byte-run-requires-clause-goes_on : goal.after_byte-run-requires-clause-goes_on
after_byte-run-requires-clause-goes_on c = inert_byte c.args.bytes.now c.loop-run.run.len (no_mark _ c.if-b-eq96.false c.if-b-eq34.false c.if-b-eq47.false c.if-b-eq60.false)
