use Rattle.std.proofs.Common.{◌≡◌, true, length, sym, subst, arith}
use Rattle.std.proofs.lemmas.Slice.{between_to_end}
use Rattle.rdlpp_scan.specs.Tokens.{stops_plain_text}
use Rattle.rdlpp_scan.proofs.TokenLens.{plain_len-found, plain_len-to_end}
use Rattle.rdlpp_scan.proofs.OrdinaryLaws.{passed_none}
use Rattle.rdlpp_scan.proofs.plain.plain_text.Goals as goal

pub before_mark-run-requires : goal.before_mark-run-requires
before_mark-run-requires c = passed_none c.args.bytes.now

pub returns-then-stops_plain_text-clause-len : goal.returns-then-stops_plain_text-clause-len
returns-then-stops_plain_text-clause-len c =
    let bs = c.args.bytes.now in
    let at = c.loop-run.run.len in
    let stop = sym (subst (λ xs. true ≡ stops_plain_text xs) (between_to_end bs at (length bs) (omega arith)) c.if-stops_plain_text.ensures) in
    plain_len-found bs at c.loop-run-test.true c.loop-run.invariant.plain stop

pub returns-clause-len : goal.returns-clause-len
returns-clause-len c =
    plain_len-to_end c.args.bytes.now c.loop-run.run.len c.loop-run.invariant.inside c.loop-run.invariant.plain (omega (arith, c.loop-run-test.false))
