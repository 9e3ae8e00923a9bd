use Rattle.std.proofs.Common.{sym, ◌∙◌, arith}
use Rattle.rdlpp_expand.proofs.Readings.{fills_ended, fills_full, fills_part, fills_paused, given_more, given_none, given_turned, leaves, rest_used, turns_as}
use Rattle.rdlpp_expand.proofs.reading.Reading.read.Goals as goal

pub loop-len-init : goal.loop-len-init
loop-len-init g c = (given_none g.S.Sources c.args.self.now c.args.out.now, omega arith)

pub turn-requires : goal.turn-requires
turn-requires g c = c.loop-len.invariant.1

pub returns-then-len-out-clause-left : goal.returns-then-len-out-clause-left
returns-then-len-out-clause-left g c =
    let gave = c.give-len.ensures in
    leaves g.S.Sources _ _ _ _ _ _
    (fills_part g.S.Sources _ _ _ _ _ _ (fills_full g.S.Sources _ _ _ _ _ (given_more g.S.Sources _ _ _ _ _ _ _ _ c.loop-len.invariant.0 gave.engine gave.len gave.out) c.if-len-out.true))

pub returns-then-len-out-clause-fills : goal.returns-then-len-out-clause-fills
returns-then-len-out-clause-fills g c =
    let gave = c.give-len.ensures in
    fills_part g.S.Sources _ _ _ _ _ _ (fills_full g.S.Sources _ _ _ _ _ (given_more g.S.Sources _ _ _ _ _ _ _ _ c.loop-len.invariant.0 gave.engine gave.len gave.out) c.if-len-out.true)

pub returns-in-Some-clause-fills : goal.returns-in-Some-clause-fills
returns-in-Some-clause-fills g c =
    let gave = c.give-len.ensures in
    fills_part g.S.Sources _ _ _ _ _ _ (fills_ended g.S.Sources _ _ _ _ _ _ c.in-Some.ending (given_more g.S.Sources _ _ _ _ _ _ _ _ c.loop-len.invariant.0 gave.engine gave.len gave.out)
    (rest_used g.S.Sources _ _ _ _ _ _ _ _ c.loop-len.invariant.0 gave.engine gave.len gave.out c.if-len-out.false)
    (turns_as g.S.Sources c.give-len.new.self.engine c.turn.new.self.engine c.turn.new.self.rest _ _ c.turn.ensures.turns c.in-Some.is))

pub returns-in-Some-clause-left : goal.returns-in-Some-clause-left
returns-in-Some-clause-left g c = leaves g.S.Sources _ _ _ _ _ _ (returns-in-Some-clause-fills g c)

pub loop-len-preserved : goal.loop-len-preserved
loop-len-preserved g c =
    let gave = c.give-len.ensures in (
      given_turned g.S.Sources _ _ _ _ _ _ (given_more g.S.Sources _ _ _ _ _ _ _ _ c.loop-len.invariant.0 gave.engine gave.len gave.out)
          (rest_used g.S.Sources _ _ _ _ _ _ _ _ c.loop-len.invariant.0 gave.engine gave.len gave.out c.if-len-out.false)
          (turns_as g.S.Sources c.give-len.new.self.engine c.turn.new.self.engine c.turn.new.self.rest _ _ c.turn.ensures.turns c.in_default.is),
      omega (arith, c.loop-len.invariant.1, c.turn.ensures.left),
    )

pub returns-then-rest_len-eq0-clause-fills : goal.returns-then-rest_len-eq0-clause-fills
returns-then-rest_len-eq0-clause-fills g c =
    let gave = c.give-len.ensures in
    fills_paused g.S.Sources _ _ _ _ _ _ (given_more g.S.Sources _ _ _ _ _ _ _ _ c.loop-len.invariant.0 gave.engine gave.len gave.out)
    (rest_used g.S.Sources _ _ _ _ _ _ _ _ c.loop-len.invariant.0 gave.engine gave.len gave.out c.if-len-out.false)
    (turns_as g.S.Sources c.give-len.new.self.engine c.turn.new.self.engine c.turn.new.self.rest _ _ c.turn.ensures.turns c.in_default.is)
    (sym c.rest_len.ensures ∙ c.if-rest_len-eq0.true)

pub returns-then-rest_len-eq0-clause-left : goal.returns-then-rest_len-eq0-clause-left
returns-then-rest_len-eq0-clause-left g c = leaves g.S.Sources _ _ _ _ _ _ (returns-then-rest_len-eq0-clause-fills g c)
