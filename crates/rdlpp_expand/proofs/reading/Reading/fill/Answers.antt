use Rattle.rdlpp_expand.proofs.Readings.{fills_ended, fills_full, fills_part, given_more, given_none, given_turned, leaves, rest_used, turns_as}
use Rattle.rdlpp_expand.proofs.reading.Reading.fill.Goals as goal

pub loop-given-init : goal.loop-given-init
loop-given-init g c = given_none g.S.Sources c.args.self.now c.args.out.now

pub returns-then-given-out-clause-left : goal.returns-then-given-out-clause-left
returns-then-given-out-clause-left g c =
    let gave = c.give-given.ensures in
    leaves g.S.Sources _ _ _ _ _ _
    (fills_part g.S.Sources _ _ _ _ _ _ (fills_full g.S.Sources _ _ _ _ _ (given_more g.S.Sources _ _ _ _ _ _ _ _ c.loop-given.invariant gave.engine gave.len gave.out) c.if-given-out.true))

pub returns-in-Some-clause-fills : goal.returns-in-Some-clause-fills
returns-in-Some-clause-fills g c =
    let gave = c.give-given.ensures in
    fills_ended g.S.Sources _ _ _ _ _ _ c.in-Some.ending (given_more g.S.Sources _ _ _ _ _ _ _ _ c.loop-given.invariant gave.engine gave.len gave.out)
    (rest_used g.S.Sources _ _ _ _ _ _ _ _ c.loop-given.invariant gave.engine gave.len gave.out c.if-given-out.false)
    (turns_as g.S.Sources c.give-given.new.self.engine c.turn.new.self.engine c.turn.new.self.rest _ _ c.turn.ensures.turns c.in-Some.is)

pub returns-in-Some-clause-left : goal.returns-in-Some-clause-left
returns-in-Some-clause-left g c = leaves g.S.Sources _ _ _ _ _ _ (fills_part g.S.Sources _ _ _ _ _ _ (returns-in-Some-clause-fills g c))

pub loop-given-preserved : goal.loop-given-preserved
loop-given-preserved g c =
    let gave = c.give-given.ensures in
    given_turned g.S.Sources _ _ _ _ _ _ (given_more g.S.Sources _ _ _ _ _ _ _ _ c.loop-given.invariant gave.engine gave.len gave.out)
    (rest_used g.S.Sources _ _ _ _ _ _ _ _ c.loop-given.invariant gave.engine gave.len gave.out c.if-given-out.false)
    (turns_as g.S.Sources c.give-given.new.self.engine c.turn.new.self.engine c.turn.new.self.rest _ _ c.turn.ensures.turns c.in_default.is)
