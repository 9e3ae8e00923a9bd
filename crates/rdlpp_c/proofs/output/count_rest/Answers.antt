use Rattle.std.proofs.Common.{arith, refl, ◌∙◌}
use Rattle.rdlpp_c.proofs.Outputs.{counted_end, fills_as, leaves_as, left_falls, passed_more, passed_none}
use Rattle.rdlpp_c.proofs.output.count_rest.Goals as goal

pub loop-ending-init : goal.loop-ending-init
loop-ending-init c = record { room = refl; passed = passed_none c.args.reading.now c.args.before (let fits = c.ranges.before.fits in omega (arith, fits)) }

pub returns-in-Some : goal.returns-in-Some
returns-in-Some c =
    counted_end c.args.reading.now c.loop-ending.reading c.fill-part.new.self c.args.before c.loop-ending.count _ c.loop-ending.counted c.fill-part.new.out c.fill-part.result.len
    c.in-Some.ending c.loop-ending.invariant.passed
    (fills_as _ _ _ _ _ _ _ c.fill-part.ensures.fills c.in-Some.is)
    (leaves_as _ _ _ _ _ (c.fill-part.ensures.left tt) c.in-Some.is)
    c.saturating_add-count.ensures

pub loop-ending-smaller : goal.loop-ending-smaller
loop-ending-smaller c =
    left_falls c.loop-ending.reading c.fill-part.new.self c.loop-ending.counted c.fill-part.new.out c.fill-part.result.len
    (fills_as _ _ _ _ _ _ _ c.fill-part.ensures.fills c.in_default.is)
    (leaves_as _ _ _ _ _ (c.fill-part.ensures.left tt) c.in_default.is)
    (let room = c.loop-ending.invariant.room in omega (arith, room))

pub loop-ending-preserved : goal.loop-ending-preserved
loop-ending-preserved c = record {
  room = c.fill-part.ensures.fills.size ∙ c.loop-ending.invariant.room;
  passed = passed_more c.args.reading.now c.loop-ending.reading c.fill-part.new.self c.args.before c.loop-ending.count _ c.loop-ending.counted c.fill-part.new.out c.fill-part.result.len
      c.loop-ending.invariant.passed
      (fills_as _ _ _ _ _ _ _ c.fill-part.ensures.fills c.in_default.is)
      (leaves_as _ _ _ _ _ (c.fill-part.ensures.left tt) c.in_default.is)
      c.saturating_add-count.ensures;
}
