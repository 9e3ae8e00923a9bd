use Rattle.std.proofs.Common.{◌∙◌, sym, arith}
use Rattle.rdlpp_texts.proofs.PlainRuns.{plain_argument_passed, end_dark, mark_dark, white_passed}
use Rattle.rdlpp_texts.proofs.plain_argument.pass_plain.Goals as goal

pub loop-at-preserved-in-White : goal.loop-at-preserved-in-White
loop-at-preserved-in-White c = record {
  order = omega (arith, c.loop-at.invariant.order);
  inside = omega (arith, c.loop-at-test.true);
  same = λ closes start.
      white_passed closes c.args.text.now start c.loop-at.at c.args.level c.loop-at.to c.loop-at-test.true (sym c.in-White.is ∙ c.byte_class.ensures)
      ∙ c.loop-at.invariant.same closes start;
}

pub loop-at-preserved : goal.loop-at-preserved
loop-at-preserved c = record {
  order = omega (arith, c.loop-at.invariant.order);
  inside = omega (arith, c.loop-at-test.true);
  same = λ closes start.
      plain_argument_passed closes c.args.text.now start c.loop-at.at c.args.level c.loop-at.to c.loop-at-test.true (sym c.in-PlainArgument.is ∙ c.byte_class.ensures)
      ∙ c.loop-at.invariant.same closes start;
}

pub returns-after-loop-at-clause-dark : goal.returns-after-loop-at-clause-dark
returns-after-loop-at-clause-dark c = end_dark c.args.text.now c.loop-at.at (omega (arith, c.loop-at-test.false))

pub returns-in-Mark-clause-dark : goal.returns-in-Mark-clause-dark
returns-in-Mark-clause-dark c = mark_dark c.args.level c.args.text.now c.loop-at.at c.loop-at-test.true (sym c.in-Mark.is ∙ c.byte_class.ensures)
