use Rattle.std.proofs.Common.{◌≤◌, arith, sym, ◌∙◌, []}
use Rattle.rdlpp_texts.proofs.Stacking.{bounded-excluded}
use Rattle.rdlpp_texts.proofs.Scoping.{written-found, written-further, written-source, written-step}
use Rattle.rdlpp_texts.proofs.scopes.is_hidden.Goals as goal

pub returns-then-is_body_of : goal.returns-then-is_body_of
returns-then-is_body_of c bindings =
    written-found c.args.frames.now bindings c.loop-at.at c.args.scope _ _ c.requires.parented c.loop-at-test.true c.loop-at.invariant.0 c.index-frames-frames.is
    (sym c.is_body_of.ensures ∙ c.if-is_body_of.true) (c.loop-at.invariant.1 bindings)

pub loop-at-smaller : goal.loop-at-smaller
loop-at-smaller c =
    let further = (written-step c.args.frames.now [] c.loop-at.at 0 c.index-frames-frames.result c.requires.parented c.loop-at-test.true c.loop-at.invariant.0 c.index-frames-frames.is).further in
    omega (arith, further, c.outer_of-at.ensures)

pub loop-at-preserved : goal.loop-at-preserved
loop-at-preserved c =
    let further = (written-step c.args.frames.now [] c.loop-at.at 0 c.index-frames-frames.result c.requires.parented c.loop-at-test.true c.loop-at.invariant.0 c.index-frames-frames.is).further in
    let inside : c.loop-at.at ≤ _ = c.loop-at.invariant.0 in (
      omega (arith, further, c.outer_of-at.ensures, inside),
      λ bindings. rw c.outer_of-at.ensures
          (written-further c.args.frames.now bindings c.loop-at.at c.args.scope _ _ c.requires.parented c.loop-at-test.true c.loop-at.invariant.0 c.index-frames-frames.is
          (sym c.is_body_of.ensures ∙ c.if-is_body_of.false) (c.loop-at.invariant.1 bindings)),
    )

pub returns : goal.returns
returns c bindings = written-source c.args.frames.now bindings c.loop-at.at c.args.scope _ (omega (arith, c.loop-at-test.false)) (c.loop-at.invariant.1 bindings)

pub returns-then-is_excluded : goal.returns-then-is_excluded
returns-then-is_excluded c bindings =
    bounded-excluded c.args.frames.now bindings c.loop-at.at c.args.scope _ _ c.requires.bounded c.loop-at-test.true c.loop-at.invariant.0 c.index-frames-frames.is
    (sym c.is_excluded.ensures ∙ c.if-is_excluded.true) (c.loop-at.invariant.1 bindings)
