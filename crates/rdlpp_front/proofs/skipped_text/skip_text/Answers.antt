use Rattle.std.proofs.Common.{◌-◌, arith, drop, length, take, refl, length-drop, length-take}
use Rattle.rdlpp_scan.specs.SourceTokens.{line_ends}
use Rattle.rdlpp_scan.proofs.SourceLaws.{line_ends-most}
use Rattle.rdlpp_front.specs.SkippedText.{Begins}
use Rattle.rdlpp_front.proofs.Stretches.{lines_onward, passes_onward}
use Rattle.rdlpp_front.proofs.skipped_text.skip_text.Goals as goal

pub loop-stretch-init : goal.loop-stretch-init
unfolding line_ends
loop-stretch-init c = (Begins, (omega arith, refl))

pub overflow_add-stretch-in-loop-stretch : goal.overflow_add-stretch-in-loop-stretch
overflow_add-stretch-in-loop-stretch c =
    let held = c.args.held.now in
    let len = c.loop-stretch.stretch.len in
    let step = c.in-Some.step.len in
    omega (arith, c.loop-stretch.invariant.1.1, line_ends-most held len, c.in-Some.ensures.line_ends, line_ends-most (take (length held - len) (drop len held)) step, c.in-Some.ensures.inside.1, length-take (length held - len) (drop len held), length-drop len held)

pub loop-stretch-preserved : goal.loop-stretch-preserved
loop-stretch-preserved c =
    let held = c.args.held.now in
    let inside = c.in-Some.ensures.inside in (
      passes_onward c.args.mode c.loop-stretch.stretch.mode c.in-Some.step.mode held c.loop-stretch.stretch.len c.in-Some.step.len c.loop-stretch.invariant.0 c.loop-stretch-test.true c.in-Some.ensures.some,
      (
        omega (arith, length-drop c.loop-stretch.stretch.len held, length-take (length held - c.loop-stretch.stretch.len) (drop c.loop-stretch.stretch.len held)),
        lines_onward held c.loop-stretch.stretch.len c.in-Some.step.len _ _ c.loop-stretch.invariant.1.1 c.in-Some.ensures.line_ends,
      ),
    )
