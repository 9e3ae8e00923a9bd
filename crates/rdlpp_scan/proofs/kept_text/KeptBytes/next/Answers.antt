use Rattle.std.proofs.Common.{◌∙◌, sym, ap, arith}
use Rattle.rdlpp_scan.specs.KeptText.{IsNext}
use Rattle.rdlpp_scan.specs.KeptBytes.{left, IsAdvanced}
use Rattle.rdlpp_scan.proofs.Measures.{kept_next, kept_none, more, last, last_left, last_after, stop_next}
use Rattle.rdlpp_scan.proofs.kept_text.KeptBytes.next.Goals as goal

pub returns-in-Some-clause-next : goal.returns-in-Some-clause-next
unfolding IsNext
returns-in-Some-clause-next c = sym c.loop-b.invariant.same ∙ kept_next _ _ _ _ c.in-Some.ensures.0

pub loop-b-smaller : goal.loop-b-smaller
loop-b-smaller c = (more _ _ _ c.in-Ok-true.ensures.next c.in-Ok-true.field-0-test).less

pub loop-b-preserved : goal.loop-b-preserved
loop-b-preserved c = record {
  same = (more _ _ _ c.in-Ok-true.ensures.next c.in-Ok-true.field-0-test).same ∙ (sym (kept_none _ _ c.in_default.ensures) ∙ c.loop-b.invariant.same);
  shorter = omega (arith, c.in-Ok-true.ensures.inside, c.loop-b.invariant.shorter);
  logical = c.in-Ok-true.ensures.same ∙ c.loop-b.invariant.logical;
  fits = c.in-Ok-true.ensures.fits;
}

pub returns-in-Ok-false-clause-next : goal.returns-in-Ok-false-clause-next
returns-in-Ok-false-clause-next c =
    let end = last _ _ _ c.in-Ok-false.ensures.next c.in-Ok-false.field-0-test in
    stop_next _ _ _ (ap left end.same ∙ c.loop-b.invariant.same) (last_left _ _ end c.in_default.ensures)

pub returns-in-Ok-false-clause-end : goal.returns-in-Ok-false-clause-end
returns-in-Ok-false-clause-end c = last_after _ _ (last _ _ _ c.in-Ok-false.ensures.next c.in-Ok-false.field-0-test) c.in_default.ensures

pub returns-in-Err-clause-next : goal.returns-in-Err-clause-next
unfolding IsNext IsAdvanced
returns-in-Err-clause-next c = sym c.loop-b.invariant.same ∙ (kept_none _ _ c.in_default.ensures ∙ c.in-Err.ensures.next)
