use Rattle.std.proofs.Common.{◌∙◌, sym, ap, arith, refl, length}
use Rattle.rdlpp_scan.specs.KeptText.{start_level, text_after}
use Rattle.rdlpp_scan.specs.KeptBytes.{IsAdvanced}
use Rattle.rdlpp_scan.specs.Continuations.{as_read}
use Rattle.rdlpp_scan.proofs.Measures.{more, last, passed_after, ended_after, after_onto, after_fault}
use Rattle.rdlpp_scan.proofs.kept_text.after_by_tokens.Goals as goal

pub loop-init : goal.loop-init
unfolding as_read start_level
loop-init c = record {
  following = sym (after_onto _ _ _ refl) ∙ ap text_after c.new-reader.ensures.left;
  logical = c.new-reader.ensures.is_logical;
  shorter = omega (arith, c.new-reader.ensures.unread);
  fits = c.new-reader.ensures.fits;
}

pub loop-smaller : goal.loop-smaller
loop-smaller c = (more _ _ _ c.in-Ok-true.ensures.next c.in-Ok-true.field-0-test).less

pub loop-preserved : goal.loop-preserved
loop-preserved c = record {
  following = passed_after _ _ (more _ _ _ c.in-Ok-true.ensures.next c.in-Ok-true.field-0-test) ∙ c.loop.invariant.following;
  logical = c.in-Ok-true.ensures.same ∙ c.loop.invariant.logical;
  shorter = omega (arith, (more _ _ _ c.in-Ok-true.ensures.next c.in-Ok-true.field-0-test).less, c.loop.invariant.shorter);
  fits = c.in-Ok-true.ensures.fits;
}

pub returns-in-Ok-false-clause-value : goal.returns-in-Ok-false-clause-value
returns-in-Ok-false-clause-value c =
    ended_after _ _ (last _ _ _ c.in-Ok-false.ensures.next c.in-Ok-false.field-0-test) c.loop.invariant.logical ∙ c.loop.invariant.following

pub returns-in-Ok-false-clause-inside : goal.returns-in-Ok-false-clause-inside
returns-in-Ok-false-clause-inside c = omega (arith, ap (λ b. length b.rest.now) (last _ _ _ c.in-Ok-false.ensures.next c.in-Ok-false.field-0-test).same, c.loop.invariant.shorter)

pub returns-in-Err-clause-value : goal.returns-in-Err-clause-value
unfolding IsAdvanced
returns-in-Err-clause-value c = sym (after_fault _ _ c.in-Err.ensures.next) ∙ c.loop.invariant.following
