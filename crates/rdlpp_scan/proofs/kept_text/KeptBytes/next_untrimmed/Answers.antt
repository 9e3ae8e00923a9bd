use Rattle.std.proofs.Common.{◌∙◌, sym, arith}
use Rattle.rdlpp_scan.proofs.Measures.{skip_blank, stop_blank, none_blank, fault_blank, found_next, none_next, same_next, fault_next, next_found, next_none, next_fault, shorter_found}
use Rattle.rdlpp_scan.specs.KeptText.{trims}
use Rattle.rdlpp_scan.proofs.kept_text.KeptBytes.next_untrimmed.Goals as goal

pub returns-then-not-trims-clause-next : goal.returns-then-not-trims-clause-next
returns-then-not-trims-clause-next c =
    next_found _ _ _ (sym c.loop-b.invariant.same ∙ stop_blank (trims c.args.is_default) _ _ _ (found_next _ _ _ _ c.in-Ok-Some.ensures.next c.in-Ok-Some.field-0-is) (sym c.trims.ensures ∙ c.if-not-trims.true))

pub loop-b-preserved : goal.loop-b-preserved
loop-b-preserved c = record {
  same = sym (skip_blank (trims c.args.is_default) _ _ _ (found_next _ _ _ _ c.in-Ok-Some.ensures.next c.in-Ok-Some.field-0-is) (sym c.trims.ensures ∙ c.if-not-trims.false)) ∙ c.loop-b.invariant.same;
  shorter = omega (arith, shorter_found _ _ _ _ c.in-Ok-Some.ensures.less c.in-Ok-Some.field-0-is, c.loop-b.invariant.shorter);
  logical = c.in-Ok-Some.ensures.same ∙ c.loop-b.invariant.logical;
  fits = c.in-Ok-Some.ensures.fits;
}

pub returns-in-Ok-None-clause-next : goal.returns-in-Ok-None-clause-next
returns-in-Ok-None-clause-next c =
    let none = none_next _ _ _ c.in-Ok-None.ensures.next c.in-Ok-None.field-0-is in
    let same = same_next _ _ _ c.in-Ok-None.ensures.next c.in-Ok-None.field-0-is in
    let begins = none_blank (trims c.args.is_default) _ _ none in
    next_none _ _ (sym c.loop-b.invariant.same ∙ begins) (same ∙ (none ∙ (sym begins ∙ c.loop-b.invariant.same)))

pub returns-in-Err-clause-next : goal.returns-in-Err-clause-next
returns-in-Err-clause-next c = next_fault _ _ _ (sym c.loop-b.invariant.same ∙ fault_blank (trims c.args.is_default) _ _ (fault_next _ _ _ c.in-Err.ensures.next))
