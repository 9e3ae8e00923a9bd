use Rattle.std.proofs.Common.{◌∙◌, refl, sym, ap, arith, true, false}
use Rattle.rdlpp_scan.specs.KeptText.{begun, text_after, trims}
use Rattle.rdlpp_scan.proofs.Measures.{none_len, fault_len, start_len, step_len, last_len, broken_len, found_next, none_next, same_next, fault_next, blank_found, shorter_found, after_onto, after_begun, after_none, after_the_first, same_joined}
use Rattle.rdlpp_scan.proofs.kept_text.kept_len.Goals as goal

pub returns-in-Ok-None-clause-len : goal.returns-in-Ok-None-clause-len
returns-in-Ok-None-clause-len c = sym (none_len (trims c.args.is_default) _ _ (sym (ap (begun (trims c.args.is_default)) c.new-bytes.ensures.left) ∙ none_next _ _ _ c.in-Ok-None.ensures.next c.in-Ok-None.field-0-is))

pub returns-in-Ok-None-clause-following : goal.returns-in-Ok-None-clause-following
returns-in-Ok-None-clause-following c =
    after_the_first (trims c.args.is_default) _ _ _ c.new-bytes.ensures.left (same_next _ _ _ c.in-Ok-None.ensures.next c.in-Ok-None.field-0-is)
    ∙ (after_none _ _ _ c.in-Ok-None.ensures.end c.in-Ok-None.field-0-is
    ∙ same_joined _ _ _ _ (c.in-Ok-None.ensures.same ∙ c.new-bytes.ensures.is_logical) refl)

pub returns-in-Err-clause-len : goal.returns-in-Err-clause-len
returns-in-Err-clause-len c = sym (fault_len (trims c.args.is_default) _ _ (sym (ap (begun (trims c.args.is_default)) c.new-bytes.ensures.left) ∙ fault_next _ _ _ c.in-Err.ensures.next))

pub loop-b-init : goal.loop-b-init
loop-b-init c =
    let found = found_next _ _ _ _ c.in-Ok-Some.ensures.next c.in-Ok-Some.field-0-is in
    record {
      same = start_len (trims c.args.is_default) _ _ _ (sym (ap (begun (trims c.args.is_default)) c.new-bytes.ensures.left) ∙ found) (blank_found (trims c.args.is_default) _ _ c.in-Ok-Some.ensures.some c.in-Ok-Some.field-0-is);
      following = sym (ap text_after (sym c.new-bytes.ensures.left) ∙ (sym (after_begun (trims c.args.is_default) _) ∙ after_onto _ _ _ found));
      logical = c.in-Ok-Some.ensures.same ∙ c.new-bytes.ensures.is_logical;
      shorter = omega (arith, shorter_found _ _ _ _ c.in-Ok-Some.ensures.less c.in-Ok-Some.field-0-is, c.new-bytes.ensures.unread);
      ends = omega arith;
      fits = c.in-Ok-Some.ensures.fits;
    }

pub loop-b-preserved-then-not-trims : goal.loop-b-preserved-then-not-trims
loop-b-preserved-then-not-trims c =
    let found = found_next _ _ _ _ c.in-Ok-Some-next.ensures.next c.in-Ok-Some-next.field-0-is in
    record {
      same = step_len (trims c.args.is_default) c.loop-b.count c.loop-b.end _ _ _ false found (sym c.trims.ensures ∙ c.if-not-trims.true) ∙ c.loop-b.invariant.same;
      following = sym (after_onto _ _ _ found) ∙ c.loop-b.invariant.following;
      logical = c.in-Ok-Some-next.ensures.same ∙ c.loop-b.invariant.logical;
      shorter = omega (arith, c.loop-b.invariant.shorter, shorter_found _ _ _ _ c.in-Ok-Some-next.ensures.less c.in-Ok-Some-next.field-0-is);
      ends = omega arith;
      fits = c.in-Ok-Some-next.ensures.fits;
    }

pub loop-b-preserved : goal.loop-b-preserved
loop-b-preserved c =
    let found = found_next _ _ _ _ c.in-Ok-Some-next.ensures.next c.in-Ok-Some-next.field-0-is in
    record {
      same = step_len (trims c.args.is_default) c.loop-b.count c.loop-b.end _ _ _ true found (sym c.trims.ensures ∙ c.if-not-trims.false) ∙ c.loop-b.invariant.same;
      following = sym (after_onto _ _ _ found) ∙ c.loop-b.invariant.following;
      logical = c.in-Ok-Some-next.ensures.same ∙ c.loop-b.invariant.logical;
      shorter = omega (arith, c.loop-b.invariant.shorter, shorter_found _ _ _ _ c.in-Ok-Some-next.ensures.less c.in-Ok-Some-next.field-0-is);
      ends = omega (arith, c.loop-b.invariant.ends);
      fits = c.in-Ok-Some-next.ensures.fits;
    }

pub returns-in-Ok-None-next-clause-len : goal.returns-in-Ok-None-next-clause-len
returns-in-Ok-None-next-clause-len c =
    sym (last_len (trims c.args.is_default) c.loop-b.count c.loop-b.end _ _ (none_next _ _ _ c.in-Ok-None-next.ensures.next c.in-Ok-None-next.field-0-is) ∙ c.loop-b.invariant.same)

pub returns-in-Ok-None-next-clause-following : goal.returns-in-Ok-None-next-clause-following
returns-in-Ok-None-next-clause-following c =
    sym c.loop-b.invariant.following
    ∙ (sym (ap text_after (same_next _ _ _ c.in-Ok-None-next.ensures.next c.in-Ok-None-next.field-0-is))
    ∙ (after_none _ _ _ c.in-Ok-None-next.ensures.end c.in-Ok-None-next.field-0-is
    ∙ same_joined _ _ _ _ (c.in-Ok-None-next.ensures.same ∙ c.loop-b.invariant.logical) refl))

pub returns-in-Err-next-clause-len : goal.returns-in-Err-next-clause-len
returns-in-Err-next-clause-len c = sym (broken_len (trims c.args.is_default) c.loop-b.count c.loop-b.end _ _ (fault_next _ _ _ c.in-Err-next.ensures.next) ∙ c.loop-b.invariant.same)
