use Rattle.std.proofs.Common.{◌≡◌, ◌<◌, ◌∙◌, sym, arith, length, true, true≢false}
use Rattle.rdlpp_define.proofs.Sizes.{count_items}
use Rattle.rdlpp_texts.specs.BoundCalls.{IsBound, added}
use Rattle.rdlpp_texts.proofs.Stacking.{taken-back}
use Rattle.rdlpp_texts.proofs.BoundParts.{bound_to, within_wider}
use Rattle.rdlpp_texts.proofs.bindings.bind.Goals as goal
use Rattle.rdlpp_texts.proofs.bindings.bind.Goals.{else-closes-via-then-closes+else-pushed-text, else-closes-via-else-closes}

pub returns-then-pushed-text-clause-bound : goal.returns-then-pushed-text-clause-bound
unfolding IsBound
returns-then-pushed-text-clause-bound c = record {
  same = c.truncate.ensures.items ∙ taken-back c.args.bindings.now.items _ _ _ c.push_parts-pushed.ensures.binds.whole (c.len-kept.ensures ∙ count_items c.args.bindings.now);
  closes_is = c.if-closes.true;
  end = sym c.push_parts-pushed.ensures.end ∙ c.if-pushed-text.true;
}

pub returns-then-not-admits-clause-bound : goal.returns-then-not-admits-clause-bound
unfolding IsBound
returns-then-not-admits-clause-bound c =
    let p = c.push_parts-pushed.ensures in
    let end = p.end in
    let inside = p.inside in
    let closed : c.args.closes ≡ true → c.push_parts-pushed.result.to < length c.args.text.now = λ h. elim c.else-closes.branch [
      | else-closes-via-then-closes+else-pushed-text w ↦ let apart = w.if-pushed-text.false in omega (arith, apart, inside)
      | else-closes-via-else-closes w ↦ absurd (true≢false (sym h ∙ w.if-closes.false))
    ] in
    record {
      same = c.truncate-then-not-admits.ensures.items ∙ taken-back c.args.bindings.now.items _ _ _ p.binds.whole (c.len-kept.ensures ∙ count_items c.args.bindings.now);
      closed = λ h. let less = closed h in omega (arith, less, end);
      count = λ fs is. sym c.if-not-admits.true ∙ c.admits.ensures fs is;
    }

pub returns-clause-bound : goal.returns-clause-bound
unfolding IsBound
returns-clause-bound c =
    let p = c.push_parts-pushed.ensures in
    let inside = p.inside in
    let closed : c.args.closes ≡ true → c.push_parts-pushed.result.to < length c.args.text.now = λ h. elim c.else-closes.branch [
      | else-closes-via-then-closes+else-pushed-text w ↦ let apart = w.if-pushed-text.false in omega (arith, apart, inside)
      | else-closes-via-else-closes w ↦ absurd (true≢false (sym h ∙ w.if-closes.false))
    ] in
    bound_to c.args.closes c.args.text.now c.args.from c.args.formals c.push_parts-pushed.result.further c.push_parts-pushed.result.to c.args.bindings.now.items c.push_parts-pushed.new.bindings.items
    p.end closed p.binds.within p.count p.actuals p.none (λ fs is. sym c.if-not-admits.false ∙ c.admits.ensures fs is)

pub returns-clause-binds : goal.returns-clause-binds
returns-clause-binds c =
    let p = c.push_parts-pushed.ensures in
    let b = p.binds in
    record {
      whole = b.whole;
      within = within_wider c.args.from c.push_parts-pushed.result.to c.args.from (length c.args.text.now) (added c.args.bindings.now.items c.push_parts-pushed.new.bindings.items) (omega arith) p.inside b.within;
      len = b.len;
      capacity = b.capacity;
    }
