use Rattle.std.proofs.Common.{◌+◌, arith, length, subst, sym, take, true, ◌∙◌, length-take}
use Rattle.rdlpp_texts.specs.BoundCalls.{added, IsBound}
use Rattle.rdlpp_texts.specs.declared.bindings.Bound.{Bound}
use Rattle.rdlpp_texts.proofs.BoundParts.{IsOpenedAt, bound, bound_place, miscounted, missing, unclosed, within_wider}
use Rattle.rdlpp_texts.proofs.bindings.bind_call.Goals as goal

pub returns-in_default-clause-call : goal.returns-in_default-clause-call
returns-in_default-clause-call c = λ _.
    missing c.args.text.now c.args.at c.args.end c.args.formals (added c.args.bindings.now.items c.args.bindings.now.items)
    (sym c.call_start.ensures.value ∙ c.in_default.is)

pub overflow_add-result : goal.overflow_add-result
unfolding IsBound
overflow_add-result c =
    let text = c.args.text.now in
    let old = c.args.bindings.now.items in
    let new = c.bind.new.bindings.items in
    let o : IsOpenedAt text c.args.at c.args.end c.in-Some.len = record {
      low = c.requires.range.0;
      high = c.requires.range.1;
      opens = sym c.call_start.ensures.value ∙ c.in-Some.is;
      inside = c.in-Some.ensures.inside;
    } in
    let b = subst (λ (x : Bound). IsBound true (take c.args.end text) (c.args.at + c.in-Some.len) c.args.formals old new x) c.in-To.is c.bind.ensures.bound in
    let place = bound_place text c.args.at c.args.end c.args.formals c.in-Some.len c.in-To.to (added old new) o b in
    omega (arith, place.1, c.ranges.end)

pub returns-in-To-clause-place : goal.returns-in-To-clause-place
unfolding IsBound
returns-in-To-clause-place c =
    let text = c.args.text.now in
    let old = c.args.bindings.now.items in
    let new = c.bind.new.bindings.items in
    let o : IsOpenedAt text c.args.at c.args.end c.in-Some.len = record {
      low = c.requires.range.0;
      high = c.requires.range.1;
      opens = sym c.call_start.ensures.value ∙ c.in-Some.is;
      inside = c.in-Some.ensures.inside;
    } in
    let b = subst (λ (x : Bound). IsBound true (take c.args.end text) (c.args.at + c.in-Some.len) c.args.formals old new x) c.in-To.is c.bind.ensures.bound in
    bound_place text c.args.at c.args.end c.args.formals c.in-Some.len c.in-To.to (added old new) o b

pub returns-in-To-clause-call : goal.returns-in-To-clause-call
unfolding IsBound
returns-in-To-clause-call c = λ all.
    let text = c.args.text.now in
    let old = c.args.bindings.now.items in
    let new = c.bind.new.bindings.items in
    let o : IsOpenedAt text c.args.at c.args.end c.in-Some.len = record {
      low = c.requires.range.0;
      high = c.requires.range.1;
      opens = sym c.call_start.ensures.value ∙ c.in-Some.is;
      inside = c.in-Some.ensures.inside;
    } in
    let b = subst (λ (x : Bound). IsBound true (take c.args.end text) (c.args.at + c.in-Some.len) c.args.formals old new x) c.in-To.is c.bind.ensures.bound in
    bound text c.args.at c.args.end c.args.formals c.in-Some.len c.in-To.to (added old new) o b all

pub returns-in-Open-clause-call : goal.returns-in-Open-clause-call
unfolding IsBound
returns-in-Open-clause-call c = λ _.
    let text = c.args.text.now in
    let old = c.args.bindings.now.items in
    let new = c.bind.new.bindings.items in
    let o : IsOpenedAt text c.args.at c.args.end c.in-Some.len = record {
      low = c.requires.range.0;
      high = c.requires.range.1;
      opens = sym c.call_start.ensures.value ∙ c.in-Some.is;
      inside = c.in-Some.ensures.inside;
    } in
    let b = subst (λ (x : Bound). IsBound true (take c.args.end text) (c.args.at + c.in-Some.len) c.args.formals old new x) c.in-Open.is c.bind.ensures.bound in
    unclosed text c.args.at c.args.end c.args.formals c.in-Some.len old new (added old new) o b

pub returns-in-Open-clause-refused : goal.returns-in-Open-clause-refused
unfolding IsBound
returns-in-Open-clause-refused c =
    let text = c.args.text.now in
    let old = c.args.bindings.now.items in
    let new = c.bind.new.bindings.items in
    let b = subst (λ (x : Bound). IsBound true (take c.args.end text) (c.args.at + c.in-Some.len) c.args.formals old new x) c.in-Open.is c.bind.ensures.bound in
    b.same

pub returns-in-Miscounted-clause-call : goal.returns-in-Miscounted-clause-call
unfolding IsBound
returns-in-Miscounted-clause-call c = λ all.
    let text = c.args.text.now in
    let old = c.args.bindings.now.items in
    let new = c.bind.new.bindings.items in
    let o : IsOpenedAt text c.args.at c.args.end c.in-Some.len = record {
      low = c.requires.range.0;
      high = c.requires.range.1;
      opens = sym c.call_start.ensures.value ∙ c.in-Some.is;
      inside = c.in-Some.ensures.inside;
    } in
    let b = subst (λ (x : Bound). IsBound true (take c.args.end text) (c.args.at + c.in-Some.len) c.args.formals old new x) c.in-Miscounted.is c.bind.ensures.bound in
    miscounted text c.args.at c.args.end c.args.formals c.in-Some.len old new (added old new) o b all

pub returns-in-Miscounted-clause-refused : goal.returns-in-Miscounted-clause-refused
unfolding IsBound
returns-in-Miscounted-clause-refused c =
    let text = c.args.text.now in
    let old = c.args.bindings.now.items in
    let new = c.bind.new.bindings.items in
    let b = subst (λ (x : Bound). IsBound true (take c.args.end text) (c.args.at + c.in-Some.len) c.args.formals old new x) c.in-Miscounted.is c.bind.ensures.bound in
    b.same

pub returns-in-To-clause-binds : goal.returns-in-To-clause-binds
returns-in-To-clause-binds c =
    let n = length-take c.args.end c.args.text.now in
    let b = c.bind.ensures.binds in
    record {
      whole = b.whole;
      within = within_wider (c.args.at + c.in-Some.len) (length (take c.args.end c.args.text.now)) c.args.at c.args.end (added c.args.bindings.now.items c.bind.new.bindings.items) (omega arith) (omega (arith, n)) b.within;
      len = b.len;
      capacity = b.capacity;
    }

pub returns-in-Open-clause-binds : goal.returns-in-Open-clause-binds
returns-in-Open-clause-binds c =
    let n = length-take c.args.end c.args.text.now in
    let b = c.bind.ensures.binds in
    record {
      whole = b.whole;
      within = within_wider (c.args.at + c.in-Some.len) (length (take c.args.end c.args.text.now)) c.args.at c.args.end (added c.args.bindings.now.items c.bind.new.bindings.items) (omega arith) (omega (arith, n)) b.within;
      len = b.len;
      capacity = b.capacity;
    }

pub returns-in-Miscounted-clause-binds : goal.returns-in-Miscounted-clause-binds
returns-in-Miscounted-clause-binds c =
    let n = length-take c.args.end c.args.text.now in
    let b = c.bind.ensures.binds in
    record {
      whole = b.whole;
      within = within_wider (c.args.at + c.in-Some.len) (length (take c.args.end c.args.text.now)) c.args.at c.args.end (added c.args.bindings.now.items c.bind.new.bindings.items) (omega arith) (omega (arith, n)) b.within;
      len = b.len;
      capacity = b.capacity;
    }
