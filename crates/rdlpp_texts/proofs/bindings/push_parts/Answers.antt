use Rattle.std.proofs.Common.{◌+◌, ◌∙◌, sym, arith, refl}
use Rattle.rdlpp_texts.proofs.BoundParts.{bound_all, bound_first, many-more, read_comma, read_last}
use Rattle.rdlpp_texts.proofs.bindings.push_parts.Goals as goal

pub parts-init : goal.parts-init
parts-init c = record {
  low = omega arith;
  inside = c.requires.range;
  few = omega arith;
  size = refl;
  bound = bound_first c.args.closes c.args.text.now c.args.from c.args.most c.args.bindings.now.items;
  many = omega arith;
  capacity = refl;
}

pub overflow_add-at : goal.overflow_add-at
overflow_add-at c =
    let i = c.parts.invariant in
    let g = read_comma c.args.closes c.args.text.now c.args.from c.parts.at c.in-Comma.next c.parts.further c.args.most c.args.bindings.now.items c.parts.bindings.items c.put.new.bindings.items
    c.next_part-part.result i.low i.inside i.bound c.next_part-part.ensures.part c.put.ensures.puts c.put.ensures.stays c.in-Comma.is in
    let inside = g.inside in
    omega (arith, inside)

pub parts-smaller : goal.parts-smaller
parts-smaller c =
    let i = c.parts.invariant in
    let g = read_comma c.args.closes c.args.text.now c.args.from c.parts.at c.in-Comma.next c.parts.further c.args.most c.args.bindings.now.items c.parts.bindings.items c.put.new.bindings.items
    c.next_part-part.result i.low i.inside i.bound c.next_part-part.ensures.part c.put.ensures.puts c.put.ensures.stays c.in-Comma.is in
    let inside = g.inside in
    let some = g.some in
    omega (arith, inside, some)

pub parts-preserved : goal.parts-preserved
parts-preserved c =
    let i = c.parts.invariant in
    let g = read_comma c.args.closes c.args.text.now c.args.from c.parts.at c.in-Comma.next c.parts.further c.args.most c.args.bindings.now.items c.parts.bindings.items c.put.new.bindings.items
    c.next_part-part.result i.low i.inside i.bound c.next_part-part.ensures.part c.put.ensures.puts c.put.ensures.stays c.in-Comma.is in
    let some = g.some in
    let low = i.low in
    let few = i.few in
    record {
      low = omega (arith, low);
      inside = g.inside;
      few = omega (arith, few, some);
      size = i.size ∙ g.size;
      bound = g.bound;
      many = many-more _ _ c.parts.further c.args.most _ i.many c.put.ensures.longer c.put.ensures.len;
      capacity = c.put.ensures.capacity ∙ i.capacity;
    }

pub overflow_add-to : goal.overflow_add-to
overflow_add-to c =
    let i = c.parts.invariant in
    let e = read_last c.args.closes c.args.text.now c.args.from c.parts.at c.in-Last.end c.parts.further c.args.most c.args.bindings.now.items c.parts.bindings.items c.put.new.bindings.items
    c.next_part-part.result i.low i.inside i.bound c.next_part-part.ensures.part c.put.ensures.puts c.put.ensures.stays c.in-Last.is in
    let inside = e.inside in
    omega (arith, inside)

pub returns-in-Last-clause-binds : goal.returns-in-Last-clause-binds
returns-in-Last-clause-binds c =
    let i = c.parts.invariant in
    let e = read_last c.args.closes c.args.text.now c.args.from c.parts.at c.in-Last.end c.parts.further c.args.most c.args.bindings.now.items c.parts.bindings.items c.put.new.bindings.items
    c.next_part-part.result i.low i.inside i.bound c.next_part-part.ensures.part c.put.ensures.puts c.put.ensures.stays c.in-Last.is in
    let more = many-more _ _ c.parts.further c.args.most _ i.many c.put.ensures.longer c.put.ensures.len in
    record {
      whole = e.bound.whole;
      within = e.bound.within;
      len = omega (arith, more);
      capacity = c.put.ensures.capacity ∙ i.capacity;
    }

pub returns-in-Last-clause-end : goal.returns-in-Last-clause-end
returns-in-Last-clause-end c =
    let i = c.parts.invariant in
    let e = read_last c.args.closes c.args.text.now c.args.from c.parts.at c.in-Last.end c.parts.further c.args.most c.args.bindings.now.items c.parts.bindings.items c.put.new.bindings.items
    c.next_part-part.result i.low i.inside i.bound c.next_part-part.ensures.part c.put.ensures.puts c.put.ensures.stays c.in-Last.is in
    sym (i.size ∙ e.size)

pub returns-in-Last-clause-inside : goal.returns-in-Last-clause-inside
returns-in-Last-clause-inside c =
    let i = c.parts.invariant in
    let e = read_last c.args.closes c.args.text.now c.args.from c.parts.at c.in-Last.end c.parts.further c.args.most c.args.bindings.now.items c.parts.bindings.items c.put.new.bindings.items
    c.next_part-part.result i.low i.inside i.bound c.next_part-part.ensures.part c.put.ensures.puts c.put.ensures.stays c.in-Last.is in
    e.inside

pub returns-in-Last-clause-none : goal.returns-in-Last-clause-none
returns-in-Last-clause-none c =
    let i = c.parts.invariant in
    let e = read_last c.args.closes c.args.text.now c.args.from c.parts.at c.in-Last.end c.parts.further c.args.most c.args.bindings.now.items c.parts.bindings.items c.put.new.bindings.items
    c.next_part-part.result i.low i.inside i.bound c.next_part-part.ensures.part c.put.ensures.puts c.put.ensures.stays c.in-Last.is in
    e.bound.none

pub returns-in-Last-clause-count : goal.returns-in-Last-clause-count
returns-in-Last-clause-count c =
    let i = c.parts.invariant in
    let e = read_last c.args.closes c.args.text.now c.args.from c.parts.at c.in-Last.end c.parts.further c.args.most c.args.bindings.now.items c.parts.bindings.items c.put.new.bindings.items
    c.next_part-part.result i.low i.inside i.bound c.next_part-part.ensures.part c.put.ensures.puts c.put.ensures.stays c.in-Last.is in
    let many = e.bound.many in
    omega (arith, many)

pub returns-in-Last-clause-actuals : goal.returns-in-Last-clause-actuals
returns-in-Last-clause-actuals c =
    let i = c.parts.invariant in
    let e = read_last c.args.closes c.args.text.now c.args.from c.parts.at c.in-Last.end c.parts.further c.args.most c.args.bindings.now.items c.parts.bindings.items c.put.new.bindings.items
    c.next_part-part.result i.low i.inside i.bound c.next_part-part.ensures.part c.put.ensures.puts c.put.ensures.stays c.in-Last.is in
    λ less. bound_all c.args.closes c.args.text.now c.args.from (c.parts.at + c.in-Last.end) (c.parts.further + 1) c.args.most c.args.bindings.now.items c.put.new.bindings.items e.bound (omega (arith, less))
