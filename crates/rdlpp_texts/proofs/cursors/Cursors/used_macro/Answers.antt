use Rattle.std.proofs.Common.{List, ℕ, sym, ◌∙◌, subst, arith}
use Rattle.rdlpp_meaning.specs.declared.fault.FaultKind.TheVariants.{RecursiveMacro}
use Rattle.rdlpp_texts.specs.Places.{texts_of}
use Rattle.rdlpp_texts.specs.Usages.{IsRefused, IsUsed}
use Rattle.rdlpp_texts.proofs.Usages.{fault-unknown, fault-recursive, parents-out, parents-same, inside-same, table-recursive, table-used, unknown-given, name-is, name-inside, usage-place}
use Rattle.rdlpp_texts.proofs.cursors.Cursors.used_macro.Goals as goal

pub overflow_add-name : goal.overflow_add-name
overflow_add-name c =
    let place = usage-place _ _ _ _ c.requires.peek.sound c.requires.peek.peek c.requires.front in
    let some = place.some in
    let inside = place.inside in
    let short = c.requires.peek.short in
    omega (arith, some, inside, short)

pub overflow_add-name-2 : goal.overflow_add-name-2
overflow_add-name-2 c =
    let place = usage-place _ _ _ _ c.requires.peek.sound c.requires.peek.peek c.requires.front in
    let some = place.some in
    let inside = place.inside in
    let short = c.requires.peek.short in
    omega (arith, some, inside, short)

pub slice_bounds-name-count : goal.slice_bounds-name-count
slice_bounds-name-count c =
    let name = name-inside _ _ _ _ _ c.requires.peek.sound c.requires.peek.peek c.requires.front c.requires.peek.text in
    let order = name.0 in
    let inside = name.1 in
    omega (arith, order, inside)

pub slice_bounds-name-start : goal.slice_bounds-name-start
slice_bounds-name-start c =
    let name = name-inside _ _ _ _ _ c.requires.peek.sound c.requires.peek.peek c.requires.front c.requires.peek.text in
    let order = name.0 in
    let inside = name.1 in
    omega (arith, order, inside)

pub slice_bounds-name-end : goal.slice_bounds-name-end
slice_bounds-name-end c =
    let name = name-inside _ _ _ _ _ c.requires.peek.sound c.requires.peek.peek c.requires.front c.requires.peek.text in
    let order = name.0 in
    let inside = name.1 in
    omega (arith, order, inside)

pub returns-in_default-clause-used : goal.returns-in_default-clause-used
returns-in_default-clause-used c =
    unknown-given _ _ _ _ _ (name-is _ _ _ _ _ c.requires.peek.sound c.requires.peek.peek c.requires.front c.requires.peek.text)
    c.in_default.ensures.named c.unknown_kind.ensures

pub is_inside-requires-clause-parented : goal.is_inside-requires-clause-parented
is_inside-requires-clause-parented c = parents-same _ _ c.self.view_is (parents-out _ _ c.requires.peek.sound.are_open)

pub returns-then-is_inside-clause-used : goal.returns-then-is_inside-clause-used
returns-then-is_inside-clause-used c =
    subst (λ (n : List ℕ). IsRefused (texts_of c.args.table.now.macros c.args.arguments.now) c.args.self.now.opens n RecursiveMacro)
    (name-is _ _ _ _ _ c.requires.peek.sound c.requires.peek.peek c.requires.front c.requires.peek.text)
    (table-recursive c.args.table.now c.args.arguments.now c.args.self.now.opens _ c.in-Some.id c.in-Some.ensures.sound
    c.requires.peek.sound.are_inside (sym c.in-Some.ensures.value) c.in-Some.ensures.inside c.in-Some.ensures.named (inside-same _ _ _ _ c.self.view_is (sym c.if-is_inside.true ∙ c.is_inside.ensures)))

pub returns-clause-used : goal.returns-clause-used
returns-clause-used c =
    subst (λ (n : List ℕ). IsUsed (texts_of c.args.table.now.macros c.args.arguments.now) c.args.self.now.opens n c.in-Some.id)
    (name-is _ _ _ _ _ c.requires.peek.sound c.requires.peek.peek c.requires.front c.requires.peek.text)
    (table-used c.args.table.now c.args.arguments.now c.args.self.now.opens _ c.in-Some.id c.in-Some.ensures.sound
    c.requires.peek.sound.are_inside (sym c.in-Some.ensures.value) c.in-Some.ensures.inside c.in-Some.ensures.named (inside-same _ _ _ _ c.self.view_is (sym c.if-is_inside.false ∙ c.is_inside.ensures)))

pub returns-in_default-clause-fault : goal.returns-in_default-clause-fault
returns-in_default-clause-fault c = fault-unknown _ _ c.unknown_kind.ensures

pub returns-then-is_inside-clause-fault : goal.returns-then-is_inside-clause-fault
returns-then-is_inside-clause-fault c = fault-recursive
