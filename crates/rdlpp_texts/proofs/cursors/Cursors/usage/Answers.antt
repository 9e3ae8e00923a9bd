use Rattle.std.proofs.Common.{sym, ap, ◌∙◌, refl, arith, leb-true, leb-false}
use Rattle.rdlpp_texts.specs.Places.{texts_of}
use Rattle.rdlpp_texts.proofs.Falling.{outer-opened, turned-usage}
use Rattle.rdlpp_texts.proofs.TakenSteps.{takes-named, takes-silent, takes-wordless}
use Rattle.rdlpp_texts.proofs.Usages.{entered-same, fault-deep, full-same, has-list, no-list, pass-deep, pass-opened, pass-refused, pass-same, usage-place}
use Rattle.rdlpp_texts.proofs.cursors.Cursors.usage.Goals as goal

pub word_of-word-requires-clause-short : goal.word_of-word-requires-clause-short
word_of-word-requires-clause-short c =
    let place = usage-place _ _ _ _ c.requires.peek.sound c.requires.peek.peek c.requires.front in
    let inside = place.inside in
    let short = c.requires.peek.short in
    omega (arith, inside, short)

pub word_of-word-requires-clause-some : goal.word_of-word-requires-clause-some
word_of-word-requires-clause-some c = (usage-place _ _ _ _ c.requires.peek.sound c.requires.peek.peek c.requires.front).some

pub returns-in-Err-clause-step : goal.returns-in-Err-clause-step
returns-in-Err-clause-step c =
    takes-named (texts_of c.args.table.now.macros c.args.arguments.now) c.args.self.now c.used_macro.new.self c.args.peek.now c.args.text.now c.args.len c.in-Err.kind c.word_of-word.result c.requires.peek c.requires.front c.word_of-word.ensures
    c.in-Err.ensures.fault
    (pass-same _ _ _ _ c.used_macro.ensures.same (pass-refused _ _ c.args.peek.now c.args.len _ _ c.requires.peek.sound c.requires.peek.peek c.requires.front c.word_of-word.ensures c.in-Err.ensures.used))

pub call-requires-clause-list : goal.call-requires-clause-list
call-requires-clause-list c = has-list _ _ _ c.arity.ensures c.is_some.ensures c.if-is_some.true

pub returns-then-is_full-clause-step : goal.returns-then-is_full-clause-step
returns-then-is_full-clause-step c =
    takes-wordless (texts_of c.args.table.now.macros c.args.arguments.now) c.args.self.now c.used_macro.new.self _ _
    (pass-same _ _ _ _ c.used_macro.ensures.same (pass-deep _ _ c.args.peek.now c.args.len c.in-Ok.id c.requires.peek.sound c.requires.peek.peek c.requires.front c.in-Ok.ensures.used
    (no-list _ _ _ c.arity.ensures c.is_some.ensures c.if-is_some.false) (leb-true _ _ (sym (full-same _ _ _ c.used_macro.ensures.same c.is_full.ensures) ∙ c.if-is_full.true)))) c.wordless.ensures fault-deep

pub overflow_add-peek : goal.overflow_add-peek
overflow_add-peek c =
    let place = usage-place _ _ _ _ c.requires.peek.sound c.requires.peek.peek c.requires.front in
    let inside = place.inside in
    let short = c.requires.peek.short in
    omega (arith, inside, short)

pub returns-clause-step : goal.returns-clause-step
returns-clause-step c =
    let none = no-list _ _ _ c.arity.ensures c.is_some.ensures c.if-is_some.false in
    let entered = entered-same _ _ _ _ _ _ c.used_macro.ensures.same c.enter.ensures in
    takes-silent (texts_of c.args.table.now.macros c.args.arguments.now) c.args.self.now c.enter.new.self
    (pass-opened _ _ _ _ c.args.peek.now c.args.len c.in-Ok.id _ c.len-macros.ensures.sound c.requires.peek.sound c.requires.peek.peek c.requires.front c.in-Ok.ensures.used
    none (leb-false _ _ (sym (full-same _ _ _ c.used_macro.ensures.same c.is_full.ensures) ∙ c.if-is_full.false)) refl entered)
    (outer-opened c.args.self.now.opens c.enter.new.self.opens _ _ c.requires.peek.some (ap (λ v. v.opens) entered))
    (turned-usage c.args.table.now.macros c.args.arguments.now c.args.self.now.opens c.enter.new.self.opens c.args.peek.now c.args.len c.in-Ok.id _ c.requires.peek.peek c.requires.front c.in-Ok.ensures.used none (ap (λ v. v.opens) entered))
