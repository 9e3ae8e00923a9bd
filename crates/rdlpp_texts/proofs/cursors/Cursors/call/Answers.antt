use Rattle.std.proofs.Common.{arith, refl}
use Rattle.rdlpp_texts.specs.Places.{texts_of}
use Rattle.rdlpp_texts.proofs.Calling.{list-used, peek-call, opening-open, pass-call_deep, pass-call_opened, pass-call_refused}
use Rattle.rdlpp_texts.proofs.Falling.{outer-called, turned-call}
use Rattle.rdlpp_texts.proofs.TakenSteps.{takes-named, takes-silent, takes-wordless}
use Rattle.rdlpp_texts.proofs.Usages.{fault-deep, fault-call, usage-place}
use Rattle.rdlpp_texts.proofs.cursors.Cursors.call.Goals as goal

pub overflow_add-at : goal.overflow_add-at
overflow_add-at c =
    let inside = (usage-place (texts_of c.args.table.now.macros c.args.arguments.now) c.args.self.now.opens c.args.peek.now c.args.len c.requires.peek.sound c.requires.peek.peek c.requires.front).inside in
    let short = c.requires.peek.short in
    omega (arith, inside, short)

pub open_bound-requires-clause-range : goal.open_bound-requires-clause-range
open_bound-requires-clause-range c =
    let call = peek-call (texts_of c.args.table.now.macros c.args.arguments.now) c.args.self.now.opens c.args.peek.now c.args.len c.args.text.now _ c.requires.peek.sound c.requires.peek.peek c.requires.front c.requires.peek.text refl in
    (call.ordered, call.fits)

pub open_bound-requires-clause-keeps : goal.open_bound-requires-clause-keeps
open_bound-requires-clause-keeps c =
    (peek-call (texts_of c.args.table.now.macros c.args.arguments.now) c.args.self.now.opens c.args.peek.now c.args.len c.args.text.now _ c.requires.peek.sound c.requires.peek.peek c.requires.front c.requires.peek.text refl).keeps

pub returns-in-Opened-clause-step : goal.returns-in-Opened-clause-step
returns-in-Opened-clause-step c =
    takes-silent (texts_of c.args.table.now.macros c.args.arguments.now) c.args.self.now c.open_bound.new.self
    (pass-call_opened c.args.table.now c.args.arguments.now c.args.self.now c.open_bound.new.self c.args.peek.now c.args.len c.args.id c.scope-parent.result c.args.text.now _ c.open_bound.result c.len-macros.ensures.sound
    (list-used (texts_of c.args.table.now.macros c.args.arguments.now) c.args.self.now.opens c.args.peek.now c.args.len c.args.id c.args.text.now _ c.requires.peek.sound c.requires.peek.peek c.requires.front c.requires.used c.requires.list c.requires.peek.text refl) c.scope-parent.ensures c.in-Opened.is c.open_bound.ensures.opening)
    (outer-called _ _ c.args.self.now c.open_bound.new.self _ _ _ _ c.open_bound.result c.requires.peek.some c.open_bound.ensures.opening)
    (turned-call _ c.args.arguments.now _ c.args.self.now c.open_bound.new.self c.args.peek.now c.args.len _ _ c.args.id _ c.open_bound.result c.requires.peek.peek c.requires.front c.requires.used c.scope-parent.ensures c.open_bound.ensures.opening)

pub returns-in-Refused-clause-step : goal.returns-in-Refused-clause-step
returns-in-Refused-clause-step c =
    takes-named (texts_of c.args.table.now.macros c.args.arguments.now) c.args.self.now c.open_bound.new.self c.args.peek.now c.args.text.now c.args.len c.in-Refused.kind c.word_of.result c.requires.peek c.requires.front c.word_of.ensures
    (fault-call _ c.in-Refused.ensures.fault)
    (pass-call_refused (texts_of c.args.table.now.macros c.args.arguments.now) c.args.self.now c.open_bound.new.self c.args.peek.now c.args.len c.args.id c.scope-parent.result c.args.text.now _ c.in-Refused.kind c.open_bound.result c.word_of.result
    (list-used (texts_of c.args.table.now.macros c.args.arguments.now) c.args.self.now.opens c.args.peek.now c.args.len c.args.id c.args.text.now _ c.requires.peek.sound c.requires.peek.peek c.requires.front c.requires.used c.requires.list c.requires.peek.text refl) c.in-Refused.is c.open_bound.ensures.opening c.word_of.ensures)

pub returns-in-Deep-clause-step : goal.returns-in-Deep-clause-step
returns-in-Deep-clause-step c =
    takes-wordless _ _ _ _ _
    (pass-call_deep (texts_of c.args.table.now.macros c.args.arguments.now) c.args.self.now c.open_bound.new.self c.args.peek.now c.args.len c.args.id c.scope-parent.result c.args.text.now _ c.open_bound.result
    (list-used (texts_of c.args.table.now.macros c.args.arguments.now) c.args.self.now.opens c.args.peek.now c.args.len c.args.id c.args.text.now _ c.requires.peek.sound c.requires.peek.peek c.requires.front c.requires.used c.requires.list c.requires.peek.text refl) c.in-Deep.is c.open_bound.ensures.opening) c.wordless.ensures fault-deep

pub word_of-requires-clause-short : goal.word_of-requires-clause-short
word_of-requires-clause-short c =
    let inside = (usage-place (texts_of c.args.table.now.macros c.args.arguments.now) c.args.self.now.opens c.args.peek.now c.args.len c.requires.peek.sound c.requires.peek.peek c.requires.front).inside in
    let short = c.requires.peek.short in
    omega (arith, inside, short)

pub word_of-requires-clause-some : goal.word_of-requires-clause-some
word_of-requires-clause-some c = (usage-place (texts_of c.args.table.now.macros c.args.arguments.now) c.args.self.now.opens c.args.peek.now c.args.len c.requires.peek.sound c.requires.peek.peek c.requires.front).some

pub returns-in-Opened-clause-open : goal.returns-in-Opened-clause-open
returns-in-Opened-clause-open c = opening-open _ _ _ _ _ _ _ _ _ c.requires.peek.some c.open_bound.ensures.opening

pub returns-in-Refused-clause-open : goal.returns-in-Refused-clause-open
returns-in-Refused-clause-open c = opening-open _ _ _ _ _ _ _ _ _ c.requires.peek.some c.open_bound.ensures.opening

pub returns-in-Deep-clause-open : goal.returns-in-Deep-clause-open
returns-in-Deep-clause-open c = opening-open _ _ _ _ _ _ _ _ _ c.requires.peek.some c.open_bound.ensures.opening
