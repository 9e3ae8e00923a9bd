use Rattle.std.proofs.Common.{◌∙◌, ◌∷◌, [], ap, refl, sym, arith}
use Rattle.rdlpp_texts.specs.Places.{texts_of}
use Rattle.rdlpp_texts.proofs.Falling.{formal-inside, outer-opened, turned-formal}
use Rattle.rdlpp_texts.proofs.TakenSteps.{formal-place, formal-text, pass-deep, pass-formal, pass-nothing, room-moved, sound-bound, takes-silent, takes-wordless}
use Rattle.rdlpp_texts.proofs.Usages.{fault-deep}
use Rattle.rdlpp_texts.specs.Opened.{open_of}
use Rattle.rdlpp_texts.proofs.cursors.Cursors.formal.Goals as goal

pub standing-requires-clause-bound : goal.standing-requires-clause-bound
standing-requires-clause-bound c = sound-bound (texts_of c.args.table.now.macros c.args.arguments.now) c.args.self.now.opens c.requires.sound

pub standing-requires-clause-place : goal.standing-requires-clause-place
standing-requires-clause-place c =
    formal-place (texts_of c.args.table.now.macros c.args.arguments.now) c.args.self.now.opens c.args.peek.now c.args.len c.args.place c.requires.sound c.requires.peek c.requires.front

pub overflow_add-peek : goal.overflow_add-peek
overflow_add-peek c =
    let inside = (formal-inside (texts_of c.args.table.now.macros c.args.arguments.now) c.args.self.now.opens c.args.peek.now c.args.len c.args.place c.requires.peek c.requires.front).1 in
    omega (arith, inside)

pub push_text-requires-clause-text : goal.push_text-requires-clause-text
push_text-requires-clause-text c =
    formal-text c.args.table.now (texts_of c.args.table.now.macros c.args.arguments.now) c.args.self.now.opens c.args.peek.now c.args.len c.args.place c.in-Some.new c.len-macros.ensures.sound refl c.requires.sound c.requires.peek c.requires.front
    (c.in-Some.ensures)

pub returns-then-is_full-clause-step : goal.returns-then-is_full-clause-step
returns-then-is_full-clause-step c =
    takes-wordless _ _ _ _ _
    (pass-deep (texts_of c.args.table.now.macros c.args.arguments.now) c.args.self.now c.args.peek.now c.args.len c.args.place c.requires.sound c.requires.peek c.requires.front
    (sym c.is_full.ensures ∙ c.if-is_full.true)) c.wordless-then-is_full.ensures fault-deep

pub returns-in_default-clause-step : goal.returns-in_default-clause-step
returns-in_default-clause-step c =
    pass-nothing (texts_of c.args.table.now.macros c.args.arguments.now) c.args.self.now c.args.peek.now c.args.len c.args.place _ c.requires.sound c.requires.peek c.requires.front
    c.in_default.ensures

pub returns-clause-step : goal.returns-clause-step
returns-clause-step c =
    let texts = (texts_of c.args.table.now.macros c.args.arguments.now) in
    let opens = ap (λ v. v.opens) c.push_text.ensures ∙ ap (λ v. open_of c.in-Some.new [] ∷ v.opens) c.move_to.ensures in
    takes-silent texts c.args.self.now c.push_text.new.self
    (pass-formal c.args.table.now texts c.args.self.now c.move_to.new.self c.push_text.new.self c.args.peek.now c.args.len c.args.place _ c.in-Some.new
    c.len-macros.ensures.sound refl c.requires.sound c.requires.peek c.requires.front c.in-Some.ensures (sym c.is_full.ensures ∙ c.if-is_full.false) refl c.move_to.ensures c.push_text.ensures)
    (outer-opened c.args.self.now.opens c.push_text.new.self.opens _ _ c.requires.some opens)
    (turned-formal texts c.args.self.now.opens c.push_text.new.self.opens c.args.peek.now c.args.len c.args.place (open_of c.in-Some.new []) c.requires.peek c.requires.front c.in-Some.ensures opens)

pub push_text-requires-clause-room : goal.push_text-requires-clause-room
push_text-requires-clause-room c = room-moved c.args.self.now c.move_to.new.self _ (sym c.is_full.ensures ∙ c.if-is_full.false) c.move_to.ensures
