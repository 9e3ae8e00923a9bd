use Rattle.std.proofs.lemmas.Bool.{le-ltb, lt-ltb}
use Rattle.rdlpp_texts.specs.Places.{texts_of}
use Rattle.rdlpp_texts.proofs.TakenSteps.{on-lent, on-peek, on-taken}
use Rattle.rdlpp_texts.proofs.cursors.Cursors.step.Goals as goal

pub open_front-opened-requires : goal.open_front-opened-requires
open_front-opened-requires c =
    (on-peek (texts_of c.args.table.now.macros c.args.arguments.now) c.args.self.now c.move_to.new.self c.peek-sight.result.peek c.peek-sight.result.text.now c.requires.sound c.peek-sight.ensures.peek c.requires.some
    c.peek-sight.ensures.text c.peek-sight.ensures.short c.move_to.ensures).looks

pub returns-then-lent : goal.returns-then-lent
returns-then-lent c =
    on-lent (texts_of c.args.table.now.macros c.args.arguments.now) c.args.self.now c.move_to.new.self c.open_front-opened.new.self c.peek-sight.result.peek c.peek-sight.result.text.now _ c.open_front-opened.result
    (on-peek (texts_of c.args.table.now.macros c.args.arguments.now) c.args.self.now c.move_to.new.self c.peek-sight.result.peek c.peek-sight.result.text.now c.requires.sound c.peek-sight.ensures.peek c.requires.some
    c.peek-sight.ensures.text c.peek-sight.ensures.short c.move_to.ensures)
    c.if-lent.true c.open_front-opened.ensures.taken c.open_front-opened.ensures.idle (c.open_front-opened.ensures.open (lt-ltb _ _ c.if-lent.true)) c.open_front-opened.ensures.unlent

pub returns-else-lent : goal.returns-else-lent
returns-else-lent c =
    on-taken (texts_of c.args.table.now.macros c.args.arguments.now) c.args.self.now c.move_to.new.self c.open_front-opened.new.self c.peek-sight.result.peek c.peek-sight.result.text.now _ c.open_front-opened.result
    (on-peek (texts_of c.args.table.now.macros c.args.arguments.now) c.args.self.now c.move_to.new.self c.peek-sight.result.peek c.peek-sight.result.text.now c.requires.sound c.peek-sight.ensures.peek c.requires.some
    c.peek-sight.ensures.text c.peek-sight.ensures.short c.move_to.ensures)
    c.if-lent.false (le-ltb _ _ c.if-lent.false) c.open_front-opened.ensures.taken
