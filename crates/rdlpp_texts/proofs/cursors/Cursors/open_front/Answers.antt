use Rattle.std.proofs.Common.{◌≡◌, true, false, length, sym, ◌∙◌, arith, nat_le, true≢false, le-leb}
use Rattle.std.proofs.lemmas.Bool.{lt-leb}
use Rattle.rdlpp_texts.specs.Places.{texts_of}
use Rattle.rdlpp_texts.proofs.Passing.{pass-bare}
use Rattle.rdlpp_texts.proofs.TakenSteps.{ended-spent, idle-closed, idle-formal, idle-last, idle-usage, takes-wordless}
use Rattle.rdlpp_texts.proofs.Usages.{fault-bare}
use Rattle.rdlpp_texts.proofs.cursors.Cursors.open_front.Goals as goal
use Rattle.rdlpp_texts.proofs.cursors.Cursors.open_front.Goals.{then-lent+else-len-le1, else-lent}

pub returns-in-Ended-clause-taken : goal.returns-in-Ended-clause-taken
returns-in-Ended-clause-taken c miss =
    absurd (true≢false (sym (idle-last _ _ _ c.in-Ended.is c.if-lent.true (le-leb _ _ (omega (arith, c.if-len-le1.true, c.len.ensures.value)))) ∙ miss))

pub returns-in-Ended-2-clause-taken : goal.returns-in-Ended-2-clause-taken
returns-in-Ended-2-clause-taken c miss = c.close_spent.ensures.spent _ c.requires.sound (ended-spent _ _ _ c.requires.sound c.requires.peek c.in-Ended-2.is)

pub returns-in-Ended-2-clause-idle : goal.returns-in-Ended-2-clause-idle
returns-in-Ended-2-clause-idle c hit = absurd (true≢false (sym hit ∙ idle-closed _ _ _ c.in-Ended-2.is more))
  where
    more : c.args.lent ≡ true → nat_le (length c.args.self.now.opens) 1 ≡ false
    more l = elim c.if-lent.branch [
      | then-lent+else-len-le1 w ↦ lt-leb _ _ (omega (arith, w.if-len-le1.false, w.len.ensures.value))
      | else-lent w ↦ absurd (true≢false (sym l ∙ w.if-lent.false))
    ]

pub returns-in-Formal-clause-idle : goal.returns-in-Formal-clause-idle
returns-in-Formal-clause-idle c hit = absurd (true≢false (sym hit ∙ idle-formal _ _ _ _ _ c.in-Formal.is))

pub returns-in-Usage-clause-idle : goal.returns-in-Usage-clause-idle
returns-in-Usage-clause-idle c hit = absurd (true≢false (sym hit ∙ idle-usage _ _ _ _ c.in-Usage.is))

pub returns-in-Bare-clause-taken : goal.returns-in-Bare-clause-taken
returns-in-Bare-clause-taken c miss = takes-wordless _ _ _ _ _ (pass-bare (texts_of c.args.table.now.macros c.args.arguments.now) c.args.self.now c.args.peek.now c.requires.sound c.requires.peek c.in-Bare.is) c.wordless.ensures fault-bare
