use Rattle.std.proofs.Common.{◌∙◌, sym, ap, ◌+◌, drop, Bool}
use Rattle.rdlpp_meaning.specs.Meaning.{quote_place}
use Rattle.rdlpp_front.proofs.LineArguments.{moved, quote_at, quote_at_other, quote_at_taken, quote_over}
use Rattle.rdlpp_front.proofs.arguments.line.quote_place.Goals as goal
use Rattle.rdlpp_front.proofs.arguments.line.quote_place.Goals.{then-taken, else-taken+else-byte-eq34}

pub returns-then-byte-eq34-clause-place : goal.returns-then-byte-eq34-clause-place
returns-then-byte-eq34-clause-place c =
    sym (quote_at c.loop-place.taken c.loop-place.place c.args.bytes.now c.loop-place-test.true c.if-taken.false c.if-byte-eq34.true) ∙ c.loop-place.invariant

pub loop-place-preserved : goal.loop-place-preserved
loop-place-preserved c =
    let l = c.loop-place in
    let bytes = c.args.bytes.now in
    elim c.if-taken.branch [
      | then-taken w ↦
          ap (λ (t : Bool). moved (l.place + 1) (quote_place t (drop (l.place + 1) bytes))) w.taken-is
          ∙ sym (quote_at_taken l.taken l.place bytes c.loop-place-test.true w.if-taken.true) ∙ l.invariant
      | else-taken+else-byte-eq34 w ↦
          ap (λ (t : Bool). moved (l.place + 1) (quote_place t (drop (l.place + 1) bytes))) w.taken-is
          ∙ sym (quote_at_other l.taken l.place bytes c.loop-place-test.true w.if-taken.false w.if-byte-eq34.false) ∙ l.invariant
    ]

pub returns-clause-place : goal.returns-clause-place
returns-clause-place c = sym (quote_over c.loop-place.taken c.loop-place.place c.args.bytes.now c.loop-place-test.false) ∙ c.loop-place.invariant
