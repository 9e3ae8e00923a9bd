use Rattle.std.proofs.Common.{◌<◌, length, ap, sym, ◌∙◌, arith}
use Rattle.rdlpp_texts.specs.Turns.{Closed}
use Rattle.rdlpp_texts.proofs.Falling.{closes-more, outer-closed, outer-on}
use Rattle.rdlpp_texts.proofs.TakenSteps.{rest-fewer, rest-open, spent-closed, taken-twice}
use Rattle.rdlpp_texts.proofs.cursors.Cursors.close_spent.Goals as goal

pub loop-self-init : goal.loop-self-init
loop-self-init c = (
  λ many. rest-open _ _ many c.close.ensures,
  (λ texts h e. spent-closed texts _ _ h c.requires e c.close.ensures, rest-fewer _ _ c.requires c.close.ensures, (outer-closed c.args.self.now c.close.new.self c.close.ensures, (1, ap (λ v. v.opens) c.close.ensures))),
)

pub loop-self-preserved : goal.loop-self-preserved
loop-self-preserved c =
    let many : 1 < length c.loop-self.self.opens = omega (arith, c.loop-self-test.true, c.len.ensures.value) in
    let outer = outer-on c.args.self.now.opens c.loop-self.self.opens c.close-in-loop-self.new.self.opens (omega (arith, many)) c.loop-self.invariant.1.2.0 (outer-closed c.loop-self.self c.close-in-loop-self.new.self c.close-in-loop-self.ensures) in
    let closes = closes-more c.args.self.now.opens c.loop-self.self.opens c.close-in-loop-self.new.self.opens c.loop-self.invariant.1.2.1 (ap (λ v. v.opens) c.close-in-loop-self.ensures) in (
      λ _. rest-open _ _ many c.close-in-loop-self.ensures,
      (
        λ texts h e.
            let t = c.loop-self.invariant.1.0 texts h e in
            taken-twice texts _ _ _ t (spent-closed texts _ _ t.sound (omega (arith, many)) (sym c.is_spent.ensures ∙ c.if-is_spent.true) c.close-in-loop-self.ensures) outer (Closed e closes),
        (let fewer = c.loop-self.invariant.1.1 in let again = rest-fewer c.loop-self.self c.close-in-loop-self.new.self (omega (arith, many)) c.close-in-loop-self.ensures in omega (arith, fewer, again)),
        (outer, closes),
      ),
    )
