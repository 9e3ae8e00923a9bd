use Rattle.std.proofs.Common.{◌≡◌, arith}
use Rattle.rdlpp_scan.specs.Tokens.{plain_len}
use Rattle.rdlpp_front.proofs.Insides.{stops_at_front}
use Rattle.rdlpp_front.proofs.item.next_item.Goals as goal
use Rattle.rdlpp_front.proofs.item.next_item.Goals.{in-Plain+else-held-eq96+else-len-gt0, in_default}

pub token_item-requires-clause-stops : goal.token_item-requires-clause-stops
token_item-requires-clause-stops c plain =
    let held = c.args.held.now in
    elim c.match-mode.branch [
      | in-Plain+else-held-eq96+else-len-gt0 w ↦
          let none : plain_len held ≡ 0 = omega (arith, w.plain_text_len-len.ensures.value, w.if-len-gt0.false) in
          (stops_at_front held c.requires none, w.if-held-eq96.false)
      | in_default w ↦ absurd (w.in_default.not-Plain plain)
    ]
