use Rattle.std.proofs.Common.{ℕ, ap, arith, length}
use Rattle.rdlpp_table.proofs.Arranged.{no_slack_even, no_slack_long, nothing_arranged, nothing_in}
use Rattle.rdlpp_table.proofs.index.Index.new.Goals as goal

pub invariant_of-result : goal.invariant_of-result
invariant_of-result c =
    nothing_arranged _ _ 0 no_slack_long no_slack_even c.new.ensures _ _ _ (omega arith) (omega (arith, c.requires)) (omega (arith, c.in_ok-order.ensures.len)) (omega (arith, c.places_room.ensures, c.in_ok-order.ensures.exact))

pub returns : goal.returns
returns c =
    nothing_in _ _ 0 no_slack_long no_slack_even c.new.ensures _ _ _ _ (ap (length {A = ℕ}) c.in_ok-order.ensures.items) (omega (arith, c.places_room.ensures, c.in_ok-order.ensures.exact))
