use Rattle.std.proofs.Common.{◌-◌, ℕ, ap, arith}
use Rattle.rdlpp_table.specs.IndexView.{places_room}
use Rattle.rdlpp_table.proofs.Arranged.{nothing_arranged, nothing_in}
use Rattle.rdlpp_define.proofs.Sizes.{count_items}
use Rattle.rdlpp_table.proofs.index.Index.clear.Goals as goal

pub invariant_of-self : goal.invariant_of-self
invariant_of-self c =
    nothing_arranged _ _ _ c.even_slack-self-inside.ensures.long c.even_slack-self-inside.ensures.even c.clear.ensures _ _ _ (omega (arith, c.min-slack.ensures, c.slack_for.ensures)) c.self.invariant.narrow
    (omega (arith, c.truncate.ensures.len, c.min-slack.ensures, c.len.ensures)) (omega (arith, c.truncate.ensures.capacity, c.self.invariant.room, c.self.invariant.inside))

pub returns : goal.returns
returns c =
    rw (← c.self.view_is) (nothing_in _ _ _ c.even_slack-self-inside.ensures.long c.even_slack-self-inside.ensures.even c.clear.ensures _ _ _ _
    (omega (arith, count_items c.truncate.new.self, c.truncate.ensures.len, c.min-slack.ensures, c.len.ensures)) (ap (λ (n : ℕ). n - places_room c.self.inside.most_places) c.truncate.ensures.capacity))
