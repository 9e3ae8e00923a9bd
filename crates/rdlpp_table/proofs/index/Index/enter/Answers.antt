use Rattle.std.proofs.Common.{◌<◌, ◌≤◌, ◌-◌, ◌/◌, ◌+◌, ◌∙◌, ℕ, ap, arith, get_or, length, subst, sym, vec_len}
use Rattle.rdlpp_table.specs.IndexView.{IndexView, places_room}
use Rattle.rdlpp_table.proofs.Arranged.{entered_arranged, enters, places_long, slack_arranged, some_slack}
use Rattle.rdlpp_table.proofs.Groups.{mapped}
use Rattle.rdlpp_define.proofs.Sizes.{count_items}
use Rattle.rdlpp_table.proofs.index.Index.enter.Goals as goal

pub move_down-requires : goal.move_down-requires
move_down-requires c = some_slack _ _ _ c.make_slack.ensures.spaced (omega (arith, c.requires.bucket)) c.make_slack.ensures.slack

pub invariant_of-self : goal.invariant_of-self
invariant_of-self c =
    let x = c.self.inside in
    let count : get_or x.bucket_starts 1024 0 < x.most_places = omega (arith, c.requires.room, ap (λ (v : IndexView). length v.places) c.self.view_is, places_long x.order.items x.slack_before x.bucket_starts, ap (λ (v : IndexView). v.room.places) c.self.view_is) in
    let gap = subst (λ (v : IndexView). (get_or v.bucket_starts c.args.bucket 0 ≤ c.args.gap) × (c.args.gap ≤ get_or v.bucket_starts (c.args.bucket + 1) 0)) (sym c.self.view_is) c.requires.gap in
    let a = slack_arranged _ _ (vec_len c.put_place.new.order) _ _ _ _ _ _ c.self.invariant c.make_slack.ensures.spaced c.make_slack.ensures.most (omega (arith, c.put_place.ensures.len, c.make_slack.ensures.len)) (c.put_place.ensures.capacity ∙ c.make_slack.ensures.capacity) in
    entered_arranged _ _ _ _ _ _ _ _ _ c.requires.bucket a.spaced gap.0 gap.1 (omega (arith, a.inside, c.put_place.ensures.len, count_items c.make_slack.new.order)) c.make_slack.ensures.slack c.begin_later.ensures
    (mapped (λ n. n - 1) (c.args.bucket / 32 + 1) 33 c.make_slack.new.before c.move_down.new.starts (omega (arith, c.requires.bucket)) (omega (arith, a.spaced.groups)) c.move_down.ensures)
    (rw c.group_start-end.ensures.value at c.put_place.ensures.items) _ _ _ _ a count

pub returns : goal.returns
returns c =
    let x = c.self.inside in
    let gap = subst (λ (v : IndexView). (get_or v.bucket_starts c.args.bucket 0 ≤ c.args.gap) × (c.args.gap ≤ get_or v.bucket_starts (c.args.bucket + 1) 0)) (sym c.self.view_is) c.requires.gap in
    let moved = mapped (λ n. n - 1) (c.args.bucket / 32 + 1) 33 c.make_slack.new.before c.move_down.new.starts (omega (arith, c.requires.bucket)) (omega (arith, c.make_slack.ensures.spaced.groups)) c.move_down.ensures in
    rw (← c.self.view_is) (enters _ _ _ _ _ _ _ _ _ c.requires.bucket c.make_slack.ensures.spaced gap.0 gap.1
    (omega (arith, c.self.invariant.inside, c.make_slack.ensures.len, count_items c.make_slack.new.order)) c.make_slack.ensures.slack c.begin_later.ensures moved
    (rw c.group_start-end.ensures.value at c.put_place.ensures.items) x.order.items x.slack_before x.given_up x.most_places _ _ c.make_slack.ensures.places c.make_slack.ensures.offsets
    (ap (λ (n : ℕ). n - places_room x.most_places) (c.put_place.ensures.capacity ∙ c.make_slack.ensures.capacity)))
