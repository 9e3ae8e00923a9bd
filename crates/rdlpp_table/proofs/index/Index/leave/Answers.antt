use Rattle.std.proofs.Common.{◌/◌, ◌+◌, ◌-◌, ◌∙◌, List, ℕ, ap, arith, get_or, subst, sym, vec_len}
use Rattle.rdlpp_table.specs.IndexView.{IndexView, IsInBucket, places_room}
use Rattle.rdlpp_table.proofs.Arranged.{bucket_inside, bucket_place, leaves, left_arranged, slack_arranged, slack_fits}
use Rattle.rdlpp_table.proofs.Groups.{BucketsAreAfter, mapped}
use Rattle.rdlpp_define.proofs.Sizes.{count_items}
use Rattle.rdlpp_table.proofs.index.Index.leave.Goals as goal

pub move_up-requires : goal.move_up-requires
move_up-requires c =
    let inside = subst (λ (v : IndexView). IsInBucket v.bucket_starts c.args.bucket c.args.at) (sym c.self.view_is) c.requires.at in
    let a = slack_arranged _ _ (vec_len c.make_slack.new.order) _ _ _ _ _ _ c.self.invariant c.make_slack.ensures.spaced c.make_slack.ensures.most (omega (arith, c.make_slack.ensures.len)) c.make_slack.ensures.capacity in
    slack_fits _ _ _ _ _ _ (c.args.bucket / 32) a (omega (arith, (bucket_inside _ _ _ _ a.spaced c.requires.bucket inside).0))

pub invariant_of-self : goal.invariant_of-self
invariant_of-self c =
    let inside = subst (λ (v : IndexView). IsInBucket v.bucket_starts c.args.bucket c.args.at) (sym c.self.view_is) c.requires.at in
    let some = subst (λ (v : IndexView). BucketsAreAfter c.args.bucket v.bucket_starts) (sym c.self.view_is) c.requires.some in
    let a = slack_arranged _ _ (vec_len c.make_slack.new.order) _ _ _ _ _ _ c.self.invariant c.make_slack.ensures.spaced c.make_slack.ensures.most (omega (arith, c.make_slack.ensures.len)) c.make_slack.ensures.capacity in
    left_arranged c.make_slack.new.order.items _ _ _ _ _ _ _ c.requires.bucket a.spaced inside c.begin_sooner.ensures some (omega (arith, a.inside, count_items c.make_slack.new.order))
    (mapped (λ n. n + 1) (c.args.bucket / 32 + 1) 33 c.make_slack.new.before c.move_up.new.starts (omega (arith, c.requires.bucket)) (omega (arith, a.spaced.groups)) c.move_up.ensures)
    (rw c.group_start-end.ensures.value at c.take_place-place.ensures.items) _ _ _ _ _ _ a (c.close_list.ensures.len ∙ c.take_place-place.ensures.len) (c.close_list.ensures.capacity ∙ c.take_place-place.ensures.capacity)

pub returns-clause-value : goal.returns-clause-value
returns-clause-value c =
    let inside = subst (λ (v : IndexView). IsInBucket v.bucket_starts c.args.bucket c.args.at) (sym c.self.view_is) c.requires.at in
    c.take_place-place.ensures.value
    ∙ (sym (bucket_place c.make_slack.new.order.items _ _ _ _ c.make_slack.ensures.spaced c.requires.bucket inside)
    ∙ (ap (λ (xs : List ℕ). get_or xs c.args.at 0) c.make_slack.ensures.places ∙ ap (λ (v : IndexView). get_or v.places c.args.at 0) c.self.view_is))

pub returns-clause-leaves : goal.returns-clause-leaves
returns-clause-leaves c =
    let x = c.self.inside in
    let inside = subst (λ (v : IndexView). IsInBucket v.bucket_starts c.args.bucket c.args.at) (sym c.self.view_is) c.requires.at in
    let some = subst (λ (v : IndexView). BucketsAreAfter c.args.bucket v.bucket_starts) (sym c.self.view_is) c.requires.some in
    rw (← c.self.view_is) (leaves c.make_slack.new.order.items _ _ _ _ _ _ _ c.requires.bucket c.make_slack.ensures.spaced inside c.begin_sooner.ensures some
    (omega (arith, c.self.invariant.inside, c.make_slack.ensures.len, count_items c.make_slack.new.order))
    (mapped (λ n. n + 1) (c.args.bucket / 32 + 1) 33 c.make_slack.new.before c.move_up.new.starts (omega (arith, c.requires.bucket)) (omega (arith, c.make_slack.ensures.spaced.groups)) c.move_up.ensures)
    (rw c.group_start-end.ensures.value at c.take_place-place.ensures.items) x.order.items x.slack_before _ _ x.given_up x.most_places _ _ c.make_slack.ensures.places c.make_slack.ensures.offsets
    (rw c.offsets_start-offsets.ensures at c.close_list.ensures.items)
    (ap (λ (n : ℕ). n - places_room x.most_places) (c.close_list.ensures.capacity ∙ c.take_place-place.ensures.capacity ∙ c.make_slack.ensures.capacity)))
