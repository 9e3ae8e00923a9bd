use Rattle.std.proofs.Common.{◌≡◌, ◌≤◌, ◌-◌, ◌+◌, ℕ, List, ◌∙◌, ap, arith, length, drop, get_or, length-drop, sym, take}
use Rattle.std.specs.List.{remove_range}
use Rattle.std.proofs.lemmas.List.{drop-drop}
use Rattle.rdlpp_table.specs.IndexView.{IndexView, places_room}
use Rattle.rdlpp_table.proofs.Arranged.{arranged, covered_after, cut_after, cut_before, same_places, uncut}
use Rattle.rdlpp_table.proofs.index.Index.cut_offsets.Goals as goal

pub returns-then-from-to : goal.returns-then-from-to
returns-then-from-to c = uncut c.args.self.now c.args.from c.args.to (omega (arith, c.if-from-to.true, c.requires.0))

pub returns-then-from-following : goal.returns-then-from-following
returns-then-from-following c =
    let x = c.self.inside in
    let start : ℕ = get_or x.bucket_starts 1024 0 + get_or x.slack_before 32 0 in
    let first : ℕ = start + x.given_up in
    let size : ℕ = c.args.to - c.args.from in
    let more : start + (x.given_up + size) ≡ first + size = omega arith in
    let e = rw c.offsets_start.ensures at c.cover.ensures.items in
    rw (← c.self.view_is) (arranged x.order.items _ _ _ _ x.given_up _ x.most_places _ _
    (same_places x.order.items _ _ _ first c.self.invariant.spaced (omega arith) (rw c.offsets_start.ensures at c.cover.ensures.before))
    (drop-drop (x.given_up + size) start c.cover.new.list.items
    ∙ (ap (λ (n : ℕ). drop n c.cover.new.list.items) more
    ∙ (covered_after x.order.items c.cover.new.list.items first c.args.from c.args.to c.requires.0 e
    ∙ ap (λ (l : List ℕ). remove_range l c.args.from c.args.to) (sym (drop-drop x.given_up start x.order.items)))))
    (ap (λ (n : ℕ). n - places_room x.most_places) c.cover.ensures.capacity))

pub returns-else-from-following : goal.returns-else-from-following
returns-else-from-following c =
    let x = c.self.inside in
    let start : ℕ = get_or x.bucket_starts 1024 0 + get_or x.slack_before 32 0 in
    let first : ℕ = start + x.given_up in
    let inside : first + c.args.from ≤ length x.order.items = omega (arith, c.requires.0, c.requires.1, ap (λ (v : IndexView). length v.formal_offsets) c.self.view_is, length-drop start x.order.items, length-drop x.given_up (drop start x.order.items)) in
    let e = rw c.offsets_start.ensures at c.cut.ensures.items in
    rw (← c.self.view_is) (arranged x.order.items _ _ _ _ x.given_up _ x.most_places _ _
    (same_places x.order.items _ _ _ (first + c.args.from) c.self.invariant.spaced (omega arith) (ap (take (first + c.args.from)) e ∙ cut_before x.order.items (first + c.args.from) (first + c.args.to) inside))
    (drop-drop x.given_up start c.cut.new.list.items
    ∙ (ap (drop first) e
    ∙ (cut_after x.order.items first c.args.from c.args.to inside
    ∙ ap (λ (l : List ℕ). remove_range l c.args.from c.args.to) (sym (drop-drop x.given_up start x.order.items)))))
    (ap (λ (n : ℕ). n - places_room x.most_places) c.cut.ensures.capacity))
