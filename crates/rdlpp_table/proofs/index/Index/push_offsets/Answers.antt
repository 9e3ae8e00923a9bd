use Rattle.std.proofs.Common.{◌≤◌, ◌*◌, ◌+◌, ◌-◌, ◌++◌, ◌∙◌, ◌≡◌, ℕ, List, ap, arith, drop, get_or, length, length-append, length-drop, subst, sym, take, vec_len}
use Rattle.std.proofs.lemmas.List.{drop-append-le, take-append-le}
use Rattle.rdlpp_table.specs.FormalOffsets.{offsets_of}
use Rattle.rdlpp_table.specs.IndexView.{IndexView, places_room}
use Rattle.rdlpp_table.specs.Store.{formals_read}
use Rattle.rdlpp_table.proofs.Arranged.{arranged, same_places}
use Rattle.rdlpp_table.proofs.RoundTrip.{count_read}
use Rattle.rdlpp_define.proofs.Sizes.{count_items}
use Rattle.rdlpp_table.proofs.Sizes.{two_offsets}
use Rattle.rdlpp_table.proofs.index.Index.push_offsets.Goals as goal

-- there is room for the offsets of formals where it was seen to it that there is for two each
room_left : (items list : List ℕ) (count len start given_up room kept : ℕ) → len ≡ length items → start + given_up ≤ len → length (drop given_up (drop start items)) + length (offsets_of (formals_read count list)) ≤ room → ((n : ℕ) → n ≤ 2 * count → len + n ≤ start + given_up + room → kept + n ≤ start + room) → kept + length (offsets_of (formals_read count list)) ≤ start + room
room_left items list count len start given_up room kept l i h r =
    r (length (offsets_of (formals_read count list))) (omega (arith, two_offsets (formals_read count list), count_read count list)) (omega (arith, length-drop start items, length-drop given_up (drop start items)))

pub push_offsets-requires-clause-room : goal.push_offsets-requires-clause-room
push_offsets-requires-clause-room c =
    let x = c.self.inside in
    let i = c.self.invariant in
    let room = subst (λ (v : IndexView). length v.formal_offsets + length (offsets_of (formals_read c.args.count c.args.list.now)) ≤ v.room.formal_offsets) (sym c.self.view_is) c.requires.room in
    omega (arith, room_left x.order.items _ _ _ _ _ _ _ (count_items x.order) i.inside room (rw (c.offsets_start-start.ensures, c.capacity.ensures, c.places_room.ensures) at c.make_offset_room.ensures.room), i.room, i.inside, i.little, c.make_offset_room.ensures.capacity)

pub invariant_of-self : goal.invariant_of-self
invariant_of-self c =
    let x = c.self.inside in
    let i = c.self.invariant in
    let room = subst (λ (v : IndexView). length v.formal_offsets + length (offsets_of (formals_read c.args.count c.args.list.now)) ≤ v.room.formal_offsets) (sym c.self.view_is) c.requires.room in
    let left = room_left x.order.items _ _ _ _ _ _ _ (count_items x.order) i.inside room (rw (c.offsets_start-start.ensures, c.capacity.ensures, c.places_room.ensures) at c.make_offset_room.ensures.room) in
    let long : vec_len c.push_offsets.new.formal_offsets ≡ vec_len c.make_offset_room.new.order + length (offsets_of (formals_read c.args.count c.args.list.now)) = omega (arith, ap (length {A = ℕ}) c.push_offsets.ensures.items, length-append c.make_offset_room.new.order.items (offsets_of (formals_read c.args.count c.args.list.now)), count_items c.push_offsets.new.formal_offsets, count_items c.make_offset_room.new.order) in
    record {
      spaced = i.spaced;
      narrow = i.narrow;
      few = i.few;
      little = i.little;
      inside = omega (arith, c.make_offset_room.ensures.inside, c.offsets_start-start.ensures);
      room = omega (arith, left, i.room, i.inside, c.push_offsets.ensures.capacity, c.make_offset_room.ensures.capacity);
    }

pub returns : goal.returns
returns c =
    let x = c.self.inside in
    let start : ℕ = get_or x.bucket_starts 1024 0 + get_or x.slack_before 32 0 in
    let kept : List ℕ = c.make_offset_room.new.order.items in
    let offsets : List ℕ = offsets_of (formals_read c.args.count c.args.list.now) in
    let inside : start + c.make_offset_room.new.given_up ≤ length kept = omega (arith, c.make_offset_room.ensures.inside, c.offsets_start-start.ensures, count_items c.make_offset_room.new.order) in
    let after : c.make_offset_room.new.given_up ≤ length (drop start kept) = omega (arith, length-drop start kept) in
    rw (← c.self.view_is) (arranged x.order.items _ _ _ _ x.given_up _ x.most_places _ _
    (same_places x.order.items _ _ _ start c.self.invariant.spaced (omega arith) (ap (take start) c.push_offsets.ensures.items ∙ (take-append-le start kept offsets (omega arith) ∙ rw c.offsets_start-start.ensures at c.make_offset_room.ensures.before)))
    (ap (λ (l : List ℕ). drop c.make_offset_room.new.given_up (drop start l)) c.push_offsets.ensures.items
    ∙ (ap (drop c.make_offset_room.new.given_up) (drop-append-le start kept offsets (omega arith))
    ∙ (drop-append-le c.make_offset_room.new.given_up (drop start kept) offsets after ∙ ap (λ (l : List ℕ). l ++ offsets) (rw c.offsets_start-start.ensures at c.make_offset_room.ensures.offsets))))
    (ap (λ (n : ℕ). n - places_room x.most_places) (c.push_offsets.ensures.capacity ∙ c.make_offset_room.ensures.capacity)))
