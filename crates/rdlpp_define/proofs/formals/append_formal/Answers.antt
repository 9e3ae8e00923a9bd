use Rattle.std.proofs.Common.{◌≡◌, ◌≤◌, ℕ, List, true, false, length, length-append, get_or, eqb, vec_capacity, Vec, Global, ap, ◌∙◌, arith, ne_eqb}
use Rattle.rdlpp_scan.specs.Continuations.{as_read}
use Rattle.rdlpp_define.proofs.Sizes.{count_items}
use Rattle.rdlpp_define.proofs.FormalLists.{IsMid, IsTold, told_is, told_default, mid_long, mid_short, mid_length, after_comma, after_other}
use Rattle.rdlpp_define.proofs.formals.append_formal.Goals as goal
use Rattle.rdlpp_define.proofs.formals.append_formal.Goals.{then-default-gt0, else-default-gt0, in-Some+else-b-eq44, in_default}

pub returns-in_err-default-clause-items : goal.returns-in_err-default-clause-items
returns-in_err-default-clause-items c = absurd (told_default _ _ _ c.first_part-part.ensures.part c.requires.good c.in_err-default.ensures.is)

pub returns-in_err-default-clause-following : goal.returns-in_err-default-clause-following
returns-in_err-default-clause-following c = absurd (told_default _ _ _ c.first_part-part.ensures.part c.requires.good c.in_err-default.ensures.is)

pub append_part-requires : goal.append_part-requires
append_part-requires c =
    let t : IsTold (as_read true c.args.text.now) c.first_part-part.result.name.now (as_read true c.in_ok-default.default.from.now) (as_read true c.in_ok-default.default.following.now) c.in_ok-default.default.size = (told_is _ _ _ _ _ _ c.first_part-part.ensures.part c.requires.good c.in_ok-default.ensures.is) in
    omega (arith, t.size_is, c.requires.room)

pub push_reserved-requires : goal.push_reserved-requires
push_reserved-requires c =
    let t : IsTold (as_read true c.args.text.now) c.first_part-part.result.name.now (as_read true c.in_ok-default.default.from.now) (as_read true c.in_ok-default.default.following.now) c.in_ok-default.default.size = (told_is _ _ _ _ _ _ c.first_part-part.ensures.part c.requires.good c.in_ok-default.ensures.is) in
    let named = length-append c.args.to.now.items c.first_part-part.result.name.now in
    omega (arith, t.size_is, c.requires.room, c.if-default-gt0.true, c.append_part.ensures.capacity, count_items c.append_part.new.to, count_items c.args.to.now, ap (length {A = ℕ}) c.append_part.ensures.items, named)

pub append_trimmed-requires-clause-len : goal.append_trimmed-requires-clause-len
append_trimmed-requires-clause-len c = (told_is _ _ _ _ _ _ c.first_part-part.ensures.part c.requires.good c.in_ok-default.ensures.is).len c.if-default-gt0.true

pub append_trimmed-requires-clause-room : goal.append_trimmed-requires-clause-room
append_trimmed-requires-clause-room c =
    let t : IsTold (as_read true c.args.text.now) c.first_part-part.result.name.now (as_read true c.in_ok-default.default.from.now) (as_read true c.in_ok-default.default.following.now) c.in_ok-default.default.size = (told_is _ _ _ _ _ _ c.first_part-part.ensures.part c.requires.good c.in_ok-default.ensures.is) in
    let named = length-append c.args.to.now.items c.first_part-part.result.name.now in
    omega (arith, t.size_is, c.requires.room, c.if-default-gt0.true, c.append_part.ensures.capacity, count_items c.append_part.new.to, count_items c.args.to.now, ap (length {A = ℕ}) c.append_part.ensures.items, named, c.push_reserved.ensures.len, c.push_reserved.ensures.capacity)

pub push_reserved-requires-2 : goal.push_reserved-requires-2
push_reserved-requires-2 c =
    let t : IsTold (as_read true c.args.text.now) c.first_part-part.result.name.now (as_read true c.in_ok-default.default.from.now) (as_read true c.in_ok-default.default.following.now) c.in_ok-default.default.size = (told_is _ _ _ _ _ _ c.first_part-part.ensures.part c.requires.good c.in_ok-default.ensures.is) in
    let mid : IsMid (as_read true c.args.text.now) c.args.to.now.items c.if-default-gt0.to.items = elim c.if-default-gt0.branch [
      | then-default-gt0 w ↦ mid_long _ _ _ _ _ _ _ _ _ t w.if-default-gt0.true c.append_part.ensures.items w.push_reserved.ensures.items (ap (λ (v : Vec ℕ Global). v.items) w.to-is ∙ w.append_trimmed.ensures.items)
      | else-default-gt0 w ↦ mid_short _ _ _ _ _ _ _ t (let z : c.in_ok-default.default.size ≡ 0 = omega (arith, w.if-default-gt0.false) in z) (ap (λ (v : Vec ℕ Global). v.items) w.to-is ∙ c.append_part.ensures.items)
    ] in
    let room : vec_capacity c.args.to.now ≤ vec_capacity c.if-default-gt0.to = elim c.if-default-gt0.branch [
      | then-default-gt0 w ↦ omega (arith, c.append_part.ensures.capacity, w.push_reserved.ensures.capacity, w.append_trimmed.ensures.capacity, ap (λ (v : Vec ℕ Global). vec_capacity v) w.to-is)
      | else-default-gt0 w ↦ omega (arith, c.append_part.ensures.capacity, ap (λ (v : Vec ℕ Global). vec_capacity v) w.to-is)
    ] in
    omega (arith, mid_length _ _ _ mid, room, c.requires.room, count_items c.if-default-gt0.to, count_items c.args.to.now)

pub returns-then-b-eq44-clause-items : goal.returns-then-b-eq44-clause-items
returns-then-b-eq44-clause-items c =
    let t : IsTold (as_read true c.args.text.now) c.first_part-part.result.name.now (as_read true c.in_ok-default.default.from.now) (as_read true c.in_ok-default.default.following.now) c.in_ok-default.default.size = (told_is _ _ _ _ _ _ c.first_part-part.ensures.part c.requires.good c.in_ok-default.ensures.is) in
    let mid : IsMid (as_read true c.args.text.now) c.args.to.now.items c.if-default-gt0.to.items = elim c.if-default-gt0.branch [
      | then-default-gt0 w ↦ mid_long _ _ _ _ _ _ _ _ _ t w.if-default-gt0.true c.append_part.ensures.items w.push_reserved.ensures.items (ap (λ (v : Vec ℕ Global). v.items) w.to-is ∙ w.append_trimmed.ensures.items)
      | else-default-gt0 w ↦ mid_short _ _ _ _ _ _ _ t (let z : c.in_ok-default.default.size ≡ 0 = omega (arith, w.if-default-gt0.false) in z) (ap (λ (v : Vec ℕ Global). v.items) w.to-is ∙ c.append_part.ensures.items)
    ] in
    c.push_reserved-2.ensures.items ∙ mid.whole

pub returns-then-b-eq44-clause-following : goal.returns-then-b-eq44-clause-following
returns-then-b-eq44-clause-following c = after_comma _ _ _ _ (told_is _ _ _ _ _ _ c.first_part-part.ensures.part c.requires.good c.in_ok-default.ensures.is).after_is c.in-Some.ensures.0 c.if-b-eq44.true

pub returns-clause-items : goal.returns-clause-items
returns-clause-items c =
    let t : IsTold (as_read true c.args.text.now) c.first_part-part.result.name.now (as_read true c.in_ok-default.default.from.now) (as_read true c.in_ok-default.default.following.now) c.in_ok-default.default.size = (told_is _ _ _ _ _ _ c.first_part-part.ensures.part c.requires.good c.in_ok-default.ensures.is) in
    let mid : IsMid (as_read true c.args.text.now) c.args.to.now.items c.if-default-gt0.to.items = elim c.if-default-gt0.branch [
      | then-default-gt0 w ↦ mid_long _ _ _ _ _ _ _ _ _ t w.if-default-gt0.true c.append_part.ensures.items w.push_reserved.ensures.items (ap (λ (v : Vec ℕ Global). v.items) w.to-is ∙ w.append_trimmed.ensures.items)
      | else-default-gt0 w ↦ mid_short _ _ _ _ _ _ _ t (let z : c.in_ok-default.default.size ≡ 0 = omega (arith, w.if-default-gt0.false) in z) (ap (λ (v : Vec ℕ Global). v.items) w.to-is ∙ c.append_part.ensures.items)
    ] in
    c.push_reserved-2.ensures.items ∙ mid.whole

pub returns-clause-following : goal.returns-clause-following
returns-clause-following c =
    let other : eqb (get_or (as_read true c.in_ok-default.default.following.now) 0 0) 44 ≡ false = elim c.match-split_first.branch [
      | in-Some+else-b-eq44 w ↦ ap (λ (x : List ℕ). eqb (get_or x 0 0) 44) w.in-Some.ensures.0 ∙ ne_eqb _ _ w.if-b-eq44.false
      | in_default w ↦ ap (λ (x : List ℕ). eqb (get_or x 0 0) 44) w.in_default.ensures
    ] in
    after_other _ _ (told_is _ _ _ _ _ _ c.first_part-part.ensures.part c.requires.good c.in_ok-default.ensures.is).after_is other
