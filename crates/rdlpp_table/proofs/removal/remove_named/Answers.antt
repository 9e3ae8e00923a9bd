use Rattle.std.proofs.Common.{◌∙◌, Some, ap, arith, sym}
use Rattle.rdlpp_table.specs.IndexView.{IndexView}
use Rattle.rdlpp_define.proofs.Sizes.{count_items}
use Rattle.rdlpp_table.proofs.RoundTrip.{stored_without, stored_nowhere}
use Rattle.rdlpp_table.proofs.Indexed.{entry_inside, found_gap, found_place, gap_without, left_nowhere, left_without, offsets_nowhere, offsets_without, place_in_bucket, sooner_more}
use Rattle.rdlpp_table.proofs.Orders.{indexed_gap, indexed_place}
use Rattle.rdlpp_table.proofs.removal.remove_named.Goals as goal

pub leave-place-requires-clause-at : goal.leave-place-requires-clause-at
leave-place-requires-clause-at c = place_in_bucket _ _ _ _ _ _ c.requires.indexed.divided (found_place _ _ _ _ _ c.in-Ok.is c.requires.found) c.requires.bucket c.requires.small_bucket

pub leave-place-requires-clause-some : goal.leave-place-requires-clause-some
leave-place-requires-clause-some c =
    let p = found_place _ _ _ _ _ c.in-Ok.is c.requires.found in
    sooner_more _ _ _ _ _ _ c.requires.indexed.divided p (place_in_bucket _ _ _ _ _ _ c.requires.indexed.divided p c.requires.bucket c.requires.small_bucket) c.requires.bucket

pub remove_at-requires-clause-place : goal.remove_at-requires-clause-place
remove_at-requires-clause-place c =
    let p = found_place _ _ _ _ _ c.in-Ok.is c.requires.found in
    omega (arith, c.leave-place.ensures.value, entry_inside _ _ _ _ c.requires.indexed.index p.inside, count_items c.args.entries.now)

pub remove_at-requires-clause-marked : goal.remove_at-requires-clause-marked
remove_at-requires-clause-marked c = c.leave-place.ensures.leaves.formal_offsets ∙ c.requires.marked

pub returns-in-Ok-clause-room : goal.returns-in-Ok-clause-room
returns-in-Ok-clause-room c = ap (λ (v : IndexView). v.room) c.remove_at.ensures.index ∙ c.leave-place.ensures.leaves.room

pub returns-in-Ok-clause-stored : goal.returns-in-Ok-clause-stored
returns-in-Ok-clause-stored c =
    let p = found_place _ _ _ _ _ c.in-Ok.is c.requires.found in
    stored_without _ _ _ _ _ c.requires.distinct (indexed_place _ _ _ _ c.requires.indexed.index p ∙ ap Some (sym c.leave-place.ensures.value)) c.remove_at.ensures.stored

pub returns-in-Ok-clause-indexed : goal.returns-in-Ok-clause-indexed
returns-in-Ok-clause-indexed c =
    let p = found_place _ _ _ _ _ c.in-Ok.is c.requires.found in
    rw c.remove_at.ensures.index (left_without _ _ _ _ _ _ _ _ _ c.requires.distinct c.requires.indexed p c.leave-place.ensures.value c.leave-place.ensures.leaves.places c.requires.bucket c.leave-place.ensures.leaves.bucket_starts)

pub returns-in-Ok-clause-gap : goal.returns-in-Ok-clause-gap
returns-in-Ok-clause-gap c =
    let p = found_place _ _ _ _ _ c.in-Ok.is c.requires.found in
    rw c.remove_at.ensures.index (gap_without _ _ _ _ _ _ _ _ c.requires.distinct c.requires.indexed.index p c.leave-place.ensures.value c.leave-place.ensures.leaves.places
    (stored_without _ _ _ _ _ c.requires.distinct (indexed_place _ _ _ _ c.requires.indexed.index p ∙ ap Some (sym c.leave-place.ensures.value)) c.remove_at.ensures.stored))

pub returns-in-Ok-clause-marked : goal.returns-in-Ok-clause-marked
returns-in-Ok-clause-marked c =
    let p = found_place _ _ _ _ _ c.in-Ok.is c.requires.found in
    ap (λ (v : IndexView). v.formal_offsets) c.remove_at.ensures.index ∙ offsets_without _ _ _ c.requires.distinct (indexed_place _ _ _ _ c.requires.indexed.index p ∙ ap Some (sym c.leave-place.ensures.value))

pub returns-in-Err-clause-stored : goal.returns-in-Err-clause-stored
returns-in-Err-clause-stored c =
    stored_nowhere _ _ _ _ (indexed_gap _ _ _ _ c.requires.indexed.index (found_gap _ _ _ _ _ c.in-Err.is c.requires.found)) c.requires.stored

pub returns-in-Err-clause-indexed : goal.returns-in-Err-clause-indexed
returns-in-Err-clause-indexed c =
    left_nowhere _ _ _ _ (indexed_gap _ _ _ _ c.requires.indexed.index (found_gap _ _ _ _ _ c.in-Err.is c.requires.found)) c.requires.indexed

pub returns-in-Err-clause-marked : goal.returns-in-Err-clause-marked
returns-in-Err-clause-marked c =
    c.requires.marked ∙ offsets_nowhere _ _ (indexed_gap _ _ _ _ c.requires.indexed.index (found_gap _ _ _ _ _ c.in-Err.is c.requires.found))

pub returns-in-Err-clause-gap : goal.returns-in-Err-clause-gap
returns-in-Err-clause-gap c = (found_gap _ _ _ _ _ c.in-Err.is c.requires.found)
