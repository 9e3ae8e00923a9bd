use Rattle.std.proofs.Common.{◌+◌, ◌-◌, ◌/◌, ◌<◌, ◌∙◌, ℕ, length, arith, sym}
use Rattle.rdlpp_table.specs.Index.{IsMiddle}
use Rattle.rdlpp_table.proofs.Indexed.{compared_key, end_of_entry, entry_inside, in_bucket, index_length}
use Rattle.rdlpp_table.proofs.Orders.{start_seeking, seek_down, seek_found, seek_up}
use Rattle.rdlpp_table.proofs.Sizes.{no_entry}
use Rattle.rdlpp_table.proofs.index.seek.Goals as goal

-- the place that is looked at
abbrev halfway : ℕ → ℕ → ℕ
halfway low high = low + (high - low) / 2

half : (low high : ℕ) → low < high → IsMiddle low high (halfway low high)
half low high h = record { from = omega arith; to = omega arith; before = omega arith; following = omega arith }

pub loop-low-init : goal.loop-low-init
loop-low-init c = start_seeking _ _ _ _ _ _ _ _ c.requires.indexed.divided c.requires.bucket c.requires.small_bucket c.start-low.ensures c.start-high.ensures (omega (arith, index_length _ _ _ c.requires.indexed.index, c.requires.few))

pub place-requires-clause-at : goal.place-requires-clause-at
place-requires-clause-at c =
    let m = half c.loop-low.low c.loop-low.high c.loop-low-test.true in
    in_bucket _ _ _ _ _ c.requires.indexed.divided c.requires.small_bucket (omega (arith, c.loop-low.invariant.fits, m.to)) (c.loop-low.invariant.alike _ m.from m.to ∙ sym c.requires.bucket)

pub bounds-entries-place : goal.bounds-entries-place
bounds-entries-place c =
    let h : halfway c.loop-low.low c.loop-low.high < length c.args.index.now.places = omega (arith, c.loop-low.invariant.fits, (half c.loop-low.low c.loop-low.high c.loop-low-test.true).to) in
    omega (arith, entry_inside _ _ _ _ c.requires.indexed.index h, c.place.ensures)

pub name_in-name-requires : goal.name_in-name-requires
name_in-name-requires c =
    let h : halfway c.loop-low.low c.loop-low.high < length c.args.index.now.places = omega (arith, c.loop-low.invariant.fits, (half c.loop-low.low c.loop-low.high c.loop-low-test.true).to) in
    end_of_entry _ _ _ _ _ no_entry c.requires.within c.requires.indexed.index h c.place.ensures

pub loop-low-preserved-in-Less : goal.loop-low-preserved-in-Less
loop-low-preserved-in-Less c =
    let h : halfway c.loop-low.low c.loop-low.high < length c.args.index.now.places = omega (arith, c.loop-low.invariant.fits, (half c.loop-low.low c.loop-low.high c.loop-low-test.true).to) in
    seek_up _ _ _ _ _ _ _ _ _ c.requires.indexed.index c.loop-low.invariant c.loop-low-test.true (half c.loop-low.low c.loop-low.high c.loop-low-test.true)
    (compared_key _ _ _ _ _ _ _ _ _ c.requires.indexed.index h c.place.ensures c.name_in-name.ensures c.in-Less.ensures.order) c.in-Less.ensures.step

pub loop-low-preserved : goal.loop-low-preserved
loop-low-preserved c =
    let h : halfway c.loop-low.low c.loop-low.high < length c.args.index.now.places = omega (arith, c.loop-low.invariant.fits, (half c.loop-low.low c.loop-low.high c.loop-low-test.true).to) in
    seek_down _ _ _ _ _ _ _ _ _ c.requires.indexed.index c.loop-low.invariant c.loop-low-test.true (half c.loop-low.low c.loop-low.high c.loop-low-test.true)
    (compared_key _ _ _ _ _ _ _ _ _ c.requires.indexed.index h c.place.ensures c.name_in-name.ensures c.in-Greater.ensures.order) c.in-Greater.ensures.step

pub returns-in-Equal-clause-found : goal.returns-in-Equal-clause-found
returns-in-Equal-clause-found c =
    let h : halfway c.loop-low.low c.loop-low.high < length c.args.index.now.places = omega (arith, c.loop-low.invariant.fits, (half c.loop-low.low c.loop-low.high c.loop-low-test.true).to) in
    seek_found _ _ _ _ _ _ _ _ c.loop-low.invariant c.loop-low-test.true (half c.loop-low.low c.loop-low.high c.loop-low-test.true)
    (compared_key _ _ _ _ _ _ _ _ _ c.requires.indexed.index h c.place.ensures c.name_in-name.ensures c.in-Equal.ensures.order)

pub offset_bounds-entries-place : goal.offset_bounds-entries-place
offset_bounds-entries-place c =
    let h : halfway c.loop-low.low c.loop-low.high < length c.args.index.now.places = omega (arith, c.loop-low.invariant.fits, (half c.loop-low.low c.loop-low.high c.loop-low-test.true).to) in
    omega (arith, entry_inside _ _ _ _ c.requires.indexed.index h, c.place.ensures, c.requires.few)
