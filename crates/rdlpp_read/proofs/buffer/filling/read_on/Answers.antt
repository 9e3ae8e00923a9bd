use Rattle.std.proofs.Common.{◌≡◌, ◌≤◌, ◌<◌, length, take, drop, sym, ◌∙◌, arith, rules, vec_len, length-take, length-drop}
use Rattle.rdlpp_read.proofs.Growing.{ended_turn, failed_turn, gained_turn, none_left, window_after}
use Rattle.rdlpp_read.proofs.buffer.filling.read_on.Goals as goal

pub returns-in-Ok-eq0-clause-turn : goal.returns-in-Ok-eq0-clause-turn
returns-in-Ok-eq0-clause-turn g c =
    let filled = c.buffer.inside.filled in
    let old = c.buffer.inside.bytes.items in
    let new = c.read_into.new.buffer.items in
    let inside : filled ≤ vec_len c.buffer.inside.bytes = c.buffer.invariant.2 in
    let kept : take filled new ≡ take filled old = c.read_into.ensures.kept ∙ c.make_room.ensures.kept in
    let ended = c.take.ensures.after in
    let whole : filled ≤ length old = search rules in
    let size : length new ≡ vec_len c.read_into.new.buffer = search rules in
    let room : filled < vec_len c.make_room.new.bytes = c.make_room.ensures.room (omega (arith, length-take filled old)) in
    let same : vec_len c.read_into.new.buffer ≡ vec_len c.make_room.new.bytes = c.read_into.ensures.len in
    rw (← c.buffer.view_is) (ended_turn _ _ _ _ c.unwrap-reader.result
    (sym c.take.ensures.value ∙ c.unwrap-reader.ensures)
    (cc)
    (λ t. none_left _ _ _ _ (c.in-Ok-eq0.ensures.bytes t) c.in-Ok-eq0.field-0-test (omega (arith, length-take filled old, length-drop filled new)))
    (omega (arith, length-take filled old)))

pub returns-in-Ok-clause-turn : goal.returns-in-Ok-clause-turn
returns-in-Ok-clause-turn g c =
    let filled = c.buffer.inside.filled in
    let old = c.buffer.inside.bytes.items in
    let new = c.read_into.new.buffer.items in
    let gained = take c.in-Ok.len (drop filled new) in
    let inside : filled ≤ vec_len c.buffer.inside.bytes = c.buffer.invariant.2 in
    let window = c.make_room-in-Ok.ensures.kept ∙ window_after filled c.in-Ok.len old new (c.read_into.ensures.kept ∙ c.make_room.ensures.kept) in
    let same : vec_len c.read_into.new.buffer ≡ vec_len c.make_room.new.bytes = c.read_into.ensures.len in
    let within : vec_len c.make_room.new.bytes ≤ c.buffer.inside.line_bytes = c.make_room.ensures.within in
    let size : length new ≡ vec_len c.read_into.new.buffer = search rules in
    let bound = c.in-Ok.ensures.bound in
    let some = c.in-Ok.len-test.1 in
    rw (← c.buffer.view_is) (gained_turn _ _ _ _ c.unwrap-reader.result c.read_into.new.reader gained
    (sym c.take.ensures.value ∙ c.unwrap-reader.ensures)
    (cc)
    (omega (arith, length-take c.in-Ok.len (drop filled new), length-drop filled new))
    (λ t. (c.in-Ok.ensures.bytes t).0)
    (omega (arith, length-take filled old, length-take c.in-Ok.len (drop filled new))))

pub returns-in-Err-clause-turn : goal.returns-in-Err-clause-turn
returns-in-Err-clause-turn g c =
    let filled = c.buffer.inside.filled in
    let inside : filled ≤ vec_len c.buffer.inside.bytes = c.buffer.invariant.2 in
    let kept : take filled c.read_into.new.buffer.items ≡ take filled c.buffer.inside.bytes.items = c.read_into.ensures.kept ∙ c.make_room.ensures.kept in
    rw (← c.buffer.view_is) (failed_turn _ _ _ _ c.unwrap-reader.result c.read_into.new.reader
    (sym c.take.ensures.value ∙ c.unwrap-reader.ensures)
    (cc)
    (λ t. c.in-Err.ensures.bytes t))
