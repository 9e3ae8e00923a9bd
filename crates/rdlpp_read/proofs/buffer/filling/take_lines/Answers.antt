use Rattle.std.proofs.Common.{length, ap, ◌∙◌}
use Rattle.rdlpp_read.specs.Buffer.{ahead_of}
use Rattle.rdlpp_read.proofs.BufferTokens.{compacts, compacts-ends, compacts-grows}
use Rattle.rdlpp_read.proofs.Growing.{fewer-turns, finds-ends, found-grows, search-goes-on, search-starts, stops-ends, stops-grows}
use Rattle.rdlpp_read.proofs.buffer.filling.take_lines.Goals as goal

pub reading-init : goal.reading-init
reading-init g c =
    let old = c.args.buffer.now in
    let moved = c.compact.new.self in
    let moves = compacts old moved c.compact.ensures.before.used c.compact.ensures.before.lines c.compact.ensures.becomes in
    search-starts g.S.Sources c.args.sources.now moved c.compact.ensures.sound.lines (compacts-ends old moved moves c.requires)

pub returns-in-Some-clause-grows : goal.returns-in-Some-clause-grows
returns-in-Some-clause-grows g c =
    let old = c.args.buffer.now in
    let moved = c.compact.new.self in
    let moves = compacts old moved c.compact.ensures.before.used c.compact.ensures.before.lines c.compact.ensures.becomes in
    let at = ap (λ f. f.at) c.compact.ensures.becomes in
    compacts-grows _ _ c.in-Some.fill old moved c.accept.new.self moves
    (found-grows _ _ c.in-Some.fill moved c.reading.buffer c.accept.new.self at c.reading.invariant.seeks c.reading.invariant.ends c.in-Some.ensures.buffer c.in-Some.ensures.found)

pub returns-in-Some-clause-ends : goal.returns-in-Some-clause-ends
returns-in-Some-clause-ends g c =
    finds-ends c.in-Some.fill c.reading.buffer c.accept.new.self (c.reading.invariant.seeks.at ∙ ap (λ f. f.at) c.compact.ensures.becomes) c.reading.invariant.ends c.in-Some.ensures.found

pub returns-in-Some-read_on-clause-grows : goal.returns-in-Some-read_on-clause-grows
returns-in-Some-read_on-clause-grows g c =
    let old = c.args.buffer.now in
    let moved = c.compact.new.self in
    let moves = compacts old moved c.compact.ensures.before.used c.compact.ensures.before.lines c.compact.ensures.becomes in
    let at = ap (λ f. f.at) c.compact.ensures.becomes in
    let more = c.in_default.ensures.more in
    let stops = rw more.0 at c.in-Some-read_on.ensures.turn in
    compacts-grows _ _ c.in-Some-read_on.fill old moved c.read_on.new.buffer moves
    (stops-grows _ _ g.S.Sources.unread c.in-Some-read_on.fill moved c.reading.buffer c.read_on.new.buffer at c.reading.invariant.seeks c.reading.invariant.call.has_known_texts more.1 stops)

pub returns-in-Some-read_on-clause-ends : goal.returns-in-Some-read_on-clause-ends
returns-in-Some-read_on-clause-ends g c =
    let more = c.in_default.ensures.more in
    let stops = rw more.0 at c.in-Some-read_on.ensures.turn in
    stops-ends _ _ c.in-Some-read_on.fill c.reading.buffer c.read_on.new.buffer more.2 c.reading.invariant.ends stops

pub reading-smaller : goal.reading-smaller
reading-smaller g c =
    let more = c.in_default.ensures.more in
    let reads = rw more.0 at c.in_default-read_on.ensures.turn in
    fewer-turns _ _ c.reading.buffer c.read_on.new.buffer reads more.2

pub reading-preserved : goal.reading-preserved
unfolding ahead_of
reading-preserved g c =
    let more = c.in_default.ensures.more in
    let reads = rw more.0 at c.in_default-read_on.ensures.turn in
    search-goes-on g.S.Sources c.args.sources.now c.reading.sources c.read_on.new.sources c.compact.new.self c.reading.buffer c.read_on.new.buffer c.reading.seen _
    c.reading.invariant more.1 more.2 reads c.in_default-read_on.ensures.call (ap length c.ahead-seen.ensures ∙ ap (λ f. length (ahead_of f)) more.0)
