-- Parts of pieces are read, one after the other, until the buffer is full, the map's has no room for a line, or the output ends.
use Rattle.std.proofs.Common.{◌≡◌, ◌-◌, ◌⊎◌, length, true, refl, sym, ◌∙◌, arith, inl, inr, is_some}
use Rattle.rdlpp_expand.proofs.Readings.{given_none}
use Rattle.rdlpp_c.specs.Streaming.{owned_sources}
use Rattle.rdlpp_c.proofs.Quiet.{lines_going, lines_stopped, only_more, part_goes_on, part_into, put_length, whole_put}
use Rattle.rdlpp_c.proofs.mapping.read_lines.Goals.{then-is_some-via-then-is_some, then-is_some-via-else-is_some+then-read-eq0}
use Rattle.rdlpp_c.proofs.mapping.read_lines.Goals as goal

pub loop-len-init : goal.loop-len-init
loop-len-init c = record { given = given_none owned_sources c.args.stream.now.reading c.args.out.now; only = refl; inside = omega arith; map = omega arith; left = omega arith }

pub loop-len-preserved : goal.loop-len-preserved
loop-len-preserved c =
    let part = part_into c.loop-len.stream c.read_part-read.new.stream c.loop-len.out c.read_part-read.new.out c.loop-len.len c.read_part-read.result.part.len
    c.read_part-read.result.part.ending c.read_part-read.ensures.part in
    let given = part_goes_on c.args.stream.now c.loop-len.stream c.read_part-read.new.stream c.args.out.now c.loop-len.out _ c.read_part-read.new.out c.loop-len.len
    c.read_part-read.result.part.len c.read_part-read.result.part.ending c.loop-len.invariant.given part (whole_put c.loop-len.len c.loop-len.out c.read_part-read.new.out)
    (sym c.is_some.ensures ∙ c.if-is_some.false) in
    record {
      given = given;
      only = only_more c.args.stream.now c.loop-len.stream c.read_part-read.new.stream c.loop-len.invariant.only part.only;
      inside = given.inside;
      map = put_length c.loop-len.map_len c.read_part-read.result.map_len c.loop-len.map c.read_part-read.new.map c.loop-len.invariant.map c.read_part-read.ensures.map;
      left = omega (arith, c.loop-len.invariant.left, c.read_part-read.ensures.left);
    }

pub read_part-read-requires-clause-left : goal.read_part-read-requires-clause-left
read_part-read-requires-clause-left c = c.loop-len.invariant.left

pub returns-then-is_some-clause-lines : goal.returns-then-is_some-clause-lines
returns-then-is_some-clause-lines c =
    let part = part_into c.loop-len.stream c.read_part-read.new.stream c.loop-len.out c.read_part-read.new.out c.loop-len.len c.read_part-read.result.part.len
    c.read_part-read.result.part.ending c.read_part-read.ensures.part in
    let why : (is_some c.read_part-read.result.part.ending ≡ true) ⊎ (c.read_part-read.result.part.len ≡ 0) =
    elim c.then-is_some.branch [
      | then-is_some-via-then-is_some w ↦ inl (sym c.is_some.ensures ∙ w.if-is_some.true)
      | then-is_some-via-else-is_some+then-read-eq0 w ↦ inr w.if-read-eq0.true
    ] in
    lines_stopped c.args.stream.now c.loop-len.stream c.read_part-read.new.stream c.args.out.now c.loop-len.out _ c.read_part-read.new.out c.loop-len.len
    c.read_part-read.result.part.len _ c.read_part-read.result.part.ending c.loop-len.invariant.given c.loop-len.invariant.only part
    (whole_put c.loop-len.len c.loop-len.out c.read_part-read.new.out) c.loop-len-test.true why

pub returns-else-map-map_len-ge-MAP_ROOM-clause-lines : goal.returns-else-map-map_len-ge-MAP_ROOM-clause-lines
returns-else-map-map_len-ge-MAP_ROOM-clause-lines c =
    lines_going c.args.stream.now c.loop-len.stream c.args.out.now c.loop-len.out c.loop-len.len (length c.args.map.now - c.loop-len.map_len) c.loop-len.invariant.given (inr (inl (omega arith))) c.loop-len.invariant.only

pub returns-after-loop-len-clause-lines : goal.returns-after-loop-len-clause-lines
returns-after-loop-len-clause-lines c =
    lines_going c.args.stream.now c.loop-len.stream c.args.out.now c.loop-len.out c.loop-len.len (length c.args.map.now - c.loop-len.map_len) c.loop-len.invariant.given (inl (omega arith)) c.loop-len.invariant.only
