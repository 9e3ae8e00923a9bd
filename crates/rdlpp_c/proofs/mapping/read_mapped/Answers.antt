-- The search that asked is made again, then parts of pieces are read, and that is told.
use Rattle.std.proofs.Common.{ℕ, ◌-◌, length, sym, ap, subst}
use Rattle.rdlpp_c.specs.Streaming.{StaysQuiet}
use Rattle.rdlpp_c.specs.declared.mapping.Mapped.{Mapped}
use Rattle.rdlpp_c.specs.declared.telling.Outcome.{Outcome as Numbers}
use Rattle.rdlpp_c.proofs.Quiet.{maps_open, maps_quietly}
use Rattle.rdlpp_c.proofs.mapping.read_mapped.Goals as goal

pub returns-clause-reads : goal.returns-clause-reads
returns-clause-reads c =
    maps_open (length c.args.map.now) (length c.args.map.now - c.read_lines-read.result.map_len) _ (record { out = c.args.out.now; name = c.args.name.now; word = c.args.word.now })
    (record { out = c.read_lines-read.new.out; name = c.told_read.new.name; word = c.told_read.new.word }) c.args.stream.now c.take_up.new.self c.read_lines-read.new.stream
    c.read_lines-read.result.part.len c.read_lines-read.result.part.ending c.told_read.result _ c.if-map-lt-MAP_ROOM.false
    (ap (λ (k : ℕ). length c.args.map.now - k) (ap (λ (m : Mapped). m.map_length) c.mapped_of-2.ensures)) (ap (λ (m : Mapped). m.outcome) c.mapped_of-2.ensures)
    c.take_up.ensures c.read_lines-read.ensures.lines c.told_read.ensures

pub returns-clause-quiet : goal.returns-clause-quiet
returns-clause-quiet c quiet =
    subst (λ (n : Numbers). StaysQuiet c.read_lines-read.new.stream n) (sym (ap (λ (m : Mapped). m.outcome) c.mapped_of-2.ensures))
    (maps_quietly c.args.stream.now c.take_up.new.self c.read_lines-read.new.stream c.args.out.now c.read_lines-read.new.out c.read_lines-read.result.part.len
    (length c.args.map.now - c.read_lines-read.result.map_len) c.read_lines-read.result.part.ending _ _ c.told_read.result c.take_up.ensures c.read_lines-read.ensures.lines c.told_read.ensures quiet)
