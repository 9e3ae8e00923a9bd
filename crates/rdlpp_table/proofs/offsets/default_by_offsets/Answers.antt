use Rattle.std.proofs.Common.{arith}
use Rattle.rdlpp_table.proofs.FormalOffsets.{alone_is, alone_whole, count_offsets, end_inside, end_ordered, sliced}
use Rattle.rdlpp_table.proofs.offsets.default_by_offsets.Goals as goal

pub offset_at-start-requires : goal.offset_at-start-requires
offset_at-start-requires c = omega (arith, count_offsets _ _ _ c.requires.listed c.requires.marked, c.requires.place)

pub end_by_offsets-requires-clause-whole : goal.end_by_offsets-requires-clause-whole
end_by_offsets-requires-clause-whole c = count_offsets _ _ _ c.requires.listed c.requires.marked

pub slice_bounds-default_in-count : goal.slice_bounds-default_in-count
slice_bounds-default_in-count c = omega (arith, end_ordered _ _ _ c.args.place c.requires.listed c.requires.marked c.requires.place, c.end_by_offsets.ensures, c.offset_at-start.ensures)

pub slice_bounds-default_in-start : goal.slice_bounds-default_in-start
slice_bounds-default_in-start c = grind (arith, end_ordered)

pub slice_bounds-default_in-end : goal.slice_bounds-default_in-end
slice_bounds-default_in-end c = grind (arith, end_inside)

pub default_in-requires : goal.default_in-requires
default_in-requires c = grind (arith, alone_whole, sliced)

pub returns : goal.returns
returns c = grind (arith, alone_is, sliced)
