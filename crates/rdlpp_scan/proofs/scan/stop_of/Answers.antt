use Rattle.std.proofs.Common.{arith, ◌∙◌, sym}
use Rattle.rdlpp_scan.proofs.StopKinds.{block_room, opened-most}
use Rattle.rdlpp_scan.proofs.scan.stop_of.Goals as goal

pub slice_bounds-string_stop-count : goal.slice_bounds-string_stop-count
slice_bounds-string_stop-count c = omega (arith, c.requires.some, c.opened-from.ensures, opened-most c.args.mode 1)

pub slice_bounds-string_stop-start : goal.slice_bounds-string_stop-start
slice_bounds-string_stop-start c = omega (arith, c.requires.some, c.opened-from.ensures, opened-most c.args.mode 1)

pub slice_bounds-comment_stop-count : goal.slice_bounds-comment_stop-count
slice_bounds-comment_stop-count c =
    let room = block_room c.args.mode c.args.bytes.now c.requires.some (sym c.requires.kind ∙ c.in-BlockComment.is) in
    omega (arith, room, c.opened-from-in-BlockComment.ensures)

pub slice_bounds-comment_stop-start : goal.slice_bounds-comment_stop-start
slice_bounds-comment_stop-start c =
    let room = block_room c.args.mode c.args.bytes.now c.requires.some (sym c.requires.kind ∙ c.in-BlockComment.is) in
    omega (arith, room, c.opened-from-in-BlockComment.ensures)
