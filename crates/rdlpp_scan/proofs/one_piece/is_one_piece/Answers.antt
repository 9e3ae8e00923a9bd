use Rattle.std.proofs.Common.{sym}
use Rattle.rdlpp_scan.proofs.Measures.{piece_none, piece_some}
use Rattle.rdlpp_scan.proofs.one_piece.is_one_piece.Goals as goal

pub returns-in-None : goal.returns-in-None
returns-in-None c = sym (piece_none c.args.text.now c.in-None.ensures)

pub returns-in-Some : goal.returns-in-Some
returns-in-Some c = sym (piece_some c.args.text.now _ c.in-Some.ensures.0.high c.in-Some.ensures.1)
