use Rattle.std.proofs.Common.{◌≡◌, false, take}
use Rattle.rdlpp_scan.specs.KeptText.{trims, without_end}
use Rattle.rdlpp_scan.proofs.one_piece.unblanked_len.Given as goal

abbrev pub invariant-loop-at : goal.invariant-loop-at
invariant-loop-at l = without_end (trims false) l.text ≡ without_end (trims false) (take l.at l.text)
