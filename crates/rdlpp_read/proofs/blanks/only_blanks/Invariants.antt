use Rattle.std.proofs.Common.{◌≡◌, take}
use Rattle.rdlpp_meaning.specs.Parts.{only_blanks}
use Rattle.rdlpp_read.proofs.blanks.only_blanks.Given as goal

abbrev pub invariant-loop-at : goal.invariant-loop-at
invariant-loop-at l = only_blanks l.first l.bytes ≡ only_blanks l.first (take l.at l.bytes)
