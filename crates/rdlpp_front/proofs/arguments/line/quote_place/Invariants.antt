use Rattle.std.proofs.Common.{◌≡◌, false, drop}
use Rattle.rdlpp_meaning.specs.Meaning.{quote_place}
use Rattle.rdlpp_front.proofs.LineArguments.{moved}
use Rattle.rdlpp_front.proofs.arguments.line.quote_place.Given as goal

abbrev pub invariant-loop-place : goal.invariant-loop-place
invariant-loop-place l = moved l.place (quote_place l.taken (drop l.place l.bytes)) ≡ quote_place false l.bytes
