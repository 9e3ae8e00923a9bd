use Rattle.std.proofs.Common.{◌≡◌, length}
use Rattle.rdlpp_expand.specs.Reading.{reading_left}
use Rattle.rdlpp_c.specs.Answer.{text_sources}
use Rattle.rdlpp_c.proofs.Outputs.{PassesOver}
use Rattle.rdlpp_c.proofs.output.count_rest.Given as goal

abbrev pub invariant-loop-ending : goal.invariant-loop-ending
invariant-loop-ending l = record {
  room : length l.counted ≡ 4096;
  passed : PassesOver l.initial.reading l.reading l.before l.count;
}

abbrev pub decreases-loop-ending : goal.decreases-loop-ending
decreases-loop-ending l = length (reading_left text_sources l.reading).bytes
